-- From the firings of an actor's entries to the law of replies.
use Rattle.std.proofs.Common.{◌≡◌, ℕ, zero, suc, ◌+◌, ◌≤◌, List, [], ◌∷◌, ◌++◌, length, map, Bool, true, false, Option, None, Some, refl, ap, sym, subst, arith, slice_get}
use Rattle.std.specs.Prelude.{◌==◌, if◌then◌else◌}
use Rattle.std.specs.List.{AllByRecursion}
use Rattle.guard_eval.proofs.ReadyLemmas.{each_at}
use Rattle.script_types.specs.declared.plan.ActorPlan.{ActorPlan}
use Rattle.script_types.specs.declared.plan.Plan.{Plan}
use Rattle.script_types.specs.Typed.{IsTyped, IsTypedActor, IsTypedRule, kind_types}
use Rattle.fair_semantics.specs.declared.run.ActorRun.{ActorRun}
use Rattle.fair_semantics.specs.declared.run.Entry.{Entry}
use Rattle.fair_semantics.specs.declared.run.Firing.{Firing}
use Rattle.fair_semantics.specs.Fair.{fair, rules_of, run_of, setting_of}
use Rattle.fair_semantics.specs.Linked.{given, unstamped, unstamped_entry}
use Rattle.fair_semantics.specs.Step.{State, opening}
use Rattle.run_laws.specs.Replies.{FairTakesOnce, LinkedTakesOnce, TakesOnce, replied_in, replies_of, taken_by, taken_in, times}
use Rattle.run_laws.proofs.OnceLemmas.{IsOnce, RepliesAmong, all_once, opening_once}
use Rattle.run_laws.proofs.TimesLemmas.{times-append}

rules_typed : (plan : Plan) (actor : ℕ) → IsTyped plan → AllByRecursion (IsTypedRule (length plan.actors) (kind_types plan.kinds)) (rules_of (slice_get plan.actors actor))
rules_typed plan actor typed = by (slice_get plan.actors actor) refl
  where
    by : (o : Option ActorPlan) → slice_get plan.actors actor ≡ o → AllByRecursion (IsTypedRule (length plan.actors) (kind_types plan.kinds)) (rules_of o)
    by None e = tt
    by (Some own) e = (each_at (IsTypedActor (length plan.actors) (kind_types plan.kinds)) plan.actors actor own e typed.actors).each

replies_among : (n : ℕ) (entries : List Entry) → AllByRecursion RepliesAmong entries → times n (replied_in entries) ≤ times n (taken_in entries)
replies_among n [] each = omega arith
replies_among n (e ∷ entries) each =
    let replied = times-append n (replies_of e.firing) (replied_in entries) in
    let taken = times-append n (taken_by e.firing) (taken_in entries) in
    let later = replies_among n entries each.1 in
    omega (arith, each.0 n)

takes_once : (state : State) → IsOnce state → TakesOnce state.entries
takes_once state h = record {
  taken = λ n. omega (arith, h.once n);
  among = λ n. replies_among n state.entries h.replies;
  replied = λ n. omega (arith, h.once n, replies_among n state.entries h.replies);
  back = λ place entry n there l. omega (arith, (each_at RepliesAmong state.entries place entry there h.replies) n, h.back place entry n there l);
}

pub fair_takes_once : FairTakesOnce
fair_takes_once plan actor limits feeds sent typed =
    takes_once (fair plan actor limits feeds sent)
    (all_once (setting_of plan actor limits) (length plan.actors) (kind_types plan.kinds) (rules_typed plan actor typed) sent (opening feeds (length plan.actors)) (opening_once feeds (length plan.actors)))

-- ---- in either version

same_taken : (entries : List Entry) → taken_in (map unstamped_entry entries) ≡ taken_in entries
same_taken [] = refl
same_taken (e ∷ entries) = ap (λ (ns : List ℕ). taken_by e.firing ++ ns) (same_taken entries)

same_replied : (entries : List Entry) → replied_in (map unstamped_entry entries) ≡ replied_in entries
same_replied [] = refl
same_replied (e ∷ entries) = ap (λ (ns : List ℕ). replies_of e.firing ++ ns) (same_replied entries)

unmapped : (entries : List Entry) (place : ℕ) (x : Entry) → slice_get (map unstamped_entry entries) place ≡ Some x → (e : Entry) × (slice_get entries place ≡ Some e) × (e.firing ≡ x.firing)
unmapped [] place x h = absurd cc
unmapped (e ∷ entries) zero x h = let same : unstamped_entry e ≡ x = cc in (e, refl, ap (λ (y : Entry). y.firing) same)
unmapped (e ∷ entries) (suc place) x h = unmapped entries place x h

without_stamps : (entries : List Entry) → TakesOnce entries → TakesOnce (map unstamped_entry entries)
without_stamps entries h =
    let taken : (n : ℕ) → times n (taken_in (map unstamped_entry entries)) ≡ times n (taken_in entries) = λ n. ap (times n) (same_taken entries) in
    let replied : (n : ℕ) → times n (replied_in (map unstamped_entry entries)) ≡ times n (replied_in entries) = λ n. ap (times n) (same_replied entries) in
    record {
      taken = λ n. omega (arith, taken n, h.taken n);
      among = λ n. omega (arith, taken n, replied n, h.among n);
      replied = λ n. omega (arith, replied n, h.replied n);
      back = λ place x n there l.
          let (e, at, same) = unmapped entries place x there in
          subst (λ (f : Option Firing). times n (replies_of f) ≡ 0) same (h.back place e n at l);
    }

pub linked_takes_once : LinkedTakesOnce
linked_takes_once plan limits feeds run typed linked actor own there = by (run.version == 1) (linked.each actor own there).fair
  where
    state : State
    state = fair plan actor limits run.feeds (given plan feeds run actor own.entries)

    shown : ActorRun
    shown = run_of (setting_of plan actor limits).rules state

    once : TakesOnce state.entries
    once = fair_takes_once plan actor limits run.feeds (given plan feeds run actor own.entries) typed

    by : (b : Bool) → own ≡ (if b then unstamped shown else shown) → TakesOnce own.entries
    by true e = subst TakesOnce (sym (ap (λ (x : ActorRun). x.entries) e)) (without_stamps state.entries once)
    by false e = subst TakesOnce (sym (ap (λ (x : ActorRun). x.entries) e)) once
