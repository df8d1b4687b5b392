-- In a linked run with stamps each stamp but 1 is 1 more than another, and so none is greater than the number of
-- arrivals.
use Rattle.std.proofs.Common.{◌≡◌, ◌∙◌, ◌⊎◌, inl, inr, ℕ, zero, suc, ◌+◌, ◌<◌, ◌≤◌, max, List, [], ◌∷◌, ◌++◌, length, map, Bool, true, false, cond, Option, None, Some, slice_get, refl, ap, sym, subst, arith}
use Rattle.std.specs.Prelude.{if◌then◌else◌, nat_le, ◌==◌}
use Rattle.std.specs.List.Sorted.{IsStrictlyIncreasing}
use Rattle.std.specs.List.{cons_option, filter_map, flat_map}
use Rattle.std.proofs.lemmas.List.{length-map}
use Rattle.std.proofs.lemmas.Bool.{cases_lt}
use Rattle.std.proofs.lemmas.Bool.Decides.{nat_tests}
use Rattle.join_base.specs.declared.message.Message.{Message}
use Rattle.join_base.specs.declared.message.Stamped.{Stamped}
use Rattle.join_base.specs.declared.message.Source.{Source}
use Rattle.join_base.specs.declared.message.Source.TheVariants.{Feed, Actor}
use Rattle.pattern_core.specs.Members.{IsIn}
use Rattle.pattern_core.proofs.MembersLemmas.{IsIn-flat_map, IsIn-flat_map_from, IsIn-map, IsIn-map_from}
use Rattle.script_types.specs.declared.plan.Plan.{Plan}
use Rattle.fair_semantics.specs.declared.run.Limits.{Limits}
use Rattle.fair_semantics.specs.declared.run.Effect.{Effect}
use Rattle.fair_semantics.specs.declared.run.Effect.TheVariants as effect
use Rattle.fair_semantics.specs.declared.run.Entry.{Entry}
use Rattle.fair_semantics.specs.declared.run.ActorRun.{ActorRun}
use Rattle.fair_semantics.specs.declared.run.Run.{Run}
use Rattle.fair_semantics.specs.Fair.{Sent, fair_run, setting_of}
use Rattle.fair_semantics.specs.Step.{opening}
use Rattle.fair_semantics.specs.Linked.{arrived_after, effect_for, entry_posts, firing_effects, given, in_version, posts_in, posts_of, stamp_at, taken_from, IsLinkedActor}
use Rattle.fair_semantics.specs.StampLaw.{StampsAreFew, StampsFollow, StampsRise, arrivals_of}
use Rattle.fair_semantics.proofs.ChainLemmas.{Records, adds}
use Rattle.fair_semantics.proofs.LinkedLemmas.{feed_unstamped}

-- ---- lists of numbers

abbrev pub one_where : Bool → ℕ
one_where b = cond b 1 0

-- how many of the numbers are at most this one
abbrev pub count_to : ℕ → List ℕ → ℕ
count_to n [] = 0
count_to n (x ∷ xs) = one_where (nat_le x n) + count_to n xs

pub count_to-length : (n : ℕ) (xs : List ℕ) → count_to n xs ≤ length xs
count_to-length n [] = omega arith
count_to-length n (x ∷ xs) = by (nat_le x n) (count_to-length n xs)
  where
    by : (b : Bool) → count_to n xs ≤ length xs → one_where b + count_to n xs ≤ suc (length xs)
    by true h = omega arith
    by false h = omega arith

one_at_most : (x n : ℕ) → one_where (nat_le x n) ≤ one_where (nat_le x (suc n))
one_at_most x n = by (nat_le x n) (nat_le x (suc n)) refl refl
  where
    by : (a b : Bool) → nat_le x n ≡ a → nat_le x (suc n) ≡ b → one_where a ≤ one_where b
    by true true p q = omega arith
    by false b p q = omega arith
    by true false p q = absurd (grind (arith, nat_tests))

count_to-more : (n : ℕ) (xs : List ℕ) → count_to n xs ≤ count_to (suc n) xs
count_to-more n [] = omega arith
count_to-more n (x ∷ xs) = let here = one_at_most x n in let later = count_to-more n xs in omega arith

-- the next number is one of them
count_to-next : (n : ℕ) (xs : List ℕ) → IsIn (suc n) xs → count_to n xs + 1 ≤ count_to (suc n) xs
count_to-next n [] h = absurd h
count_to-next n (x ∷ xs) (inl e) =
    let at_most : one_where (nat_le x (suc n)) ≡ 1 = ap one_where (here (suc n) x e) in
    let above : one_where (nat_le x n) ≡ 0 = ap one_where (past n x e) in
    let later = count_to-more n xs in
    omega arith
  where
    here : (m y : ℕ) → y ≡ m → nat_le y m ≡ true
    here m y e = grind (arith, nat_tests)

    past : (m y : ℕ) → y ≡ suc m → nat_le y m ≡ false
    past m y e = grind (arith, nat_tests)
count_to-next n (x ∷ xs) (inr h) = let here = one_at_most x n in let later = count_to-next n xs h in omega arith

-- 0, or one of the numbers that are known
abbrev pub ZeroOr : (ℕ → Type 0) → ℕ → Type 0
ZeroOr Known n = (n ≡ 0) ⊎ Known n

-- numbers of which each but 0 has the one before it beside it
pub count_from : (xs : List ℕ) → ((n : ℕ) → IsIn (suc n) xs → ZeroOr (λ m. IsIn m xs) n) → (n : ℕ) → ZeroOr (λ m. IsIn m xs) n → n ≤ count_to n xs
count_from xs down zero h = omega arith
count_from xs down (suc n) (inl e) = absurd (omega arith)
count_from xs down (suc n) (inr h) = let before = count_from xs down n (down n h) in let next = count_to-next n xs h in omega arith

pub max_of : (Known : ℕ → Type 0) (a b : ℕ) → ZeroOr Known a → ZeroOr Known b → ZeroOr Known (max a b)
max_of Known a b p q =
    elim (cases_lt a b) [
      | inl less ↦ let e : b ≡ max a b = omega arith in subst (ZeroOr Known) e q
      | inr more ↦ let e : a ≡ max a b = omega arith in subst (ZeroOr Known) e p
    ]

-- ---- what stamps come from

-- where the stamps that came are known or 0, each stamp is 1 more than a known one or 0
stamp_before : (Known : ℕ → Type 0) (posts : Source → List Stamped) → ((source : Source) (k : ℕ) → ZeroOr Known (stamp_at (slice_get (posts source) k)))
    → (rest : List Sent) (before entries : List Entry) (latest : ℕ) → ZeroOr Known latest → ((e : Entry) → IsIn e entries → Known e.stamp) → Records latest (arrived_after posts before entries ++ rest) entries
    → (e : Entry) → IsIn e entries → (m : ℕ) × (e.stamp ≡ m + 1) × ZeroOr Known m
stamp_before Known posts came rest before [] latest zero_or known records e h = absurd h
stamp_before Known posts came rest before (x ∷ entries) latest zero_or known records e (inl is) =
    let carried : ℕ = _ in
    (max latest carried, ap (λ (y : Entry). y.stamp) (sym is) ∙ records.0.stamp, max_of Known latest carried zero_or (came x.source _))
stamp_before Known posts came rest before (x ∷ entries) latest zero_or known records e (inr h) =
    stamp_before Known posts came rest (before ++ x ∷ []) entries x.stamp (inr (known x (inl refl))) (λ y i. known y (inr i)) records.1 e h

pub posted_stamp : (actor stamp : ℕ) (effects : List Effect) (post : Stamped) → IsIn post (filter_map (effect_for actor stamp) effects) → post.stamp ≡ stamp
posted_stamp actor stamp [] post h = absurd h
posted_stamp actor stamp (effect.Print line ∷ effects) post h = posted_stamp actor stamp effects post h
posted_stamp actor stamp (effect.Reply number value ∷ effects) post h = posted_stamp actor stamp effects post h
posted_stamp actor stamp (effect.Post target message ∷ effects) post h = by (target == actor) (posted_stamp actor stamp effects post) h
  where
    by : (b : Bool) → (IsIn post (filter_map (effect_for actor stamp) effects) → post.stamp ≡ stamp) → IsIn post (cons_option (if b then Some record { message = message; stamp = stamp } else None) (filter_map (effect_for actor stamp) effects)) → post.stamp ≡ stamp
    by true later (inl e) = ap (λ (p : Stamped). p.stamp) (sym e)
    by true later (inr i) = later i
    by false later i = later i

pub found_in : {X : Type 0} (xs : List X) (k : ℕ) (x : X) → slice_get xs k ≡ Some x → IsIn x xs
found_in [] k x e = absurd cc
found_in (y ∷ xs) zero x e = inl cc
found_in (y ∷ xs) (suc k) x e = inr (found_in xs k x e)

pub place_in : {X : Type 0} (xs : List X) (x : X) → IsIn x xs → (k : ℕ) × (slice_get xs k ≡ Some x)
place_in [] x h = absurd h
place_in (y ∷ xs) x (inl e) = (0, ap (λ (z : _). Some z) e)
place_in (y ∷ xs) x (inr h) = let r = place_in xs x h in (suc r.0, r.1)

abbrev pub stamp_of_entry : Entry → ℕ
stamp_of_entry e = e.stamp

module _ (runs : List ActorRun) where
  abbrev pub stamps : List ℕ
  stamps = map stamp_of_entry (arrivals_of runs)

  abbrev pub Known : ℕ → Type 0
  Known n = IsIn n stamps

  pub entry_known : (run : ActorRun) (e : Entry) → IsIn run runs → IsIn e run.entries → Known e.stamp
  entry_known run e r h = IsIn-map stamp_of_entry e (arrivals_of runs) (IsIn-flat_map (λ (x : ActorRun). x.entries) run e runs r h)

  -- the posts of an actor carry stamps of its entries
  actor_posts : (actor : ℕ) (run : ActorRun) → IsIn run runs → (o : Option Stamped) → ((post : Stamped) → o ≡ Some post → IsIn post (flat_map (entry_posts actor) run.entries)) → ZeroOr Known (stamp_at o)
  actor_posts actor run r None found = inl refl
  actor_posts actor run r (Some post) found =
      let from = IsIn-flat_map_from (entry_posts actor) post run.entries (found post refl) in
      let same = posted_stamp actor from.0.stamp (firing_effects from.0.firing) post from.2 in
      inr (subst Known (sym same) (entry_known run from.0 r from.1))

  posts_known : (actor : ℕ) (o : Option ActorRun) → ((run : ActorRun) → o ≡ Some run → IsIn run runs) → (k : ℕ) → ZeroOr Known (stamp_at (slice_get (posts_in actor o) k))
  posts_known actor None found k = inl refl
  posts_known actor (Some run) found k = actor_posts actor run (found run refl) (slice_get (posts_in actor (Some run)) k) (λ post e. found_in (posts_in actor (Some run)) k post e)

  pub came_known : (feeds : List (List (ℕ × Message))) (actor : ℕ) (source : Source) (k : ℕ) → ZeroOr Known (stamp_at (slice_get (posts_of feeds runs source actor) k))
  came_known feeds actor (Feed zero) k = inl refl
  came_known feeds actor (Feed (suc n)) k = inl (feed_unstamped actor (slice_get feeds n) k)
  came_known feeds actor (Actor a) k = posts_known actor (slice_get runs a) (λ run e. found_in runs a run e) k

-- what a linked actor recorded is what it was given
pub recorded_given : (plan : Plan) (limits : Limits) (feeds : List (List (ℕ × Message))) (run : Run) (actor : ℕ) (own : ActorRun) → IsLinkedActor plan limits feeds run actor own → run.version ≡ 2 → Records 0 (given plan feeds run actor own.entries) own.entries
recorded_given plan limits feeds run actor own linked version =
    let sent : List Sent = given plan feeds run actor own.entries in
    let a = adds (setting_of plan actor limits) sent (opening run.feeds (length plan.actors)) in
    let is : own ≡ fair_run plan actor limits run.feeds sent = linked.fair ∙ ap (λ (v : ℕ). in_version v (fair_run plan actor limits run.feeds sent)) version in
    subst (λ (es : List Entry). Records 0 sent es) (sym (ap (λ (x : ActorRun). x.entries) is ∙ a.entries_are)) a.records

pub stamps_are_few : StampsAreFew
stamps_are_few plan limits feeds run linked version entry h =
    let xs : List ℕ = stamps run.actors in
    let count = count_from xs down entry.stamp (inr (IsIn-map stamp_of_entry entry (arrivals_of run.actors) h)) in
    let most = count_to-length entry.stamp xs in
    let same : length xs ≡ length (arrivals_of run.actors) = length-map (arrivals_of run.actors) stamp_of_entry in
    omega arith
  where
    down : (n : ℕ) → IsIn (suc n) (stamps run.actors) → ZeroOr (λ m. IsIn m (stamps run.actors)) n
    down n i =
        let e = IsIn-map_from stamp_of_entry (suc n) (arrivals_of run.actors) i in
        let own = IsIn-flat_map_from (λ (x : ActorRun). x.entries) e.0 run.actors e.1 in
        let place = place_in run.actors own.0 own.1 in
        let actor = linked.each place.0 own.0 place.1 in
        let before = stamp_before (Known run.actors) (λ source. posts_of feeds run.actors source place.0) (came_known run.actors feeds place.0) _ [] own.0.entries 0 (inl refl)
        (λ y j. entry_known run.actors own.0 y own.1 j) (recorded_given plan limits feeds run place.0 own.0 actor version) e.0 own.2 in
        let same : before.0 ≡ n = omega (arith, before.1, e.2) in
        subst (ZeroOr (Known run.actors)) same before.2

rises : (latest : ℕ) (sent : List Sent) (entries : List Entry) → Records latest sent entries → IsStrictlyIncreasing (map stamp_of_entry entries)
rises latest sent [] records k l = absurd (omega arith)
rises latest sent (x ∷ []) records k l = absurd (omega arith)
rises latest [] (x ∷ y ∷ entries) records k l = absurd records
rises latest (s ∷ []) (x ∷ y ∷ entries) records k l = absurd records.1
rises latest (s ∷ t ∷ sent) (x ∷ y ∷ entries) records zero l = let next = records.1.0.stamp in omega arith
rises latest (s ∷ t ∷ sent) (x ∷ y ∷ entries) records (suc k) l = let e : suc k + 1 ≡ suc (k + 1) = omega arith in rw e (rises x.stamp (t ∷ sent) (y ∷ entries) records.1 k (omega arith))

pub stamps_rise : StampsRise
stamps_rise plan limits feeds run linked version actor own is =
    rises 0 (given plan feeds run actor own.entries) own.entries (recorded_given plan limits feeds run actor own (linked.each actor own is) version)

-- a record has a greater stamp than its message
follows : (posts : Source → List Stamped) (rest : List Sent) (before entries : List Entry) (latest : ℕ) → Records latest (arrived_after posts before entries ++ rest) entries
    → (k : ℕ) (e : Entry) (s : Sent) → slice_get entries k ≡ Some e → slice_get (arrived_after posts before entries) k ≡ Some s → s.1.stamp < e.stamp
follows posts rest before [] latest records k e s found sent = absurd cc
follows posts rest before (x ∷ entries) latest records zero e s found sent =
    let entry : x ≡ e = cc in
    let carried : Sent = (x.source, record { message = x.message; stamp = stamp_at (slice_get (posts x.source) (length (taken_from x.source before))) }) in
    let message : carried ≡ s = cc in
    let stamp = records.0.stamp in
    let here : carried.1.stamp < x.stamp = omega arith in
    subst (λ (y : Entry). s.1.stamp < y.stamp) entry (subst (λ (t : Sent). t.1.stamp < x.stamp) message here)
follows posts rest before (x ∷ entries) latest records (suc k) e s found sent = follows posts rest (before ++ x ∷ []) entries x.stamp records.1 k e s found sent

pub stamps_follow : StampsFollow
stamps_follow plan limits feeds run linked version actor own is =
    follows (λ source. posts_of feeds run.actors source actor) _ [] own.entries 0 (recorded_given plan limits feeds run actor own (linked.each actor own is) version)
