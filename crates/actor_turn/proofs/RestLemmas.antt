-- Actors at rest: a new one, and one that did not take a message; and when a message is taken.
use Rattle.std.proofs.Common.{◌≡◌, ◌∙◌, ℕ, zero, suc, ◌<◌, ◌≤◌, ◌-◌, ◌^◌, min, max, List, [], ◌∷◌, map, length, drop, replicate, true, false, Option, Some, slice_get, refl, sym, ap, subst, arith}
use Rattle.std.specs.Prelude.{Bool, not, ◌&&◌, nat_le, nat_lt}
use Rattle.std.proofs.lemmas.Bool.{and_parts, not-true, not-false}
use Rattle.std.specs.List.{AllByRecursion}
use Rattle.std.specs.List.Sorted.{IsStrictlyIncreasing}
use Rattle.std.proofs.lemmas.Bool.Decides.{nat_tests}
use Rattle.std.proofs.lemmas.List.{drop_all, length-map}
use Rattle.join_base.specs.Late.{Late}
use Rattle.join_base.specs.Stamps.{greatest_stamp}
use Rattle.join_base.specs.declared.message.Message.{Message}
use Rattle.join_base.specs.declared.message.Sort.{Sort}
use Rattle.join_base.specs.declared.message.Source.{Source}
use Rattle.mailbox_core.specs.Mail.{Mail, no_mail, with_late, with_live}
use Rattle.match_tree.specs.Tree.{Tree}
use Rattle.tree_law.specs.Trees.{cleared_tree, path_count}
use Rattle.tree_law.proofs.CountLemmas.{paths_counted}
use Rattle.script_types.specs.declared.plan.ActorPlan.{ActorPlan}
use Rattle.script_types.specs.declared.plan.Kind.{Kind}
use Rattle.script_types.specs.declared.plan.Plan.{Plan}
use Rattle.script_types.specs.declared.plan.Rule.{Rule}
use Rattle.script_types.specs.Typed.{IsTyped, IsTypedActor, IsTypedKind, kind_types}
use Rattle.fair_semantics.specs.declared.run.Ending.{Ending}
use Rattle.fair_semantics.specs.declared.run.Ending.TheVariants as ending
use Rattle.fair_semantics.specs.declared.run.Entry.{Entry}
use Rattle.fair_semantics.specs.declared.run.Firing.{Firing}
use Rattle.fair_semantics.specs.Fair.{partials_of}
use Rattle.fair_semantics.specs.Step.{Setting, State, definitions_of, fair_step, fits, is_refused, is_running, late_step, latest_stamp, spent_step}
use Rattle.fair_semantics.proofs.ListLemmas.{each_at}
use Rattle.actor_turn.specs.Held.{AreLimits, is_taken, new_trees}
use Rattle.actor_turn.specs.Inside.{HasFewFields, IsAtRest, IsTold}
use Rattle.actor_turn.specs.Parts.{state_of}
use Rattle.actor_turn.proofs.OfferedLemmas.{cleared_count, cleared_once, new_count, new_hold, new_of, new_once, new_settled, trees_count}
use Rattle.actor_turn.proofs.SteadyLemmas.{spent_steady}
use Rattle.actor_turn.proofs.ToldLemmas.{rules_patterns, rules_see}

-- ---- whether a message is taken

module _ (setting : Setting) (state : State) (message : Message) (stamp : ℕ) where
  pub full_refused : setting.limits.arrivals ≤ length state.entries → false ≡ not (is_refused setting state message stamp)
  full_refused full = let yes : nat_le setting.limits.arrivals (length state.entries) ≡ true = grind (arith, nat_tests) in rw yes refl

  pub rest_taken : length state.entries < setting.limits.arrivals → fits setting.sorts message ≡ true → nat_lt (max (latest_stamp state.entries) stamp) greatest_stamp ≡ not (is_refused setting state message stamp)
  rest_taken room fit =
      let no : nat_le setting.limits.arrivals (length state.entries) ≡ false = grind (arith, nat_tests) in
      rw (no, fit) (by (max (latest_stamp state.entries) stamp) greatest_stamp)
    where
      by : (a b : ℕ) → nat_lt a b ≡ not (nat_le b a)
      by a b = grind (arith, nat_tests)

  pub taken_runs : is_taken setting state message stamp ≡ true → state.ending ≡ ending.Running
  taken_runs taken = by state.ending (and_parts (is_running state.ending) (not (is_refused setting state message stamp)) taken).0
    where
      by : (e : Ending) → is_running e ≡ true → e ≡ ending.Running
      by ending.Running h = refl
      by ending.Stopped h = absurd cc
      by ending.Jammed h = absurd cc
      by ending.Spent h = absurd cc

  pub taken_fits : is_taken setting state message stamp ≡ true → is_refused setting state message stamp ≡ false
  taken_fits taken = not-true (is_refused setting state message stamp) (and_parts (is_running state.ending) (not (is_refused setting state message stamp)) taken).1

  -- a message that is not taken is late, and a running actor is spent
  pub late_is : (source : Source) → is_running state.ending ≡ false → fair_step setting state source message stamp ≡ late_step state source
  late_is source ended = rw ended refl

  pub spent_is : (source : Source) → is_running state.ending ≡ true → is_taken setting state message stamp ≡ false → fair_step setting state source message stamp ≡ spent_step state source
  spent_is source running away =
      let refused : is_refused setting state message stamp ≡ true = not-false (is_refused setting state message stamp) (ap (λ (b : Bool). b && not (is_refused setting state message stamp)) (sym running) ∙ away) in
      rw (running, refused) refl

-- ---- a message that is not taken

pub late_rest : (setting : Setting) (m m' : Mail) (late : Late) (f : List (Option Firing)) (e : Ending) (t : List Tree) → m' ≡ with_late m late → IsAtRest setting m f e t → IsAtRest setting m' f e t
late_rest setting m m' late f e t is h =
    subst (λ (x : Mail). IsAtRest setting x f e t) (sym is)
    (record {
      fired = h.fired;
      newest = h.newest;
      fitting = h.fitting;
      steady = record { live = h.steady.live; of_rules = h.steady.of_rules; hold = h.steady.hold; settled = h.steady.settled };
      once = h.once;
      few = h.few;
      ended = h.ended;
    })

pub spent_rest : (actors : ℕ) (setting : Setting) (m m' : Mail) (late : Late) (source : Source) (f : List (Option Firing)) (e e' : Ending) (t t' : List Tree) → m' ≡ with_live (with_late m late) [] → e' ≡ ending.Spent → t' ≡ map cleared_tree t
    → IsTold actors setting → IsAtRest setting m f e t → IsAtRest setting m' f e' t'
spent_rest actors setting m m' late source f e e' t t' em ee et told h =
    let P : Mail × Ending × List Tree → Type 0 = λ x. IsAtRest setting x.0 f x.1 x.2 in
    let steady = spent_steady setting (state_of m f e) source t h.steady in
    let count = cleared_count t ∙ trees_count 1 (definitions_of setting.rules) t h.steady.of_rules ∙ length-map setting.rules (λ rule. rule.definition) in
    let most = told.few in
    subst P (λ i. (sym em i, sym ee i, sym et i))
    (record {
      fired = h.fired;
      newest = h.newest;
      fitting = h.fitting;
      steady = record { live = steady.live; of_rules = steady.of_rules; hold = steady.hold; settled = steady.settled };
      once = cleared_once t;
      few = omega arith;
      ended = λ over. refl;
    })

-- no entry is new
pub none_new : (entries : List Entry) → drop (length entries) entries ≡ []
none_new entries = drop_all (length entries) entries (omega arith)

-- ---- a new actor

kind_few : (kinds : List Kind) → AllByRecursion IsTypedKind kinds → AllByRecursion HasFewFields (kind_types kinds)
kind_few [] h = tt
kind_few (k ∷ kinds) h =
    let count = length-map k.fields (λ (field : List ℕ × Sort). field.1) in
    let own = h.0 in
    (omega arith, kind_few kinds h.1)

pub actor_at : (plan : Plan) (index : ℕ) (actor : ActorPlan) → slice_get plan.actors index ≡ Some actor → IsTyped plan → IsTypedActor (length plan.actors) (kind_types plan.kinds) actor
actor_at plan index actor is typed = each_at (IsTypedActor (length plan.actors) (kind_types plan.kinds)) plan.actors index actor is typed.actors

pub new_told : (plan : Plan) (actor : ActorPlan) (actors : ℕ) (setting : Setting) → IsTyped plan → IsTypedActor (length plan.actors) (kind_types plan.kinds) actor → actors ≡ length plan.actors → setting.sorts ≡ kind_types plan.kinds → setting.rules ≡ actor.rules → AreLimits setting.limits → IsTold actors setting
new_told plan actor actors setting typed own count sorts rules limits =
    let P : ℕ × List (List Sort) × List Rule → Type 0 = λ x. IsTold x.0 (record { sorts = x.1; rules = x.2; limits = setting.limits }) in
    subst P (λ i. (sym count i, sym sorts i, sym rules i)) (record { limits = limits; fields = kind_few plan.kinds typed.kinds; few = own.few; typed = own.each })

pub new_rest : (actors : ℕ) (setting : Setting) (feeds sources : ℕ) (m : Mail) (f : List (Option Firing)) (t : List Tree) → IsTold actors setting → m ≡ no_mail feeds sources → f ≡ [] → t ≡ new_trees 1 (definitions_of setting.rules) → IsAtRest setting m f ending.Running t
new_rest actors setting feeds sources m f t told em ef et =
    let P : Mail × List (Option Firing) × List Tree → Type 0 = λ x. IsAtRest setting x.0 x.1 ending.Running x.2 in
    let definitions = definitions_of setting.rules in
    let count = new_count 1 definitions ∙ length-map setting.rules (λ rule. rule.definition) in
    let most = told.few in
    subst P (λ i. (sym em i, sym ef i, sym et i))
    (record {
      fired = refl;
      newest = tt;
      fitting = tt;
      steady = record {
        live = λ k h. absurd h;
        of_rules = new_of 1 definitions;
        hold = new_hold 1 definitions (rules_patterns actors setting.sorts setting.rules told.typed) (rules_see actors setting.sorts setting.rules told.typed);
        settled = new_settled 1 definitions;
      };
      once = new_once 1 definitions;
      few = omega arith;
      ended = λ over. refl;
    })

-- as many outboxes as actors
pub boxes_count : {X : Type 0} (xs : List X) (n : ℕ) (x : X) → xs ≡ replicate n x → length xs ≡ n
boxes_count xs n x is = ap length is ∙ replicated n x
  where
    replicated : {X : Type 0} (n : ℕ) (x : X) → length (replicate n x) ≡ n
    replicated zero x = refl
    replicated (suc n) x = ap suc (replicated n x)

-- ---- the partial matches

pub partials_counted : (setting : Setting) (m : Mail) (f : List (Option Firing)) (e : Ending) (t : List Tree) (count : ℕ) → IsAtRest setting m f e t → IsStrictlyIncreasing m.live → count ≡ min (path_count t) (2 ^ 64 - 1) → count ≡ partials_of setting.rules (state_of m f e)
partials_counted setting m f e t count h rising is =
    let same = paths_counted _ m.live rising 1 (definitions_of setting.rules) t h.steady.of_rules h.steady.hold h.once in
    let few = h.few in
    let small : min (path_count t) (2 ^ 64 - 1) ≡ path_count t = omega arith in
    is ∙ small ∙ same
