-- From what an actor keeps inside to what is claimed of each actor between two arrivals.
use Rattle.std.proofs.Common.{◌≡◌, ◌∙◌, inl, inr, ℕ, zero, suc, ◌+◌, ◌<◌, ◌≤◌, List, [], ◌∷◌, length, replicate, Bool, false, Option, Some, None, slice_get, refl, sym, ap, subst, arith}
use Rattle.std.specs.List.{AllByRecursion}
use Rattle.join_base.specs.declared.message.Message.{Message}
use Rattle.join_base.specs.declared.message.Stamped.{Stamped}
use Rattle.guard_eval.specs.Meaning.{Assignment}
use Rattle.mailbox_core.specs.Mail.{Mail, no_mail}
use Rattle.pattern_core.specs.declared.definition.Definition.{Definition}
use Rattle.pattern_core.specs.Matches.{complete_matches}
use Rattle.pattern_core.specs.Members.{IsIn}
use Rattle.pattern_core.specs.Window.{SeesLatest}
use Rattle.match_tree.specs.Tree.{AreOnce, Tree, empty_of}
use Rattle.tree_law.specs.Partials.{ArePartial}
use Rattle.tree_law.specs.Trees.{AreTreesOf, HasOnce, HoldAll}
use Rattle.tree_law.proofs.TreesLemmas.{cleared_holds}
use Rattle.script_types.specs.declared.plan.ActorPlan.{ActorPlan}
use Rattle.script_types.specs.declared.plan.Plan.{Plan}
use Rattle.script_types.specs.Typed.{IsTyped}
use Rattle.fair_semantics.specs.declared.run.Ending.{Ending}
use Rattle.fair_semantics.specs.declared.run.Ending.TheVariants as ending
use Rattle.fair_semantics.specs.declared.run.Firing.{Firing}
use Rattle.fair_semantics.specs.declared.run.Limits.{Limits}
use Rattle.fair_semantics.specs.Fair.{rules_of, setting_of}
use Rattle.fair_semantics.specs.Step.{Setting, State, definitions_of, recorded_messages}
use Rattle.actor_turn.specs.Held.{AreLimits, Held, new_actor, new_trees}
use Rattle.actor_turn.specs.Inside.{IsAtRest}
use Rattle.actor_turn.specs.Parts.{history_in, state_of}
use Rattle.actor_turn.specs.Rest.{HoldsPartialMatches, NoMatchWaits}
use Rattle.actor_turn.proofs.RestLemmas.{actor_at, new_rest, new_told}

-- ---- where no number is left, the empty path is alone

only_one : {X : Type 0} (x : X) (xs : List X) → ((y : X) → IsIn y xs → y ≡ x) → IsIn x xs → AreOnce xs → xs ≡ x ∷ []
only_one x [] all member once = absurd member
only_one {X} x (y ∷ []) all member once = ap (λ (z : X). z ∷ []) (all y (inl refl))
only_one x (y ∷ z ∷ xs) all member once = absurd (once.0 (inl (all z (inr (inl refl)) ∙ sym (all y (inl refl)))))

alone : (messages : List Message) (tree : Tree) → 1 ≤ length tree.definition.patterns → SeesLatest tree.definition.window → ArePartial messages [] tree.definition tree.paths → HasOnce tree → tree.paths ≡ empty_of tree.definition ∷ []
alone messages tree some sees partial once =
    let cleared = (cleared_holds messages tree some sees).partial in
    only_one empty tree.paths (λ path m. is_empty path (cleared.back path (partial.to path m))) (partial.back empty (cleared.to empty (inl refl))) once
  where
    empty : Assignment
    empty = empty_of tree.definition

    is_empty : (path : Assignment) → IsIn path (empty ∷ []) → path ≡ empty
    is_empty path (inl e) = sym e
    is_empty path (inr m) = absurd m

all_alone : (messages : List Message) (trees : List Tree) → HoldAll messages [] trees → AllByRecursion HasOnce trees → AllByRecursion (λ (tree : Tree). tree.paths ≡ empty_of tree.definition ∷ []) trees
all_alone messages [] hold once = tt
all_alone messages (t ∷ trees) hold once = (alone messages t hold.0.some hold.0.sees hold.0.partial once.0, all_alone messages trees hold.1 once.1)

-- ---- from trees that hold the partial matches

all_partial : (messages : List Message) (live : List ℕ) (trees : List Tree) → HoldAll messages live trees → AllByRecursion (λ (tree : Tree). ArePartial messages live tree.definition tree.paths) trees
all_partial messages live [] hold = tt
all_partial messages live (t ∷ trees) hold = (hold.0.partial, all_partial messages live trees hold.1)

nothing_in : {X : Type 0} (xs : List X) → ((x : X) → ¬ IsIn x xs) → xs ≡ []
nothing_in [] none = refl
nothing_in (x ∷ xs) none = absurd (none x (inl refl))

none_complete : (messages : List Message) (live : List ℕ) (rule : ℕ) (definitions : List Definition) (trees : List Tree) → AreTreesOf rule definitions trees → HoldAll messages live trees
    → AllByRecursion (λ (d : Definition). complete_matches messages live d ≡ []) definitions
none_complete messages live rule [] trees are hold = tt
none_complete messages live rule (d ∷ definitions) [] are hold = absurd are
none_complete messages live rule (d ∷ definitions) (t ∷ trees) are hold =
    (ap (complete_matches messages live) (sym are.0) ∙ nothing_in (complete_matches messages live t.definition) hold.0.none, none_complete messages live (rule + 1) definitions trees are.2 hold.1)

-- ---- every actor

module _ (setting : Setting) (m : Mail) (firings : List (Option Firing)) (end : Ending) (trees : List Tree) (outbox : List (List Stamped)) (lent : List Bool) (rest : IsAtRest setting m firings end trees) where
  abbrev held : Held
  held = record { setting = setting; state = state_of m firings end; history = history_in m.arrivals; trees = trees; outbox = outbox; lent = lent }

  abbrev messages : List Message
  messages = recorded_messages held.state.entries

  pub partial_held : HoldsPartialMatches held
  partial_held = record {
    of_rules = rest.steady.of_rules;
    partial = all_partial messages m.live trees rest.steady.hold;
    once = rest.once;
    settled = rest.steady.settled;
    ended = λ over. record { none_left = rest.ended over; alone = all_alone messages trees (subst (λ (live : List ℕ). HoldAll messages live trees) (rest.ended over) rest.steady.hold) rest.once };
  }

  pub none_waits : NoMatchWaits held
  none_waits = record { none = none_complete messages m.live 1 (definitions_of setting.rules) trees rest.steady.of_rules rest.steady.hold; newest = rest.newest }

-- ---- actors with the same trees, and new ones

-- the posts of an actor are no part of it
pub same_partial : (before after : Held) → after.setting ≡ before.setting → after.state ≡ before.state → after.trees ≡ before.trees → HoldsPartialMatches before → HoldsPartialMatches after
same_partial before after setting state trees h =
    subst (λ (x : Setting × State × List Tree). HoldsPartialMatches (record { setting = x.0; state = x.1; history = after.history; trees = x.2; outbox = after.outbox; lent = after.lent })) (λ i. (sym setting i, sym state i, sym trees i)) (record {
      of_rules = h.of_rules;
      partial = h.partial;
      once = h.once;
      settled = h.settled;
      ended = λ over. let e = h.ended over in record { none_left = e.none_left; alone = e.alone };
    })

there : {X : Type 0} (xs : List X) (k : ℕ) → k < length xs → slice_get xs k ≡ None → ⊥
there [] k within none = omega (arith, within)
there (x ∷ xs) zero within none = absurd cc
there (x ∷ xs) (suc k) within none = there xs k (omega arith) none

pub new_partial : (plan : Plan) (index : ℕ) (limits : Limits) (feeds : ℕ) → IsTyped plan → AreLimits limits → index < length plan.actors → HoldsPartialMatches (new_actor plan index limits feeds)
new_partial plan index limits feeds typed given within = by (slice_get plan.actors index) refl
  where
    count : ℕ
    count = length plan.actors

    setting : Setting
    setting = setting_of plan index limits

    by : (o : Option ActorPlan) → slice_get plan.actors index ≡ o → HoldsPartialMatches (new_actor plan index limits feeds)
    by None none = absurd (there plan.actors index within none)
    by (Some actor) is =
        let told = new_told plan actor count setting typed (actor_at plan index actor is typed) refl refl (ap rules_of is) given in
        partial_held setting (no_mail feeds count) [] ending.Running (new_trees 1 (definitions_of setting.rules)) (replicate count []) (replicate count false)
        (new_rest count setting feeds count (no_mail feeds count) [] (new_trees 1 (definitions_of setting.rules)) told refl refl refl)
