-- What is true of each system that a schedule reaches, and that a step more reaches the next.
use Rattle.std.proofs.Common.{◌≡◌, ◌∙◌, inl, ℕ, ◌<◌, ◌≤◌, List, [], ◌∷◌, ◌++◌, length, Bool, true, false, Option, None, Some, refl, ap, sym, subst, arith}
use Rattle.std.specs.Prelude.{if◌then◌else◌, ◌==◌, IfSome}
use Rattle.std.specs.List.{AllByRecursion, cons_option, filter_map, flat_map}
use Rattle.std.specs.Option.{option_and_then}
use Rattle.join_base.specs.declared.message.Message.{Message}
use Rattle.join_base.specs.declared.message.Stamped.{Stamped}
use Rattle.join_base.specs.declared.message.Source.{Source}
use Rattle.script_types.specs.declared.plan.Plan.{Plan}
use Rattle.fair_semantics.specs.declared.run.Limits.{Limits}
use Rattle.fair_semantics.specs.declared.run.Effect.{Effect}
use Rattle.fair_semantics.specs.declared.run.Effect.TheVariants as effect
use Rattle.fair_semantics.specs.declared.run.Entry.{Entry}
use Rattle.fair_semantics.specs.declared.run.Firing.{Firing}
use Rattle.fair_semantics.specs.Step.{State, opening}
use Rattle.fair_semantics.specs.Fair.{setting_of}
use Rattle.fair_semantics.specs.Fits.{ActorRunFits, EffectFits, EntryFits, FiringFits}
use Rattle.fair_semantics.specs.Linked.{effect_for, entry_posts, firing_effects}
use Rattle.fair_semantics.specs.Schedule.{System, after_schedule, scheduled_step, system_at_first}
use Rattle.fair_semantics.proofs.ListLemmas.{each_append}
use Rattle.fair_semantics.proofs.SizeLemmas.{Sized, sized, sized_opening}
use Rattle.run_order_law.proofs.EventLemmas.{sent_to}
use Rattle.run_order_law.proofs.SourceLemmas.{not_equal}
use Rattle.schedule_law.specs.Reached.{IsReached, IsServable}
use Rattle.schedule_law.proofs.FitLemmas.{own_fits, runs_of}
use Rattle.schedule_law.proofs.LawLemmas.{at, events}
use Rattle.schedule_law.proofs.ReachLemmas.{schedule-append}

module _ (plan : Plan) where
  -- no effect is a post to an actor that the plan does not have
  none_beyond : (target stamp : ℕ) → length plan.actors ≤ target → (effects : List Effect) → AllByRecursion (EffectFits plan 2) effects → filter_map (effect_for target stamp) effects ≡ []
  none_beyond target stamp l [] each = refl
  none_beyond target stamp l (effect.Print line ∷ effects) each = none_beyond target stamp l effects each.1
  none_beyond target stamp l (effect.Reply number value ∷ effects) each = none_beyond target stamp l effects each.1
  none_beyond target stamp l (effect.Post to message ∷ effects) each =
      let other : (to == target) ≡ false = not_equal to target (inl (omega (arith, each.0.0))) in
      λ i. cons_option (if other i then Some record { message = message; stamp = stamp } else None) (none_beyond target stamp l effects each.1 i)

  entry_beyond : (feeds target : ℕ) → length plan.actors ≤ target → (entry : Entry) → EntryFits plan 2 feeds entry → entry_posts target entry ≡ []
  entry_beyond feeds target l entry fit = by entry.firing fit.firing
    where
      by : (o : Option Firing) → IfSome o (FiringFits plan 2) → filter_map (effect_for target entry.stamp) (firing_effects o) ≡ []
      by None h = refl
      by (Some firing) h = none_beyond target entry.stamp l firing.effects h.effects

  entries_beyond : (feeds target : ℕ) → length plan.actors ≤ target → (entries : List Entry) → AllByRecursion (EntryFits plan 2 feeds) entries → flat_map (entry_posts target) entries ≡ []
  entries_beyond feeds target l [] each = refl
  entries_beyond feeds target l (entry ∷ entries) each = λ i. entry_beyond feeds target l entry each.0 i ++ entries_beyond feeds target l entries each.1 i

module _ (plan : Plan) (limits : Limits) (feeds : List (List (ℕ × Message))) where
  pub reached_first : IsReached plan limits feeds (system_at_first plan feeds)
  reached_first = record { pairs = []; of_actors = tt; steps = refl }

  module _ (system : System) (reached : IsReached plan limits feeds system) where
    pub reached_more : (pair : ℕ × Source) (next : System) → pair.0 < length plan.actors → scheduled_step plan limits system pair ≡ Some next → IsReached plan limits feeds next
    reached_more pair next l step = record {
      pairs = reached.pairs ++ pair ∷ [];
      of_actors = each_append (λ (p : ℕ × Source). p.0 < length plan.actors) reached.pairs (pair ∷ []) reached.of_actors (l, tt);
      steps =
          schedule-append plan limits feeds (system_at_first plan feeds) reached.pairs (pair ∷ [])
          ∙ ap (option_and_then (λ n. after_schedule plan limits n (pair ∷ []))) reached.steps
          ∙ ap (option_and_then (λ n. after_schedule plan limits n [])) step;
    }

    -- there is a late count for each source
    pub sized_state : (actor : ℕ) → Sized (length feeds) (length plan.actors) (system.state actor).late
    sized_state actor =
        let sent = sent_to actor (events plan limits feeds system reached) in
        subst (λ (s : State). Sized (length feeds) (length plan.actors) s.late) (sym ((at plan limits feeds system reached).state actor))
        (sized (length feeds) (length plan.actors) (setting_of plan actor limits) sent (opening (length feeds) (length plan.actors)) (sized_opening (length feeds) (length plan.actors)))

    -- no actor posts to one that the plan does not have
    pub posts_beyond : IsServable plan limits feeds → (actor target : ℕ) → actor < length plan.actors → length plan.actors ≤ target → flat_map (entry_posts target) (system.state actor).entries ≡ []
    posts_beyond can actor target l m =
        entries_beyond plan (length feeds) target m (system.state actor).entries (own_fits plan limits feeds (runs_of plan limits feeds can) can.values system reached actor l).entries
