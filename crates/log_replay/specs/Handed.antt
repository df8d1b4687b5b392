-- The replay of a run that is handed over.
use Rattle.std.specs.Prelude.{◌≡◌, ℕ, ◌+◌, List, [], ◌∷◌, Bool, false, ◌&&◌, ◌==◌, nat_lt, Option, None, Some, length, map, slice_get}
use Rattle.std.specs.List.{AllByRecursion}
use Rattle.join_base.specs.Late.{HasCount}
use Rattle.script_types.specs.declared.plan.Plan.{Plan}
use Rattle.fair_semantics.specs.declared.run.ActorRun.{ActorRun}
use Rattle.fair_semantics.specs.declared.run.Effect.{Effect}
use Rattle.fair_semantics.specs.declared.run.Effect.TheVariants.{Print, Post, Reply}
use Rattle.fair_semantics.specs.declared.run.Entry.{Entry}
use Rattle.fair_semantics.specs.declared.run.Firing.{Firing}
use Rattle.fair_semantics.specs.declared.run.Limits.{Limits}
use Rattle.fair_semantics.specs.declared.run.Run.{Run}
use Rattle.fair_semantics.specs.Fair.{fair_run}
use Rattle.fair_semantics.specs.Linked.{firing_effects}
use Rattle.fair_semantics.specs.Step.{opening}
use Rattle.log_replay.specs.declared.handed.Made.{Made}
use Rattle.log_replay.specs.declared.handed.Remade.{Remade}
use Rattle.log_replay.specs.declared.shared.Replayed.{Replayed}
use Rattle.log_replay.specs.declared.shared.Shared.{Shared}
use Rattle.log_replay.specs.Expected.{bare}
use Rattle.log_replay.specs.Law.{AllRulesFit}
use Rattle.log_posts.specs.Same.{same_fired}
use Rattle.log_posts.specs.Stamps.{with_stamps}
use Rattle.log_replay.specs.Shared.{kept, kept_runs}

-- what an arrival fired, where there is one
abbrev pub fired_as : Option (Option Firing) → Option Firing → Bool
fired_as None firing = false
fired_as (Some own) firing = same_fired own firing

-- whether the last of the entries, of which there were so many before, has this number and firing
abbrev pub is_recorded : List Entry → ℕ → ℕ → Option Firing → Bool
is_recorded entries before number firing = nat_lt before number && (length entries == number && fired_as (slice_get (map (λ (e : Entry). e.firing) entries) before) firing)

-- the effects of a firing, where there is one
abbrev pub effects_at : Option (Option Firing) → List Effect
effects_at None = []
effects_at (Some firing) = firing_effects firing

-- the actor that an effect posts to, where there is one
abbrev pub target_at : Option Effect → Option ℕ
target_at None = None
target_at (Some (Print text)) = None
target_at (Some (Post target message)) = Some target
target_at (Some (Reply number value)) = None

-- a new actor counts late messages of the source of each of the entries
abbrev pub AreCounted : Plan → ℕ → List Entry → Type 0
AreCounted plan feeds entries = AllByRecursion (λ entry. HasCount (opening feeds (length plan.actors)).late entry.source) entries

-- the run that an actor shows behind the fair steps over read arrivals, without stamps
abbrev pub made_of : Plan → Limits → ℕ → ℕ → List Entry → ActorRun
made_of plan limits feeds index entries = fair_run plan index limits feeds (map bare entries)

-- with the stamps that were read, its entries are the read ones
pub record IsMade (plan : Plan) (limits : Limits) (feeds index : ℕ) (entries : List Entry) (made : Made) : Type 0 where
  pub own : made.own ≡ made_of plan limits feeds index entries
  pub back : with_stamps made.stamps made.own.entries ≡ entries

abbrev pub kept_of : Plan → Limits → ℕ → ℕ → List Entry → Shared
kept_of plan limits feeds index entries = kept entries (made_of plan limits feeds index entries)

-- the section is as it was, and the run beside it is what is kept of that of its actor
pub record IsRemade (plan : Plan) (limits : Limits) (feeds index : ℕ) (section : ActorRun) (remade : Remade) : Type 0 where
  pub read : remade.read ≡ section
  pub own : remade.own ≡ kept_of plan limits feeds index section.entries

-- of the sections from this actor on
abbrev pub kept_from : Plan → Limits → ℕ → ℕ → List ActorRun → List Shared
kept_from plan limits feeds index [] = []
kept_from plan limits feeds index (section ∷ sections) = kept_of plan limits feeds index section.entries ∷ kept_from plan limits feeds (index + 1) sections

-- the run is as it was, with what is kept of what its actors make
pub record IsHanded (plan : Plan) (run : Run) (replayed : Replayed) : Type 0 where
  pub back : replayed.run ≡ run
  pub made : replayed.made ≡ kept_runs plan run 0 (length plan.actors)
  pub texts : AllRulesFit plan run.limits
