-- The summary of a run of the building: a line for the whole, and one for each actor.
use Rattle.std.specs.Prelude.{ℕ, ◌+◌, List, [], ◌∷◌, ◌++◌, codes, length}
use Rattle.std.specs.List.{count_by, sum_by}
use Rattle.std.specs.Option.{is_some}
use Rattle.std.specs.Fmt.{decimal}
use Rattle.join_base.specs.declared.message.Source.{Source}
use Rattle.script_types.specs.declared.plan.ActorPlan.{ActorPlan}
use Rattle.script_types.specs.declared.plan.Plan.{Plan}
use Rattle.fair_semantics.specs.declared.run.Entry.{Entry}
use Rattle.fair_semantics.specs.declared.run.ActorRun.{ActorRun}
use Rattle.fair_semantics.specs.declared.run.Run.{Run}

-- how many of the arrivals fired
abbrev pub firing_count : List Entry → ℕ
firing_count entries = count_by (λ (entry : Entry). is_some entry.firing) entries

-- how many messages were late, over all sources
abbrev pub late_total : List (Source × ℕ) → ℕ
late_total late = sum_by (λ (l : Source × ℕ). l.1) late

-- ` arrivals N firings N late N left N partials N`
abbrev pub counts_text : ActorRun → List ℕ
counts_text own =
    codes " arrivals " ++ (decimal (length own.entries)
    ++ (codes " firings " ++ (decimal (firing_count own.entries)
    ++ (codes " late " ++ (decimal (late_total own.late)
    ++ (codes " left " ++ (decimal (length own.left)
    ++ (codes " partials " ++ decimal own.partials))))))))

-- `actor NAME`, its counts, and LF
abbrev pub actor_line : ActorPlan → ActorRun → List ℕ
actor_line named own = codes "actor " ++ (named.name ++ (counts_text own ++ 10 ∷ []))

-- the lines of the actors, in order
abbrev pub actor_lines : List ActorPlan → List ActorRun → List ℕ
actor_lines [] runs = []
actor_lines (named ∷ actors) [] = []
actor_lines (named ∷ actors) (own ∷ runs) = actor_line named own ++ actor_lines actors runs

-- `load N feeds F`, and the lines of the actors
abbrev pub summary_text : ℕ → Plan → Run → List ℕ
summary_text rows plan run = codes "load " ++ (decimal rows ++ (codes " feeds " ++ (decimal run.feeds ++ (10 ∷ actor_lines plan.actors run.actors))))
