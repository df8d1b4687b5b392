-- What the visitor that collects a plan has with what it takes next.
use Rattle.std.specs.Prelude.{ℕ, List, [], ◌∷◌, ◌++◌}
use Rattle.script_types.specs.declared.plan.Rule.{Rule}
use Rattle.script_plan.specs.declared.collector.Collector.{Collector}

-- the name of an actor is kept at the end of its definitions
abbrev pub begun_collected : Collector → List ℕ → Collector
begun_collected s name = s

abbrev pub rule_collected : Collector → Rule → Collector
rule_collected s rule = record { actors = s.actors; rules = s.rules ++ rule ∷ [] }

abbrev pub end_collected : Collector → List ℕ → Collector
end_collected s name = record { actors = s.actors ++ record { name = name; rules = s.rules } ∷ []; rules = [] }
