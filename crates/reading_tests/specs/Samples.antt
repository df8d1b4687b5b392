-- The plan of the logs.
use Rattle.std.specs.Prelude.{ℕ, List, [], ◌∷◌, codes}
use Rattle.join_base.specs.declared.message.Sort.{Sort}
use Rattle.join_base.specs.declared.message.Sort.TheVariants.{Int, Words}
use Rattle.script_types.specs.declared.plan.ActorPlan.{ActorPlan}
use Rattle.script_types.specs.declared.plan.Kind.{Kind}
use Rattle.script_types.specs.declared.plan.Plan.{Plan}

-- a kind with one field `x`
abbrev pub one_field : List ℕ → Sort → Kind
one_field name sort = record { name = name; fields = (codes "x", sort) ∷ [] }

abbrev pub no_field : List ℕ → Kind
no_field name = record { name = name; fields = [] }

-- an actor without rules, of which a log shows nothing
abbrev pub ruleless : List ℕ → ActorPlan
ruleless name = record { name = name; rules = [] }

-- two kinds of integers, one of texts and one without a field, for two actors
abbrev pub sample_plan : Plan
sample_plan = record {
  kinds = one_field (codes "a") Int ∷ one_field (codes "b") Int ∷ one_field (codes "say") Words ∷ no_field (codes "go") ∷ [];
  actors = ruleless (codes "m") ∷ ruleless (codes "n") ∷ [];
}
