-- A condition with a `!` or parentheses around it.
use Rattle.std.specs.Prelude.{Bool, true, false, List, [], ◌∷◌}
use Rattle.guard_eval.specs.Condition.{Condition, Never, Negated, Grouped, Either}

abbrev pub condition_marked : Bool → Condition → Condition
condition_marked true condition = Negated condition
condition_marked false condition = Grouped (Either condition Never)

-- the first mark is the outermost
abbrev pub condition_under : List Bool → Condition → Condition
condition_under [] condition = condition
condition_under (mark ∷ marks) condition = condition_marked mark (condition_under marks condition)
