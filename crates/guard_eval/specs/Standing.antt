-- How the patterns of some variables stand: there is no variable, or each pattern is filled, or one is empty.
use Rattle.std.specs.Prelude.{List, Bool, true, false, fold}
use Rattle.guard_eval.specs.declared.standing.Standing.{Standing}
use Rattle.guard_eval.specs.declared.standing.Standing.TheVariants.{NoVariable, Filled, Open}
use Rattle.guard_eval.specs.Meaning.{Assignment, Need, is_filled}

-- with one variable more, whose pattern is filled or not
abbrev pub with_one : Standing → Bool → Standing
with_one before false = Open
with_one NoVariable true = Filled
with_one Filled true = Filled
with_one Open true = Open

-- there is a variable, and the pattern of each is filled
abbrev pub all_filled : Standing → Bool
all_filled NoVariable = false
all_filled Filled = true
all_filled Open = false

-- with these variables beside those before
abbrev pub standing_beside : Assignment → Standing → List Need → Standing
standing_beside slots before needs = fold (λ standing need. with_one standing (is_filled slots need)) before needs
