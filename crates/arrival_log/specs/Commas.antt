-- What private functions append: commas between the items of a list, and the pieces of an arrival's line.
use Rattle.join_base.specs.declared.message.Source.{Source}
use Rattle.join_base.specs.declared.message.Source.TheVariants.{Feed, Actor}
use Rattle.script_types.specs.declared.plan.Plan.{Plan}
use Rattle.script_types.specs.Names.{name_of_actor}
use Rattle.std.specs.Fmt.{decimal}
use Rattle.std.specs.Prelude.{codes, ◌==◌, ◌||◌, Bool, not, if◌then◌else◌, ◌++◌, ℕ, zero, suc, List, [], ◌∷◌}
use Rattle.join_base.specs.Quoted.{is_control}
use Rattle.fair_semantics.specs.declared.run.Entry.{Entry}

-- the comma before the item at a place, which the first lacks
abbrev pub comma_before : ℕ → List ℕ
comma_before zero = []
comma_before (suc place) = 44 ∷ []

-- what stands behind an arrival's number: ` at S` in version 2, and nothing in version 1
abbrev pub stamp_behind : ℕ → ℕ → List ℕ
stamp_behind version stamp = if version == 1 then [] else codes " at " ++ decimal stamp

-- what stands behind an arrival's number and stamp, up to the message
abbrev pub source_between : Plan → Source → List ℕ
source_between plan (Feed k) = codes " from feed " ++ (decimal k ++ codes " ")
source_between plan (Actor actor) = codes " from actor " ++ (name_of_actor plan actor ++ codes " ")

-- an arrival's line up to the message
abbrev pub arrival_front : Plan → ℕ → Entry → List ℕ
arrival_front plan version entry = decimal entry.number ++ (stamp_behind version entry.stamp ++ source_between plan entry.source)

-- whether a byte stands for itself between quotes
abbrev pub is_plain_byte : ℕ → Bool
is_plain_byte b = not (b == 34 || b == 92 || is_control b)
