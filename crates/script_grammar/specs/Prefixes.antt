-- What the prefix of an atom says.
use Rattle.std.specs.Prelude.{ℕ, zero, suc, ◌/◌, ◌%◌, ◌==◌, Bool, true, false, List, [], ◌∷◌}
use Rattle.script_grammar.specs.declared.prefix.Prefix.{Prefix}
use Rattle.script_grammar.specs.Atoms.{Atom, negated, grouped, no_atoms, either}

-- so many of the lowest bits, the lowest first
abbrev pub bits_of : ℕ → ℕ → List Bool
bits_of zero bits = []
bits_of (suc count) bits = (bits % 2 == 1) ∷ bits_of count (bits / 2)

-- from the outside: whether it is a `!`, or else parentheses
abbrev pub marks_of : Prefix → List Bool
marks_of prefix = bits_of prefix.count prefix.bits

abbrev pub marked : Bool → Atom → Atom
marked true atom = negated atom
marked false atom = grouped (either atom no_atoms)

-- an atom with these around it
abbrev pub under : List Bool → Atom → Atom
under [] atom = atom
under (mark ∷ marks) atom = marked mark (under marks atom)
