use Rattle.std.proofs.Common.{◌≡◌, Bor, List, ℕ, drop, map}
use Rattle.script_names.specs.Names.{names_of}
use Rattle.script_faults.specs.First.{first_of}
use Rattle.script_faults.specs.Faults.{twice_declared, twice_from}
use Rattle.script_faults.proofs.declared.note_twice.Given as goal

-- the rows that are left tell what is still to be found
abbrev pub invariant-loop-number : goal.invariant-loop-number
invariant-loop-number g l =
    first_of l.found (twice_from g.T.Placed.place (names_of l.table) l.number (map (λ (r : Bor (List ℕ) × g.row.T.Denot). (r.0.now, r.1)) (drop l.number l.name-items)))
    ≡ first_of l.initial.found (twice_declared g.T.Placed.place l.table)
