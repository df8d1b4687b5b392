use Rattle.std.proofs.Common.{◌≡◌, take}
use Rattle.guard_eval.specs.Shape.{conjunct_condition}
use Rattle.script_grammar.specs.AtomViews.{atom_view, atoms_view, conjunct_view}
use Rattle.script_plan.specs.PlanOf.{condition_of}
use Rattle.script_plan.proofs.GuardLemmas.{atom_size, atoms_size}
use Rattle.script_plan.proofs.guard.+guard.Given as goal

abbrev pub invariant-condition_of-loop-decl : goal.invariant-condition_of-loop-decl
invariant-condition_of-loop-decl l = conjunct_condition l.conjunct ≡ condition_of l.variables (atoms_view (take l.decl-index l.decl-items))

abbrev pub decreases-atom_of : goal.decreases-atom_of
decreases-atom_of l = atom_size (atom_view l.decl.now)

abbrev pub decreases-condition_of : goal.decreases-condition_of
decreases-condition_of l = atoms_size (conjunct_view l.decl.now)
