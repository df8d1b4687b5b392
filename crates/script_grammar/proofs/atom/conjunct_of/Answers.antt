use Rattle.std.proofs.Common.{Bool, List, ap, ◌∙◌}
use Rattle.script_grammar.specs.declared.tree.ConjunctDecl.{ConjunctDecl}
use Rattle.script_grammar.specs.Atoms.{grouped}
use Rattle.script_grammar.specs.AtomViews.{conjunct_view}
use Rattle.script_grammar.specs.Prefixes.{under}
use Rattle.script_grammar.proofs.GroupLemmas.{atom_view-Group, atoms_view-map}
use Rattle.script_grammar.proofs.atom.conjunct_of.Goals as goal

pub returns : goal.returns
returns c =
    let conjunct : ConjunctDecl = record { atoms = c.args.atoms } in
    atom_view-Group c.none.result conjunct
    ∙ ap (λ (marks : List Bool). under marks (grouped (conjunct_view conjunct))) c.none.ensures
    ∙ ap grouped (atoms_view-map c.args.atoms.items)
