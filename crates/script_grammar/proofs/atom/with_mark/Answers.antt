use Rattle.std.proofs.Common.{Bool, List, ap, sym, subst, ◌∙◌}
use Rattle.script_grammar.specs.declared.tree.AtomDecl.{AtomDecl}
use Rattle.script_grammar.specs.Atoms.{compares, grouped}
use Rattle.script_grammar.specs.Prefixes.{marked, under}
use Rattle.script_grammar.specs.AtomViews.{HasRoom, atom_view, conjunct_view}
use Rattle.script_grammar.proofs.GroupLemmas.{atom_view-Group}
use Rattle.script_grammar.proofs.atom.with_mark.Goals as goal

pub with-requires : goal.with-requires
with-requires c =
    let Room : AtomDecl → Type 0 = λ (atom : AtomDecl). HasRoom atom in
    let room = subst Room c.in-Compare.is c.requires in
    record { count = room.0; bits = room.1 }

pub with-requires-in-Group : goal.with-requires-in-Group
with-requires-in-Group c =
    let Room : AtomDecl → Type 0 = λ (atom : AtomDecl). HasRoom atom in
    let room = subst Room c.in-Group.is c.requires in
    record { count = room.0; bits = room.1 }

pub returns-in-Compare : goal.returns-in-Compare
returns-in-Compare c =
    ap (λ (marks : List Bool). under marks (compares c.in-Compare.left c.in-Compare.relation c.in-Compare.right)) c.with.ensures
    ∙ ap (λ (atom : AtomDecl). marked c.args.is_not (atom_view atom)) (sym c.in-Compare.is)

pub returns-in-Group : goal.returns-in-Group
returns-in-Group c =
    atom_view-Group c.with-in-Group.result c.in-Group.conjunct
    ∙ ap (λ (marks : List Bool). under marks (grouped (conjunct_view c.in-Group.conjunct))) c.with-in-Group.ensures
    ∙ ap (marked c.args.is_not) (sym (atom_view-Group c.in-Group.prefix c.in-Group.conjunct))
    ∙ ap (λ (atom : AtomDecl). marked c.args.is_not (atom_view atom)) (sym c.in-Group.is)

pub returns-in-Not : goal.returns-in-Not
returns-in-Not c = let Room : AtomDecl → Type 0 = λ (atom : AtomDecl). HasRoom atom in absurd (subst Room c.in-Not.is c.requires)
