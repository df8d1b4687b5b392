use Rattle.std.proofs.Common.{sym, subst}
use Rattle.script_grammar.specs.declared.tree.AtomDecl.{AtomDecl}
use Rattle.script_grammar.specs.AtomViews.{HasRoom}
use Rattle.script_grammar.proofs.atom.has_room.Goals as goal

pub returns-in-Compare : goal.returns-in-Compare
returns-in-Compare c = λ is. let Room : AtomDecl → Type 0 = λ (atom : AtomDecl). HasRoom atom in
    subst Room (sym c.in-Compare.is) (c.has_room.ensures.count is, c.has_room.ensures.bits is)

pub returns-in-Group : goal.returns-in-Group
returns-in-Group c = λ is. let Room : AtomDecl → Type 0 = λ (atom : AtomDecl). HasRoom atom in
    subst Room (sym c.in-Group.is) (c.has_room-in-Group.ensures.count is, c.has_room-in-Group.ensures.bits is)
