use Rattle.std.proofs.Common.{◌∙◌, ◌++◌, ap, List}
use Rattle.std.proofs.lemmas.Result.{on_ok_weaker}
use Rattle.guard_eval.specs.declared.conjunct.Atom.{Atom}
use Rattle.guard_eval.specs.Shape.{atoms_condition}
use Rattle.plan_text.specs.GuardText.{condition_text}
use Rattle.plan_text.proofs.GuardLemmas.{conjunct_written, group_written}
use Rattle.plan_text.proofs.guards.+write.Goals as goal

pub write_atom-returns-in_ok-write_conjunct-in-Group : goal.write_atom-returns-in_ok-write_conjunct-in-Group
write_atom-returns-in_ok-write_conjunct-in-Group t c =
    on_ok_weaker c.push_all-in-Group-2.result
    (group_written c.args.variables.now c.in-Group.inner c.args.atom.now c.args.text.now c.push_all-in-Group.new.self c.write_conjunct.new.text c.push_all-in-Group-2.new.self
    c.in-Group.is c.in_ok-push_all-in-Group.ensures.ok c.in_ok-write_conjunct-in-Group.ensures)
    c.push_all-in-Group-2.ensures.ok

pub write_conjunct-returns-after-loop-atom : goal.write_conjunct-returns-after-loop-atom
write_conjunct-returns-after-loop-atom t c =
    conjunct_written c.args.variables.now c.as_slice.result.now c.first-item.result c.loop-atom.atom-index c.args.text.now c.write_atom.new.text c.loop-atom.text
    c.in-len1-up.len_at_least c.first-item.is c.loop-atom-test.false c.in_ok-write_atom-in-len1-up.ensures c.loop-atom.invariant
    ∙ ap (λ (as' : List Atom). c.args.text.now ++ condition_text c.args.variables.now (atoms_condition as')) c.as_slice.ensures.value
