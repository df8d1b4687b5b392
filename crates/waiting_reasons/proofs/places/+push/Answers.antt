use Rattle.std.proofs.Common.{◌≡◌, ◌++◌, ◌∙◌, ap, sym, subst}
use Rattle.std.specs.Prelude.{OnOk}
use Rattle.guard_eval.specs.Condition.{Condition}
use Rattle.guard_eval.specs.Meaning.{needs_of}
use Rattle.guard_eval.specs.Shape.{atom_condition}
use Rattle.guard_eval.proofs.GroupLemmas.{atom_condition-Group}
use Rattle.waiting_reasons.specs.Guards.{places_in}
use Rattle.waiting_reasons.proofs.places.+push.Goals as goal

pub push_atom-returns-in-Group : goal.push_atom-returns-in-Group
push_atom-returns-in-Group t c =
    let same = sym (atom_condition-Group c.in-Group.inner) ∙ ap atom_condition (sym c.in-Group.is) in
    subst (λ (x : Condition). OnOk c.push_conjunct.result (c.push_conjunct.new.places ≡ c.args.places.now ++ places_in (needs_of x))) same c.push_conjunct.ensures
