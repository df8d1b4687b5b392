use Rattle.std.proofs.Common.{◌≡◌, ◌∙◌, ap, refl}
use Rattle.value_index.specs.declared.valued.Valued.{Valued}
use Rattle.value_index.proofs.column.Column.insert.Goals as goal

pub returns-clause-gains : goal.returns-clause-gains
returns-clause-gains c = record {
  indexed = refl;
  keeps = c.add_valued.ensures.keeps;
  only = λ v apart there. c.add_valued.ensures.only v (λ (same : v ≡ c.new.result). apart (ap (λ (x : Valued). x.number) (same ∙ c.new.ensures))) there;
}
