use Rattle.std.proofs.Common.{◌≡◌, ◌∙◌, ap, refl}
use Rattle.value_index.specs.declared.valued.Valued.{Valued}
use Rattle.value_index.proofs.column.Column.remove.Goals as goal

pub returns-clause-loses : goal.returns-clause-loses
returns-clause-loses c = record {
  indexed = refl;
  others = λ v apart there. c.remove_valued.ensures.keeps v (λ (same : v ≡ c.new.result). apart (ap (λ (x : Valued). x.number) (same ∙ c.new.ensures))) there;
  none = c.remove_valued.ensures.adds_none;
}
