use Rattle.std.proofs.Common.{◌≡◌, ◌∙◌, sym, arith}
use Rattle.std.specs.Prelude.{◌&&◌}
use Rattle.row_screens.specs.PlaceSet.{has}
use Rattle.row_screens.specs.Ties.{names, needs_at}
use Rattle.row_screens.proofs.trial.asks_none.Goals as goal

pub returns : goal.returns
returns c =
    let a = c.args in
    let conjuncts = a.offer.now.definition.now.conjuncts in
    λ yes. record {
      few = omega (arith, c.if-len-gt64.false, c.len.ensures);
      none = λ k small.
          let named : has c.both.result k ≡ (names a.pattern (needs_at conjuncts k) && has a.asked k) = c.both.ensures k ∙ (λ i. a.offer.now.tied a.pattern c.naming.result c.naming.ensures k small i && has a.asked k) in
          sym named ∙ c.is_empty.ensures yes k;
    }
