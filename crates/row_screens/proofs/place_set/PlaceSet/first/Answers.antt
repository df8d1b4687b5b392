use Rattle.std.proofs.Common.{◌∙◌, ap, rules, arith}
use Rattle.std.specs.Prelude.{◌==◌}
use Rattle.std.specs.Int.{bit_at}
use Rattle.row_screens.proofs.PlaceSetLemmas.{bit_first, none_has}
use Rattle.row_screens.proofs.place_set.PlaceSet.first.Goals as goal

pub returns-then-self-eq0 : goal.returns-then-self-eq0
returns-then-self-eq0 c = λ k. ap (λ n. bit_at n k == 1) c.if-self-eq0.true ∙ none_has k

pub returns : goal.returns
returns c = bit_first c.args.self.bits (omega (arith, c.if-self-eq0.false)) (search rules)
