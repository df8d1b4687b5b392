use Rattle.std.proofs.Common.{arith}
use Rattle.tree_rows.proofs.LeafLemmas.{number_passed}
use Rattle.tree_rows.proofs.OrderLemmas.{rise_at}
use Rattle.tree_rows.proofs.row.place_of_tiered.Goals as goal

pub first_from-place-requires : goal.first_from-place-requires
first_from-place-requires c = record { rise = λ i j l m. rise_at c.args.leaves.now i j c.requires l m }

pub returns-then-at-number : goal.returns-then-at-number
returns-then-at-number c =
    let found = c.first_from-place.ensures in
    number_passed c.args.leaves.now c.args.number c.first_from-place.result c.requires found.less (λ l. let there = found.reached l in omega (arith, c.at.ensures, c.if-at-number.true))
