use Rattle.std.proofs.Common.{arith}
use Rattle.tree_rows.proofs.OrderLemmas.{rise_at}
use Rattle.row_screens.proofs.LookLemmas.{rise_to}
use Rattle.row_screens.proofs.look.place_in_tiers.Goals as goal

pub first_from-place-requires : goal.first_from-place-requires
first_from-place-requires c = record { rise = λ i j l m. rise_at c.args.leaves.now i j c.requires.rise l m }

pub returns-then-place-from : goal.returns-then-place-from
returns-then-place-from c =
    let leaves = c.args.leaves.now in
    record {
      from = omega arith;
      within = c.requires.within;
      less = λ i l m. absurd (omega arith);
      reached = λ m.
          let up = rise_to leaves c.first_from-place.result c.args.from c.requires.rise (omega (arith, c.if-place-from.true)) m in
          let there = c.first_from-place.ensures.reached (omega (arith, m, c.if-place-from.true)) in
          omega arith;
    }
