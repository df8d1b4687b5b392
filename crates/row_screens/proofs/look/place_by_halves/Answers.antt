use Rattle.std.proofs.Common.{ℕ, ◌+◌, ◌-◌, ◌/◌, arith}
use Rattle.tree_rows.specs.RowNumbers.{numbers_in}
use Rattle.row_screens.proofs.LookLemmas.{rise_to}
use Rattle.row_screens.proofs.look.place_by_halves.Goals as goal

pub loop-low-preserved-then-at-number : goal.loop-low-preserved-then-at-number
loop-low-preserved-then-at-number c =
    let before = c.loop-low.invariant in
    let middle : ℕ = c.loop-low.low + (c.loop-low.high - c.loop-low.low) / 2 in
    record {
      from = omega (arith, before.from);
      order = omega arith;
      within = before.within;
      less = λ i l m.
          let up = rise_to (numbers_in c.args.numbers.now) i middle c.requires.rise (omega arith) (omega (arith, before.within)) in
          omega (arith, c.at.ensures);
      reached = before.reached;
    }
