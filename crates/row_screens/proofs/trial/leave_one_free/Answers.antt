use Rattle.std.proofs.Common.{◌∙◌, ℕ, ap, sym, arith}
use Rattle.std.specs.Prelude.{nat_lt}
use Rattle.pattern_core.proofs.SuitsLemmas.{length-SlotsSuit}
use Rattle.row_screens.specs.Offering.{offered}
use Rattle.row_screens.proofs.FreeLemmas.{free_leaves}
use Rattle.row_screens.proofs.trial.leave_one_free.Goals as goal

pub count_free-requires : goal.count_free-requires
count_free-requires c =
    let o = offered c.args.offer.now in
    record {
      long = length-SlotsSuit o.messages o.definition.patterns c.args.slots.now c.requires.can.suits ∙ sym c.len.ensures.count;
      few = omega (arith, c.len.ensures.count, c.requires.can.definition.few);
    }

pub returns : goal.returns
returns c = λ p free. free_leaves c.args.slots.now p c.args.offer.now.number free ∙ ap (λ (k : ℕ). nat_lt 1 k) (sym c.count_free.ensures)
