use Rattle.std.proofs.Common.{◌∙◌, ◌+◌, ℕ, List, drop, get_or, ap, sym, arith}
use Rattle.std.proofs.lemmas.List.{drop_more}
use Rattle.std.proofs.Math.ListN.{drop_of_length-le}
use Rattle.join_base.specs.Taken.{without}
use Rattle.mailbox_core.proofs.LiveLemmas.{without_first, without_none}
use Rattle.mailbox_core.proofs.live.LiveNumbers.remove_all.Goals as goal

pub loop-number-preserved : goal.loop-number-preserved
loop-number-preserved c =
    let numbers = c.args.numbers.now in
    let i = c.loop-number.number-index in
    let here = c.loop-number.self.numbers in
    record {
      count = c.remove.ensures.count ∙ c.loop-number.invariant.count;
      numbers =
          ap (λ (ns : List ℕ). without ns (drop (i + 1) numbers)) c.remove.ensures.numbers
          ∙ sym (without_first here (get_or numbers i 0) (drop (i + 1) numbers))
          ∙ ap (without here) (sym (drop_more numbers i 0 c.loop-number-test.true))
          ∙ c.loop-number.invariant.numbers;
      room = c.remove.ensures.room ∙ c.loop-number.invariant.room;
    }

pub returns-clause-numbers : goal.returns-clause-numbers
returns-clause-numbers c =
    let here = c.loop-number.self.numbers in
    sym (without_none here) ∙ ap (without here) (sym (drop_of_length-le c.args.numbers.now {i = c.loop-number.number-index} (omega arith))) ∙ c.loop-number.invariant.numbers
