use Rattle.std.proofs.Common.{ap, subst, refl, List}
use Rattle.std.specs.Prelude.{nat_le}
use mathlib.Core.List.{IsPrefix}
use Rattle.live_board.specs.declared.record.Record.{Record}
use Rattle.live_board.proofs.BeginLemmas.{prefix-ordered}
use Rattle.live_board.proofs.front.Front.begins.Goals as goal

pub returns : goal.returns
returns c =
    let own = c.args.self.now in
    let other = c.args.other.now in
    let both = c.learn.new.self.log in
    let this : IsPrefix own.seen.log both = subst (λ (l : List Record). IsPrefix l both) (ap (λ s. s.log) c.again-both.ensures) c.learn.ensures.2 in
    record { begins = prefix-ordered own.seen.log other.seen.log both own.count other.count own.counted other.counted this c.learn.ensures.3 (nat_le own.count other.count) refl }
