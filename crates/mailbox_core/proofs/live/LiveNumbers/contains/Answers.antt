use Rattle.std.proofs.Common.{◌∙◌, ◌-◌, sym, ap, arith, get_or}
use Rattle.std.specs.Prelude.{◌==◌}
use Rattle.join_base.specs.Taken.{contains_number}
use Rattle.mailbox_core.specs.Live.{Live}
use Rattle.mailbox_core.proofs.LiveLemmas.{contains_at, no_zero, none_beyond}
use Rattle.mailbox_core.proofs.live.LiveNumbers.contains.Goals as goal
use Rattle.mailbox_core.proofs.live.LiveNumbers.contains.Goals.{then-number-eq0-via-then-number-eq0, then-number-eq0-via-else-number-eq0+then-number-cells}

pub returns-then-number-eq0 : goal.returns-then-number-eq0
returns-then-number-eq0 c =
    let cells = c.self.inside.cells.items in
    elim c.then-number-eq0.branch [
      | then-number-eq0-via-then-number-eq0 w ↦ sym (no_zero cells c.args.number w.if-number-eq0.true c.self.invariant.in_place) ∙ ap (λ (v : Live). contains_number v.numbers c.args.number) c.self.view_is
      | then-number-eq0-via-else-number-eq0+then-number-cells w ↦ sym (none_beyond cells c.args.number (omega (arith, w.if-number-cells.true, c.as_slice-cells.ensures.len)) c.self.invariant.in_place) ∙ ap (λ (v : Live). contains_number v.numbers c.args.number) c.self.view_is
    ]

pub returns : goal.returns
returns c =
    let cells = c.self.inside.cells.items in
    ap (λ (xs : _). get_or xs (c.args.number - 1) 0 == c.args.number) c.as_slice-cells.ensures.value
    ∙ sym (contains_at 1 cells (c.args.number - 1) c.args.number (omega arith) (omega arith) c.self.invariant.in_place) ∙ ap (λ (v : Live). contains_number v.numbers c.args.number) c.self.view_is
