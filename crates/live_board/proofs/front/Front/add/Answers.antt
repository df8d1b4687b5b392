use Rattle.std.proofs.Common.{sym, ◌∙◌, ap, length}
use Rattle.live_board.proofs.AddLemmas.{adds-moves}
use Rattle.live_board.proofs.front.Front.add.Goals as goal

pub compare_exchange-found-requires : goal.compare_exchange-found-requires
compare_exchange-found-requires c =
    let h = c.requires.head in
    let copy = ap (λ s. s.book) c.again-seen.ensures in
    let offer = c.plain-offer.ensures in
    let pen = c.no_pen-pen.ensures in (
      ap (λ w. w.tracked) h,
      copy ∙ sym (ap (λ w. w.book) h),
      pen.0 ∙ (copy ∙ sym (ap (λ w. w.book) h)),
      offer.0,
      rw (ap (λ w. w.key) h, pen.1, offer.1, offer.3) (adds-moves c.again-seen.result.log c.args.item c.args.self.now.count (ap (λ s. length s.log) c.again-seen.ensures ∙ sym c.args.self.now.counted)),
    )
