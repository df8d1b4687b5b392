use Rattle.std.proofs.Common.{◌≡◌, ◌+◌, ◌∷◌, ◌++◌, [], ℕ, List, length, take, refl, sym, ap, subst, append_assoc, ◌∙◌, arith}
use mathlib.Core.List.{IsPrefix}
use Rattle.live_board.specs.declared.record.Record.{Record}
use Rattle.live_board.specs.Folding.{board_of, records_from}
use Rattle.live_board.specs.Writers.{published}
use Rattle.live_board.proofs.BeginLemmas.{longer-begins}
use Rattle.live_board.proofs.FoldLemmas.{board-length, board-more, records-more, records-whole, row-more, take-whole}
use Rattle.live_board.proofs.writer.BoardWriter.publish_all.Goals as goal

pub loop-actor-preserved : goal.loop-actor-preserved
loop-actor-preserved g c =
    let before = c.loop-actor.invariant in
    let step = c.in_ok-publish.ensures in
    let rows = length c.args.totals.now in
    let initial = published c.args.self.now in
    let old = published c.loop-actor.self in
    let done = records_from 0 (take c.loop-actor.actor c.args.totals.now) in
    let item : Record = record { actor = c.loop-actor.actor; totals = c.at.result.now } in record {
      book = step.book ∙ before.book;
      rows = step.rows ∙ before.rows;
      kept = longer-begins _ old _ item before.kept step.published;
      records = step.published ∙ ap (λ (l : List Record). l ++ item ∷ []) before.records ∙ append_assoc initial done (item ∷ [])
          ∙ ap (λ (l : List Record). initial ++ l) (sym (records-more 0 c.loop-actor.actor c.loop-actor.actor c.args.totals.now c.at.result.now (omega arith) c.at.ensures.item));
      done = ap (λ (l : List Record). take (c.loop-actor.actor + 1) (board_of rows l)) step.published ∙ ap (take (c.loop-actor.actor + 1)) (board-more rows old item)
          ∙ row-more (board_of rows old) c.args.totals.now c.loop-actor.actor c.at.result.now (board-length rows old) c.at.ensures.item before.done;
    }

pub returns-in_err-publish-clause-first : goal.returns-in_err-publish-clause-first
returns-in_err-publish-clause-first g c = (c.loop-actor.actor, c.in_err-publish.ensures.published ∙ c.loop-actor.invariant.records)

pub returns-clause-first : goal.returns-clause-first
returns-clause-first g c = (c.loop-actor.actor, c.loop-actor.invariant.records)

pub returns-clause-all : goal.returns-clause-all
returns-clause-all g c =
    let initial = published c.args.self.now in
    let end : c.loop-actor.actor ≡ length c.args.totals.now = omega (arith, c.loop-actor-test.false, c.loop-actor.auto.actor-end, c.len-count.ensures.count) in
    c.loop-actor.invariant.records ∙ ap (λ (l : List Record). initial ++ l) (records-whole c.loop-actor.actor c.args.totals.now end)

pub returns-clause-board : goal.returns-clause-board
returns-clause-board g c =
    let before = c.loop-actor.invariant in
    let rows = length c.args.totals.now in
    let now = published c.loop-actor.self in
    let end : c.loop-actor.actor ≡ rows = omega (arith, c.loop-actor-test.false, c.loop-actor.auto.actor-end, c.len-count.ensures.count) in
    take-whole (board_of rows now) c.args.totals.now rows (board-length rows now) refl (subst (λ (n : ℕ). take n (board_of rows now) ≡ take n c.args.totals.now) end before.done)
