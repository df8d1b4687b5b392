use Rattle.std.proofs.Common.{refl, ap, ◌∙◌, arith}
use Rattle.actor_turn.specs.Held.{Held}
use Rattle.actor_cells.proofs.CellLemmas.{kept-refl, kept-trans}
use Rattle.actor_cells.proofs.SentLemmas.{all-sent, still-sent}
use Rattle.actor_cells.proofs.cell.Cell.send.Goals as goal

pub loop-place-init : goal.loop-place-init
loop-place-init c = record { kept = kept-refl c.args.self.now c.requires.lawful; inward = refl; state = refl; sent = λ place w below there. absurd (omega (arith, below)); count = refl }

pub send_at-sent-requires-clause-lawful : goal.send_at-sent-requires-clause-lawful
send_at-sent-requires-clause-lawful c = c.loop-place.invariant.kept.lawful

pub loop-place-preserved : goal.loop-place-preserved
loop-place-preserved c =
    let before = c.loop-place.invariant in
    let step = c.send_at-sent.ensures in
    record {
      kept = kept-trans c.args.self.now c.loop-place.self c.send_at-sent.new.self before.kept step.kept;
      inward = step.inward ∙ before.inward;
      state = step.state ∙ before.state;
      sent = step.sent before.sent;
      count = step.count ∙ before.count;
    }

pub note-requires : goal.note-requires
note-requires c = record { lawful = c.loop-place.invariant.kept.lawful }

pub returns : goal.returns
returns c =
    let before = c.loop-place.invariant in
    let step = c.note.ensures in
    let all = all-sent c.loop-place.self c.loop-place.place (omega (arith, c.loop-place-test.false, c.len-place-end.ensures, before.count, c.args.self.now.outward.ok.0)) before.sent in
    record {
      kept = kept-trans c.args.self.now c.loop-place.self c.note.new.self before.kept step.kept;
      inward = step.inward ∙ before.inward;
      state = ap (λ (h : Held). h.state) step.held ∙ before.state;
      sent = still-sent c.loop-place.self c.note.new.self step.outward step.held all;
    }
