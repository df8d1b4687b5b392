use Rattle.std.proofs.Common.{◌∙◌, sym, subst, refl}
use Rattle.std.proofs.lemmas.Result.{err_from_is_err_and}
use Rattle.fair_semantics.specs.declared.run.Run.{Run}
use Rattle.log_reader.specs.declared.draft.Draft.{Draft}
use Rattle.log_reader.specs.Log.{IsLogOf}
use Rattle.log_reader.proofs.ReadLemmas.{ReadsLines, failed, not_read, reads_first, reads_more, reads_whole, refused_empty, refused_first}
use Rattle.log_reader.proofs.read.read_log.Goals as goal

pub returns-in_default : goal.returns-in_default
returns-in_default c = record { answer = refused_empty c.args.plan.now c.args.bytes.now c.requires.typed c.in_default.ensures.parts }

pub returns-in_default-read_head : goal.returns-in_default-read_head
returns-in_default-read_head c = record {
  answer = refused_first c.args.plan.now c.args.bytes.now c.in-Some.first.now c.in-Some.behind.now c.requires.typed c.in-Some.ensures.parts (c.in_default-read_head.ensures.none refl);
}

pub lines-init : goal.lines-init
lines-init c =
    subst (λ (d : Draft). ReadsLines c.args.plan.now c.args.bytes.now c.in-Some.behind.now 1 d) (sym c.new-draft.ensures)
    (reads_first c.args.plan.now c.args.bytes.now c.in-Some.first.now c.in-Some.behind.now c.in-Some-read_head.head c.in-Some.ensures.parts c.in-Some-read_head.ensures.found)

pub returns-in_err-advance : goal.returns-in_err-advance
returns-in_err-advance c =
    let p = err_from_is_err_and c.from_residual.result c.from_residual.ensures.1 in
    record {
      answer = rw (p.1, p.2) (failed c.args.plan.now c.args.bytes.now c.lines.rest.now c.lines.number c.lines.draft c.advance.new.draft c.in-Some-cut_line.text.now c.in-Some-cut_line.more.now c.in_err-advance.field-0.0 c.requires.typed c.lines.invariant c.in-Some-cut_line.ensures.parts c.in_err-advance.ensures);
    }

pub lines-preserved : goal.lines-preserved
lines-preserved c =
    reads_more c.args.plan.now c.args.bytes.now c.lines.rest.now c.lines.number c.lines.draft c.advance.new.draft c.in-Some-cut_line.text.now c.in-Some-cut_line.more.now c.lines.invariant c.in-Some-cut_line.ensures.parts c.in_ok-advance.ensures

pub returns-then-is_whole : goal.returns-then-is_whole
returns-then-is_whole c = record {
  answer = subst (λ (run : Run). IsLogOf c.args.plan.now c.args.bytes.now run) (sym c.run_of.ensures)
      (reads_whole c.args.plan.now c.args.bytes.now c.lines.rest.now c.lines.number c.lines.draft c.lines.invariant (sym c.is_whole.ensures ∙ c.if-is_whole.true));
}

pub returns-else-is_whole : goal.returns-else-is_whole
returns-else-is_whole c = record {
  answer = not_read c.args.plan.now c.args.bytes.now c.lines.rest.now c.lines.number c.lines.draft c.requires.typed c.lines.invariant c.in_default-cut_line.ensures.parts (sym c.is_whole.ensures ∙ c.if-is_whole.false);
}
