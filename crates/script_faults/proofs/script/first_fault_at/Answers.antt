use Rattle.std.proofs.Common.{ap, ◌∙◌}
use Rattle.std.proofs.lemmas.Result.{err_from_is_err_and}
use Rattle.script_names.specs.Scope.{spelt_rows}
use Rattle.script_faults.proofs.FindingLemmas.{noted_script, script_stops}
use Rattle.script_faults.proofs.script.first_fault_at.Goals as goal

pub returns-in_err-note_repeated : goal.returns-in_err-note_repeated
returns-in_err-note_repeated c =
    let p = err_from_is_err_and c.from_residual-in_err-note_repeated.result c.from_residual-in_err-note_repeated.ensures.1 in
    rw (p.1, p.2) (record {
      finds = script_stops c.args.outline.now c.in_err-note_repeated.field-0.0 c.args.tokens.now c.note_repeated.new.tokens c.requires.outline c.in_err-note_repeated.ensures.gives;
    })

pub returns : goal.returns
returns c = record {
  finds =
      noted_script c.args.outline.now _ c.note_repeated.new.noter (c.in_ok-messages.ensures ∙ c.as_slice.ensures.same) (c.in_ok-actors.ensures ∙ ap spelt_rows c.as_slice-2.ensures.same) c.in_ok-found.ensures
      c.args.tokens.now c.note_repeated.new.tokens c.requires.outline c.in_ok-note_repeated.ensures.gives;
}
