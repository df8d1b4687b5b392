use Rattle.std.proofs.Common.{◌∙◌, Err, List, ℕ, Bool, Some, ap, arith, sym}
use Rattle.log_lines.specs.Gives.{where_true}
use Rattle.log_lines.proofs.QuotingLemmas.{accepted_text, refused_text}
use Rattle.log_lines.proofs.value.bounded.Goals as goal

pub returns-in-Ok : goal.returns-in-Ok
returns-in-Ok c c' =
    let text = c'.args.bytes.now in
    let accepted = accepted_text c.row.MAX text
    (λ invalid. let refused = c'.from_bytes.ensures.not_text.1 invalid in let is = c'.in-Ok.is in absurd cc)
    (λ long. let refused = c'.from_bytes.ensures.too_long.1 long in let is = c'.in-Ok.is in absurd cc) in
    ap (λ (b : Bool). where_true b (Some text)) accepted ∙ ap (λ (l : List ℕ). Some l) (sym c'.in-Ok.ensures.ok)

pub returns-in-Err-NotText : goal.returns-in-Err-NotText
returns-in-Err-NotText c c' =
    let text = c'.args.bytes.now in
    let invalid = c'.from_bytes.ensures.not_text.0 (c'.in-Err-NotText.is ∙ ap (λ f. Err f) c'.in-Err-NotText.field-0-is) in
    ap (λ (b : Bool). where_true b (Some text)) (refused_text c.row.MAX text (λ fits. invalid fits.utf8))

pub returns-in-Err-TooLong : goal.returns-in-Err-TooLong
returns-in-Err-TooLong c c' =
    let text = c'.args.bytes.now in
    let long = c'.from_bytes.ensures.too_long.0 (c'.in-Err-TooLong.is ∙ ap (λ f. Err f) c'.in-Err-TooLong.field-0-is) in
    ap (λ (b : Bool). where_true b (Some text)) (refused_text c.row.MAX text (λ fits. let short = fits.short in let past = long.1 in omega (arith, short, past)))
