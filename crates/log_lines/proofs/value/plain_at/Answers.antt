use Rattle.std.proofs.Common.{◌∙◌, ◌∷◌, List, [], ap, sym, ℕ}
use Rattle.arrival_log.proofs.PutLemmas.{plain_quoted}
use Rattle.log_lines.proofs.CutLemmas.{after_takes, cut_takes}
use Rattle.log_lines.proofs.value.plain_at.Goals as goal

pub returns-then-needs_no_escape : goal.returns-then-needs_no_escape
returns-then-needs_no_escape c =
    let text = c.in_ok-text.text.now in
    let more = c.in_ok-text.more.now in
    let inside = cut_takes 34 c.in_ok-rest.rest.now (text, more) c.in_ok-text.ensures.parts in
    record {
      quoted =
          after_takes (34 ∷ []) c.args.bytes.now c.in_ok-rest.rest.now c.in_ok-rest.ensures
          ∙ ap (λ (rest : List ℕ). 34 ∷ rest) inside.split
          ∙ plain_quoted text more (sym c.if-needs_no_escape.ensures);
    }
