use Rattle.std.proofs.Common.{◌∙◌, ◌++◌, ◌∷◌, List, ℕ, ap, drop, sym}
use Rattle.arrival_log.proofs.PutLemmas.{plain_quoted}
use Rattle.arrival_log.proofs.room.put_text.Goals as goal

pub returns-clause-written : goal.returns-clause-written
returns-clause-written c =
    let text : List ℕ = c.args.text.now in
    c.put_words.ensures.written
    ∙ ap (λ (rest : List ℕ). 34 ∷ rest) (c.put_words-start.ensures.written ∙ ap (λ (rest : List ℕ). text ++ rest) c.put_words-behind.ensures.written)
    ∙ plain_quoted text (drop c.args.end c.args.room.now) (sym c.if-not-needs_no_escape.ensures)
