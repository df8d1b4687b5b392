use Rattle.std.proofs.Common.{◌∙◌, ◌++◌, ◌∷◌, List, ℕ, ap, drop}
use Rattle.std.specs.Prelude.{codes}
use Rattle.std.specs.Fmt.{decimal}
use Rattle.join_base.specs.declared.message.Value.{Value}
use Rattle.arrival_log.specs.LogText.{value_text}
use Rattle.arrival_log.proofs.HeadLemmas.{reply_before}
use Rattle.arrival_log.proofs.whole.put_reply.Goals as goal

pub returns-clause-written : goal.returns-clause-written
returns-clause-written c =
    let value : List ℕ = value_text c.args.value.now in
    let own : List ℕ = drop c.put_words-end.result c.put_words-end.new.room in
    let behind =
    c.in_ok-end.ensures.written
    ∙ ap (λ (v : Value). value_text v ++ own) c.seen.ensures.same
    ∙ ap (λ (rest : List ℕ). value ++ rest) c.put_words-end.ensures.written in
    let space = c.put_words-end-2.ensures.written ∙ ap (λ (rest : List ℕ). 32 ∷ rest) behind in
    let number =
    c.put_number-end.ensures.written
    ∙ ap (λ (n : ℕ). decimal n ++ drop c.put_words-end-2.result c.put_words-end-2.new.room) c.from.ensures
    ∙ ap (λ (rest : List ℕ). decimal c.args.number ++ rest) space in
    c.put_words.ensures.written ∙ ap (λ (rest : List ℕ). codes "reply " ++ rest) number ∙ reply_before (decimal c.args.number) value (drop c.args.end c.args.room.now)
