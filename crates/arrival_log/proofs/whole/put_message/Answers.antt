use Rattle.std.proofs.Common.{◌∙◌, ◌++◌, ◌∷◌, List, ℕ, ap, drop, map}
use Rattle.join_base.specs.declared.message.Value.{Value}
use Rattle.script_types.specs.Names.{name_of_kind}
use Rattle.arrival_log.specs.LogText.{comma_joined, value_text}
use Rattle.arrival_log.proofs.HeadLemmas.{message_before}
use Rattle.arrival_log.proofs.whole.put_message.Goals as goal

abbrev joined : List Value → List ℕ
joined values = comma_joined (map value_text values)

pub returns-clause-written : goal.returns-clause-written
returns-clause-written c =
    let message = c.args.message.now in
    let name : List ℕ = name_of_kind c.args.plan.now message.kind in
    let values =
    c.in_ok-end.ensures.written
    ∙ ap (λ (rest : List ℕ). joined message.fields ++ rest) c.put_words-end.ensures.written in
    let bracket = c.put_words-end-2.ensures.written ∙ ap (λ (rest : List ℕ). 40 ∷ rest) values in
    c.put_words.ensures.written
    ∙ ap (λ (word : List ℕ). word ++ drop c.put_words-end-2.result c.put_words-end-2.new.room) c.kind_name.ensures.name
    ∙ ap (λ (rest : List ℕ). name ++ rest) bracket
    ∙ message_before name (joined message.fields) (drop c.args.end c.args.room.now)
