use Rattle.std.proofs.Common.{◌∙◌, ◌++◌, ◌∷◌, List, ℕ, ap, drop}
use Rattle.std.specs.Prelude.{codes}
use Rattle.script_types.specs.Names.{name_of_actor}
use Rattle.arrival_log.specs.LogText.{message_text}
use Rattle.arrival_log.proofs.HeadLemmas.{post_before}
use Rattle.arrival_log.proofs.whole.put_post.Goals as goal

pub returns-clause-written : goal.returns-clause-written
returns-clause-written c =
    let name : List ℕ = name_of_actor c.args.plan.now c.args.target in
    let message : List ℕ = message_text c.args.plan.now c.args.message.now in
    let space = c.put_words-end.ensures.written ∙ ap (λ (rest : List ℕ). 32 ∷ rest) c.in_ok-end.ensures.written in
    let target =
    c.put_words-end-2.ensures.written
    ∙ ap (λ (word : List ℕ). word ++ drop c.put_words-end.result c.put_words-end.new.room) c.actor_name.ensures.name
    ∙ ap (λ (rest : List ℕ). name ++ rest) space in
    c.put_words.ensures.written ∙ ap (λ (rest : List ℕ). codes "post " ++ rest) target ∙ post_before name message (drop c.args.end c.args.room.now)
