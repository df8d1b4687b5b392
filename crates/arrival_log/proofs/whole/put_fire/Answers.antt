use Rattle.std.proofs.Common.{◌∙◌, ◌++◌, List, ℕ, ap, drop, map}
use Rattle.std.specs.Prelude.{codes}
use Rattle.std.specs.Fmt.{decimal}
use Rattle.arrival_log.specs.LogText.{comma_joined}
use Rattle.arrival_log.proofs.HeadLemmas.{fire_before}
use Rattle.arrival_log.proofs.whole.put_fire.Goals as goal

abbrev joined : List ℕ → List ℕ
joined numbers = comma_joined (map (λ (n : ℕ). decimal n) numbers)

pub returns-clause-written : goal.returns-clause-written
returns-clause-written c =
    let firing = c.args.firing.now in
    let taken =
    c.put_numbers-end.ensures.written
    ∙ ap (λ (numbers : List ℕ). joined numbers ++ drop c.put_words-end.result c.put_words-end.new.room) c.as_slice.ensures.same
    ∙ ap (λ (rest : List ℕ). joined firing.taken ++ rest) c.put_words-end.ensures.written in
    let words = c.put_words-end-2.ensures.written ∙ ap (λ (rest : List ℕ). codes " take " ++ rest) taken in
    let rule =
    c.put_number-end.ensures.written
    ∙ ap (λ (n : ℕ). decimal n ++ drop c.put_words-end-2.result c.put_words-end-2.new.room) c.from.ensures
    ∙ ap (λ (rest : List ℕ). decimal firing.rule ++ rest) words in
    c.put_words.ensures.written ∙ ap (λ (rest : List ℕ). codes "fire rule " ++ rest) rule ∙ fire_before (decimal firing.rule) (joined firing.taken) (drop c.args.end c.args.room.now)
