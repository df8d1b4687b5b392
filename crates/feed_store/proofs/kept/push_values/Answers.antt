use Rattle.std.proofs.Common.{◌∙◌, ℕ, take, ap}
use Rattle.feed_store.proofs.kept.push_values.Goals as goal

pub returns-in-Err-clause-same_marks : goal.returns-in-Err-clause-same_marks
returns-in-Err-clause-same_marks c =
    c.truncate.ensures.items ∙ ap (λ (n : ℕ). take n c.push_some.new.stock.marks.items) c.count-marks.ensures ∙ c.push_some.ensures.same_marks

pub returns-in-Err-clause-same_integers : goal.returns-in-Err-clause-same_integers
returns-in-Err-clause-same_integers c =
    c.truncate-in-Err.ensures.items ∙ ap (λ (n : ℕ). take n c.push_some.new.stock.integers.items) c.count-integers.ensures ∙ c.push_some.ensures.same_integers

pub returns-in-Err-clause-same_words : goal.returns-in-Err-clause-same_words
returns-in-Err-clause-same_words c =
    c.truncate-in-Err-2.ensures.items ∙ ap (λ (n : ℕ). take n c.push_some.new.stock.words.items) c.count-words.ensures ∙ c.push_some.ensures.same_words
