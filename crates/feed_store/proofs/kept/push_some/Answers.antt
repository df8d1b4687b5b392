use Rattle.std.proofs.Common.{◌≡◌, ◌∙◌, ◌∷◌, ◌++◌, [], List, take, ap, subst, arith}
use Rattle.std.specs.List.{AllByRecursion}
use Rattle.std.proofs.lemmas.List.{take_all}
use Rattle.join_base.specs.declared.message.Value.{Value}
use Rattle.join_base.specs.Fields.{value_seen}
use Rattle.feed_store.specs.Kept.{HasText, integers_of, mark_of, marks_of, part_integers, part_words, words_of}
use Rattle.feed_store.proofs.KeptLemmas.{front_kept, part_more, texts_more}
use Rattle.feed_store.proofs.kept.push_some.Goals as goal

pub loop-place-preserved : goal.loop-place-preserved
loop-place-preserved c =
    let values = c.args.fields.now in
    let place = c.loop-place.place in
    let v = value_seen c.at.result in
    let old = c.args.stock.now in
    let now = c.loop-place.stock in
    let new = c.push_value.new.stock in
    let before = c.loop-place.invariant in
    let more = c.in_ok-push_value.ensures in
    record {
      marks = part_more (λ (x : Value). mark_of x ∷ []) values place v old.marks.items now.marks.items new.marks.items c.at.ensures.item before.marks more.marks;
      integers = part_more part_integers values place v old.integers.items now.integers.items new.integers.items c.at.ensures.item before.integers more.integers;
      words = part_more part_words values place v old.words.items now.words.items new.words.items c.at.ensures.item before.words more.words;
      texts = texts_more values place v c.at.ensures.item before.texts more.text;
    }

pub returns-in_err-push_value-clause-same_marks : goal.returns-in_err-push_value-clause-same_marks
returns-in_err-push_value-clause-same_marks c =
    front_kept c.args.stock.now.marks.items (marks_of (take c.loop-place.place c.args.fields.now)) c.push_value.new.stock.marks.items (c.in_err-push_value.ensures.same_marks ∙ c.loop-place.invariant.marks)

pub returns-in_err-push_value-clause-same_integers : goal.returns-in_err-push_value-clause-same_integers
returns-in_err-push_value-clause-same_integers c =
    front_kept c.args.stock.now.integers.items (integers_of (take c.loop-place.place c.args.fields.now)) c.push_value.new.stock.integers.items (c.in_err-push_value.ensures.same_integers ∙ c.loop-place.invariant.integers)

pub returns-in_err-push_value-clause-same_words : goal.returns-in_err-push_value-clause-same_words
returns-in_err-push_value-clause-same_words c =
    front_kept c.args.stock.now.words.items (words_of (take c.loop-place.place c.args.fields.now)) c.push_value.new.stock.words.items (c.in_err-push_value.ensures.same_words ∙ c.loop-place.invariant.words)

pub returns : goal.returns
returns c =
    let old = c.args.stock.now in
    let values = c.args.fields.now in
    let done = c.loop-place.invariant in
    let whole : take c.loop-place.place values ≡ values = take_all c.loop-place.place values (omega arith) in
    let marks = done.marks ∙ ap (λ (vs : List Value). old.marks.items ++ marks_of vs) whole in
    let integers = done.integers ∙ ap (λ (vs : List Value). old.integers.items ++ integers_of vs) whole in
    let words = done.words ∙ ap (λ (vs : List Value). old.words.items ++ words_of vs) whole in
    record {
      marks = marks;
      integers = integers;
      words = words;
      texts = subst (AllByRecursion HasText) whole done.texts;
      same_marks = front_kept old.marks.items (marks_of values) c.loop-place.stock.marks.items marks;
      same_integers = front_kept old.integers.items (integers_of values) c.loop-place.stock.integers.items integers;
      same_words = front_kept old.words.items (words_of values) c.loop-place.stock.words.items words;
    }
