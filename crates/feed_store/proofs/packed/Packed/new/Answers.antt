use Rattle.feed_store.proofs.KeptLemmas.{kept_none, posts_none}
use Rattle.feed_store.proofs.packed.Packed.new.Goals as goal

pub invariant_of-result : goal.invariant_of-result
invariant_of-result c =
    kept_none c.new-heads.result.items c.new-marks.result.items c.new-integers.result.items c.new-words.result.items c.new-heads.ensures.items c.new-marks.ensures.items c.new-integers.ensures.items c.new-words.ensures.items

pub returns : goal.returns
returns c = record { empty = posts_none c.new-heads.result.items c.new-marks.result.items c.new-integers.result.items c.new-words.result.items c.new-heads.ensures.items }
