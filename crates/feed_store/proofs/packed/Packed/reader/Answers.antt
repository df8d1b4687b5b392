use Rattle.std.proofs.Common.{◌∙◌}
use Rattle.feed_store.proofs.KeptLemmas.{kept_same, same_posts}
use Rattle.feed_store.proofs.packed.Packed.reader.Goals as goal

pub new-requires : goal.new-requires
new-requires c =
    let a = c.self.inside in
    record {
      kept = kept_same a.heads.items c.as_slice-heads.result.now a.stock.marks.items c.as_slice-marks.result.now a.stock.integers.items c.as_slice-integers.result.now a.stock.words.items c.as_slice-words.result.now
          c.as_slice-heads.ensures.value c.as_slice-marks.ensures.value c.as_slice-integers.ensures.value c.as_slice-words.ensures.value c.self.invariant;
    }

pub returns : goal.returns
returns c =
    let a = c.self.inside in
    record {
      same = c.new.ensures.same
          ∙ same_posts a.heads.items c.as_slice-heads.result.now a.stock.marks.items c.as_slice-marks.result.now a.stock.integers.items c.as_slice-integers.result.now a.stock.words.items c.as_slice-words.result.now
          c.as_slice-heads.ensures.value c.as_slice-marks.ensures.value c.as_slice-integers.ensures.value c.as_slice-words.ensures.value
          ∙ c.self.view_is;
    }
