use Rattle.feed_store.proofs.packed_reader.PackedReader.new.Goals as goal

pub invariant_of-result : goal.invariant_of-result
invariant_of-result c = c.requires.kept
