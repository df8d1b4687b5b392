use Rattle.reading_tests.proofs.SampleLemmas.{typed_of}
use Rattle.reading_tests.proofs.logs.are_logs_read.Goals as goal

pub are_read-requires : goal.are_read-requires
are_read-requires c = record { typed = typed_of c.in-Ok.plan c.in-Ok.ensures }
