use Rattle.reading_tests.proofs.SampleLemmas.{typed_of}
use Rattle.reading_tests.proofs.logs.are_logs_refused.Goals as goal

pub are_refused-requires : goal.are_refused-requires
are_refused-requires c = record { typed = typed_of c.in-Ok.plan c.in-Ok.ensures }
