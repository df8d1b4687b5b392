use Rattle.join_base.specs.Late.{HasCount}
use Rattle.join_base.specs.declared.message.Source.TheVariants as source
use Rattle.thread_tests.proofs.boards.feed_hall.Given as goal

abbrev pub invariant-loop-message : goal.invariant-loop-message
invariant-loop-message g l = HasCount l.hall.state.late (source.Feed 1)
