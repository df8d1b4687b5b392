use Rattle.std.proofs.Common.{arith}
use Rattle.log_lines.proofs.HeadLemmas.{count_at_takes}
use Rattle.log_lines.proofs.read.head_of.Goals as goal

pub numbered-requires : goal.numbered-requires
numbered-requires c =
    let at = count_at_takes 2 c.in_ok-rest.rest.now (c.in_ok-version.version, c.in_ok-version.rest.now) (omega arith) c.in_ok-version.ensures.value in (at.above, at.below)
