use Rattle.std.proofs.Common.{◌≡◌, drop}
use Rattle.join_base.specs.Outside.{content_of}
use Rattle.join_base.proofs.memory.find.Given as goal

abbrev pub invariant-loop-other : goal.invariant-loop-other
invariant-loop-other l = content_of l.files l.name ≡ content_of (drop l.other-index l.files) l.name
