use Rattle.std.proofs.Common.{length}
use Rattle.script_grammar.specs.Prefixes.{marks_of}
use Rattle.script_plan.proofs.guard.+with_prefix.Given as goal

abbrev pub decreases-with_prefix : goal.decreases-with_prefix
decreases-with_prefix l = length (marks_of l.prefix)
