use Rattle.std.proofs.Common.{Bool, List, ap}
use Rattle.script_grammar.specs.Atoms.{compares}
use Rattle.script_grammar.specs.Prefixes.{under}
use Rattle.script_grammar.proofs.atom.compare_of.Goals as goal

pub returns : goal.returns
returns c = ap (λ (marks : List Bool). under marks (compares c.args.left c.args.relation c.args.right)) c.none.ensures
