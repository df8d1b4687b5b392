use Rattle.std.proofs.Common.{◌≡◌, ◌∙◌, Option, None, Some, ap, sym}
use Rattle.pattern_core.specs.declared.candidate.Candidate.{Candidate}
use Rattle.pattern_core.specs.Choice.{lesser, lesser_of}
use Rattle.match_tree.proofs.WalkLemmas.{none_of}
use Rattle.match_tree.proofs.visit.better_found.Goals as goal

without_second : (best found : Option Candidate) → found ≡ None → best ≡ lesser_of best found
without_second None found none = sym none
without_second (Some old) found none = sym (ap (lesser old) none)

pub returns : goal.returns
returns c = without_second c.args.best c.args.found (none_of c.args.found (sym c.is_some.ensures ∙ c.if-is_some.false))
