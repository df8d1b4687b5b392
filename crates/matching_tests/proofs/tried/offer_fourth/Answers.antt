use Rattle.std.proofs.Common.{arith}
use Rattle.matching_tests.proofs.IndexLemmas.{all_indexed}
use Rattle.matching_tests.proofs.TriedLemmas.{tried_twice}
use Rattle.matching_tests.proofs.tried.offer_fourth.Goals as goal

pub reserve_for-requires-clause-indexed : goal.reserve_for-requires-clause-indexed
reserve_for-requires-clause-indexed g c = all_indexed c.args.index.now c.args.messages.now c.args.tree.now 4 c.requires.indexed c.requires.can

pub returns : goal.returns
returns g c =
    let few = tried_twice c.args.tree.now c.args.messages.now c.requires.messages c.requires.definition c.partials.ensures.once c.requires.among in
    let told = c.reserve_for.ensures.stepped in
    record { twice = omega (arith, few, told) }
