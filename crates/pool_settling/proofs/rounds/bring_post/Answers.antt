use Rattle.std.proofs.Common.{◌∙◌, List, set, sym, arith}
use Rattle.std.proofs.lemmas.List.{length-set}
use Rattle.actor_turn.specs.Held.{Held}
use Rattle.pool_settling.proofs.EndLemmas.{get_here}
use Rattle.pool_settling.proofs.StandLemmas.{steps_by}
use Rattle.pool_settling.proofs.BringLemmas.{from_known, none_brought, none_waits, post_brought, takes_first}
use Rattle.pool_settling.proofs.rounds.bring_post.Goals as goal

pub returns-in_default-clause-brought : goal.returns-in_default-clause-brought
returns-in_default-clause-brought g c =
    let at = get_here c.args.actors.now.items c.args.sender c.index_mut.result.now c.requires.sender (sym c.index_mut.ensures.value) in
    none_brought c.args.actors.now.items c.args.sender c.args.target c.index_mut.result.now c.take_post.new.self at (sym (sym c.take_post.ensures.first ∙ c.in_default.is)) c.take_post.ensures.taken c.requires.members

pub returns-in_default-clause-none : goal.returns-in_default-clause-none
returns-in_default-clause-none g c e =
    let at = get_here c.args.actors.now.items c.args.sender c.index_mut.result.now c.requires.sender (sym c.index_mut.ensures.value) in
    none_waits c.args.actors.now.items c.args.sender c.args.target c.index_mut.result.now c.take_post.new.self at (sym (sym c.take_post.ensures.first ∙ c.in_default.is)) c.take_post.ensures.taken

pub receive-requires : goal.receive-requires
receive-requires g c =
    let helds : List Held = c.args.actors.now.items in
    let at = get_here helds c.args.sender c.index_mut.result.now c.requires.sender (sym c.index_mut.ensures.value) in
    let took = takes_first c.args.target c.in-Some.post c.index_mut.result.now c.take_post.new.self (sym (sym c.take_post.ensures.first ∙ c.in-Some.is)) c.take_post.ensures.taken in
    let here = get_here (set helds c.args.sender c.take_post.new.self) c.args.target c.index_mut-2.result.now (omega (arith, c.requires.target, length-set helds c.args.sender c.take_post.new.self)) (sym c.index_mut-2.ensures.value) in
    record { exists = from_known helds c.requires.members c.args.sender c.args.target c.index_mut.result.now c.take_post.new.self c.index_mut-2.result.now c.in-Some.post took.0 c.requires.target at took.1 here }

pub returns-clause-brought : goal.returns-clause-brought
returns-clause-brought g c =
    let helds : List Held = c.args.actors.now.items in
    let at = get_here helds c.args.sender c.index_mut.result.now c.requires.sender (sym c.index_mut.ensures.value) in
    let took = takes_first c.args.target c.in-Some.post c.index_mut.result.now c.take_post.new.self (sym (sym c.take_post.ensures.first ∙ c.in-Some.is)) c.take_post.ensures.taken in
    let here = get_here (set helds c.args.sender c.take_post.new.self) c.args.target c.index_mut-2.result.now (omega (arith, c.requires.target, length-set helds c.args.sender c.take_post.new.self)) (sym c.index_mut-2.ensures.value) in
    let step = c.in-Ok.ensures in
    post_brought helds c.requires.members c.args.sender c.args.target c.index_mut.result.now c.take_post.new.self c.index_mut-2.result.now c.in-Some.post took.0 c.requires.target at took.1 here
    c.receive.new.self (steps_by _ _ _ _ _ step.setting step.step step.history step.outbox)
