use Rattle.std.proofs.Common.{sym, subst, ◌∙◌, ◌<◌, ℕ, inl, inr}
use Rattle.actor_cells.specs.Steps.{Moves}
use Rattle.actor_cells.proofs.SendLemmas.{count-out, fewer, moves-back, moves-none, moves-pushed, small-out, none-waits, takes-none, takes-out}
use Rattle.actor_cells.proofs.sending.send_over.Goals as goal

pub loop-post-init : goal.loop-post-init
loop-post-init c = record { exists = c.requires.exists; small = c.requires.small; moves = moves-none c.args.target c.args.actor.now c.args.link.now }

pub push-requires : goal.push-requires
push-requires c =
    let before = c.loop-post.invariant in
    let t = c.args.target in
    let out = takes-out t c.loop-post.actor c.take_post.new.self c.in-Some.post (sym c.in-Some.is ∙ c.take_post.ensures.first) c.take_post.ensures.taken in
    record { small = (small-out t c.args.actor.now c.loop-post.actor c.take_post.new.self c.args.link.now c.loop-post.link c.in-Some.post before.moves before.exists out before.small).0 }

pub loop-post-preserved : goal.loop-post-preserved
loop-post-preserved c =
    let before = c.loop-post.invariant in
    let t = c.args.target in
    let out = takes-out t c.loop-post.actor c.take_post.new.self c.in-Some.post (sym c.in-Some.is ∙ c.take_post.ensures.first) c.take_post.ensures.taken in
    let count = count-out t c.args.actor.now c.loop-post.actor c.take_post.new.self c.args.link.now c.loop-post.link c.in-Some.post before.moves before.exists out in
    record {
      exists = subst (λ (n : ℕ). t < n) (sym count) before.exists;
      small = (small-out t c.args.actor.now c.loop-post.actor c.take_post.new.self c.args.link.now c.loop-post.link c.in-Some.post before.moves before.exists out before.small).1;
      moves = moves-pushed t c.args.actor.now c.loop-post.actor c.take_post.new.self c.args.link.now c.loop-post.link c.in-Some.post before.moves before.exists out c.push.new.self c.in-Ok.ensures.identity c.in-Ok.ensures.sent;
    }

pub loop-post-smaller : goal.loop-post-smaller
loop-post-smaller c =
    let before = c.loop-post.invariant in
    let t = c.args.target in
    let out = takes-out t c.loop-post.actor c.take_post.new.self c.in-Some.post (sym c.in-Some.is ∙ c.take_post.ensures.first) c.take_post.ensures.taken in
    fewer t c.args.actor.now c.loop-post.actor c.take_post.new.self c.args.link.now c.loop-post.link c.in-Some.post before.moves before.exists out

pub return_post-requires-clause-exists : goal.return_post-requires-clause-exists
return_post-requires-clause-exists c =
    let before = c.loop-post.invariant in
    let t = c.args.target in
    let out = takes-out t c.loop-post.actor c.take_post.new.self c.in-Some.post (sym c.in-Some.is ∙ c.take_post.ensures.first) c.take_post.ensures.taken in
    let count = count-out t c.args.actor.now c.loop-post.actor c.take_post.new.self c.args.link.now c.loop-post.link c.in-Some.post before.moves before.exists out in
    subst (λ (n : ℕ). t < n) (sym count) before.exists

pub returns-in-Err-clause-sent : goal.returns-in-Err-clause-sent
returns-in-Err-clause-sent c = inr c.in-Err.ensures.none

pub returns-in-Err-clause-moves : goal.returns-in-Err-clause-moves
returns-in-Err-clause-moves c =
    let before = c.loop-post.invariant in
    let t = c.args.target in
    let out = takes-out t c.loop-post.actor c.take_post.new.self c.in-Some.post (sym c.in-Some.is ∙ c.take_post.ensures.first) c.take_post.ensures.taken in
    let full = c.in-Err.ensures.full in
    moves-back t c.args.actor.now c.loop-post.actor c.take_post.new.self c.args.link.now c.loop-post.link c.in-Some.post before.moves before.exists out c.return_post.new.self c.push.new.self _
    (λ i. record { message = full.0 i; stamp = c.in-Some.post.stamp }) c.return_post.ensures.returned c.in-Err.ensures.identity full.1

pub returns-clause-sent : goal.returns-clause-sent
returns-clause-sent c =
    let first = sym c.in_default.is ∙ c.take_post.ensures.first in
    inl (none-waits c.args.target c.loop-post.actor c.take_post.new.self first (takes-none c.args.target c.loop-post.actor c.take_post.new.self first c.take_post.ensures.taken))

pub returns-clause-moves : goal.returns-clause-moves
returns-clause-moves c =
    let none = takes-none c.args.target c.loop-post.actor c.take_post.new.self (sym c.in_default.is ∙ c.take_post.ensures.first) c.take_post.ensures.taken in
    subst (λ a. Moves c.args.target c.args.actor.now a c.args.link.now c.loop-post.link) (sym none) c.loop-post.invariant.moves
