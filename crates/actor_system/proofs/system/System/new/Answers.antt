use Rattle.std.proofs.Common.{◌≡◌, ◌∙◌, ℕ, length, map, ap, arith}
use Rattle.actor_system.proofs.StartLemmas.{starts}
use Rattle.actor_system.specs.Opening.{new_actors, rows_of}
use Rattle.actor_system.proofs.system.System.new.Goals as goal

pub invariant_of-result : goal.invariant_of-result
invariant_of-result c =
    let n = c.len-count.ensures.count in
    let rows : map (λ row. row.items) c.in_ok-places.places.items ≡ rows_of (length c.args.feeds) (length c.args.plan.now.actors) = c.in_ok-places.ensures.rows ∙ (λ i. rows_of (c.len-2.ensures.count i) (n i)) in
    let is = starts c.args.plan.now c.args.limits c.args.feeds c.requires.typed c.requires.limits c.requires.count c.requires.values c.in_ok-actors.ensures.rules (map (λ row. row.items) c.in_ok-places.places.items) c.in_ok-actors.actors.items rows (c.in_ok-actors.ensures.opening ∙ ap (λ (k : ℕ). new_actors c.args.plan.now c.args.limits k (length c.args.plan.now.actors)) c.len.ensures.count) in
    record { sound = is.0; few = omega (arith, c.requires.typed.few_actors); none = c.in_ok-runs.ensures.items; room = omega (arith, n, c.in_ok-runs.ensures.capacity) }

pub returns : goal.returns
returns c =
    let n = c.len-count.ensures.count in
    let rows : map (λ row. row.items) c.in_ok-places.places.items ≡ rows_of (length c.args.feeds) (length c.args.plan.now.actors) = c.in_ok-places.ensures.rows ∙ (λ i. rows_of (c.len-2.ensures.count i) (n i)) in
    let is = starts c.args.plan.now c.args.limits c.args.feeds c.requires.typed c.requires.limits c.requires.count c.requires.values c.in_ok-actors.ensures.rules (map (λ row. row.items) c.in_ok-places.places.items) c.in_ok-actors.actors.items rows (c.in_ok-actors.ensures.opening ∙ ap (λ (k : ℕ). new_actors c.args.plan.now c.args.limits k (length c.args.plan.now.actors)) c.len.ensures.count) in
    record { opening = is.1 }
