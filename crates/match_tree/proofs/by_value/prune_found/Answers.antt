use Rattle.std.proofs.Common.{ℕ, subst, arith}
use Rattle.value_index.specs.ValueRange.{Ascend}
use Rattle.match_tree.proofs.ThinLemmas.{IsLeft, found_far, found_more, found_none, same_thinned, thinned_rise, thinned_short, thinned_sound}
use Rattle.match_tree.proofs.by_value.prune_found.Goals as goal

pub loop-at-init : goal.loop-at-init
loop-at-init c = record {
  thinned = same_thinned c.args.numbers.now (IsLeft c.args.numbers.now c.args.limit c.args.left.now c.args.left.now) c.args.nodes.now.items (λ i l less m. m);
  ascend = c.requires.ascend;
  counted = omega arith;
}

pub prune_at-gone-requires : goal.prune_at-gone-requires
prune_at-gone-requires c =
    let inv = c.loop-at.invariant in
    let a = c.args in
    let Left : ℕ → Type 0 = IsLeft a.numbers.now a.limit a.left.now c.loop-at.left in
    record {
      few = omega (arith, c.requires.few, inv.counted);
      sound = thinned_sound a.numbers.now Left a.nodes.now.items c.loop-at.nodes.items inv.thinned c.requires.sound;
      short = thinned_short a.numbers.now Left a.levels a.nodes.now.items c.loop-at.nodes.items inv.thinned c.requires.short;
      rising = thinned_rise a.numbers.now Left a.nodes.now.items c.loop-at.nodes.items inv.thinned c.requires.rising;
    }

pub overflow_add-gone : goal.overflow_add-gone
overflow_add-gone c = omega (arith, c.requires.few, c.loop-at.invariant.counted, c.prune_at-gone.ensures.gone)

pub loop-at-preserved : goal.loop-at-preserved
loop-at-preserved c =
    let inv = c.loop-at.invariant in
    let a = c.args in
    record {
      thinned = found_more a.numbers.now a.limit a.left.now c.loop-at.left c.in-Some.at c.next.new.self a.nodes.now.items c.loop-at.nodes.items c.prune_at-gone.new.nodes.items c.in-Some.ensures inv.thinned c.prune_at-gone.ensures.left;
      ascend = (subst Ascend c.in-Some.ensures inv.ascend).1;
      counted = omega (arith, inv.counted, c.prune_at-gone.ensures.gone);
    }

pub returns-then-at-limit-clause-left : goal.returns-then-at-limit-clause-left
returns-then-at-limit-clause-left c =
    let inv = c.loop-at.invariant in
    let a = c.args in
    found_far a.numbers.now a.limit a.left.now c.loop-at.left c.in-Some.at c.next.new.self a.nodes.now.items c.loop-at.nodes.items c.in-Some.ensures inv.ascend c.if-at-limit.true inv.thinned

pub returns-clause-left : goal.returns-clause-left
returns-clause-left c =
    let a = c.args in
    found_none a.numbers.now a.limit a.left.now c.loop-at.left a.nodes.now.items c.loop-at.nodes.items c.in_default.ensures c.loop-at.invariant.thinned
