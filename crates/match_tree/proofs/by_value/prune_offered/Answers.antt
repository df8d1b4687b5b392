use Rattle.std.proofs.Common.{◌≡◌, ◌∷◌, [], ℕ, List, false, length, ap, sym, subst, refl, arith}
use Rattle.tree_rows.specs.Routes.{Branch, row_routes}
use Rattle.row_screens.specs.Offering.{offered}
use Rattle.match_tree.specs.Thinned.{IsGuarded, IsThinned}
use Rattle.match_tree.proofs.ThinLemmas.{AreBarred, barred_all, barred_more, guarded_pruned, same_thinned, thinned_each, thinned_rise, thinned_short, thinned_sound, weaker}
use Rattle.match_tree.proofs.by_value.prune_offered.Goals as goal

pub loop-other-init : goal.loop-other-init
loop-other-init c =
    let a = c.args in
    let o = offered a.offer.now in
    record { thinned = same_thinned (o.number ∷ []) (AreBarred o a.slots.now a.pattern 0) a.nodes.now.items (λ i l p m. absurd (omega (arith, m))); counted = omega arith }

pub prune_other-requires : goal.prune_other-requires
prune_other-requires c =
    let a = c.args in
    let o = offered a.offer.now in
    let inv = c.loop-other.invariant in
    let first = a.nodes.now.items in
    let items = c.loop-other.nodes.items in
    let Barred : ℕ → Type 0 = AreBarred o a.slots.now a.pattern c.loop-other.other in
    record {
      within = omega (arith, c.loop-other-test.true, c.len-other-end.ensures);
      can = c.requires.can;
      guarded = thinned_each (o.number ∷ []) Barred (IsGuarded o a.slots.now a.pattern) first items (guarded_pruned o a.slots.now a.pattern) inv.thinned c.requires.guarded;
      rising = thinned_rise (o.number ∷ []) Barred first items inv.thinned c.requires.rising;
      few = omega (arith, c.requires.few, inv.counted);
      sound = thinned_sound (o.number ∷ []) Barred first items inv.thinned c.requires.sound;
      short = thinned_short (o.number ∷ []) Barred a.levels first items inv.thinned c.requires.short;
    }

pub overflow_add-gone : goal.overflow_add-gone
overflow_add-gone c = omega (arith, c.requires.few, c.loop-other.invariant.counted, c.in-Some.ensures.gone)

pub loop-other-preserved : goal.loop-other-preserved
loop-other-preserved c =
    let a = c.args in
    let inv = c.loop-other.invariant in
    record {
      thinned = barred_more (offered a.offer.now) a.slots.now a.pattern c.loop-other.other a.nodes.now.items c.loop-other.nodes.items c.prune_other.new.nodes.items inv.thinned c.in-Some.ensures.left;
      counted = omega (arith, inv.counted, c.in-Some.ensures.gone);
    }

pub returns-in-None-clause-left : goal.returns-in-None-clause-left
returns-in-None-clause-left c =
    let a = c.args in
    let o = offered a.offer.now in
    let first = a.nodes.now.items in
    let Barred : ℕ → Type 0 = AreBarred o a.slots.now a.pattern c.loop-other.other in
    subst (λ (xs : List Branch). IsThinned (o.number ∷ []) (λ n. false ≡ false) first xs) (sym c.in-None.ensures.same) (weaker (o.number ∷ []) Barred (λ n. false ≡ false) first c.loop-other.nodes.items (λ i l h. refl) c.loop-other.invariant.thinned)

pub returns-in-None-clause-gone : goal.returns-in-None-clause-gone
returns-in-None-clause-gone c =
    let same = ap (λ (xs : List Branch). length (row_routes 0 xs)) c.in-None.ensures.same in
    omega (arith, c.loop-other.invariant.counted)

pub returns-clause-left : goal.returns-clause-left
returns-clause-left c =
    let a = c.args in
    barred_all (offered a.offer.now) a.slots.now a.pattern _ c.loop-other.other a.nodes.now.items c.loop-other.nodes.items (omega (arith, c.loop-other-test.false, c.len-other-end.ensures)) c.requires.can c.requires.guarded c.loop-other.invariant.thinned
