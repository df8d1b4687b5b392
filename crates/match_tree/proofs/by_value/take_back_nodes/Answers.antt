use Rattle.std.proofs.Common.{◌≡◌, ◌∙◌, ◌∷◌, [], ℕ, Bool, false, sym, arith}
use Rattle.row_screens.specs.Offering.{offered}
use Rattle.tree_rows.specs.Pruned.{pruned}
use Rattle.match_tree.proofs.ThinLemmas.{all_visited_guarded, all_visited_rise, pruned_twice, thinned_all, thinned_map, thinned_rise, thinned_short, thinned_sound, weaker}
use Rattle.match_tree.proofs.by_value.take_back_nodes.Goals as goal

pub walk_back-requires : goal.walk_back-requires
walk_back-requires c = record { few = c.requires.few; sound = c.requires.sound; short = c.requires.short; rising = all_visited_rise (offered c.args.offer.now) c.args.slots.now c.args.pattern c.args.nodes.now.items c.requires.visited }

pub prune_offered-thinned-requires : goal.prune_offered-thinned-requires
prune_offered-thinned-requires c =
    let a = c.args in
    let o = offered a.offer.now in
    record {
      can = c.requires.can;
      guarded = all_visited_guarded o a.slots.now a.pattern a.nodes.now.items c.requires.visited;
      rising = all_visited_rise o a.slots.now a.pattern a.nodes.now.items c.requires.visited;
      few = c.requires.few;
      sound = c.requires.sound;
      short = c.requires.short;
    }

pub returns-then-thinned-clause-left : goal.returns-then-thinned-clause-left
returns-then-thinned-clause-left c =
    let o = offered c.args.offer.now in
    let before = c.args.nodes.now.items in
    let now = c.prune_offered-thinned.new.nodes.items in
    let all : Bool = c.prune_offered-thinned.result.all in
    thinned_all (o.number ∷ []) before now (weaker (o.number ∷ []) (λ n. all ≡ false) (λ n. ⊥) before now (λ i l e. absurd (let never = sym c.if-thinned.true ∙ e in cc)) c.prune_offered-thinned.ensures.left)

pub walk_back-requires-2 : goal.walk_back-requires-2
walk_back-requires-2 c =
    let a = c.args in
    let o = offered a.offer.now in
    let before = a.nodes.now.items in
    let now = c.prune_offered-thinned.new.nodes.items in
    let all : Bool = c.prune_offered-thinned.result.all in
    let Rest : ℕ → Type 0 = λ n. all ≡ false in
    let thinned = c.prune_offered-thinned.ensures.left in
    record {
      few = omega (arith, c.requires.few, c.prune_offered-thinned.ensures.gone);
      sound = thinned_sound (o.number ∷ []) Rest before now thinned c.requires.sound;
      short = thinned_short (o.number ∷ []) Rest a.levels before now thinned c.requires.short;
      rising = thinned_rise (o.number ∷ []) Rest before now thinned (all_visited_rise o a.slots.now a.pattern before c.requires.visited);
    }

pub overflow_add-result : goal.overflow_add-result
overflow_add-result c = omega (arith, c.requires.few, c.prune_offered-thinned.ensures.gone, c.walk_back-2.ensures.gone)

pub returns : goal.returns
returns c =
    let o = offered c.args.offer.now in
    let before = c.args.nodes.now.items in
    let now = c.prune_offered-thinned.new.nodes.items in
    let all : Bool = c.prune_offered-thinned.result.all in
    let Rest : ℕ → Type 0 = λ n. all ≡ false in
    record {
      left = c.walk_back-2.ensures.left ∙ thinned_map (o.number ∷ []) Rest (pruned (o.number ∷ [])) before now (pruned_twice (o.number ∷ [])) c.prune_offered-thinned.ensures.left;
      gone = omega (arith, c.prune_offered-thinned.ensures.gone, c.walk_back-2.ensures.gone);
    }
