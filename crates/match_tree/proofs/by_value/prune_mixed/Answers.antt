use Rattle.std.proofs.Common.{◌≡◌, ◌∙◌, ◌+◌, ◌++◌, ◌∷◌, [], ℕ, List, Bool, false, length, map, take, get_or, ap, sym, subst, arith}
use Rattle.std.specs.List.{AllByRecursion}
use Rattle.std.proofs.lemmas.List.{nil_from_length, take_all, take_more}
use Rattle.pattern_core.specs.Suits.{IsRecorded}
use Rattle.row_screens.specs.Offering.{offered}
use Rattle.tree_rows.specs.Pruned.{pruned}
use Rattle.match_tree.proofs.ThinLemmas.{few_more, nodes_rise, pruned_none, thinned_go_on, thinned_more, thinned_short, thinned_sound}
use Rattle.tree_rows.proofs.WalkLemmas.{all_at}
use Rattle.match_tree.proofs.by_value.prune_mixed.Goals as goal

pub prune_nodes-requires : goal.prune_nodes-requires
prune_nodes-requires c = record { few = c.requires.few; ordered = c.requires.sound.ordered; short = c.requires.short; rising = nodes_rise (offered c.args.offer.now) c.args.slots.now c.args.pattern c.args.nodes.now.items c.requires.go_on }

pub loop-number-init : goal.loop-number-init
loop-number-init c = record {
  few = omega (arith, ap (λ (ns : List ℕ). length ns) c.new-others.ensures.empty);
  left = ap (λ (ns : List ℕ). map (pruned ns) c.args.nodes.now.items) c.new-others.ensures.empty;
  go_on = c.requires.go_on;
  sound = c.requires.sound;
  short = c.requires.short;
  counted = omega arith;
}

pub prune_number-thinned-requires : goal.prune_number-thinned-requires
prune_number-thinned-requires c =
    let a = c.args in
    let inv = c.loop-number.invariant in
    let xs = c.as_slice-number-items.result.now in
    let recorded = subst (λ (ns : List ℕ). AllByRecursion (IsRecorded a.offer.now.messages.now) ns) (sym c.as_slice-number-items.ensures.same) c.requires.recorded in
    record {
      empty = c.requires.empty;
      can = c.requires.can;
      recorded = all_at (IsRecorded a.offer.now.messages.now) xs c.loop-number.number-index 0 c.loop-number-test.true recorded;
      go_on = inv.go_on;
      few = omega (arith, c.requires.few, inv.counted);
      sound = inv.sound;
      short = inv.short;
    }

pub overflow_add-gone : goal.overflow_add-gone
overflow_add-gone c = omega (arith, c.requires.few, c.loop-number.invariant.counted, c.prune_number-thinned.ensures.gone)

pub add_unless-requires : goal.add_unless-requires
add_unless-requires c = omega (arith, c.loop-number.invariant.few, c.loop-number-test.true, c.as_slice-number-items.ensures.few, ap (λ (ns : List ℕ). length ns) c.as_slice-number-items.ensures.same)

pub loop-number-preserved : goal.loop-number-preserved
loop-number-preserved c =
    let a = c.args in
    let inv = c.loop-number.invariant in
    let xs = c.as_slice-number-items.result.now in
    let i : ℕ = c.loop-number.number-index in
    let k : ℕ = get_or xs i 0 in
    let all : Bool = c.prune_number-thinned.result.all in
    let before = c.loop-number.nodes.items in
    let now = c.prune_number-thinned.new.nodes.items in
    let thinned = c.prune_number-thinned.ensures.left in
    let Rest : ℕ → Type 0 = λ n. all ≡ false in
    let more : take (i + 1) xs ≡ take i xs ++ k ∷ [] = take_more xs i 0 c.loop-number-test.true in
    record {
      few = few_more all c.loop-number.others c.add_unless.new.others k i c.add_unless.ensures inv.few;
      left = thinned_more all k (take i xs) c.loop-number.others c.add_unless.new.others a.nodes.now.items before now c.add_unless.ensures thinned inv.left ∙ ap (λ (ns : List ℕ). map (pruned ns) a.nodes.now.items) (sym more);
      go_on = thinned_go_on (k ∷ []) Rest (offered a.offer.now) a.slots.now a.pattern before now thinned inv.go_on;
      sound = thinned_sound (k ∷ []) Rest before now thinned inv.sound;
      short = thinned_short (k ∷ []) Rest a.levels before now thinned inv.short;
      counted = omega (arith, inv.counted, c.prune_number-thinned.ensures.gone);
    }

pub returns-then-len-eq0-clause-left : goal.returns-then-len-eq0-clause-left
returns-then-len-eq0-clause-left c =
    let a = c.args in
    let xs = c.as_slice-number-items.result.now in
    let items = c.loop-number.nodes.items in
    let none : c.loop-number.others ≡ [] = nil_from_length c.loop-number.others (sym c.len-2.ensures.count ∙ c.if-len-eq0.true) in
    let whole : take c.loop-number.number-index xs ≡ a.numbers.now = take_all c.loop-number.number-index xs c.loop-number-test.false ∙ c.as_slice-number-items.ensures.same in
    sym (pruned_none items) ∙ ap (λ (ns : List ℕ). map (pruned ns) items) (sym none) ∙ c.loop-number.invariant.left ∙ ap (λ (ns : List ℕ). map (pruned ns) a.nodes.now.items) whole

pub prune_nodes-requires-2 : goal.prune_nodes-requires-2
prune_nodes-requires-2 c =
    let inv = c.loop-number.invariant in
    record { few = omega (arith, c.requires.few, inv.counted); ordered = inv.sound.ordered; short = inv.short; rising = nodes_rise (offered c.args.offer.now) c.args.slots.now c.args.pattern c.loop-number.nodes.items inv.go_on }

pub overflow_add-result : goal.overflow_add-result
overflow_add-result c = omega (arith, c.requires.few, c.loop-number.invariant.counted, c.prune_nodes-2.ensures.gone)

pub returns : goal.returns
returns c =
    let a = c.args in
    let xs = c.as_slice-number-items.result.now in
    let whole : take c.loop-number.number-index xs ≡ a.numbers.now = take_all c.loop-number.number-index xs c.loop-number-test.false ∙ c.as_slice-number-items.ensures.same in
    record {
      left = c.prune_nodes-2.ensures.left ∙ c.loop-number.invariant.left ∙ ap (λ (ns : List ℕ). map (pruned ns) a.nodes.now.items) whole;
      gone = omega (arith, c.loop-number.invariant.counted, c.prune_nodes-2.ensures.gone);
    }
