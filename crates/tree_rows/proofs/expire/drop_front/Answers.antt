use Rattle.std.proofs.Common.{◌≡◌, ◌∙◌, [], List, length, refl, ap, sym, subst, arith}
use Rattle.std.specs.List.{remove}
use Rattle.std.proofs.lemmas.List.{nil_from_length}
use Rattle.tree_rows.specs.Routes.{Branch, row_routes}
use Rattle.tree_rows.specs.Order.{IsSoundRow}
use Rattle.tree_rows.specs.Pruned.{AreShort, seen_nodes}
use Rattle.tree_rows.proofs.ExpireLemmas.{sound_rest, short_rest, length_rest}
use Rattle.tree_rows.proofs.expire.drop_front.Goals as goal

pub loop-dropped-init : goal.loop-dropped-init
loop-dropped-init c = record { same = refl; sound = c.requires.sound; short = c.requires.short; long = omega arith; counted = omega arith }

pub begins_unseen-requires : goal.begins_unseen-requires
begins_unseen-requires c = c.loop-dropped.invariant.sound.rise

pub returns-then-not-begins_unseen : goal.returns-then-not-begins_unseen
returns-then-not-begins_unseen c = record { left = sym (c.begins_unseen.ensures.none c.if-not-begins_unseen.true) ∙ c.loop-dropped.invariant.same; gone = c.loop-dropped.invariant.counted }

pub remove_at-gone-requires : goal.remove_at-gone-requires
remove_at-gone-requires c =
    let inv = c.loop-dropped.invariant in
    record { within = (c.begins_unseen.ensures.first c.if-not-begins_unseen.false).0; ordered = inv.sound.ordered; few = omega (arith, c.requires.few, inv.counted); short = inv.short }

pub overflow_add-gone : goal.overflow_add-gone
overflow_add-gone c = omega (arith, c.requires.few, c.loop-dropped.invariant.counted, c.remove_at-gone.ensures.gone)

pub loop-dropped-preserved : goal.loop-dropped-preserved
loop-dropped-preserved c =
    let inv = c.loop-dropped.invariant in
    let row = c.loop-dropped.row in
    let left : c.remove_at-gone.new.row ≡ remove row 0 = c.remove_at-gone.ensures.left in
    let first = c.begins_unseen.ensures.first c.if-not-begins_unseen.false in
    let shorter = ap (λ (xs : List Branch). length xs) left in
    record {
      same = ap (seen_nodes c.args.oldest) left ∙ first.1 ∙ inv.same;
      sound = subst IsSoundRow (sym left) (sound_rest row inv.sound);
      short = subst (λ (xs : List Branch). AreShort c.args.levels (row_routes 0 xs)) (sym left) (short_rest c.args.levels row inv.short);
      long = omega (arith, inv.long, length_rest row first.0);
      counted = omega (arith, inv.counted, c.remove_at-gone.ensures.gone);
    }

pub returns : goal.returns
returns c =
    let inv = c.loop-dropped.invariant in
    let none : c.loop-dropped.row ≡ [] = nil_from_length c.loop-dropped.row (omega (arith, inv.long, c.loop-dropped-test.false, c.len-dropped-end.ensures)) in
    record { left = none ∙ sym (ap (seen_nodes c.args.oldest) none) ∙ inv.same; gone = inv.counted }
