use Rattle.std.proofs.Common.{◌∙◌, ℕ, List, ap, sym, subst, take, get_or, arith}
use Rattle.std.proofs.lemmas.List.{take_more}
use Rattle.tree_rows.specs.Routes.{Branch, row_routes}
use Rattle.tree_rows.specs.Order.{IsSoundRow}
use Rattle.tree_rows.specs.Pruned.{AreShort, without_number, without_numbers}
use Rattle.tree_rows.proofs.PruneLemmas.{without_none, without_more}
use Rattle.tree_rows.proofs.CountLemmas.{sound_filter, short_filter}
use Rattle.tree_rows.proofs.prune.remove_numbers.Goals as goal

pub loop-number-init : goal.loop-number-init
loop-number-init c = record { is = without_none c.args.row.now; sound = c.requires.sound; short = c.requires.short; counted = omega arith }

pub remove_number-gone-requires : goal.remove_number-gone-requires
remove_number-gone-requires c = let inv = c.loop-number.invariant in record { sound = inv.sound; few = omega (arith, c.requires.few, inv.counted); short = inv.short }

pub overflow_add-gone : goal.overflow_add-gone
overflow_add-gone c = omega (arith, c.requires.few, c.loop-number.invariant.counted, c.remove_number-gone.ensures.gone)

pub loop-number-preserved : goal.loop-number-preserved
loop-number-preserved c =
    let ns = c.as_slice-number-items.result.now in
    let i : ℕ = c.loop-number.number-index in
    let inv = c.loop-number.invariant in
    let left = c.remove_number-gone.ensures.left in
    record {
      is = left ∙ ap (without_number (get_or ns i 0)) inv.is ∙ without_more (take i ns) (get_or ns i 0) c.args.row.now
          ∙ ap (λ (ms : List ℕ). without_numbers ms c.args.row.now) (sym (take_more ns i 0 c.loop-number-test.true));
      sound = subst IsSoundRow (sym left) (sound_filter _ c.loop-number.row inv.sound);
      short = subst (λ (xs : List Branch). AreShort c.args.levels (row_routes 0 xs)) (sym left) (short_filter c.args.levels _ c.loop-number.row inv.short);
      counted = omega (arith, inv.counted, c.remove_number-gone.ensures.gone);
    }
