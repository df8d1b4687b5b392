use Rattle.std.proofs.Common.{◌≡◌, ◌∙◌, ◌<◌, ◌≤◌, ℕ, List, length, ap, sym, subst, arith}
use Rattle.std.proofs.lemmas.List.{length-map}
use Rattle.tree_rows.specs.Routes.{Branch}
use Rattle.tree_rows.specs.RowNumbers.{numbers_in}
use Rattle.tree_rows.specs.Order.{Rise}
use Rattle.row_screens.proofs.KeyLemmas.{number_there}
use Rattle.row_screens.proofs.look.place_in.Goals as goal

pub place_from-requires : goal.place_from-requires
place_from-requires c =
    let count : length (numbers_in c.of-numbers.result) ≡ length c.args.row.now = ap (λ (ns : List ℕ). length ns) c.of-numbers.ensures ∙ length-map c.args.row.now (λ (node : Branch). node.number) in
    record { rise = subst Rise (sym c.of-numbers.ensures) c.requires.rise; within = omega (arith, c.requires.within, count) }

pub returns : goal.returns
returns c =
    let a = c.args in
    let e = c.place_from.ensures in
    let numbers = numbers_in c.of-numbers.result in
    let count : length numbers ≡ length a.row.now = ap (λ (ns : List ℕ). length ns) c.of-numbers.ensures ∙ length-map a.row.now (λ (node : Branch). node.number) in
    record {
      from = e.from;
      within = omega (arith, e.within, count);
      less = λ i l m. subst (λ (n : ℕ). n < a.number) (number_there a.row.now numbers i c.of-numbers.ensures) (e.less i l m);
      reached = λ m. subst (λ (n : ℕ). a.number ≤ n) (number_there a.row.now numbers c.place_from.result c.of-numbers.ensures) (e.reached (omega (arith, m, count)));
    }
