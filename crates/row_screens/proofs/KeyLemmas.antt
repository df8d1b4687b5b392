-- The numbers of a row that have not the value of its key.
use Rattle.std.proofs.Common.{◌≡◌, ◌∙◌, inl, inr, ℕ, ◌≤◌, List, map, length, false, Option, refl, sym, ap, arith}
use Rattle.std.specs.Prelude.{slice_index, IfSome}
use Rattle.std.proofs.lemmas.Bool.{cases_lt}
use Rattle.guard_eval.specs.Meaning.{Assignment}
use Rattle.tree_rows.specs.Routes.{Branch}
use Rattle.tree_rows.specs.Rows.{leaf, node_at}
use Rattle.row_screens.specs.Offers.{Offered}
use Rattle.row_screens.specs.Screen.{AreLacking, AreOffered, AreWorthless, Screens, key_of, passes}
use Rattle.row_screens.specs.declared.screen.Screen.{Screen}
use Rattle.tree_rows.proofs.RowsLemmas.{get_or-map}
use Rattle.row_screens.proofs.ScreenLemmas.{lacks_screen, others}

-- the number at a place of the row is that of the node there
pub number_there : (row : List Branch) (numbers : List ℕ) (i : ℕ) → numbers ≡ map (λ node. node.number) row → slice_index numbers i ≡ (node_at row i).number
number_there row numbers i is = ap (λ (ns : List ℕ). slice_index ns i) is ∙ sym (get_or-map row i (leaf 0) (λ (node : Branch). node.number))

-- those that have not the key's value are not worth a visit
pub lacking_on : (o : Offered) (slots : Assignment) (q : ℕ) (row : List Branch) (numbers : List ℕ) (screen : Option Screen) (start from to : ℕ)
    → numbers ≡ map (λ node. node.number) row → AreOffered o slots q row start → IfSome screen (Screens o slots q (others o slots q))
    → start ≤ from → to ≤ length row → AreWorthless o slots q row start from → AreLacking o.messages (key_of screen) numbers from to → AreWorthless o slots q row start to
lacking_on o slots q row numbers screen start from to is offered screens later within before lacking i l m = elim (cases_lt i from) [
  | inl below ↦ before i l below
  | inr above ↦
      let fails : passes o.messages (key_of screen) (node_at row i).number ≡ false = ap (passes o.messages (key_of screen)) (sym (number_there row numbers i is)) ∙ lacking i above m in
      inr (lacks_screen o slots q (node_at row i).number screen (key_of screen) (offered i l (omega (arith, m, within))).free screens refl fails)
]
