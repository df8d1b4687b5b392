use Rattle.std.proofs.Common.{◌≤◌, ℕ, List, Option, sym, subst}
use Rattle.std.specs.Prelude.{IfSome}
use Rattle.std.proofs.lemmas.Option.{IfSome_then}
use Rattle.pattern_core.specs.Members.{IsIn}
use Rattle.value_index.specs.Index.{entry}
use Rattle.tree_rows.specs.Rows.{node_at}
use Rattle.row_screens.specs.Offering.{offered}
use Rattle.row_screens.specs.Screen.{Screens}
use Rattle.row_screens.specs.declared.screen.Screen.{Screen}
use Rattle.row_screens.proofs.LookLemmas.{left_first, left_found}
use Rattle.row_screens.proofs.ScreenLemmas.{others}
use Rattle.row_screens.proofs.look.looked_up.Goals as goal

pub returns-in_ok-look-in-None : goal.returns-in_ok-look-in-None
returns-in_ok-look-in-None c =
    let a = c.args in
    let o = offered a.offer.now in
    let look = c.in_ok-look-in-None.look in
    let e = c.numbers_at.ensures in
    let has = λ (number : ℕ) (l : (node_at a.row.now 0).number ≤ number) (m : IsIn (entry look.place look.value number) o.index.entries).
    e.has number (subst (λ (n : ℕ). n ≤ number) (sym c.number_at-first.ensures) l) m in
    record {
      ascend = e.ascend;
      has = left_first o a.slots.now a.pattern a.row.now 0 c.requires.rise look c.numbers_at.result c.requires.offered c.in_ok-look-in-None.ensures has;
    }

pub found_by-requires : goal.found_by-requires
found_by-requires c =
    let a = c.args in
    let o = offered a.offer.now in
    let Is : Option Screen → Type 0 = λ s. IfSome s (Screens o a.slots.now a.pattern (others o a.slots.now a.pattern)) in
    record { tested = (subst Is c.in-Some.is c.requires.screen).tested }

pub returns-in-Some : goal.returns-in-Some
returns-in-Some c =
    let a = c.args in
    let o = offered a.offer.now in
    let Is : Option Screen → Type 0 = λ s. IfSome s (Screens o a.slots.now a.pattern (others o a.slots.now a.pattern)) in
    let alone = (subst Is c.in-Some.is c.requires.screen).alone in
    IfSome_then c.found_by.result c.found_by.ensures (λ (left : List ℕ) finds. left_found o a.slots.now a.pattern a.row.now 0 c.requires.rise c.in-Some.screen.other c.number_at-first.result left c.number_at-first.ensures alone c.requires.offered finds)
