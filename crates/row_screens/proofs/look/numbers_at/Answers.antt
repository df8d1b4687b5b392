use Rattle.std.proofs.Common.{◌≡◌, ℤ, rules, w64, to_z, of_z, sym, subst}
use Rattle.std.proofs.lemmas.Int.{to_z-of_z}
use Rattle.pattern_core.specs.Members.{IsIn}
use Rattle.value_index.specs.Index.{entry}
use Rattle.row_screens.proofs.look.numbers_at.Goals as goal

pub returns-clause-has : goal.returns-clause-has
returns-clause-has c = λ number l m.
    let a = c.args in
    let fits : to_z w64 (of_z w64 a.look.value) ≡ a.look.value = search (rules, to_z-of_z) in
    c.numbers_from.ensures.has number l (subst (λ (v : ℤ). IsIn (entry a.look.place v number) a.index.now.entries) (sym fits) m)
