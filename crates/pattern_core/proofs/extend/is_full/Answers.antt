use Rattle.std.proofs.Common.{◌≡◌, ◌∙◌, ℕ, false, true, Option, None, Some, not, refl, ap, sym}
use Rattle.std.specs.Prelude.{is_some}
use Rattle.pattern_core.proofs.SuitsLemmas.{not_full, full_further}
use Rattle.pattern_core.proofs.extend.is_full.Goals as goal

none_of : (o : Option ℕ) → is_some o ≡ false → o ≡ None
none_of None e = refl
none_of (Some n) e = absurd cc

some_of : (o : Option ℕ) → is_some o ≡ true → (n : ℕ) × (o ≡ Some n)
some_of None e = absurd cc
some_of (Some n) e = (n, refl)

pub returns-then-is_none : goal.returns-then-is_none
returns-then-is_none c =
    let empty = none_of c.get.result (c.is_none.ensures ∙ ap not c.if-is_none.true) in
    sym (not_full c.args.slots.now c.loop-pattern.pattern (c.get.ensures.place ∙ ap Some empty))

pub loop-pattern-preserved : goal.loop-pattern-preserved
loop-pattern-preserved c =
    let filled = some_of c.get.result (c.is_none.ensures ∙ ap not c.if-is_none.false) in
    full_further c.args.slots.now c.loop-pattern.pattern filled.0 (c.get.ensures.place ∙ ap Some filled.1) ∙ c.loop-pattern.invariant
