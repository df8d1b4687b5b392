-- The definition that a number names.
use Rattle.std.proofs.Common.{◌≡◌, inl, inr, ℕ, suc, ◌+◌, ◌-◌, ◌<◌, ◌≤◌, List, [], ◌∷◌, length, slice_get, Some, ap, ◌∙◌, arith}
use Rattle.pattern_core.specs.declared.definition.Definition.{Definition}
use Rattle.pattern_core.specs.Choice.{NumberedFrom}

-- the place of the definition that has a number
pub record Placed (from : ℕ) (ds : List Definition) (rule : ℕ) (d : Definition) : Type 0 where
  pub above : from ≤ rule
  pub below : rule < from + length ds
  pub found : slice_get ds (rule - from) ≡ Some d

pub place_of : (from : ℕ) (ds : List Definition) (rule : ℕ) (d : Definition) → NumberedFrom from ds rule d → Placed from ds rule d
place_of from [] rule d n = absurd n
place_of from (first ∷ ds) rule d (inl e) = let here = e.0 in let zero_is : rule - from ≡ 0 = omega arith in record {
  above = omega arith;
  below = omega arith;
  found = ap (slice_get (first ∷ ds)) zero_is ∙ ap Some e.1;
}
place_of from (first ∷ ds) rule d (inr n) =
    let p = place_of (from + 1) ds rule d n in
    let low = p.above in
    let high = p.below in
    let next : rule - from ≡ suc (rule - (from + 1)) = omega arith in
    record { above = omega arith; below = omega arith; found = ap (slice_get (first ∷ ds)) next ∙ p.found }
