-- The posts of the building fit its plan.
use Rattle.std.proofs.Common.{◌≡◌, ℕ, ◌≤◌, List, length, ap, arith, subst, sym}
use Rattle.std.specs.List.{AllByRecursion}
use Rattle.join_base.specs.declared.message.Message.{Message}
use Rattle.script_types.specs.declared.plan.Plan.{Plan}
use Rattle.fair_semantics.specs.Fits.{IsFrom1To, PostFits}
use Rattle.building_load.specs.Building.{load_plan}
use Rattle.building_load.specs.Rows.{load_feeds}
use Rattle.building_load.proofs.RowLemmas.{load_feeds_fit}

pub building_fits : (plan : Plan) (feeds : List (List (ℕ × Message))) (rows : ℕ) → rows ≤ 20000 → plan ≡ load_plan → feeds ≡ load_feeds rows → AllByRecursion (AllByRecursion (PostFits plan)) feeds
building_fits plan feeds rows few plan_is feeds_are =
    let P : Plan → Type 0 = λ p. AllByRecursion (AllByRecursion (PostFits p)) (load_feeds rows) in
    let F : List (List (ℕ × Message)) → Type 0 = λ f. AllByRecursion (AllByRecursion (PostFits plan)) f in
    subst F (sym feeds_are) (subst P (sym plan_is) (load_feeds_fit rows few))

-- there are four
pub four_feeds : (feeds : List (List (ℕ × Message))) (rows : ℕ) → feeds ≡ load_feeds rows → IsFrom1To 16 (length feeds)
four_feeds feeds rows are = let four = ap length are in (omega (arith, four), omega (arith, four))
