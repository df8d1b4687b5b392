-- What bounds say of the values of an integer field, and the numbers that are found by them.
use Rattle.std.proofs.Common.{◌≡◌, ◌⊎◌, inl, inr, ℕ, ℤ, zero, suc, ◌<◌, List, [], ◌∷◌, length, get_or, Bool, true, false, Option, Some, None, slice_get, refl, sym, subst, arith}
use Rattle.std.proofs.lemmas.Int.{ints}
use Rattle.std.specs.Prelude.{IfSome, IsSomeAnd, int_le, int_lt}
use Rattle.std.specs.List.{list_all}
use Rattle.std.proofs.lemmas.Bool.{and_parts}
use Rattle.std.proofs.lemmas.Bool.Decides.{Decides-int_eq}
use Rattle.join_base.specs.declared.message.Message.{Message}
use Rattle.join_base.specs.declared.message.Relation.{Relation}
use Rattle.join_base.specs.declared.message.Relation.TheVariants.{Equal, NotEqual, Less, LessEqual, Greater, GreaterEqual}
use Rattle.guard_eval.specs.Meaning.{Assignment, int_relation}
use Rattle.guard_bound.specs.declared.bound.Bound.{Bound}
use Rattle.guard_bound.specs.Bound.{int_at, meets}
use Rattle.pattern_core.specs.Members.{IsIn}
use Rattle.value_index.specs.declared.value_range.Span.{Span}
use Rattle.value_index.specs.Index.{entry}
use Rattle.value_index.specs.ValueRange.{Ascend, is_up_to, lies_in}
use Rattle.value_index.proofs.RangeLemmas.{le_itself}
use Rattle.row_screens.specs.declared.range.Ends.{Ends}
use Rattle.row_screens.specs.declared.screen.Screen.{Screen}
use Rattle.tree_rows.specs.Routes.{with_number}
use Rattle.row_screens.specs.Offers.{Offered, may_take}
use Rattle.row_screens.specs.Screen.{AreTests, IsOffered, IsOther}
use Rattle.row_screens.specs.Look.{FindsAt}
use Rattle.row_screens.specs.Range.{AreEnds, IsGreatest, IsLeast, Lie, is_greatest, is_least}
use Rattle.row_screens.proofs.LookLemmas.{entry_there}
use Rattle.row_screens.proofs.ScreenLemmas.{misses_one, other_at}
use Rattle.row_screens.proofs.TakeLemmas.{and_of}

-- ---- the ends of a field

item_there : {X : Type 0} (xs : List X) (i : ℕ) (d : X) → i < length xs → IsIn (get_or xs i d) xs
item_there [] i d l = absurd (omega arith)
item_there (x ∷ xs) zero d l = inl refl
item_there (x ∷ xs) (suc i) d l = inr (item_there xs i d (omega arith))

-- a bound of a slice
pub bound_there : (items bounds : List Bound) (i : ℕ) (d : Bound) → items ≡ bounds → i < length items → IsIn (get_or items i d) bounds
bound_there items bounds i d same l = subst (λ (bs : List Bound). IsIn (get_or items i d) bs) same (item_there items i d l)

least_more : (bounds : List Bound) (field : ℕ) (bound : Bound) (before now : Option Bound) → IsIn bound bounds → bound.field ≡ field → (now ≡ before) ⊎ ((now ≡ Some bound) × (is_least bound.relation ≡ true)) → IfSome before (IsLeast bounds field) → IfSome now (IsLeast bounds field)
least_more bounds field bound before now there at (inl same) h = subst (λ (b : Option Bound). IfSome b (IsLeast bounds field)) (sym same) h
least_more bounds field bound before now there at (inr new) h = subst (λ (b : Option Bound). IfSome b (IsLeast bounds field)) (sym new.0) (record { is_in = there; at = at; least = new.1 })

greatest_more : (bounds : List Bound) (field : ℕ) (bound : Bound) (before now : Option Bound) → IsIn bound bounds → bound.field ≡ field → (now ≡ before) ⊎ ((now ≡ Some bound) × (is_greatest bound.relation ≡ true)) → IfSome before (IsGreatest bounds field)
    → IfSome now (IsGreatest bounds field)
greatest_more bounds field bound before now there at (inl same) h = subst (λ (b : Option Bound). IfSome b (IsGreatest bounds field)) (sym same) h
greatest_more bounds field bound before now there at (inr new) h = subst (λ (b : Option Bound). IfSome b (IsGreatest bounds field)) (sym new.0) (record { is_in = there; at = at; greatest = new.1 })

-- the ends with those of a further bound
pub ends_more : (bounds : List Bound) (field : ℕ) (bound : Bound) (before now : Ends) → IsIn bound bounds → bound.field ≡ field → (now.least ≡ before.least) ⊎ ((now.least ≡ Some bound) × (is_least bound.relation ≡ true))
    → (now.greatest ≡ before.greatest) ⊎ ((now.greatest ≡ Some bound) × (is_greatest bound.relation ≡ true)) → AreEnds bounds field before → AreEnds bounds field now
ends_more bounds field bound before now there at least greatest are = record {
  least = least_more bounds field bound before.least now.least there at least are.least;
  greatest = greatest_more bounds field bound before.greatest now.greatest there at greatest are.greatest;
}

-- ---- what a bound says

lt_le : (a b : ℤ) → int_lt a b ≡ true → int_le a b ≡ true
lt_le a b h = grind (arith, ints)

least_says : (r : Relation) (v n : ℤ) → is_least r ≡ true → int_relation r v n ≡ true → int_le n v ≡ true
least_says Equal v n e h = subst (λ (x : ℤ). int_le x v ≡ true) ((Decides-int_eq v n).0 h) (le_itself v)
least_says NotEqual v n e h = absurd cc
least_says Less v n e h = absurd cc
least_says LessEqual v n e h = absurd cc
least_says Greater v n e h = lt_le n v h
least_says GreaterEqual v n e h = h

greatest_says : (r : Relation) (v n : ℤ) → is_greatest r ≡ true → int_relation r v n ≡ true → int_le v n ≡ true
greatest_says Equal v n e h = subst (λ (x : ℤ). int_le v x ≡ true) ((Decides-int_eq v n).0 h) (le_itself v)
greatest_says NotEqual v n e h = absurd cc
greatest_says Less v n e h = lt_le v n h
greatest_says LessEqual v n e h = h
greatest_says Greater v n e h = absurd cc
greatest_says GreaterEqual v n e h = absurd cc

meets_in : (messages : List Message) (m : ℕ) (bounds : List Bound) (bound : Bound) → IsIn bound bounds → list_all (λ b. meets messages b m) bounds ≡ true → meets messages bound m ≡ true
meets_in messages m [] bound there all = absurd there
meets_in messages m (b ∷ bounds) bound there all =
    let parts = and_parts (meets messages b m) (list_all (λ x. meets messages x m) bounds) all in
    elim there [
      | inl is ↦ subst (λ (x : Bound). meets messages x m ≡ true) is parts.0
      | inr later ↦ meets_in messages m bounds bound later parts.1
    ]

module _ (bounds : List Bound) (field : ℕ) (messages : List Message) (m : ℕ) (all : list_all (λ b. meets messages b m) bounds ≡ true) where
  is_from : (bound : Bound) → IsLeast bounds field bound → int_le bound.value (int_at messages m field) ≡ true
  is_from bound is = subst (λ (f : ℕ). int_le bound.value (int_at messages m f) ≡ true) is.at (least_says bound.relation (int_at messages m bound.field) bound.value is.least (meets_in messages m bounds bound is.is_in all))

  is_to : (bound : Bound) → IsGreatest bounds field bound → int_le (int_at messages m field) bound.value ≡ true
  is_to bound is = subst (λ (f : ℕ). int_le (int_at messages m f) bound.value ≡ true) is.at (greatest_says bound.relation (int_at messages m bound.field) bound.value is.greatest (meets_in messages m bounds bound is.is_in all))

  is_up : (high : Option ℤ) (greatest : Option Bound) → IfSome greatest (IsGreatest bounds field) → IfSome high (λ h. IsSomeAnd greatest (λ b. h ≡ b.value)) → is_up_to high (int_at messages m field) ≡ true
  is_up None greatest is e = refl
  is_up (Some h) None is e = absurd e
  is_up (Some h) (Some bound) is e = subst (λ (x : ℤ). int_le (int_at messages m field) x ≡ true) (sym e) (is_to bound is)

-- a number that meets the bounds has a value of the span
pub span_lies : (bounds : List Bound) (field : ℕ) (ends : Ends) (least : Bound) (span : Span) → AreEnds bounds field ends → ends.least ≡ Some least → span.low ≡ least.value → IfSome span.high (λ h. IsSomeAnd ends.greatest (λ b. h ≡ b.value)) → Lie bounds field span
span_lies bounds field ends least span are is low high messages m all =
    let from = is_from bounds field messages m all least (subst (λ (b : Option Bound). IfSome b (IsLeast bounds field)) is are.least) in
    and_of (int_le span.low (int_at messages m field)) (is_up_to span.high (int_at messages m field)) (subst (λ (x : ℤ). int_le x (int_at messages m field) ≡ true) (sym low) from) (is_up bounds field messages m all span.high ends.greatest are.greatest high)

-- ---- the numbers of a span

module _ (o : Offered) (slots : Assignment) (q kind field : ℕ) (screen : Screen) (span : Span) (pattern : slice_get o.definition.patterns q ≡ Some kind) (tested : AreTests o (with_number (with_number slots q o.number) screen.other o.number) q screen)
    (known : slice_get o.index.fields span.place ≡ Some (record { kind = kind; field = field; words = false })) (lie : Lie screen.bounds field span) where
  range_finds : (numbers : List ℕ) → ((v : ℤ) (number : ℕ) → lies_in span v ≡ true → IsIn (entry span.place v number) o.index.entries → IsIn number numbers) → IsOther o slots q screen.other → (m : ℕ) → IsOffered o slots q m
      → IsIn m numbers ⊎ (may_take o (with_number slots q m) screen.other ≡ false)
  range_finds numbers has is m offered = by (list_all (λ b. meets o.messages b m) screen.bounds) refl
    where
      by : (b : Bool) → list_all (λ x. meets o.messages x m) screen.bounds ≡ b → IsIn m numbers ⊎ (may_take o (with_number slots q m) screen.other ≡ false)
      by true e = inl (has (int_at o.messages m field) m (lie o.messages m e) (entry_there o slots q m kind span.place (record { kind = kind; field = field; words = false }) offered pattern known refl))
      by false e = inr (misses_one o slots q m screen.other offered.free (other_at o slots q screen.other is) screen.bounds tested.bounds e)

  -- where there are such
  pub range_found : (found : Option (List ℕ)) → IfSome found Ascend → IfSome found (λ numbers. (v : ℤ) (number : ℕ) → lies_in span v ≡ true → IsIn (entry span.place v number) o.index.entries → IsIn number numbers) → IfSome found (FindsAt o slots q screen.other 0)
  range_found None ascend has = tt
  range_found (Some numbers) ascend has = record { ascend = ascend; has = λ is m l offered. range_finds numbers has is m offered }
