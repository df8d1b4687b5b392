-- The conjuncts of a definition one by one, and sets of them that are decided.
use Rattle.std.proofs.Common.{◌≡◌, ◌∙◌, inl, inr, ℕ, zero, suc, ◌<◌, ◌≤◌, List, [], ◌∷◌, length, Bool, true, false, not, ◌&&◌, ◌||◌, Option, Some, None, slice_get, slice_index, refl, sym, ap, subst, arith}
use Rattle.std.specs.Prelude.{◌==◌, IfSome, MatchOption, is_some}
use Rattle.std.specs.List.{list_all, AllByRecursion}
use Rattle.std.proofs.lemmas.Bool.{cases_lt}
use Rattle.std.proofs.lemmas.Bool.Decides.{nat_tests}
use Rattle.std.proofs.lemmas.Option.{slice_get_past, slice_get_within}
use Rattle.join_base.specs.declared.message.Message.{Message}
use Rattle.guard_eval.specs.Condition.{Condition}
use Rattle.guard_eval.specs.Meaning.{Assignment, is_decided, is_filled, is_true, recorded_message}
use Rattle.guard_eval.proofs.ExtendLemmas.{both_true}
use Rattle.pattern_core.specs.Matches.{is_agreeable, is_of_kind}
use Rattle.row_screens.specs.Offers.{Offered, is_free}
use Rattle.row_screens.specs.Offering.{CanOffer}
use Rattle.row_screens.specs.PlaceSet.{has}
use Rattle.pattern_core.proofs.SuitsLemmas.{length-SlotsSuit}
use Rattle.tree_rows.specs.Routes.{with_number}
use Rattle.row_screens.specs.Ties.{AreNaming, names, needs_at, needs_in}
use Rattle.row_screens.specs.Trial.{AllStand, AllStandOutside, AreDecided, AsksNone, IsDecidedAt, StandOutside, stands_at, stands_in}
use Rattle.row_screens.specs.declared.place_set.PlaceSet.{PlaceSet}
use Rattle.guard_bound.specs.declared.bound.Bound.{Bound}
use Rattle.guard_bound.specs.declared.same.Same.{Same}
use Rattle.row_screens.specs.declared.screen.Key.{Key}
use Rattle.row_screens.specs.declared.screen.Screen.{Screen}
use Rattle.row_screens.specs.Screen.{AreTests, IsBound, IsOther, IsSaid, as_bound}
use Rattle.row_screens.proofs.ScreenLemmas.{all_others, others}
use Rattle.row_screens.proofs.SlotsLemmas.{free_further, free_is_none}
use Rattle.row_screens.proofs.TakeLemmas.{and_of}
use Rattle.row_screens.proofs.TieLemmas.{and_true, named_decided, stands_beside, stands_still}

-- ---- one conjunct

or_true : (b : Bool) → (b || true) ≡ true
or_true true = refl
or_true false = refl

pub true_stands : (messages : List Message) (slots : Assignment) (o : Option Condition) (c : Condition) → o ≡ Some c → is_true messages slots c ≡ true → stands_in messages slots o ≡ true
true_stands messages slots o c is holds = ap (stands_in messages slots) is ∙ (λ i. not (is_decided slots c) || holds i) ∙ or_true (not (is_decided slots c))

pub each_agrees : (messages : List Message) (slots : Assignment) (conjuncts : List Condition) (place : ℕ) → is_agreeable messages conjuncts slots ≡ true → stands_in messages slots (slice_get conjuncts place) ≡ true
each_agrees messages slots [] place h = refl
each_agrees messages slots (c ∷ conjuncts) zero h = (both_true (not (is_decided slots c) || is_true messages slots c) (is_agreeable messages conjuncts slots) h).0
each_agrees messages slots (c ∷ conjuncts) (suc place) h = each_agrees messages slots conjuncts place (both_true (not (is_decided slots c) || is_true messages slots c) (is_agreeable messages conjuncts slots) h).1

all_agree : (messages : List Message) (slots : Assignment) (conjuncts : List Condition) → ((place : ℕ) → stands_in messages slots (slice_get conjuncts place) ≡ true) → is_agreeable messages conjuncts slots ≡ true
all_agree messages slots [] h = refl
all_agree messages slots (c ∷ conjuncts) h = (λ i. h 0 i && is_agreeable messages conjuncts slots) ∙ all_agree messages slots conjuncts (λ place. h (suc place))

-- one with no field of the pattern, or a field of an empty one, stands as before
stands_on : (messages : List Message) (slots : Assignment) (p n : ℕ) (o : Option Condition) → is_free slots p ≡ true → stands_in messages slots o ≡ true
    → (names p (needs_in o) && list_all (is_filled (with_number slots p n)) (needs_in o)) ≡ false → stands_in messages (with_number slots p n) o ≡ true
stands_on messages slots p n None free before not_with = refl
stands_on messages slots p n (Some c) free before not_with = stands_still messages slots p n c free before not_with

-- ---- sets

not_both : (n a l : Bool) → a ≡ true → ((n && a) && l) ≡ false → (n && l) ≡ false
not_both true a l e h = sym (λ i. e i && l) ∙ h
not_both false a l e h = refl

-- those of a set that the number decides stand, those outside the set too, and the others as before
pub set_stands : (o : Offered) (slots : Assignment) (p n : ℕ) (asked those : PlaceSet) → is_free slots p ≡ true → is_agreeable o.messages o.definition.conjuncts slots ≡ true → length o.definition.conjuncts ≤ 64
    → ((k : ℕ) → k < 64 → has those k ≡ ((names p (needs_at o.definition.conjuncts k) && has asked k) && list_all (is_filled (with_number slots p n)) (needs_at o.definition.conjuncts k)))
    → StandOutside o asked (with_number slots p n) → AllStand o (with_number slots p n) those → is_agreeable o.messages o.definition.conjuncts (with_number slots p n) ≡ true
set_stands o slots p n asked those free before few told outside stand = all_agree o.messages (with_number slots p n) conjuncts each
  where
    conjuncts : List Condition
    conjuncts = o.definition.conjuncts

    longer : Assignment
    longer = with_number slots p n

    by : (k : ℕ) → k < 64 → (b : Bool) → has those k ≡ b → (d : Bool) → has asked k ≡ d → stands_in o.messages longer (slice_get conjuncts k) ≡ true
    by k small true e d f = stand k small e
    by k small false e false f = outside k small f
    by k small false e true f =
        stands_on o.messages slots p n (slice_get conjuncts k) free (each_agrees o.messages slots conjuncts k before)
        (not_both (names p (needs_at conjuncts k)) (has asked k) (list_all (is_filled longer) (needs_at conjuncts k)) f (sym (told k small) ∙ e))

    each : (k : ℕ) → stands_in o.messages longer (slice_get conjuncts k) ≡ true
    each k = elim (cases_lt k (length conjuncts)) [
      | inl within ↦ by k (omega (arith, within, few)) (has those k) refl (has asked k) refl
      | inr past ↦ ap (stands_in o.messages longer) (slice_get_past conjuncts k past)
    ]

not_asked : (n a l : Bool) → a ≡ true → (n && a) ≡ false → (n && l) ≡ false
not_asked true a l e h = absurd (let bad = sym e ∙ h in cc)
not_asked false a l e h = refl

-- where none of the set has a field of the pattern, and those outside it stand
pub none_stands : (o : Offered) (slots : Assignment) (p : ℕ) (asked : PlaceSet) → is_free slots p ≡ true → is_agreeable o.messages o.definition.conjuncts slots ≡ true → AsksNone o p asked
    → StandOutside o asked (with_number slots p o.number) → is_agreeable o.messages o.definition.conjuncts (with_number slots p o.number) ≡ true
none_stands o slots p asked free before none outside = all_agree o.messages (with_number slots p o.number) conjuncts each
  where
    conjuncts : List Condition
    conjuncts = o.definition.conjuncts

    longer : Assignment
    longer = with_number slots p o.number

    by : (k : ℕ) → k < 64 → (d : Bool) → has asked k ≡ d → stands_in o.messages longer (slice_get conjuncts k) ≡ true
    by k small false f = outside k small f
    by k small true f =
        stands_on o.messages slots p o.number (slice_get conjuncts k) free (each_agrees o.messages slots conjuncts k before)
        (not_asked (names p (needs_at conjuncts k)) (has asked k) (list_all (is_filled longer) (needs_at conjuncts k)) f (none.none k small))

    each : (k : ℕ) → stands_in o.messages longer (slice_get conjuncts k) ≡ true
    each k = elim (cases_lt k (length conjuncts)) [
      | inl within ↦ by k (omega (arith, within, none.few)) (has asked k) refl
      | inr past ↦ ap (stands_in o.messages longer) (slice_get_past conjuncts k past)
    ]

decided_there : (o : Offered) (slots : Assignment) (p place : ℕ) → (names p (needs_at o.definition.conjuncts place) && list_all (is_filled slots) (needs_at o.definition.conjuncts place)) ≡ true → IsDecidedAt o slots place
decided_there o slots p place h = by (slice_get o.definition.conjuncts place) refl h
  where
    by : (x : Option Condition) → slice_get o.definition.conjuncts place ≡ x → (names p (needs_in x) && list_all (is_filled slots) (needs_in x)) ≡ true → IsDecidedAt o slots place
    by None e d = absurd cc
    by (Some c) e d = record { conjunct = c; at = e; decided = named_decided slots p c d }

first_last : (n a l : Bool) → ((n && a) && l) ≡ true → (n && l) ≡ true
first_last n a l h =
    let outer = both_true (n && a) l h in
    let inner = both_true n a outer.0 in
    (λ i. inner.0 i && l) ∙ outer.1

-- a set of conjuncts with a field of the pattern, whose patterns are all filled, is decided
pub named_decided_all : (o : Offered) (slots : Assignment) (p : ℕ) (also : ℕ → Bool) (those : PlaceSet) → ((k : ℕ) → k < 64 → has those k ≡ ((names p (needs_at o.definition.conjuncts k) && also k) && list_all (is_filled slots) (needs_at o.definition.conjuncts k))) → AreDecided o slots those
named_decided_all o slots p also those told k small member =
    decided_there o slots p k (first_last (names p (needs_at o.definition.conjuncts k)) (also k) (list_all (is_filled slots) (needs_at o.definition.conjuncts k)) (sym (told k small) ∙ member))

pub none_there : (h a l : Bool) → h ≡ a → h ≡ false → false ≡ (a && l)
none_there h a l same none = sym (λ i. (sym same ∙ none) i && l)

-- a set without a first place is empty
pub nothing_first : (those : PlaceSet) (first : Option ℕ) → MatchOption first ((k : ℕ) → has those k ≡ false) (λ place. (place < 64) × (has those place ≡ true)) → is_some first ≡ false → (k : ℕ) → has those k ≡ false
nothing_first those None h none = h
nothing_first those (Some place) h none = absurd cc

-- of decided ones some
pub some_decided : (o : Offered) (slots : Assignment) (before now : PlaceSet) (also : ℕ → Bool) → ((k : ℕ) → k < 64 → has now k ≡ (has before k && also k)) → AreDecided o slots before → AreDecided o slots now
some_decided o slots before now also told decided k small member = decided k small (both_true (has before k) (also k) (sym (told k small) ∙ member)).0

same_there : (k place : ℕ) → (k == place) ≡ true → place ≡ k
same_there k place e = grind (arith, nat_tests)

-- and one more
pub decided_more : (o : Offered) (slots : Assignment) (before now : PlaceSet) (place : ℕ) → ((k : ℕ) → has now k ≡ ((k == place) || has before k)) → AreDecided o slots before → IsDecidedAt o slots place → AreDecided o slots now
decided_more o slots before now place told decided here k small member = by (k == place) refl (sym (told k) ∙ member)
  where
    by : (b : Bool) → (k == place) ≡ b → (b || has before k) ≡ true → IsDecidedAt o slots k
    by true e m = subst (IsDecidedAt o slots) (same_there k place e) here
    by false e m = decided k small m

pub place_more : (o : Offered) (whole : Assignment) (pattern : ℕ) (before now : Screen) (place : ℕ) → AreTests o whole pattern before → IsDecidedAt o whole place
    → now.other ≡ before.other → now.key ≡ before.key → now.bounds ≡ before.bounds → now.same ≡ before.same → ((k : ℕ) → has now.tests k ≡ ((k == place) || has before.tests k)) → AreTests o whole pattern now
place_more o whole pattern before now place h here other key bounds same tests =
    let keyed : IfSome now.key (λ k. IsBound o whole pattern before.other (as_bound k)) = subst (λ (x : Option Key). IfSome x (λ k. IsBound o whole pattern before.other (as_bound k))) (sym key) h.key in
    let all : AllByRecursion (IsBound o whole pattern before.other) now.bounds = subst (λ (bs : List Bound). AllByRecursion (IsBound o whole pattern before.other) bs) (sym bounds) h.bounds in
    let said : IfSome now.same (IsSaid o whole pattern before.other) = subst (λ (x : Option Same). IfSome x (IsSaid o whole pattern before.other)) (sym same) h.same in
    record {
      key = subst (λ (n : ℕ). IfSome now.key (λ k. IsBound o whole pattern n (as_bound k))) (sym other) keyed;
      bounds = subst (λ (n : ℕ). AllByRecursion (IsBound o whole pattern n) now.bounds) (sym other) all;
      same = subst (λ (n : ℕ). IfSome now.same (IsSaid o whole pattern n)) (sym other) said;
      tests = decided_more o whole before.tests now.tests place tests h.tests here;
    }

-- of the set those that have gone stand
abbrev pub HaveStood : Offered → Assignment → PlaceSet → PlaceSet → Type 0
HaveStood o slots those left = (k : ℕ) → k < 64 → has those k ≡ true → has left k ≡ false → stands_at o slots k ≡ true

pub none_stood : (o : Offered) (slots : Assignment) (those : PlaceSet) → HaveStood o slots those those
none_stood o slots those k small member gone = absurd (let bad = sym member ∙ gone in cc)

pub stood_more : (o : Offered) (slots : Assignment) (those left now : PlaceSet) (place : ℕ) → ((k : ℕ) → k < 64 → has now k ≡ (has left k && not (k == place))) → HaveStood o slots those left → stands_at o slots place ≡ true → HaveStood o slots those now
stood_more o slots those left now place told before here k small member gone = by (k == place) refl (sym (told k small) ∙ gone)
  where
    by : (b : Bool) → (k == place) ≡ b → (has left k && not b) ≡ false → stands_at o slots k ≡ true
    by true e m = subst (λ (x : ℕ). stands_at o slots x ≡ true) (same_there k place e) here
    by false e m = before k small member (and_true (has left k) ∙ m)

-- two answers that say the same
pub same_answer : (a b : Bool) → (a ≡ true → b ≡ true) → (a ≡ false → b ≡ false) → a ≡ b
same_answer true b holds fails = sym (holds refl)
same_answer false b holds fails = sym (fails refl)

-- ---- a path with a number more

swapped : (slots : Assignment) (q m p n : ℕ) → (p == q) ≡ false → with_number (with_number slots p n) q m ≡ with_number (with_number slots q m) p n
swapped [] q m p n other = refl
swapped (slot ∷ slots) zero m zero n other = absurd (let same : (0 == 0) ≡ true = refl in let e = sym same ∙ other in cc)
swapped (slot ∷ slots) zero m (suc p) n other = refl
swapped (slot ∷ slots) (suc q) m zero n other = refl
swapped (slot ∷ slots) (suc q) m (suc p) n other = ap (λ (s : Assignment). slot ∷ s) (swapped slots q m p n (same_test ∙ other))
  where
    same_test : (p == q) ≡ (suc p == suc q)
    same_test = grind (arith, nat_tests)

other_way : (p q : ℕ) → not (p == q) ≡ true → not (q == p) ≡ true
other_way p q e = grind (arith, nat_tests)

apart : (p q : ℕ) → not (p == q) ≡ true → (p == q) ≡ false
apart p q e = grind (arith, nat_tests)

-- a conjunct without a field of the pattern stands there beside a number of it as without
pub beside_in : (messages : List Message) (slots : Assignment) (q m : ℕ) (o : Option Condition) → is_free slots q ≡ true → names q (needs_in o) ≡ false → stands_in messages slots o ≡ true → stands_in messages (with_number slots q m) o ≡ true
beside_in messages slots q m None free none stands = refl
beside_in messages slots q m (Some c) free none stands = stands_beside messages slots q m c free none stands

-- where another pattern may take the number, a conjunct without a field of the one stands behind a number there too
pub stands_behind : (o : Offered) (slots : Assignment) (q m p k : ℕ) → is_free slots q ≡ true → IsOther o slots q p → names q (needs_at o.definition.conjuncts k) ≡ false → stands_at o (with_number (with_number slots q m) p o.number) k ≡ true
stands_behind o slots q m p k free is unnamed =
    let kind : Bool = is_of_kind (recorded_message o.messages o.number) (slice_index o.definition.patterns p) in
    let agreeable : Bool = is_agreeable o.messages o.definition.conjuncts (with_number slots p o.number) in
    let parts = both_true (is_free slots p) (kind && agreeable) is.may in
    let stands = each_agrees o.messages (with_number slots p o.number) o.definition.conjuncts k (both_true kind agreeable parts.1).1 in
    let still : is_free (with_number slots p o.number) q ≡ true = free_further slots p o.number q ∙ and_of (is_free slots q) (not (q == p)) free (other_way p q is.apart) in
    subst (λ (s : Assignment). stands_at o s k ≡ true) (swapped slots q m p o.number (apart p q is.apart))
    (beside_in o.messages (with_number slots p o.number) q m (slice_get o.definition.conjuncts k) still unnamed stands)

-- where another pattern may take the number, conjuncts without a field of the one stand behind a number there too
pub outside_behind : (o : Offered) (slots : Assignment) (q m : ℕ) (those : PlaceSet) → is_free slots q ≡ true → AreNaming o.definition.conjuncts q those → AllStandOutside o those (with_number slots q m) (others o slots q)
outside_behind o slots q m those free naming = go (others o slots q) (all_others o slots q)
  where
    one : (p : ℕ) → IsOther o slots q p → StandOutside o those (with_number (with_number slots q m) p o.number)
    one p is k small out = stands_behind o slots q m p k free is (sym (naming k small) ∙ out)

    go : (ps : List ℕ) → AllByRecursion (IsOther o slots q) ps → AllByRecursion (λ p. StandOutside o those (with_number (with_number slots q m) p o.number)) ps
    go [] h = tt
    go (p ∷ ps) h = (one p h.0, go ps h.1)

-- outside the set of all there is none
pub none_outside : (o : Offered) (slots : Assignment) (those : PlaceSet) → ((k : ℕ) → k < 64 → has those k ≡ true) → (ps : List ℕ) → AllStandOutside o those slots ps
none_outside o slots those full [] = tt
none_outside o slots those full (p ∷ ps) = (λ k small out. absurd (let bad = sym (full k small) ∙ out in cc), none_outside o slots those full ps)

-- a free pattern is one of 8
pub free_small : (o : Offered) (slots : Assignment) (q : ℕ) → CanOffer o slots → is_free slots q ≡ true → q < 8
free_small o slots q can free =
    omega (arith, slice_get_within slots q None (free_is_none slots q free), length-SlotsSuit o.messages o.definition.patterns slots can.suits, can.definition.few)
