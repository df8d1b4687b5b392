-- What a screen asks: each conjunct that the row's pattern and the wanted one decide together.
use Rattle.std.proofs.Common.{◌≡◌, ◌∙◌, inl, inr, ℕ, ◌<◌, List, [], ◌∷◌, ◌++◌, Bool, true, false, not, ◌&&◌, ◌||◌, Option, Some, None, slice_get, refl, sym, ap, subst, arith}
use Rattle.std.specs.Prelude.{◌==◌, IsSomeAnd, MatchOption}
use Rattle.std.specs.List.{list_all, AllByRecursion}
use Rattle.std.proofs.lemmas.Bool.Decides.{nat_tests}
use Rattle.join_base.specs.declared.message.Message.{Message}
use Rattle.guard_eval.specs.Condition.{Condition}
use Rattle.guard_eval.specs.Meaning.{Assignment, Need, has_some, is_filled, is_true, needs_of}
use Rattle.guard_eval.proofs.ExtendLemmas.{both_true}
use Rattle.guard_bound.specs.Bound.{IsPair, Says, meets}
use Rattle.guard_bound.specs.Same.{SaysSame, is_same}
use Rattle.guard_bound.specs.declared.bound.Bound.{Bound}
use Rattle.guard_bound.specs.declared.same.Same.{Same}
use Rattle.guard_bound.proofs.SameLemmas.{same_said}
use Rattle.row_screens.specs.Offers.{Offered, is_free}
use Rattle.row_screens.specs.Offering.{CanOffer}
use Rattle.row_screens.specs.PlaceSet.{has}
use Rattle.tree_rows.specs.Routes.{with_number}
use Rattle.row_screens.specs.Screen.{AreAsked, IsAdded, IsAsked, IsOther, Passes, Screens, as_bound, passes}
use Rattle.row_screens.specs.Ties.{AreNaming, names, needs_at, needs_in}
use Rattle.row_screens.specs.Trial.{AllStand, AllStandOutside, AllStandWith, stands_at, stands_in}
use Rattle.row_screens.specs.declared.place_set.PlaceSet.{PlaceSet}
use Rattle.row_screens.specs.declared.screen.Key.{Key}
use Rattle.row_screens.specs.declared.screen.Screen.{Screen}
use Rattle.row_screens.proofs.ScreenLemmas.{Other, all_alike, all_others, beside, other_at, others}
use Rattle.row_screens.proofs.SlotsLemmas.{free_further}
use Rattle.row_screens.proofs.TakeLemmas.{and_of}
use Rattle.row_screens.proofs.TrialLemmas.{beside_in, each_agrees, outside_behind, stands_behind, true_stands}

-- ---- a screen that asks more

-- what was asked is asked still, where what passes now passed before
asked_still : (o : Offered) (pattern : ℕ) (before now : Screen) (place : ℕ) → now.other ≡ before.other → ((k : ℕ) → has before.tests k ≡ true → has now.tests k ≡ true)
    → ((number : ℕ) → Passes o now number → Passes o before number) → IsAsked o pattern before place → IsAsked o pattern now place
asked_still o pattern before now place other tests fewer asked = elim asked [
  | inl test ↦ inl (tests place test)
  | inr f ↦ inr (λ number whole pair passed. f number whole (subst (λ (n : ℕ). IsPair o.number pattern n number whole) other pair) (fewer number passed))
]

all_last : {X : Type 0} (f : X → Bool) (xs : List X) (x : X) → list_all f (xs ++ x ∷ []) ≡ true → (list_all f xs ≡ true) × (f x ≡ true)
all_last f [] x h = (refl, (both_true (f x) true h).0)
all_last f (y ∷ xs) x h =
    let parts = both_true (f y) (list_all f (xs ++ x ∷ [])) h in
    let rest = all_last f xs x parts.1 in
    ((λ i. parts.0 i && rest.0 i), rest.1)

key_meets : (messages : List Message) (key : Option Key) (bound : Bound) (number : ℕ) → IsSomeAnd key (λ k. as_bound k ≡ bound) → passes messages key number ≡ true → meets messages bound number ≡ true
key_meets messages None bound number h passed = absurd h
key_meets messages (Some k) bound number h passed = subst (λ (b : Bound). meets messages b number ≡ true) h passed

bound_passes : (o : Offered) (before now : Screen) (bound : Bound) → now.same ≡ before.same → IsAdded before now bound → (number : ℕ) → Passes o now number → Passes o before number × (meets o.messages bound number ≡ true)
bound_passes o before now bound same added number passed =
    let text : is_same o.messages o.number before.same number ≡ true = ap (λ (s : Option Same). is_same o.messages o.number s number) (sym same) ∙ passed.same in
    let Key_passes : Option Key → Type 0 = λ k. passes o.messages k number ≡ true in
    let All : List Bound → Type 0 = λ bs. list_all (λ b. meets o.messages b number) bs ≡ true in
    elim added [
      | inl e ↦
          let parts = all_last (λ b. meets o.messages b number) before.bounds bound (subst All e.1 passed.bounds) in
          (record { key = subst Key_passes e.0 passed.key; bounds = parts.0; same = text }, parts.1)
      | inr e ↦ (record { key = subst Key_passes (sym e.0) refl; bounds = subst All e.1.0 passed.bounds; same = text }, key_meets o.messages now.key bound number e.1.1 passed.key)
    ]

pub bound_asked : (o : Offered) (pattern : ℕ) (before now : Screen) (bound : Bound) (place : ℕ) (c : Condition) → now.other ≡ before.other → now.same ≡ before.same → IsAdded before now bound
    → slice_get o.definition.conjuncts place ≡ Some c → Says o.messages o.number pattern before.other c bound → IsAsked o pattern now place
bound_asked o pattern before now bound place c other same added at says =
    inr (λ number whole pair passed. true_stands o.messages whole (slice_get o.definition.conjuncts place) c at
    (says number whole (subst (λ (n : ℕ). IsPair o.number pattern n number whole) other pair) ∙ (bound_passes o before now bound same added number passed).1))

pub bound_keeps : (o : Offered) (pattern : ℕ) (before now : Screen) (bound : Bound) → now.other ≡ before.other → now.same ≡ before.same → now.tests ≡ before.tests → IsAdded before now bound → (k : ℕ) → IsAsked o pattern before k → IsAsked o pattern now k
bound_keeps o pattern before now bound other same tests added k =
    asked_still o pattern before now k other (λ j m. ap (λ (ts : PlaceSet). has ts j) tests ∙ m) (λ number passed. (bound_passes o before now bound same added number passed).0)

text_true : (messages : List Message) (known q p m : ℕ) (whole : Assignment) (c : Condition) (same : Option Same) → IsSomeAnd same (SaysSame q p c) → IsPair known q p m whole → is_same messages known same m ≡ true → is_true messages whole c ≡ true
text_true messages known q p m whole c None h pair e = absurd h
text_true messages known q p m whole c (Some same) h pair e = same_said messages known q p m whole c same h pair ∙ e

pub same_asked : (o : Offered) (pattern : ℕ) (before now : Screen) (place : ℕ) (c : Condition) → now.other ≡ before.other → slice_get o.definition.conjuncts place ≡ Some c → IsSomeAnd now.same (SaysSame pattern before.other c) → IsAsked o pattern now place
same_asked o pattern before now place c other at said =
    inr (λ number whole pair passed. true_stands o.messages whole (slice_get o.definition.conjuncts place) c at
    (text_true o.messages o.number pattern before.other number whole c now.same said (subst (λ (n : ℕ). IsPair o.number pattern n number whole) other pair) passed.same))

pub same_keeps : (o : Offered) (pattern : ℕ) (before now : Screen) → now.other ≡ before.other → now.key ≡ before.key → now.bounds ≡ before.bounds → now.tests ≡ before.tests → before.same ≡ None → (k : ℕ) → IsAsked o pattern before k → IsAsked o pattern now k
same_keeps o pattern before now other key bounds tests first k =
    asked_still o pattern before now k other (λ j m. ap (λ (ts : PlaceSet). has ts j) tests ∙ m) (λ number passed. record {
      key = subst (λ (x : Option Key). passes o.messages x number ≡ true) key passed.key;
      bounds = subst (λ (bs : List Bound). list_all (λ b. meets o.messages b number) bs ≡ true) bounds passed.bounds;
      same = subst (λ (s : Option Same). is_same o.messages o.number s number ≡ true) (sym first) refl;
    })

same_place : (place : ℕ) → (place == place) ≡ true
same_place place = grind (arith, nat_tests)

or_last : (b : Bool) → (b || true) ≡ true
or_last true = refl
or_last false = refl

pub place_asked : (o : Offered) (pattern : ℕ) (before now : Screen) (place : ℕ) → ((k : ℕ) → has now.tests k ≡ ((k == place) || has before.tests k)) → IsAsked o pattern now place
place_asked o pattern before now place told = inl (told place ∙ (λ i. same_place place i || has before.tests place))

pub place_keeps : (o : Offered) (pattern : ℕ) (before now : Screen) (place : ℕ) → now.other ≡ before.other → now.key ≡ before.key → now.bounds ≡ before.bounds → now.same ≡ before.same
    → ((k : ℕ) → has now.tests k ≡ ((k == place) || has before.tests k)) → (k : ℕ) → IsAsked o pattern before k → IsAsked o pattern now k
place_keeps o pattern before now place other key bounds same told k =
    asked_still o pattern before now k other (λ j m. told j ∙ (λ i. (j == place) || m i) ∙ or_last (j == place)) (λ number passed. record {
      key = subst (λ (x : Option Key). passes o.messages x number ≡ true) key passed.key;
      bounds = subst (λ (bs : List Bound). list_all (λ b. meets o.messages b number) bs ≡ true) bounds passed.bounds;
      same = subst (λ (s : Option Same). is_same o.messages o.number s number ≡ true) same passed.same;
    })

-- of the set those that have gone are asked
abbrev pub HaveAsked : Offered → ℕ → Screen → PlaceSet → PlaceSet → Type 0
HaveAsked o pattern screen those left = (k : ℕ) → k < 64 → has those k ≡ true → has left k ≡ false → IsAsked o pattern screen k

pub none_asked : (o : Offered) (pattern : ℕ) (screen : Screen) (those : PlaceSet) → HaveAsked o pattern screen those those
none_asked o pattern screen those k small member gone = absurd (let bad = sym member ∙ gone in cc)

there_is : (k place : ℕ) → (k == place) ≡ true → place ≡ k
there_is k place e = grind (arith, nat_tests)

and_last : (b : Bool) → b ≡ (b && true)
and_last true = refl
and_last false = refl

pub asked_more : (o : Offered) (pattern : ℕ) (before now : Screen) (those left less : PlaceSet) (place : ℕ) → ((k : ℕ) → k < 64 → has less k ≡ (has left k && not (k == place))) → ((k : ℕ) → IsAsked o pattern before k → IsAsked o pattern now k)
    → HaveAsked o pattern before those left → IsAsked o pattern now place → HaveAsked o pattern now those less
asked_more o pattern before now those left less place told keeps asked here k small member gone = by (k == place) refl (sym (told k small) ∙ gone)
  where
    by : (b : Bool) → (k == place) ≡ b → (has left k && not b) ≡ false → IsAsked o pattern now k
    by true e m = subst (IsAsked o pattern now) (there_is k place e) here
    by false e m = keeps k (asked k small member (and_last (has left k) ∙ m))

-- ---- a number that passes

never : (a b : Bool) → (not (a && false) || b) ≡ true
never true b = refl
never false b = refl

-- a conjunct with a field of an empty pattern stands
undecided : (messages : List Message) (slots : Assignment) (x : Option Condition) → list_all (is_filled slots) (needs_in x) ≡ false → stands_in messages slots x ≡ true
undecided messages slots None none = refl
undecided messages slots (Some c) none = (λ i. not (has_some (needs_of c) && none i) || is_true messages slots c) ∙ never (has_some (needs_of c)) (is_true messages slots c)

module _ (o : Offered) (slots : Assignment) (q m : ℕ) (free : is_free slots q ≡ true) (can : CanOffer o (with_number slots q m)) where
  abbrev whole : ℕ → Assignment
  whole p = with_number (with_number slots q m) p o.number

  each_stands : (screen : Screen) → Screens o slots q (others o slots q) screen → Passes o screen m → AllStand o (whole screen.other) screen.tests → (k : ℕ) → k < 64 → stands_at o (whole screen.other) k ≡ true
  each_stands screen screens passed stand k small = by (names q needs) refl (names p needs) refl (list_all (is_filled (whole p)) needs) refl
    where
      p : ℕ
      p = screen.other

      needs : List Need
      needs = needs_at o.definition.conjuncts k

      is : IsOther o slots q p
      is = (subst (λ (ps : List ℕ). AllByRecursion (IsOther o slots q) ps) screens.alone (all_others o slots q)).0

      other : Other o slots q p
      other = other_at o slots q p is

      by : (a : Bool) → names q needs ≡ a → (b : Bool) → names p needs ≡ b → (d : Bool) → list_all (is_filled (whole p)) needs ≡ d → stands_at o (whole p) k ≡ true
      by false e b f d g = stands_behind o slots q m p k free is e
      by true e false f d g =
          beside_in o.messages (with_number slots q m) p o.number (slice_get o.definition.conjuncts k) (free_further slots q m p ∙ and_of (is_free slots p) (not (p == q)) other.free other.apart) f
          (each_agrees o.messages (with_number slots q m) o.definition.conjuncts k can.agreeable)
      by true e true f false g = undecided o.messages (whole p) (slice_get o.definition.conjuncts k) g
      by true e true f true g = elim (screens.asks.at k small e f (all_alike slots q o.number m p o.number needs ∙ g)) [
        | inl test ↦ stand k small test
        | inr asked ↦ asked m (whole p) (beside o slots q m p free other) passed
      ]

  -- where it passes the screen, each conjunct stands behind it
  pub screen_asked : (screen : Screen) → Screens o slots q (others o slots q) screen → Passes o screen m → AllStand o (whole screen.other) screen.tests → AllStandWith o (with_number slots q m) (others o slots q)
  screen_asked screen screens passed stand =
      subst (λ (ps : List ℕ). AllStandWith o (with_number slots q m) ps) (sym screens.alone) (each_stands screen screens passed stand, tt)

none_left : (o : Offered) (asked : PlaceSet) (slots : Assignment) (ps : List ℕ) → AllStandWith o slots ps → AllStandOutside o asked slots ps
none_left o asked slots [] h = tt
none_left o asked slots (p ∷ ps) h = (λ k small out. h.0 k small, none_left o asked slots ps h.1)

-- what a try behind the number does not ask stands
pub outside_asked : (o : Offered) (slots : Assignment) (q m : ℕ) (screen : Option Screen) (cell : Option PlaceSet) (asked : PlaceSet) → is_free slots q ≡ true
    → ((places : PlaceSet) → cell ≡ Some places → AreNaming o.definition.conjuncts q places) → MatchOption screen (cell ≡ Some asked) (λ s. (k : ℕ) → has asked k ≡ false)
    → AreAsked o slots q screen m → AllStandOutside o asked (with_number slots q m) (others o slots q)
outside_asked o slots q m None cell asked free naming told stand = outside_behind o slots q m asked free (naming asked told)
outside_asked o slots q m (Some screen) cell asked free naming told stand = none_left o asked (with_number slots q m) (others o slots q) stand
