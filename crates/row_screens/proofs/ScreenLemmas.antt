-- What fails a screen may be left out: no wanted pattern may take the number behind it.
use Rattle.std.proofs.Common.{◌≡◌, ◌∙◌, inl, inr, ℕ, zero, suc, ◌+◌, ◌<◌, List, [], ◌∷◌, map, length, get_or, Bool, true, false, cond, not, ◌&&◌, ◌||◌, Option, Some, None, slice_get, refl, sym, ap, subst, arith}
use Rattle.std.specs.Prelude.{slice_index, ◌==◌, IfSome, IsSomeAnd}
use Rattle.std.specs.List.{filter, list_all, AllByRecursion}
use Rattle.std.proofs.lemmas.Bool.{cases_lt}
use Rattle.join_base.specs.declared.message.Message.{Message}
use Rattle.guard_eval.specs.Condition.{Condition}
use Rattle.guard_eval.specs.Meaning.{Assignment, Need, recorded_message, number_at, needs_of, has_some, is_slot_filled, is_filled, is_decided, is_true}
use Rattle.guard_eval.proofs.ExtendLemmas.{both_true}
use Rattle.pattern_core.specs.Matches.{is_of_kind, is_agreeable}
use Rattle.pattern_core.specs.Members.{IsIn}
use Rattle.pattern_core.specs.Suits.{DefinitionSuits, NeedSuits, SlotsSuit}
use Rattle.pattern_core.proofs.GuardLemmas.{have_places, ready_where_filled}
use Rattle.guard_eval.specs.Ready.{AreReady, HavePlaces}
use Rattle.guard_eval.proofs.ReadyLemmas.{each_at}
use Rattle.pattern_core.proofs.SuitsLemmas.{suits_further}
use Rattle.tree_rows.specs.Routes.{Branch, with_number}
use Rattle.row_screens.specs.Offers.{Offered, places, is_free, may_take, takers}
use Rattle.row_screens.specs.Offering.{CanOffer}
use Rattle.guard_bound.specs.Bound.{IsPair, meets}
use Rattle.guard_bound.specs.Same.{SaysSame, is_same}
use Rattle.guard_bound.proofs.SameLemmas.{same_said}
use Rattle.guard_bound.specs.declared.same.Same.{Same}
use Rattle.tree_rows.specs.Rows.{node_at}
use Rattle.row_screens.specs.Screen.{AreTests, AreWorthless, IsAdded, IsBound, IsOther, IsSaid, IsWorthless, Screens, as_bound, key_of, passes}
use Rattle.row_screens.specs.Trial.{AreDecided}
use Rattle.row_screens.specs.declared.place_set.PlaceSet.{PlaceSet}
use Rattle.row_screens.specs.declared.screen.Screen.{Screen}
use Rattle.guard_bound.specs.declared.bound.Bound.{Bound}
use Rattle.row_screens.specs.declared.screen.Key.{Key}
use Rattle.row_screens.proofs.SlotsLemmas.{extends_one, free_is_none, free_further, below_apart}
use Rattle.row_screens.proofs.TakeLemmas.{and_of, takers_further}
use Rattle.join_base.proofs.EachLemmas.{each_filter as all_filter, each_last}
use Rattle.row_screens.proofs.MemberLemmas.{all_take}

-- ---- members by their place

pub item_in : {X Y : Type 0} (f : X → Y) (xs : List X) (i : ℕ) (x : X) → i < length xs → x ≡ get_or xs i x → IsIn (f x) (map f xs)
item_in f [] i x within is = absurd (omega arith)
item_in {X} f (y ∷ xs) zero x within is = inl (ap f (sym is))
item_in f (y ∷ xs) (suc i) x within is = inr (item_in f xs i x (omega arith) is)

pub in_at : {X : Type 0} (xs : List X) (i : ℕ) (x : X) → slice_get xs i ≡ Some x → IsIn x xs
in_at [] i x e = absurd cc
in_at (y ∷ xs) zero x e = let same : y ≡ x = cc in inl same
in_at (y ∷ xs) (suc i) x e = inr (in_at xs i x e)

-- ---- what an agreeable assignment decides

pub number_set : (slots : Assignment) (p n : ℕ) → is_free slots p ≡ true → number_at (with_number slots p n) p ≡ Some n
number_set [] p n free = absurd cc
number_set (slot ∷ slots) zero n free = refl
number_set (slot ∷ slots) (suc p) n free = number_set slots p n free

agrees_in : (messages : List Message) (conjuncts : List Condition) (slots : Assignment) (c : Condition) → IsIn c conjuncts → is_agreeable messages conjuncts slots ≡ true → (not (is_decided slots c) || is_true messages slots c) ≡ true
agrees_in messages [] slots c m h = absurd m
agrees_in messages (d ∷ conjuncts) slots c m h =
    let parts = both_true (not (is_decided slots d) || is_true messages slots d) (is_agreeable messages conjuncts slots) h in
    elim m [
      | inl e ↦ subst (λ (x : Condition). (not (is_decided slots x) || is_true messages slots x) ≡ true) e parts.0
      | inr later ↦ agrees_in messages conjuncts slots c later parts.1
    ]

-- ---- the wanted pattern

filter_all : {X : Type 0} (p : X → Bool) (xs : List X) → AllByRecursion (λ x. p x ≡ true) (filter p xs)
filter_all p [] = tt
filter_all {X} p (x ∷ xs) = by (p x) refl (filter_all p xs)
  where
    by : (b : Bool) → p x ≡ b → AllByRecursion (λ y. p y ≡ true) (filter p xs) → AllByRecursion (λ y. p y ≡ true) (cond b (x ∷ filter p xs) (filter p xs))
    by true e later = (e, later)
    by false e later = later

all_two : {X : Type 0} (P Q R : X → Type 0) → ((x : X) → P x → Q x → R x) → (xs : List X) → AllByRecursion P xs → AllByRecursion Q xs → AllByRecursion R xs
all_two P Q R f [] a b = tt
all_two P Q R f (x ∷ xs) a b = (f x a.0 b.0, all_two P Q R f xs a.1 b.1)

module _ (o : Offered) (slots : Assignment) (q : ℕ) where
  abbrev pub others : List ℕ
  others = filter (λ p. not (p == q)) (takers o slots)

  -- another pattern that may take the number
  pub record Other (p : ℕ) : Type 0 where
    pub free : is_free slots p ≡ true
    pub apart : not (p == q) ≡ true
    pub of_kind : is_of_kind (recorded_message o.messages o.number) (slice_index o.definition.patterns p) ≡ true

  pub other_at : (p : ℕ) → IsOther o slots q p → Other p
  other_at p is =
      let kind : Bool = is_of_kind (recorded_message o.messages o.number) (slice_index o.definition.patterns p) in
      let agreeable : Bool = is_agreeable o.messages o.definition.conjuncts (with_number slots p o.number) in
      let parts = both_true (is_free slots p) (kind && agreeable) is.may in
      record { free = parts.0; apart = is.apart; of_kind = (both_true kind agreeable parts.1).0 }

  pub all_others : AllByRecursion (IsOther o slots q) others
  all_others =
      all_two (λ x. may_take o slots x ≡ true) (λ x. not (x == q) ≡ true) (IsOther o slots q) (λ x may apart. record { may = may; apart = apart }) others
      (all_filter (λ x. may_take o slots x ≡ true) (λ x. not (x == q)) (takers o slots) (all_take o slots (places 0 o.definition.patterns)))
      (filter_all (λ x. not (x == q)) (takers o slots))

  pub other_of : (p : ℕ) → others ≡ p ∷ [] → Other p
  other_of p alone = other_at p (subst (λ (ps : List ℕ). AllByRecursion (IsOther o slots q) ps) alone all_others).0

-- ---- what may be left out

module _ (o : Offered) (slots : Assignment) (q m : ℕ) where
  abbrev longer : Assignment
  longer = with_number slots q m

  -- where the one other pattern may not take the number, none may
  pub none_taken : (p : ℕ) → is_free slots q ≡ true → others o slots q ≡ p ∷ [] → may_take o longer p ≡ false → takers o longer ≡ []
  none_taken p free alone none =
      let nothing : filter (may_take o longer) (p ∷ []) ≡ [] = λ i. cond (none i) (p ∷ []) [] in
      sym (takers_further o slots q m free) ∙ ap (filter (may_take o longer)) alone ∙ nothing

  and_never : (a b : Bool) → (a && (b && false)) ≡ false
  and_never true true = refl
  and_never true false = refl
  and_never false b = refl

  -- where a decided conjunct is false beside the offered number, the pattern may not take it
  pub denied : (p : ℕ) → is_agreeable o.messages o.definition.conjuncts (with_number longer p o.number) ≡ false → may_take o longer p ≡ false
  denied p fails =
      let kind : Bool = is_of_kind (recorded_message o.messages o.number) (slice_index o.definition.patterns p) in
      (λ i. is_free longer p && (kind && fails i)) ∙ and_never (is_free longer p) kind

  pub disagrees : (p : ℕ) → is_free slots q ≡ true → others o slots q ≡ p ∷ [] → is_agreeable o.messages o.definition.conjuncts (with_number longer p o.number) ≡ false → takers o longer ≡ []
  disagrees p free alone fails = none_taken p free alone (denied p fails)

  pub other_free : (p : ℕ) → others o slots q ≡ p ∷ [] → slice_get longer p ≡ Some None
  other_free p alone =
      let other = other_of o slots q p alone in
      free_is_none longer p (free_further slots q m p ∙ and_of (is_free slots p) (not (p == q)) other.free other.apart)

  pub whole_suits : (p : ℕ) → CanOffer o longer → others o slots q ≡ p ∷ [] → SlotsSuit o.messages o.definition.patterns (with_number longer p o.number)
  whole_suits p can alone =
      let other = other_of o slots q p alone in
      suits_further o.messages o.definition.patterns longer p o.number can.suits (other_free p alone) can.recorded other.of_kind (below_apart longer o.number can.below)

-- ---- a conjunct that is decided, whatever the number

filled_set : (slots : Assignment) (q m k x : ℕ) → is_slot_filled (number_at (with_number slots q m) x) ≡ is_slot_filled (number_at (with_number slots q k) x)
filled_set [] q m k x = refl
filled_set (slot ∷ slots) zero m k zero = refl
filled_set (slot ∷ slots) zero m k (suc x) = refl
filled_set (slot ∷ slots) (suc q) m k zero = refl
filled_set (slot ∷ slots) (suc q) m k (suc x) = filled_set slots q m k x

filled_alike : (slots : Assignment) (q m k p n x : ℕ) → is_slot_filled (number_at (with_number (with_number slots q m) p n) x) ≡ is_slot_filled (number_at (with_number (with_number slots q k) p n) x)
filled_alike [] q m k p n x = refl
filled_alike (slot ∷ slots) zero m k zero n x = refl
filled_alike (slot ∷ slots) zero m k (suc p) n zero = refl
filled_alike (slot ∷ slots) zero m k (suc p) n (suc x) = refl
filled_alike (slot ∷ slots) (suc q) m k zero n zero = refl
filled_alike (slot ∷ slots) (suc q) m k zero n (suc x) = filled_set slots q m k x
filled_alike (slot ∷ slots) (suc q) m k (suc p) n zero = refl
filled_alike (slot ∷ slots) (suc q) m k (suc p) n (suc x) = filled_alike slots q m k p n x

pub all_alike : (slots : Assignment) (q m k p n : ℕ) (needs : List Need) → list_all (is_filled (with_number (with_number slots q m) p n)) needs ≡ list_all (is_filled (with_number (with_number slots q k) p n)) needs
all_alike slots q m k p n [] = refl
all_alike slots q m k p n (need ∷ needs) = λ i. filled_alike slots q m k p n need.0.pattern i && all_alike slots q m k p n needs i

pub tests_alike : (o : Offered) (slots : Assignment) (q m k p n : ℕ) (tests : PlaceSet) → AreDecided o (with_number (with_number slots q m) p n) tests → AreDecided o (with_number (with_number slots q k) p n) tests
tests_alike o slots q m k p n tests h place small member =
    let d = h place small member in
    let c = d.conjunct in
    let same : is_decided (with_number (with_number slots q k) p n) c ≡ is_decided (with_number (with_number slots q m) p n) c = λ i. has_some (needs_of c) && all_alike slots q k m p n (needs_of c) i in
    record { conjunct = c; at = d.at; decided = same ∙ d.decided }

-- a decided conjunct that is false
pub not_agreeable : (o : Offered) (slots : Assignment) (c : Condition) (b : Bool) → is_agreeable o.messages o.definition.conjuncts slots ≡ b → IsIn c o.definition.conjuncts → is_decided slots c ≡ true → is_true o.messages slots c ≡ false → b ≡ false
not_agreeable o slots c false e is_in decided fails = refl
not_agreeable o slots c true e is_in decided fails =
    absurd (let holds = agrees_in o.messages o.definition.conjuncts slots c is_in e in let bad = sym (λ i. not (decided i) || fails i) ∙ holds in cc)

-- ---- a number that fails a bound

module _ (o : Offered) (slots : Assignment) (q m p : ℕ) (free : is_free slots q ≡ true) (other : Other o slots q p) where
  abbrev pub both : ℕ → Assignment
  both n = with_number (with_number slots q n) p o.number

  pub beside : IsPair o.number q p m (both m)
  beside =
      let left : is_free (with_number slots q m) p ≡ true = free_further slots q m p ∙ and_of (is_free slots p) (not (p == q)) other.free other.apart in
      let first : number_at (with_number slots q m) q ≡ Some m = number_set slots q m free in
      record { here = extends_one (with_number slots q m) p o.number left q (ap is_slot_filled first) ∙ first; there = number_set (with_number slots q m) p o.number left }

  unmet : (bound : Bound) → IsBound o (both o.number) q p bound → meets o.messages bound m ≡ false → may_take o (with_number slots q m) p ≡ false
  unmet bound is fails =
      let c = is.conjunct in
      let decided : is_decided (both m) c ≡ true = (λ i. has_some (needs_of c) && all_alike slots q m o.number p o.number (needs_of c) i) ∙ is.decided in
      let untrue : is_true o.messages (both m) c ≡ false = is.says m (both m) beside ∙ fails in
      denied o slots q m p (not_agreeable o (both m) c (is_agreeable o.messages o.definition.conjuncts (both m)) refl is.is_in decided untrue)

  -- where a number has not the key's value, the pattern may not take the offered one behind it
  pub misses_key : (key : Option Key) → IfSome key (λ k. IsBound o (both o.number) q p (as_bound k)) → passes o.messages key m ≡ false → may_take o (with_number slots q m) p ≡ false
  misses_key None is fails = absurd cc
  misses_key (Some k) is fails = unmet (as_bound k) is fails

  -- where it fails one of the bounds, it may not either
  pub misses_one : (bounds : List Bound) → AllByRecursion (IsBound o (both o.number) q p) bounds → list_all (λ b. meets o.messages b m) bounds ≡ false → may_take o (with_number slots q m) p ≡ false
  misses_one [] h fails = absurd cc
  misses_one (b ∷ bounds) h fails = by (meets o.messages b m) refl (misses_one bounds h.1)
    where
      by : (t : Bool) → meets o.messages b m ≡ t → (list_all (λ x. meets o.messages x m) bounds ≡ false → may_take o (with_number slots q m) p ≡ false) → may_take o (with_number slots q m) p ≡ false
      by true e later = later (sym (λ i. e i && list_all (λ x. meets o.messages x m) bounds) ∙ fails)
      by false e later = unmet b h.0 e

  -- where its text is another one, it may not either
  pub misses_text : (same : Option Same) → IfSome same (IsSaid o (both o.number) q p) → is_same o.messages o.number same m ≡ false → may_take o (with_number slots q m) p ≡ false
  misses_text None h fails = absurd cc
  misses_text (Some same) h fails =
      let c = h.conjunct in
      let decided : is_decided (both m) c ≡ true = (λ i. has_some (needs_of c) && all_alike slots q m o.number p o.number (needs_of c) i) ∙ h.decided in
      let untrue : is_true o.messages (both m) c ≡ false = same_said o.messages o.number q p m (both m) c same h.says beside ∙ fails in
      denied o slots q m p (not_agreeable o (both m) c (is_agreeable o.messages o.definition.conjuncts (both m)) refl h.is_in decided untrue)

-- where it is the one wanted pattern, none may
module _ (o : Offered) (slots : Assignment) (q m p : ℕ) (free : is_free slots q ≡ true) (alone : others o slots q ≡ p ∷ []) where
  abbrev beside_offered : Assignment
  beside_offered = with_number (with_number slots q o.number) p o.number

  pub lacks_key : (key : Option Key) → IfSome key (λ k. IsBound o beside_offered q p (as_bound k)) → passes o.messages key m ≡ false → takers o (with_number slots q m) ≡ []
  lacks_key key is fails = none_taken o slots q m p free alone (misses_key o slots q m p free (other_of o slots q p alone) key is fails)

  pub fails_one : (bounds : List Bound) → AllByRecursion (IsBound o beside_offered q p) bounds → list_all (λ b. meets o.messages b m) bounds ≡ false → takers o (with_number slots q m) ≡ []
  fails_one bounds is fails = none_taken o slots q m p free alone (misses_one o slots q m p free (other_of o slots q p alone) bounds is fails)

  pub is_another : (same : Option Same) → IfSome same (IsSaid o beside_offered q p) → is_same o.messages o.number same m ≡ false → takers o (with_number slots q m) ≡ []
  is_another same is fails = none_taken o slots q m p free alone (misses_text o slots q m p free (other_of o slots q p alone) same is fails)

-- ---- a screen with a test more

key_is : (P : Bound → Type 0) (key : Option Key) (bound : Bound) → P bound → IsSomeAnd key (λ k. as_bound k ≡ bound) → IfSome key (λ k. P (as_bound k))
key_is P None bound p h = tt
key_is P (Some k) bound p h = subst P (sym h) p

pub bound_more : (o : Offered) (whole : Assignment) (pattern : ℕ) (before now : Screen) (bound : Bound) → AreTests o whole pattern before → IsBound o whole pattern before.other bound
    → now.other ≡ before.other → now.same ≡ before.same → now.tests ≡ before.tests → IsAdded before now bound → AreTests o whole pattern now
bound_more o whole pattern before now bound h is other same tests added =
    let P : ℕ → Bound → Type 0 = λ n b. IsBound o whole pattern n b in
    let Keyed : Option Key → Type 0 = λ k. IfSome k (λ x. P before.other (as_bound x)) in
    let All : List Bound → Type 0 = λ bs. AllByRecursion (P before.other) bs in
    let keyed : Keyed now.key = elim added [
      | inl e ↦ subst Keyed (sym e.0) h.key
      | inr e ↦ key_is (P before.other) now.key bound is e.1.1
    ] in
    let all : All now.bounds = elim added [
      | inl e ↦ subst All (sym e.1) (each_last (P before.other) before.bounds bound h.bounds is)
      | inr e ↦ subst All (sym e.1.0) h.bounds
    ] in
    record {
      key = subst (λ (n : ℕ). IfSome now.key (λ k. P n (as_bound k))) (sym other) keyed;
      bounds = subst (λ (n : ℕ). AllByRecursion (P n) now.bounds) (sym other) all;
      same = subst (λ (n : ℕ). IfSome now.same (IsSaid o whole pattern n)) (sym other) (subst (λ (x : Option Same). IfSome x (IsSaid o whole pattern before.other)) (sym same) h.same);
      tests = subst (λ (ts : PlaceSet). AreDecided o whole ts) (sym tests) h.tests;
    }

some_then : {X : Type 0} (P Q : X → Type 0) (x : Option X) → IsSomeAnd x P → ((y : X) → P y → Q y) → IfSome x Q
some_then P Q None h f = tt
some_then P Q (Some y) h f = f y h

pub same_more : (o : Offered) (whole : Assignment) (pattern : ℕ) (before now : Screen) (c : Condition) → AreTests o whole pattern before → IsIn c o.definition.conjuncts → is_decided whole c ≡ true
    → now.other ≡ before.other → now.key ≡ before.key → now.bounds ≡ before.bounds → now.tests ≡ before.tests → IsSomeAnd now.same (SaysSame pattern before.other c) → AreTests o whole pattern now
same_more o whole pattern before now c h member decided other key bounds tests said =
    let said_all : IfSome now.same (IsSaid o whole pattern before.other) = some_then (SaysSame pattern before.other c) (IsSaid o whole pattern before.other) now.same said (λ s says. record { conjunct = c; is_in = member; decided = decided; says = says }) in
    let keyed : IfSome now.key (λ k. IsBound o whole pattern before.other (as_bound k)) = subst (λ (x : Option Key). IfSome x (λ k. IsBound o whole pattern before.other (as_bound k))) (sym key) h.key in
    let all : AllByRecursion (IsBound o whole pattern before.other) now.bounds = subst (λ (bs : List Bound). AllByRecursion (IsBound o whole pattern before.other) bs) (sym bounds) h.bounds in
    record {
      key = subst (λ (n : ℕ). IfSome now.key (λ k. IsBound o whole pattern n (as_bound k))) (sym other) keyed;
      bounds = subst (λ (n : ℕ). AllByRecursion (IsBound o whole pattern n) now.bounds) (sym other) all;
      same = subst (λ (n : ℕ). IfSome now.same (IsSaid o whole pattern n)) (sym other) said_all;
      tests = subst (λ (ts : PlaceSet). AreDecided o whole ts) (sym tests) h.tests;
    }

-- ---- a node that is not worth a visit

-- where it lacks the key of the row's screen, no pattern may take the offered number behind it
pub lacks_screen : (o : Offered) (slots : Assignment) (q m : ℕ) (screen : Option Screen) (key : Option Key) → is_free slots q ≡ true → IfSome screen (Screens o slots q (others o slots q)) → key ≡ key_of screen → passes o.messages key m ≡ false → takers o (with_number slots q m) ≡ []
lacks_screen o slots q m None key free h is fails = absurd (let bad = ap (λ (k : Option Key). passes o.messages k m) (sym is) ∙ fails in cc)
lacks_screen o slots q m (Some screen) key free h is fails = lacks_key o slots q m screen.other free h.alone screen.key h.tested.key (ap (λ (k : Option Key). passes o.messages k m) (sym is) ∙ fails)

pub worthless_on : (o : Offered) (slots : Assignment) (q : ℕ) (row : List Branch) (from place : ℕ) → AreWorthless o slots q row from place → IsWorthless o slots q (node_at row place).number → AreWorthless o slots q row from (place + 1)
worthless_on o slots q row from place before here i l m = elim (cases_lt i place) [
  | inl below ↦ before i l below
  | inr above ↦
      let at : place ≡ i = omega arith in
      subst (λ (k : ℕ). IsWorthless o slots q (node_at row k).number) at here
]

-- ---- what evaluation asks for

module _ (o : Offered) (slots : Assignment) (place : ℕ) (c : Condition) (at : slice_get o.definition.conjuncts place ≡ Some c) (suits : DefinitionSuits o.messages o.definition) where
  needs_at : AllByRecursion (NeedSuits o.messages o.definition.patterns) (needs_of c)
  needs_at = each_at (λ d. AllByRecursion (NeedSuits o.messages o.definition.patterns) (needs_of d)) o.definition.conjuncts place c at suits.needs

  pub places_at : length slots ≡ length o.definition.patterns → HavePlaces slots (needs_of c)
  places_at long = have_places o.messages o.definition.patterns slots (needs_of c) long needs_at

  pub ready_at : SlotsSuit o.messages o.definition.patterns slots → is_decided slots c ≡ true → AreReady o.messages slots (needs_of c)
  ready_at whole decided =
      let filled = (both_true (has_some (needs_of c)) (list_all (is_filled slots) (needs_of c)) decided).1 in
      ready_where_filled o.messages o.definition.patterns slots (needs_of c) whole needs_at filled

pub same_some : {X : Type 0} (x : Option X) (a b : X) → x ≡ Some a → x ≡ Some b → a ≡ b
same_some None a b e f = absurd cc
same_some (Some x) a b e f = cc
