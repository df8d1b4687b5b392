-- Numbers of a row that are looked up in an index.
use Rattle.std.proofs.Common.{◌≡◌, ◌⊎◌, ◌∙◌, inl, inr, ℕ, ℤ, zero, suc, ◌+◌, ◌<◌, ◌≤◌, List, [], ◌∷◌, map, length, set, Bool, true, false, cond, Option, Some, None, slice_get, refl, sym, ap, subst, arith}
use Rattle.std.specs.Prelude.{slice_index, ◌&&◌, ◌==◌, IfSome, pos}
use Rattle.std.specs.List.{filter, list_all, AllByRecursion}
use Rattle.std.specs.Ordering.{int_eq}
use Rattle.std.proofs.lemmas.Bool.{and_parts, cases_lt, eqb-true}
use Rattle.std.proofs.lemmas.List.{length-map}
use Rattle.std.proofs.lemmas.Bool.Decides.{Decides-int_eq}
use Rattle.std.proofs.lemmas.Slice.Eq.{bytes_eq-Decides}
use Rattle.join_base.specs.declared.message.Message.{Message}
use Rattle.guard_eval.specs.Meaning.{Assignment, recorded_message, number_at}
use Rattle.pattern_core.specs.Matches.{is_of_kind}
use Rattle.pattern_core.specs.Members.{IsIn}
use Rattle.pattern_core.specs.Suits.{SlotsSuit}
use Rattle.guard_bound.specs.Bound.{int_at, meets}
use Rattle.guard_bound.specs.Same.{is_same, words_at}
use Rattle.guard_bound.specs.declared.same.Same.{Same}
use Rattle.value_index.specs.declared.field.IndexedField.{IndexedField}
use Rattle.value_index.specs.Index.{Index, entry}
use Rattle.value_index.specs.ValueRange.{Ascend}
use Rattle.value_index.proofs.EntryLemmas.{in_or_not}
use Rattle.value_index.specs.Values.{text_value, value_at}
use Rattle.tree_rows.specs.Routes.{Branch, with_number}
use Rattle.tree_rows.specs.Rows.{node_at}
use Rattle.row_screens.specs.Offers.{Offered, is_free, may_take, takers}
use Rattle.row_screens.specs.Offering.{AreIndexed}
use Rattle.tree_rows.specs.Order.{Rise}
use Rattle.row_screens.specs.Screen.{AreOffered, AreTests, AreWorthless, IsOffered, IsOther, IsWorthless, Screens, passes}
use Rattle.row_screens.specs.Look.{AreLeft, FindsAt, HasLeft, LooksUp, LooksUpAt, may_meet}
use Rattle.row_screens.specs.declared.look.Look.{Look}
use Rattle.row_screens.specs.declared.screen.Key.{Key}
use Rattle.row_screens.specs.declared.screen.Screen.{Screen}
use Rattle.row_screens.proofs.MemberLemmas.{all_in}
use Rattle.row_screens.proofs.KeyLemmas.{number_there}
use Rattle.row_screens.proofs.ScreenLemmas.{all_others, fails_one, is_another, misses_key, misses_text, none_taken, number_set, other_at, others}
use Rattle.row_screens.proofs.TakeLemmas.{takers_further}
use Rattle.tree_rows.proofs.OrderLemmas.{rise_at}

-- ---- what an index has

-- one of no field has all numbers
pub unindexed : (index : Index) (messages : List Message) (slots : Assignment) → index.fields ≡ [] → AreIndexed index messages slots
unindexed index messages slots none pattern number at place indexed get kind =
    let bad : Some indexed ≡ None = sym get ∙ ap (λ (fields : List IndexedField). slice_get fields place) none in
    absurd cc

pub all_unindexed : (index : Index) (messages : List Message) (paths : List Assignment) → index.fields ≡ [] → AllByRecursion (AreIndexed index messages) paths
all_unindexed index messages [] none = tt
all_unindexed index messages (path ∷ paths) none = (unindexed index messages path none, all_unindexed index messages paths none)

kind_there : (messages : List Message) (kinds : List ℕ) (slots : Assignment) (q m kind : ℕ) → SlotsSuit messages kinds slots → number_at slots q ≡ Some m → slice_get kinds q ≡ Some kind → is_of_kind (recorded_message messages m) kind ≡ true
kind_there messages [] [] q m kind suits at get = absurd cc
kind_there messages [] (slot ∷ slots) q m kind suits at get = absurd suits
kind_there messages (k ∷ kinds) [] q m kind suits at get = absurd suits
kind_there messages (k ∷ kinds) (None ∷ slots) zero m kind suits at get = absurd cc
kind_there messages (k ∷ kinds) (Some n ∷ slots) zero m kind suits at get =
    let number : n ≡ m = cc in
    let same : k ≡ kind = cc in
    subst (λ (x : ℕ). is_of_kind (recorded_message messages x) kind ≡ true) number (subst (λ (y : ℕ). is_of_kind (recorded_message messages n) y ≡ true) same suits.1)
kind_there messages (k ∷ kinds) (None ∷ slots) (suc q) m kind suits at get = kind_there messages kinds slots q m kind suits at get
kind_there messages (k ∷ kinds) (Some n ∷ slots) (suc q) m kind suits at get = kind_there messages kinds slots q m kind suits.3 at get

-- an offered number of a row has its entries
pub entry_there : (o : Offered) (slots : Assignment) (q m kind place : ℕ) (indexed : IndexedField) → IsOffered o slots q m → slice_get o.definition.patterns q ≡ Some kind → slice_get o.index.fields place ≡ Some indexed → kind ≡ indexed.kind
    → IsIn (entry place (value_at o.messages m indexed) m) o.index.entries
entry_there o slots q m kind place indexed offered pattern get same =
    let at = number_set slots q m offered.free in
    let of_kind = subst (λ (k : ℕ). is_of_kind (recorded_message o.messages m) k ≡ true) same (kind_there o.messages o.definition.patterns (with_number slots q m) q m kind offered.can.suits at pattern) in
    offered.can.indexed q m at place indexed get of_kind

-- ---- what is not in the index may be left out

module _ (o : Offered) (slots : Assignment) (q kind place : ℕ) (screen : Screen) (pattern : slice_get o.definition.patterns q ≡ Some kind) (tested : AreTests o (with_number (with_number slots q o.number) screen.other o.number) q screen) where
  pub key_looks : (key : Key) → screen.key ≡ Some key → slice_get o.index.fields place ≡ Some (record { kind = kind; field = key.field; words = false }) → LooksUpAt o slots q screen.other (record { place = place; value = key.value })
  key_looks key has get is m offered absent = by (passes o.messages (Some key) m) refl
    where
      there : IsIn (entry place (int_at o.messages m key.field) m) o.index.entries
      there = entry_there o slots q m kind place (record { kind = kind; field = key.field; words = false }) offered pattern get refl

      by : (b : Bool) → passes o.messages (Some key) m ≡ b → may_take o (with_number slots q m) screen.other ≡ false
      by true e = absurd (absent (subst (λ (v : ℤ). IsIn (entry place v m) o.index.entries) ((Decides-int_eq (int_at o.messages m key.field) key.value).0 e) there))
      by false e = misses_key o slots q m screen.other offered.free (other_at o slots q screen.other is) screen.key tested.key (ap (λ (k : Option Key). passes o.messages k m) has ∙ e)

  pub text_looks : (same : Same) → screen.same ≡ Some same → slice_get o.index.fields place ≡ Some (record { kind = kind; field = same.field; words = true })
      → LooksUpAt o slots q screen.other (record { place = place; value = pos (text_value (words_at o.messages o.number same.other)) })
  text_looks same has get is m offered absent = by (is_same o.messages o.number (Some same) m) refl
    where
      there : IsIn (entry place (pos (text_value (words_at o.messages m same.field))) m) o.index.entries
      there = entry_there o slots q m kind place (record { kind = kind; field = same.field; words = true }) offered pattern get refl

      by : (b : Bool) → is_same o.messages o.number (Some same) m ≡ b → may_take o (with_number slots q m) screen.other ≡ false
      by true e = absurd (absent (subst (λ (ws : List ℕ). IsIn (entry place (pos (text_value ws)) m) o.index.entries) ((bytes_eq-Decides (words_at o.messages m same.field) (words_at o.messages o.number same.other)).0 e) there))
      by false e = misses_text o slots q m screen.other offered.free (other_at o slots q screen.other is) screen.same tested.same (ap (λ (s : Option Same). is_same o.messages o.number s m) has ∙ e)

-- where it is so for each wanted pattern, no pattern may take the offered number
pub all_look : (o : Offered) (slots : Assignment) (q : ℕ) (look : Look) → AllByRecursion (λ p. LooksUpAt o slots q p look) (others o slots q) → LooksUp o slots q look
all_look o slots q look all m offered absent = sym (takers_further o slots q m offered.free) ∙ none (others o slots q) (all_others o slots q) all
  where
    none : (ps : List ℕ) → AllByRecursion (IsOther o slots q) ps → AllByRecursion (λ p. LooksUpAt o slots q p look) ps → filter (may_take o (with_number slots q m)) ps ≡ []
    none [] is h = refl
    none (p ∷ ps) is h = λ i. cond (h.0 (is.0) m offered absent i) (p ∷ none ps (is.1) (h.1) i) (none ps (is.1) (h.1) i)

pub look_alone : (o : Offered) (slots : Assignment) (q p : ℕ) (look : Look) → others o slots q ≡ p ∷ [] → LooksUpAt o slots q p look → LooksUp o slots q look
look_alone o slots q p look alone at = all_look o slots q look (subst (λ (ps : List ℕ). AllByRecursion (λ x. LooksUpAt o slots q x look) ps) (sym alone) (at, tt))

-- the numbers of the value are those that have it
pub looks_find : (o : Offered) (slots : Assignment) (q p from : ℕ) (look : Look) (numbers : List ℕ) → LooksUpAt o slots q p look → Ascend numbers → ((number : ℕ) → from ≤ number → IsIn (entry look.place look.value number) o.index.entries → IsIn number numbers)
    → FindsAt o slots q p from numbers
looks_find o slots q p from look numbers looks ascend has = record {
  ascend = ascend;
  has = λ is number l offered. elim (in_or_not (entry look.place look.value number) o.index.entries) [
    | inl there ↦ inl (has number l there)
    | inr absent ↦ inr (looks is number offered absent)
  ];
}

-- those from one on
pub finds_from : (o : Offered) (slots : Assignment) (q p from : ℕ) (numbers : List ℕ) → FindsAt o slots q p 0 numbers → FindsAt o slots q p from numbers
finds_from o slots q p from numbers finds = record { ascend = finds.ascend; has = λ is number l offered. finds.has is number (omega arith) offered }

-- two look-ups that are one
pub one_look : (o : Offered) (slots : Assignment) (q p : ℕ) (a b : Look) → ((a.place == b.place) && int_eq a.value b.value) ≡ true → LooksUpAt o slots q p a → LooksUpAt o slots q p b
one_look o slots q p a b same h is m offered absent =
    let parts = and_parts (a.place == b.place) (int_eq a.value b.value) same in
    let place = eqb-true a.place b.place parts.0 in
    let value = (Decides-int_eq a.value b.value).0 parts.1 in
    h is m offered (λ there. absent (subst (λ (v : ℤ). IsIn (entry b.place v m) o.index.entries) value (subst (λ (n : ℕ). IsIn (entry n a.value m) o.index.entries) place there)))

pub one_item : (xs : List ℕ) (a b : ℕ) → xs ≡ a ∷ [] → xs ≡ b ∷ [] → a ≡ b
one_item [] a b e f = absurd cc
one_item (x ∷ xs) a b e f = cc

-- ---- numbers one after the other

pub rise_to : (numbers : List ℕ) (i j : ℕ) → Rise numbers → i ≤ j → j < length numbers → slice_index numbers i ≤ slice_index numbers j
rise_to numbers i j rise l m = elim (cases_lt i j) [
  | inl less ↦ let h = rise_at numbers i j rise less m in omega arith
  | inr same ↦ let is : i ≡ j = omega arith in subst (λ (k : ℕ). slice_index numbers i ≤ slice_index numbers k) is (omega arith)
]

pub node_less : (row : List Branch) (i j : ℕ) → Rise (map (λ node. node.number) row) → i < j → j < length row → (node_at row i).number < (node_at row j).number
node_less row i j rise l m =
    let numbers : List ℕ = map (λ (node : Branch). node.number) row in
    let count = length-map row (λ (node : Branch). node.number) in
    let h = rise_at numbers i j rise l (omega arith) in
    let at = number_there row numbers in
    let left = at i refl in
    let right = at j refl in
    omega arith

node_up_to : (row : List Branch) (i j : ℕ) → Rise (map (λ node. node.number) row) → i ≤ j → j < length row → (node_at row i).number ≤ (node_at row j).number
node_up_to row i j rise l m = elim (cases_lt i j) [
  | inl less ↦ let h = node_less row i j rise less m in omega arith
  | inr same ↦ let is : i ≡ j = omega arith in subst (λ (k : ℕ). (node_at row i).number ≤ (node_at row k).number) is (omega arith)
]

-- ---- the numbers of the index that are left

module _ (o : Offered) (slots : Assignment) (q : ℕ) (row : List Branch) (from : ℕ) (rise : Rise (map (λ node. node.number) row)) where
  -- at first those of the index
  pub left_first : (look : Look) (left : List ℕ) → AreOffered o slots q row from → LooksUp o slots q look
      → ((number : ℕ) → (node_at row from).number ≤ number → IsIn (entry look.place look.value number) o.index.entries → IsIn number left) → AreLeft o slots q row from left
  left_first look left offered looks has i l m =
      let number : ℕ = (node_at row i).number in
      elim (in_or_not (entry look.place look.value number) o.index.entries) [
        | inl there ↦ inr (has number (node_up_to row from i rise l m) there)
        | inr absent ↦ inl (inr (looks number (offered i l m) absent))
      ]

  -- or those that a screen finds
  pub left_found : (p first : ℕ) (left : List ℕ) → first ≡ (node_at row from).number → others o slots q ≡ p ∷ [] → AreOffered o slots q row from → FindsAt o slots q p first left → HasLeft o slots q row from left
  left_found p first left is alone offered finds = record { ascend = finds.ascend; has = there }
    where
      other : IsOther o slots q p
      other = (subst (λ (ps : List ℕ). AllByRecursion (IsOther o slots q) ps) alone (all_others o slots q)).0

      there : AreLeft o slots q row from left
      there i l m =
          let number : ℕ = (node_at row i).number in
          elim (finds.has other number (subst (λ (n : ℕ). n ≤ number) (sym is) (node_up_to row from i rise l m)) (offered i l m)) [
            | inl found ↦ inr found
            | inr none ↦ inl (inr (none_taken o slots q number p (offered i l m).free alone none))
          ]

  -- without one that is not worth a visit wherever it stands
  pub left_more : (number : ℕ) (left rest : List ℕ) → left ≡ number ∷ rest → ((i : ℕ) → from ≤ i → i < length row → (node_at row i).number ≡ number → IsWorthless o slots q number) → AreLeft o slots q row from left → AreLeft o slots q row from rest
  left_more number left rest is worthless before i l m = elim (before i l m) [
    | inl none ↦ inl none
    | inr there ↦ by (subst (IsIn (node_at row i).number) is there)
  ]
    where
      by : IsIn (node_at row i).number (number ∷ rest) → IsWorthless o slots q (node_at row i).number ⊎ IsIn (node_at row i).number rest
      by (inl same) = inl (subst (IsWorthless o slots q) same (worthless i l m (sym same)))
      by (inr later) = inr later

  -- those before the first place whose number is not less
  pub left_before : (number to : ℕ) (left rest : List ℕ) → left ≡ number ∷ rest → Ascend left → to ≤ length row → ((k : ℕ) → from ≤ k → k < to → (node_at row k).number < number) → AreLeft o slots q row from left → AreWorthless o slots q row from to
  left_before number to left rest is ascend within less before i l m = elim (before i l (omega (arith, m, within))) [
    | inl none ↦ none
    | inr there ↦ absurd (by (subst (IsIn (node_at row i).number) is there))
  ]
    where
      lesser : (node_at row i).number < number
      lesser = less i l m

      above : AllByRecursion (λ k. number < k) rest
      above = (subst Ascend is ascend).0

      by : IsIn (node_at row i).number (number ∷ rest) → ⊥
      by (inl same) = let h = lesser in omega arith
      by (inr later) = let h = lesser in let more : number < (node_at row i).number = all_in (λ k. number < k) rest (node_at row i).number above later in omega arith

  -- those behind that place
  pub left_behind : (number to : ℕ) (left rest : List ℕ) → left ≡ number ∷ rest → from ≤ to → number ≤ (node_at row to).number → AreLeft o slots q row from left → AreLeft o slots q row (to + 1) rest
  left_behind number to left rest is further reached before i l m = elim (before i (omega (arith, further, l)) m) [
    | inl none ↦ inl none
    | inr there ↦ by (subst (IsIn (node_at row i).number) is there)
  ]
    where
      greater : number < (node_at row i).number
      greater = let up = node_less row to i rise (omega (arith, l)) m in let h = reached in omega arith

      by : IsIn (node_at row i).number (number ∷ rest) → IsWorthless o slots q (node_at row i).number ⊎ IsIn (node_at row i).number rest
      by (inl same) = absurd (let h = greater in omega arith)
      by (inr later) = inr later

  -- where none is left
  pub left_none : (left : List ℕ) → left ≡ [] → AreLeft o slots q row from left → AreWorthless o slots q row from (length row)
  left_none left is before i l m = elim (before i l m) [
    | inl none ↦ none
    | inr there ↦ absurd (subst (IsIn (node_at row i).number) is there)
  ]

-- those up to a place, and from there on
pub worthless_both : (o : Offered) (slots : Assignment) (q : ℕ) (row : List Branch) (from place to : ℕ) → AreWorthless o slots q row from place → AreWorthless o slots q row place to → AreWorthless o slots q row from to
worthless_both o slots q row from place to before behind i l m = elim (cases_lt i place) [
  | inl below ↦ before i l below
  | inr above ↦ behind i above m
]

-- ---- bounds and texts alone

pub fails_meet : (o : Offered) (slots : Assignment) (q m : ℕ) (screen : Option Screen) → is_free slots q ≡ true → IfSome screen (Screens o slots q (others o slots q)) → may_meet o screen m ≡ false → takers o (with_number slots q m) ≡ []
fails_meet o slots q m None free screens fails = absurd cc
fails_meet o slots q m (Some screen) free screens fails = by (list_all (λ b. meets o.messages b m) screen.bounds) refl
  where
    by : (b : Bool) → list_all (λ x. meets o.messages x m) screen.bounds ≡ b → takers o (with_number slots q m) ≡ []
    by false e = fails_one o slots q m screen.other free screens.alone screen.bounds screens.tested.bounds e
    by true e =
        let rest : is_same o.messages o.number screen.same m ≡ false = sym (λ i. e i && is_same o.messages o.number screen.same m) ∙ fails in
        is_another o slots q m screen.other free screens.alone screen.same screens.tested.same rest

-- ---- a node that changes keeps its number

pub numbers_set : (row : List Branch) (i : ℕ) (node : Branch) → node.number ≡ (node_at row i).number → map (λ n. n.number) (set row i node) ≡ map (λ n. n.number) row
numbers_set [] i node e = refl
numbers_set (n ∷ row) zero node e = λ i. e i ∷ map (λ x. x.number) row
numbers_set (n ∷ row) (suc i) node e = λ j. n.number ∷ numbers_set row i node e j

-- what is left of a look-up has the numbers of the row as it is then
pub left_alike : (o : Offered) (slots : Assignment) (q : ℕ) (before now : List Branch) (from : ℕ) → map (λ node. node.number) now ≡ map (λ node. node.number) before → (left : Option (List ℕ)) → IfSome left (HasLeft o slots q before from)
    → IfSome left (HasLeft o slots q now from)
left_alike o slots q before now from same None h = tt
left_alike o slots q before now from same (Some xs) h = record { ascend = h.ascend; has = λ i l m. subst (λ (n : ℕ). IsWorthless o slots q n ⊎ IsIn n xs) (number i) (h.has i l (omega (arith, m, long))) }
  where
    long : length now ≡ length before
    long = sym (length-map now (λ (node : Branch). node.number)) ∙ ap (λ (ns : List ℕ). length ns) same ∙ length-map before (λ (node : Branch). node.number)

    number : (i : ℕ) → (node_at before i).number ≡ (node_at now i).number
    number i =
        let numbers : List ℕ = map (λ (node : Branch). node.number) before in
        sym (number_there before numbers i refl) ∙ number_there now numbers i (sym same)
