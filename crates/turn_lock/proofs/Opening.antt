-- The turn rule holds of a new table, and says at the end that each cell is at home.
use Rattle.std.proofs.Common.{true≢false, ◌≡◌, ◌≢◌, ◌⊎◌, ℕ, zero, suc, ◌<◌, ◌≤◌, false, List, [], ◌∷◌, map, length, take, replicate, get_or, sym, refl, ap, ◌∙◌, subst, inl, inr, ⊎_elim, arith, Option, Some, None}
use Rattle.std.specs.Prelude.{All}
use Rattle.std.proofs.lemmas.List.{length-map}
use mathlib.Core.Option.{some, some-injective, some-ne-none}
use mathlib.Core.List.{IsPrefix}
use lib.ListN.{get_elem?}
use Rattle.atomic_table.specs.Table.{opening, Final, Seen}
use Rattle.atomic_table.proofs.Lists.{at_map}
use Rattle.turn_lock.specs.declared.view.View.{View}
use Rattle.turn_lock.specs.declared.view.Changes.{Changes}
use Rattle.turn_lock.specs.declared.view.Turn.TheVariants.{Free, Has}
use Rattle.turn_lock.specs.declared.view.Role.{Role}
use Rattle.turn_lock.specs.declared.view.Role.TheVariants.{First, Other, Spent}
use Rattle.turn_lock.specs.View.{out_count, is_live, seats_out, seen_of, IsShaped, zeros, no_changes, changes_of, requests_of, flag_of, mark_of, first_view}
use Rattle.turn_lock.specs.Rule.{IsWithin, IsAccounted, flags_set}
use Rattle.turn_lock.specs.Steps.{AccountsAlone}
use Rattle.turn_lock.proofs.Lane.{Home, Away, Laned}
use Rattle.turn_lock.proofs.Lanes.{in_range}
use Rattle.turn_lock.proofs.Prefixes.{nothing_begins, blank_at, length-blank}
use Rattle.turn_lock.proofs.Accounts.{length-unchanged, unchanged_at, total-alone}
use Rattle.turn_lock.proofs.Joining.{out_of, length-zeros}
use Rattle.turn_lock.proofs.Keeps.{has_at, no_turn}

-- an item of a list of images is the image of an item
from_map : {A B : Type 0} (f : A → B) (l : List A) (i : ℕ) (b : B) → get_elem? (map f l) i ≡ some b → (a : A) × (get_elem? l i ≡ some a) × (f a ≡ b)
from_map f [] i b e = absurd (some-ne-none b (sym e))
from_map f (x ∷ l) zero b e = (x, refl, some-injective (f x) b e)
from_map f (x ∷ l) (suc i) b e = from_map f l i b e

get_at : {A : Type 0} → (l : List A) (i : ℕ) (a d : A) → get_elem? l i ≡ some a → get_or l i d ≡ a
get_at [] i a d e = absurd (some-ne-none a (sym e))
get_at (x ∷ l) zero a d e = some-injective x a e
get_at (x ∷ l) (suc i) a d e = get_at l i a d e

-- the one view of a new table
only : {A : Type 0} → (x : A) (id : ℕ) (v : A) → get_elem? (x ∷ []) id ≡ some v → (id ≡ 0) × (x ≡ v)
only x zero v e = (refl, some-injective x v e)
only x (suc id) v e = absurd (some-ne-none v (sym e))

role_cases : (r : Role) → ((n : ℕ) × (r ≡ First n)) ⊎ ((out_count r ≡ 1) ⊎ (is_live r ≡ false))
role_cases (First n) = inl (n, refl)
role_cases Other = inr (inl refl)
role_cases Spent = inr (inr refl)

apart_ones : (k : ℕ) → k ≡ 1 → k ≡ 0 → ⊥
apart_ones k one zero_too = absurd (omega arith)

nobody : {G E L : Type 0} → (views : List (View G E L)) (k : ℕ) (u : View G E L) → get_elem? views k ≡ some u → seats_out views ≡ 0 → out_count u.role ≡ 0
nobody [] k u e none_out = absurd (some-ne-none u (sym e))
nobody (x ∷ xs) zero u e none_out = let same = ap (λ (y : View _ _ _). out_count y.role) (some-injective x u e) in let z : out_count x.role ≡ 0 = omega arith in sym same ∙ z
nobody (x ∷ xs) (suc k) u e none_out = nobody xs k u e (omega arith)

-- a list of zeros, cut short
pub zeros_cut : (l : List ℕ) (n : ℕ) → ((i : ℕ) → get_or l i 0 ≡ 0) → (i : ℕ) → get_or (take n l) i 0 ≡ 0
zeros_cut l zero clear i = refl
zeros_cut [] (suc n) clear i = refl
zeros_cut (x ∷ l) (suc n) clear zero = clear 0
zeros_cut (x ∷ l) (suc n) clear (suc i) = zeros_cut l n (λ k. clear (suc k)) i

pub zeros_all : (m i : ℕ) → get_or (replicate m zero) i 0 ≡ 0
zeros_all zero i = refl
zeros_all (suc m) zero = refl
zeros_all (suc m) (suc i) = zeros_all m i

zero_at : {A : Type 0} → (l : List A) (i : ℕ) → get_or (zeros l) i 0 ≡ 0
zero_at [] i = refl
zero_at (x ∷ l) zero = refl
zero_at (x ∷ l) (suc i) = zero_at l i

-- the one view of a new table accounts for a word without a bit
opens_accounted : {G E L : Type 0} → (tags : List G) (i n : ℕ) → n ≡ 0 → IsAccounted i n (first_view {E = E} {L = L} tags ∷ [])
opens_accounted {G} {E} {L} tags i n clear =
    let v : View G E L = first_view tags in
    let none = unchanged_at tags i in
    let s : (changes_of v i).flag_set ≡ 0 = ap (λ (c : Changes). c.flag_set) none in
    let c : (changes_of v i).flag_cleared ≡ 0 = ap (λ (c : Changes). c.flag_cleared) none in
    let s' : (changes_of v i).mark_set ≡ 0 = ap (λ (c : Changes). c.mark_set) none in
    let c' : (changes_of v i).mark_cleared ≡ 0 = ap (λ (c : Changes). c.mark_cleared) none in
    let flag : flag_of n ≡ 0 = ap flag_of clear in
    let mark : mark_of n ≡ 0 = ap mark_of clear in
    let requests : requests_of v i ≡ 0 = zero_at tags i in record {
      flag = omega arith;
      mark = omega arith;
      known = λ id u h. subst (λ (y : View G E L). requests_of y i ≤ flags_set i (v ∷ [])) (only v id u h).1 (omega arith);
      answered = λ id u log h has. absurd (no_turn Free i log refl (ap (λ (y : View G E L). y.turn) (only v id u h).1 ∙ has));
    }

module _ {C G E : Type 0} (L : Type 0) (tag : C → G) (lawful : C → Type 0) (history : C → List E) where
  pub opens : (cells : List C) (words : List ℕ) (slots : List (Option C)) → All lawful cells → slots ≡ map Some cells → length words ≡ length cells → ((i : ℕ) → get_or words i 0 ≡ 0)
      → Laned tag lawful history (map tag cells) (opening words slots (first_view {E = E} {L = L} (map tag cells)))
  opens cells words slots all are wide clear = let tags = map tag cells in let v : View G E L = first_view tags in record {
    long = wide ∙ sym (length-map cells tag);
    deep = length-map slots some ∙ (ap length are ∙ (length-map cells Some ∙ sym (length-map cells tag)));
    lanes = λ i t e. let c = from_map tag cells i t e in inl (record {
      queued = false;
      flag = false;
      word_is = clear i;
      cell = c.0;
      there = at_map some slots i (Some c.0) (ap (λ (l : List (Option C)). get_elem? l i) are ∙ at_map Some cells i c.0 c.1);
      is_lawful = subst lawful (get_at cells i c.0 c.0 c.1) (all i c.0 (in_range cells i c.0 c.1));
      is_tagged = c.2;
      each = λ id u h. let o = only v id u h in subst (λ (y : View G E L). IsWithin i (history c.0) y × ((log : List E) → ¬ (y.turn ≡ Has i log))) o.1
          ((subst (λ (m : List E). IsPrefix m (history c.0)) (sym (blank_at tags i)) (nothing_begins (history c.0)), subst (λ (m : List E). IsPrefix m (history c.0)) (sym (blank_at tags i)) (nothing_begins (history c.0))), λ log. no_turn Free i log refl);
    });
    shapes = λ id u h lives. subst (λ (y : View G E L). IsShaped tags y) (only v id u h).1 (refl, length-blank E tags, length-blank E tags, length-zeros tags, length-zeros tags, length-zeros tags, length-unchanged tags, length-zeros tags);
    spent = λ id u h dead. absurd (true≢false (ap (λ (y : View G E L). is_live y.role) (only v id u h).1 ∙ dead));
    one_first = record { seat = 0; view = v; out = 0; at = refl; is_first = refl; counts = omega arith; alone = λ id u n h first. (only v id u h).0 };
    accounts = λ i lt. opens_accounted tags i (get_or words i 0) (clear i);
  }

  -- where no other seat is out, the first accounts for each word alone
  pub accounts_alone : (tags : List G) (id : ℕ) (v : View G E L) (words : List ℕ) (slots : List (Option C)) → v.role ≡ First 0 → Final (Seen (Laned tag lawful history tags) id v) words slots → (i : ℕ) → i < length tags → AccountsAlone v i
  accounts_alone tags id v words slots first end i lt =
      let s = end.0 in
      let rule = end.1.0 in
      let at = end.1.1 in
      let one = rule.one_first in
      let seat : id ≡ one.seat = one.alone id v 0 at first in
      let view_is : v ≡ one.view = some-injective v one.view (sym at ∙ (ap (get_elem? s.views) seat ∙ one.at)) in
      let out : 0 ≡ one.out = ap out_of (sym first ∙ (ap (λ (y : View G E L). y.role) view_is ∙ one.is_first)) in
      let none_out : seats_out s.views ≡ 0 = sym (out ∙ one.counts) in
      let none : (k : ℕ) (u : View G E L) → k ≢ id → get_elem? s.views k ≡ some u → u.changes ≡ [] = λ k u apart e. ⊎_elim
      (λ (f : (n : ℕ) × (u.role ≡ First n)). absurd (apart (one.alone k u f.0 e f.1 ∙ sym seat)))
      (λ (r : (out_count u.role ≡ 1) ⊎ (is_live u.role ≡ false)). ⊎_elim
      (λ (o : out_count u.role ≡ 1). absurd (apart_ones _ o (nobody s.views k u e none_out)))
      (λ (d : is_live u.role ≡ false). (rule.spent k u e d).1)
      r)
      (role_cases u.role) in
      let set_is = total-alone (λ (y : View G E L). (changes_of y i).flag_set) s.views id v at (λ k u apart e. ap (λ (l : List Changes). (get_or l i no_changes).flag_set) (none k u apart e)) in
      let cleared_is = total-alone (λ (y : View G E L). (changes_of y i).flag_cleared) s.views id v at (λ k u apart e. ap (λ (l : List Changes). (get_or l i no_changes).flag_cleared) (none k u apart e)) in
      let marks_are = total-alone (λ (y : View G E L). (changes_of y i).mark_set) s.views id v at (λ k u apart e. ap (λ (l : List Changes). (get_or l i no_changes).mark_set) (none k u apart e)) in
      let unmarks_are = total-alone (λ (y : View G E L). (changes_of y i).mark_cleared) s.views id v at (λ k u apart e. ap (λ (l : List Changes). (get_or l i no_changes).mark_cleared) (none k u apart e)) in
      let all = rule.accounts i lt in
      let flag = all.flag in
      let mark = all.mark in
      let known = all.known id v at in
      (get_or s.words i 0, omega arith, omega arith, omega arith)

  -- where no other seat is out and the first has no turn, each cell is at home
  pub closes : (tags : List G) (id : ℕ) (v : View G E L) (words : List ℕ) (slots : List (Option C)) → v.role ≡ First 0 → v.turn ≡ Free → Final (Seen (Laned tag lawful history tags) id v) words slots
      → (length slots ≡ length tags) × ((i : ℕ) → i < length tags → (c : C) × (get_elem? slots i ≡ some (Some c)) × lawful c × (get_elem? v.tags i ≡ some (tag c)) × IsWithin i (history c) v)
  closes tags id v words slots first free end =
      let s = end.0 in
      let rule = end.1.0 in
      let at = end.1.1 in
      let back = end.4 in
      let one = rule.one_first in
      let seat : id ≡ one.seat = one.alone id v 0 at first in
      let view_is : v ≡ one.view = some-injective v one.view (sym at ∙ (ap (get_elem? s.views) seat ∙ one.at)) in
      let out : 0 ≡ one.out = ap out_of (sym first ∙ (ap (λ (y : View G E L). y.role) view_is ∙ one.is_first)) in
      let none_out : seats_out s.views ≡ 0 = sym (out ∙ one.counts) in
      let shape = rule.shapes id v at (ap is_live first) in (
        sym end.3 ∙ rule.deep,
        λ i lt. let t = has_at tags i lt in ⊎_elim
            (λ (x : Home tag lawful history s.views i (get_or s.words i 0) (get_elem? s.homes i) t.0). (x.cell, back i (Some x.cell) x.there, x.is_lawful, ap (λ (l : List G). get_elem? l i) shape.0 ∙ (t.1 ∙ ap some (sym x.is_tagged)), (x.each id v at).0))
            (λ (x : Away tag lawful history s.views i (get_or s.words i 0) (get_elem? s.homes i) t.0). absurd (⊎_elim
            (λ (f : (n : ℕ) × (x.view.role ≡ First n)). let same : x.holder ≡ id = one.alone x.holder x.view f.0 x.at f.1 ∙ sym seat in
            no_turn v.turn i x.log free (ap (λ (y : View G E L). y.turn) (some-injective v x.view (sym at ∙ (ap (get_elem? s.views) (sym same) ∙ x.at))) ∙ x.has))
            (λ (r : (out_count x.view.role ≡ 1) ⊎ (is_live x.view.role ≡ false)). ⊎_elim
            (λ (o : out_count x.view.role ≡ 1). let z = nobody s.views x.holder x.view x.at none_out in apart_ones _ o z)
            (λ (d : is_live x.view.role ≡ false). no_turn x.view.turn i x.log (rule.spent x.holder x.view x.at d).0 x.has)
            r)
            (role_cases x.view.role)))
            (rule.lanes i t.0 t.1),
      )

abbrev cell_in : {C : Type 0} → C → Option C → C
cell_in d None = d
cell_in d (Some c) = c

pub back_same : {C : Type 0} → (d c : C) → Some d ≡ Some c → c ≡ d
back_same d c e = sym (ap (cell_in d) e)

module _ {C G E L : Type 0} (tag : C → G) (lawful : C → Type 0) (history : C → List E) where
  pub same_cell : (v : View G E L) (i : ℕ) (c d : C) → c ≡ d → lawful c × (get_elem? v.tags i ≡ some (tag c)) × IsPrefix (seen_of v i) (history c) → lawful d × (get_elem? v.tags i ≡ some (tag d)) × IsPrefix (seen_of v i) (history d)
  same_cell v i c d e h = subst (λ (y : C). lawful y × (get_elem? v.tags i ≡ some (tag y)) × IsPrefix (seen_of v i) (history y)) e h
