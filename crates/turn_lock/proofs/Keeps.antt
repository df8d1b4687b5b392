-- Each step on a word keeps the turn rule.
use Rattle.std.proofs.Common.{true≢false, ◌≡◌, ◌≢◌, ℕ, zero, suc, ◌⊎◌, ◌+◌, ◌-◌, ◌/◌, ◌<◌, true, false, List, [], ◌∷◌, length, set, get_or, sym, refl, ap, ◌∙◌, subst, inl, inr, ⊎_elim, arith, Option, Some, None}
use Rattle.std.specs.Prelude.{bit_and, bit_or, slice_index}
use Rattle.std.proofs.lemmas.List.{length-set, set-get_or, get_or-set_same, get_or-set_other}
use mathlib.Core.Logic.{dite}
use mathlib.Core.Option.{some, none, some-injective, some-ne-none}
use mathlib.Core.Option as maybe
use mathlib.Core.List.{IsPrefix}
use native.Mathlib.Decide.{ℕ_discrete}
use base.Growing.{prefix_refl, prefix_trans}
use lib.ListN.{get_elem?}
use Rattle.atomic_table.specs.Table.{State, step, Act, keeps, takes, gives, Allows, Valid, stepped, carried_after}
use Rattle.atomic_table.proofs.Lists.{at_set, set_here, set_else, set_again}
use Rattle.turn_lock.specs.declared.view.View.{View}
use Rattle.turn_lock.specs.declared.view.Changes.{Changes}
use Rattle.turn_lock.specs.declared.view.Turn.{Turn}
use Rattle.turn_lock.specs.declared.view.Turn.TheVariants.{Free, Has}
use Rattle.turn_lock.specs.declared.view.Role.TheVariants.{First}
use Rattle.turn_lock.specs.View.{out_count, is_live, seen_of, met_of, changes_of, requests_of, flag_of, mark_of, no_changes, with_flag, with_clear, with_mark, with_unmark, IsShaped, flagged, refused, claimed, cleared, released, marked, unmarked}
use Rattle.turn_lock.specs.Rule.{IsWithin, SlotState, OneFirst, HasBit, LacksBit, IsAccounted, flags_cleared}
use Rattle.turn_lock.specs.Steps.{SetsMark, FindsMark}
use Rattle.turn_lock.specs.Kinds.{SeatState, FlagTells, MarkTells, UnmarkTells, ClearTells, ClaimTells, ReleaseTells}
use Rattle.turn_lock.proofs.Lane.{Home, Away, Lane, Laned}
use Rattle.turn_lock.proofs.Lanes.{Alike, in_range, seats_out-set, lane_alike, lane_flag, lane_clear, lane_mark, lane_unmark, lane_queued, lane_flagged, lane_bits, or_running, and_running, runs, idles}
use Rattle.turn_lock.proofs.Accounts.{BitsAfter, Even, accounts_even, accounts_flag, accounts_mark, accounts_unmark, accounts_clear, accounts_claim, accounts_release}

pub has_at : {A : Type 0} → (l : List A) (i : ℕ) → i < length l → (a : A) × (get_elem? l i ≡ some a)
has_at [] i h = absurd (omega arith)
has_at (x ∷ xs) zero h = (x, refl)
has_at (x ∷ xs) (suc i) h = has_at xs i (omega arith)

abbrev place_of : {E : Type 0} → Turn E → ℕ
place_of Free = 0
place_of (Has i log) = suc i

abbrev pub log_of : {E : Type 0} → Turn E → List E
log_of Free = []
log_of (Has i log) = log

same_place : {E : Type 0} → (i j : ℕ) (l m : List E) → Has i l ≡ Has j m → i ≡ j
same_place i j l m e = let p : suc i ≡ suc j = ap place_of e in omega arith

pub no_turn : {E : Type 0} → (t : Turn E) (j : ℕ) (m : List E) → t ≡ Free → ¬ (t ≡ Has j m)
no_turn t j m free has = let p : 0 ≡ suc j = ap place_of (sym free ∙ has) in absurd (omega arith)

abbrev some_or : {C : Type 0} → C → Option C → C
some_or d None = d
some_or d (Some c) = c

abbrev cell_or : {C : Type 0} → C → List (ℕ × Option C) → C
cell_or d [] = d
cell_or d (x ∷ xs) = some_or d x.1

module _ {G E L : Type 0} where
  mark_told : (i n : ℕ) (v w : View G E L) → (changes_of w i).mark_set ≡ (changes_of v i).mark_set + (1 - mark_of n) → HasBit 4 n ⊎ LacksBit 4 n → (HasBit 4 n × FindsMark i v w) ⊎ (LacksBit 4 n × SetsMark i v w)
  mark_told i n v w now (inl has) = let one : mark_of n ≡ 1 = ap (λ (k : ℕ). k / 4) has in inl (has, omega arith)
  mark_told i n v w now (inr lacks) = let none : mark_of n ≡ 0 = ap (λ (k : ℕ). k / 4) lacks in inr (lacks, omega arith)

  one_first_set : (views : List (View G E L)) (id : ℕ) (v w : View G E L) → get_elem? views id ≡ some v → w.role ≡ v.role → OneFirst views → OneFirst (set views id w)
  one_first_set views id v w at same one = let is = found (ℕ_discrete one.seat id) in record {
    seat = one.seat;
    view = is.0;
    out = one.out;
    at = is.1;
    is_first = is.2;
    counts = one.counts ∙ sym (seats_out-set views id v w at (ap out_count same));
    alone = λ i u n e first. ⊎_elim
        (λ (t : (i ≡ id) × (w ≡ u)). t.0 ∙ one.alone id v n at (sym same ∙ (ap (λ (y : View G E L). y.role) t.1 ∙ first)))
        (λ (t : (i ≢ id) × (get_elem? views i ≡ some u)). one.alone i u n t.1 first)
        (at_set views id i w u e);
  }
    where
      found : Dec (one.seat ≡ id) → (y : View G E L) × (get_elem? (set views id w) one.seat ≡ some y) × (y.role ≡ First one.out)
      found (yes e) = (w, subst (λ (k : ℕ). get_elem? (set views id w) k ≡ some w) (sym e) (set_here views id w (in_range views id v at)), same ∙ (ap (λ (y : View G E L). y.role) (some-injective v one.view (sym at ∙ (ap (get_elem? views) (sym e) ∙ one.at))) ∙ one.is_first))
      found (no n) = (one.view, set_else views id one.seat w n ∙ one.at, one.is_first)

module _ {C G E L : Type 0} (tag : C → G) (lawful : C → Type 0) (history : C → List E) (tally : C → L) (tags : List G) where
  abbrev Rule : State (Option C) (View G E L) → Type 0
  Rule = Laned tag lawful history tags

  -- a step of one seat on the word i, which says the same of all other cells
  turn_step : (s : State (Option C) (View G E L)) (id : ℕ) (v w : View G E L) (i n : ℕ) (homes : List (maybe.Option (Option C)))
      → Rule s → get_elem? s.views id ≡ some v → is_live v.role ≡ true → i < length tags → w.role ≡ v.role → (IsShaped tags v → IsShaped tags w)
      → length homes ≡ length s.homes → ((j : ℕ) → j ≢ i → get_elem? homes j ≡ get_elem? s.homes j) → ((j : ℕ) → j ≢ i → Alike j v w) → ((j : ℕ) → j ≢ i → Even j v w)
      → (IsAccounted i (get_or s.words i 0) s.views → IsAccounted i n (set s.views id w))
      → ((t : G) → get_elem? tags i ≡ some t → Lane tag lawful history (set s.views id w) i n (get_elem? homes i) t)
      → Rule (record { words = set s.words i n; homes = homes; views = set s.views id w })
  turn_step s id v w i n homes rule at live in_it role shape size other_homes alike even counts here = record {
    long = length-set s.words i n ∙ rule.long;
    deep = size ∙ rule.deep;
    lanes = λ j t e. dite (ℕ_discrete j i)
        (λ (same : j ≡ i). subst (λ (k : ℕ). Lane tag lawful history (set s.views id w) k (get_or (set s.words i n) k 0) (get_elem? homes k) t) (sym same)
        (subst (λ (k : ℕ). Lane tag lawful history (set s.views id w) i k (get_elem? homes i) t) (sym (get_or-set_same s.words i n 0 (let l = rule.long in omega arith))) (here t (ap (get_elem? tags) (sym same) ∙ e))))
        (λ (other : j ≢ i). subst (λ (k : ℕ). Lane tag lawful history (set s.views id w) j k (get_elem? homes j) t) (sym (get_or-set_other s.words i j n 0 other))
        (subst (λ (h : SlotState C). Lane tag lawful history (set s.views id w) j (get_or s.words j 0) h t) (sym (other_homes j other))
        (lane_alike tag lawful history s.views id v w j (get_or s.words j 0) (get_elem? s.homes j) t at (alike j other) (rule.lanes j t e))));
    shapes = λ k u e lives. ⊎_elim
        (λ (t : (k ≡ id) × (w ≡ u)). subst (λ (y : View G E L). IsShaped tags y) t.1 (shape (rule.shapes id v at live)))
        (λ (t : (k ≢ id) × (get_elem? s.views k ≡ some u)). rule.shapes k u t.1 lives)
        (at_set s.views id k w u e);
    spent = λ k u e dead. ⊎_elim
        (λ (t : (k ≡ id) × (w ≡ u)). absurd (true≢false (sym (ap is_live role ∙ live) ∙ (ap (λ (y : View G E L). is_live y.role) t.1 ∙ dead))))
        (λ (t : (k ≢ id) × (get_elem? s.views k ≡ some u)). rule.spent k u t.1 dead)
        (at_set s.views id k w u e);
    one_first = one_first_set s.views id v w at role rule.one_first;
    accounts = λ j lt. dite (ℕ_discrete j i)
        (λ (same : j ≡ i). subst (λ (k : ℕ). IsAccounted k (get_or (set s.words i n) k 0) (set s.views id w)) (sym same)
        (subst (λ (k : ℕ). IsAccounted i k (set s.views id w)) (sym (get_or-set_same s.words i n 0 (let l = rule.long in omega arith))) (counts (rule.accounts i in_it))))
        (λ (other : j ≢ i). let word = get_or-set_other s.words i j n 0 other in accounts_even s.views id j (get_or s.words j 0) (get_or (set s.words i n) j 0) v w at (even j other) (ap flag_of word) (ap mark_of word) (rule.accounts j lt));
  }

  same_alike : (j : ℕ) (v w : View G E L) → w.seen ≡ v.seen → w.met ≡ v.met → w.turn ≡ v.turn → Alike j v w
  same_alike j v w seen met turn = record { seen = ap (λ (x : List (List E)). get_or x j []) seen; met = ap (λ (x : List (List E)). get_or x j []) met; back = λ log e. sym turn ∙ e; forth = λ log e. turn ∙ e }

  in_tags : (s : State (Option C) (View G E L)) (slots i : ℕ) → Rule s → length s.homes ≡ slots → i < slots → i < length tags
  in_tags s slots i rule len lt = let d = rule.deep in omega arith

  -- a step that changes at most what the seat did at the cell i
  same_even : (i j : ℕ) (v w : View G E L) (c : Changes) → j ≢ i → w.changes ≡ set v.changes i c → w.requests ≡ v.requests → w.turn ≡ v.turn → Even j v w
  same_even i j v w c other changes requests turn = record {
    changes = ap (λ (l : List Changes). get_or l j no_changes) changes ∙ get_or-set_other v.changes i j c no_changes other;
    requests = ap (λ (l : List ℕ). get_or l j 0) requests;
    back = λ log e. sym turn ∙ e;
  }

  bits_here : (s : State (Option C) (View G E L)) (i : ℕ) → Rule s → i < length tags → BitsAfter (get_or s.words i 0)
  bits_here s i rule in_it = let t = has_at tags i in_it in lane_bits tag lawful history s.views i (get_or s.words i 0) (get_elem? s.homes i) t.0 (rule.lanes i t.0 t.1)

  pub flags : (slots id : ℕ) (me : SeatState C G E L) (i : ℕ) → i < slots → is_live me.0.role ≡ true → Allows Rule slots id me i (λ n. bit_or n 1) (FlagTells (step slots i 1 0 none) me)
  flags slots id me i lt live s rule len at small =
      let v = me.0 in
      let n = get_or s.words i 0 in
      let w = flagged i n v in
      let now = with_flag n (changes_of v i) in
      let in_it = in_tags s slots i rule len lt in
      let shape = rule.shapes id v at live in
      let flags_wide : i < length v.flags = (let k = shape.3 in omega arith) in
      let changes_wide : i < length v.changes = (let k = shape.6 in omega arith) in (
        w,
        keeps,
        tt,
        turn_step s id v w i (bit_or n 1) s.homes rule at live in_it refl (λ sh. (sh.0, sh.1, sh.2, length-set v.flags i (slice_index v.flags i + 1) ∙ sh.3, sh.4, sh.5, length-set v.changes i now ∙ sh.6, sh.7)) refl (λ j other. refl) (λ j other. same_alike j v w refl refl refl)
            (λ j other. same_even i j v w now other refl refl refl)
            (accounts_flag s.views id i n v w at (bits_here s i rule in_it) (get_or-set_same v.changes i now no_changes changes_wide) refl (λ log e. e))
            (λ t e. lane_alike tag lawful history s.views id v w i (bit_or n 1) (get_elem? s.homes i) t at (same_alike i v w refl refl refl) (lane_flag tag lawful history s.views i n (get_elem? s.homes i) t (rule.lanes i t e))),
        (refl, refl, get_or-set_same v.flags i (slice_index v.flags i + 1) 0 flags_wide),
      )

  pub marks : (slots id : ℕ) (me : SeatState C G E L) (i : ℕ) → i < slots → is_live me.0.role ≡ true → Allows Rule slots id me i (λ n. bit_or n 4) (MarkTells (step slots i 4 0 none) me)
  marks slots id me i lt live s rule len at small =
      let v = me.0 in
      let n = get_or s.words i 0 in
      let w = marked i n v in
      let now = with_mark n (changes_of v i) in
      let in_it = in_tags s slots i rule len lt in
      let shape = rule.shapes id v at live in
      let changes_wide : i < length v.changes = (let k = shape.6 in omega arith) in
      let t = has_at tags i in_it in (
        w,
        keeps,
        tt,
        turn_step s id v w i (bit_or n 4) s.homes rule at live in_it refl (λ sh. (sh.0, sh.1, sh.2, sh.3, sh.4, sh.5, length-set v.changes i now ∙ sh.6, sh.7)) refl (λ j other. refl) (λ j other. same_alike j v w refl refl refl)
            (λ j other. same_even i j v w now other refl refl refl)
            (accounts_mark s.views id i n v w at (bits_here s i rule in_it) (get_or-set_same v.changes i now no_changes changes_wide) refl (λ log e. e))
            (λ t e. lane_alike tag lawful history s.views id v w i (bit_or n 4) (get_elem? s.homes i) t at (same_alike i v w refl refl refl) (lane_mark tag lawful history s.views i n (get_elem? s.homes i) t (rule.lanes i t e))),
        (refl, refl, mark_told i n v w (ap (λ (c : Changes). c.mark_set) (get_or-set_same v.changes i now no_changes changes_wide)) (lane_queued tag lawful history s.views i n (get_elem? s.homes i) t.0 (rule.lanes i t.0 t.1))),
      )

  pub unmarks : (slots id : ℕ) (me : SeatState C G E L) (i : ℕ) → i < slots → is_live me.0.role ≡ true → Allows Rule slots id me i (λ n. bit_and n 18446744073709551611) (UnmarkTells (step slots i 18446744073709551611 0 none) me)
  unmarks slots id me i lt live s rule len at small =
      let v = me.0 in
      let n = get_or s.words i 0 in
      let w = unmarked i n v in
      let now = with_unmark n (changes_of v i) in
      let in_it = in_tags s slots i rule len lt in
      let shape = rule.shapes id v at live in
      let unmarks_wide : i < length v.unmarks = (let k = shape.4 in omega arith) in
      let changes_wide : i < length v.changes = (let k = shape.6 in omega arith) in (
        w,
        keeps,
        tt,
        turn_step s id v w i (bit_and n 18446744073709551611) s.homes rule at live in_it refl (λ sh. (sh.0, sh.1, sh.2, sh.3, length-set v.unmarks i (slice_index v.unmarks i + 1) ∙ sh.4, sh.5, length-set v.changes i now ∙ sh.6, sh.7)) refl (λ j other. refl) (λ j other. same_alike j v w refl refl refl)
            (λ j other. same_even i j v w now other refl refl refl)
            (accounts_unmark s.views id i n v w at (bits_here s i rule in_it) (get_or-set_same v.changes i now no_changes changes_wide) refl (λ log e. e))
            (λ t e. lane_alike tag lawful history s.views id v w i (bit_and n 18446744073709551611) (get_elem? s.homes i) t at (same_alike i v w refl refl refl) (lane_unmark tag lawful history s.views i n (get_elem? s.homes i) t (rule.lanes i t e))),
        (refl, refl, get_or-set_same v.unmarks i (slice_index v.unmarks i + 1) 0 unmarks_wide),
      )

  -- nobody but the seat that has the turn
  holds_alone : (views : List (View G E L)) (id : ℕ) (v : View G E L) (i n : ℕ) (h : SlotState C) (t : G) (log : List E) → get_elem? views id ≡ some v → v.turn ≡ Has i log → Lane tag lawful history views i n h t
      → (k : ℕ) (u : View G E L) (m : List E) → get_elem? views k ≡ some u → u.turn ≡ Has i m → k ≡ id
  holds_alone views id v i n h t log at has (inl x) k u m e theirs = absurd ((x.each id v at).1 log has)
  holds_alone views id v i n h t log at has (inr x) k u m e theirs = (x.each k u e).1 m theirs ∙ sym ((x.each id v at).1 log has)

  pub clears : (slots id : ℕ) (me : SeatState C G E L) (i : ℕ) (log : List E) → i < slots → me.0.turn ≡ Has i log → is_live me.0.role ≡ true → Allows Rule slots id me i (λ n. bit_and n 18446744073709551614) (ClearTells (step slots i 18446744073709551614 0 none) me)
  clears slots id me i log lt has live s rule len at small =
      let v = me.0 in
      let n = get_or s.words i 0 in
      let w = cleared i n v in
      let now = with_clear n (changes_of v i) in
      let known = requests_of v i + flag_of n in
      let in_it = in_tags s slots i rule len lt in
      let t = has_at tags i in_it in
      let shape = rule.shapes id v at live in
      let clears_wide : i < length v.clears = (let k = shape.5 in omega arith) in
      let changes_wide : i < length v.changes = (let k = shape.6 in omega arith) in
      let requests_wide : i < length v.requests = (let k = shape.7 in omega arith) in (
        w,
        keeps,
        tt,
        turn_step s id v w i (bit_and n 18446744073709551614) s.homes rule at live in_it refl
            (λ sh. (sh.0, sh.1, sh.2, sh.3, sh.4, length-set v.clears i (slice_index v.clears i + 1) ∙ sh.5, length-set v.changes i now ∙ sh.6, length-set v.requests i known ∙ sh.7))
            refl (λ j other. refl) (λ j other. same_alike j v w refl refl refl)
            (λ j other. record { changes = get_or-set_other v.changes i j now no_changes other; requests = get_or-set_other v.requests i j known 0 other; back = λ m e. e })
            (accounts_clear s.views id i n v w log at has (holds_alone s.views id v i n (get_elem? s.homes i) t.0 log at has (rule.lanes i t.0 t.1)) (bits_here s i rule in_it) (get_or-set_same v.changes i now no_changes changes_wide) (get_or-set_same v.requests i known 0 requests_wide))
            (λ t e. lane_alike tag lawful history s.views id v w i (bit_and n 18446744073709551614) (get_elem? s.homes i) t at (same_alike i v w refl refl refl) (lane_clear tag lawful history s.views i n (get_elem? s.homes i) t (rule.lanes i t e))),
        (refl, refl, get_or-set_same v.clears i (slice_index v.clears i + 1) 0 clears_wide),
      )

  other_place : (i j : ℕ) (v w : View G E L) (log : List E) → j ≢ i → v.turn ≡ Free → w.turn ≡ Has i log → get_or w.seen j [] ≡ get_or v.seen j [] → w.met ≡ v.met → Alike j v w
  other_place i j v w log other free has seen met = record {
    seen = seen;
    met = ap (λ (x : List (List E)). get_or x j []) met;
    back = λ m e. absurd (other (sym (same_place i j log m (sym has ∙ e))));
    forth = λ m e. absurd (no_turn v.turn j m free e);
  }

  pub claims : (slots id : ℕ) (me : SeatState C G E L) (i : ℕ) → i < slots → me.0.turn ≡ Free → is_live me.0.role ≡ true → Allows Rule slots id me i (λ n. bit_or n 2) (ClaimTells tag lawful history tally (step slots i 2 0 none) me)
  claims slots id me i lt free live s rule len at small = let in_it = in_tags s slots i rule len lt in let t = has_at tags i in_it in by_lane in_it t.0 t.1 (rule.lanes i t.0 t.1)
    where
      by_lane : i < length tags → (t : G) → get_elem? tags i ≡ some t → Lane tag lawful history s.views i (get_or s.words i 0) (get_elem? s.homes i) t
          → (w : View G E L) × (a : Act (Option C)) × Valid s.homes me.1 a × Rule (stepped s i (bit_or (get_or s.words i 0) 2) id me.1 w a) × ClaimTells tag lawful history tally (step slots i 2 0 none) me (get_or s.words i 0) (w, carried_after me.1 a)
      by_lane in_it t e (inl x) =
          let n = get_or s.words i 0 in
          let v = me.0 in
          let log = history x.cell in
          let answered = flags_cleared i s.views in
          let w = claimed i n answered log (tally x.cell) v in
          let homes = set s.homes i none in
          let requests_wide : i < length v.requests = (let k = (rule.shapes id v at live).7 in omega arith) in
          let deep = rule.deep in
          let mine = x.each id v at in
          let tags_are = (rule.shapes id v at live).0 in
          let lane : Away tag lawful history (set s.views id w) i (bit_or n 2) (get_elem? homes i) t = record {
            queued = x.queued;
            flag = x.flag;
            word_is = ap (λ (k : ℕ). bit_or k 2) x.word_is ∙ or_running x.queued false x.flag;
            gone = set_here s.homes i none (omega arith);
            holder = id;
            view = w;
            log = log;
            at = set_here s.views id w (in_range s.views id v at);
            has = refl;
            each = λ k u h. ⊎_elim
                (λ (same : (k ≡ id) × (w ≡ u)). subst (λ (y : View G E L). IsWithin i log y × ((other : List E) → y.turn ≡ Has i other → k ≡ id)) same.1 (mine.0, λ other _. same.0))
                (λ (other : (k ≢ id) × (get_elem? s.views k ≡ some u)). let was = x.each k u other.1 in (was.0, λ m has. absurd (was.1 m has)))
                (at_set s.views id k w u h);
          } in (
            w,
            takes i (Some x.cell),
            x.there,
            turn_step s id v w i (bit_or n 2) homes rule at live in_it refl (λ sh. (sh.0, sh.1, sh.2, sh.3, sh.4, sh.5, sh.6, length-set v.requests i answered ∙ sh.7)) (length-set s.homes i none) (λ j other. set_else s.homes i j none other) (λ j other. other_place i j v w log other free refl refl refl)
                (λ j other. record { changes = refl; requests = get_or-set_other v.requests i j answered 0 other; back = λ m e. absurd (other (sym (same_place i j log m e))) })
                (accounts_claim s.views id i n v w at (bits_here s i rule in_it) refl (get_or-set_same v.requests i answered 0 requests_wide))
                (λ t' e'. subst (λ (y : G). Lane tag lawful history (set s.views id w) i (bit_or n 2) (get_elem? homes i) y) (some-injective t t' (sym e ∙ e')) (inr lane)),
            (refl, inr (subst (LacksBit 2) (sym x.word_is) (idles x.queued x.flag), (x.cell, answered, refl, x.is_lawful, ap (λ (l : List G). get_elem? l i) tags_are ∙ (e ∙ ap some (sym x.is_tagged)), mine.0))),
          )
      by_lane in_it t e (inr x) =
          let n = get_or s.words i 0 in
          let v = me.0 in
          let w = refused i n v in
          let lane : Away tag lawful history s.views i (bit_or n 2) (get_elem? s.homes i) t = record {
            queued = x.queued;
            flag = x.flag;
            word_is = ap (λ (k : ℕ). bit_or k 2) x.word_is ∙ or_running x.queued true x.flag;
            gone = x.gone;
            holder = x.holder;
            view = x.view;
            log = x.log;
            at = x.at;
            has = x.has;
            each = x.each;
          } in (
            w,
            keeps,
            tt,
            turn_step s id v w i (bit_or n 2) s.homes rule at live in_it refl (λ sh. sh) refl (λ j other. refl) (λ j other. same_alike j v w refl refl refl) (λ j other. record { changes = refl; requests = refl; back = λ m e. e })
                (let bits = (bits_here s i rule in_it).claim in accounts_even s.views id i n (bit_or n 2) v w at (record { changes = refl; requests = refl; back = λ m e. e }) bits.0 bits.1)
                (λ t' e'. lane_alike tag lawful history s.views id v w i (bit_or n 2) (get_elem? s.homes i) t' at (same_alike i v w refl refl refl)
                (subst (λ (y : G). Lane tag lawful history s.views i (bit_or n 2) (get_elem? s.homes i) y) (some-injective t t' (sym e ∙ e')) (inr lane))),
            (refl, inl (subst (HasBit 2) (sym x.word_is) (runs x.queued x.flag), refl)),
          )

  leaves_place : (i j : ℕ) (v w : View G E L) (log : List E) → j ≢ i → w.turn ≡ Free → v.turn ≡ Has i log → get_or w.seen j [] ≡ get_or v.seen j [] → w.met ≡ v.met → Alike j v w
  leaves_place i j v w log other free has seen met = record {
    seen = seen;
    met = ap (λ (x : List (List E)). get_or x j []) met;
    back = λ m e. absurd (no_turn w.turn j m free e);
    forth = λ m e. absurd (other (sym (same_place i j log m (sym has ∙ e))));
  }

  releases : (slots id : ℕ) (v : View G E L) (i : ℕ) (log : List E) (c : C) → i < slots → v.turn ≡ Has i log → is_live v.role ≡ true → lawful c → get_elem? v.tags i ≡ some (tag c) → IsPrefix log (history c)
      → Allows Rule slots id (v, (i, Some c) ∷ []) i (λ n. bit_and n 18446744073709551613) (ReleaseTells history tally (step slots i 18446744073709551613 0 none) (v, (i, Some c) ∷ []))
  releases slots id v i log c lt has live ok tagged grown s rule len at small = let in_it = in_tags s slots i rule len lt in let t = has_at tags i in_it in by_lane in_it t.0 t.1 (rule.lanes i t.0 t.1)
    where
      by_lane : i < length tags → (t : G) → get_elem? tags i ≡ some t → Lane tag lawful history s.views i (get_or s.words i 0) (get_elem? s.homes i) t
          → (w : View G E L) × (a : Act (Option C)) × Valid s.homes ((i, Some c) ∷ []) a × Rule (stepped s i (bit_and (get_or s.words i 0) 18446744073709551613) id ((i, Some c) ∷ []) w a)
          × ReleaseTells history tally (step slots i 18446744073709551613 0 none) (v, (i, Some c) ∷ []) (get_or s.words i 0) (w, carried_after ((i, Some c) ∷ []) a)
      by_lane in_it t e (inl x) = absurd ((x.each id v at).1 log has)
      by_lane in_it t e (inr x) =
          let n = get_or s.words i 0 in
          let w = released i n (history c) (tally c) v in
          let homes = set s.homes i (some (Some c)) in
          let deep = rule.deep in
          let shape = rule.shapes id v at live in
          let wide : i < length v.seen = (let k = shape.1 in omega arith) in
          let known = requests_of v i + flag_of n in
          let requests_wide : i < length v.requests = (let k = shape.7 in omega arith) in
          let holder_is : id ≡ x.holder = (x.each id v at).1 log has in
          let view_is : v ≡ x.view = some-injective v x.view (sym at ∙ (ap (get_elem? s.views) holder_is ∙ x.at)) in
          let log_is : x.log ≡ log = ap log_of (sym x.has ∙ (ap (λ (y : View G E L). y.turn) (sym view_is) ∙ has)) in
          let before : IsPrefix x.log (history c) = subst (λ (m : List E). IsPrefix m (history c)) (sym log_is) grown in
          let mine : IsWithin i (history c) w = (subst (λ (m : List E). IsPrefix m (history c)) (sym (get_or-set_same v.seen i (history c) [] wide)) (prefix_refl (history c)), prefix_trans (met_of v i) x.log (history c) (x.each id v at).0.1 before) in
          let lane : Home tag lawful history (set s.views id w) i (bit_and n 18446744073709551613) (get_elem? homes i) t = record {
            queued = x.queued;
            flag = x.flag;
            word_is = ap (λ (k : ℕ). bit_and k 18446744073709551613) x.word_is ∙ and_running x.queued true x.flag;
            cell = c;
            there = set_here s.homes i (some (Some c)) (omega arith);
            is_lawful = ok;
            is_tagged = some-injective (tag c) t (sym tagged ∙ (ap (λ (l : List G). get_elem? l i) shape.0 ∙ e));
            each = λ k u h. ⊎_elim
                (λ (same : (k ≡ id) × (w ≡ u)). subst (λ (y : View G E L). IsWithin i (history c) y × ((other : List E) → ¬ (y.turn ≡ Has i other))) same.1 (mine, λ other. no_turn Free i other refl))
                (λ (other : (k ≢ id) × (get_elem? s.views k ≡ some u)). let was = x.each k u other.1 in (
                  (prefix_trans (seen_of u i) x.log (history c) was.0.0 before, prefix_trans (met_of u i) x.log (history c) was.0.1 before),
                  λ m theirs. other.0 (was.1 m theirs ∙ sym holder_is),
                ))
                (at_set s.views id k w u h);
          } in (
            w,
            gives,
            tt,
            turn_step s id v w i (bit_and n 18446744073709551613) homes rule at live in_it refl (λ sh. (sh.0, length-set v.seen i (history c) ∙ sh.1, sh.2, sh.3, sh.4, sh.5, sh.6, length-set v.requests i known ∙ sh.7)) (length-set s.homes i (some (Some c))) (λ j other. set_else s.homes i j (some (Some c)) other)
                (λ j other. leaves_place i j v w log other refl has (get_or-set_other v.seen i j (history c) [] other) refl)
                (λ j other. record { changes = refl; requests = get_or-set_other v.requests i j known 0 other; back = λ m e. absurd (no_turn w.turn j m refl e) })
                (accounts_release s.views id i n v w log at has (λ m. no_turn w.turn i m refl) (bits_here s i rule in_it) refl (get_or-set_same v.requests i known 0 requests_wide))
                (λ t' e'. subst (λ (y : G). Lane tag lawful history (set s.views id w) i (bit_and n 18446744073709551613) (get_elem? homes i) y) (some-injective t t' (sym e ∙ e')) (inl lane)),
            (
              refl,
              λ d same. let p : c ≡ d = ap (cell_or c) same in (ap (λ (y : C). (released i n (history y) (tally y) v, [])) p, get_or-set_same v.seen i (history c) [] wide ∙ ap history p),
              get_or-set_same v.requests i known 0 requests_wide,
              lane_flagged tag lawful history s.views i n (get_elem? s.homes i) t (inr x),
            ),
          )

  pub releases_as : (slots id : ℕ) (me : SeatState C G E L) (i : ℕ) (log : List E) (c : C) → i < slots → me.1 ≡ (i, Some c) ∷ [] → me.0.turn ≡ Has i log → is_live me.0.role ≡ true → lawful c → get_elem? me.0.tags i ≡ some (tag c) → IsPrefix log (history c)
      → Allows Rule slots id me i (λ n. bit_and n 18446744073709551613) (ReleaseTells history tally (step slots i 18446744073709551613 0 none) me)
  releases_as slots id me i log c lt carries has live ok tagged grown =
      subst (λ (l : List (ℕ × Option C)). Allows Rule slots id (me.0, l) i (λ n. bit_and n 18446744073709551613) (ReleaseTells history tally (step slots i 18446744073709551613 0 none) (me.0, l))) (sym carries)
      (releases slots id me.0 i log c lt has live ok tagged grown)

module _ {C G E L : Type 0} (tag : C → G) (lawful : C → Type 0) (history : C → List E) (tags : List G) where
  -- a step that changes nothing
  pub same_step : (s : State (Option C) (View G E L)) (id : ℕ) (v : View G E L) (i : ℕ) → Laned tag lawful history tags s → get_elem? s.views id ≡ some v → is_live v.role ≡ true → i < length tags
      → Laned tag lawful history tags (record { words = set s.words i (get_or s.words i 0); homes = s.homes; views = set s.views id v })
  same_step s id v i rule at live in_it =
      let p : s.words ≡ set s.words i (get_or s.words i 0) = sym (set-get_or s.words i 0) in
      let q : s.views ≡ set s.views id v = sym (set_again s.views id v at) in
      subst (λ (z : State (Option C) (View G E L)). Laned tag lawful history tags z) (λ k. record { words = p k; homes = s.homes; views = q k }) rule
