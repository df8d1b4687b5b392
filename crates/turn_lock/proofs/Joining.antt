-- Splitting a seat off and joining one keep the turn rule.
use Rattle.std.proofs.Common.{◌≡◌, ◌≢◌, ℕ, zero, suc, ◌+◌, ◌-◌, ◌<◌, ◌≤◌, true, true≢false, List, [], ◌∷◌, ◌++◌, length, set, get_or, sym, refl, ap, ◌∙◌, subst, inl, inr, ⊎_elim, arith, Option}
use mathlib.Core.Option.{some, none, some-injective, some-ne-none}
use mathlib.Core.List.{IsPrefix}
use native.Mathlib.Decide.{dec_le}
use lib.ListN.{get_elem?}
use Rattle.atomic_table.specs.Table.{State, Splits, Joins, Allows, step, keeps}
use Rattle.atomic_table.proofs.Lists.{at_set, at_snoc, at_longer, set_here, set_else}
use Rattle.turn_lock.specs.declared.view.View.{View}
use Rattle.turn_lock.specs.declared.view.Turn.TheVariants.{Free, Has}
use Rattle.turn_lock.specs.declared.view.Role.{Role}
use Rattle.turn_lock.specs.declared.view.Role.TheVariants.{First, Other, Spent}
use Rattle.turn_lock.specs.View.{out_count, is_live, one_more, one_less, seats_out, seen_of, met_of, IsShaped, zeros, new_view, with_one_more, joined, joining, tags_kept, spent_view, longer, shorter, HasSeenAll, IsFirst}
use Rattle.turn_lock.specs.Rule.{IsWithin, SlotState}
use Rattle.turn_lock.specs.Kinds.{SeatState, SettleTells}
use Rattle.turn_lock.proofs.Lane.{Home, Away, Lane, Laned}
use Rattle.turn_lock.proofs.Lanes.{in_range, seats_out-set, lane_alike}
use Rattle.turn_lock.proofs.Keeps.{has_at, same_step, no_turn}
use Rattle.turn_lock.proofs.Accounts.{length-unchanged, unchanged_at, length-each_together, accounts_even, accounts_more, accounts_joined}
use Rattle.turn_lock.proofs.Prefixes.{nothing_begins, begins_longer, longer_begins, shorter_begins, longer_at, shorter_at, length-each_longer, length-each_shorter, blank_at, length-blank, get_or_past, shorter_short, both_begin}

abbrev pub out_of : Role → ℕ
out_of (First n) = n
out_of Other = 0
out_of Spent = 0

pub length-zeros : {A : Type 0} → (l : List A) → length (zeros l) ≡ length l
length-zeros [] = refl
length-zeros (x ∷ l) = ap (λ (k : ℕ). suc k) (length-zeros l)

abbrev rank : Role → ℕ
rank (First m) = 1
rank Other = 0
rank Spent = 0

not_first : (m : ℕ) → ¬ (Other ≡ First m)
not_first m e = let p : zero ≡ suc zero = ap rank e in absurd (omega arith)

spent_not_first : (m : ℕ) → ¬ (Spent ≡ First m)
spent_not_first m e = let p : zero ≡ suc zero = ap rank e in absurd (omega arith)

module _ {G E L : Type 0} where
  seats_out-snoc : (views : List (View G E L)) (v : View G E L) → seats_out (views ++ v ∷ []) ≡ seats_out views + out_count v.role
  seats_out-snoc [] v = omega arith
  seats_out-snoc (x ∷ xs) v = let h = seats_out-snoc xs v in omega arith

  seats_out-spent : (views : List (View G E L)) (id : ℕ) (v w : View G E L) → get_elem? views id ≡ some v → out_count v.role ≡ 1 → out_count w.role ≡ 0 → seats_out (set views id w) + 1 ≡ seats_out views
  seats_out-spent [] id v w at one zero_now = absurd (some-ne-none v (sym at))
  seats_out-spent (x ∷ xs) zero v w at one zero_now = let same : out_count x.role ≡ out_count v.role = ap (λ (y : View G E L). out_count y.role) (some-injective x v at) in omega arith
  seats_out-spent (x ∷ xs) (suc id) v w at one zero_now = let h = seats_out-spent xs id v w at one zero_now in omega arith

  seats_out-some : (views : List (View G E L)) (id : ℕ) (v : View G E L) → get_elem? views id ≡ some v → out_count v.role ≡ 1 → 0 < seats_out views
  seats_out-some [] id v at one = absurd (some-ne-none v (sym at))
  seats_out-some (x ∷ xs) zero v at one = let same : out_count x.role ≡ out_count v.role = ap (λ (y : View G E L). out_count y.role) (some-injective x v at) in omega arith
  seats_out-some (x ∷ xs) (suc id) v at one = let h = seats_out-some xs id v at one in omega arith

all_kept : {G : Type 0} → (out : ℕ) (tags : List G) → 0 < out → tags ≡ tags_kept (First out) tags
all_kept zero tags lt = absurd (omega arith)
all_kept (suc out) tags lt = refl

out_told : {G : Type 0} → (out : ℕ) (tags : List G) → 0 < length (tags_kept (First out) tags) → 0 < out
out_told zero tags lt = lt
out_told (suc out) tags lt = omega arith

joined_is : {G E L : Type 0} → (v w : View G E L) (out : ℕ) → v.role ≡ First out → 0 < out → joined v w ≡ joining v w
joined_is {G} {E} {L} v w out first lt = ap (λ (tags : List G). record (joined v w) { tags = tags }) (all_kept out v.tags lt ∙ ap (λ (r : Role). tags_kept r v.tags) (sym first))

module _ {C G E L : Type 0} (tag : C → G) (lawful : C → Type 0) (history : C → List E) where
  -- a seat with no turn learns no more of the cell j than what all seats know of it
  lane_told : (views : List (View G E L)) (id : ℕ) (v y : View G E L) (j n : ℕ) (h : SlotState C) (t : G) → get_elem? views id ≡ some v → v.turn ≡ Free → y.turn ≡ Free
      → ((log : List E) → ((k : ℕ) (u : View G E L) → get_elem? views k ≡ some u → IsWithin j log u) → IsWithin j log y) → Lane tag lawful history views j n h t → Lane tag lawful history (set views id y) j n h t
  lane_told views id v y j n h t at free free' told (inl x) = inl (record {
    queued = x.queued;
    flag = x.flag;
    word_is = x.word_is;
    cell = x.cell;
    there = x.there;
    is_lawful = x.is_lawful;
    is_tagged = x.is_tagged;
    each = λ i u e. ⊎_elim
        (λ (same : (i ≡ id) × (y ≡ u)). subst (λ (z : View G E L). IsWithin j (history x.cell) z × ((log : List E) → ¬ (z.turn ≡ Has j log))) same.1 (told (history x.cell) (λ k z a. (x.each k z a).0), λ log has. no_turn y.turn j log free' has))
        (λ (other : (i ≢ id) × (get_elem? views i ≡ some u)). x.each i u other.1)
        (at_set views id i y u e);
  })
  lane_told views id v y j n h t at free free' told (inr x) =
      let apart : x.holder ≢ id = (λ (e : x.holder ≡ id). no_turn v.turn j x.log free (ap (λ (z : View G E L). z.turn) (some-injective v x.view (sym at ∙ (ap (get_elem? views) (sym e) ∙ x.at))) ∙ x.has)) in inr (record {
        queued = x.queued;
        flag = x.flag;
        word_is = x.word_is;
        gone = x.gone;
        holder = x.holder;
        view = x.view;
        log = x.log;
        at = set_else views id x.holder y apart ∙ x.at;
        has = x.has;
        each = λ i u e. ⊎_elim
            (λ (same : (i ≡ id) × (y ≡ u)). subst (λ (z : View G E L). IsWithin j x.log z × ((log : List E) → z.turn ≡ Has j log → i ≡ x.holder)) same.1 (told x.log (λ k z a. (x.each k z a).0), λ log has. absurd (no_turn y.turn j log free' has)))
            (λ (other : (i ≢ id) × (get_elem? views i ≡ some u)). x.each i u other.1)
            (at_set views id i y u e);
      })

  -- a new seat with no turn
  lane_more : (views : List (View G E L)) (y : View G E L) (j n : ℕ) (h : SlotState C) (t : G) → y.turn ≡ Free
      → ((log : List E) → ((k : ℕ) (u : View G E L) → get_elem? views k ≡ some u → IsWithin j log u) → IsWithin j log y) → Lane tag lawful history views j n h t → Lane tag lawful history (views ++ y ∷ []) j n h t
  lane_more views y j n h t free told (inl x) = inl (record {
    queued = x.queued;
    flag = x.flag;
    word_is = x.word_is;
    cell = x.cell;
    there = x.there;
    is_lawful = x.is_lawful;
    is_tagged = x.is_tagged;
    each = λ i u e. ⊎_elim
        (λ (was : get_elem? views i ≡ some u). x.each i u was)
        (λ (same : y ≡ u). subst (λ (z : View G E L). IsWithin j (history x.cell) z × ((log : List E) → ¬ (z.turn ≡ Has j log))) same (told (history x.cell) (λ k z a. (x.each k z a).0), λ log has. no_turn y.turn j log free has))
        (at_snoc views y u i e);
  })
  lane_more views y j n h t free told (inr x) = inr (record {
    queued = x.queued;
    flag = x.flag;
    word_is = x.word_is;
    gone = x.gone;
    holder = x.holder;
    view = x.view;
    log = x.log;
    at = at_longer views (y ∷ []) x.holder x.view x.at;
    has = x.has;
    each = λ i u e. ⊎_elim
        (λ (was : get_elem? views i ≡ some u). x.each i u was)
        (λ (same : y ≡ u). subst (λ (z : View G E L). IsWithin j x.log z × ((log : List E) → z.turn ≡ Has j log → i ≡ x.holder)) same (told x.log (λ k z a. (x.each k z a).0), λ log has. absurd (no_turn y.turn j log free has)))
        (at_snoc views y u i e);
  })

module _ {C G E : Type 0} (L : Type 0) (tag : C → G) (lawful : C → Type 0) (history : C → List E) (tags : List G) where
  abbrev Rule : State (Option C) (View G E L) → Type 0
  Rule = Laned tag lawful history tags

  pub splits : (id : ℕ) (v : View G E L) (n : ℕ) → v.role ≡ First n → Splits Rule id v (with_one_more v) (new_view v)
  splits id v n first s rule at =
      let left = with_one_more v in
      let right = new_view v in
      let views = set s.views id left in
      let live : is_live v.role ≡ true = ap is_live first in
      let shape = rule.shapes id v at live in
      let here : get_elem? views id ≡ some left = set_here s.views id left (in_range s.views id v at) in
      let one = rule.one_first in
      let seat : id ≡ one.seat = one.alone id v n at first in
      let view_is : v ≡ one.view = some-injective v one.view (sym at ∙ (ap (get_elem? s.views) seat ∙ one.at)) in
      let out : n ≡ one.out = ap out_of (sym first ∙ (ap (λ (y : View G E L). y.role) view_is ∙ one.is_first)) in
      let left_is : left.role ≡ First (n + 1) = ap one_more first in
      let counted : seats_out views ≡ seats_out s.views = seats_out-set s.views id v left at (ap out_count left_is ∙ sym (ap out_count first)) in
      let total : seats_out (views ++ right ∷ []) ≡ seats_out views + 1 = seats_out-snoc views right in
      let before : one.out ≡ seats_out s.views = one.counts in record {
        long = rule.long;
        deep = rule.deep;
        lanes = λ j t e. lane_more tag lawful history views right j (get_or s.words j 0) (get_elem? s.homes j) t refl
            (λ log all. ((all id left here).0, subst (λ (m : List E). IsPrefix m log) (sym (blank_at v.tags j)) (nothing_begins log)))
            (lane_alike tag lawful history s.views id v left j (get_or s.words j 0) (get_elem? s.homes j) t at (record { seen = refl; met = refl; back = λ log h. h; forth = λ log h. h }) (rule.lanes j t e));
        shapes = λ k u e lives. ⊎_elim
            (λ (was : get_elem? views k ≡ some u). ⊎_elim
            (λ (same : (k ≡ id) × (left ≡ u)). subst (λ (y : View G E L). IsShaped tags y) same.1 shape)
            (λ (other : (k ≢ id) × (get_elem? s.views k ≡ some u)). rule.shapes k u other.1 lives)
            (at_set s.views id k left u was))
            (λ (same : right ≡ u). subst (λ (y : View G E L). IsShaped tags y) same (shape.0, shape.1, length-blank E v.tags ∙ ap length shape.0, length-zeros v.tags ∙ ap length shape.0, length-zeros v.tags ∙ ap length shape.0, length-zeros v.tags ∙ ap length shape.0, length-unchanged v.tags ∙ ap length shape.0, shape.7))
            (at_snoc views right u k e);
        spent = λ k u e dead. ⊎_elim
            (λ (was : get_elem? views k ≡ some u). ⊎_elim
            (λ (same : (k ≡ id) × (left ≡ u)). absurd (true≢false (sym (ap is_live left_is) ∙ (ap (λ (y : View G E L). is_live y.role) same.1 ∙ dead))))
            (λ (other : (k ≢ id) × (get_elem? s.views k ≡ some u)). rule.spent k u other.1 dead)
            (at_set s.views id k left u was))
            (λ (same : right ≡ u). absurd (true≢false (ap (λ (y : View G E L). is_live y.role) same ∙ dead)))
            (at_snoc views right u k e);
        one_first = record {
          seat = id;
          view = left;
          out = n + 1;
          at = at_longer views (right ∷ []) id left here;
          is_first = left_is;
          counts = omega arith;
          alone = λ k u m e theirs. ⊎_elim
              (λ (was : get_elem? views k ≡ some u). ⊎_elim
              (λ (same : (k ≡ id) × (left ≡ u)). same.0)
              (λ (other : (k ≢ id) × (get_elem? s.views k ≡ some u)). one.alone k u m other.1 theirs ∙ sym seat)
              (at_set s.views id k left u was))
              (λ (same : right ≡ u). absurd (not_first m (ap (λ (y : View G E L). y.role) same ∙ theirs)))
              (at_snoc views right u k e);
        };
        accounts = λ j lt.
            let kept = accounts_even s.views id j (get_or s.words j 0) (get_or s.words j 0) v left at (record { changes = refl; requests = refl; back = λ log e. e }) refl refl (rule.accounts j lt) in
            accounts_more views right j (get_or s.words j 0) (unchanged_at v.tags j) (kept.known id left here) (λ log. no_turn Free j log refl) kept;
      }

  joins_plainly : (id : ℕ) (v : View G E L) (other : ℕ) (w : View G E L) (n : ℕ) → v.role ≡ First n → v.turn ≡ Free → w.role ≡ Other → w.turn ≡ Free → Joins Rule id v other w (joined v w) spent_view
  joins_plainly id v other w n first free second free' s rule at apart there =
      let both = joined v w in
      let views = set s.views id both in
      let after = set views other spent_view in
      let at_w : get_elem? s.views other ≡ some w = sym (set_else s.views id other both apart) ∙ there in
      let live : is_live v.role ≡ true = ap is_live first in
      let live' : is_live w.role ≡ true = ap is_live second in
      let shape = rule.shapes id v at live in
      let shape' = rule.shapes other w at_w live' in
      let wide : length v.seen ≡ length w.seen = shape.1 ∙ sym shape'.1 in
      let one = rule.one_first in
      let seat : id ≡ one.seat = one.alone id v n at first in
      let view_is : v ≡ one.view = some-injective v one.view (sym at ∙ (ap (get_elem? s.views) seat ∙ one.at)) in
      let out : n ≡ one.out = ap out_of (sym first ∙ (ap (λ (y : View G E L). y.role) view_is ∙ one.is_first)) in
      let both_is : both.role ≡ First (n - 1) = ap one_less first in
      let counted : seats_out views ≡ seats_out s.views = seats_out-set s.views id v both at (ap out_count both_is ∙ sym (ap out_count first)) in
      let total : seats_out after + 1 ≡ seats_out views = seats_out-spent views other w spent_view there (ap out_count second) refl in
      let before : one.out ≡ seats_out s.views = one.counts in record {
        long = rule.long;
        deep = rule.deep;
        lanes = λ j t e. lane_told tag lawful history views other w spent_view j (get_or s.words j 0) (get_elem? s.homes j) t there free' refl (λ log all. (nothing_begins log, nothing_begins log))
            (lane_told tag lawful history s.views id v both j (get_or s.words j 0) (get_elem? s.homes j) t at free free (λ log all. (
              subst (λ (m : List E). IsPrefix m log) (sym (longer_at v.seen w.seen j)) (longer_begins (seen_of v j) (seen_of w j) log (all id v at).0 (all other w at_w).0),
              subst (λ (m : List E). IsPrefix m log) (sym (shorter_at v.seen w.seen j)) (shorter_begins (seen_of v j) (seen_of w j) log (all id v at).0 (all other w at_w).0),
            )) (rule.lanes j t e));
        shapes = λ k u e lives. ⊎_elim
            (λ (same : (k ≡ other) × (spent_view ≡ u)). absurd (true≢false (sym lives ∙ ap (λ (y : View G E L). is_live y.role) (sym same.1))))
            (λ (kept : (k ≢ other) × (get_elem? views k ≡ some u)). ⊎_elim
            (λ (same : (k ≡ id) × (both ≡ u)). subst (λ (y : View G E L). IsShaped tags y) same.1 (shape.0, length-each_longer v.seen w.seen wide ∙ shape.1, length-each_shorter v.seen w.seen ∙ shape.1, shape.3, shape.4, shape.5, length-each_together v.changes w.changes (shape.6 ∙ sym shape'.6) ∙ shape.6, shape.7))
            (λ (old : (k ≢ id) × (get_elem? s.views k ≡ some u)). rule.shapes k u old.1 lives)
            (at_set s.views id k both u kept.1))
            (at_set views other k spent_view u e);
        spent = λ k u e dead. ⊎_elim
            (λ (same : (k ≡ other) × (spent_view ≡ u)). (ap (λ (y : View G E L). y.turn) (sym same.1), ap (λ (y : View G E L). y.changes) (sym same.1)))
            (λ (kept : (k ≢ other) × (get_elem? views k ≡ some u)). ⊎_elim
            (λ (same : (k ≡ id) × (both ≡ u)). absurd (true≢false (sym (ap is_live both_is) ∙ (ap (λ (y : View G E L). is_live y.role) same.1 ∙ dead))))
            (λ (old : (k ≢ id) × (get_elem? s.views k ≡ some u)). rule.spent k u old.1 dead)
            (at_set s.views id k both u kept.1))
            (at_set views other k spent_view u e);
        one_first = record {
          seat = id;
          view = both;
          out = n - 1;
          at = set_else views other id spent_view (λ (e : id ≡ other). apart (sym e)) ∙ set_here s.views id both (in_range s.views id v at);
          is_first = both_is;
          counts = omega arith;
          alone = λ k u m e theirs. ⊎_elim
              (λ (same : (k ≡ other) × (spent_view ≡ u)). absurd (spent_not_first m (ap (λ (y : View G E L). y.role) same.1 ∙ theirs)))
              (λ (kept : (k ≢ other) × (get_elem? views k ≡ some u)). ⊎_elim
              (λ (same : (k ≡ id) × (both ≡ u)). same.0)
              (λ (old : (k ≢ id) × (get_elem? s.views k ≡ some u)). one.alone k u m old.1 theirs ∙ sym seat)
              (at_set s.views id k both u kept.1))
              (at_set views other k spent_view u e);
        };
        accounts = λ j lt. accounts_joined s.views id other j (get_or s.words j 0) v w both spent_view at there refl refl (λ log. no_turn v.turn j log free) refl refl (λ log. no_turn Free j log refl) (rule.accounts j lt);
      }

  -- while another seat is there the first one knows of a seat out
  some_out : (s : State (Option C) (View G E L)) (id : ℕ) (v : View G E L) (other : ℕ) (w : View G E L) (n : ℕ) → Rule s → get_elem? s.views id ≡ some v → v.role ≡ First n → get_elem? s.views other ≡ some w → w.role ≡ Other → 0 < n
  some_out s id v other w n rule at first at_w second =
      let one = rule.one_first in
      let seat : id ≡ one.seat = one.alone id v n at first in
      let view_is : v ≡ one.view = some-injective v one.view (sym at ∙ (ap (get_elem? s.views) seat ∙ one.at)) in
      let out : n ≡ one.out = ap out_of (sym first ∙ (ap (λ (y : View G E L). y.role) view_is ∙ one.is_first)) in
      let counted : one.out ≡ seats_out s.views = one.counts in
      let some_there : 0 < seats_out s.views = seats_out-some s.views other w at_w (ap out_count second) in
      omega arith

  pub joins : (id : ℕ) (v : View G E L) (other : ℕ) (w : View G E L) (n : ℕ) → v.role ≡ First n → v.turn ≡ Free → w.role ≡ Other → w.turn ≡ Free → Joins Rule id v other w (joining v w) spent_view
  joins id v other w n first free second free' s rule at apart there =
      let at_w : get_elem? s.views other ≡ some w = sym (set_else s.views id other (joining v w) apart) ∙ there in
      let out : 0 < n = some_out s id v other w n rule at first at_w second in
      subst (λ (y : View G E L). Rule (record { words = s.words; homes = s.homes; views = set (set s.views id y) other spent_view })) (joined_is v w n first out)
      (joins_plainly id v other w n first free second free' s rule at apart (set_else s.views id other (joined v w) apart ∙ at_w))

  settle_all : (v : View G E L) (lists : ((i : ℕ) → length (met_of v i) ≤ length (seen_of v i))) (s : State (Option C) (View G E L)) (id : ℕ) → Rule s → get_elem? s.views id ≡ some v → IsShaped tags v → (i : ℕ) → Dec (i < length tags) → IsPrefix (met_of v i) (seen_of v i)
  settle_all v short s id rule at shape i (yes lt) = let t = has_at tags i lt in ⊎_elim
      (λ (x : Home tag lawful history s.views i (get_or s.words i 0) (get_elem? s.homes i) t.0). let w = (x.each id v at).0 in begins_longer (met_of v i) (seen_of v i) (history x.cell) w.1 w.0 (short i))
      (λ (x : Away tag lawful history s.views i (get_or s.words i 0) (get_elem? s.homes i) t.0). let w = (x.each id v at).0 in begins_longer (met_of v i) (seen_of v i) x.log w.1 w.0 (short i))
      (rule.lanes i t.0 t.1)
  settle_all v short s id rule at shape i (no n) = let wide = shape.2 in subst (λ (m : List E). IsPrefix m (seen_of v i)) (sym (get_or_past v.met i [] (omega arith))) (nothing_begins (seen_of v i))

  pub settles : (slots id : ℕ) (me : SeatState C G E L) → 0 < slots → is_live me.0.role ≡ true → Allows Rule slots id me 0 (λ n. n) (SettleTells (step slots 0 0 0 none) me)
  settles slots id me lt live s rule len at small = let deep = rule.deep in let shape = rule.shapes id me.0 at live in (
    me.0,
    keeps,
    tt,
    same_step tag lawful history tags s id me.0 0 rule at live (omega arith),
    (refl, subst (λ (l : List G). 0 < length l) (sym shape.0) (omega arith), λ short i. settle_all me.0 short s id rule at (rule.shapes id me.0 at live) i (dec_le (suc i) (length tags))),
  )

-- once the lists met begin the lists seen, both seats' lists do
joined_told : {G E L : Type 0} → (v w u : View G E L) → u ≡ joined v w → (((i : ℕ) → length (met_of u i) ≤ length (seen_of u i)) → (i : ℕ) → IsPrefix (met_of u i) (seen_of u i))
    → (i : ℕ) → IsPrefix (seen_of v i) (seen_of u i) × IsPrefix (seen_of w i) (seen_of u i)
joined_told {G} {E} {L} v w u is tells i =
    let seen : (j : ℕ) → seen_of u j ≡ longer (seen_of v j) (seen_of w j) = λ j. ap (λ (y : View G E L). seen_of y j) is ∙ longer_at v.seen w.seen j in
    let met : (j : ℕ) → met_of u j ≡ shorter (seen_of v j) (seen_of w j) = λ j. ap (λ (y : View G E L). met_of y j) is ∙ shorter_at v.seen w.seen j in
    let short : (j : ℕ) → length (met_of u j) ≤ length (seen_of u j) = λ j. subst (λ (m : List E). length m ≤ length (seen_of u j)) (sym (met j)) (subst (λ (m : List E). length (shorter (seen_of v j) (seen_of w j)) ≤ length m) (sym (seen j)) (shorter_short (seen_of v j) (seen_of w j))) in
    let told : IsPrefix (shorter (seen_of v i) (seen_of w i)) (longer (seen_of v i) (seen_of w i)) = subst (λ (m : List E). IsPrefix m (longer (seen_of v i) (seen_of w i))) (met i) (subst (λ (m : List E). IsPrefix (met_of u i) m) (seen i) (tells short i)) in
    let both = both_begin (seen_of v i) (seen_of w i) told in
    (subst (λ (m : List E). IsPrefix (seen_of v i) m) (sym (seen i)) both.0, subst (λ (m : List E). IsPrefix (seen_of w i) m) (sym (seen i)) both.1)

joined_after : {G E L : Type 0} → (v w u u' : View G E L) → u ≡ joined v w → u' ≡ u → (((i : ℕ) → length (met_of u i) ≤ length (seen_of u i)) → (i : ℕ) → IsPrefix (met_of u i) (seen_of u i))
    → (i : ℕ) → IsPrefix (seen_of v i) (seen_of u' i) × IsPrefix (seen_of w i) (seen_of u' i)
joined_after {G} {E} {L} v w u u' is same tells = subst (λ (y : View G E L). (i : ℕ) → IsPrefix (seen_of v i) (seen_of y i) × IsPrefix (seen_of w i) (seen_of y i)) (sym same) (joined_told v w u is tells)

-- what the two steps of a join tell the first seat: a seat was out, and the view is that of a join
joined_now : {G E L : Type 0} → (v w u u' : View G E L) (out : ℕ) → v.role ≡ First out → u ≡ joining v w → u' ≡ u → 0 < length u.tags → (0 < out) × (u' ≡ joined v w)
joined_now {G} {E} {L} v w u u' out first is same tagged =
    let tags_are : u.tags ≡ tags_kept (First out) v.tags = ap (λ (y : View G E L). y.tags) is ∙ ap (λ (r : Role). tags_kept r v.tags) first in
    let some_out : 0 < out = out_told out v.tags (subst (λ (l : List G). 0 < length l) tags_are tagged) in
    (some_out, same ∙ (is ∙ sym (joined_is v w out first some_out)))

one_fewer : {G E L : Type 0} → (v w u : View G E L) (out : ℕ) → v.role ≡ First out → 0 < out → u ≡ joined v w → (n : ℕ) × (v.role ≡ First (n + 1)) × (u.role ≡ First n)
one_fewer {G} {E} {L} v w u out first lt is =
    let more : out ≡ (out - 1) + 1 = omega arith in
    (out - 1, first ∙ ap (λ (k : ℕ). First k) more, ap (λ (y : View G E L). y.role) is ∙ ap one_less first)

-- what the two steps of a join tell of the first seat's view
pub join_tells : {C G E L : Type 0} → (v w : View G E L) (slots : List (ℕ × Option C)) (m m' : SeatState C G E L) (out : ℕ) → v.role ≡ First out → m ≡ (joining v w, slots) → SettleTells (step 0 0 0 0 none) m 0 m'
    → (m'.0 ≡ joined v w) × (HasSeenAll v m'.0 × HasSeenAll w m'.0) × ((n : ℕ) × IsFirst (n + 1) v × IsFirst n m'.0)
join_tells {C} {G} {E} {L} v w slots m m' out first is told =
    let view_is : m.0 ≡ joining v w = ap (λ (x : SeatState C G E L). x.0) is in
    let same : m'.0 ≡ m.0 = ap (λ (x : SeatState C G E L). x.0) told.0 in
    let now = joined_now v w m.0 m'.0 out first view_is same told.1 in
    let both = joined_after v w m.0 m'.0 (sym same ∙ now.1) same told.2 in
    (now.1, (λ i. (both i).0, λ i. (both i).1), one_fewer v w m'.0 out first now.0 now.1)

-- the first seat lives on between the two steps
pub joining_lives : {C G E L : Type 0} → (v w : View G E L) (slots : List (ℕ × Option C)) (m : SeatState C G E L) (out : ℕ) → v.role ≡ First out → m ≡ (joining v w, slots) → is_live m.0.role ≡ true
joining_lives {C} {G} {E} {L} v w slots m out first is = ap (λ (x : SeatState C G E L). is_live x.0.role) is ∙ ap (λ (r : Role). is_live (one_less r)) first
