-- The turn rule and its form for the proofs are one, so what keeps the one keeps the other.
use Rattle.std.proofs.Common.{◌≡◌, ℕ, zero, suc, ◌<◌, Bool, true, false, List, [], ◌∷◌, map, length, get_or, sym, refl, ap, ◌∙◌, subst, inl, inr, ⊎_elim, arith, Option, Some}
use Rattle.std.specs.Prelude.{All, bit_and, bit_or}
use mathlib.Core.Option.{some, none, some-injective, some-ne-none}
use mathlib.Core.List.{IsPrefix}
use lib.ListN.{get_elem?}
use Rattle.atomic_table.specs.Table.{State, step, rest, Allows, Splits, Joins, opening, Final, Seen}
use Rattle.turn_lock.specs.declared.view.View.{View}
use Rattle.turn_lock.specs.declared.view.Turn.{Turn}
use Rattle.turn_lock.specs.declared.view.Turn.TheVariants.{Free, Has}
use Rattle.turn_lock.specs.declared.view.Role.TheVariants.{First, Other}
use Rattle.turn_lock.specs.View.{is_live, first_view, new_view, with_one_more, joining, spent_view, carried_of}
use Rattle.turn_lock.specs.Rule.{IsWithin, SomeoneHas, TurnRule, HasBit, LacksBit}
use Rattle.turn_lock.specs.Kinds.{SeatState, FlagTells, MarkTells, UnmarkTells, ClearTells, ClaimTells, ReleaseTells, SettleTells}
use Rattle.turn_lock.specs.Steps.{MayRelease, AccountsAlone}
use Rattle.turn_lock.proofs.Lane.{word_of, Home, Away, Lane, Laned}
use Rattle.turn_lock.proofs.Lanes.{in_range, runs, idles, apart}
use Rattle.turn_lock.proofs.Keeps.{has_at, log_of}
use Rattle.turn_lock.proofs.Keeps as kept
use Rattle.turn_lock.proofs.Joining as kept_too
use Rattle.turn_lock.proofs.Opening as made

bits_of : (n : ℕ) → n < 8 → (q r f : Bool) × (n ≡ word_of q r f)
bits_of zero h = (false, false, false, refl)
bits_of (suc zero) h = (false, false, true, refl)
bits_of (suc (suc zero)) h = (false, true, false, refl)
bits_of (suc (suc (suc zero))) h = (false, true, true, refl)
bits_of (suc (suc (suc (suc zero)))) h = (true, false, false, refl)
bits_of (suc (suc (suc (suc (suc zero))))) h = (true, false, true, refl)
bits_of (suc (suc (suc (suc (suc (suc zero)))))) h = (true, true, false, refl)
bits_of (suc (suc (suc (suc (suc (suc (suc zero))))))) h = (true, true, true, refl)
bits_of (suc (suc (suc (suc (suc (suc (suc (suc n)))))))) h = absurd (omega arith)

small : (q r f : Bool) → word_of q r f < 8
small true true true = omega arith
small true true false = omega arith
small true false true = omega arith
small true false false = omega arith
small false true true = omega arith
small false true false = omega arith
small false false true = omega arith
small false false false = omega arith

module _ {C G E L : Type 0} (tag : C → G) (lawful : C → Type 0) (history : C → List E) (tags : List G) where
  lane_of : (s : State (Option C) (View G E L)) → TurnRule tag lawful history tags s → (i : ℕ) (t : G) → get_elem? tags i ≡ some t → i < length tags → (q r f : Bool) → get_or s.words i 0 ≡ word_of q r f → Lane tag lawful history s.views i (get_or s.words i 0) (get_elem? s.homes i) t
  lane_of s rule i t e lt q false f is =
      let lacks : LacksBit 2 (get_or s.words i 0) = subst (LacksBit 2) (sym is) (idles q f) in
      let h = rule.home i lt lacks in inl (record {
        queued = q;
        flag = f;
        word_is = is;
        cell = h.0;
        there = h.1;
        is_lawful = h.2;
        is_tagged = some-injective (tag h.0) t (sym h.3 ∙ e);
        each = λ id v at. (rule.seen_home i h.0 lt h.1 id v at, λ log has. apart _ ((rule.running i lt).1 (id, v, log, at, has)) lacks);
      })
  lane_of s rule i t e lt q true f is =
      let has : HasBit 2 (get_or s.words i 0) = subst (HasBit 2) (sym is) (runs q f) in
      let one = (rule.running i lt).0 has in inr (record {
        queued = q;
        flag = f;
        word_is = is;
        gone = rule.away i lt has;
        holder = one.0;
        view = one.1;
        log = one.2;
        at = one.3;
        has = one.4;
        each = λ id v at. (rule.seen_away i lt one id v at, λ log theirs. rule.no_two i lt (id, v, log, at, theirs) one);
      })

  pub lanes_of : (s : State (Option C) (View G E L)) → TurnRule tag lawful history tags s → Laned tag lawful history tags s
  lanes_of s rule = record {
    long = rule.long;
    deep = rule.deep;
    lanes = λ i t e. let lt = in_range tags i t e in let b = bits_of (get_or s.words i 0) (rule.bits i lt) in lane_of s rule i t e lt b.0 b.1 b.2 b.3;
    shapes = rule.shapes;
    spent = rule.spent;
    one_first = rule.one_first;
    accounts = rule.accounts;
  }

  pub rule_of : (s : State (Option C) (View G E L)) → Laned tag lawful history tags s → TurnRule tag lawful history tags s
  rule_of s lanes = record {
    long = lanes.long;
    deep = lanes.deep;
    bits = λ i lt. ⊎_elim (λ (x : At_home i (at lt).0). subst (λ (n : ℕ). n < 8) (sym x.word_is) (small x.queued false x.flag)) (λ (x : Gone_off i (at lt).0). subst (λ (n : ℕ). n < 8) (sym x.word_is) (small x.queued true x.flag)) (lane lt);
    running = λ i lt. (
      λ has. ⊎_elim (λ (x : At_home i (at lt).0). absurd (apart _ has (subst (LacksBit 2) (sym x.word_is) (idles x.queued x.flag)))) (λ (x : Gone_off i (at lt).0). (x.holder, x.view, x.log, x.at, x.has)) (lane lt),
      λ one. ⊎_elim (λ (x : At_home i (at lt).0). absurd ((x.each one.0 one.1 one.3).1 one.2 one.4)) (λ (x : Gone_off i (at lt).0). subst (HasBit 2) (sym x.word_is) (runs x.queued x.flag)) (lane lt),
    );
    no_two = λ i lt a b. ⊎_elim (λ (x : At_home i (at lt).0). absurd ((x.each a.0 a.1 a.3).1 a.2 a.4)) (λ (x : Gone_off i (at lt).0). (x.each a.0 a.1 a.3).1 a.2 a.4 ∙ sym ((x.each b.0 b.1 b.3).1 b.2 b.4)) (lane lt);
    away = λ i lt has. ⊎_elim (λ (x : At_home i (at lt).0). absurd (apart _ has (subst (LacksBit 2) (sym x.word_is) (idles x.queued x.flag)))) (λ (x : Gone_off i (at lt).0). x.gone) (lane lt);
    home = λ i lt lacks. ⊎_elim (λ (x : At_home i (at lt).0). (x.cell, x.there, x.is_lawful, (at lt).1 ∙ ap some (sym x.is_tagged))) (λ (x : Gone_off i (at lt).0). absurd (apart _ (subst (HasBit 2) (sym x.word_is) (runs x.queued x.flag)) lacks)) (lane lt);
    shapes = lanes.shapes;
    spent = lanes.spent;
    seen_home = λ i c lt there id v here. ⊎_elim (λ (x : At_home i (at lt).0). subst (λ (y : C). IsWithin i (history y) v) (cell_is c x.cell (some-injective _ _ (some-injective _ _ (sym x.there ∙ there)))) (x.each id v here).0) (λ (x : Gone_off i (at lt).0). absurd (some-ne-none _ (some-injective _ _ (sym there ∙ x.gone)))) (lane lt);
    seen_away = λ i lt one id v here. ⊎_elim (λ (x : At_home i (at lt).0). absurd ((x.each one.0 one.1 one.3).1 one.2 one.4))
        (λ (x : Gone_off i (at lt).0). subst (λ (l : List E). IsWithin i l v) (log_is i one x.holder x.view x.log x.at x.has ((x.each one.0 one.1 one.3).1 one.2 one.4)) (x.each id v here).0) (lane lt);
    one_first = lanes.one_first;
    accounts = lanes.accounts;
  }
    where
      At_home : ℕ → G → Type 0
      At_home i t = Home tag lawful history s.views i (get_or s.words i 0) (get_elem? s.homes i) t

      Gone_off : ℕ → G → Type 0
      Gone_off i t = Away tag lawful history s.views i (get_or s.words i 0) (get_elem? s.homes i) t

      at : {i : ℕ} → i < length tags → (t : G) × (get_elem? tags i ≡ some t)
      at lt = has_at tags _ lt

      lane : {i : ℕ} (lt : i < length tags) → Lane tag lawful history s.views i (get_or s.words i 0) (get_elem? s.homes i) (at lt).0
      lane lt = lanes.lanes _ (at lt).0 (at lt).1

      cell_is : (c d : C) → Some d ≡ Some c → d ≡ c
      cell_is c d e = sym (made.back_same d c e)

      log_is : (i : ℕ) (one : SomeoneHas i s.views) (holder : ℕ) (u : View G E L) (log : List E) → get_elem? s.views holder ≡ some u → u.turn ≡ Has i log → one.0 ≡ holder → log ≡ one.2
      log_is i one holder u log there has same =
          let view_is : one.1 ≡ u = some-injective one.1 u (sym one.3 ∙ (ap (get_elem? s.views) same ∙ there)) in ap log_of (sym has ∙ (ap (λ (y : View G E L). y.turn) (sym view_is) ∙ one.4))

module _ {C G E L : Type 0} (tag : C → G) (lawful : C → Type 0) (history : C → List E) (tally : C → L) (tags : List G) where
  abbrev Rule : State (Option C) (View G E L) → Type 0
  Rule = TurnRule tag lawful history tags

  allows_as : (slots id : ℕ) (me : SeatState C G E L) (i : ℕ) (f : ℕ → ℕ) (then : ℕ → SeatState C G E L → Type 0) → Allows (Laned tag lawful history tags) slots id me i f then → Allows Rule slots id me i f then
  allows_as slots id me i f then a s rule len at fits = let r = a s (lanes_of tag lawful history tags s rule) len at fits in (r.0, r.1, r.2, rule_of tag lawful history tags _ r.3, r.4)

  pub flags : (slots id : ℕ) (me : SeatState C G E L) (i : ℕ) → i < slots → is_live me.0.role ≡ true → Allows Rule slots id me i (λ n. bit_or n 1) (FlagTells (step slots i 1 0 none) me)
  flags slots id me i lt live = allows_as slots id me i (λ n. bit_or n 1) (FlagTells (step slots i 1 0 none) me) (kept.flags tag lawful history tally tags slots id me i lt live)

  pub marks : (slots id : ℕ) (me : SeatState C G E L) (i : ℕ) → i < slots → is_live me.0.role ≡ true → Allows Rule slots id me i (λ n. bit_or n 4) (MarkTells (step slots i 4 0 none) me)
  marks slots id me i lt live = allows_as slots id me i (λ n. bit_or n 4) (MarkTells (step slots i 4 0 none) me) (kept.marks tag lawful history tally tags slots id me i lt live)

  pub unmarks : (slots id : ℕ) (me : SeatState C G E L) (i : ℕ) → i < slots → is_live me.0.role ≡ true → Allows Rule slots id me i (λ n. bit_and n 18446744073709551611) (UnmarkTells (step slots i 18446744073709551611 0 none) me)
  unmarks slots id me i lt live = allows_as slots id me i (λ n. bit_and n 18446744073709551611) (UnmarkTells (step slots i 18446744073709551611 0 none) me) (kept.unmarks tag lawful history tally tags slots id me i lt live)

  pub clears : (slots id : ℕ) (me : SeatState C G E L) (i : ℕ) (log : List E) → i < slots → me.0.turn ≡ Has i log → is_live me.0.role ≡ true → Allows Rule slots id me i (λ n. bit_and n 18446744073709551614) (ClearTells (step slots i 18446744073709551614 0 none) me)
  clears slots id me i log lt has live = allows_as slots id me i (λ n. bit_and n 18446744073709551614) (ClearTells (step slots i 18446744073709551614 0 none) me) (kept.clears tag lawful history tally tags slots id me i log lt has live)

  pub claims : (slots id : ℕ) (me : SeatState C G E L) (i : ℕ) → i < slots → me.0.turn ≡ Free → is_live me.0.role ≡ true → Allows Rule slots id me i (λ n. bit_or n 2) (ClaimTells tag lawful history tally (step slots i 2 0 none) me)
  claims slots id me i lt free live = allows_as slots id me i (λ n. bit_or n 2) (ClaimTells tag lawful history tally (step slots i 2 0 none) me) (kept.claims tag lawful history tally tags slots id me i lt free live)

  releases_as : (slots id : ℕ) (me : SeatState C G E L) (i : ℕ) → (log : List E) (c : C) → i < slots → me.1 ≡ (i, Some c) ∷ [] → me.0.turn ≡ Has i log → is_live me.0.role ≡ true → lawful c → get_elem? me.0.tags i ≡ some (tag c) → IsPrefix log (history c) → Allows Rule slots id me i (λ n. bit_and n 18446744073709551613) (ReleaseTells history tally (step slots i 18446744073709551613 0 none) me)
  releases_as slots id me i log c lt carries has live ok tagged grown = allows_as slots id me i (λ n. bit_and n 18446744073709551613) (ReleaseTells history tally (step slots i 18446744073709551613 0 none) me) (kept.releases_as tag lawful history tally tags slots id me i log c lt carries has live ok tagged grown)

  -- the same once the cell is in the slot of the turn
  pub releases_in : (slots id : ℕ) (before me : SeatState C G E L) (i : ℕ) (c : C) → i < slots → before.1 ≡ carried_of before.0.turn → is_live before.0.role ≡ true → MayRelease tag lawful history i before.0 c → me ≡ (before.0, (i, Some c) ∷ rest before.1)
      → Allows Rule slots id me i (λ n. bit_and n 18446744073709551613) (ReleaseTells history tally (step slots i 18446744073709551613 0 none) me)
  releases_in slots id before me i c lt carries live may is =
      let v = before.0 in
      let log = may.2.0 in
      let slots_are : me.1 ≡ (i, Some c) ∷ [] = ap (λ (m : SeatState C G E L). m.1) is ∙ ap (λ (l : List (ℕ × Option C)). (i, Some c) ∷ rest l) (carries ∙ ap (λ (t : Turn E). carried_of t) may.2.1) in
      let view_is : me.0 ≡ v = ap (λ (m : SeatState C G E L). m.0) is in
      releases_as slots id me i log c lt slots_are (ap (λ (y : View G E L). y.turn) view_is ∙ may.2.1) (ap (λ (y : View G E L). is_live y.role) view_is ∙ live) may.0 (ap (λ (y : View G E L). get_elem? y.tags i) view_is ∙ may.1) may.2.2

module _ {C G E : Type 0} (L : Type 0) (tag : C → G) (lawful : C → Type 0) (history : C → List E) where
  module _ (tags : List G) where
    abbrev Rules : State (Option C) (View G E L) → Type 0
    Rules = TurnRule tag lawful history tags

    pub settles : (slots id : ℕ) (me : SeatState C G E L) → 0 < slots → is_live me.0.role ≡ true → Allows Rules slots id me 0 (λ n. n) (SettleTells (step slots 0 0 0 none) me)
    settles slots id me lt live s rule len at fits = let r = kept_too.settles L tag lawful history tags slots id me lt live s (lanes_of tag lawful history tags s rule) len at fits in (r.0, r.1, r.2, rule_of tag lawful history tags _ r.3, r.4)

    pub splits : (id : ℕ) (v : View G E L) (n : ℕ) → v.role ≡ First n → Splits Rules id v (with_one_more v) (new_view v)
    splits id v n first s rule at = rule_of tag lawful history tags _ (kept_too.splits L tag lawful history tags id v n first s (lanes_of tag lawful history tags s rule) at)

    pub joins : (id : ℕ) (v : View G E L) (other : ℕ) (w : View G E L) (n : ℕ) → v.role ≡ First n → v.turn ≡ Free → w.role ≡ Other → w.turn ≡ Free → Joins Rules id v other w (joining v w) spent_view
    joins id v other w n first free second free' s rule at far there = rule_of tag lawful history tags _ (kept_too.joins L tag lawful history tags id v other w n first free second free' s (lanes_of tag lawful history tags s rule) at far there)

  pub opens : (cells : List C) (words : List ℕ) (slots : List (Option C)) → All lawful cells → slots ≡ map Some cells → length words ≡ length cells → ((i : ℕ) → get_or words i 0 ≡ 0)
      → TurnRule tag lawful history (map tag cells) (opening words slots (first_view {E = E} {L = L} (map tag cells)))
  opens cells words slots all are wide clear = rule_of tag lawful history (map tag cells) _ (made.opens L tag lawful history cells words slots all are wide clear)

  pub closes : (tags : List G) (id : ℕ) (v : View G E L) (words : List ℕ) (slots : List (Option C)) → v.role ≡ First 0 → v.turn ≡ Free → Final (Seen (TurnRule tag lawful history tags) id v) words slots
      → (length slots ≡ length tags) × ((i : ℕ) → i < length tags → (c : C) × (get_elem? slots i ≡ some (Some c)) × lawful c × (get_elem? v.tags i ≡ some (tag c)) × IsWithin i (history c) v)
  closes tags id v words slots first free end = made.closes L tag lawful history tags id v words slots first free (end.0, (lanes_of tag lawful history tags end.0 end.1.0, end.1.1), end.2, end.3, end.4)

  pub accounts_alone : (tags : List G) (id : ℕ) (v : View G E L) (words : List ℕ) (slots : List (Option C)) → v.role ≡ First 0 → Final (Seen (TurnRule tag lawful history tags) id v) words slots → (i : ℕ) → i < length tags → AccountsAlone v i
  accounts_alone tags id v words slots first end = made.accounts_alone L tag lawful history tags id v words slots first (end.0, (lanes_of tag lawful history tags end.0 end.1.0, end.1.1), end.2, end.3, end.4)
