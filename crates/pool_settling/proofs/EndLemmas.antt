-- The ends of links in lists: what they carried, and the ends of one link.
use Rattle.std.proofs.Common.{◌≡◌, ◌∙◌, ◌⊎◌, inl, inr, ℕ, zero, suc, ◌+◌, ◌<◌, ◌≤◌, List, [], ◌∷◌, length, map, get_or, set, Bool, true, false, Some, slice_get, refl, ap, sym, subst, arith}
use Rattle.std.specs.Prelude.{if◌then◌else◌, ◌==◌, ◌&&◌, All, slice_index_or, Result, Ok, Err, OnOk}
use Rattle.join_base.specs.declared.items.NoMemory.{NoMemory}
use Rattle.std.specs.List.{AllByRecursion}
use Rattle.std.proofs.lemmas.Bool.{cases_lt}
use Rattle.std.proofs.lemmas.List.{get_or-map, length-map, length-set}
use Rattle.join_base.specs.declared.message.Source.{Source}
use Rattle.join_base.specs.declared.message.Source.TheVariants.{Actor}
use Rattle.script_types.specs.declared.plan.Rule.{Rule}
use Rattle.fair_semantics.specs.Step.{Setting}
use Rattle.fair_semantics.specs.Linked.{same_source}
use Rattle.run_order_law.proofs.EventLemmas.{same_number, same_source_is}
use Rattle.run_order_law.proofs.SourceLemmas.{is_itself, itself}
use Rattle.post_ring.specs.declared.link_in.LinkIn.{LinkIn}
use Rattle.post_ring.specs.declared.link_out.LinkOut.{LinkOut}
use Rattle.post_ring.specs.Links.{received, sent, identity_in, identity_out}
use Rattle.actor_turn.specs.Held.{Held}
use Rattle.cell_links.specs.Wiring.{AreApart, AreLinked, Joins, Key}
use Rattle.actor_cells.specs.Lawful.{IsAmong}
use Rattle.actor_cells.proofs.LinkLemmas.{has_count}
use Rattle.join_base.specs.Late.{HasCount}
use Rattle.pool_settling.specs.declared.ends.Sender.{Sender}
use Rattle.pool_settling.specs.declared.ends.Receiver.{Receiver}
use Rattle.pool_settling.specs.Standing.{Arrives, HistoryGoesOn, StandsBy, actor_count, came_with, feed_count}
use Rattle.pool_settling.specs.Ends.{AreStanding, Entry, GivenAsCame, GoOn, HasAll, IsDrainedAt, IsKnownTo, IsServed, Serves, entries, entry_of, keys_of, received_in, receiver_key, receiver_keys, sent_in}
use Rattle.pool_settling.specs.Work.{HaveSmallBodies, weight_of}
use Rattle.pool_settling.proofs.StandLemmas.{on_refl, on_trans, stands_same}
use Rattle.pool_settling.proofs.WorkLemmas.{sum_set}

-- ---- lists

pub set_get : {X : Type 0} (xs : List X) (k : ℕ) (x : X) → k < length xs → slice_get (set xs k x) k ≡ Some x
set_get [] k x l = absurd (omega arith)
set_get (y ∷ xs) zero x l = refl
set_get (y ∷ xs) (suc k) x l = set_get xs k x (omega arith)

pub set_get_other : {X : Type 0} (xs : List X) (k j : ℕ) (x : X) → ¬ (j ≡ k) → slice_get (set xs k x) j ≡ slice_get xs j
set_get_other [] k j x o = refl
set_get_other (y ∷ xs) zero zero x o = absurd (o refl)
set_get_other (y ∷ xs) zero (suc j) x o = refl
set_get_other (y ∷ xs) (suc k) zero x o = refl
set_get_other (y ∷ xs) (suc k) (suc j) x o = set_get_other xs k j x (λ e. o (ap suc e))

pub set_or : {X : Type 0} (xs : List X) (k : ℕ) (x d : X) → k < length xs → get_or (set xs k x) k d ≡ x
set_or [] k x d l = absurd (omega arith)
set_or (y ∷ xs) zero x d l = refl
set_or (y ∷ xs) (suc k) x d l = set_or xs k x d (omega arith)

pub set_or_other : {X : Type 0} (xs : List X) (k j : ℕ) (x d : X) → ¬ (j ≡ k) → get_or (set xs k x) j d ≡ get_or xs j d
set_or_other [] k j x d o = refl
set_or_other (y ∷ xs) zero zero x d o = absurd (o refl)
set_or_other (y ∷ xs) zero (suc j) x d o = refl
set_or_other (y ∷ xs) (suc k) zero x d o = refl
set_or_other (y ∷ xs) (suc k) (suc j) x d o = set_or_other xs k j x d (λ e. o (ap suc e))

pub get_here : {X : Type 0} (xs : List X) (k : ℕ) (x : X) → k < length xs → get_or xs k x ≡ x → slice_get xs k ≡ Some x
get_here [] k x l e = absurd (omega arith)
get_here {X} (y ∷ xs) zero x l e = ap (λ (z : X). Some z) e
get_here (y ∷ xs) (suc k) x l e = get_here xs k x (omega arith) e

pub within_map : {X Y : Type 0} (f : X → Y) (xs : List X) (k : ℕ) → k < length xs → k < length (map f xs)
within_map f xs k l = subst (λ (n : ℕ). k < n) (sym (length-map xs f)) l

pub some_is : {X : Type 0} (x y : X) → Some x ≡ Some y → x ≡ y
some_is x y h = cc

pub same_or_not : (j k : ℕ) → (j ≡ k) ⊎ (¬ (j ≡ k))
same_or_not j k = by (j == k) refl
  where
    by : (b : Bool) → (j == k) ≡ b → (j ≡ k) ⊎ (¬ (j ≡ k))
    by true e = inl (same_number j k e)
    by false e = inr (λ same. let clash : true ≡ false = sym (is_itself k) ∙ ap (λ (n : ℕ). n == k) (sym same) ∙ e in cc)

-- ---- a key and its test

abbrev pub tests : Key → Source → ℕ → Bool
tests key source target = same_source key.0 source && (key.1 == target)

pub test_is : (key : Key) (source : Source) (target : ℕ) → tests key source target ≡ true → Serves key source target
test_is key source target e = by (same_source key.0 source) (key.1 == target) refl refl e
  where
    by : (b c : Bool) → same_source key.0 source ≡ b → (key.1 == target) ≡ c → (b && c) ≡ true → Serves key source target
    by true true s t h = (same_source_is key.0 source s, same_number key.1 target t)
    by true false s t h = absurd cc
    by false c s t h = absurd cc

pub test_itself : (key : Key) (source : Source) (target : ℕ) → Serves key source target → tests key source target ≡ true
test_itself key source target s =
    (λ i. same_source key.0 (sym s.0 i) && (key.1 == sym s.1 i)) ∙ (λ i. itself key.0 i && is_itself key.1 i)

test_none : (key : Key) (source : Source) (target : ℕ) → ¬ (Serves key source target) → tests key source target ≡ false
test_none key source target n = by (tests key source target) refl
  where
    by : (b : Bool) → tests key source target ≡ b → b ≡ false
    by true e = absurd (n (test_is key source target e))
    by false e = refl

-- ---- what a sender sent

pub sent_at : (es : List Entry) (p : ℕ) (d : Entry) (source : Source) (target : ℕ) → AreApart (keys_of es) → p < length es → Serves (get_or es p d).0 source target → sent_in es source target ≡ (get_or es p d).1
sent_at [] p d source target apart l s = absurd (omega arith)
sent_at (e ∷ es) zero d source target apart l s = ap (λ (b : Bool). if b then e.1 else sent_in es source target) (test_itself e.0 source target s)
sent_at (e ∷ es) (suc p) d source target apart l s =
    let within : p < length (keys_of es) = within_map (λ (x : Entry). x.0) es p (omega (arith, l)) in
    let at : get_or (keys_of es) p d.0 ≡ (get_or es p d).0 = get_or-map (λ (x : Entry). x.0) es p d d.0 (omega (arith, l)) in
    let other : ¬ (Joins (get_or es p d).0 e.0) = subst (λ (k : Key). ¬ (Joins k e.0)) at (apart.0 p d.0 within) in
    ap (λ (b : Bool). if b then e.1 else sent_in es source target) (test_none e.0 source target (λ h. other (s.0 ∙ sym h.0, s.1 ∙ sym h.1))) ∙ sent_at es p d source target apart.1 (omega (arith, l)) s

-- ---- one receiver, after its link was drained

pub keys_set : (rs : List Receiver) (k : ℕ) (r : Receiver) (l : LinkOut) → get_or rs k r ≡ r → identity_out l ≡ identity_out r.link → receiver_keys (set rs k (record r { link = l })) ≡ receiver_keys rs
keys_set [] k r l here same = refl
keys_set (x ∷ rs) zero r l here same = λ i. ((sym here i).source, (sym here i).target, (same ∙ ap (λ (y : Receiver). identity_out y.link) (sym here)) i) ∷ receiver_keys rs
keys_set (x ∷ rs) (suc k) r l here same = ap (λ (ks : List Key). receiver_key x ∷ ks) (keys_set rs k r l here same)

pub received_set : (rs : List Receiver) (k : ℕ) (r : Receiver) (l : LinkOut) (source : Source) (target : ℕ) → k < length rs → get_or rs k r ≡ r → AreApart (receiver_keys rs)
    → received_in (set rs k (record r { link = l })) source target ≡ (if tests (receiver_key r) source target then received l else received_in rs source target)
received_set [] k r l source target within here apart = absurd (omega arith)
received_set (x ∷ rs) zero r l source target within here apart = by (tests (receiver_key r) source target) (tests (receiver_key x) source target) (ap (λ (y : Receiver). tests (receiver_key y) source target) here)
  where
    by : (b c : Bool) → c ≡ b → (if b then received l else received_in rs source target) ≡ (if b then received l else (if c then received x.link else received_in rs source target))
    by true c e = refl
    by false false e = refl
    by false true e = absurd cc
received_set (x ∷ rs) (suc k) r l source target within here apart = by (tests (receiver_key x) source target) refl (received_set rs k r l source target (omega (arith, within)) here apart.1)
  where
    key_at : get_or (receiver_keys rs) k (receiver_key r) ≡ receiver_key r
    key_at = get_or-map receiver_key rs k r (receiver_key r) (omega (arith, within)) ∙ ap receiver_key here

    other : tests (receiver_key x) source target ≡ true → tests (receiver_key r) source target ≡ false
    other e =
        let sx = test_is (receiver_key x) source target e in
        let apart_here : ¬ (Joins (receiver_key r) (receiver_key x)) = subst (λ (key : Key). ¬ (Joins key (receiver_key x))) key_at (apart.0 k (receiver_key r) (within_map receiver_key rs k (omega (arith, within)))) in
        test_none (receiver_key r) source target (λ h. apart_here (h.0 ∙ sym sx.0, h.1 ∙ sym sx.1))

    by : (b : Bool) → tests (receiver_key x) source target ≡ b → received_in (set rs k (record r { link = l })) source target ≡ (if tests (receiver_key r) source target then received l else received_in rs source target)
        → (if b then received x.link else received_in (set rs k (record r { link = l })) source target) ≡ (if tests (receiver_key r) source target then received l else (if b then received x.link else received_in rs source target))
    by false e rest = rest
    by true e rest = sym (ap (λ (b : Bool). if b then received l else received x.link) (other e))

pub received_at : (rs : List Receiver) (k : ℕ) (r : Receiver) → k < length rs → get_or rs k r ≡ r → AreApart (receiver_keys rs) → received_in rs r.source r.target ≡ received r.link
received_at [] k r within here apart = absurd (omega arith)
received_at (x ∷ rs) zero r within here apart =
    ap (λ (y : Receiver). if tests (receiver_key y) r.source r.target then received y.link else received_in rs r.source r.target) here ∙ ap (λ (b : Bool). if b then received r.link else received_in rs r.source r.target) (test_itself (receiver_key r) r.source r.target (refl, refl))
received_at (x ∷ rs) (suc k) r within here apart =
    let key_at : get_or (receiver_keys rs) k (receiver_key r) ≡ receiver_key r = get_or-map receiver_key rs k r (receiver_key r) (omega (arith, within)) ∙ ap receiver_key here in
    let other : ¬ (Joins (receiver_key r) (receiver_key x)) = subst (λ (key : Key). ¬ (Joins key (receiver_key x))) key_at (apart.0 k (receiver_key r) (within_map receiver_key rs k (omega (arith, within)))) in
    ap (λ (b : Bool). if b then received x.link else received_in rs r.source r.target) (test_none (receiver_key x) r.source r.target (λ h. other (sym h.0, sym h.1))) ∙ received_at rs k r (omega (arith, within)) here apart.1

-- ---- the ends of one link

pub ends_meet : (senders : List Sender) (rs : List Receiver) (p k : ℕ) (s : Sender) (r : Receiver) → AreLinked (keys_of (entries senders)) (receiver_keys rs) → p < length senders → get_or senders p s ≡ s → k < length rs → get_or rs k r ≡ r
    → ((d : Key) → Serves (get_or (keys_of (entries senders)) p d) r.source r.target) → identity_in s.link ≡ identity_out r.link
ends_meet senders rs p k s r linked lp hp lk hk serves =
    let ks : Key = (entry_of s).0 in
    let entry_within : p < length (entries senders) = within_map entry_of senders p lp in
    let keys_within : p < length (keys_of (entries senders)) = within_map (λ (e : Entry). e.0) (entries senders) p entry_within in
    let at : get_or (keys_of (entries senders)) p ks ≡ ks = get_or-map (λ (e : Entry). e.0) (entries senders) p (entry_of s) ks entry_within ∙ ap (λ (e : Entry). e.0) (get_or-map entry_of senders p s (entry_of s) lp ∙ ap entry_of hp) in
    let key_at : get_or (receiver_keys rs) k (receiver_key r) ≡ receiver_key r = get_or-map receiver_key rs k r (receiver_key r) lk ∙ ap receiver_key hk in
    let agree = linked.agree k (receiver_key r) (within_map receiver_key rs k lk) p ks keys_within in
    let both : Joins ks (receiver_key r) → ks.2 ≡ (receiver_key r).2 = subst (λ (x : Key × Key). Joins x.0 x.1 → x.0.2 ≡ x.1.2) (λ i. (at i, key_at i)) agree in
    both (subst (λ (key : Key). Serves key r.source r.target) at (serves ks))

pub served_at : (es : List Entry) (rs : List Receiver) (k : ℕ) (r : Receiver) → AreLinked (keys_of es) (receiver_keys rs) → k < length rs → get_or rs k r ≡ r → IsServed es r.source r.target
served_at es rs k r linked l here =
    let key_at : get_or (receiver_keys rs) k (receiver_key r) ≡ receiver_key r = get_or-map receiver_key rs k r (receiver_key r) l ∙ ap receiver_key here in
    let s = linked.served k (receiver_key r) (within_map receiver_key rs k l) in
    (s.0, s.1, λ d. subst (λ (key : Key). Joins (get_or (keys_of es) s.0 d) key) key_at (s.2 d))

-- ---- senders stay

pub entries_set : (senders : List Sender) (k : ℕ) (s : Sender) (l : LinkIn) → k < length senders → get_or senders k s ≡ s → identity_in l ≡ identity_in s.link → sent l ≡ sent s.link → entries (set senders k (record s { link = l })) ≡ entries senders
entries_set [] k s l within here same all = absurd (omega arith)
entries_set (x ∷ senders) zero s l within here same all =
    let first : entry_of (record s { link = l }) ≡ entry_of x = (λ i. ((s.source, s.target, same i), all i)) ∙ ap entry_of (sym here) in
    ap (λ (e : Entry). e ∷ entries senders) first
entries_set (x ∷ senders) (suc k) s l within here same all = ap (λ (es : List Entry). entry_of x ∷ es) (entries_set senders k s l (omega (arith, within)) here same all)

-- the sender that was found sent all
pub sent_by_sender : (senders : List Sender) (p : ℕ) (s : Sender) (source : Source) (target : ℕ) → AreApart (keys_of (entries senders)) → p < length senders → get_or senders p s ≡ s
    → ((d : Key) → Serves (get_or (keys_of (entries senders)) p d) source target) → sent_in (entries senders) source target ≡ sent s.link
sent_by_sender senders p s source target apart l here serves =
    let within : p < length (entries senders) = within_map entry_of senders p l in
    let at : get_or (entries senders) p (entry_of s) ≡ entry_of s = get_or-map entry_of senders p s (entry_of s) l ∙ ap entry_of here in
    let key : get_or (keys_of (entries senders)) p (entry_of s).0 ≡ (get_or (entries senders) p (entry_of s)).0 = get_or-map (λ (e : Entry). e.0) (entries senders) p (entry_of s) (entry_of s).0 within in
    sent_at (entries senders) p (entry_of s) source target apart within (subst (λ (k : Key). Serves k source target) key (serves (entry_of s).0)) ∙ ap (λ (e : Entry). e.1) at

-- ---- a receiver was drained

module _ (es : List Entry) (rs : List Receiver) (helds : List Held) (standing : AreStanding es rs helds) (linked : AreLinked (keys_of es) (receiver_keys rs)) (place : ℕ) (r : Receiver) (l : LinkOut) (before after : Held)
    (within : place < length rs) (here : get_or rs place r ≡ r) (at : slice_get helds r.target ≡ Some before) (same : identity_out l ≡ identity_out r.link) (all : received l ≡ sent_in es r.source r.target)
    (arrives : Arrives r.source (received r.link) (received l) before after) where
  abbrev nows : List Receiver
  nows = set rs place (record r { link = l })

  abbrev now_helds : List Held
  now_helds = set helds r.target after

  apart : AreApart (receiver_keys rs)
  apart = linked.apart

  pub drained_at : IsDrainedAt es place rs nows
  drained_at = record {
    keys = keys_set rs place r l here same;
    here = λ d. subst (HasAll es) (sym (set_or rs place (record r { link = l }) d within)) all;
    others = λ k d other. set_or_other rs place k (record r { link = l }) d other;
  }

  target_within : r.target < length helds
  target_within = by helds r.target at
    where
      by : (hs : List Held) (k : ℕ) → slice_get hs k ≡ Some before → k < length hs
      by [] k e = absurd cc
      by (h ∷ hs) zero e = omega arith
      by (h ∷ hs) (suc k) e = let x = by hs k e in omega (arith, x)

  known_here : IsAmong (feed_count before) (actor_count before) r.source
  known_here = (subst (IsKnownTo helds) here (standing.all_known place r within)).1 before at

  each : (actor : ℕ) (held : Held) → slice_get now_helds actor ≡ Some held → StandsBy (λ source. received_in nows source actor) (λ target. sent_in es (Actor actor) target) held
  each actor held is = by (same_or_not actor r.target)
    where
      by : (actor ≡ r.target) ⊎ (¬ (actor ≡ r.target)) → StandsBy (λ source. received_in nows source actor) (λ target. sent_in es (Actor actor) target) held
      by (inr other) =
          let was : slice_get helds actor ≡ Some held = sym (set_get_other helds r.target actor after other) ∙ is in
          stands_same (λ source. received_in rs source actor) (λ source. received_in nows source actor) (λ target. sent_in es (Actor actor) target) held
          (λ source. received_set rs place r l source actor within here apart ∙ ap (λ (b : Bool). if b then received l else received_in rs source actor) (test_none (receiver_key r) source actor (λ s. other (sym s.1)))) (standing.each actor held was)
      by (inl e) =
          let is_after : after ≡ held = some_is after held (sym (set_get helds r.target after target_within) ∙ ap (slice_get now_helds) (sym e) ∙ is) in
          let was = standing.each r.target before at in
          let now = arrives.stands (λ source. received_in rs source r.target) (λ target. sent_in es (Actor r.target) target) (received_at rs place r within here apart) known_here was in
          let same_came = stands_same (came_with (λ source. received_in rs source r.target) r.source (received l)) (λ source. received_in nows source r.target) (λ target. sent_in es (Actor r.target) target) after
          (λ source. received_set rs place r l source r.target within here apart ∙ ap (λ (b : Bool). if same_source r.source source && b then received l else received_in rs source r.target) (is_itself r.target) ∙ with_true (same_source r.source source) source) now in
          subst (λ (x : ℕ × Held). StandsBy (λ source. received_in nows source x.0) (λ target. sent_in es (Actor x.0) target) x.1) (λ i. (sym e i, is_after i)) same_came
        where
          with_true : (b : Bool) (source : Source) → (if b && true then received l else received_in rs source r.target) ≡ (if b then received l else received_in rs source r.target)
          with_true true source = refl
          with_true false source = refl

  go_on : GoOn helds now_helds
  go_on = record { count = length-set helds r.target after; each = on }
    where
      on : (actor : ℕ) (x y : Held) → slice_get helds actor ≡ Some x → slice_get now_helds actor ≡ Some y → HistoryGoesOn x y
      on actor x y ex ey = by (same_or_not actor r.target)
        where
          by : (actor ≡ r.target) ⊎ (¬ (actor ≡ r.target)) → HistoryGoesOn x y
          by (inr other) = subst (HistoryGoesOn x) (some_is x y (sym ex ∙ sym (set_get_other helds r.target actor after other) ∙ ey)) (on_refl x)
          by (inl e) =
              let ix : before ≡ x = some_is before x (sym at ∙ ap (slice_get helds) (sym e) ∙ ex) in
              let iy : after ≡ y = some_is after y (sym (set_get helds r.target after target_within) ∙ ap (slice_get now_helds) (sym e) ∙ ey) in
              subst (λ (p : Held × Held). HistoryGoesOn p.0 p.1) (λ i. (ix i, iy i)) arrives.on

  pub on_drained : GoOn helds now_helds
  on_drained = go_on

  -- the weight rose at most by what came
  pub given_drained : GivenAsCame helds now_helds rs nows
  given_drained small =
      let weights = sum_set weight_of helds r.target before after at in
      let place_at : slice_get rs place ≡ Some r = get_here rs place r within here in
      let counts = sum_set (λ (x : Receiver). length (received x.link)) rs place r (record r { link = l }) place_at in
      let one = arrives.weight (small r.target before at) in
      omega (arith, weights, counts, one)

  -- what was known stays known
  known_one : (x y : Receiver) → x.source ≡ y.source → x.target ≡ y.target → IsKnownTo helds x → IsKnownTo now_helds y
  known_one x y s t k = (subst (λ (n : ℕ). n < length now_helds) t (subst (λ (n : ℕ). x.target < n) (sym go_on.count) (k.0)), λ held e. known held (ap (slice_get now_helds) t ∙ e))
    where
      known : (held : Held) → slice_get now_helds x.target ≡ Some held → IsAmong (feed_count held) (actor_count held) y.source
      known held e =
          let w = there helds x.target k.0 in
          let on = go_on.each x.target w.0 held w.1 e in
          subst (λ (p : (ℕ × ℕ) × Source). IsAmong p.0.0 p.0.1 p.1) (λ i. ((sym on.feeds i, sym on.actors i), s i)) (k.1 w.0 w.1)
        where
          there : (hs : List Held) (n : ℕ) → n < length hs → (h : Held) × (slice_get hs n ≡ Some h)
          there [] n m = absurd (omega arith)
          there (h ∷ hs) zero m = (h, refl)
          there (h ∷ hs) (suc n) m = there hs n (omega arith)

  pub stand_drained : AreStanding es nows now_helds
  stand_drained = record { each = each; all_known = λ k d m. by k d m (same_or_not k place) }
    where
      by : (k : ℕ) (d : Receiver) → k < length nows → (k ≡ place) ⊎ (¬ (k ≡ place)) → IsKnownTo now_helds (slice_index_or nows k d)
      by k d m (inr other) = subst (IsKnownTo now_helds) (sym (set_or_other rs place k (record r { link = l }) d other)) (known_one (get_or rs k d) (get_or rs k d) refl refl (standing.all_known k d (subst (λ (n : ℕ). k < n) (length-set rs place (record r { link = l })) m)))
      by k d m (inl e) =
          let known = known_one r (record r { link = l }) refl refl (subst (IsKnownTo helds) here (standing.all_known place r within)) in
          subst (IsKnownTo now_helds) (sym (ap (λ (n : ℕ). get_or nows n d) e ∙ set_or rs place (record r { link = l }) d within)) known

-- ---- lists of actors

pub go_refl : (helds : List Held) → GoOn helds helds
go_refl helds = record { count = refl; each = λ actor x y ex ey. subst (HistoryGoesOn x) (some_is x y (sym ex ∙ ey)) (on_refl x) }

pub go_trans : (a b c : List Held) → GoOn a b → GoOn b c → GoOn a c
go_trans a b c p q = record { count = q.count ∙ p.count; each = λ actor x z ex ez. let m = there b actor (let l = within a actor x ex in let n = p.count in omega (arith, l, n)) in on_trans x m.0 z (p.each actor x m.0 ex m.1) (q.each actor m.0 z m.1 ez) }
  where
    there : (hs : List Held) (n : ℕ) → n < length hs → (h : Held) × (slice_get hs n ≡ Some h)
    there [] n m = absurd (omega arith)
    there (h ∷ hs) zero m = (h, refl)
    there (h ∷ hs) (suc n) m = there hs n (omega arith)

    within : (hs : List Held) (n : ℕ) (h : Held) → slice_get hs n ≡ Some h → n < length hs
    within [] n h e = absurd cc
    within (y ∷ hs) zero h e = omega arith
    within (y ∷ hs) (suc n) h e = let x = within hs n h e in omega (arith, x)

-- no body makes more posts
pub small_on : (olds nows : List Held) → GoOn olds nows → HaveSmallBodies olds → HaveSmallBodies nows
small_on olds nows on small actor held is =
    let was = there olds actor (let l = within nows actor held is in let n = on.count in omega (arith, l, n)) in
    subst (λ (s : Setting). AllByRecursion (λ (rule : Rule). length rule.body ≤ 16) s.rules) (sym (on.each actor was.0 held was.1 is).told) (small actor was.0 was.1)
  where
    there : (hs : List Held) (n : ℕ) → n < length hs → (h : Held) × (slice_get hs n ≡ Some h)
    there [] n m = absurd (omega arith)
    there (h ∷ hs) zero m = (h, refl)
    there (h ∷ hs) (suc n) m = there hs n (omega arith)

    within : (hs : List Held) (n : ℕ) (h : Held) → slice_get hs n ≡ Some h → n < length hs
    within [] n h e = absurd cc
    within (y ∷ hs) zero h e = omega arith
    within (y ∷ hs) (suc n) h e = let x = within hs n h e in omega (arith, x)

pub given_refl : (helds : List Held) (rs : List Receiver) → GivenAsCame helds helds rs rs
given_refl helds rs small = omega arith

pub given_trans : (a b c : List Held) (xs ys zs : List Receiver) → GoOn a b → GivenAsCame a b xs ys → GivenAsCame b c ys zs → GivenAsCame a c xs zs
given_trans a b c xs ys zs on first second small =
    let one = first small in
    let two = second (small_on a b on small) in
    omega (arith, one, two)

-- a sender of the source and the target serves, and another does not
pub serves_at : (senders : List Sender) (i : ℕ) (s : Sender) (source : Source) (target : ℕ) → i < length senders → get_or senders i s ≡ s → (s.source ≡ source) × (s.target ≡ target) → (d : Key) → Serves (slice_index_or (keys_of (entries senders)) i d) source target
serves_at senders i s source target within here own d =
    let entry : get_or (entries senders) i (entry_of s) ≡ entry_of s = get_or-map entry_of senders i s (entry_of s) within ∙ ap entry_of here in
    let key : get_or (keys_of (entries senders)) i d ≡ (entry_of s).0 = get_or-map (λ (e : Entry). e.0) (entries senders) i (entry_of s) d (within_map entry_of senders i within) ∙ ap (λ (e : Entry). e.0) entry in
    subst (λ (k : Key). Serves k source target) (sym key) own

pub not_served : (senders : List Sender) (i : ℕ) (s : Sender) (source : Source) (target : ℕ) → i < length senders → get_or senders i s ≡ s → ¬ ((s.source ≡ source) × (s.target ≡ target)) → ¬ ((d : Key) → Serves (slice_index_or (keys_of (entries senders)) i d) source target)
not_served senders i s source target within here other serves =
    let entry : get_or (entries senders) i (entry_of s) ≡ entry_of s = get_or-map entry_of senders i s (entry_of s) within ∙ ap entry_of here in
    let key : get_or (keys_of (entries senders)) i (entry_of s).0 ≡ (entry_of s).0 = get_or-map (λ (e : Entry). e.0) (entries senders) i (entry_of s) (entry_of s).0 (within_map entry_of senders i within) ∙ ap (λ (e : Entry). e.0) entry in
    other (subst (λ (k : Key). Serves k source target) key (serves (entry_of s).0))

-- ---- one receiver more

pub keys_count : (now first : List Receiver) (k : ℕ) → receiver_keys now ≡ receiver_keys first → k < length first → k < length now
keys_count now first k same l =
    subst (λ (n : ℕ). k < n) (length-map now receiver_key) (subst (λ (ks : List Key). k < length ks) (sym same) (within_map receiver_key first k l))

pub drained_more : (es : List Entry) (place : ℕ) (olds nows : List Receiver) → IsDrainedAt es place olds nows → ((k : ℕ) (d : Receiver) → k < place → HasAll es (slice_index_or olds k d))
    → (k : ℕ) (d : Receiver) → k < place + 1 → HasAll es (slice_index_or nows k d)
drained_more es place olds nows step before k d l = by (same_or_not k place)
  where
    by : (k ≡ place) ⊎ (¬ (k ≡ place)) → HasAll es (slice_index_or nows k d)
    by (inl e) = subst (λ (n : ℕ). HasAll es (slice_index_or nows n d)) (sym e) (step.here d)
    by (inr other) = subst (HasAll es) (sym (step.others k d other)) (before k d (below (cases_lt k place)))
      where
        below : (k < place) ⊎ (place ≤ k) → k < place
        below (inl m) = m
        below (inr m) = absurd (other (omega (arith, l, m)))

pub drained_whole : (es : List Entry) (now first : List Receiver) (place : ℕ) → receiver_keys now ≡ receiver_keys first → ((k : ℕ) (d : Receiver) → k < place → HasAll es (slice_index_or now k d)) → length first ≤ place → All (HasAll es) now
drained_whole es now first place same all past k d l = let n = keys_count first now k (sym same) l in all k d (omega (arith, n, past))

-- ---- the actor of a receiver

module _ {es : List Entry} (rs : List Receiver) (helds : List Held) (standing : AreStanding es rs helds) (place : ℕ) (r : Receiver) (within : place < length rs) (here : get_or rs place r ≡ r) where
  pub target_there : r.target < length helds
  target_there = (subst (IsKnownTo helds) here (standing.all_known place r within)).0

  pub has_count_of : (held : Held) → get_or helds r.target held ≡ held → HasCount held.state.late r.source
  has_count_of held at = has_count held.state.late r.source ((subst (IsKnownTo helds) here (standing.all_known place r within)).1 held (get_here helds r.target held target_there at))

-- ---- the answers of a drain

module _ (senders : List Sender) (rs : List Receiver) (helds : List Held) (standing : AreStanding (entries senders) rs helds) (linked : AreLinked (keys_of (entries senders)) (receiver_keys rs)) (place : ℕ) (r : Receiver) (l : LinkOut)
    (from : ℕ) (s : Sender) (before after : Held) (within : place < length rs) (here : get_or rs place r ≡ r) (from_within : from < length senders) (sender_here : get_or senders from s ≡ s)
    (serves : (d : Key) → Serves (get_or (keys_of (entries senders)) from d) r.source r.target) (at : get_or helds r.target before ≡ before) where
  abbrev Came : Type 0
  Came = (identity_out l ≡ identity_out r.link) × (received l ≡ sent s.link)

  held_at : slice_get helds r.target ≡ Some before
  held_at = get_here helds r.target before (target_there rs helds standing place r within here) at

  all : received l ≡ sent s.link → received l ≡ sent_in (entries senders) r.source r.target
  all e = e ∙ sym (sent_by_sender senders from s r.source r.target linked.single from_within sender_here serves)

  pub then_drained : (result : Result (Unit {0}) NoMemory) → OnOk result Came → OnOk result (Arrives r.source (received r.link) (received l) before after) → OnOk result (IsDrainedAt (entries senders) place rs (set rs place (record r { link = l })))
  then_drained (Ok u) came arrives = drained_at (entries senders) rs helds standing linked place r l before after within here held_at came.0 (all came.1) arrives
  then_drained (Err e) came arrives = tt

  pub then_stand : (result : Result (Unit {0}) NoMemory) → OnOk result Came → OnOk result (Arrives r.source (received r.link) (received l) before after)
      → OnOk result (AreStanding (entries senders) (set rs place (record r { link = l })) (set helds r.target after))
  then_stand (Ok u) came arrives = stand_drained (entries senders) rs helds standing linked place r l before after within here held_at came.0 (all came.1) arrives
  then_stand (Err e) came arrives = tt

  pub then_on : (result : Result (Unit {0}) NoMemory) → OnOk result Came → OnOk result (Arrives r.source (received r.link) (received l) before after) → OnOk result (GoOn helds (set helds r.target after))
  then_on (Ok u) came arrives = on_drained (entries senders) rs helds standing linked place r l before after within here held_at came.0 (all came.1) arrives
  then_on (Err e) came arrives = tt

  pub then_given : (result : Result (Unit {0}) NoMemory) → OnOk result Came → OnOk result (Arrives r.source (received r.link) (received l) before after)
      → OnOk result (GivenAsCame helds (set helds r.target after) rs (set rs place (record r { link = l })))
  then_given (Ok u) came arrives = given_drained (entries senders) rs helds standing linked place r l before after within here held_at came.0 (all came.1) arrives
  then_given (Err e) came arrives = tt
