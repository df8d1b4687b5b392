-- What goes over the link to a target: nothing over new links, and one message more.
use Rattle.std.proofs.Common.{◌≡◌, ◌⊎◌, inl, inr, ℕ, zero, suc, ◌+◌, ◌<◌, List, [], ◌∷◌, ◌++◌, length, get_or, set, Bool, true, false, All, refl, sym, ap, ◌∙◌, subst, arith}
use Rattle.std.specs.Prelude.{◌==◌, if◌then◌else◌, Result, Ok, Err, OnOk, IfErr}
use Rattle.std.proofs.lemmas.Bool.Decides.{nat_tests}
use Rattle.std.proofs.lemmas.List.Elements.{All-head, All-tail}
use Rattle.join_base.specs.declared.message.Stamped.{Stamped}
use Rattle.join_base.specs.declared.message.Message.{Message}
use Rattle.post_ring.specs.declared.link_in.Full.{Full}
use Rattle.post_ring.specs.Links.{room, sent}
use Rattle.post_ring.specs.declared.link_in.LinkIn.{LinkIn}
use Rattle.cell_links.specs.declared.ends.Outward.{Outward}
use Rattle.cell_links.specs.Making.{IsNewOut}
use Rattle.cell_links.specs.Ends.{SendsMore, SendsSame, room_to, sent_to}
use Rattle.cell_links.specs.InOrder.{AreInOrder}

pub is-itself : (k : ℕ) → (k == k) ≡ true
is-itself k = grind (arith, nat_tests)

pub not-equal : (j k : ℕ) → ¬ (j ≡ k) → (j == k) ≡ false
not-equal j k other = grind (arith, nat_tests)

-- over new links nothing was sent
pub none-sent : (ring : ℕ) (outward : List Outward) (target : ℕ) → All (IsNewOut ring) outward → sent_to outward target ≡ []
none-sent ring [] target new = refl
none-sent ring (w ∷ outward) target new = by_test (w.target == target) (All-head (IsNewOut ring) w outward new).0 (none-sent ring outward target (All-tail (IsNewOut ring) w outward new))
  where
    by_test : (t : Bool) {l m : List Stamped} → l ≡ [] → m ≡ [] → (if t then l else m) ≡ []
    by_test true none rest = none
    by_test false none rest = rest

-- the links from a number on
abbrev InOrderFrom : ℕ → List Outward → Type 0
InOrderFrom from outward = (k : ℕ) (d : Outward) → k < length outward → (get_or outward k d).target ≡ from + k

tail : (from : ℕ) (w : Outward) (ws : List Outward) → InOrderFrom from (w ∷ ws) → InOrderFrom (from + 1) ws
tail from w ws ordered k d within = let e = ordered (suc k) d (omega (arith, within)) in omega (arith, e)

head : (from : ℕ) (w : Outward) (ws : List Outward) → InOrderFrom from (w ∷ ws) → w.target ≡ from
head from w ws ordered = let e = ordered zero w (omega arith) in omega (arith, e)

-- what the link at a place knows
sent_at : (from : ℕ) (ws : List Outward) (k : ℕ) (d : Outward) → InOrderFrom from ws → k < length ws → sent_to ws (from + k) ≡ sent (get_or ws k d).link
sent_at from [] k d ordered within = absurd (omega arith)
sent_at from (w ∷ ws) zero d ordered within =
    let e : (w.target == from + 0) ≡ true = ap (λ (n : ℕ). n == from + 0) (head from w ws ordered ∙ (let z : from ≡ from + 0 = omega arith in z)) ∙ is-itself (from + 0) in
    ap (λ (b : Bool). if b then sent w.link else sent_to ws (from + 0)) e
sent_at from (w ∷ ws) (suc k) d ordered within =
    let h = head from w ws ordered in
    let e : (w.target == from + suc k) ≡ false = not-equal w.target (from + suc k) (λ same. omega (arith, same, h)) in
    let n : from + suc k ≡ from + 1 + k = omega arith in
    ap (λ (b : Bool). if b then sent w.link else sent_to ws (from + suc k)) e ∙ ap (sent_to ws) n ∙ sent_at (from + 1) ws k d (tail from w ws ordered) (omega (arith, within))

room_at : (from : ℕ) (ws : List Outward) (k : ℕ) (d : Outward) → InOrderFrom from ws → k < length ws → room_to ws (from + k) ≡ room (get_or ws k d).link
room_at from [] k d ordered within = absurd (omega arith)
room_at from (w ∷ ws) zero d ordered within =
    let e : (w.target == from + 0) ≡ true = ap (λ (n : ℕ). n == from + 0) (head from w ws ordered ∙ (let z : from ≡ from + 0 = omega arith in z)) ∙ is-itself (from + 0) in
    ap (λ (b : Bool). if b then room w.link else room_to ws (from + 0)) e
room_at from (w ∷ ws) (suc k) d ordered within =
    let h = head from w ws ordered in
    let e : (w.target == from + suc k) ≡ false = not-equal w.target (from + suc k) (λ same. omega (arith, same, h)) in
    let n : from + suc k ≡ from + 1 + k = omega arith in
    ap (λ (b : Bool). if b then room w.link else room_to ws (from + suc k)) e ∙ ap (room_to ws) n ∙ room_at (from + 1) ws k d (tail from w ws ordered) (omega (arith, within))

-- the link at a place changed: the others send to their targets as before
pub sent_other : (ws : List Outward) (k : ℕ) (w : Outward) (l : LinkIn) (other : ℕ) → get_or ws k w ≡ w → k < length ws → ¬ (w.target ≡ other) → sent_to (set ws k (record w { link = l })) other ≡ sent_to ws other
sent_other [] k w l other here within apart = refl
sent_other (v ∷ ws) zero w l other here within apart =
    let e = not-equal w.target other apart in
    let f : (v.target == other) ≡ false = ap (λ (o : Outward). o.target == other) here ∙ e in
    ap (λ (b : Bool). if b then sent l else sent_to ws other) e ∙ sym (ap (λ (b : Bool). if b then sent v.link else sent_to ws other) f)
sent_other (v ∷ ws) (suc k) w l other here within apart = ap (λ (ps : List Stamped). if v.target == other then sent v.link else ps) (sent_other ws k w l other here (omega arith) apart)

-- the links are in order as before
still_ordered : (ws : List Outward) (k : ℕ) (w : Outward) (l : LinkIn) (from : ℕ) → get_or ws k w ≡ w → InOrderFrom from ws → InOrderFrom from (set ws k (record w { link = l }))
still_ordered [] k w l from here ordered j d within = absurd (omega arith)
still_ordered (v ∷ ws) zero w l from here ordered zero d within = sym (ap (λ (o : Outward). o.target) here) ∙ ordered zero w (omega arith)
still_ordered (v ∷ ws) zero w l from here ordered (suc j) d within = ordered (suc j) d within
still_ordered (v ∷ ws) (suc k) w l from here ordered zero d within = ordered zero d (omega arith)
still_ordered (v ∷ ws) (suc k) w l from here ordered (suc j) d within =
    let e = still_ordered ws k w l (from + 1) here (tail from v ws ordered) j d (omega arith) in omega (arith, e)

set_there : (ws : List Outward) (k : ℕ) (w d : Outward) → k < length ws → get_or (set ws k w) k d ≡ w
set_there [] k w d within = absurd (omega arith)
set_there (v ∷ ws) zero w d within = refl
set_there (v ∷ ws) (suc k) w d within = set_there ws k w d (omega arith)

set_count : (ws : List Outward) (k : ℕ) (w : Outward) → length (set ws k w) ≡ length ws
set_count [] k w = refl
set_count (v ∷ ws) zero w = refl
set_count (v ∷ ws) (suc k) w = ap suc (set_count ws k w)

module _ (ws : List Outward) (k : ℕ) (w : Outward) (l : LinkIn) (ordered : AreInOrder ws) (here : get_or ws k w ≡ w) (within : k < length ws) where
  from_0 : InOrderFrom 0 ws
  from_0 j d lt = ordered j d lt ∙ (let e : j ≡ 0 + j = omega arith in e)

  itself : k ≡ 0 + k
  itself = omega arith

  target_is : w.target ≡ k
  target_is = sym (ap (λ (o : Outward). o.target) here) ∙ ordered k w within

  pub ordered-set : AreInOrder (set ws k (record w { link = l }))
  ordered-set j d lt = still_ordered ws k w l 0 here from_0 j d lt ∙ (let e : 0 + j ≡ j = omega arith in e)

  sent_was : sent_to ws k ≡ sent w.link
  sent_was = ap (sent_to ws) itself ∙ sent_at 0 ws k w from_0 within ∙ ap (λ (o : Outward). sent o.link) here

  sent_now : sent_to (set ws k (record w { link = l })) k ≡ sent l
  sent_now =
      ap (sent_to (set ws k (record w { link = l }))) itself ∙ sent_at 0 (set ws k (record w { link = l })) k w (still_ordered ws k w l 0 here from_0) (subst (λ (n : ℕ). k < n) (sym (set_count ws k (record w { link = l }))) within)
      ∙ ap (λ (o : Outward). sent o.link) (set_there ws k (record w { link = l }) w within)

  pub sends-more : (post : Stamped) → sent l ≡ sent w.link ++ post ∷ [] → SendsMore ws k post (set ws k (record w { link = l }))
  sends-more post more other = by (k == other) refl
    where
      by : (b : Bool) → (k == other) ≡ b → sent_to (set ws k (record w { link = l })) other ≡ (if b then sent_to ws other ++ post ∷ [] else sent_to ws other)
      by true e =
          let same : k ≡ other = grind (arith, nat_tests, e) in
          subst (λ (o : ℕ). sent_to (set ws k (record w { link = l })) o ≡ sent_to ws o ++ post ∷ []) same (sent_now ∙ more ∙ ap (λ (ps : List Stamped). ps ++ post ∷ []) (sym sent_was))
      by false e = let apart : ¬ (k ≡ other) = grind (arith, nat_tests, e) in sent_other ws k w l other here within (λ same. apart (sym target_is ∙ same))

  pub sends-same : sent l ≡ sent w.link → SendsSame ws (set ws k (record w { link = l }))
  sends-same same other = by (k == other) refl
    where
      by : (b : Bool) → (k == other) ≡ b → sent_to (set ws k (record w { link = l })) other ≡ sent_to ws other
      by true e = let is : k ≡ other = grind (arith, nat_tests, e) in subst (λ (o : ℕ). sent_to (set ws k (record w { link = l })) o ≡ sent_to ws o) is (sent_now ∙ same ∙ sym sent_was)
      by false e = let apart : ¬ (k ≡ other) = grind (arith, nat_tests, e) in sent_other ws k w l other here within (λ is. apart (sym target_is ∙ is))

  pub room-was : room_to ws k ≡ room w.link
  room-was = ap (room_to ws) itself ∙ room_at 0 ws k w from_0 within ∙ ap (λ (o : Outward). room o.link) here

-- what a push answers
module _ (ws : List Outward) (k : ℕ) (w : Outward) (l : LinkIn) (ordered : AreInOrder ws) (here : get_or ws k w ≡ w) (within : k < length ws) (post : Stamped) where
  pub pushed : (result : Result (Unit {0}) Full) → OnOk result (sent l ≡ sent w.link ++ post ∷ []) → OnOk result (SendsMore ws k post (set ws k (record w { link = l })))
  pushed (Ok x) more = sends-more ws k w l ordered here within post more
  pushed (Err e) more = tt

  pub refused : (message : Message) (result : Result (Unit {0}) Full) → IfErr result (λ full. (full.message ≡ message) × (sent l ≡ sent w.link) × (room w.link ≡ 0))
      → IfErr result (λ full. (full.message ≡ message) × SendsSame ws (set ws k (record w { link = l })) × (room_to ws k ≡ 0))
  refused message (Ok x) full = tt
  refused message (Err e) full = (full.0, sends-same ws k w l ordered here within full.1, room-was ws k w l ordered here within ∙ full.2)
