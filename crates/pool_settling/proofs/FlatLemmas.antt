-- From cells and posters to flat lists of ends, and back.
use Rattle.std.proofs.Common.{◌≡◌, ◌∙◌, ◌⊎◌, inl, inr, ℕ, zero, suc, ◌+◌, ◌<◌, List, [], ◌∷◌, ◌++◌, length, map, get_or, Bool, true, false, Some, slice_get, refl, ap, sym, subst, arith, append_assoc}
use Rattle.std.specs.Prelude.{if◌then◌else◌, ◌==◌, ◌&&◌, All}
use Rattle.std.proofs.lemmas.List.{append-nil, get_or-map, length-map, map-append}
use Rattle.join_base.specs.declared.message.Source.{Source}
use Rattle.join_base.specs.declared.message.Source.TheVariants.{Feed, Actor}
use Rattle.fair_semantics.specs.Linked.{same_source}
use Rattle.run_order_law.proofs.EventLemmas.{same_number}
use Rattle.run_order_law.proofs.SourceLemmas.{is_itself, itself}
use Rattle.post_ring.specs.Links.{received, sent}
use Rattle.cell_links.specs.declared.ends.Inward.{Inward}
use Rattle.cell_links.specs.declared.ends.LinkTags.{LinkTags}
use Rattle.cell_links.specs.declared.ends.Outward.{Outward}
use Rattle.cell_links.specs.declared.feed_links.FeedLinks.{FeedLinks}
use Rattle.cell_links.specs.Ends.{inward_tag, outward_tag, poster_links, poster_tag, sent_to}
use Rattle.cell_links.specs.Wiring.{AreLinked, Joins, Key, feed_keys, inward_key, inward_keys, outward_key, outward_keys, sending_keys}
use Rattle.actor_cells.specs.declared.cell.Cell.{Cell}
use Rattle.actor_cells.specs.Lawful.{cell_tag, received_from}
use Rattle.settling_law.specs.Settled.{cell_sent, poster_sent, went}
use Rattle.pool_settling.specs.declared.ends.Sender.{Sender}
use Rattle.pool_settling.specs.declared.ends.Receiver.{Receiver}
use Rattle.pool_settling.specs.Flat.{fed_from, receiver_of, receivers_from, sender_of, senders_from}
use Rattle.pool_settling.specs.Ends.{Entry, HasAll, Serves, entries, entry_of, keys_of, received_in, receiver_key, receiver_keys, sent_in}
use Rattle.pool_settling.proofs.EndLemmas.{test_is, test_itself, tests, within_map}

-- ---- one more poster, or cell

pub fed_from-push : (k n : ℕ) (posters : List FeedLinks) (p : FeedLinks) → n ≡ k + length posters → fed_from k (posters ++ p ∷ []) ≡ fed_from k posters ++ map (sender_of (Feed n)) (poster_links p)
fed_from-push k n [] p at = append-nil _ ∙ ap (λ (m : ℕ). map (sender_of (Feed m)) (poster_links p)) (sym (let e : n ≡ k = omega (arith, at) in e))
fed_from-push k n (q ∷ posters) p at =
    let rest = fed_from-push (k + 1) n posters p (omega (arith, at)) in
    ap (λ l. map (sender_of (Feed k)) (poster_links q) ++ l) rest ∙ sym (append_assoc (map (sender_of (Feed k)) (poster_links q)) (fed_from (k + 1) posters) (map (sender_of (Feed n)) (poster_links p)))

pub senders_from-push : (i n : ℕ) (cells : List Cell) (c : Cell) → n ≡ i + length cells → senders_from i (cells ++ c ∷ []) ≡ senders_from i cells ++ map (sender_of (Actor n)) c.outward.items
senders_from-push i n [] c at = append-nil _ ∙ ap (λ (m : ℕ). map (sender_of (Actor m)) c.outward.items) (sym (let e : n ≡ i = omega (arith, at) in e))
senders_from-push i n (d ∷ cells) c at =
    let rest = senders_from-push (i + 1) n cells c (omega (arith, at)) in
    ap (λ l. map (sender_of (Actor i)) d.outward.items ++ l) rest ∙ sym (append_assoc (map (sender_of (Actor i)) d.outward.items) (senders_from (i + 1) cells) (map (sender_of (Actor n)) c.outward.items))

pub receivers_from-push : (i n : ℕ) (cells : List Cell) (c : Cell) → n ≡ i + length cells → receivers_from i (cells ++ c ∷ []) ≡ receivers_from i cells ++ map (receiver_of n) c.inward.items
receivers_from-push i n [] c at = append-nil _ ∙ ap (λ (m : ℕ). map (receiver_of m) c.inward.items) (sym (let e : n ≡ i = omega (arith, at) in e))
receivers_from-push i n (d ∷ cells) c at =
    let rest = receivers_from-push (i + 1) n cells c (omega (arith, at)) in
    ap (λ l. map (receiver_of i) d.inward.items ++ l) rest ∙ sym (append_assoc (map (receiver_of i) d.inward.items) (receivers_from (i + 1) cells) (map (receiver_of n) c.inward.items))

-- a list that grew by a list that grows
pub grown : {X : Type 0} (now before start made more all : List X) → now ≡ before ++ more → before ≡ start ++ made → all ≡ made ++ more → now ≡ start ++ all
grown now before start made more all step was whole = step ∙ ap (λ l. l ++ more) was ∙ append_assoc start made more ∙ ap (λ l. start ++ l) (sym whole)

-- ---- keys

abbrev links_of : List Cell → List LinkTags
links_of cells = map (λ tag. tag.links) (map cell_tag cells)

map-both : {X Y Z W : Type 0} (f : Y → Z) (g : X → Y) (h : W → Z) (j : X → W) → ((x : X) → f (g x) ≡ h (j x)) → (xs : List X) → map f (map g xs) ≡ map h (map j xs)
map-both f g h j same [] = refl
map-both f g h j same (x ∷ xs) = λ i. same x i ∷ map-both f g h j same xs i

pub keys-receivers : (i : ℕ) (cells : List Cell) → receiver_keys (receivers_from i cells) ≡ inward_keys i (links_of cells)
keys-receivers i [] = refl
keys-receivers i (c ∷ cells) =
    map-append receiver_key (map (receiver_of i) c.inward.items) (receivers_from (i + 1) cells)
    ∙ (λ t. map-both receiver_key (receiver_of i) (inward_key i) inward_tag (λ w. refl) c.inward.items t ++ keys-receivers (i + 1) cells t)

abbrev key_of : Sender → Key
key_of s = (entry_of s).0

keys-senders : (i : ℕ) (cells : List Cell) → map key_of (senders_from i cells) ≡ outward_keys i (links_of cells)
keys-senders i [] = refl
keys-senders i (c ∷ cells) =
    map-append key_of (map (sender_of (Actor i)) c.outward.items) (senders_from (i + 1) cells)
    ∙ (λ t. map-both key_of (sender_of (Actor i)) (outward_key (Actor i)) outward_tag (λ w. refl) c.outward.items t ++ keys-senders (i + 1) cells t)

keys-feeds : (k : ℕ) (posters : List FeedLinks) → map key_of (fed_from k posters) ≡ feed_keys k (map poster_tag posters)
keys-feeds k [] = refl
keys-feeds k (p ∷ posters) =
    map-append key_of (map (sender_of (Feed k)) (poster_links p)) (fed_from (k + 1) posters)
    ∙ (λ t. map-both key_of (sender_of (Feed k)) (outward_key (Feed k)) outward_tag (λ w. refl) (poster_links p) t ++ keys-feeds (k + 1) posters t)

keys-entries : (senders : List Sender) → keys_of (entries senders) ≡ map key_of senders
keys-entries [] = refl
keys-entries (s ∷ senders) = λ i. key_of s ∷ keys-entries senders i

pub keys-sending : (posters : List FeedLinks) (cells : List Cell) → keys_of (entries (fed_from 1 posters ++ senders_from 0 cells)) ≡ sending_keys (links_of cells) (map poster_tag posters)
keys-sending posters cells =
    keys-entries (fed_from 1 posters ++ senders_from 0 cells) ∙ map-append key_of (fed_from 1 posters) (senders_from 0 cells) ∙ (λ i. keys-feeds 1 posters i ++ keys-senders 0 cells i)

-- ---- what came

apart : (j k : ℕ) → ¬ (j ≡ k) → (j == k) ≡ false
apart j k n = by (j == k) refl
  where
    by : (b : Bool) → (j == k) ≡ b → b ≡ false
    by true e = absurd (n (same_number j k e))
    by false e = refl

came_own : (source : Source) (a : ℕ) (rest : List Receiver) → received_in rest source a ≡ [] → (ws : List Inward) → received_in (map (receiver_of a) ws ++ rest) source a ≡ received_from ws source
came_own source a rest none [] = none
came_own source a rest none (w ∷ ws) = by (same_source w.source source) (a == a) (is_itself a) (came_own source a rest none ws)
  where
    by : (b c : Bool) → c ≡ true → received_in (map (receiver_of a) ws ++ rest) source a ≡ received_from ws source
        → (if b && c then received w.link else received_in (map (receiver_of a) ws ++ rest) source a) ≡ (if b then received w.link else received_from ws source)
    by true true e later = refl
    by true false e later = absurd cc
    by false c e later = later

came_skip : (source : Source) (i a : ℕ) (rest : List Receiver) → ¬ (i ≡ a) → (ws : List Inward) → received_in (map (receiver_of i) ws ++ rest) source a ≡ received_in rest source a
came_skip source i a rest n [] = refl
came_skip source i a rest n (w ∷ ws) = by (same_source w.source source) (i == a) (apart i a n) (came_skip source i a rest n ws)
  where
    by : (b c : Bool) → c ≡ false → received_in (map (receiver_of i) ws ++ rest) source a ≡ received_in rest source a
        → (if b && c then received w.link else received_in (map (receiver_of i) ws ++ rest) source a) ≡ received_in rest source a
    by true false e later = later
    by true true e later = absurd cc
    by false c e later = later

came_below : (source : Source) (i a : ℕ) → a < i → (cells : List Cell) → received_in (receivers_from i cells) source a ≡ []
came_below source i a l [] = refl
came_below source i a l (c ∷ cells) = came_skip source i a (receivers_from (i + 1) cells) (λ e. omega (arith, l, e)) c.inward.items ∙ came_below source (i + 1) a (omega (arith, l)) cells

pub came_at : (source : Source) (i k : ℕ) (cells : List Cell) (cell : Cell) → slice_get cells k ≡ Some cell → received_in (receivers_from i cells) source (i + k) ≡ received_from cell.inward.items source
came_at source i k [] cell e = absurd cc
came_at source i zero (c ∷ cells) cell e =
    let same : c ≡ cell = cc in
    let n : i + 0 ≡ i = omega arith in
    ap (received_in (receivers_from i (c ∷ cells)) source) n ∙ came_own source i (receivers_from (i + 1) cells) (came_below source (i + 1) i (omega arith) cells) c.inward.items ∙ ap (λ (x : Cell). received_from x.inward.items source) same
came_at source i (suc k) (c ∷ cells) cell e =
    let n : i + 1 + k ≡ i + suc k = omega arith in
    came_skip source i (i + suc k) (receivers_from (i + 1) cells) (λ x. omega (arith, x)) c.inward.items ∙ ap (received_in (receivers_from (i + 1) cells) source) (sym n) ∙ came_at source (i + 1) k cells cell e

-- ---- what went

went_own : (source : Source) (target : ℕ) (rest : List Sender) → sent_in (entries rest) source target ≡ [] → (ws : List Outward) → sent_in (entries (map (sender_of source) ws ++ rest)) source target ≡ sent_to ws target
went_own source target rest none [] = none
went_own source target rest none (w ∷ ws) = by (same_source source source) (w.target == target) (itself source) (went_own source target rest none ws)
  where
    by : (b c : Bool) → b ≡ true → sent_in (entries (map (sender_of source) ws ++ rest)) source target ≡ sent_to ws target
        → (if b && c then sent w.link else sent_in (entries (map (sender_of source) ws ++ rest)) source target) ≡ (if c then sent w.link else sent_to ws target)
    by true true e later = refl
    by true false e later = later
    by false c e later = absurd cc

went_skip : (own source : Source) (target : ℕ) (rest : List Sender) → same_source own source ≡ false → (ws : List Outward) → sent_in (entries (map (sender_of own) ws ++ rest)) source target ≡ sent_in (entries rest) source target
went_skip own source target rest n [] = refl
went_skip own source target rest n (w ∷ ws) =
    ap (λ (b : Bool). if b && (w.target == target) then sent w.link else sent_in (entries (map (sender_of own) ws ++ rest)) source target) n ∙ went_skip own source target rest n ws

-- of feeds
fed_skip : (k : ℕ) (posters : List FeedLinks) (rest : List Sender) (source : Source) (target : ℕ) → ((j : ℕ) → k < j + 1 → same_source (Feed j) source ≡ false) → sent_in (entries (fed_from k posters ++ rest)) source target ≡ sent_in (entries rest) source target
fed_skip k [] rest source target n = refl
fed_skip k (p ∷ posters) rest source target n =
    ap (λ (x : List Sender). sent_in (entries x) source target) (append_assoc (map (sender_of (Feed k)) (poster_links p)) (fed_from (k + 1) posters) rest)
    ∙ went_skip (Feed k) source target (fed_from (k + 1) posters ++ rest) (n k (omega arith)) (poster_links p) ∙ fed_skip (k + 1) posters rest source target (λ j l. n j (omega (arith, l)))

fed_at : (start k : ℕ) (posters : List FeedLinks) (rest : List Sender) (target : ℕ) → ((j : ℕ) → sent_in (entries rest) (Feed j) target ≡ []) → sent_in (entries (fed_from start posters ++ rest)) (Feed (start + k)) target ≡ poster_sent (slice_get posters k) target
fed_at start k [] rest target none = none (start + k)
fed_at start zero (p ∷ posters) rest target none =
    let n : start + 0 ≡ start = omega arith in
    ap (λ (m : ℕ). sent_in (entries (fed_from start (p ∷ posters) ++ rest)) (Feed m) target) n
    ∙ ap (λ (x : List Sender). sent_in (entries x) (Feed start) target) (append_assoc (map (sender_of (Feed start)) (poster_links p)) (fed_from (start + 1) posters) rest)
    ∙ went_own (Feed start) target (fed_from (start + 1) posters ++ rest) (fed_skip (start + 1) posters rest (Feed start) target (λ j l. apart j start (λ e. omega (arith, l, e))) ∙ none start) (poster_links p)
fed_at start (suc k) (p ∷ posters) rest target none =
    let n : start + 1 + k ≡ start + suc k = omega arith in
    ap (λ (x : List Sender). sent_in (entries x) (Feed (start + suc k)) target) (append_assoc (map (sender_of (Feed start)) (poster_links p)) (fed_from (start + 1) posters) rest)
    ∙ went_skip (Feed start) (Feed (start + suc k)) target (fed_from (start + 1) posters ++ rest) (apart start (start + suc k) (λ e. omega (arith, e))) (poster_links p)
    ∙ ap (λ (m : ℕ). sent_in (entries (fed_from (start + 1) posters ++ rest)) (Feed m) target) (sym n) ∙ fed_at (start + 1) k posters rest target none

-- of actors
posted_none : (i : ℕ) (cells : List Cell) (j target : ℕ) → sent_in (entries (senders_from i cells)) (Feed j) target ≡ []
posted_none i [] j target = refl
posted_none i (c ∷ cells) j target = went_skip (Actor i) (Feed j) target (senders_from (i + 1) cells) refl c.outward.items ∙ posted_none (i + 1) cells j target

posted_below : (i a : ℕ) → a < i → (cells : List Cell) (target : ℕ) → sent_in (entries (senders_from i cells)) (Actor a) target ≡ []
posted_below i a l [] target = refl
posted_below i a l (c ∷ cells) target = went_skip (Actor i) (Actor a) target (senders_from (i + 1) cells) (apart i a (λ e. omega (arith, l, e))) c.outward.items ∙ posted_below (i + 1) a (omega (arith, l)) cells target

posted_at : (i k : ℕ) (cells : List Cell) (target : ℕ) → sent_in (entries (senders_from i cells)) (Actor (i + k)) target ≡ cell_sent (slice_get cells k) target
posted_at i k [] target = refl
posted_at i zero (c ∷ cells) target =
    let n : i + 0 ≡ i = omega arith in
    ap (λ (m : ℕ). sent_in (entries (senders_from i (c ∷ cells))) (Actor m) target) n ∙ went_own (Actor i) target (senders_from (i + 1) cells) (posted_below (i + 1) i (omega arith) cells target) c.outward.items
posted_at i (suc k) (c ∷ cells) target =
    let n : i + 1 + k ≡ i + suc k = omega arith in
    went_skip (Actor i) (Actor (i + suc k)) target (senders_from (i + 1) cells) (apart i (i + suc k) (λ e. omega (arith, e))) c.outward.items
    ∙ ap (λ (m : ℕ). sent_in (entries (senders_from (i + 1) cells)) (Actor m) target) (sym n) ∙ posted_at (i + 1) k cells target

pub went_is : (posters : List FeedLinks) (cells : List Cell) (source : Source) (target : ℕ) → sent_in (entries (fed_from 1 posters ++ senders_from 0 cells)) source target ≡ went posters cells source target
went_is posters cells (Feed zero) target = fed_skip 1 posters (senders_from 0 cells) (Feed zero) target (λ j l. apart j 0 (λ e. omega (arith, l, e))) ∙ posted_none 0 cells 0 target
went_is posters cells (Feed (suc k)) target =
    let n : suc k ≡ 1 + k = omega arith in
    ap (λ (m : ℕ). sent_in (entries (fed_from 1 posters ++ senders_from 0 cells)) (Feed m) target) n ∙ fed_at 1 k posters (senders_from 0 cells) target (λ j. posted_none 0 cells j target)
went_is posters cells (Actor a) target =
    let n : a ≡ 0 + a = omega arith in
    fed_skip 1 posters (senders_from 0 cells) (Actor a) target (λ j l. refl) ∙ ap (λ (m : ℕ). sent_in (entries (senders_from 0 cells)) (Actor m) target) n ∙ posted_at 0 a cells target

-- ---- all came that went

abbrev FindsReceiver : List Receiver → Source → ℕ → Type 0
FindsReceiver rs source target =
    ((r : Receiver) × ((k : ℕ) × ((k < length rs) × ((get_or rs k r ≡ r) × (Serves (receiver_key r) source target × (received_in rs source target ≡ received r.link))))))
    ⊎ ((received_in rs source target ≡ []) × ((k : ℕ) (d : Receiver) → k < length rs → Serves (receiver_key (get_or rs k d)) source target → ⊥))

finds_receiver : (rs : List Receiver) (source : Source) (target : ℕ) → FindsReceiver rs source target
finds_receiver [] source target = inr (refl, λ k d l s. omega (arith, l))
finds_receiver (x ∷ rs) source target = by (tests (receiver_key x) source target) refl (finds_receiver rs source target)
  where
    by : (b : Bool) → tests (receiver_key x) source target ≡ b → FindsReceiver rs source target → FindsReceiver (x ∷ rs) source target
    by true e later = inl (x, (0, (omega arith, (refl, (test_is (receiver_key x) source target e, ap (λ (b : Bool). if b then received x.link else received_in rs source target) e)))))
    by false e (inl f) = let l = f.1.1.0 in inl (f.0, (suc f.1.0, (omega (arith, l), (f.1.1.1.0, (f.1.1.1.1.0, ap (λ (b : Bool). if b then received x.link else received_in rs source target) e ∙ f.1.1.1.1.1)))))
    by false e (inr n) = inr (ap (λ (b : Bool). if b then received x.link else received_in rs source target) e ∙ n.0, none)
      where
        none : (k : ℕ) (d : Receiver) → k < length (x ∷ rs) → Serves (receiver_key (get_or (x ∷ rs) k d)) source target → ⊥
        none zero d l s = let both : true ≡ false = sym (test_itself (receiver_key x) source target s) ∙ e in cc
        none (suc k) d l s = n.1 k d (omega (arith, l)) s

-- there is no sender, or one of the source and the target
finds_entry : (es : List Entry) (source : Source) (target : ℕ) → (sent_in es source target ≡ []) ⊎ ((e : Entry) × ((k : ℕ) × ((k < length es) × ((get_or es k e ≡ e) × Serves e.0 source target))))
finds_entry [] source target = inl refl
finds_entry (x ∷ es) source target = by (tests x.0 source target) refl (finds_entry es source target)
  where
    by : (b : Bool) → tests x.0 source target ≡ b → (sent_in es source target ≡ []) ⊎ ((e : Entry) × ((k : ℕ) × ((k < length es) × ((get_or es k e ≡ e) × Serves e.0 source target))))
        → (sent_in (x ∷ es) source target ≡ []) ⊎ ((e : Entry) × ((k : ℕ) × ((k < length (x ∷ es)) × ((get_or (x ∷ es) k e ≡ e) × Serves e.0 source target))))
    by true e later = inr (x, (0, (omega arith, (refl, test_is x.0 source target e))))
    by false e (inl n) = inl (ap (λ (b : Bool). if b then x.1 else sent_in es source target) e ∙ n)
    by false e (inr f) = let l = f.1.1.0 in inr (f.0, (suc f.1.0, (omega (arith, l), f.1.1.1)))

pub all_came : (es : List Entry) (rs : List Receiver) → AreLinked (keys_of es) (receiver_keys rs) → All (HasAll es) rs → (source : Source) (target : ℕ) → received_in rs source target ≡ sent_in es source target
all_came es rs linked all source target = by (finds_receiver rs source target) (finds_entry es source target)
  where
    by : FindsReceiver rs source target → (sent_in es source target ≡ []) ⊎ ((e : Entry) × ((k : ℕ) × ((k < length es) × ((get_or es k e ≡ e) × Serves e.0 source target)))) → received_in rs source target ≡ sent_in es source target
    by (inl f) o =
        let r = f.0 in
        let has : HasAll es r = subst (HasAll es) f.1.1.1.0 (all f.1.0 r f.1.1.0) in
        let serves = f.1.1.1.1.0 in
        f.1.1.1.1.1 ∙ has ∙ (λ i. sent_in es (serves.0 i) (serves.1 i))
    by (inr n) (inl m) = n.0 ∙ sym m
    by (inr n) (inr f) =
        let e = f.0 in
        let l = f.1.1.0 in
        let key : get_or (keys_of es) f.1.0 e.0 ≡ e.0 = get_or-map (λ (x : Entry). x.0) es f.1.0 e e.0 l ∙ ap (λ (x : Entry). x.0) f.1.1.1.0 in
        let answer = linked.answered f.1.0 e.0 (within_map (λ (x : Entry). x.0) es (f.1.0) l) in
        absurd (found e answer.0 (subst (λ (m : ℕ). answer.0 < m) (length-map rs receiver_key) (answer.1)) (subst (λ (k : Key). (d : Key) → Joins k (get_or (receiver_keys rs) answer.0 d)) key answer.2) f.1.1.1.1)
      where
        found : (e : Entry) (k : ℕ) → k < length rs → ((d : Key) → Joins e.0 (get_or (receiver_keys rs) k d)) → Serves e.0 source target → ⊥
        found e k l joins s =
            let w = there rs k l in
            let at : get_or (receiver_keys rs) k (receiver_key w) ≡ receiver_key (get_or rs k w) = get_or-map receiver_key rs k w (receiver_key w) l in
            let j = joins (receiver_key w) in
            n.1 k w l (sym (ap (λ (x : Key). x.0) at) ∙ sym j.0 ∙ s.0, sym (ap (λ (x : Key). x.1) at) ∙ sym j.1 ∙ s.1)
          where
            there : (xs : List Receiver) (k : ℕ) → k < length xs → Receiver
            there [] k l = absurd (omega arith)
            there (x ∷ xs) k l = x
