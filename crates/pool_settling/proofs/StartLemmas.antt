-- From lawful and wired cells to actors that stand by their links, and from drained links to drained actors.
use Rattle.std.proofs.Common.{◌≡◌, ◌∙◌, ◌⊎◌, inl, inr, ℕ, zero, suc, ◌+◌, ◌<◌, List, [], ◌∷◌, ◌++◌, length, map, Bool, true, false, Option, Some, slice_get, refl, ap, sym, subst, arith}
use Rattle.std.specs.Prelude.{if◌then◌else◌, All}
use Rattle.std.specs.List.{AllByRecursion, sum_by}
use Rattle.std.proofs.lemmas.List.{length-map}
use Rattle.std.proofs.lemmas.List.Elements.{All-nil, All-append, All-cons, All-head, All-map, All-tail, All-weaker}
use Rattle.std.proofs.lemmas.List.Sums.{sum_by-cons}
use Rattle.join_base.specs.declared.message.Source.{Source}
use Rattle.join_base.specs.declared.message.Source.TheVariants.{Actor}
use Rattle.join_base.specs.declared.message.Stamped.{Stamped}
use Rattle.fair_semantics.specs.Linked.{same_source}
use Rattle.fair_semantics.proofs.ListLemmas.{each_at, each_from_All, mapped_at}
use Rattle.run_order_law.proofs.EventLemmas.{same_source_is}
use Rattle.post_ring.specs.Links.{received}
use Rattle.actor_turn.specs.Held.{Held}
use Rattle.cell_links.specs.declared.ends.Inward.{Inward}
use Rattle.cell_links.specs.declared.feed_links.FeedLinks.{FeedLinks}
use Rattle.cell_links.specs.Ends.{inward_tag, poster_tag, sent_to}
use Rattle.cell_links.specs.Wiring.{AreLinked, Key}
use Rattle.actor_cells.specs.declared.cell.Cell.{Cell}
use Rattle.actor_cells.specs.AllLawful.{AreLawful}
use Rattle.actor_cells.specs.Lawful.{IsAmong, IsLawful, cell_tag, held_in, received_from}
use Rattle.actor_cells.specs.Prepared.{AreWired}
use Rattle.settling_law.specs.Settled.{cell_sent, went}
use Rattle.pool_settling.specs.declared.ends.Receiver.{Receiver}
use Rattle.pool_settling.specs.declared.ends.Sender.{Sender}
use Rattle.pool_settling.specs.Standing.{StandsBy, actor_count, feed_count}
use Rattle.pool_settling.specs.Drained.{AreDrained}
use Rattle.pool_settling.specs.Flat.{actors_in, fed_from, went_count, receiver_of, receivers_from, senders_from}
use Rattle.pool_settling.specs.Ends.{AreStanding, Entry, GivenAsCame, GoOn, HasAll, IsKnownTo, came_count, entries, keys_of, received_in, receiver_key, receiver_keys, sent_in}
use Rattle.pool_settling.proofs.FlatLemmas.{all_came, came_at, keys-receivers, keys-sending, went_is}

-- ---- one cell

known_from : (feeds actors : ℕ) (ws : List Inward) (source : Source) → AllByRecursion (IsAmong feeds actors) (map (λ entry. entry.0) (map inward_tag ws)) → (received_from ws source ≡ []) ⊎ IsAmong feeds actors source
known_from feeds actors [] source each = inl refl
known_from feeds actors (w ∷ ws) source each = by (same_source w.source source) refl (known_from feeds actors ws source each.1)
  where
    by : (b : Bool) → same_source w.source source ≡ b → (received_from ws source ≡ []) ⊎ IsAmong feeds actors source → ((if b then received w.link else received_from ws source) ≡ []) ⊎ IsAmong feeds actors source
    by true same later = inr (subst (IsAmong feeds actors) (same_source_is w.source source same) each.0)
    by false same later = later

known_all : (feeds actors : ℕ) (ws : List Inward) → AllByRecursion (IsAmong feeds actors) (map (λ entry. entry.0) (map inward_tag ws)) → All (λ w. IsAmong feeds actors w.source) ws
known_all feeds actors [] each = All-nil (λ w. IsAmong feeds actors w.source)
known_all feeds actors (w ∷ ws) each = All-cons (λ (v : Inward). IsAmong feeds actors v.source) w ws each.0 (known_all feeds actors ws each.1)

stands_cell : (c : Cell) → IsLawful c → StandsBy (received_from c.inward.items) (sent_to c.outward.items) (held_in c)
stands_cell c lawful = record {
  outboxes = lawful.outboxes;
  known = λ source. known_from (feed_count (held_in c)) (actor_count (held_in c)) c.inward.items source lawful.tag.known;
  in_order = lawful.in_order;
  late = lawful.late;
  history = lawful.history;
  fair = lawful.fair;
  posted = lawful.posted;
}

stands_by : (came now : Source → List Stamped) (sent here : ℕ → List Stamped) (x y : Held) → ((source : Source) → now source ≡ came source) → ((target : ℕ) → here target ≡ sent target) → x ≡ y → StandsBy came sent x → StandsBy now here y
stands_by came now sent here x y c w e = subst (λ (p : (Source → List Stamped) × (ℕ → List Stamped) × Held). StandsBy p.0 p.1 p.2) (λ i. (λ source. sym (c source) i, λ target. sym (w target) i, e i))

-- ---- all cells

receivers_each : (P : Receiver → Type 0) (i : ℕ) (cells : List Cell) → ((k : ℕ) (c : Cell) → slice_get cells k ≡ Some c → All (λ w. P (receiver_of (i + k) w)) c.inward.items) → All P (receivers_from i cells)
receivers_each P i [] h = All-nil P
receivers_each P i (c ∷ cells) h =
    let n : i + 0 ≡ i = omega arith in
    All-append P (map (receiver_of i) c.inward.items) (receivers_from (i + 1) cells)
    (All-map P (receiver_of i) c.inward.items (subst (λ (m : ℕ). All (λ w. P (receiver_of m w)) c.inward.items) n (h 0 c refl)))
    (receivers_each P (i + 1) cells (λ k d e. let m : i + suc k ≡ i + 1 + k = omega arith in subst (λ (j : ℕ). All (λ w. P (receiver_of j w)) d.inward.items) m (h (suc k) d e)))

pub map_get : {X Y : Type 0} (f : X → Y) (xs : List X) (k : ℕ) (x : X) → slice_get xs k ≡ Some x → slice_get (map f xs) k ≡ Some (f x)
map_get f [] k x e = absurd cc
map_get {X} f (y ∷ xs) zero x e = let same : y ≡ x = cc in ap (λ (z : X). Some (f z)) same
map_get f (y ∷ xs) (suc k) x e = map_get f xs k x e

get_within : {X : Type 0} (xs : List X) (k : ℕ) (x : X) → slice_get xs k ≡ Some x → k < length xs
get_within [] k x e = absurd cc
get_within (y ∷ xs) zero x e = omega arith
get_within (y ∷ xs) (suc k) x e = let l = get_within xs k x e in omega (arith, l)

some_is : {X : Type 0} (x y : X) → Some x ≡ Some y → x ≡ y
some_is x y h = cc

-- how many messages went over the links with these keys
abbrev sent_by_keys : List Entry → List Key → ℕ
sent_by_keys es keys = sum_by (λ (k : Key). length (sent_in es k.0 k.1)) keys

came_by_keys : (es : List Entry) (rs : List Receiver) → All (HasAll es) rs → came_count rs ≡ sent_by_keys es (receiver_keys rs)
came_by_keys es [] all = refl
came_by_keys es (r ∷ rs) all =
    let here : length (received r.link) ≡ length (sent_in es r.source r.target) = ap length (All-head (HasAll es) r rs all) in
    let later = came_by_keys es rs (All-tail (HasAll es) r rs all) in
    let a = sum_by-cons (λ (x : Receiver). length (received x.link)) r rs in
    let b = sum_by-cons (λ (k : Key). length (sent_in es k.0 k.1)) (receiver_key r) (receiver_keys rs) in
    omega (arith, here, later, a, b)

went_by_keys : (posters : List FeedLinks) (cells : List Cell) (rs : List Receiver) → sent_by_keys (entries (fed_from 1 posters ++ senders_from 0 cells)) (receiver_keys rs) ≡ sum_by (λ (r : Receiver). length (went posters cells r.source r.target)) rs
went_by_keys posters cells [] = refl
went_by_keys posters cells (r ∷ rs) =
    let es : List Entry = entries (fed_from 1 posters ++ senders_from 0 cells) in
    let here : length (sent_in es r.source r.target) ≡ length (went posters cells r.source r.target) = ap length (went_is posters cells r.source r.target) in
    let later = went_by_keys posters cells rs in
    let a = sum_by-cons (λ (x : Receiver). length (went posters cells x.source x.target)) r rs in
    let b = sum_by-cons (λ (k : Key). length (sent_in es k.0 k.1)) (receiver_key r) (receiver_keys rs) in
    omega (arith, here, later, a, b)

module _ (posters : List FeedLinks) (cells : List Cell) (wired : AreWired (map cell_tag cells) (map poster_tag posters)) (lawful : AreLawful cells) where
  abbrev es : List Entry
  es = entries (fed_from 1 posters ++ senders_from 0 cells)

  abbrev rs : List Receiver
  rs = receivers_from 0 cells

  pub linked : AreLinked (keys_of es) (receiver_keys rs)
  linked = subst (λ (x : List Key × List Key). AreLinked x.0 x.1) (λ i. (sym (keys-sending posters cells) i, sym (keys-receivers 0 cells) i)) wired

  lawful_at : (k : ℕ) (c : Cell) → slice_get cells k ≡ Some c → IsLawful c
  lawful_at k c e = each_at IsLawful cells k c e (each_from_All IsLawful cells lawful)

  cell_went : (actor : ℕ) (c : Cell) → slice_get cells actor ≡ Some c → (target : ℕ) → sent_in es (Actor actor) target ≡ sent_to c.outward.items target
  cell_went actor c at target = went_is posters cells (Actor actor) target ∙ ap (λ (o : Option Cell). cell_sent o target) at

  pub first_standing : AreStanding es rs (actors_in cells)
  first_standing = record { each = each; all_known = receivers_each (IsKnownTo (actors_in cells)) 0 cells known }
    where
      each : (actor : ℕ) (held : Held) → slice_get (actors_in cells) actor ≡ Some held → StandsBy (λ source. received_in rs source actor) (λ target. sent_in es (Actor actor) target) held
      each actor held is =
          let m = mapped_at held_in cells actor held is in
          let n : actor ≡ 0 + actor = omega arith in
          stands_by (received_from m.0.inward.items) (λ source. received_in rs source actor) (sent_to m.0.outward.items) (λ target. sent_in es (Actor actor) target) (held_in m.0) held
          (λ source. ap (received_in rs source) n ∙ came_at source 0 actor cells m.0 m.1) (cell_went actor m.0 m.1) m.2 (stands_cell m.0 (lawful_at actor m.0 m.1))

      known : (k : ℕ) (c : Cell) → slice_get cells k ≡ Some c → All (λ w. IsKnownTo (actors_in cells) (receiver_of (0 + k) w)) c.inward.items
      known k c at =
          let n : k ≡ 0 + k = omega arith in
          let got = map_get held_in cells k c at in
          let law = lawful_at k c at in
          All-weaker (λ (w : Inward). IsAmong (feed_count (held_in c)) (actor_count (held_in c)) w.source) (λ (w : Inward). IsKnownTo (actors_in cells) (receiver_of (0 + k) w))
          (λ w a. subst (λ (j : ℕ). IsKnownTo (actors_in cells) (receiver_of j w)) n (get_within (actors_in cells) k (held_in c) got, λ held e. subst (λ (h : Held). IsAmong (feed_count h) (actor_count h) w.source) (some_is (held_in c) held (sym got ∙ e)) a)) c.inward.items
          (known_all (feed_count (held_in c)) (actor_count (held_in c)) c.inward.items law.tag.known)

  -- what came is what went
  came_whole : (nows : List Receiver) → receiver_keys nows ≡ receiver_keys rs → All (HasAll es) nows → came_count nows ≡ went_count posters cells
  came_whole nows keys all = came_by_keys es nows all ∙ ap (sent_by_keys es) keys ∙ went_by_keys posters cells rs

  pub are_drained : (nows : List Receiver) (helds : List Held) → receiver_keys nows ≡ receiver_keys rs → All (HasAll es) nows → AreStanding es nows helds → GoOn (actors_in cells) helds → GivenAsCame (actors_in cells) helds rs nows → AreDrained posters cells helds
  are_drained nows helds keys all standing on given = record {
    count = on.count ∙ length-map cells held_in;
    each = λ actor cell held at is. record {
      stands = stands_by (λ source. received_in nows source actor) (λ source. went posters cells source actor) (λ target. sent_in es (Actor actor) target) (sent_to cell.outward.items) held held
          (λ source. sym (all_came es nows (subst (AreLinked (keys_of es)) (sym keys) linked) all source actor ∙ went_is posters cells source actor)) (λ target. sym (cell_went actor cell at target)) refl (standing.each actor held is);
      on = on.each actor (held_in cell) held (map_get held_in cells actor cell at) is;
    };
    weight = λ small. let most = given small in let whole = came_whole nows keys all in omega (arith, most, whole);
  }

  -- ---- the lists as they are built

  module _ (s0 s1 s2 : List Sender) (r0 r1 : List Receiver) (a0 a1 : List Held) (n0 : s0 ≡ []) (n1 : s1 ≡ s0 ++ fed_from 1 posters) (n2 : s2 ≡ s1 ++ senders_from 0 cells)
      (m0 : r0 ≡ []) (m1 : r1 ≡ r0 ++ receivers_from 0 cells) (k0 : a0 ≡ []) (k1 : a1 ≡ a0 ++ actors_in cells) where
    senders_are : s2 ≡ fed_from 1 posters ++ senders_from 0 cells
    senders_are = n2 ∙ ap (λ (l : List Sender). l ++ senders_from 0 cells) (n1 ∙ ap (λ (l : List Sender). l ++ fed_from 1 posters) n0)

    receivers_are : r1 ≡ rs
    receivers_are = m1 ∙ ap (λ (l : List Receiver). l ++ receivers_from 0 cells) m0

    actors_are : a1 ≡ actors_in cells
    actors_are = k1 ∙ ap (λ (l : List Held). l ++ actors_in cells) k0

    pub can_drain : AreLinked (keys_of (entries s2)) (receiver_keys r1) × AreStanding (entries s2) r1 a1
    can_drain = (
      subst (λ (x : List Sender × List Receiver). AreLinked (keys_of (entries x.0)) (receiver_keys x.1)) (λ i. (sym senders_are i, sym receivers_are i)) linked,
      subst (λ (x : List Sender × List Receiver × List Held). AreStanding (entries x.0) x.1 x.2) (λ i. (sym senders_are i, sym receivers_are i, sym actors_are i)) first_standing,
    )

    pub then_drained : (nows : List Receiver) (helds : List Held) → receiver_keys nows ≡ receiver_keys r1 → All (HasAll (entries s2)) nows → AreStanding (entries s2) nows helds → GoOn a1 helds → GivenAsCame a1 helds r1 nows → AreDrained posters cells helds
    then_drained nows helds keys all standing on given =
        are_drained nows helds (keys ∙ ap receiver_keys receivers_are) (subst (λ (x : List Sender). All (HasAll (entries x)) nows) senders_are all)
        (subst (λ (x : List Sender). AreStanding (entries x) nows helds) senders_are standing) (subst (λ (x : List Held). GoOn x helds) actors_are on)
        (subst (λ (x : List Held × List Receiver). GivenAsCame x.0 helds x.1 nows) (λ i. (actors_are i, receivers_are i)) given)
