-- Wired links whose ends have met: what arrived from a source is all that it sent.
use Rattle.std.proofs.Common.{◌≡◌, ◌∙◌, ◌⊎◌, inl, inr, ℕ, zero, suc, ◌+◌, ◌<◌, List, [], ◌∷◌, ◌++◌, length, map, Bool, true, false, Option, None, Some, slice_get, get_or, refl, ap, sym, subst, arith}
use Rattle.std.specs.Prelude.{if◌then◌else◌, ◌==◌, All}
use Rattle.std.specs.List.{AllByRecursion}
use Rattle.join_base.specs.declared.message.Source.{Source}
use Rattle.join_base.specs.declared.message.Source.TheVariants.{Feed, Actor}
use Rattle.join_base.specs.declared.message.Stamped.{Stamped}
use Rattle.pattern_core.specs.Members.{IsIn}
use Rattle.pattern_core.proofs.MembersLemmas.{IsIn-append_cases, IsIn-append_left, IsIn-append_right, IsIn-map, IsIn-map_from}
use Rattle.fair_semantics.specs.Linked.{same_source}
use Rattle.fair_semantics.proofs.ListLemmas.{each_from_All}
use Rattle.run_order_law.proofs.EventLemmas.{same_number, same_source_is}
use Rattle.run_order_law.proofs.ListLemmas.{at_place, each_in, in_each}
use Rattle.run_order_law.proofs.SourceLemmas.{is_itself, itself}
use Rattle.post_ring.specs.Links.{identity_in, identity_out, received, sent}
use Rattle.cell_links.specs.declared.ends.Inward.{Inward}
use Rattle.cell_links.specs.declared.ends.Outward.{Outward}
use Rattle.cell_links.specs.declared.ends.LinkTags.{LinkTags}
use Rattle.cell_links.specs.declared.feed_links.FeedLinks.{FeedLinks}
use Rattle.cell_links.specs.Ends.{PosterTag, inward_tag, outward_tag, poster_links, poster_tag, sent_to}
use Rattle.cell_links.specs.Wiring.{AreLinked, Joins, Key, feed_keys, inward_key, inward_keys, outward_key, outward_keys, sending_keys}
use Rattle.actor_cells.specs.declared.cell.Cell.{Cell}
use Rattle.actor_cells.specs.Lawful.{cell_tag, links_in, received_from}
use Rattle.actor_cells.specs.Prepared.{AreWired}
use Rattle.settling_law.specs.Settled.{HaveMet, MetIsArrived, cell_sent, outward_of, outward_of_cell, outward_of_poster, poster_sent, went}

-- ---- the link from a source, and to a target

-- it is this one, or there is none
abbrev FindsIn : List Inward → Source → Type 0
FindsIn inward source =
    ((v : Inward) × (IsIn v inward × ((v.source ≡ source) × (received_from inward source ≡ received v.link)))) ⊎ ((received_from inward source ≡ []) × ((v : Inward) → IsIn v inward → v.source ≡ source → ⊥))

finds_in : (inward : List Inward) (source : Source) → FindsIn inward source
finds_in [] source = inr (refl, λ v i e. i)
finds_in (x ∷ inward) source = by (same_source x.source source) refl (finds_in inward source)
  where
    by : (b : Bool) → same_source x.source source ≡ b → FindsIn inward source → FindsIn (x ∷ inward) source
    by true same later = inl (x, (inl refl, (same_source_is x.source source same, ap (λ (b : Bool). if b then received x.link else received_from inward source) same)))
    by false same (inl f) = inl (f.0, (inr f.1.0, (f.1.1.0, ap (λ (b : Bool). if b then received x.link else received_from inward source) same ∙ f.1.1.1)))
    by false same (inr n) = inr (ap (λ (b : Bool). if b then received x.link else received_from inward source) same ∙ n.0, none)
      where
        none : (v : Inward) → IsIn v (x ∷ inward) → v.source ≡ source → ⊥
        none v (inl is) e = let both : true ≡ false = sym (itself source) ∙ ap (λ (s : Source). same_source s source) (sym e) ∙ ap (λ (w : Inward). same_source w.source source) (sym is) ∙ same in cc
        none v (inr i) e = n.1 v i e

abbrev FindsOut : List Outward → ℕ → Type 0
FindsOut outward target =
    ((w : Outward) × (IsIn w outward × ((w.target ≡ target) × (sent_to outward target ≡ sent w.link)))) ⊎ ((sent_to outward target ≡ []) × ((w : Outward) → IsIn w outward → w.target ≡ target → ⊥))

finds_out : (outward : List Outward) (target : ℕ) → FindsOut outward target
finds_out [] target = inr (refl, λ w i e. i)
finds_out (x ∷ outward) target = by (x.target == target) refl (finds_out outward target)
  where
    by : (b : Bool) → (x.target == target) ≡ b → FindsOut outward target → FindsOut (x ∷ outward) target
    by true same later = inl (x, (inl refl, (same_number x.target target same, ap (λ (b : Bool). if b then sent x.link else sent_to outward target) same)))
    by false same (inl f) = inl (f.0, (inr f.1.0, (f.1.1.0, ap (λ (b : Bool). if b then sent x.link else sent_to outward target) same ∙ f.1.1.1)))
    by false same (inr n) = inr (ap (λ (b : Bool). if b then sent x.link else sent_to outward target) same ∙ n.0, none)
      where
        none : (w : Outward) → IsIn w (x ∷ outward) → w.target ≡ target → ⊥
        none w (inl is) e = let both : true ≡ false = sym (is_itself target) ∙ ap (λ (t : ℕ). t == target) (sym e) ∙ ap (λ (y : Outward). y.target == target) (sym is) ∙ same in cc
        none w (inr i) e = n.1 w i e

-- ---- keys

all_in : {X : Type 0} (P : X → Type 0) (xs : List X) → All P xs → (x : X) → IsIn x xs → P x
all_in P xs all x i = each_in P xs (each_from_All P xs all) x i

place_in : {X : Type 0} (xs : List X) (k : ℕ) (d : X) → k < length xs → IsIn (get_or xs k d) xs
place_in {X} xs k d l = at_place (λ (x : X). IsIn x xs) xs (in_each (λ (x : X). IsIn x xs) xs (λ x i. i)) k d l

abbrev tags : List Cell → List LinkTags
tags cells = map (λ tag. tag.links) (map cell_tag cells)

abbrev key_in : (actor : ℕ) → Inward → Key
key_in actor v = (v.source, actor, identity_out v.link)

abbrev key_out : Source → Outward → Key
key_out source w = (source, w.target, identity_in w.link)

-- an end of the cell at a place
record IsInward (cells : List Cell) (start : ℕ) (e : Key) : Type 0 where
  pub place : ℕ
  pub cell : Cell
  pub end : Inward
  pub here : slice_get cells place ≡ Some cell
  pub among : IsIn end cell.inward.items
  pub is : key_in (start + place) end ≡ e

in_key : (cells : List Cell) (start k : ℕ) (cell : Cell) (v : Inward) → slice_get cells k ≡ Some cell → IsIn v cell.inward.items → IsIn (key_in (start + k) v) (inward_keys start (tags cells))
in_key [] start k cell v e i = absurd cc
in_key (c ∷ cells) start zero cell v e i =
    let same : c ≡ cell = cc in
    let own : IsIn v c.inward.items = subst (λ (x : Cell). IsIn v x.inward.items) (sym same) i in
    let n : start ≡ start + 0 = omega arith in
    let mine : IsIn (key_in start v) (map (inward_key start) (map inward_tag c.inward.items)) = IsIn-map (inward_key start) (inward_tag v) (map inward_tag c.inward.items) (IsIn-map inward_tag v c.inward.items own) in
    IsIn-append_left (key_in (start + 0) v) (map (inward_key start) (map inward_tag c.inward.items)) (inward_keys (start + 1) (tags cells)) (subst (λ (j : ℕ). IsIn (key_in j v) (map (inward_key start) (map inward_tag c.inward.items))) n mine)
in_key (c ∷ cells) start (suc k) cell v e i =
    let n : start + 1 + k ≡ start + suc k = omega arith in
    IsIn-append_right (key_in (start + suc k) v) (map (inward_key start) (map inward_tag c.inward.items)) (inward_keys (start + 1) (tags cells))
    (subst (λ (j : ℕ). IsIn (key_in j v) (inward_keys (start + 1) (tags cells))) n (in_key cells (start + 1) k cell v e i))

from_key : (cells : List Cell) (start : ℕ) (e : Key) → IsIn e (inward_keys start (tags cells)) → IsInward cells start e
from_key [] start e i = absurd i
from_key (c ∷ cells) start e i =
    elim (IsIn-append_cases e (map (inward_key start) (map inward_tag c.inward.items)) (inward_keys (start + 1) (tags cells)) i) [
      | inl own ↦
          let r = IsIn-map_from (inward_key start) e (map inward_tag c.inward.items) own in
          let q = IsIn-map_from inward_tag r.0 c.inward.items r.1 in
          let n : start + 0 ≡ start = omega arith in
          record { place = 0; cell = c; end = q.0; here = refl; among = q.1; is = ap (λ (j : ℕ). key_in j q.0) n ∙ ap (inward_key start) q.2 ∙ r.2 }
      | inr other ↦
          let r = from_key cells (start + 1) e other in
          let n : start + suc r.place ≡ start + 1 + r.place = omega arith in
          record { place = suc r.place; cell = r.cell; end = r.end; here = r.here; among = r.among; is = ap (λ (j : ℕ). key_in j r.end) n ∙ r.is }
    ]

-- ---- ends that messages go into

-- an end of the cell or of the poster at a place
record IsOutward {X : Type 0} (outward : X → List Outward) (source : ℕ → Source) (xs : List X) (start : ℕ) (d : Key) : Type 0 where
  pub place : ℕ
  pub owner : X
  pub end : Outward
  pub here : slice_get xs place ≡ Some owner
  pub among : IsIn end (outward owner)
  pub is : key_out (source (start + place)) end ≡ d

module _ {X : Type 0} (outward : X → List Outward) (source : ℕ → Source) where
  abbrev own_keys : ℕ → X → List Key
  own_keys k x = map (outward_key (source k)) (map outward_tag (outward x))

  abbrev keys_from : ℕ → List X → List Key
  keys_from start [] = []
  keys_from start (x ∷ xs) = own_keys start x ++ keys_from (start + 1) xs

  out_key : (xs : List X) (start k : ℕ) (x : X) (w : Outward) → slice_get xs k ≡ Some x → IsIn w (outward x) → IsIn (key_out (source (start + k)) w) (keys_from start xs)
  out_key [] start k x w e i = absurd cc
  out_key (y ∷ xs) start zero x w e i =
      let same : y ≡ x = cc in
      let own : IsIn w (outward y) = subst (λ (z : X). IsIn w (outward z)) (sym same) i in
      let n : start ≡ start + 0 = omega arith in
      let mine : IsIn (key_out (source start) w) (own_keys start y) = IsIn-map (outward_key (source start)) (outward_tag w) (map outward_tag (outward y)) (IsIn-map outward_tag w (outward y) own) in
      IsIn-append_left (key_out (source (start + 0)) w) (own_keys start y) (keys_from (start + 1) xs) (subst (λ (j : ℕ). IsIn (key_out (source j) w) (own_keys start y)) n mine)
  out_key (y ∷ xs) start (suc k) x w e i =
      let n : start + 1 + k ≡ start + suc k = omega arith in
      IsIn-append_right (key_out (source (start + suc k)) w) (own_keys start y) (keys_from (start + 1) xs) (subst (λ (j : ℕ). IsIn (key_out (source j) w) (keys_from (start + 1) xs)) n (out_key xs (start + 1) k x w e i))

  from_out : (xs : List X) (start : ℕ) (d : Key) → IsIn d (keys_from start xs) → IsOutward outward source xs start d
  from_out [] start d i = absurd i
  from_out (y ∷ xs) start d i =
      elim (IsIn-append_cases d (own_keys start y) (keys_from (start + 1) xs) i) [
        | inl own ↦
            let r = IsIn-map_from (outward_key (source start)) d (map outward_tag (outward y)) own in
            let q = IsIn-map_from outward_tag r.0 (outward y) r.1 in
            let n : start + 0 ≡ start = omega arith in
            record { place = 0; owner = y; end = q.0; here = refl; among = q.1; is = ap (λ (j : ℕ). key_out (source j) q.0) n ∙ ap (outward_key (source start)) q.2 ∙ r.2 }
        | inr other ↦
            let r = from_out xs (start + 1) d other in
            let n : start + suc r.place ≡ start + 1 + r.place = omega arith in
            record { place = suc r.place; owner = r.owner; end = r.end; here = r.here; among = r.among; is = ap (λ (j : ℕ). key_out (source j) r.end) n ∙ r.is }
      ]

feeds_are : (posters : List FeedLinks) (start : ℕ) → feed_keys start (map poster_tag posters) ≡ keys_from poster_links (λ k. Feed k) start posters
feeds_are [] start = refl
feeds_are (p ∷ posters) start = ap (λ (ks : List Key). own_keys poster_links (λ k. Feed k) start p ++ ks) (feeds_are posters (start + 1))

cells_are : (cells : List Cell) (start : ℕ) → outward_keys start (tags cells) ≡ keys_from (λ c. c.outward.items) (λ a. Actor a) start cells
cells_are [] start = refl
cells_are (c ∷ cells) start = ap (λ (ks : List Key). own_keys (λ (x : Cell). x.outward.items) (λ a. Actor a) start c ++ ks) (cells_are cells (start + 1))

module _ (posters : List FeedLinks) (cells : List Cell) where
  abbrev sending : List Key
  sending = sending_keys (tags cells) (map poster_tag posters)

  abbrev receiving : List Key
  receiving = inward_keys 0 (tags cells)

  abbrev outward : Source → List Outward
  outward source = outward_of posters cells source

  sends : (source : Source) (w : Outward) → IsIn w (outward source) → IsIn (key_out source w) sending
  sends (Feed zero) w i = absurd i
  sends (Feed (suc k)) w i = by (slice_get posters k) refl i
    where
      by : (o : Option FeedLinks) → slice_get posters k ≡ o → IsIn w (outward_of_poster o) → IsIn (key_out (Feed (suc k)) w) sending
      by None e j = absurd j
      by (Some poster) e j =
          let n : 1 + k ≡ suc k = omega arith in
          let here = out_key poster_links (λ m. Feed m) posters 1 k poster w e j in
          IsIn-append_left (key_out (Feed (suc k)) w) (feed_keys 1 (map poster_tag posters)) (outward_keys 0 (tags cells))
          (subst (λ (ks : List Key). IsIn (key_out (Feed (suc k)) w) ks) (sym (feeds_are posters 1)) (subst (λ (m : ℕ). IsIn (key_out (Feed m) w) (keys_from poster_links (λ j. Feed j) 1 posters)) n here))
  sends (Actor a) w i = by (slice_get cells a) refl i
    where
      by : (o : Option Cell) → slice_get cells a ≡ o → IsIn w (outward_of_cell o) → IsIn (key_out (Actor a) w) sending
      by None e j = absurd j
      by (Some cell) e j =
          let n : 0 + a ≡ a = omega arith in
          let here = out_key (λ (c : Cell). c.outward.items) (λ m. Actor m) cells 0 a cell w e j in
          IsIn-append_right (key_out (Actor a) w) (feed_keys 1 (map poster_tag posters)) (outward_keys 0 (tags cells))
          (subst (λ (ks : List Key). IsIn (key_out (Actor a) w) ks) (sym (cells_are cells 0)) (subst (λ (m : ℕ). IsIn (key_out (Actor m) w) (keys_from (λ (c : Cell). c.outward.items) (λ j. Actor j) 0 cells)) n here))

  -- an end of some source
  record IsSending (d : Key) : Type 0 where
    pub source : Source
    pub end : Outward
    pub among : IsIn end (outward source)
    pub is : key_out source end ≡ d

  from_sending : (d : Key) → IsIn d sending → IsSending d
  from_sending d i =
      elim (IsIn-append_cases d (feed_keys 1 (map poster_tag posters)) (outward_keys 0 (tags cells)) i) [
        | inl fed ↦
            let r = from_out poster_links (λ m. Feed m) posters 1 d (subst (λ (ks : List Key). IsIn d ks) (feeds_are posters 1) fed) in
            let n : suc r.place ≡ 1 + r.place = omega arith in
            record { source = Feed (suc r.place); end = r.end; among = subst (λ (o : Option FeedLinks). IsIn r.end (outward_of_poster o)) (sym r.here) r.among; is = ap (λ (m : ℕ). key_out (Feed m) r.end) n ∙ r.is }
        | inr posted ↦
            let r = from_out (λ (c : Cell). c.outward.items) (λ m. Actor m) cells 0 d (subst (λ (ks : List Key). IsIn d ks) (cells_are cells 0) posted) in
            let n : r.place ≡ 0 + r.place = omega arith in
            record { source = Actor r.place; end = r.end; among = subst (λ (o : Option Cell). IsIn r.end (outward_of_cell o)) (sym r.here) r.among; is = ap (λ (m : ℕ). key_out (Actor m) r.end) n ∙ r.is }
      ]

  went_is : (source : Source) (actor : ℕ) → sent_to (outward source) actor ≡ went posters cells source actor
  went_is (Feed zero) actor = refl
  went_is (Feed (suc k)) actor = by (slice_get posters k)
    where
      by : (o : Option FeedLinks) → sent_to (outward_of_poster o) actor ≡ poster_sent o actor
      by None = refl
      by (Some poster) = refl
  went_is (Actor a) actor = by (slice_get cells a)
    where
      by : (o : Option Cell) → sent_to (outward_of_cell o) actor ≡ cell_sent o actor
      by None = refl
      by (Some cell) = refl

  module _ (wired : AreLinked sending receiving) (have : HaveMet posters cells) (source : Source) (actor : ℕ) (cell : Cell) (at : slice_get cells actor ≡ Some cell) where
    receives : (v : Inward) → IsIn v cell.inward.items → IsIn (key_in actor v) receiving
    receives v i = let n : 0 + actor ≡ actor = omega arith in subst (λ (m : ℕ). IsIn (key_in m v) receiving) n (in_key cells 0 actor cell v at i)

    -- two ends of the source and the actor are of one link
    one_link : (v : Inward) (w : Outward) → IsIn v cell.inward.items → v.source ≡ source → IsIn w (outward source) → w.target ≡ actor → received v.link ≡ sent w.link
    one_link v w i e j f =
        let agree = all_in (λ (r : Key). All (λ (d : Key). Joins d r → d.2 ≡ r.2) sending) receiving wired.agree (key_in actor v) (receives v i) in
        let same = all_in (λ (d : Key). Joins d (key_in actor v) → d.2 ≡ (key_in actor v).2) sending agree (key_out source w) (sends source w j) (sym e, f) in
        have source actor cell w v at j i same

    -- where something may arrive, something may be sent
    sender : (v : Inward) → IsIn v cell.inward.items → v.source ≡ source → ((w : Outward) → IsIn w (outward source) → w.target ≡ actor → ⊥) → ⊥
    sender v i e none =
        let r = all_in (λ (x : Key). (k : ℕ) × (k < length sending) × ((d : Key) → Joins (get_or sending k d) x)) receiving wired.served (key_in actor v) (receives v i) in
        let d : Key = get_or sending r.0 (key_in actor v) in
        let joins = r.2 (key_in actor v) in
        let o = from_sending d (place_in sending r.0 (key_in actor v) r.1) in
        let same : o.source ≡ source = ap (λ (x : Key). x.0) o.is ∙ joins.0 ∙ e in
        none o.end (subst (λ (s : Source). IsIn o.end (outward s)) same o.among) (ap (λ (x : Key). x.1) o.is ∙ joins.1)

    receiver : (w : Outward) → IsIn w (outward source) → w.target ≡ actor → ((v : Inward) → IsIn v cell.inward.items → v.source ≡ source → ⊥) → ⊥
    receiver w j f none =
        let r = all_in (λ (x : Key). (k : ℕ) × (k < length receiving) × ((e : Key) → Joins x (get_or receiving k e))) sending wired.answered (key_out source w) (sends source w j) in
        let e : Key = get_or receiving r.0 (key_out source w) in
        let joins = r.2 (key_out source w) in
        let o = from_key cells 0 e (place_in receiving r.0 (key_out source w) r.1) in
        let place : 0 + o.place ≡ actor = ap (λ (x : Key). x.1) o.is ∙ sym joins.1 ∙ f in
        let there : o.place ≡ actor = omega (arith, place) in
        let same : o.cell ≡ cell = some_is (sym o.here ∙ ap (slice_get cells) there ∙ at) in
        none o.end (subst (λ (c : Cell). IsIn o.end c.inward.items) same o.among) (ap (λ (x : Key). x.0) o.is ∙ sym joins.0)
      where
        some_is : {x y : Cell} → Some x ≡ Some y → x ≡ y
        some_is h = cc

    pub arrived_all : received_from cell.inward.items source ≡ sent_to (outward source) actor
    arrived_all = by (finds_in cell.inward.items source) (finds_out (outward source) actor)
      where
        by : FindsIn cell.inward.items source → FindsOut (outward source) actor → received_from cell.inward.items source ≡ sent_to (outward source) actor
        by (inl f) (inl g) = f.1.1.1 ∙ one_link f.0 g.0 f.1.0 f.1.1.0 g.1.0 g.1.1.0 ∙ sym g.1.1.1
        by (inl f) (inr m) = absurd (sender f.0 f.1.0 f.1.1.0 m.1)
        by (inr n) (inl g) = absurd (receiver g.0 g.1.0 g.1.1.0 n.1)
        by (inr n) (inr m) = n.0 ∙ sym m.0

pub met_is_arrived : MetIsArrived
met_is_arrived posters cells wired have source actor cell at = arrived_all posters cells wired have source actor cell at ∙ went_is posters cells source actor
