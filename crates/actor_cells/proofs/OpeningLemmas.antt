-- Opening cells are lawful.
use Rattle.std.proofs.Common.{◌≡◌, ◌∙◌, ℕ, zero, suc, ◌+◌, ◌<◌, ◌≤◌, List, [], ◌∷◌, ◌++◌, length, map, get_or, All, Bool, true, false, Some, refl, ap, sym, subst, arith}
use Rattle.std.specs.Prelude.{if◌then◌else◌, ◌==◌, Contains, replicate, slice_get}
use Rattle.std.specs.List.{AllByRecursion, flat_map}
use Rattle.std.proofs.lemmas.List.{length-replicate}
use Rattle.std.proofs.lemmas.List.Elements.{All-nil, All-head, All-tail, All-append, All-map}
use Rattle.join_base.specs.declared.message.Source.{Source}
use Rattle.join_base.specs.declared.message.Source.TheVariants.{Feed, Actor}
use Rattle.script_types.specs.declared.plan.Plan.{Plan}
use Rattle.script_types.specs.declared.plan.Rule.{Rule}
use Rattle.fair_semantics.specs.declared.run.Limits.{Limits}
use Rattle.fair_semantics.specs.Step.{State, opening}
use Rattle.fair_semantics.specs.Fair.{rules_of}
use Rattle.fair_semantics.specs.Linked.{arrived, entry_posts, same_source}
use Rattle.fair_semantics.proofs.ListLemmas.{each_from_All}
use Rattle.run_order_law.proofs.EventLemmas.{same_source_is}
use Rattle.actor_turn.specs.Held.{Held, posts_for}
use Rattle.actor_turn.specs.Rest.{HoldsPartialMatches}
use Rattle.post_ring.specs.Links.{received}
use Rattle.post_ring.specs.declared.identity.LinkIdentity.{LinkIdentity}
use Rattle.cell_links.specs.declared.ends.Inward.{Inward}
use Rattle.cell_links.specs.declared.ends.LinkTags.{LinkTags}
use Rattle.cell_links.specs.Ends.{PosterTag, outward_tag}
use Rattle.cell_links.specs.Making.{IsNewIn}
use Rattle.cell_links.specs.Wiring.{AreApart, IsWired, Joins, Key, feed_keys, inward_key, inward_keys, outward_key, outward_keys, sending_keys}
use Rattle.cell_links.proofs.PosterLemmas.{none-sent}
use Rattle.cell_links.proofs.TagLemmas.{All-former, apart-back, apart-front}
use Rattle.actor_cells.specs.declared.cell.Cell.{Cell}
use Rattle.actor_cells.specs.Lawful.{AreDifferent, AreDistinct, IsAmong, IsLawful, IsTag, actors_in, cell_tag, feeds_in, held_in, links_in, names_target, received_from, sources_in, state_in}
use Rattle.actor_cells.specs.Prepared.{IsOpening}
use Rattle.actor_cells.specs.Targets.{AreTargets}
use Rattle.actor_cells.proofs.StateLemmas.{Stands, stands_first}
use Rattle.actor_cells.proofs.LinkLemmas.{not-equal, targets-are, target_of}

-- ---- nothing came and nothing went

none-came : (ws : List Inward) → All IsNewIn ws → (source : Source) → received_from ws source ≡ []
none-came [] new source = refl
none-came (w ∷ ws) new source = by (same_source w.source source) (none-came ws (All-tail IsNewIn w ws new) source)
  where
    here : received w.link ≡ []
    here = All-head IsNewIn w ws new

    by : (b : Bool) → received_from ws source ≡ [] → (if b then received w.link else received_from ws source) ≡ []
    by true later = here
    by false later = later

none-waits : (n target : ℕ) → posts_for (replicate n []) target ≡ []
none-waits zero target = refl
none-waits (suc n) zero = refl
none-waits (suc n) (suc target) = none-waits n target

-- an opening cell with a tag is lawful
pub opening-lawful : (plan : Plan) (limits : Limits) (feeds ring index : ℕ) (c : Cell) → IsOpening plan limits feeds ring index c → IsTag (cell_tag c) → HoldsPartialMatches (held_in c) → IsLawful c
opening-lawful plan limits feeds ring index c o tag partial =
    let n : ℕ = length plan.actors in
    let state : state_in c ≡ opening feeds n = ap (λ (h : Held). h.state) o.actor in
    let feed_count : feeds_in c ≡ feeds = ap (λ (s : State). length s.late.feeds) state ∙ length-replicate feeds 0 in
    let actor_count : actors_in c ≡ n = ap (λ (s : State). length s.late.actors) state ∙ length-replicate n 0 in
    let is : opening (feeds_in c) (actors_in c) ≡ state_in c = (λ i. opening (feed_count i) (actor_count i)) ∙ sym state in
    let stands = subst (Stands (held_in c).setting (feeds_in c) (actors_in c) (received_from c.inward.items)) is (stands_first (held_in c).setting (feeds_in c) (actors_in c) (received_from c.inward.items) (none-came c.inward.items o.inward)) in
    record {
      tag = tag;
      outboxes = ap (λ (h : Held). length h.outbox) o.actor ∙ length-replicate n [] ∙ sym actor_count;
      in_order = stands.in_order;
      late = stands.late;
      history = ap (λ (h : Held). h.history) o.actor ∙ ap (λ (s : State). arrived (received_from c.inward.items) s.entries) (sym state);
      fair = stands.fair;
      partial = partial;
      posted = λ target within.
          (λ i. none-sent ring c.outward.items target o.outward i ++ (ap (λ (h : Held). posts_for h.outbox target) o.actor ∙ none-waits n target) i) ∙ ap (λ (s : State). flat_map (entry_posts target) s.entries) (sym state);
    }

-- ---- tags of links that are wired

feeds-known : (feeds actors k : ℕ) (posters : List PosterTag) → 1 ≤ k → k + length posters ≤ feeds + 1 → All (λ d. IsAmong feeds actors d.0) (feed_keys k posters)
feeds-known feeds actors k [] low high = All-nil (λ (d : Key). IsAmong feeds actors d.0)
feeds-known feeds actors k (t ∷ posters) low high =
    All-append (λ (d : Key). IsAmong feeds actors d.0) (map (outward_key (Feed k)) t) (feed_keys (k + 1) posters)
    (All-map (λ (d : Key). IsAmong feeds actors d.0) (outward_key (Feed k)) t (λ j d lt. (low, omega arith))) (feeds-known feeds actors (k + 1) posters (omega arith) (omega arith))

actors-known : (feeds actors i : ℕ) (tags : List LinkTags) → i + length tags ≤ actors → All (λ d. IsAmong feeds actors d.0) (outward_keys i tags)
actors-known feeds actors i [] high = All-nil (λ (d : Key). IsAmong feeds actors d.0)
actors-known feeds actors i (t ∷ tags) high =
    All-append (λ (d : Key). IsAmong feeds actors d.0) (map (outward_key (Actor i)) t.outward) (outward_keys (i + 1) tags)
    (All-map (λ (d : Key). IsAmong feeds actors d.0) (outward_key (Actor i)) t.outward (λ j d lt. let l : i < actors = omega arith in l)) (actors-known feeds actors (i + 1) tags (omega arith))

-- each link into a cell comes from a feed or an actor
sources-known : (feeds actors : ℕ) (tags : List LinkTags) (posters : List PosterTag) → length posters ≡ feeds → length tags ≡ actors → IsWired tags posters → All (λ d. IsAmong feeds actors d.0) (inward_keys 0 tags)
sources-known feeds actors tags posters many count wired k d within =
    let sending = sending_keys tags posters in
    let all : All (λ (e : Key). IsAmong feeds actors e.0) sending =
    All-append (λ (e : Key). IsAmong feeds actors e.0) (feed_keys 1 posters) (outward_keys 0 tags) (feeds-known feeds actors 1 posters (omega arith) (omega (arith, many))) (actors-known feeds actors 0 tags (omega (arith, count))) in
    let at = wired.served k d within in
    let e = get_or (inward_keys 0 tags) k d in
    subst (IsAmong feeds actors) (at.2 e).0 (all at.0 e at.1)

All-back : {X : Type 0} (P : X → Type 0) (front back : List X) → All P (front ++ back) → All P back
All-back P [] back all = all
All-back P (x ∷ front) back all = All-back P front back (All-tail P x (front ++ back) all)

-- the part of one cell
known-part : (P : Source → Type 0) (i k : ℕ) (tags : List LinkTags) (t : LinkTags) → slice_get tags k ≡ Some t → All (λ d. P d.0) (inward_keys i tags) → AllByRecursion P (map (λ e. e.0) t.inward)
known-part P i k [] t at all = absurd cc
known-part P i zero (u ∷ tags) t at all =
    let same : u ≡ t = cc in
    subst (λ (x : LinkTags). AllByRecursion P (map (λ e. e.0) x.inward)) same (go u.inward (All-former (λ (d : Key). P d.0) (map (inward_key i) u.inward) (inward_keys (i + 1) tags) all))
  where
    go : (es : List (Source × LinkIdentity)) → All (λ (d : Key). P d.0) (map (inward_key i) es) → AllByRecursion P (map (λ e. e.0) es)
    go [] each = tt
    go (e ∷ es) each = (All-head (λ (d : Key). P d.0) (inward_key i e) (map (inward_key i) es) each, go es (All-tail (λ (d : Key). P d.0) (inward_key i e) (map (inward_key i) es) each))
known-part P i (suc k) (u ∷ tags) t at all = known-part P (i + 1) k tags t at (All-back (λ (d : Key). P d.0) (map (inward_key i) u.inward) (inward_keys (i + 1) tags) all)

apart-part : (i k : ℕ) (tags : List LinkTags) (t : LinkTags) → slice_get tags k ≡ Some t → AreApart (inward_keys i tags) → AreDifferent (map (λ e. e.0) t.inward)
apart-part i k [] t at apart = absurd cc
apart-part i zero (u ∷ tags) t at apart =
    let same : u ≡ t = cc in
    subst (λ (x : LinkTags). AreDifferent (map (λ e. e.0) x.inward)) same (go u.inward (apart-front (map (inward_key i) u.inward) (inward_keys (i + 1) tags) apart))
  where
    different : (s t : Source) → ¬ (s ≡ t) → (b : Bool) → same_source s t ≡ b → same_source s t ≡ false
    different s t other true e = absurd (other (same_source_is s t e))
    different s t other false e = e

    others : (e : Source × LinkIdentity) (es : List (Source × LinkIdentity)) → All (λ (d : Key). ¬ (Joins d (inward_key i e))) (map (inward_key i) es) → AllByRecursion (λ s. same_source s e.0 ≡ false) (map (λ x. x.0) es)
    others e [] each = tt
    others e (f ∷ es) each = (
      different f.0 e.0 (λ is. All-head (λ (d : Key). ¬ (Joins d (inward_key i e))) (inward_key i f) (map (inward_key i) es) each (is, refl)) (same_source f.0 e.0) refl,
      others e es (All-tail (λ (d : Key). ¬ (Joins d (inward_key i e))) (inward_key i f) (map (inward_key i) es) each),
    )

    go : (es : List (Source × LinkIdentity)) → AreApart (map (inward_key i) es) → AreDifferent (map (λ e. e.0) es)
    go [] each = tt
    go (e ∷ es) each = (others e es each.0, go es each.1)
apart-part i (suc k) (u ∷ tags) t at apart = apart-part (i + 1) k tags t at (apart-back (map (inward_key i) u.inward) (inward_keys (i + 1) tags) apart)

-- ---- targets

distinct : (targets : List ℕ) → ((i j : ℕ) → i < j → j < length targets → get_or targets i 0 < get_or targets j 0) → AreDistinct targets
distinct [] rise = tt
distinct (t ∷ targets) rise = (go targets (λ j l. rise zero (suc j) (omega arith) (omega (arith, l))), distinct targets (λ i j l m. rise (suc i) (suc j) (omega (arith, l)) (omega (arith, m))))
  where
    go : (us : List ℕ) → ((j : ℕ) → j < length us → t < get_or us j 0) → AllByRecursion (λ u. (u == t) ≡ false) us
    go [] above = tt
    go (u ∷ us) above =
        let l = above zero (omega arith) in
        (not-equal u t (λ same. omega (arith, l, same)), go us (λ j m. above (suc j) (omega (arith, m))))

-- the tag of an opening cell whose links are wired, and go to the targets of its rules
pub opening-tag : (plan : Plan) (limits : Limits) (feeds ring index : ℕ) (c : Cell) (tags : List LinkTags) (posters : List PosterTag) (own : List ℕ) → IsOpening plan limits feeds ring index c → slice_get tags index ≡ Some (links_in c)
    → length tags ≡ length plan.actors → length posters ≡ feeds → IsWired tags posters → map target_of c.outward.items ≡ own → AreTargets (length plan.actors) (rules_of (slice_get plan.actors index)) own → IsTag (cell_tag c)
opening-tag plan limits feeds ring index c tags posters own o here count many wired targets are =
    let n : ℕ = length plan.actors in
    let feed_count : feeds_in c ≡ feeds = ap (λ (h : Held). length h.state.late.feeds) o.actor ∙ length-replicate feeds 0 in
    let actor_count : actors_in c ≡ n = ap (λ (h : Held). length h.state.late.actors) o.actor ∙ length-replicate n 0 in
    let known = known-part (IsAmong feeds n) 0 index tags (links_in c) here (sources-known feeds n tags posters many count wired) in
    let to : map (λ e. e.0) (map outward_tag c.outward.items) ≡ own = targets-are c.outward.items ∙ targets in
    let exist = each_from_All (λ t. t < n) own are.below in
    let rules : (held_in c).setting.rules ≡ rules_of (slice_get plan.actors index) = ap (λ (h : Held). h.setting.rules) o.actor in
    record {
      known = subst (λ (x : ℕ × ℕ). AllByRecursion (IsAmong x.0 x.1) (sources_in (cell_tag c))) (λ i. (sym feed_count i, sym actor_count i)) known;
      different = apart-part 0 index tags (links_in c) here wired.apart;
      exist = subst (λ (x : ℕ × List ℕ). AllByRecursion (λ t. t < x.0) x.1) (λ i. (sym actor_count i, sym to i)) exist;
      distinct = subst AreDistinct (sym to) (distinct own are.rise);
      named = λ target within names. subst (λ (ts : List ℕ). Contains ts target) (sym to) (are.all target (subst (λ (m : ℕ). target < m) actor_count within) (subst (λ (rs : List Rule). names_target rs target ≡ true) rules names));
    }
