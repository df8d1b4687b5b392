-- One source more.
use Rattle.std.proofs.Common.{◌≡◌, ℕ, zero, suc, ◌+◌, ◌<◌, ◌≤◌, List, [], ◌∷◌, ◌++◌, length, map, take, get_or, All, refl, sym, ap, ◌∙◌, subst, arith, append_assoc}
use Rattle.std.proofs.lemmas.List.{get_or-map, length-map, map-append, append-nil, take_more}
use Rattle.std.proofs.lemmas.List.Elements.{All-nil, All-cons, All-head, All-tail, All-append, All-map, All-replicate}
use Rattle.std.specs.Prelude.{replicate}
use Rattle.join_base.specs.declared.message.Source.{Source}
use Rattle.join_base.specs.declared.message.Source.TheVariants.{Feed, Actor}
use Rattle.post_ring.specs.declared.identity.LinkIdentity.{LinkIdentity}
use Rattle.cell_links.specs.declared.ends.Inward.{Inward}
use Rattle.cell_links.specs.declared.ends.Outward.{Outward}
use Rattle.cell_links.specs.declared.ends.ActorLinks.{ActorLinks}
use Rattle.cell_links.specs.declared.feed_links.FeedLinks.{FeedLinks}
use Rattle.cell_links.specs.Ends.{PosterTag, inward_tag, link_tags, outward_tag, poster_links, poster_tag}
use Rattle.cell_links.specs.Wiring.{AreLinked, IsWired, Joins, Key, feed_keys, inward_key, inward_keys, outward_key, outward_keys, sending_keys}
use Rattle.cell_links.specs.InOrder.{AreCounted, AreInOrder}
use Rattle.cell_links.specs.Making.{AllNew, AreNew, Connects, IsNewIn, IsNewOut, key_in, key_out, keys_from, sending_from}

feed_keys-push : (k n : ℕ) (tags : List PosterTag) (t : PosterTag) → n ≡ k + length tags → feed_keys k (tags ++ t ∷ []) ≡ feed_keys k tags ++ map (outward_key (Feed n)) t
feed_keys-push k n [] t at = append-nil _ ∙ ap (λ (m : ℕ). map (outward_key (Feed m)) t) (sym (let e : n ≡ k = omega (arith, at) in e))
feed_keys-push k n (u ∷ tags) t at =
    ap (λ l. map (outward_key (Feed k)) u ++ l) (feed_keys-push (k + 1) n tags t (omega (arith, at))) ∙ sym (append_assoc (map (outward_key (Feed k)) u) (feed_keys (k + 1) tags) (map (outward_key (Feed n)) t))

map-outward : (source : Source) (ws : List Outward) → map (outward_key source) (map outward_tag ws) ≡ map (key_out source) ws
map-outward source [] = refl
map-outward source (w ∷ ws) = λ i. key_out source w ∷ map-outward source ws i

map-inward : (target : ℕ) (ws : List Inward) → map (inward_key target) (map inward_tag ws) ≡ map (key_in target) ws
map-inward target [] = refl
map-inward target (w ∷ ws) = λ i. key_in target w ∷ map-inward target ws i

feeds-before : (k n : ℕ) (tags : List PosterTag) → k + length tags ≤ n → All (λ d. ¬ (d.0 ≡ Feed n)) (feed_keys k tags)
feeds-before k n [] below = All-nil (λ (d : Key). ¬ (d.0 ≡ Feed n))
feeds-before k n (t ∷ tags) below =
    All-append (λ (d : Key). ¬ (d.0 ≡ Feed n)) (map (outward_key (Feed k)) t) (feed_keys (k + 1) tags)
    (All-map (λ (d : Key). ¬ (d.0 ≡ Feed n)) (outward_key (Feed k)) t (λ j d lt same. let e : k ≡ n = feed-injective k n same in omega arith))
    (feeds-before (k + 1) n tags (omega arith))
  where
    feed-injective : (a b : ℕ) → Feed a ≡ Feed b → a ≡ b
    feed-injective a b e = cc

-- the links of one feed more
pub feed-more : (i : ℕ) (posters : List FeedLinks) (p : FeedLinks) (ws : List Outward) (old now : List (List Inward)) → poster_links p ≡ ws → length posters ≡ i → AreLinked (feed_keys 1 (map poster_tag posters)) (keys_from 0 old) → Connects (Feed (i + 1)) ws old now
    → AreLinked (feed_keys 1 (map poster_tag (posters ++ p ∷ []))) (keys_from 0 now)
feed-more i posters p ws old now own count linked connects =
    let tags = map poster_tag posters in
    let n : length tags ≡ i = length-map posters poster_tag ∙ count in
    let step = connects (feed_keys 1 tags) linked (feeds-before 1 (i + 1) tags (omega (arith, n))) in
    let keys : feed_keys 1 (map poster_tag (posters ++ p ∷ [])) ≡ feed_keys 1 tags ++ map (key_out (Feed (i + 1))) ws =
    ap (feed_keys 1) (map-append poster_tag posters (p ∷ [])) ∙ feed_keys-push 1 (i + 1) tags (poster_tag p) (omega (arith, n)) ∙ ap (λ l. feed_keys 1 tags ++ l) (map-outward (Feed (i + 1)) (poster_links p) ∙ ap (map (key_out (Feed (i + 1)))) own) in
    subst (λ (l : List Key). AreLinked l (keys_from 0 now)) (sym keys) step

no-actor : (k n : ℕ) (tags : List PosterTag) → All (λ d. ¬ (d.0 ≡ Actor n)) (feed_keys k tags)
no-actor k n [] = All-nil (λ (d : Key). ¬ (d.0 ≡ Actor n))
no-actor k n (t ∷ tags) =
    All-append (λ (d : Key). ¬ (d.0 ≡ Actor n)) (map (outward_key (Feed k)) t) (feed_keys (k + 1) tags)
    (All-map (λ (d : Key). ¬ (d.0 ≡ Actor n)) (outward_key (Feed k)) t (λ j d lt same. apart same)) (no-actor (k + 1) n tags)
  where
    apart : {a b : ℕ} → ¬ (Feed a ≡ Actor b)
    apart e = cc

sending_from-push : (k n : ℕ) (outwards : List (List Outward)) (ws : List Outward) → n ≡ k + length outwards → sending_from k (outwards ++ ws ∷ []) ≡ sending_from k outwards ++ map (key_out (Actor n)) ws
sending_from-push k n [] ws at = append-nil _ ∙ ap (λ (m : ℕ). map (key_out (Actor m)) ws) (sym (let e : n ≡ k = omega (arith, at) in e))
sending_from-push k n (us ∷ outwards) ws at =
    ap (λ l. map (key_out (Actor k)) us ++ l) (sending_from-push (k + 1) n outwards ws (omega (arith, at))) ∙ sym (append_assoc (map (key_out (Actor k)) us) (sending_from (k + 1) outwards) (map (key_out (Actor n)) ws))

actors-before : (k n : ℕ) (outwards : List (List Outward)) → k + length outwards ≤ n → All (λ d. ¬ (d.0 ≡ Actor n)) (sending_from k outwards)
actors-before k n [] below = All-nil (λ (d : Key). ¬ (d.0 ≡ Actor n))
actors-before k n (ws ∷ outwards) below =
    All-append (λ (d : Key). ¬ (d.0 ≡ Actor n)) (map (key_out (Actor k)) ws) (sending_from (k + 1) outwards)
    (All-map (λ (d : Key). ¬ (d.0 ≡ Actor n)) (key_out (Actor k)) ws (λ j d lt same. let e : k ≡ n = actor-injective k n same in omega arith))
    (actors-before (k + 1) n outwards (omega arith))
  where
    actor-injective : (a b : ℕ) → Actor a ≡ Actor b → a ≡ b
    actor-injective a b e = cc

-- the links of one actor more
pub actor-more : (i : ℕ) (outwards : List (List Outward)) (ws : List Outward) (old now : List (List Inward)) (tags : List PosterTag) → length outwards ≡ i → AreLinked (feed_keys 1 tags ++ sending_from 0 outwards) (keys_from 0 old) → Connects (Actor i) ws old now
    → AreLinked (feed_keys 1 tags ++ sending_from 0 (outwards ++ ws ∷ [])) (keys_from 0 now)
actor-more i outwards ws old now tags count linked connects =
    let before = All-append (λ (d : Key). ¬ (d.0 ≡ Actor i)) (feed_keys 1 tags) (sending_from 0 outwards) (no-actor 1 i tags) (actors-before 0 i outwards (omega (arith, count))) in
    let step = connects (feed_keys 1 tags ++ sending_from 0 outwards) linked before in
    let keys = append_assoc (feed_keys 1 tags) (sending_from 0 outwards) (map (key_out (Actor i)) ws) ∙ ap (λ l. feed_keys 1 tags ++ l) (sym (sending_from-push 0 i outwards ws (omega (arith, count)))) in
    subst (λ (l : List Key). AreLinked l (keys_from 0 now)) keys step

-- no link at all
keys-none : (i n : ℕ) → keys_from i (replicate n []) ≡ []
keys-none i zero = refl
keys-none i (suc n) = keys-none (i + 1) n

pub linked-none : (i n : ℕ) (inwards : List (List Inward)) → inwards ≡ replicate n [] → AreLinked [] (keys_from i inwards)
linked-none i n inwards none =
    let nothing : AreLinked [] [] = record {
      agree = All-nil (λ (e : Key). All (λ (d : Key). Joins d e → d.2 ≡ e.2) []);
      served = λ k d lt. absurd (omega (arith, lt));
      answered = λ k d lt. absurd (omega (arith, lt));
      apart = tt;
      single = tt;
    } in
    subst (λ (l : List Key). AreLinked [] l) (sym (ap (keys_from i) none ∙ keys-none i n)) nothing

pub new-none : (n : ℕ) (inwards : List (List Inward)) → inwards ≡ replicate n [] → AllNew inwards
new-none n inwards none = subst AllNew (sym none) (All-replicate (All IsNewIn) n [] (All-nil IsNewIn))

-- the keys of the tags are those of the links
keys-inward : (i : ℕ) (links : List ActorLinks) → inward_keys i (map link_tags links) ≡ keys_from i (map (λ (l : ActorLinks). l.inward.items) links)
keys-inward i [] = refl
keys-inward i (l ∷ links) = λ t. map-inward i l.inward.items t ++ keys-inward (i + 1) links t

keys-outward : (i : ℕ) (links : List ActorLinks) → outward_keys i (map link_tags links) ≡ sending_from i (map (λ (l : ActorLinks). l.outward.items) links)
keys-outward i [] = refl
keys-outward i (l ∷ links) = λ t. map-outward (Actor i) l.outward.items t ++ keys-outward (i + 1) links t

pub links-wired : (links : List ActorLinks) (posters : List FeedLinks) (inwards : List (List Inward)) (outwards : List (List Outward)) → map (λ (l : ActorLinks). l.inward.items) links ≡ inwards → map (λ (l : ActorLinks). l.outward.items) links ≡ outwards
    → AreLinked (feed_keys 1 (map poster_tag posters) ++ sending_from 0 outwards) (keys_from 0 inwards) → IsWired (map link_tags links) (map poster_tag posters)
links-wired links posters inwards outwards ins outs linked =
    let receiving : inward_keys 0 (map link_tags links) ≡ keys_from 0 inwards = keys-inward 0 links ∙ ap (keys_from 0) ins in
    let sending : sending_keys (map link_tags links) (map poster_tag posters) ≡ feed_keys 1 (map poster_tag posters) ++ sending_from 0 outwards =
    ap (λ l. feed_keys 1 (map poster_tag posters) ++ l) (keys-outward 0 links ∙ ap (sending_from 0) outs) in
    subst (λ (x : List Key × List Key). AreLinked x.0 x.1) (λ i. (sym sending i, sym receiving i)) linked

-- ---- targets, and links over which nothing went

abbrev pub target-of : Outward → ℕ
target-of w = w.target

abbrev pub targets-of : List (List Outward) → List (List ℕ)
targets-of outwards = map (map target-of) outwards

-- links to the targets 0, 1 and so on are in order
pub in-order : (ws : List Outward) (targets : List ℕ) → map target-of ws ≡ targets → AreCounted targets → AreInOrder ws
in-order ws targets are counted k d within =
    let many : length targets ≡ length ws = ap length (sym are) ∙ length-map ws target-of in
    sym (get_or-map target-of ws k d 0 within) ∙ ap (λ (l : List ℕ). get_or l k 0) are ∙ counted k 0 (omega (arith, many, within))

pub targets-same : (links : List ActorLinks) (outwards : List (List Outward)) → map (λ (l : ActorLinks). l.outward.items) links ≡ outwards → map (λ (l : ActorLinks). map target-of l.outward.items) links ≡ targets-of outwards
targets-same links outwards are = both links ∙ ap targets-of are
  where
    both : (ls : List ActorLinks) → map (λ (l : ActorLinks). map target-of l.outward.items) ls ≡ targets-of (map (λ (l : ActorLinks). l.outward.items) ls)
    both [] = refl
    both (l ∷ ls) = λ i. map target-of l.outward.items ∷ both ls i

pub links-new : (ring : ℕ) (links : List ActorLinks) (inwards : List (List Inward)) (outwards : List (List Outward)) → map (λ (l : ActorLinks). l.inward.items) links ≡ inwards → map (λ (l : ActorLinks). l.outward.items) links ≡ outwards
    → AllNew inwards → All (All (IsNewOut ring)) outwards → All (AreNew ring) links
links-new ring links inwards outwards ins outs new sends = go links (subst AllNew (sym ins) new) (subst (All (All (IsNewOut ring))) (sym outs) sends)
  where
    go : (ls : List ActorLinks) → AllNew (map (λ (l : ActorLinks). l.inward.items) ls) → All (All (IsNewOut ring)) (map (λ (l : ActorLinks). l.outward.items) ls) → All (AreNew ring) ls
    go [] new sends = All-nil (AreNew ring)
    go (l ∷ ls) new sends =
        All-cons (AreNew ring) l ls
        (record {
          inward = All-head (All IsNewIn) l.inward.items (map (λ (k : ActorLinks). k.inward.items) ls) new;
          outward = All-head (All (IsNewOut ring)) l.outward.items (map (λ (k : ActorLinks). k.outward.items) ls) sends;
        })
        (go ls (All-tail (All IsNewIn) l.inward.items (map (λ (k : ActorLinks). k.inward.items) ls) new) (All-tail (All (IsNewOut ring)) l.outward.items (map (λ (k : ActorLinks). k.outward.items) ls) sends))

-- the targets of one actor more
pub targets-more : (outwards : List (List Outward)) (made : List Outward) (own : List ℕ) (all : List (List ℕ)) (i : ℕ) → i < length all → get_or all i own ≡ own → map target-of made ≡ own → targets-of outwards ≡ take i all
    → targets-of (outwards ++ made ∷ []) ≡ take (i + 1) all
targets-more outwards made own all i within here same are = map-append (map target-of) outwards (made ∷ []) ∙ (λ t. are t ++ (same ∙ sym here) t ∷ []) ∙ sym (take_more all i own within)
