-- A link more.
use Rattle.std.proofs.Common.{◌≡◌, ℕ, zero, suc, ◌+◌, ◌<◌, List, [], ◌∷◌, ◌++◌, length, map, take, get_or, set, All, refl, sym, ap, ◌∙◌, subst, arith, append_assoc}
use Rattle.std.specs.Prelude.{slice_index_or}
use Rattle.std.proofs.lemmas.List.{get_or-map, get_or_append_left, get_or-append-add, get_or-take, length-map, length-append, length-take-le, map-append, append-nil}
use Rattle.std.proofs.lemmas.List.Elements.{All-cons, All-head, All-tail, All-append, All-push, All-map, All-set, All-get_or}
use Rattle.join_base.specs.declared.message.Source.{Source}
use Rattle.post_ring.specs.Links.{received, identity_in, identity_out}
use Rattle.cell_links.specs.declared.ends.Inward.{Inward}
use Rattle.cell_links.specs.declared.ends.Outward.{Outward}
use Rattle.cell_links.specs.Wiring.{AreApart, AreLinked, Joins, Key}
use Rattle.cell_links.specs.Making.{key_in, key_out, keys_from, AllNew, IsNewIn, Connects, ConnectsOne, TargetsApart}

-- an item more in the middle
pub All-insert : {X : Type 0} (P : X → Type 0) (front back : List X) (x : X) → All P (front ++ back) → P x → All P (front ++ x ∷ back)
All-insert P [] back x all here = All-cons P x back here all
All-insert P (y ∷ front) back x all here = All-cons P y (front ++ x ∷ back) (All-head P y (front ++ back) all) (All-insert P front back x (All-tail P y (front ++ back) all) here)

All-later : {X : Type 0} (P : X → Type 0) (front back : List X) → All P (front ++ back) → All P back
All-later P [] back all = all
All-later P (y ∷ front) back all = All-later P front back (All-tail P y (front ++ back) all)

apart-insert : (front back : List Key) (x : Key) → AreApart (front ++ back) → All (λ e. (¬ (Joins x e)) × (¬ (Joins e x))) (front ++ back) → AreApart (front ++ x ∷ back)
apart-insert [] back x apart fresh = ((λ k d lt. (fresh k d lt).1), apart)
apart-insert (y ∷ front) back x apart fresh = (
  All-insert (λ d. ¬ (Joins d y)) front back x apart.0 (All-head (λ e. (¬ (Joins x e)) × (¬ (Joins e x))) y (front ++ back) fresh).0,
  apart-insert front back x apart.1 (All-tail (λ e. (¬ (Joins x e)) × (¬ (Joins e x))) y (front ++ back) fresh),
)

-- a place that stands in a list stands in it with an item more
still-there : (P : Key → Type 0) (front back : List Key) (x : Key) → (k : ℕ) × (k < length (front ++ back)) × ((e : Key) → P (get_or (front ++ back) k e))
    → (k : ℕ) × (k < length (front ++ x ∷ back)) × ((e : Key) → P (get_or (front ++ x ∷ back) k e))
still-there P [] back x at = (suc at.0, omega (arith, at.1), at.2)
still-there P (y ∷ front) back x (zero, within, here) = (zero, omega arith, here)
still-there P (y ∷ front) back x (suc k, within, here) =
    let rest = still-there P front back x (k, omega (arith, within), here) in (suc rest.0, omega (arith, rest.1), rest.2)

-- the place of that item
new-there : (P : Key → Type 0) (front back : List Key) (x : Key) → P x → (k : ℕ) × (k < length (front ++ x ∷ back)) × ((e : Key) → P (get_or (front ++ x ∷ back) k e))
new-there P [] back x here = (zero, omega arith, λ e. here)
new-there P (y ∷ front) back x here = let rest = new-there P front back x here in (suc rest.0, omega (arith, rest.1), rest.2)

-- a link with a source and a target that no link has
pub linked-more : (sending front back : List Key) (x : Key) → AreLinked sending (front ++ back) → All (λ d. ¬ (Joins d x)) sending → AreLinked (sending ++ x ∷ []) (front ++ x ∷ back)
linked-more sending front back x linked fresh =
    let clash : (e : Key) → (k : ℕ) × (k < length sending) × ((d : Key) → Joins (slice_index_or sending k d) e) → (¬ (Joins x e)) × (¬ (Joins e x)) = λ e at. (
      (λ same. let other = at.2 x in fresh at.0 x at.1 (other.0 ∙ sym same.0, other.1 ∙ sym same.1)),
      (λ same. let other = at.2 x in fresh at.0 x at.1 (other.0 ∙ same.0, other.1 ∙ same.1)),
    ) in
    let before : All (λ e. (¬ (Joins x e)) × (¬ (Joins e x))) (front ++ back) = λ k d lt. clash (slice_index_or (front ++ back) k d) (linked.served k d lt) in
    record {
      agree = All-insert (λ e. All (λ d. Joins d e → d.2 ≡ e.2) (sending ++ x ∷ [])) front back x
          (λ k d lt. All-push (λ y. Joins y (slice_index_or (front ++ back) k d) → y.2 ≡ (slice_index_or (front ++ back) k d).2) sending x (linked.agree k d lt) (λ same. absurd ((before k d lt).0 same)))
          (All-push (λ y. Joins y x → y.2 ≡ x.2) sending x (λ k d lt same. absurd (fresh k d lt same)) (λ same. refl));
      served = All-insert (λ e. (k : ℕ) × (k < length (sending ++ x ∷ [])) × ((d : Key) → Joins (slice_index_or (sending ++ x ∷ []) k d) e)) front back x
          (λ k d lt.
          let at = linked.served k d lt in
          (at.0, omega (arith, length-append sending (x ∷ []), at.1), λ y. subst (λ (z : Key). Joins z (slice_index_or (front ++ back) k d)) (sym (get_or_append_left sending (x ∷ []) y at.0 at.1)) (at.2 y)))
          (length sending, omega (arith, length-append sending (x ∷ [])), λ y. subst (λ (z : Key). Joins z x) (sym (ap (λ (n : ℕ). get_or (sending ++ x ∷ []) n y) (let e : length sending ≡ length sending + 0 = omega arith in e) ∙ get_or-append-add sending (x ∷ []) 0 y)) (refl, refl));
      answered = All-push (λ d. (k : ℕ) × (k < length (front ++ x ∷ back)) × ((e : Key) → Joins d (slice_index_or (front ++ x ∷ back) k e))) sending x
          (λ k d lt. still-there (Joins (slice_index_or sending k d)) front back x (linked.answered k d lt)) (new-there (Joins x) front back x (refl, refl));
      apart = apart-insert front back x linked.apart before;
      single = apart-insert sending [] x (subst AreApart (sym (append-nil sending)) linked.single)
          (subst (All (λ e. (¬ (Joins x e)) × (¬ (Joins e x)))) (sym (append-nil sending)) (λ k d lt. ((λ same. fresh k d lt (sym same.0, sym same.1)), fresh k d lt)));
    }

-- the keys, where a link into the target t was added
pub keys-push : (i t : ℕ) (inwards : List (List Inward)) (w : Inward) → t < length inwards
    → (front : List Key) × (back : List Key) × (keys_from i inwards ≡ front ++ back) × (keys_from i (set inwards t (get_or inwards t [] ++ w ∷ [])) ≡ front ++ key_in (i + t) w ∷ back)
keys-push i t [] w within = absurd (omega arith)
keys-push i zero (ws ∷ more) w within = (
  map (key_in i) ws,
  keys_from (i + 1) more,
  refl,
  ap (λ l. l ++ keys_from (i + 1) more) (map-append (key_in i) ws (w ∷ [])) ∙ append_assoc (map (key_in i) ws) (key_in i w ∷ []) (keys_from (i + 1) more)
      ∙ ap (λ (n : ℕ). map (key_in i) ws ++ key_in n w ∷ keys_from (i + 1) more) (let e : i ≡ i + 0 = omega arith in e),
)
keys-push i (suc t) (ws ∷ more) w within =
    let rest = keys-push (i + 1) t more w (omega arith) in (
      map (key_in i) ws ++ rest.0,
      rest.1,
      ap (λ l. map (key_in i) ws ++ l) rest.2 ∙ sym (append_assoc (map (key_in i) ws) rest.0 rest.1),
      ap (λ l. map (key_in i) ws ++ l) rest.3 ∙ sym (append_assoc (map (key_in i) ws) rest.0 (key_in (i + 1 + t) w ∷ rest.1))
          ∙ ap (λ (n : ℕ). (map (key_in i) ws ++ rest.0) ++ key_in n w ∷ rest.1) (let e : i + 1 + t ≡ i + suc t = omega arith in e),
    )

get_or-any : {X : Type 0} (xs : List X) (t : ℕ) (d e : X) → t < length xs → get_or xs t d ≡ get_or xs t e
get_or-any [] t d e within = absurd (omega arith)
get_or-any (x ∷ xs) zero d e within = refl
get_or-any (x ∷ xs) (suc t) d e within = get_or-any xs t d e (omega arith)

-- one link made
pub connects-one : (source : Source) (t : ℕ) (inwards : List (List Inward)) (w : Outward) (r : Inward) → t < length inwards → w.target ≡ t → r.source ≡ source → identity_in w.link ≡ identity_out r.link
    → ConnectsOne source w inwards (set inwards t (get_or inwards t [] ++ r ∷ []))
connects-one source t inwards w r within target from one sending linked fresh =
    let keys = keys-push 0 t inwards r within in
    let x : Key = key_out source w in
    let same : key_in t r ≡ x = λ i. (from i, sym target i, sym one i) in
    let receiving : keys_from 0 (set inwards t (get_or inwards t [] ++ r ∷ [])) ≡ keys.0 ++ x ∷ keys.1 = keys.3 ∙ ap (λ (k : Key). keys.0 ++ k ∷ keys.1) ((let e : 0 + t ≡ t = omega arith in ap (λ (n : ℕ). key_in n r) e) ∙ same) in
    subst (λ (l : List Key). AreLinked (sending ++ x ∷ []) l) (sym receiving) (linked-more sending keys.0 keys.1 x (subst (λ (l : List Key). AreLinked sending l) keys.2 linked) fresh)

pub connects-set : (source : Source) (t : ℕ) (inwards : List (List Inward)) (w : Outward) (r : Inward) (was now : List Inward) → t < length inwards → was ≡ get_or inwards t was → now ≡ was ++ r ∷ []
    → w.target ≡ t → r.source ≡ source → identity_in w.link ≡ identity_out r.link → ConnectsOne source w inwards (set inwards t now)
connects-set source t inwards w r was now within here pushed target from one =
    let same : now ≡ get_or inwards t [] ++ r ∷ [] = pushed ∙ ap (λ l. l ++ r ∷ []) (here ∙ get_or-any inwards t was [] within) in
    subst (λ (l : List Inward). ConnectsOne source w inwards (set inwards t l)) (sym same) (connects-one source t inwards w r within target from one)

-- the target is none of the earlier ones
new_target : (targets : List ℕ) (i : ℕ) (w : Outward) (made : List Outward) → map (λ (o : Outward). o.target) made ≡ take i targets → w.target ≡ slice_index_or targets i 0 → TargetsApart targets → i < length targets
    → {source : Source} → All (λ (o : Outward). ¬ (Joins (key_out source o) (key_out source w))) made
new_target targets i w made are target apart lt k d within same =
    let count : length made ≡ i = sym (length-map made (λ (o : Outward). o.target)) ∙ ap length are ∙ length-take-le i targets (omega arith) in
    let at : get_or (take i targets) k 0 ≡ (get_or made k d).target = ap (λ (l : List ℕ). get_or l k 0) (sym are) ∙ get_or-map (λ (o : Outward). o.target) made k d 0 within in
    let below : k < i = omega (arith, count) in
    apart k i below lt (sym (get_or-take i targets k 0 below) ∙ at ∙ same.1 ∙ target)

-- a link more of the same source, to a target that it has no link to
pub connects-more : (source : Source) (made : List Outward) (w : Outward) (targets : List ℕ) (i : ℕ) (old mid now : List (List Inward)) → Connects source made old mid → ConnectsOne source w mid now
    → map (λ (o : Outward). o.target) made ≡ take i targets → w.target ≡ slice_index_or targets i 0 → TargetsApart targets → i < length targets → Connects source (made ++ w ∷ []) old now
connects-more source made w targets i old mid now connected one are target apart lt sending linked other =
    let x : Key = key_out source w in
    let fresh : All (λ d. ¬ (Joins d x)) (sending ++ map (key_out source) made) =
    All-append (λ d. ¬ (Joins d x)) sending (map (key_out source) made) (λ k d within same. other k d within same.0)
    (All-map (λ d. ¬ (Joins d x)) (key_out source) made (new_target targets i w made are target apart lt)) in
    let step = one (sending ++ map (key_out source) made) (connected sending linked other) fresh in
    subst (λ (l : List Key). AreLinked l (keys_from 0 now)) (append_assoc sending (map (key_out source) made) (x ∷ []) ∙ ap (λ l. sending ++ l) (sym (map-append (key_out source) made (w ∷ [])))) step

-- a link more over which nothing came
pub still-new : (t : ℕ) (inwards : List (List Inward)) (r : Inward) (was now : List Inward) → t < length inwards → was ≡ get_or inwards t was → now ≡ was ++ r ∷ [] → received r.link ≡ [] → AllNew inwards → AllNew (set inwards t now)
still-new t inwards r was now within here pushed new all =
    let before : All IsNewIn was = subst (All IsNewIn) (sym here) (All-get_or (All IsNewIn) inwards t was within all) in
    All-set (All IsNewIn) inwards t now (subst (All IsNewIn) (sym pushed) (All-push IsNewIn was r before new)) all
