-- Places in lists of keys, and links that keep their tags.
use Rattle.std.proofs.Common.{◌≡◌, ℕ, zero, suc, ◌+◌, ◌<◌, List, [], ◌∷◌, ◌++◌, length, map, get_or, set, All, refl, sym, ap, ◌∙◌, subst, arith}
use Rattle.std.proofs.lemmas.List.Elements.{All-nil, All-cons, All-head, All-tail}
use Rattle.post_ring.specs.Links.{identity_in, identity_out}
use Rattle.post_ring.specs.declared.link_in.LinkIn.{LinkIn}
use Rattle.post_ring.specs.declared.link_out.LinkOut.{LinkOut}
use Rattle.cell_links.specs.declared.ends.Inward.{Inward}
use Rattle.cell_links.specs.declared.ends.Outward.{Outward}
use Rattle.cell_links.specs.Ends.{inward_tag, outward_tag}
use Rattle.cell_links.specs.Wiring.{AreApart, Joins, Key}

-- two places with one source and one target are one place
pub one-place : (keys : List Key) (i j : ℕ) (d e : Key) → AreApart keys → i < length keys → j < length keys → Joins (get_or keys i d) (get_or keys j e) → i ≡ j
one-place [] i j d e apart a b same = absurd (omega arith)
one-place (k ∷ keys) zero zero d e apart a b same = refl
one-place (k ∷ keys) zero (suc j) d e apart a b same = absurd (apart.0 j e (omega (arith, b)) (sym same.0, sym same.1))
one-place (k ∷ keys) (suc i) zero d e apart a b same = absurd (apart.0 i d (omega (arith, a)) same)
one-place (k ∷ keys) (suc i) (suc j) d e apart a b same = ap suc (one-place keys i j d e apart.1 (omega (arith, a)) (omega (arith, b)) same)

pub All-former : {X : Type 0} (P : X → Type 0) (front back : List X) → All P (front ++ back) → All P front
All-former P [] back all = All-nil P
All-former P (x ∷ front) back all = All-cons P x front (All-head P x (front ++ back) all) (All-former P front back (All-tail P x (front ++ back) all))

pub apart-front : (xs ys : List Key) → AreApart (xs ++ ys) → AreApart xs
apart-front [] ys apart = tt
apart-front (x ∷ xs) ys apart = (All-former (λ d. ¬ (Joins d x)) xs ys apart.0, apart-front xs ys apart.1)

pub apart-back : (xs ys : List Key) → AreApart (xs ++ ys) → AreApart ys
apart-back [] ys apart = apart
apart-back (x ∷ xs) ys apart = apart-back xs ys apart.1

-- a link that keeps its identity keeps its tag
pub outward-set : (ws : List Outward) (k : ℕ) (w : Outward) (l : LinkIn) → k < length ws → get_or ws k w ≡ w → identity_in l ≡ identity_in w.link → map outward_tag (set ws k (record w { link = l })) ≡ map outward_tag ws
outward-set [] k w l within here same = absurd (omega arith)
outward-set (v ∷ ws) zero w l within here same = λ i. ((sym here i).target, (same ∙ ap (λ (o : Outward). identity_in o.link) (sym here)) i) ∷ map outward_tag ws
outward-set (v ∷ ws) (suc k) w l within here same = ap (λ r. outward_tag v ∷ r) (outward-set ws k w l (omega (arith, within)) here same)

pub inward-set : (ws : List Inward) (k : ℕ) (w : Inward) (l : LinkOut) → k < length ws → get_or ws k w ≡ w → identity_out l ≡ identity_out w.link → map inward_tag (set ws k (record w { link = l })) ≡ map inward_tag ws
inward-set [] k w l within here same = absurd (omega arith)
inward-set (v ∷ ws) zero w l within here same = λ i. ((sym here i).source, (same ∙ ap (λ (o : Inward). identity_out o.link) (sym here)) i) ∷ map inward_tag ws
inward-set (v ∷ ws) (suc k) w l within here same = ap (λ r. inward_tag v ∷ r) (inward-set ws k w l (omega (arith, within)) here same)
