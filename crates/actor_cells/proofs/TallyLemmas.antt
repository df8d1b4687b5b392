-- Tallies over looks and takes.
use Rattle.std.proofs.Common.{◌≡◌, ◌∙◌, ℕ, zero, suc, ◌+◌, ◌<◌, ◌≤◌, List, [], ◌∷◌, length, map, get_or, set, refl, ap, sym, arith}
use Rattle.post_ring.specs.declared.link_out.LinkOut.{LinkOut}
use Rattle.cell_links.specs.declared.ends.Inward.{Inward}
use Rattle.actor_cells.specs.declared.cell.LinkTally.{LinkTally}
use Rattle.actor_cells.specs.Lawful.{link_tally}
use Rattle.actor_cells.specs.Served.{LooksRose, all_received}
use Rattle.actor_cells.specs.Steps.{LooksStay, changed_at, looked_first, one_look, one_received}

-- the tally where one link changed
pub tally-set : (change : LinkTally → LinkTally) (ws : List Inward) (k : ℕ) (w : Inward) (l : LinkOut) → get_or ws k w ≡ w → link_tally (record w { link = l }) ≡ change (link_tally w) → map link_tally (set ws k (record w { link = l })) ≡ changed_at change (map link_tally ws) k
tally-set change [] k w l here is = refl
tally-set change (v ∷ ws) zero w l here is = λ i. (is ∙ ap (λ (o : Inward). change (link_tally o)) (sym here)) i ∷ map link_tally ws
tally-set change (v ∷ ws) (suc k) w l here is = ap (λ (ts : List LinkTally). link_tally v ∷ ts) (tally-set change ws k w l here is)

pub received-one : (tally : List LinkTally) (k : ℕ) → k < length tally → all_received (changed_at one_received tally k) ≡ all_received tally + 1
received-one [] k within = absurd (omega arith)
received-one (link ∷ tally) zero within = omega arith
received-one (link ∷ tally) (suc k) within = let rest = received-one tally k (omega arith) in omega (arith, rest)

pub received-look : (tally : List LinkTally) (k : ℕ) → all_received (changed_at one_look tally k) ≡ all_received tally
received-look [] k = refl
received-look (link ∷ tally) zero = refl
received-look (link ∷ tally) (suc k) = ap (λ (n : ℕ). link.received + n) (received-look tally k)

pub length-changed : (change : LinkTally → LinkTally) (tally : List LinkTally) (k : ℕ) → length (changed_at change tally k) ≡ length tally
length-changed change [] k = refl
length-changed change (link ∷ tally) zero = refl
length-changed change (link ∷ tally) (suc k) = ap suc (length-changed change tally k)

pub stay-refl : (tally : List LinkTally) → LooksStay tally tally
stay-refl [] = tt
stay-refl (link ∷ tally) = (omega arith, stay-refl tally)

pub stay-trans : (a b c : List LinkTally) → LooksStay a b → LooksStay b c → LooksStay a c
stay-trans [] [] [] p q = tt
stay-trans [] [] (z ∷ c) p q = absurd q
stay-trans [] (y ∷ b) c p q = absurd p
stay-trans (x ∷ a) [] c p q = absurd p
stay-trans (x ∷ a) (y ∷ b) [] p q = absurd q
stay-trans (x ∷ a) (y ∷ b) (z ∷ c) p q = (omega (arith, p.0, q.0), stay-trans a b c p.1 q.1)

pub stay-received : (tally : List LinkTally) (k : ℕ) → LooksStay tally (changed_at one_received tally k)
stay-received [] k = tt
stay-received (link ∷ tally) zero = (omega arith, stay-refl tally)
stay-received (link ∷ tally) (suc k) = (omega arith, stay-received tally k)

pub stay-look : (tally : List LinkTally) (k : ℕ) → LooksStay tally (changed_at one_look tally k)
stay-look [] k = tt
stay-look (link ∷ tally) zero = (omega arith, stay-refl tally)
stay-look (link ∷ tally) (suc k) = (omega arith, stay-look tally k)

pub stay-rose : (a b c : List LinkTally) → LooksStay a b → LooksRose b c → LooksRose a c
stay-rose [] [] [] p q = tt
stay-rose [] [] (z ∷ c) p q = absurd q
stay-rose [] (y ∷ b) c p q = absurd p
stay-rose (x ∷ a) [] c p q = absurd p
stay-rose (x ∷ a) (y ∷ b) [] p q = absurd q
stay-rose (x ∷ a) (y ∷ b) (z ∷ c) p q = (omega (arith, p.0, q.0), stay-rose a b c p.1 q.1)

-- looks at the first places, one after the other
pub looked-more : (k : ℕ) (tally : List LinkTally) → k < length tally → changed_at one_look (looked_first k tally) k ≡ looked_first (k + 1) tally
looked-more k [] within = absurd (omega arith)
looked-more zero (link ∷ tally) within = refl
looked-more (suc k) (link ∷ tally) within = ap (λ (ts : List LinkTally). one_look link ∷ ts) (looked-more k tally (omega arith)) ∙ ap (λ (n : ℕ). looked_first n (link ∷ tally)) (let e : suc (k + 1) ≡ suc k + 1 = omega arith in e)

pub looked-all : (k : ℕ) (tally : List LinkTally) → length tally ≤ k → LooksRose tally (looked_first k tally)
looked-all zero [] l = tt
looked-all (suc k) [] l = tt
looked-all zero (link ∷ tally) l = absurd (omega arith)
looked-all (suc k) (link ∷ tally) l = (omega arith, looked-all k tally (omega arith))
