-- Blocks of equal length, of which the last may have fewer numbers.
use Rattle.std.proofs.Common.{◌≡◌, ◌∙◌, ℕ, zero, suc, ◌+◌, ◌-◌, ◌*◌, ◌/◌, ◌%◌, ◌≢◌, ◌<◌, ◌≤◌, List, [], ◌∷◌, length, take, get_or, refl, ap, subst, length-append, arith}
use Rattle.std.specs.List.{concat}
use Rattle.std.proofs.lemmas.List.{get_or_read}
use Rattle.tiered_vec.specs.Tiers.{IsShorter, IsTiered, block_at, count_before}

record AreFull (bs : List (List ℕ)) : Type 0 where
  pub full : (i : ℕ) → suc i < length bs → length (block_at bs i) ≡ 2048
  pub within : (i : ℕ) → i < length bs → length (block_at bs i) ≤ 2048

rest_full : (b : List ℕ) (bs : List (List ℕ)) → AreFull (b ∷ bs) → AreFull bs
rest_full b bs h = record { full = λ i inside. h.full (suc i) (omega (arith, inside)); within = λ i inside. h.within (suc i) (omega (arith, inside)) }

tail_full : (b : List ℕ) (bs : List (List ℕ)) → IsTiered (b ∷ bs) → AreFull bs
tail_full b bs h = record { full = λ i inside. h.full (suc i) (omega arith) (omega (arith, inside)); within = λ i inside. h.within (suc i) (omega (arith, inside)) }

full_before : (bs : List (List ℕ)) → AreFull bs → (q : ℕ) → q < length bs → length (concat (take q bs)) ≡ q * 2048
full_before [] h q inside = absurd (omega (arith, inside))
full_before (b ∷ bs) h zero inside = refl
full_before (b ∷ bs) h (suc q) inside = omega (arith, length-append b (concat (take q bs)), full_before bs (rest_full b bs h) q (omega (arith, inside)), h.full 0 (omega (arith, inside)))

full_place : (bs : List (List ℕ)) → AreFull bs → (q m : ℕ) → m < 2048 → q * 2048 + m < length (concat bs) → (q < length bs) × (m < length (block_at bs q))
full_place [] h q m small inside = absurd (omega (arith, inside))
full_place (b ∷ []) h zero m small inside = (omega arith, omega (arith, inside, length-append b []))
full_place (b ∷ c ∷ cs) h zero m small inside = (omega arith, omega (arith, small, h.full 0 (omega arith)))
full_place (b ∷ bs) h (suc q) m small inside =
    let r = full_place bs (rest_full b bs h) q m small (omega (arith, inside, length-append b (concat bs), h.within 0 (omega arith))) in
    (omega (arith, r.0), r.1)

-- where a number behind the first block stands
pub record IsPlaced (bs : List (List ℕ)) (block within place : ℕ) : Type 0 where
  pub there : block < length bs
  pub inside : within < length (block_at bs block)
  pub same : count_before bs block + within ≡ place

placed : (bs : List (List ℕ)) (q m place : ℕ) → IsTiered bs → place < length (concat bs) → place ≡ length (block_at bs 0) + (q * 2048 + m) → m < 2048 → IsPlaced bs (suc q) m place
placed [] q m place h inside is small = absurd (omega (arith, inside))
placed (b ∷ bs) q m place h inside is small =
    let r = full_place bs (tail_full b bs h) q m small (omega (arith, inside, is, length-append b (concat bs))) in
    record {
      there = omega (arith, r.0);
      inside = r.1;
      same = omega (arith, is, length-append b (concat (take q bs)), full_before bs (tail_full b bs h) q (r.0));
    }

some_block : (bs : List (List ℕ)) (place : ℕ) → place < length (concat bs) → 0 < length bs
some_block [] place inside = absurd (omega (arith, inside))
some_block (b ∷ bs) place inside = omega arith

-- the same of a place, by what was read of the first block
pub placed_behind : (bs : List (List ℕ)) (first : List ℕ) (len place : ℕ) → IsTiered bs → place < length (concat bs) → first ≡ get_or bs 0 first → len ≡ length first → len ≤ place → IsPlaced bs (1 + (place - len) / 2048) ((place - len) % 2048) place
placed_behind bs first len place h inside read is past =
    let e = ap length (get_or_read bs 0 first (some_block bs place inside) read []) in
    let rest : ℕ = place - len in
    let more : suc (rest / 2048) ≡ 1 + rest / 2048 = omega arith in
    let split : rest ≡ (rest / 2048) * 2048 + rest % 2048 = omega arith in
    subst (λ k. IsPlaced bs k (rest % 2048) place) more (placed bs (rest / 2048) (rest % 2048) place h inside (omega (arith, e, is, past, split)) (omega arith))

counted : (bs : List (List ℕ)) (q : ℕ) → IsTiered bs → suc q < length bs → count_before bs (suc q) ≡ length (block_at bs 0) + q * 2048
counted [] q h inside = absurd (omega (arith, inside))
counted (b ∷ bs) q h inside = omega (arith, length-append b (concat (take q bs)), full_before bs (tail_full b bs h) q (omega (arith, inside)))

-- how many numbers stand before a block behind the first
pub counted_behind : (bs : List (List ℕ)) (first : List ℕ) (len block : ℕ) → IsTiered bs → block < length bs → block ≢ 0 → first ≡ get_or bs 0 first → len ≡ length first → len + (block - 1) * 2048 ≡ count_before bs block
counted_behind bs first len zero h inside behind read is = absurd (behind refl)
counted_behind bs first len (suc q) h inside behind read is =
    let e = ap length (get_or_read bs 0 first (omega (arith, inside)) read []) in
    let down : suc q - 1 ≡ q = omega arith in
    omega (arith, e, is, down, counted bs q h inside)

-- ---- what one call changes

pub shorter_tiered : (old new : List (List ℕ)) → IsTiered old → IsShorter old new → IsTiered new
shorter_tiered old new h s = record {
  filled = λ i behind inside. rw (s.others i behind) (h.filled i behind (omega (arith, inside, s.size)));
  within = within;
  full = λ i behind inside. s.others i behind ∙ h.full i behind (omega (arith, inside, s.size));
} where
  within : (i : ℕ) → i < length new → length (block_at new i) ≤ 2048
  within zero inside = omega (arith, s.first, h.within 0 (omega (arith, inside, s.size)))
  within (suc i) inside = rw (s.others (suc i) (omega arith)) (h.within (suc i) (omega (arith, inside, s.size)))
