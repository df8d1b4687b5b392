-- The first number that is at least so great, in numbers that rise and stand in blocks.
use Rattle.std.proofs.Common.{◌≡◌, ◌∙◌, ℕ, zero, suc, ◌+◌, ◌-◌, ◌<◌, ◌≤◌, List, [], length, get_or, slice_index, refl, sym, ap, ⊎_elim, arith}
use Rattle.std.specs.List.{concat}
use Rattle.std.proofs.lemmas.Bool.{cases_eq}
use Rattle.std.proofs.lemmas.List.{get_or_read}
use Rattle.tiered_vec.specs.Tiers.{IsBegun, IsTiered, block_at, count_before}
use Rattle.tiered_vec.proofs.ConcatLemmas.{concat_at, count_all, count_more, count_within}

-- the number at a place of the whole list, by what was read of its block
pub read_at : (bs : List (List ℕ)) (xs b : List ℕ) (k p place r : ℕ) → concat bs ≡ xs → k < length bs → p < length (block_at bs k) → count_before bs k + p ≡ place → b ≡ get_or bs k b → r ≡ slice_index b p → r ≡ slice_index xs place
read_at bs xs b k p place r is there inside same read found =
    found ∙ ap (λ t. slice_index t p) (get_or_read bs k b there read []) ∙ sym (concat_at bs k p there inside) ∙ ap (slice_index (concat bs)) same ∙ ap (λ t. slice_index t place) is

pub record Rises (xs : List ℕ) : Type 0 where
  pub rise : (i j : ℕ) → i < j → j < length xs → slice_index xs i < slice_index xs j

pub record IsFound (xs : List ℕ) (number place : ℕ) : Type 0 where
  pub within : place ≤ length xs
  pub less : (i : ℕ) → i < place → slice_index xs i < number
  pub reached : place < length xs → number ≤ slice_index xs place

-- where the number before a place is less, all before it are
all_less : (xs : List ℕ) (number place : ℕ) → Rises xs → place ≤ length xs → ((i : ℕ) → suc i ≡ place → slice_index xs i < number) → (i : ℕ) → i < place → slice_index xs i < number
all_less xs number place h inside last i before = ⊎_elim
    (λ e. last i e)
    (λ apart.
    let j : ℕ = place - 1 in
    let next : suc j ≡ place = omega (arith, before) in
    let up : slice_index xs i < slice_index xs j = h.rise i j (omega (arith, before, apart)) (omega (arith, before, inside)) in
    let end : slice_index xs j < number = last j next in
    omega (arith, up, end))
    (cases_eq (suc i) place)

all_filled : (bs : List (List ℕ)) → IsTiered bs → IsBegun bs → (i : ℕ) → i < length bs → 0 < length (block_at bs i)
all_filled bs h begun zero inside = begun inside
all_filled bs h begun (suc i) inside = h.filled (suc i) (omega arith) inside

-- the number before a block is the last of that before it
end_less : (bs : List (List ℕ)) (number k : ℕ) → IsTiered bs → IsBegun bs → k ≤ length bs → ((i : ℕ) → suc i ≡ k → slice_index (block_at bs i) (length (block_at bs i) - 1) < number) → (i : ℕ) → suc i ≡ count_before bs k → slice_index (concat bs) i < number
end_less bs number zero h begun inside less i is = absurd (omega (arith, is))
end_less bs number (suc k) h begun inside less i is =
    let there : k < length bs = omega (arith, inside) in
    let some : 0 < length (block_at bs k) = all_filled bs h begun k there in
    let last : ℕ = length (block_at bs k) - 1 in
    let e : count_before bs k + last ≡ i = omega (arith, is, some, count_more bs k there) in
    let at : slice_index (concat bs) i ≡ slice_index (block_at bs k) last = ap (slice_index (concat bs)) (sym e) ∙ concat_at bs k last there (omega (arith, some)) in
    rw at (less k refl)

-- no block has it
pub found_end : (bs : List (List ℕ)) (xs : List ℕ) (number k len : ℕ) → IsTiered bs → IsBegun bs → concat bs ≡ xs → Rises xs → k ≡ length bs → len ≡ length (concat bs) → ((i : ℕ) → suc i ≡ k → slice_index (block_at bs i) (length (block_at bs i) - 1) < number) → IsFound xs number len
found_end bs xs number k len h begun is rises last size less =
    let n = ap length is in
    let e = ap (count_before bs) last ∙ count_all bs in
    record {
      within = omega (arith, n, size);
      less = all_less xs number len rises (omega (arith, n, size)) (λ i next. rw (ap (λ t. slice_index t i) (sym is)) (end_less bs number k h begun (omega (arith, last)) less i (next ∙ size ∙ sym e)));
      reached = λ inside. absurd (omega (arith, n, size, inside));
    }

-- the number before a place of a block: in the block, or the last of that before it
last_less : (bs : List (List ℕ)) (xs b : List ℕ) (number k before i j : ℕ) → IsTiered bs → IsBegun bs → concat bs ≡ xs → k < length bs
    → ((i : ℕ) → suc i ≡ k → slice_index (block_at bs i) (length (block_at bs i) - 1) < number) → before ≡ count_before bs k
    → ((p : ℕ) → p < length b → slice_index xs (before + p) ≡ slice_index b p) → j ≤ length b
    → ((i : ℕ) → suc i ≡ j → slice_index b i < number) → suc i ≡ before + j → slice_index xs i < number
last_less bs xs b number k before i zero h begun is there less size at within under next =
    rw (ap (λ t. slice_index t i) (sym is)) (end_less bs number k h begun (omega (arith, there)) less i (omega (arith, next, size)))
last_less bs xs b number k before i (suc j) h begun is there less size at within under next =
    let e : i ≡ before + j = omega (arith, next) in
    rw (ap (slice_index xs) e ∙ at j (omega (arith, within))) (under j refl)

-- this block has it
pub found_in : (bs : List (List ℕ)) (xs b : List ℕ) (number k j before : ℕ) → IsTiered bs → IsBegun bs → concat bs ≡ xs → Rises xs → k < length bs
    → ((i : ℕ) → suc i ≡ k → slice_index (block_at bs i) (length (block_at bs i) - 1) < number)
    → (k < length bs → number ≤ slice_index (block_at bs k) (length (block_at bs k) - 1))
    → before ≡ count_before bs k → b ≡ get_or bs k b → j ≤ length b
    → ((i : ℕ) → suc i ≡ j → slice_index b i < number) → (j < length b → number ≤ slice_index b j) → IsFound xs number (before + j)
found_in bs xs b number k j before h begun is rises there less reached size read within under over =
    let n = ap length is in
    let e : b ≡ block_at bs k = get_or_read bs k b there read [] in
    let l = ap length e in
    let some : 0 < length (block_at bs k) = all_filled bs h begun k there in
    let fits = count_within bs k there in
    let inside : before + j ≤ length xs = omega (arith, n, l, size, within, fits) in
    let at : (p : ℕ) → p < length b → slice_index xs (before + p) ≡ slice_index b p = λ p low. ap (λ t. slice_index t (before + p)) (sym is) ∙ ap (λ t. slice_index (concat bs) (t + p)) size ∙ concat_at bs k p there (omega (arith, low, l)) ∙ ap (λ t. slice_index t p) (sym e) in
    record {
      within = inside;
      less = all_less xs number (before + j) rises inside (λ i next. last_less bs xs b number k before i j h begun is there less size at within under next);
      reached = λ low. ⊎_elim
          (λ full.
          let j' : ℕ = length b - 1 in
          let top : slice_index b j' < number = under j' (omega (arith, full, some, l)) in
          let same : slice_index (block_at bs k) (length (block_at bs k) - 1) ≡ slice_index b j' = ap (λ t. slice_index t (length t - 1)) (sym e) in
          absurd (omega (arith, top, same, reached there)))
          (λ apart. rw (at j (omega (arith, apart, within))) (over (omega (arith, apart, within))))
          (cases_eq j (length b));
    }
