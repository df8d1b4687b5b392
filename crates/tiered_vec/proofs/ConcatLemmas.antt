-- Blocks joined end to end, and a place in one of them.
use Rattle.std.proofs.Common.{◌≡◌, ◌∙◌, ℕ, zero, suc, ◌+◌, ◌<◌, ◌≤◌, List, [], ◌∷◌, ◌++◌, length, take, drop, get_or, set, refl, sym, ap, ap₂, append_assoc, append-nil, length-append, arith}
use Rattle.std.specs.List.{concat, remove}
use Rattle.std.proofs.lemmas.List.{take-append-le, drop-append-le, get_or-append-add, get_or_append_left, set_split, take_all}
use Rattle.tiered_vec.specs.Tiers.{block_at, count_before}

pub concat_append : (xs ys : List (List ℕ)) → concat (xs ++ ys) ≡ concat xs ++ concat ys
concat_append [] ys = refl
concat_append (x ∷ xs) ys = ap (λ t. x ++ t) (concat_append xs ys) ∙ sym (append_assoc x (concat xs) (concat ys))

pub concat_push : (xs : List (List ℕ)) (x : List ℕ) → concat (xs ++ x ∷ []) ≡ concat xs ++ x
concat_push xs x = concat_append xs (x ∷ []) ∙ ap (λ t. concat xs ++ t) (append-nil x)

-- the blocks before one, it, and those behind it
pub concat_split : (bs : List (List ℕ)) (i : ℕ) → i < length bs → concat bs ≡ concat (take i bs) ++ (block_at bs i ++ concat (drop (suc i) bs))
concat_split [] i within = absurd (omega (arith, within))
concat_split (b ∷ bs) zero within = refl
concat_split (b ∷ bs) (suc i) within = ap (λ t. b ++ t) (concat_split bs i (omega (arith, within))) ∙ sym (append_assoc b (concat (take i bs)) (block_at bs i ++ concat (drop (suc i) bs)))

-- the same once one was replaced
pub concat_set : (bs : List (List ℕ)) (i : ℕ) (b : List ℕ) → i < length bs → concat (set bs i b) ≡ concat (take i bs) ++ (b ++ concat (drop (suc i) bs))
concat_set bs i b within = ap concat (set_split bs i b within) ∙ concat_append (take i bs) (b ∷ drop (suc i) bs)

pub count_more : (bs : List (List ℕ)) (i : ℕ) → i < length bs → count_before bs (suc i) ≡ count_before bs i + length (block_at bs i)
count_more [] i within = absurd (omega (arith, within))
count_more (b ∷ bs) zero within = ap length (append-nil b) ∙ omega arith
count_more (b ∷ bs) (suc i) within = omega (arith, length-append b (concat (take (suc i) bs)), length-append b (concat (take i bs)), count_more bs i (omega (arith, within)))

pub count_all : (bs : List (List ℕ)) → count_before bs (length bs) ≡ length (concat bs)
count_all bs = ap (λ t. length (concat t)) (take_all (length bs) bs (omega arith))

-- what stands before a block, and it, is no more than all
pub count_within : (bs : List (List ℕ)) (i : ℕ) → i < length bs → count_before bs i + length (block_at bs i) ≤ length (concat bs)
count_within bs i within =
    let e = ap length (concat_split bs i within) in
    omega (arith, e, length-append (concat (take i bs)) (block_at bs i ++ concat (drop (suc i) bs)), length-append (block_at bs i) (concat (drop (suc i) bs)))

-- the number at a place of a block
pub concat_at : (bs : List (List ℕ)) (i p : ℕ) → i < length bs → p < length (block_at bs i) → get_or (concat bs) (count_before bs i + p) 0 ≡ get_or (block_at bs i) p 0
concat_at bs i p within inside =
    ap (λ t. get_or t (count_before bs i + p) 0) (concat_split bs i within)
    ∙ get_or-append-add (concat (take i bs)) (block_at bs i ++ concat (drop (suc i) bs)) p 0
    ∙ get_or_append_left (block_at bs i) (concat (drop (suc i) bs)) 0 p inside

-- a number goes out of the middle part
pub remove_within : (front b rest : List ℕ) (p : ℕ) → p < length b → remove (front ++ (b ++ rest)) (length front + p) ≡ front ++ (remove b p ++ rest)
remove_within [] b rest p inside =
    let e : 0 + p ≡ p = omega arith in
    ap (remove (b ++ rest)) e ∙ ap₂ (λ s t. s ++ t) (take-append-le p b rest (omega (arith, inside))) (drop-append-le (suc p) b rest (omega (arith, inside))) ∙ sym (append_assoc (take p b) (drop (suc p) b) rest)
remove_within (x ∷ xs) b rest p inside =
    let e : suc (length xs) + p ≡ suc (length xs + p) = omega arith in
    ap (remove (x ∷ (xs ++ (b ++ rest)))) e ∙ ap (λ t. x ∷ t) (remove_within xs b rest p inside)

-- a number goes out of a block
pub remove_at : (bs : List (List ℕ)) (i p : ℕ) → i < length bs → p < length (block_at bs i) → remove (concat bs) (count_before bs i + p) ≡ concat (take i bs) ++ (remove (block_at bs i) p ++ concat (drop (suc i) bs))
remove_at bs i p within inside =
    ap (λ t. remove t (count_before bs i + p)) (concat_split bs i within) ∙ remove_within (concat (take i bs)) (block_at bs i) (concat (drop (suc i) bs)) p inside
