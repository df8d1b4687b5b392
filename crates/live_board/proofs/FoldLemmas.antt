-- What a list of records makes of a board, record by record.
use Rattle.std.proofs.Common.{◌≡◌, ℕ, ◌+◌, add-one, Some, slice_get, subst, zero, suc, ◌≤◌, List, [], ◌∷◌, ◌++◌, fold, length, take, replicate, set, refl, sym, ap, ◌∙◌, arith}
use Rattle.std.proofs.Math.Seq.{take-length}
use Rattle.live_board.specs.declared.totals.Totals.{Totals}
use Rattle.live_board.specs.declared.record.Record.{Record}
use Rattle.live_board.specs.Folding.{board_of, no_totals, records_from, with_record}

fold-more : {A B : Type 0} (f : A → B → A) (a : A) (xs : List B) (x : B) → fold f a (xs ++ x ∷ []) ≡ f (fold f a xs) x
fold-more f a [] x = refl
fold-more f a (y ∷ xs) x = fold-more f (f a y) xs x

-- one record more
pub board-more : (n : ℕ) (records : List Record) (r : Record) → board_of n (records ++ r ∷ []) ≡ with_record (board_of n records) r
board-more n records r = fold-more with_record (replicate n no_totals) records r

-- where there is no such actor, nothing is replaced
pub set-far : {A : Type 0} (xs : List A) (i : ℕ) (a : A) → length xs ≤ i → set xs i a ≡ xs
set-far [] i a far = refl
set-far (x ∷ xs) zero a far = absurd (omega arith)
set-far (x ∷ xs) (suc i) a far = ap (λ l. x ∷ l) (set-far xs i a (omega arith))

length-set : {A : Type 0} (xs : List A) (i : ℕ) (a : A) → length (set xs i a) ≡ length xs
length-set [] i a = refl
length-set (x ∷ xs) zero a = refl
length-set (x ∷ xs) (suc i) a = ap suc (length-set xs i a)

pub fold-length : (records : List Record) (board : List Totals) → length (fold with_record board records) ≡ length board
fold-length [] board = refl
fold-length (r ∷ records) board = fold-length records (with_record board r) ∙ length-set board r.actor r.totals

length-replicate : {A : Type 0} (n : ℕ) (a : A) → length (replicate n a) ≡ n
length-replicate zero a = refl
length-replicate (suc n) a = ap suc (length-replicate n a)

pub board-length : (n : ℕ) (records : List Record) → length (board_of n records) ≡ n
board-length n records = fold-length records (replicate n no_totals) ∙ length-replicate n no_totals

-- ---- the first rows of a larger board

take-set : {A : Type 0} (n : ℕ) (xs : List A) (i : ℕ) (a : A) → take n (set xs i a) ≡ set (take n xs) i a
take-set zero xs i a = refl
take-set (suc n) [] i a = refl
take-set (suc n) (x ∷ xs) zero a = refl
take-set (suc n) (x ∷ xs) (suc i) a = ap (λ l. x ∷ l) (take-set n xs i a)

take-fold : (n : ℕ) (records : List Record) (board : List Totals) → take n (fold with_record board records) ≡ fold with_record (take n board) records
take-fold n [] board = refl
take-fold n (r ∷ records) board = take-fold n records (with_record board r) ∙ ap (λ b. fold with_record b records) (take-set n board r.actor r.totals)

take-replicate : {A : Type 0} (n m : ℕ) (a : A) → n ≤ m → take n (replicate m a) ≡ replicate n a
take-replicate zero m a few = refl
take-replicate (suc n) zero a few = absurd (omega arith)
take-replicate (suc n) (suc m) a few = ap (λ l. a ∷ l) (take-replicate n m a (omega arith))

pub first-rows : (n m : ℕ) (records : List Record) → n ≤ m → take n (board_of m records) ≡ board_of n records
first-rows n m records few = take-fold n records (replicate m no_totals) ∙ ap (λ b. fold with_record b records) (take-replicate n m no_totals few)

-- ---- a board that is entered row by row

go-more : {A : Type 0} (b rows : List A) (i : ℕ) (x : A) → length b ≡ length rows → slice_get rows i ≡ Some x → take i b ≡ take i rows → take (suc i) (set b i x) ≡ take (suc i) rows
go-more [] [] i x same at done = refl
go-more [] (r ∷ rows) i x same at done = absurd (omega (arith, same))
go-more (y ∷ b) [] i x same at done = absurd (omega (arith, same))
go-more (y ∷ b) (r ∷ rows) zero x same at done = (let e : r ≡ x = cc in ap (λ z. z ∷ []) (sym e))
go-more (y ∷ b) (r ∷ rows) (suc i) x same at done =
    let heads : y ≡ r = cc in
    let tails : take i b ≡ take i rows = cc in
    let rest = go-more b rows i x (omega (arith, same)) at tails in
    cc (heads, rest)

pub row-more : {A : Type 0} (b rows : List A) (i : ℕ) (x : A) → length b ≡ length rows → slice_get rows i ≡ Some x → take i b ≡ take i rows → take (i + 1) (set b i x) ≡ take (i + 1) rows
row-more b rows i x same at done = subst (λ (n : ℕ). take n (set b i x) ≡ take n rows) (sym (add-one i)) (go-more b rows i x same at done)

pub take-whole : {A : Type 0} (xs ys : List A) (n : ℕ) → length xs ≡ n → length ys ≡ n → take n xs ≡ take n ys → xs ≡ ys
take-whole xs ys n one two same = sym (take-all xs n one) ∙ same ∙ take-all ys n two
  where
    take-all : {B : Type 0} (zs : List B) (m : ℕ) → length zs ≡ m → take m zs ≡ zs
    take-all zs m all = subst (λ (k : ℕ). take k zs ≡ zs) all (take-length zs)

-- ---- the records of rows

abbrev row_of : ℕ → Totals → Record
row_of actor totals = record { actor = actor; totals = totals }

-- one row more
pub records-more : (from i actor : ℕ) (rows : List Totals) (x : Totals) → actor ≡ from + i → slice_get rows i ≡ Some x
    → records_from from (take (i + 1) rows) ≡ records_from from (take i rows) ++ row_of actor x ∷ []
records-more from i actor rows x is at =
    subst (λ (n : ℕ). records_from from (take n rows) ≡ records_from from (take i rows) ++ row_of actor x ∷ []) (sym (add-one i)) (go from i actor rows x is at)
  where
    go : (from i actor : ℕ) (rows : List Totals) (x : Totals) → actor ≡ from + i → slice_get rows i ≡ Some x
        → records_from from (take (suc i) rows) ≡ records_from from (take i rows) ++ row_of actor x ∷ []
    go from i actor [] x is at = absurd (let e : ⊥ = cc in e)
    go from zero actor (r ∷ rows) x is at =
        let same : r ≡ x = cc in
        let here : from ≡ actor = omega (arith, is) in
        ap (λ (t : Totals). row_of from t ∷ []) same ∙ ap (λ (n : ℕ). row_of n x ∷ []) here
    go from (suc i) actor (r ∷ rows) x is at =
        ap (λ l. row_of from r ∷ l) (go (from + 1) i actor rows x (omega (arith, is)) at)

-- the records of all rows
pub records-whole : (n : ℕ) (rows : List Totals) → n ≡ length rows → records_from 0 (take n rows) ≡ records_from 0 rows
records-whole n rows all = ap (records_from 0) (subst (λ (m : ℕ). take m rows ≡ rows) (sym all) (take-length rows))

pub replicate-more : {A : Type 0} (n : ℕ) (a : A) → replicate n a ++ a ∷ [] ≡ replicate (n + 1) a
replicate-more n a = go n ∙ ap (λ m. replicate m a) (sym (add-one n))
  where
    go : (n : ℕ) → replicate n a ++ a ∷ [] ≡ replicate (suc n) a
    go zero = refl
    go (suc n) = ap (λ l. a ∷ l) (go n)
