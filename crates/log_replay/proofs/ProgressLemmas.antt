-- A text that comes piece by piece parts from the bytes where the whole text does.
use Rattle.std.proofs.Common.{◌≡◌, ◌∙◌, ℕ, zero, suc, ◌+◌, ◌<◌, ◌≤◌, List, [], ◌∷◌, ◌++◌, length, drop, get_or, Bool, true, false, Option, None, Some, slice_get, refl, sym, ap, arith}
use Rattle.std.specs.Prelude.{if◌then◌else◌, nat_lt, ◌==◌}
use Rattle.std.proofs.Math.ListN.{drop_of_length-le}
use Rattle.std.proofs.lemmas.Bool.Decides.{nat_tests}
use Rattle.std.proofs.lemmas.List.{drop_more}
use Rattle.std.proofs.lemmas.List.Sums.{count_by_more_no, count_by_more_yes}
use Rattle.log_replay.specs.declared.apart.Progress.{Progress}
use Rattle.log_replay.specs.declared.apart.Progress.TheVariants.{Along, Parted}
use Rattle.log_replay.proofs.ApartLemmas.{itself}
use Rattle.log_replay.specs.Apart.{behind, ended_before, ended_with, ends_line, lines_before, one_more, parted, with_byte}

-- one piece behind another
pub behind_both : (bytes : List ℕ) (progress : Progress) (a b : List ℕ) → behind bytes (behind bytes progress a) b ≡ behind bytes progress (a ++ b)
behind_both bytes progress [] b = refl
behind_both bytes progress (c ∷ a) b = behind_both bytes (with_byte bytes progress c) a b

pub stays : (bytes : List ℕ) (place : ℕ) (text : List ℕ) → behind bytes (Parted place) text ≡ Parted place
stays bytes place [] = refl
stays bytes place (c ∷ text) = stays bytes place text

here : (bytes : List ℕ) (place : ℕ) → place < length bytes → (b : ℕ) (rest : List ℕ) → drop place bytes ≡ b ∷ rest → slice_get bytes place ≡ Some b
here [] place l b rest e = absurd (omega arith)
here (x ∷ bytes) zero l b rest e = let same : x ≡ b = cc in ap (λ (n : ℕ). Some n) same
here (x ∷ bytes) (suc place) l b rest e = here bytes place (omega (arith, l)) b rest e

past : (bytes : List ℕ) (place : ℕ) → length bytes ≤ place → slice_get bytes place ≡ None
past [] place l = refl
past (x ∷ bytes) zero l = absurd (omega arith)
past (x ∷ bytes) (suc place) l = past bytes place (omega (arith, l))

-- a piece that stands there as a whole
pub piece_stands : (bytes : List ℕ) (place : ℕ) (piece rest : List ℕ) → place ≤ length bytes → drop place bytes ≡ piece ++ rest → behind bytes (Along place) piece ≡ Along (place + length piece)
piece_stands bytes place [] rest l e = let same : place ≡ place + 0 = omega arith in ap (λ (n : ℕ). Along n) same
piece_stands bytes place (c ∷ piece) rest l e = by (nat_lt place (length bytes)) refl (λ m t. piece_stands bytes (place + 1) piece rest m t)
  where
    Later : Type 0
    Later = place + 1 ≤ length bytes → drop (place + 1) bytes ≡ piece ++ rest → behind bytes (Along (place + 1)) piece ≡ Along (place + 1 + length piece)

    by : (x : Bool) → nat_lt place (length bytes) ≡ x → Later → behind bytes (one_more place c (slice_get bytes place)) piece ≡ Along (place + length (c ∷ piece))
    by true e1 later =
        let below : place < length bytes = grind (arith, nat_tests) in
        let own : ℕ = get_or bytes place 0 in
        let cut : own ∷ drop (place + 1) bytes ≡ c ∷ (piece ++ rest) = sym (drop_more bytes place 0 below) ∙ e in
        let tails : drop (place + 1) bytes ≡ piece ++ rest = cc in
        let count : place + 1 + length piece ≡ place + length (c ∷ piece) = omega arith in
        ap (λ (o : Option ℕ). behind bytes (one_more place c o) piece) (here bytes place below c (piece ++ rest) e)
        ∙ ap (λ (b : Bool). behind bytes (if b then Along (place + 1) else Parted place) piece) (itself c)
        ∙ later (omega (arith, below)) tails
        ∙ ap (λ (n : ℕ). Along n) count
    by false e1 later =
        let above : length bytes ≤ place = grind (arith, nat_tests) in
        let none : [] ≡ c ∷ (piece ++ rest) = sym (drop_of_length-le bytes above) ∙ e in
        absurd cc

-- a byte more in front of the place
count_step : (bytes : List ℕ) (place : ℕ) → place < length bytes → (x : Bool) → ends_line (get_or bytes place 0) ≡ x → ended_before bytes (place + 1) ≡ ended_with (get_or bytes place 0) (ended_before bytes place)
count_step bytes place below true e = count_by_more_yes ends_line bytes place 0 below e ∙ sym (ap (λ (b : Bool). if b then ended_before bytes place + 1 else ended_before bytes place) e)
count_step bytes place below false e = count_by_more_no ends_line bytes place 0 below e ∙ sym (ap (λ (b : Bool). if b then ended_before bytes place + 1 else ended_before bytes place) e)

-- the whole text at once
pub parts_where : (bytes : List ℕ) (place ended : ℕ) (text : List ℕ) → place ≤ length bytes → ended_before bytes place ≡ ended → parted bytes (behind bytes (Along place) text) ≡ lines_before ended (drop place bytes) text
parts_where bytes place ended [] l count = by (nat_lt place (length bytes)) refl
  where
    by : (x : Bool) → nat_lt place (length bytes) ≡ x → (if nat_lt place (length bytes) then Some (ended_before bytes place) else None) ≡ lines_before ended (drop place bytes) []
    by true e =
        let below : place < length bytes = grind (arith, nat_tests) in
        ap (λ (b : Bool). if b then Some (ended_before bytes place) else None) e
        ∙ ap (λ (n : ℕ). Some n) count
        ∙ sym (ap (λ (xs : List ℕ). lines_before ended xs []) (drop_more bytes place 0 below))
    by false e =
        let above : length bytes ≤ place = grind (arith, nat_tests) in
        ap (λ (b : Bool). if b then Some (ended_before bytes place) else None) e ∙ sym (ap (λ (xs : List ℕ). lines_before ended xs []) (drop_of_length-le bytes above))
parts_where bytes place ended (c ∷ text) l count = by (nat_lt place (length bytes)) refl (λ n m b. parts_where bytes (place + 1) n text m b)
  where
    Later : Type 0
    Later = (n : ℕ) → place + 1 ≤ length bytes → ended_before bytes (place + 1) ≡ n → parted bytes (behind bytes (Along (place + 1)) text) ≡ lines_before n (drop (place + 1) bytes) text

    parts : parted bytes (behind bytes (Parted place) text) ≡ Some ended
    parts = ap (parted bytes) (stays bytes place text) ∙ ap (λ (n : ℕ). Some n) count

    from : (own : ℕ) → place < length bytes → ended_before bytes (place + 1) ≡ ended_with own (ended_before bytes place) → Later → (x : Bool) → (own == c) ≡ x
        → parted bytes (behind bytes (one_more place c (Some own)) text) ≡ (if own == c then lines_before (ended_with own ended) (drop (place + 1) bytes) text else Some ended)
    from own below step later true e =
        ap (λ (b : Bool). parted bytes (behind bytes (if b then Along (place + 1) else Parted place) text)) e
        ∙ later (ended_with own ended) (omega (arith, below)) (step ∙ ap (ended_with own) count)
        ∙ sym (ap (λ (b : Bool). if b then lines_before (ended_with own ended) (drop (place + 1) bytes) text else Some ended) e)
    from own below step later false e =
        ap (λ (b : Bool). parted bytes (behind bytes (if b then Along (place + 1) else Parted place) text)) e
        ∙ parts
        ∙ sym (ap (λ (b : Bool). if b then lines_before (ended_with own ended) (drop (place + 1) bytes) text else Some ended) e)

    by : (x : Bool) → nat_lt place (length bytes) ≡ x → Later → parted bytes (behind bytes (one_more place c (slice_get bytes place)) text) ≡ lines_before ended (drop place bytes) (c ∷ text)
    by true e later =
        let below : place < length bytes = grind (arith, nat_tests) in
        let own : ℕ = get_or bytes place 0 in
        let at : drop place bytes ≡ own ∷ drop (place + 1) bytes = drop_more bytes place 0 below in
        ap (λ (o : Option ℕ). parted bytes (behind bytes (one_more place c o) text)) (here bytes place below own (drop (place + 1) bytes) at)
        ∙ from own below (count_step bytes place below (ends_line own) refl) later (own == c) refl
        ∙ sym (ap (λ (xs : List ℕ). lines_before ended xs (c ∷ text)) at)
    by false e later =
        let above : length bytes ≤ place = grind (arith, nat_tests) in
        ap (λ (o : Option ℕ). parted bytes (behind bytes (one_more place c o) text)) (past bytes place above)
        ∙ parts
        ∙ sym (ap (λ (xs : List ℕ). lines_before ended xs (c ∷ text)) (drop_of_length-le bytes above))
