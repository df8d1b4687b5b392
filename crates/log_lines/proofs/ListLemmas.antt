-- Numbers with commas between them.
use Rattle.std.proofs.Common.{◌≡◌, ◌∙◌, ℕ, ◌-◌, ◌^◌, true, List, [], ◌∷◌, ◌++◌, Option, None, Some, refl, sym, ap, append_assoc, ◌==◌}
use Rattle.std.specs.List.{onto_first, slice_split}
use Rattle.std.proofs.lemmas.List.Splits.{slice_split-cons_no}
use Rattle.log_lines.specs.Gives.{◌>>=◌}
use Rattle.log_lines.specs.Cut.{cut, lacks}
use Rattle.log_lines.specs.Numbers.{number_of}
use Rattle.log_lines.specs.Messages.{all_numbers}
use Rattle.log_lines.proofs.CutLemmas.{cut_none, cut_takes, first_lacks, rest_lacks}

abbrev pub comma_parts : List ℕ → List (List ℕ)
comma_parts text = slice_split (λ (b : ℕ). b == 44) text

pub split_again : (front rest : List ℕ) → lacks 44 front ≡ true → comma_parts (front ++ 44 ∷ rest) ≡ front ∷ comma_parts rest
split_again [] rest none = refl
split_again (x ∷ xs) rest none =
    slice_split-cons_no (λ (b : ℕ). b == 44) x (xs ++ 44 ∷ rest) (first_lacks (x == 44) (lacks 44 xs) none)
    ∙ ap (onto_first x) (split_again xs rest (rest_lacks (x == 44) (lacks 44 xs) none))

pub split_last : (text : List ℕ) → lacks 44 text ≡ true → comma_parts text ≡ text ∷ []
split_last [] none = refl
split_last (x ∷ xs) none =
    slice_split-cons_no (λ (b : ℕ). b == 44) x xs (first_lacks (x == 44) (lacks 44 xs) none)
    ∙ ap (onto_first x) (split_last xs (rest_lacks (x == 44) (lacks 44 xs) none))

-- the same behind numbers that were read
abbrev pub behind : List ℕ → Option (List ℕ) → Option (List ℕ)
behind front None = None
behind front (Some ns) = Some (front ++ ns)

behind_more : (front : List ℕ) (n : ℕ) (read : Option (List ℕ)) → behind front (read >>= λ ns. Some (n ∷ ns)) ≡ behind (front ++ n ∷ []) read
behind_more front n None = refl
behind_more front n (Some ns) = ap (λ l. Some l) (sym (append_assoc front (n ∷ []) ns))

-- the number of a part
abbrev pub part_number : List ℕ → Option ℕ
part_number part = number_of (2 ^ 32 - 1) part

module _ (front text : List ℕ) (all : Option (List ℕ)) (told : behind front (all_numbers (comma_parts text)) ≡ all) where
  step : (part : List ℕ) (parts : List (List ℕ)) → comma_parts text ≡ part ∷ parts → behind front (part_number part >>= λ n. all_numbers parts >>= λ ns. Some (n ∷ ns)) ≡ all
  step part parts is = ap (λ (l : List (List ℕ)). behind front (all_numbers l)) (sym is) ∙ told

  parts_is : (part more : List ℕ) → cut 44 text ≡ Some (part, more) → comma_parts text ≡ part ∷ comma_parts more
  parts_is part more is = let taken = cut_takes 44 text (part, more) is in ap comma_parts taken.split ∙ split_again part more taken.none

  pub goes_on : (part more : List ℕ) (n : ℕ) → cut 44 text ≡ Some (part, more) → part_number part ≡ Some n → behind (front ++ n ∷ []) (all_numbers (comma_parts more)) ≡ all
  goes_on part more n is number =
      sym (behind_more front n (all_numbers (comma_parts more)))
      ∙ ap (λ (o : Option ℕ). behind front (o >>= λ n. all_numbers (comma_parts more) >>= λ ns. Some (n ∷ ns))) (sym number)
      ∙ step part (comma_parts more) (parts_is part more is)

  pub no_part : (part more : List ℕ) → cut 44 text ≡ Some (part, more) → part_number part ≡ None → all ≡ None
  no_part part more is number =
      sym (step part (comma_parts more) (parts_is part more is)) ∙ ap (λ (o : Option ℕ). behind front (o >>= λ n. all_numbers (comma_parts more) >>= λ ns. Some (n ∷ ns))) number

  last_is : cut 44 text ≡ None → comma_parts text ≡ text ∷ []
  last_is none = split_last text (cut_none 44 text none)

  pub ends_with : (n : ℕ) → cut 44 text ≡ None → part_number text ≡ Some n → all ≡ Some (front ++ n ∷ [])
  ends_with n none number =
      sym (step text [] (last_is none)) ∙ ap (λ (o : Option ℕ). behind front (o >>= λ n. all_numbers [] >>= λ ns. Some (n ∷ ns))) number

  pub no_last : cut 44 text ≡ None → part_number text ≡ None → all ≡ None
  no_last none number =
      sym (step text [] (last_is none)) ∙ ap (λ (o : Option ℕ). behind front (o >>= λ n. all_numbers [] >>= λ ns. Some (n ∷ ns))) number
