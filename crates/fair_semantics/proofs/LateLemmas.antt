-- The list of late counts that a run shows has those of the state.
use Rattle.std.proofs.Common.{◌≡◌, ◌∙◌, ℕ, zero, suc, ◌+◌, ◌<◌, List, [], ◌∷◌, ◌++◌, length, Bool, true, false, refl, ap, sym, arith}
use Rattle.std.specs.Prelude.{if◌then◌else◌, not, ◌||◌, ◌==◌, slice_index}
use Rattle.std.specs.List.{list_any}
use Rattle.std.proofs.lemmas.List.{append-nil}
use Rattle.std.proofs.lemmas.Bool.Decides.{nat_tests}
use Rattle.join_base.specs.declared.message.Source.{Source}
use Rattle.join_base.specs.declared.message.Source.TheVariants.{Feed, Actor}
use Rattle.join_base.specs.Late.{Late}
use Rattle.join_base.specs.Late.{late_counts, late_list}
use Rattle.fair_semantics.specs.Linked.{count_of, same_source}

abbrev pub some_of : List ℕ → Bool
some_of counts = list_any (λ n. not (n == 0)) counts

-- the list of counts of one sort of source
module _ (source : ℕ → Source) (same : (i j : ℕ) → same_source (source i) (source j) ≡ (i == j)) where
  -- a source before the first is not listed
  count_before : (k from : ℕ) (counts : List ℕ) (rest : List (Source × ℕ)) → k < from → count_of (source k) (late_list source from counts ++ rest) ≡ count_of (source k) rest
  count_before k from [] rest l = refl
  count_before k from (c ∷ counts) rest l =
      let later = count_before k (from + 1) counts rest (omega arith) in
      let other : same_source (source from) (source k) ≡ false = same from k ∙ differ from k l in
      by (c == 0) later other
    where
      differ : (a b : ℕ) → b < a → (a == b) ≡ false
      differ a b e = grind (arith, nat_tests)

      by : (b : Bool) → count_of (source k) (late_list source (from + 1) counts ++ rest) ≡ count_of (source k) rest → same_source (source from) (source k) ≡ false → count_of (source k) ((if b then late_list source (from + 1) counts else (source from, c) ∷ late_list source (from + 1) counts) ++ rest) ≡ count_of (source k) rest
      by true later other = later
      by false later other = rw other later

  pub count_at : (j from : ℕ) (counts : List ℕ) (rest : List (Source × ℕ)) → ((k : ℕ) → count_of (source k) rest ≡ 0) → j < length counts → count_of (source (from + j)) (late_list source from counts ++ rest) ≡ slice_index counts j
  count_at j from [] rest none l = absurd (omega arith)
  count_at zero from (c ∷ counts) rest none l =
      let e : from + 0 ≡ from = omega arith in
      ap (λ (k : ℕ). count_of (source k) (late_list source from (c ∷ counts) ++ rest)) e ∙ by (c == 0) (count_before from (from + 1) counts rest (omega arith) ∙ none from) (same from from ∙ equal from) (zero_is c)
    where
      equal : (a : ℕ) → (a == a) ≡ true
      equal a = grind (arith, nat_tests)

      zero_is : (n : ℕ) → (n == 0) ≡ true → 0 ≡ n
      zero_is n e = grind (arith, nat_tests)

      by : (b : Bool) → count_of (source from) (late_list source (from + 1) counts ++ rest) ≡ 0 → same_source (source from) (source from) ≡ true → (b ≡ true → 0 ≡ c) → count_of (source from) ((if b then late_list source (from + 1) counts else (source from, c) ∷ late_list source (from + 1) counts) ++ rest) ≡ c
      by true later here is_zero = later ∙ is_zero refl
      by false later here is_zero = rw here refl
  count_at (suc j) from (c ∷ counts) rest none l =
      let e : from + 1 + j ≡ from + suc j = omega arith in
      let later = count_at j (from + 1) counts rest none (omega arith) in
      let further : count_of (source (from + suc j)) (late_list source (from + 1) counts ++ rest) ≡ slice_index counts j = ap (λ (k : ℕ). count_of (source k) (late_list source (from + 1) counts ++ rest)) (sym e) ∙ later in
      by (c == 0) further (same from (from + suc j) ∙ differ from j)
    where
      differ : (a b : ℕ) → (a == a + suc b) ≡ false
      differ a b = grind (arith, nat_tests)

      by : (b : Bool) → count_of (source (from + suc j)) (late_list source (from + 1) counts ++ rest) ≡ slice_index counts j → same_source (source from) (source (from + suc j)) ≡ false → count_of (source (from + suc j)) ((if b then late_list source (from + 1) counts else (source from, c) ∷ late_list source (from + 1) counts) ++ rest) ≡ slice_index counts j
      by true later other = later
      by false later other = rw other later

  -- sources of the other sort are not listed
  pub count_of_other : (one : Source) → ((k : ℕ) → same_source (source k) one ≡ false) → (from : ℕ) (counts : List ℕ) (rest : List (Source × ℕ)) → count_of one (late_list source from counts ++ rest) ≡ count_of one rest
  count_of_other one other from [] rest = refl
  count_of_other one other from (c ∷ counts) rest = by (c == 0) (count_of_other one other (from + 1) counts rest) (other from)
    where
      by : (b : Bool) → count_of one (late_list source (from + 1) counts ++ rest) ≡ count_of one rest → same_source (source from) one ≡ false → count_of one ((if b then late_list source (from + 1) counts else (source from, c) ∷ late_list source (from + 1) counts) ++ rest) ≡ count_of one rest
      by true later here = later
      by false later here = rw here later

  -- where nothing is listed, each count is 0
  pub none_listed : (from : ℕ) (counts : List ℕ) (rest : List (Source × ℕ)) → late_list source from counts ++ rest ≡ [] → (some_of counts ≡ false) × (rest ≡ [])
  none_listed from [] rest e = (refl, e)
  none_listed from (c ∷ counts) rest e = by (c == 0) (none_listed (from + 1) counts rest) e
    where
      by : (b : Bool) → (late_list source (from + 1) counts ++ rest ≡ [] → (some_of counts ≡ false) × (rest ≡ [])) → (if b then late_list source (from + 1) counts else (source from, c) ∷ late_list source (from + 1) counts) ++ rest ≡ [] → ((not b || some_of counts) ≡ false) × (rest ≡ [])
      by true later e = later e
      by false later e = absurd cc

abbrev pub actors_listed : Late → List (Source × ℕ)
actors_listed late = late_list (λ a. Actor a) 0 late.actors

no_feed : (from k : ℕ) (counts : List ℕ) → count_of (Feed k) (late_list (λ a. Actor a) from counts) ≡ 0
no_feed from k [] = refl
no_feed from k (c ∷ counts) = by (c == 0) (no_feed (from + 1) k counts)
  where
    by : (b : Bool) → count_of (Feed k) (late_list (λ a. Actor a) (from + 1) counts) ≡ 0 → count_of (Feed k) (if b then late_list (λ a. Actor a) (from + 1) counts else (Actor from, c) ∷ late_list (λ a. Actor a) (from + 1) counts) ≡ 0
    by true later = later
    by false later = later

-- the counts that are listed are those of the state
pub feed_count : (late : Late) (k : ℕ) → k < length late.feeds → count_of (Feed (1 + k)) (late_counts late) ≡ slice_index late.feeds k
feed_count late k l = count_at (λ k. Feed k) (λ i j. refl) k 1 late.feeds (actors_listed late) (λ j. no_feed 0 j late.actors) l

pub actor_count : (late : Late) (a : ℕ) → a < length late.actors → count_of (Actor (0 + a)) (late_counts late) ≡ slice_index late.actors a
actor_count late a l =
    count_of_other (λ k. Feed k) (λ i j. refl) (Actor (0 + a)) (λ k. refl) 1 late.feeds (actors_listed late)
    ∙ ap (count_of (Actor (0 + a))) (sym (append-nil (actors_listed late)))
    ∙ count_at (λ a. Actor a) (λ i j. refl) a 0 late.actors [] (λ j. refl) l
