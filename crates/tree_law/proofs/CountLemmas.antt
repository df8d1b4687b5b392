-- Where no path stands twice, there are as many as partial matches.
use Rattle.std.proofs.Common.{◌≡◌, inl, inr, ◌∙◌, ℕ, suc, ◌+◌, ◌<◌, ◌≤◌, List, [], ◌∷◌, ◌++◌, map, length, Bool, true, false, cond, Some, None, refl, sym, ap, subst, arith, length-append}
use Rattle.std.specs.List.{filter, flat_map, AllByRecursion}
use Rattle.std.specs.List.Sorted.{IsStrictlyIncreasing}
use Rattle.join_base.specs.declared.message.Message.{Message}
use Rattle.guard_eval.specs.Meaning.{Assignment}
use Rattle.pattern_core.specs.declared.definition.Definition.{Definition}
use Rattle.pattern_core.specs.Matches.{is_partial_match, assignments, with_pattern, usable, partial_matches, partial_count, is_of_kind, holds_number}
use Rattle.pattern_core.specs.Members.{IsIn}
use Rattle.pattern_core.specs.Window.{is_seen}
use Rattle.pattern_core.proofs.MembersLemmas.{IsIn-append_left, IsIn-append_right, IsIn-append_cases, IsIn-map_from, IsIn-filter_from, IsIn-flat_map_from}
use Rattle.guard_eval.specs.Meaning.{recorded_message}
use Rattle.std.specs.Prelude.{not, ◌&&◌}
use Rattle.match_tree.specs.Tree.{Tree, SameMembers, AreOnce}
use Rattle.tree_law.specs.Trees.{HoldAll, AreTreesOf, path_count}
use Rattle.std.specs.List.{sum_by}
use Rattle.std.proofs.lemmas.List.Sums.{sum_by-append, sum_by-cons}

-- ---- lists in which nothing stands twice

cut : {X : Type 0} (x : X) (ys : List X) → IsIn x ys → (front : List X) × (back : List X) × (front ++ x ∷ back ≡ ys)
cut x [] m = absurd m
cut {X} x (y ∷ ys) (inl e) = ([], ys, ap (λ (z : X). z ∷ ys) (sym e))
cut {X} x (y ∷ ys) (inr m) = let c = cut x ys m in (y ∷ c.0, c.1, ap (λ (zs : List X). y ∷ zs) c.2)

pub once_short : {X : Type 0} (xs ys : List X) → AreOnce xs → ((x : X) → IsIn x xs → IsIn x ys) → length xs ≤ length ys
once_short [] ys h among = omega arith
once_short {X} (x ∷ xs) ys h among =
    let c = cut x ys (among x (inl refl)) in
    let rest = once_short xs (c.0 ++ c.1) h.1 (left c.0 c.1 c.2) in
    let whole = ap length c.2 in
    omega (arith, length-append c.0 (x ∷ c.1), length-append c.0 c.1)
  where
    left : (front back : List X) → front ++ x ∷ back ≡ ys → (y : X) → IsIn y xs → IsIn y (front ++ back)
    left front back e y m =
        elim (IsIn-append_cases y front (x ∷ back) (subst (λ (zs : List X). IsIn y zs) (sym e) (among y (inr m)))) [
          | inl l ↦ IsIn-append_left y front back l
          | inr r ↦ elim r [ inl s ↦ absurd (h.0 (subst (λ (z : X). IsIn z xs) (sym s) m)) | inr k ↦ IsIn-append_right y front back k ]
        ]

-- the sum over items of which each stands once is at most that over a list that has them all
pub once_sum : {X : Type 0} (f : X → ℕ) (xs ys : List X) → AreOnce xs → ((x : X) → IsIn x xs → IsIn x ys) → sum_by f xs ≤ sum_by f ys
once_sum f [] ys h among = omega arith
once_sum {X} f (x ∷ xs) ys h among =
    let c = cut x ys (among x (inl refl)) in
    let rest = once_sum f xs (c.0 ++ c.1) h.1 (left c.0 c.1 c.2) in
    let whole = ap (sum_by f) c.2 in
    let here = sum_by-cons f x xs in
    let there = sum_by-cons f x c.1 in
    omega (arith, sum_by-append f c.0 (x ∷ c.1), sum_by-append f c.0 c.1)
  where
    left : (front back : List X) → front ++ x ∷ back ≡ ys → (y : X) → IsIn y xs → IsIn y (front ++ back)
    left front back e y m =
        elim (IsIn-append_cases y front (x ∷ back) (subst (λ (zs : List X). IsIn y zs) (sym e) (among y (inr m)))) [
          | inl l ↦ IsIn-append_left y front back l
          | inr r ↦ elim r [ inl s ↦ absurd (h.0 (subst (λ (z : X). IsIn z xs) (sym s) m)) | inr k ↦ IsIn-append_right y front back k ]
        ]

pub once_count : {X : Type 0} (xs ys : List X) → AreOnce xs → AreOnce ys → SameMembers xs ys → length xs ≡ length ys
once_count xs ys h k same = let a = once_short xs ys h same.to in let b = once_short ys xs k same.back in omega arith

pub once_filter : {X : Type 0} (p : X → Bool) (xs : List X) → AreOnce xs → AreOnce (filter p xs)
once_filter p [] h = tt
once_filter {X} p (x ∷ xs) h = by (p x) (once_filter p xs h.1)
  where
    by : (b : Bool) → AreOnce (filter p xs) → AreOnce (cond b (x ∷ filter p xs) (filter p xs))
    by true later = (λ m. h.0 (IsIn-filter_from p x xs m).0, later)
    by false later = later

once_map : {X Y : Type 0} (f : X → Y) → ((a b : X) → f a ≡ f b → a ≡ b) → (xs : List X) → AreOnce xs → AreOnce (map f xs)
once_map f apart [] h = tt
once_map {X} f apart (x ∷ xs) h = (λ m. let w = IsIn-map_from f (f x) xs m in h.0 (subst (λ (z : X). IsIn z xs) (apart w.0 x w.2) w.1), once_map f apart xs h.1)

once_append : {X : Type 0} (xs ys : List X) → AreOnce xs → AreOnce ys → ((x : X) → IsIn x xs → ¬ IsIn x ys) → AreOnce (xs ++ ys)
once_append [] ys h k apart = k
once_append {X} (x ∷ xs) ys h k apart =
    (λ m. elim (IsIn-append_cases x xs ys m) [ inl l ↦ h.0 l | inr r ↦ apart x (inl refl) r ], once_append xs ys h.1 k (λ y m. apart y (inr m)))

-- where each item tells what it was made of
once_flat : {X Y : Type 0} (f : X → List Y) (origin : Y → X) → ((x : X) (y : Y) → IsIn y (f x) → origin y ≡ x) → ((x : X) → AreOnce (f x)) → (xs : List X) → AreOnce xs → AreOnce (flat_map f xs)
once_flat f origin made each [] h = tt
once_flat {X} f origin made each (x ∷ xs) h =
    once_append (f x) (flat_map f xs) (each x) (once_flat f origin made each xs h.1)
    (λ y m k. let w = IsIn-flat_map_from f y xs k in h.0 (subst (λ (z : X). IsIn z xs) (sym (made w.0 y w.2) ∙ made x y m) w.1))

-- ---- the assignments

abbrev rest_of : Assignment → Assignment
rest_of [] = []
rest_of (slot ∷ slots) = slots

some_apart : (slots : Assignment) (a b : ℕ) → Some a ∷ slots ≡ Some b ∷ slots → a ≡ b
some_apart slots a b e = cc

some_not_none : (slots : Assignment) (a : ℕ) → Some a ∷ slots ≡ None ∷ slots → ⊥
some_not_none slots a e = absurd cc

module _ (messages : List Message) (seen : List ℕ) (once : AreOnce seen) where
  pattern_made : (kind : ℕ) (slots longer : Assignment) → IsIn longer (with_pattern messages seen kind slots) → rest_of longer ≡ slots
  pattern_made kind slots longer (inl e) = ap rest_of (sym e)
  pattern_made kind slots longer (inr m) = let w = IsIn-map_from (λ (n : ℕ). Some n ∷ slots) longer (usable messages seen kind slots) m in ap rest_of (sym w.2)

  pattern_once : (kind : ℕ) (slots : Assignment) → AreOnce (with_pattern messages seen kind slots)
  pattern_once kind slots = (
    λ m. let w = IsIn-map_from (λ (n : ℕ). Some n ∷ slots) (None ∷ slots) (usable messages seen kind slots) m in some_not_none slots w.0 w.2,
    once_map (λ (n : ℕ). Some n ∷ slots) (some_apart slots) (usable messages seen kind slots) (once_filter (λ n. is_of_kind (recorded_message messages n) kind && not (holds_number slots n)) seen once),
  )

  assignments_once : (kinds : List ℕ) → AreOnce (assignments messages seen kinds)
  assignments_once [] = (λ m. m, tt)
  assignments_once (kind ∷ kinds) = once_flat (with_pattern messages seen kind) rest_of (pattern_made kind) (pattern_once kind) (assignments messages seen kinds) (assignments_once kinds)

-- ---- numbers that rise

rising_tail : (x : ℕ) (xs : List ℕ) → IsStrictlyIncreasing (x ∷ xs) → IsStrictlyIncreasing xs
rising_tail x xs h k l = let e : suc k + 1 ≡ suc (k + 1) = omega arith in rw e at (h (suc k) (omega arith))

rising_behind : (x : ℕ) (xs : List ℕ) (y : ℕ) → IsStrictlyIncreasing (x ∷ xs) → IsIn y xs → x < y
rising_behind x [] y h m = absurd m
rising_behind x (z ∷ zs) y h (inl e) = let l : x < z = h 0 (omega arith) in omega arith
rising_behind x (z ∷ zs) y h (inr m) =
    let l : x < z = h 0 (omega arith) in
    let k = rising_behind z zs y (rising_tail x (z ∷ zs) h) m in
    omega arith

pub rising_once : (xs : List ℕ) → IsStrictlyIncreasing xs → AreOnce xs
rising_once [] h = tt
rising_once (x ∷ xs) h = (λ m. let l = rising_behind x xs x h m in omega arith, rising_once xs (rising_tail x xs h))

module _ (messages : List Message) (live : List ℕ) (rising : IsStrictlyIncreasing live) where
  pub partial_once : (d : Definition) → AreOnce (partial_matches messages live d)
  partial_once d =
      let seen = filter (is_seen d.window (length messages)) live in
      once_filter (is_partial_match messages d) (assignments messages seen d.patterns) (assignments_once messages seen (once_filter (is_seen d.window (length messages)) live (rising_once live rising)) d.patterns)

  -- the paths of all trees are as many as the partial matches of all definitions
  pub paths_counted : (rule : ℕ) (definitions : List Definition) (trees : List Tree) → AreTreesOf rule definitions trees → HoldAll messages live trees → AllByRecursion (λ tree. AreOnce tree.paths) trees
      → path_count trees ≡ partial_count messages live definitions
  paths_counted rule [] [] are hold once = refl
  paths_counted rule [] (tree ∷ trees) are hold once = absurd are
  paths_counted rule (d ∷ definitions) [] are hold once = absurd are
  paths_counted rule (d ∷ definitions) (tree ∷ trees) are hold once =
      let here = once_count tree.paths (partial_matches messages live tree.definition) once.0 (partial_once tree.definition) hold.0.partial ∙ ap (λ (x : Definition). length (partial_matches messages live x)) are.0 in
      let later = paths_counted (rule + 1) definitions trees are.2 hold.1 once.1 in
      λ i. here i + later i
