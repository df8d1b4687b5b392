-- A loop that changes each item of a list, and one that takes the least of all.
use Rattle.std.proofs.Common.{◌≡◌, ◌∙◌, ℕ, zero, suc, ◌+◌, ◌<◌, ◌≤◌, ◌-◌, ◌^◌, min, List, [], ◌∷◌, ◌++◌, map, length, take, drop, get_or, slice_set, Option, Some, None, refl, sym, ap, subst, arith, append_assoc}
use Rattle.std.proofs.lemmas.List.{take_more, take_more_set, drop-set-lt, drop_more, map-append, take_all, drop_all, length-set}
use Rattle.std.specs.List.{AllByRecursion}
use Rattle.pattern_core.specs.declared.candidate.Candidate.{Candidate}
use Rattle.pattern_core.specs.Choice.{least, lesser_of}
use Rattle.pattern_core.proofs.BestLemmas.{least-append}
use Rattle.tree_rows.proofs.WalkLemmas.{all_at, left_item, left_more}
use Rattle.match_tree.specs.Tree.{Tree, Reserve, IsReserved, offer_to}
use Rattle.match_tree.specs.Tries.{tries}
use Rattle.std.specs.Prelude.{MatchOption}
use Rattle.join_base.specs.declared.message.Message.{Message}
use Rattle.tree_law.specs.Trees.{best_of, reserve_best, settled_tree, HasOnce, IsReservedAt, AreSettled, path_count, tries_at}
use Rattle.join_base.proofs.EachLemmas.{each_last}

-- the items so far were changed, and the others are as before
pub record IsChanged {X : Type 0} (f : X → X) (before now : List X) (i : ℕ) : Type 0 where
  pub done : take i now ≡ map f (take i before)
  pub left : drop i now ≡ drop i before
  pub count : length now ≡ length before

pub changed_more : {X : Type 0} (f : X → X) (before now : List X) (i : ℕ) (d x : X) → i < length before → IsChanged f before now i → x ≡ f (get_or now i d) → IsChanged f before (slice_set now i x) (i + 1)
changed_more {X} f before now i d x within h is =
    let at : get_or now i d ≡ get_or before i d = left_item now before i d h.left in
    let inside : i < length now = omega (arith, h.count) in
    record {
      done = take_more_set now i x inside ∙ (λ j. h.done j ++ (is ∙ ap f at) j ∷ []) ∙ sym (map-append f (take i before) (get_or before i d ∷ [])) ∙ ap (map f) (sym (take_more before i d within));
      left = drop-set-lt (i + 1) now i x (omega arith) ∙ left_more now before i h.left;
      count = length-set now i x ∙ h.count;
    }

-- before the first item nothing was changed
pub changed_none : {X : Type 0} (f : X → X) (xs : List X) → IsChanged f xs xs 0
changed_none f xs = record { done = refl; left = refl; count = refl }

-- behind the last all were
pub changed_all : {X : Type 0} (f : X → X) (before now : List X) (i : ℕ) → length now ≤ i → IsChanged f before now i → now ≡ map f before
changed_all f before now i past h = sym (take_all i now past) ∙ h.done ∙ ap (map f) (take_all i before (omega (arith, h.count)))

-- ---- the least of all

abbrev listed : Option Candidate → List Candidate
listed None = []
listed (Some c) = c ∷ []

least-listed : (a : Option Candidate) → least (listed a) ≡ a
least-listed None = refl
least-listed (Some c) = refl

both_listed : (a b : Option Candidate) → least (listed a ++ listed b) ≡ lesser_of a b
both_listed a b = least-append (listed a) (listed b) ∙ (λ i. lesser_of (least-listed a i) (least-listed b i))

pub lesser_assoc : (a b c : Option Candidate) → lesser_of (lesser_of a b) c ≡ lesser_of a (lesser_of b c)
lesser_assoc a b c =
    sym (least-append (listed a ++ listed b) (listed c) ∙ (λ i. lesser_of (both_listed a b i) (least-listed c i)))
    ∙ ap least (append_assoc (listed a) (listed b) (listed c))
    ∙ least-append (listed a) (listed b ++ listed c)
    ∙ (λ i. lesser_of (least-listed a i) (both_listed b c i))

pub lesser_none : (a : Option Candidate) → lesser_of a None ≡ a
lesser_none None = refl
lesser_none (Some c) = refl

-- an item that is still as before
pub item_before : {X : Type 0} (f : X → X) (P : X → Type 0) (before now : List X) (i : ℕ) (d : X) → i < length before → IsChanged f before now i → AllByRecursion P before → P (get_or now i d)
item_before f P before now i d within h all = subst P (sym (left_item now before i d h.left)) (all_at P before i d within all)

-- the least with one tree more
pub best_more : (trees : List Tree) (i : ℕ) (d : Tree) (best found next : Option Candidate) → i < length trees → lesser_of best (best_of (drop i trees)) ≡ best_of trees → found ≡ reserve_best (get_or trees i d).reserve → next ≡ lesser_of best found
    → lesser_of next (best_of (drop (i + 1) trees)) ≡ best_of trees
best_more trees i d best found next within h is made =
    let rest : Option Candidate = best_of (drop (i + 1) trees) in
    (λ j. lesser_of ((made ∙ ap (lesser_of best) is) j) rest)
    ∙ lesser_assoc best (reserve_best (get_or trees i d).reserve) rest
    ∙ ap (λ (ts : List Tree). lesser_of best (best_of ts)) (sym (drop_more trees i d within))
    ∙ h

-- what `best_with` tells
pub told_best : (reserve : Option Reserve) (found : Option Candidate) → MatchOption reserve (found ≡ None) (λ r. found ≡ r.best) → found ≡ reserve_best reserve
told_best None found h = h
told_best (Some r) found h = h

-- ---- trees that differ in what is set aside alone

-- the trees so far are reserved, and the others are as before
pub record IsReserving (messages : List Message) (number : ℕ) (before now : List Tree) (i : ℕ) : Type 0 where
  pub same : map settled_tree now ≡ map settled_tree before
  pub done : AllByRecursion (IsReservedAt messages number) (take i now)
  pub left : drop i now ≡ drop i before
  pub count : length now ≡ length before

pub reserving_none : (messages : List Message) (number : ℕ) (trees : List Tree) → IsReserving messages number trees trees 0
reserving_none messages number trees = record { same = refl; done = tt; left = refl; count = refl }

settled_set : (trees : List Tree) (i : ℕ) (d x : Tree) → i < length trees → settled_tree x ≡ settled_tree (get_or trees i d) → map settled_tree (slice_set trees i x) ≡ map settled_tree trees
settled_set [] i d x within e = absurd (omega arith)
settled_set (t ∷ trees) zero d x within e = ap (λ (u : Tree). u ∷ map settled_tree trees) e
settled_set (t ∷ trees) (suc i) d x within e = ap (λ (us : List Tree). settled_tree t ∷ us) (settled_set trees i d x (omega arith) e)

pub reserving_more : (messages : List Message) (number : ℕ) (before now : List Tree) (i : ℕ) (d x : Tree) → i < length before → IsReserving messages number before now i → settled_tree x ≡ settled_tree (get_or now i d) → IsReservedAt messages number x
    → IsReserving messages number before (slice_set now i x) (i + 1)
reserving_more messages number before now i d x within h same reserved =
    let inside : i < length now = omega (arith, h.count) in
    record {
      same = settled_set now i d x inside same ∙ h.same;
      done = subst (λ (ts : List Tree). AllByRecursion (IsReservedAt messages number) ts) (sym (take_more_set now i x inside)) (each_last (IsReservedAt messages number) (take i now) x h.done reserved);
      left = drop-set-lt (i + 1) now i x (omega arith) ∙ left_more now before i h.left;
      count = length-set now i x ∙ h.count;
    }

-- where an item finds no memory, the trees differ in what is set aside alone
pub refused_same : (messages : List Message) (number : ℕ) (before now : List Tree) (i : ℕ) (d x : Tree) → i < length before → IsReserving messages number before now i → settled_tree x ≡ settled_tree (get_or now i d) → map settled_tree (slice_set now i x) ≡ map settled_tree before
refused_same messages number before now i d x within h same = settled_set now i d x (omega (arith, h.count)) same ∙ h.same

pub reserving_all : (messages : List Message) (number : ℕ) (before now : List Tree) (i : ℕ) → length before ≤ i → IsReserving messages number before now i → AllByRecursion (IsReservedAt messages number) now
reserving_all messages number before now i past h = subst (λ (ts : List Tree). AllByRecursion (IsReservedAt messages number) ts) (take_all i now (omega (arith, h.count))) h.done

-- trees with nothing set aside are as they are when it is dropped
pub settled_same : (trees : List Tree) → AreSettled trees → map settled_tree trees ≡ trees
settled_same [] h = refl
settled_same (t ∷ trees) h = λ i. record { definition = t.definition; rule = t.rule; paths = t.paths; reserve = sym h.0 i } ∷ settled_same trees h.1 i

-- the same but for what is set aside
pub like_tree : (before after : Tree) → after.definition ≡ before.definition → after.rule ≡ before.rule → after.paths ≡ before.paths → settled_tree after ≡ settled_tree before
like_tree before after definition rule paths = λ i. record { definition = definition i; rule = rule i; paths = paths i; reserve = None }

pub reserved_at : (messages : List Message) (number : ℕ) (before after : Tree) → settled_tree after ≡ settled_tree before → IsReserved (offer_to before messages number) before.paths after.reserve → IsReservedAt messages number after
reserved_at messages number before after like h = subst (λ (t : Tree). IsReserved (offer_to t messages number) t.paths after.reserve) (sym like) h

-- the steps of one tree more
pub tries_more : (messages : List Message) (number : ℕ) (before now : List Tree) (i : ℕ) (d : Tree) (start was steps : ℕ) → i < length before → IsReserving messages number before now i
    → was + tries_at messages number (drop i before) ≤ start + tries_at messages number before → steps ≤ was + tries (offer_to (get_or now i d) messages number) (get_or now i d).paths
    → steps + tries_at messages number (drop (i + 1) before) ≤ start + tries_at messages number before
tries_more messages number before now i d start was steps within h so_far one =
    let same = left_item now before i d h.left in
    let here = ap (λ (t : Tree). tries (offer_to t messages number) t.paths) same in
    let rest = ap (tries_at messages number) (drop_more before i d within) in
    omega arith

idem : (trees : List Tree) → map settled_tree (map settled_tree trees) ≡ map settled_tree trees
idem [] = refl
idem (t ∷ trees) = ap (λ (us : List Tree). settled_tree t ∷ us) (idem trees)

-- dropping twice is dropping once
pub settled_twice : (before after : List Tree) → after ≡ map settled_tree before → map settled_tree after ≡ map settled_tree before
settled_twice before after e = ap (map settled_tree) e ∙ idem before

-- the paths of one tree more
pub paths_more : (trees : List Tree) (i : ℕ) (d : Tree) (count more next : ℕ) → i < length trees → more ≡ length (get_or trees i d).paths → next ≡ min (count + more) (2 ^ 64 - 1)
    → min (count + path_count (drop i trees)) (2 ^ 64 - 1) ≡ min (path_count trees) (2 ^ 64 - 1) → min (next + path_count (drop (i + 1) trees)) (2 ^ 64 - 1) ≡ min (path_count trees) (2 ^ 64 - 1)
paths_more trees i d count more next within is made h =
    let rest : path_count (drop i trees) ≡ length (get_or trees i d).paths + path_count (drop (i + 1) trees) = ap path_count (drop_more trees i d within) in
    omega arith

pub once_more : (trees : List Tree) (i : ℕ) (d : Tree) → i < length trees → AllByRecursion HasOnce (take i trees) → HasOnce (get_or trees i d) → AllByRecursion HasOnce (take (i + 1) trees)
once_more trees i d within h one = subst (λ (ts : List Tree). AllByRecursion HasOnce ts) (sym (take_more trees i d within)) (each_last HasOnce (take i trees) (get_or trees i d) h one)

pub paths_all : (trees : List Tree) (i count : ℕ) → length trees ≤ i → count ≤ 2 ^ 64 - 1 → min (count + path_count (drop i trees)) (2 ^ 64 - 1) ≡ min (path_count trees) (2 ^ 64 - 1) → count ≡ min (path_count trees) (2 ^ 64 - 1)
paths_all trees i count past small h =
    let rest : path_count (drop i trees) ≡ 0 = ap path_count (drop_all i trees past) in
    omega arith
