-- What is kept of a tree, and what its paths are.
use Rattle.std.proofs.Common.{◌≡◌, inl, inr, ◌∙◌, ℕ, zero, suc, ◌+◌, ◌-◌, List, [], ◌∷◌, ◌++◌, map, length, replicate, Bool, true, false, not, ◌&&◌, cond, Option, None, Some, refl, sym, ap, subst, arith}
use Rattle.std.specs.List.{filter, AllByRecursion}
use Rattle.std.proofs.lemmas.List.{length-map, map-append}
use Rattle.std.proofs.lemmas.List.Filters.{length-filter_both}
use Rattle.guard_eval.specs.Meaning.{Assignment}
use Rattle.pattern_core.specs.declared.definition.Definition.{Definition}
use Rattle.pattern_core.specs.Members.{IsIn}
use Rattle.pattern_core.proofs.MembersLemmas.{IsIn-append_left, IsIn-append_right, IsIn-append_cases, IsIn-map, IsIn-map_from, IsIn-filter, IsIn-filter_from}
use Rattle.tree_rows.specs.Routes.{Route, with_number, filled, is_seen, lacks}
use Rattle.join_base.specs.Taken.{contains_number}
use Rattle.row_screens.specs.Offers.{is_free}
use Rattle.row_screens.specs.Below.{Climbs, IsOpen, AreOpen}
use Rattle.match_tree.specs.Tree.{Tree, empty_of, SameMembers, is_path_without, with_paths}
use Rattle.tree_rows.specs.Routes.{Branch, rows_routes}
use Rattle.tree_rows.specs.Order.{AreOrdered}
use Rattle.tree_rows.specs.Pruned.{AreShort}
use Rattle.match_tree.specs.Kept.{IsKept, CountsAdded, lasting, added, paths_of, reserve_of, tree_of}
use Rattle.match_tree.specs.declared.pending.Pending.{Pending}
use Rattle.row_screens.specs.declared.ties.Ties.{Ties}
use Rattle.tree_rows.proofs.OrderLemmas.{rows_ordered, rows_sound, ordered_filter}
use Rattle.match_tree.proofs.VisitLemmas.{all_filter}
use Rattle.match_tree.proofs.RootLemmas.{open_short}
use Rattle.std.specs.Prelude.{MatchOption}

-- ---- parts of a list

pub parts_count : {X : Type 0} (p : X → Bool) (xs : List X) → length (filter p xs) + length (filter (λ x. not (p x)) xs) ≡ length xs
parts_count p xs = length-filter_both p (λ x. not (p x)) (λ x. refl) xs

pub same_parts : {X : Type 0} (p : X → Bool) (xs : List X) → SameMembers xs (filter p xs ++ filter (λ x. not (p x)) xs)
same_parts {X} p xs = record {
  to = λ x m. by x (p x) refl m;
  back = λ x m. elim (IsIn-append_cases x (filter p xs) (filter (λ y. not (p y)) xs) m) [ inl l ↦ (IsIn-filter_from p x xs l).0 | inr r ↦ (IsIn-filter_from (λ y. not (p y)) x xs r).0 ];
}
  where
    by : (x : X) (b : Bool) → p x ≡ b → IsIn x xs → IsIn x (filter p xs ++ filter (λ y. not (p y)) xs)
    by x true e m = IsIn-append_left x (filter p xs) (filter (λ y. not (p y)) xs) (IsIn-filter p x xs e m)
    by x false e m = IsIn-append_right x (filter p xs) (filter (λ y. not (p y)) xs) (IsIn-filter (λ y. not (p y)) x xs (ap not e) m)

pub same_map : {X Y : Type 0} (f : X → Y) (xs ys : List X) → SameMembers xs ys → SameMembers (map f xs) (map f ys)
same_map f xs ys s = record {
  to = λ y m. let w = IsIn-map_from f y xs m in subst (λ z. IsIn z (map f ys)) w.2 (IsIn-map f w.0 ys (s.to w.0 w.1));
  back = λ y m. let w = IsIn-map_from f y ys m in subst (λ z. IsIn z (map f xs)) w.2 (IsIn-map f w.0 xs (s.back w.0 w.1));
}

-- the paths of all routes are those that last and those that were added
pub gains : (d : Definition) (p : Route → Bool) (routes : List Route) → SameMembers (paths_of d ([] ∷ routes)) (paths_of d ([] ∷ filter p routes) ++ paths_of d (filter (λ r. not (p r)) routes))
gains d p routes =
    let whole = same_map (filled (empty_of d)) routes (filter p routes ++ filter (λ r. not (p r)) routes) (same_parts p routes) in
    let parts = map-append (filled (empty_of d)) (filter p routes) (filter (λ r. not (p r)) routes) in
    let first : Assignment = filled (empty_of d) [] in
    record {
      to = λ x m. elim m [ inl e ↦ inl e | inr k ↦ inr (subst (λ xs. IsIn x xs) parts (whole.to x k)) ];
      back = λ x m. elim m [ inl e ↦ inl e | inr k ↦ inr (whole.back x (subst (λ xs. IsIn x xs) (sym parts) k)) ];
    }

-- ---- paths without numbers

and_swap : (a b c : Bool) → ((a && b) && c) ≡ ((a && c) && b)
and_swap false b c = refl
and_swap true true true = refl
and_swap true true false = refl
and_swap true false true = refl
and_swap true false false = refl

pub and_assoc : (a b c : Bool) → ((a && b) && c) ≡ (a && (b && c))
and_assoc true b c = refl
and_assoc false b c = refl

pub and_true : (b : Bool) → (b && true) ≡ b
and_true true = refl
and_true false = refl

pub and_comm : (a b : Bool) → (a && b) ≡ (b && a)
and_comm true b = sym (and_true b)
and_comm false b = (λ i. sym (false_right b) i)
  where
    false_right : (c : Bool) → (c && false) ≡ false
    false_right true = refl
    false_right false = refl

without_further : (ns : List ℕ) (slots : Assignment) (p n : ℕ) → is_free slots p ≡ true → is_path_without ns (with_number slots p n) ≡ (is_path_without ns slots && not (contains_number ns n))
without_further ns [] p n free = absurd cc
without_further ns (None ∷ slots) zero n free = and_comm (not (contains_number ns n)) (is_path_without ns slots)
without_further ns (Some k ∷ slots) zero n free = absurd cc
without_further ns (None ∷ slots) (suc p) n free = without_further ns slots p n free
without_further ns (Some k ∷ slots) (suc p) n free = ap (λ (b : Bool). not (contains_number ns k) && b) (without_further ns slots p n free) ∙ sym (and_assoc (not (contains_number ns k)) (is_path_without ns slots) (not (contains_number ns n)))

without_filled : (ns : List ℕ) (slots : Assignment) (route : Route) → Climbs slots route → is_path_without ns (filled slots route) ≡ (is_path_without ns slots && lacks ns route)
without_filled ns slots [] climbs = sym (and_true (is_path_without ns slots))
without_filled ns slots (s ∷ route) climbs =
    without_filled ns (with_number slots s.pattern s.number) route climbs.2
    ∙ ap (λ (b : Bool). b && lacks ns route) (without_further ns slots s.pattern s.number climbs.0)
    ∙ and_assoc (is_path_without ns slots) (not (contains_number ns s.number)) (lacks ns route)

without_empty : (ns : List ℕ) (n : ℕ) → is_path_without ns (replicate n None) ≡ true
without_empty ns zero = refl
without_empty ns (suc n) = without_empty ns n

-- leaving paths out is leaving their routes out
pub without_paths : (ns : List ℕ) (d : Definition) (routes : List Route) → AreOpen (empty_of d) routes → filter (is_path_without ns) (paths_of d routes) ≡ paths_of d (filter (lacks ns) routes)
without_paths ns d [] h = refl
without_paths ns d (r ∷ routes) h = by (lacks ns r) refl (without_paths ns d routes h.1)
  where
    same : is_path_without ns (filled (empty_of d) r) ≡ lacks ns r
    same = without_filled ns (empty_of d) r h.0.climbs ∙ (λ i. without_empty ns (length d.patterns) i && lacks ns r)

    by : (b : Bool) → lacks ns r ≡ b → filter (is_path_without ns) (paths_of d routes) ≡ paths_of d (filter (lacks ns) routes)
        → cond (is_path_without ns (filled (empty_of d) r)) (filled (empty_of d) r ∷ filter (is_path_without ns) (paths_of d routes)) (filter (is_path_without ns) (paths_of d routes)) ≡ paths_of d (cond b (r ∷ filter (lacks ns) routes) (filter (lacks ns) routes))
    by true e later = λ i. cond ((same ∙ e) i) (filled (empty_of d) r ∷ later i) (later i)
    by false e later = λ i. cond ((same ∙ e) i) (filled (empty_of d) r ∷ later i) (later i)

-- the empty path takes no number
pub without_all : (ns : List ℕ) (d : Definition) (routes : List Route) → AreOpen (empty_of d) routes → filter (is_path_without ns) (paths_of d ([] ∷ routes)) ≡ paths_of d ([] ∷ filter (lacks ns) routes)
without_all ns d routes h =
    (λ i. cond (without_empty ns (length d.patterns) i) (empty_of d ∷ filter (is_path_without ns) (paths_of d routes)) (filter (is_path_without ns) (paths_of d routes)))
    ∙ ap (λ (ps : List Assignment). empty_of d ∷ ps) (without_paths ns d routes h)

-- ---- what is shown after a call

pub settled_none : (d : Definition) (pending : Option Pending) (routes : List Route) → reserve_of d pending routes ≡ None → pending ≡ None
settled_none d None routes h = refl
settled_none d (Some x) routes h = absurd cc

-- the paths of rows that are seen as a slice, by the number of patterns that was read
pub kept_short : {d : Definition} {ties : Ties} {items seen : List (List Branch)} {count patterns : ℕ} {pending : Option Pending} → seen ≡ items → patterns ≡ length d.patterns → IsKept d ties items count pending
    → AreShort (patterns - 1) (rows_routes 0 seen)
kept_short {d} {ties} {items} {seen} {count} {patterns} {pending} same count_is k =
    let short = open_short (length d.patterns) (rows_routes 0 items) k.free_left in
    subst (λ (n : ℕ). AreShort (n - 1) (rows_routes 0 seen)) (sym count_is) (subst (λ (xs : List (List Branch)). AreShort (length d.patterns - 1) (rows_routes 0 xs)) (sym same) short)

pub kept_aside : {ties : Ties} (d : Definition) (rows : List (List Branch)) (count : ℕ) (pending : Option Pending) (x : Pending) → IsKept d ties rows count pending → pending ≡ Some x
    → count ≡ x.aside + (1 + length (filter (lacks (x.number ∷ [])) (rows_routes 0 rows)))
kept_aside d rows count pending x k is =
    let here : x.aside ≡ length (added x (rows_routes 0 rows)) = subst (λ q. CountsAdded q (rows_routes 0 rows)) is k.aside in
    let parts = parts_count (lacks (x.number ∷ [])) (rows_routes 0 rows) in
    let whole = k.counted in
    omega arith

pub kept_count : {ties : Ties} (d : Definition) (rows : List (List Branch)) (count : ℕ) (pending : Option Pending) (x : Pending) → IsKept d ties rows count pending → pending ≡ Some x
    → count - x.aside ≡ length (paths_of d ([] ∷ lasting pending (rows_routes 0 rows)))
kept_count d rows count pending x k is =
    let whole = kept_aside d rows count pending x k is in
    let shown = length-map (filtered x) (filled (empty_of d)) in
    let one : length (paths_of d ([] ∷ lasting pending (rows_routes 0 rows))) ≡ suc (length (filtered x)) = ap (λ q. length (paths_of d ([] ∷ lasting q (rows_routes 0 rows)))) is ∙ ap suc shown in
    omega arith
  where
    filtered : Pending → List Route
    filtered y = filter (lacks (y.number ∷ [])) (rows_routes 0 rows)

pub gains_at : (d : Definition) (pending : Option Pending) (routes : List Route) (n : ℕ) → MatchOption (reserve_of d pending routes) ⊥ (λ r. (r.number ≡ n) × (r.best ≡ None))
    → MatchOption (reserve_of d pending routes) ⊥ (λ r. SameMembers (paths_of d ([] ∷ routes)) (paths_of d ([] ∷ lasting pending routes) ++ r.aside))
gains_at d None routes n h = h
gains_at d (Some x) routes n h = gains d (lacks (x.number ∷ [])) routes

-- fewer nodes are kept as well
pub kept_fewer : {ties : Ties} (d : Definition) (rows now : List (List Branch)) (count count' : ℕ) (pending : Option Pending) (p : Route → Bool) → IsKept d ties rows count pending
    → length now ≡ length rows → rows_routes 0 now ≡ filter p (rows_routes 0 rows) → count' ≡ 1 + length (rows_routes 0 now) → IsKept d ties now count' None
kept_fewer d rows now count count' pending p k l is counts = record {
  some = k.some;
  many = k.many;
  tied = k.tied;
  few = let f = k.few in omega arith;
  sound = rows_sound 0 now (subst AreOrdered (sym is) (ordered_filter p (rows_routes 0 rows) (rows_ordered 0 rows k.sound)));
  free_left = subst (AreOpen (empty_of d)) (sym is) (all_filter (IsOpen (empty_of d)) p (rows_routes 0 rows) k.free_left);
  sees_all = λ none. subst (λ (rs : List Route). AllByRecursion (λ r. is_seen 1 r ≡ true) rs) (sym is) (all_filter (λ r. is_seen 1 r ≡ true) p (rows_routes 0 rows) (k.sees_all none));
  counted = counts;
  aside = tt;
  seen = tt;
}

pub forgotten : (d : Definition) (rule : ℕ) (pending : Option Pending) (x : Pending) (routes now : List Route) (t : Tree) → tree_of d rule pending routes ≡ t → pending ≡ Some x
    → now ≡ filter (lacks (x.number ∷ [])) routes → tree_of d rule None now ≡ with_paths t t.paths None
forgotten d rule pending x routes now t shown is left =
    let here : now ≡ lasting pending routes = left ∙ ap (λ q. lasting q routes) (sym is) in
    ap (λ (rs : List Route). tree_of d rule None rs) here ∙ ap (λ (u : Tree). with_paths u u.paths None) shown

pub all_kept : {X : Type 0} (p : X → Bool) (xs : List X) → length (filter (λ x. not (p x)) xs) ≡ 0 → filter p xs ≡ xs
all_kept p [] h = refl
all_kept {X} p (x ∷ xs) h = by (p x) refl (all_kept p xs)
  where
    by : (b : Bool) → p x ≡ b → (length (filter (λ y. not (p y)) xs) ≡ 0 → filter p xs ≡ xs) → cond b (x ∷ filter p xs) (filter p xs) ≡ x ∷ xs
    by true e later = ap (λ (ys : List X). x ∷ ys) (later (sym (λ i. length (cond (not (e i)) (x ∷ filter (λ y. not (p y)) xs) (filter (λ y. not (p y)) xs))) ∙ h))
    by false e later =
        let count = sym (λ i. length (cond (not (e i)) (x ∷ filter (λ y. not (p y)) xs) (filter (λ y. not (p y)) xs))) ∙ h in
        absurd (omega arith)

pub none_added : {ties : Ties} (d : Definition) (rows : List (List Branch)) (count : ℕ) (pending : Option Pending) (x : Pending) → IsKept d ties rows count pending → pending ≡ Some x → x.aside ≡ 0
    → rows_routes 0 rows ≡ filter (lacks (x.number ∷ [])) (rows_routes 0 rows)
none_added d rows count pending x k is zero_added = sym (all_kept (lacks (x.number ∷ [])) (rows_routes 0 rows) (sym (subst (λ q. CountsAdded q (rows_routes 0 rows)) is k.aside) ∙ zero_added))

pub pruned_tree : (d : Definition) (rule : ℕ) (pending : Option Pending) (routes now : List Route) (ns : List ℕ) (t : Tree) → tree_of d rule pending routes ≡ t → t.reserve ≡ None
    → AreOpen (empty_of d) routes → now ≡ filter (lacks ns) routes → tree_of d rule pending now ≡ with_paths t (filter (is_path_without ns) t.paths) None
pruned_tree d rule pending routes now ns t shown settled opened left =
    let none : pending ≡ None = settled_none d pending routes (ap (λ (u : Tree). u.reserve) shown ∙ settled) in
    let after = ap (λ (q : Option Pending). tree_of d rule q now) none ∙ ap (λ (rs : List Route). tree_of d rule None rs) left in
    let paths = without_all ns d routes opened in
    let before : tree_of d rule None routes ≡ t = ap (λ (q : Option Pending). tree_of d rule q routes) (sym none) ∙ shown in
    after
    ∙ ap (λ (ps : List Assignment). record { definition = d; rule = rule; paths = ps; reserve = None }) (sym paths)
    ∙ ap (λ (u : Tree). with_paths u (filter (is_path_without ns) u.paths) None) before
