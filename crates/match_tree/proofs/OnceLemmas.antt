-- No path of a tree stands twice.
use Rattle.std.proofs.Common.{◌≡◌, inl, inr, ◌∙◌, ℕ, zero, suc, ◌<◌, List, [], ◌∷◌, Bool, true, false, ◌&&◌, Option, None, Some, slice_get, refl, sym, ap, subst, arith}
use Rattle.std.specs.List.{filter, AllByRecursion}
use Rattle.guard_eval.specs.Meaning.{Assignment}
use Rattle.pattern_core.specs.declared.definition.Definition.{Definition}
use Rattle.pattern_core.specs.Members.{IsIn}
use Rattle.pattern_core.proofs.MembersLemmas.{IsIn-map_from}
use Rattle.tree_rows.specs.Routes.{Route, Step, Branch, with_number, filled, lacks, rows_routes}
use Rattle.row_screens.specs.Offers.{is_free}
use Rattle.row_screens.specs.Below.{AreBelow, Climbs, IsOpen, AreOpen}
use Rattle.tree_rows.specs.Order.{Earlier, AreOrdered}
use Rattle.match_tree.specs.Kept.{IsKept, lasting, paths_of}
use Rattle.match_tree.specs.declared.pending.Pending.{Pending}
use Rattle.match_tree.specs.Tree.{empty_of, AreOnce}
use Rattle.row_screens.specs.declared.ties.Ties.{Ties}
use Rattle.std.specs.Prelude.{◌==◌, not}
use Rattle.std.proofs.lemmas.Bool.Decides.{nat_tests}
use Rattle.row_screens.proofs.SlotsLemmas.{free_is_none, free_further}
use Rattle.row_screens.proofs.MemberLemmas.{all_in}
use Rattle.tree_rows.proofs.OrderLemmas.{rows_ordered_behind, ordered_filter}
use Rattle.match_tree.proofs.VisitLemmas.{all_filter}

-- ---- routes in order stand once

not_itself : (r : Route) → Earlier r r → ⊥
not_itself [] h = h
not_itself (s ∷ r) (inl l) = omega arith
not_itself (s ∷ r) (inr (inl l)) = let m = l.1 in omega arith
not_itself (s ∷ r) (inr (inr e)) = not_itself r e.1

pub ordered_once : (routes : List Route) → AreOrdered routes → AreOnce routes
ordered_once [] h = tt
ordered_once (r ∷ routes) h = (λ m. not_itself r (all_in (Earlier r) routes r h.0 m), ordered_once routes h.1)

-- ---- a path tells its route

set_there : (slots : Assignment) (p n : ℕ) → is_free slots p ≡ true → slice_get (with_number slots p n) p ≡ Some (Some n)
set_there [] p n free = absurd cc
set_there (slot ∷ slots) zero n free = refl
set_there (slot ∷ slots) (suc p) n free = set_there slots p n free

-- a pattern that has a number keeps it
keeps_one : (slots : Assignment) (q m p n : ℕ) → is_free slots q ≡ true → slice_get slots p ≡ Some (Some n) → slice_get (with_number slots q m) p ≡ Some (Some n)
keeps_one [] q m p n free h = absurd cc
keeps_one (slot ∷ slots) zero m zero n free h = absurd (let e : slot ≡ Some n = cc in cc)
keeps_one (slot ∷ slots) zero m (suc p) n free h = h
keeps_one (slot ∷ slots) (suc q) m zero n free h = h
keeps_one (slot ∷ slots) (suc q) m (suc p) n free h = keeps_one slots q m p n free h

pub keeps : (slots : Assignment) (route : Route) (p n : ℕ) → Climbs slots route → slice_get slots p ≡ Some (Some n) → slice_get (filled slots route) p ≡ Some (Some n)
keeps slots [] p n climbs h = h
keeps slots (s ∷ route) p n climbs h = keeps (with_number slots s.pattern s.number) route p n climbs.2 (keeps_one slots s.pattern s.number p n climbs.0 h)

below_at : (slots : Assignment) (p m k : ℕ) → AreBelow k slots → slice_get slots p ≡ Some (Some m) → m < k
below_at [] p m k h at = absurd cc
below_at (None ∷ slots) zero m k h at = absurd cc
below_at (Some j ∷ slots) zero m k h at = let e : j ≡ m = cc in subst (λ (x : ℕ). x < k) e h.0
below_at (None ∷ slots) (suc p) m k h at = below_at slots p m k h at
below_at (Some j ∷ slots) (suc p) m k h at = below_at slots p m k h.1 at

free_apart : (slots : Assignment) (p n : ℕ) → is_free slots p ≡ true → slice_get slots p ≡ Some (Some n) → ⊥
free_apart slots p n free at = let e = sym (free_is_none slots p free) ∙ at in absurd cc

same_number : (slots : Assignment) (p m n : ℕ) → slice_get slots p ≡ Some (Some m) → slice_get slots p ≡ Some (Some n) → m ≡ n
same_number slots p m n h k = let e = sym h ∙ k in cc

equal_from : (p q : ℕ) → (p == q) ≡ true → p ≡ q
equal_from p q h = grind (arith, nat_tests)

turned : (p q : ℕ) → (p == q) ≡ false → (q == p) ≡ false
turned p q h = grind (arith, nat_tests)

-- a pattern that a later step fills has a number after those that stand already
filled_later : (slots : Assignment) (route : Route) (p n q m : ℕ) → Climbs slots route → is_free slots p ≡ true → slice_get (filled slots route) p ≡ Some (Some n) → slice_get slots q ≡ Some (Some m) → m < n
filled_later slots [] p n q m climbs free at held = absurd (free_apart slots p n free at)
filled_later slots (s ∷ route) p n q m climbs free at held =
    by (λ free'. filled_later (with_number slots s.pattern s.number) route p n q m climbs.2 free' at (keeps_one slots s.pattern s.number q m climbs.0 held)) (p == s.pattern) refl
  where
    by : (is_free (with_number slots s.pattern s.number) p ≡ true → m < n) → (b : Bool) → (p == s.pattern) ≡ b → m < n
    by later true e =
        let same = equal_from p s.pattern e in
        let there = keeps (with_number slots s.pattern s.number) route s.pattern s.number climbs.2 (set_there slots s.pattern s.number climbs.0) in
        let is = same_number (filled (with_number slots s.pattern s.number) route) p s.number n (subst (λ (x : ℕ). slice_get (filled (with_number slots s.pattern s.number) route) x ≡ Some (Some s.number)) (sym same) there) at in
        subst (λ (x : ℕ). m < x) is (below_at slots q m s.number climbs.1 held)
    by later false e = later (free_further slots s.pattern s.number p ∙ (λ i. free i && not (e i)))

-- the first steps of two routes to one path are one
first_pattern : (slots : Assignment) (s t : Step) (r u : Route) → Climbs slots (s ∷ r) → Climbs slots (t ∷ u) → filled slots (s ∷ r) ≡ filled slots (t ∷ u) → (s.pattern == t.pattern) ≡ false → s.number < t.number
first_pattern slots s t r u h k e apart =
    let longer : Assignment = with_number slots s.pattern s.number in
    let there = keeps (with_number slots t.pattern t.number) u t.pattern t.number k.2 (set_there slots t.pattern t.number k.0) in
    let at : slice_get (filled longer r) t.pattern ≡ Some (Some t.number) = ap (λ (x : Assignment). slice_get x t.pattern) e ∙ there in
    filled_later longer r t.pattern t.number s.pattern s.number h.2 (free_further slots s.pattern s.number t.pattern ∙ (λ i. k.0 i && not (turned s.pattern t.pattern apart i))) at (set_there slots s.pattern s.number h.0)

one_route : (slots : Assignment) (r t : Route) → Climbs slots r → Climbs slots t → filled slots r ≡ filled slots t → r ≡ t
one_route slots [] [] h k e = refl
one_route slots [] (t ∷ u) h k e =
    let there = keeps (with_number slots t.pattern t.number) u t.pattern t.number k.2 (set_there slots t.pattern t.number k.0) in
    absurd (free_apart slots t.pattern t.number k.0 (ap (λ (x : Assignment). slice_get x t.pattern) e ∙ there))
one_route slots (s ∷ r) [] h k e =
    let there = keeps (with_number slots s.pattern s.number) r s.pattern s.number h.2 (set_there slots s.pattern s.number h.0) in
    absurd (free_apart slots s.pattern s.number h.0 (ap (λ (x : Assignment). slice_get x s.pattern) (sym e) ∙ there))
one_route slots (s ∷ r) (t ∷ u) h k e = by (λ climbs ends. one_route (with_number slots s.pattern s.number) r u h.2 climbs ends) (s.pattern == t.pattern) refl
  where
    here : s.pattern ≡ t.pattern → s ≡ t
    here p =
        let mine = keeps (with_number slots s.pattern s.number) r s.pattern s.number h.2 (set_there slots s.pattern s.number h.0) in
        let yours = keeps (with_number slots t.pattern t.number) u t.pattern t.number k.2 (set_there slots t.pattern t.number k.0) in
        let moved = subst (λ (x : ℕ). slice_get (filled slots (t ∷ u)) x ≡ Some (Some t.number)) (sym p) yours in
        let n = same_number (filled slots (t ∷ u)) s.pattern s.number t.number (ap (λ (x : Assignment). slice_get x s.pattern) (sym e) ∙ mine) moved in
        λ i. record { pattern = p i; number = n i }

    rest : (Climbs (with_number slots s.pattern s.number) u → filled (with_number slots s.pattern s.number) r ≡ filled (with_number slots s.pattern s.number) u → r ≡ u) → s ≡ t → s ∷ r ≡ t ∷ u
    rest tails_of is =
        let moved = subst (λ (x : Step). Climbs (with_number slots x.pattern x.number) u) (sym is) k.2 in
        let ends = e ∙ ap (λ (x : Step). filled (with_number slots x.pattern x.number) u) (sym is) in
        let tails = tails_of moved ends in
        λ i. is i ∷ tails i

    by : (Climbs (with_number slots s.pattern s.number) u → filled (with_number slots s.pattern s.number) r ≡ filled (with_number slots s.pattern s.number) u → r ≡ u) → (b : Bool) → (s.pattern == t.pattern) ≡ b → s ∷ r ≡ t ∷ u
    by tails_of true p = rest tails_of (here (equal_from s.pattern t.pattern p))
    by tails_of false p =
        let less = first_pattern slots s t r u h k e p in
        let more = first_pattern slots t s u r k h (sym e) (turned s.pattern t.pattern p) in
        absurd (let l = less in let m = more in omega arith)

-- ---- the paths

once_paths : (d : Definition) (routes : List Route) → AllByRecursion (Climbs (empty_of d)) routes → AreOnce routes → AreOnce (paths_of d routes)
once_paths d [] h once = tt
once_paths d (r ∷ routes) h once = (
  λ m.
      let w = IsIn-map_from (filled (empty_of d)) (filled (empty_of d) r) routes m in
      once.0 (subst (λ (x : Route). IsIn x routes) (one_route (empty_of d) w.0 r (all_in (Climbs (empty_of d)) routes w.0 h.1 w.1) h.0 w.2) w.1),
  once_paths d routes h.1 once.1,
)

-- no path of routes in order stands twice
pub paths_once : (d : Definition) (routes : List Route) → AreOpen (empty_of d) routes → AreOrdered ([] ∷ routes) → AreOnce (paths_of d ([] ∷ routes))
paths_once d routes opened ordered = once_paths d ([] ∷ routes) (tt, all_climb routes opened) (ordered_once ([] ∷ routes) ordered)
  where
    all_climb : (xs : List Route) → AreOpen (empty_of d) xs → AllByRecursion (Climbs (empty_of d)) xs
    all_climb [] h = tt
    all_climb (x ∷ xs) h = (h.0.climbs, all_climb xs h.1)

-- no path that a tree shows stands twice
pub kept_once : {ties : Ties} (d : Definition) (rows : List (List Branch)) (count : ℕ) (pending : Option Pending) → IsKept d ties rows count pending → AreOnce (paths_of d ([] ∷ lasting pending (rows_routes 0 rows)))
kept_once d rows count None k = paths_once d (rows_routes 0 rows) k.free_left (rows_ordered_behind 0 rows k.sound)
kept_once d rows count (Some x) k =
    let routes = rows_routes 0 rows in
    let last = lacks (x.number ∷ []) in
    let ordered = rows_ordered_behind 0 rows k.sound in
    paths_once d (filter last routes) (all_filter (IsOpen (empty_of d)) last routes k.free_left) (all_filter (Earlier []) last routes ordered.0, ordered_filter last routes ordered.1)
