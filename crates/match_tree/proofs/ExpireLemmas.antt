-- The nodes that a definition does not see stand at the front of the first rows.
use Rattle.std.proofs.Common.{◌≡◌, ◌∙◌, not, length, ℕ, zero, suc, ◌+◌, ◌<◌, ◌≤◌, List, [], ◌∷◌, ◌++◌, map, Bool, true, false, ◌&&◌, cond, nat_le, Option, None, Some, refl, sym, ap, subst, arith}
use Rattle.std.specs.Prelude.{MatchOption, is_some}
use Rattle.std.specs.List.{filter, AllByRecursion}
use Rattle.std.proofs.lemmas.Bool.Decides.{nat_tests}
use Rattle.std.proofs.lemmas.List.Elements.{filter-append}
use Rattle.guard_eval.specs.Meaning.{Assignment}
use Rattle.guard_eval.proofs.ReadyLemmas.{all_left, all_right}
use Rattle.tree_rows.specs.Routes.{Route, Step, Branch, step, node_routes, row_routes, rows_routes, with_number, is_seen, lacks}
use Rattle.row_screens.specs.Offers.{is_free}
use Rattle.row_screens.specs.Below.{AreBelow, Climbs, IsOpen, AreOpen}
use Rattle.tree_rows.specs.Pruned.{seen_nodes}
use Rattle.match_tree.specs.Tree.{Tree, empty_of, is_path_seen, with_paths}
use Rattle.match_tree.specs.Kept.{IsKept, CountsAdded, SeesAdded, SeesAll, added, paths_of, reserve_of, tree_of}
use Rattle.match_tree.specs.declared.pending.Pending.{Pending}
use Rattle.row_screens.specs.declared.ties.Ties.{Ties}
use Rattle.pattern_core.specs.declared.definition.Definition.{Definition}
use Rattle.pattern_core.specs.Window.{oldest_seen}
use Rattle.tree_rows.proofs.ListLemmas.{filter_both}
use Rattle.match_tree.proofs.VisitLemmas.{all_filter}
use Rattle.match_tree.proofs.KeptLemmas.{and_comm, kept_fewer}
use Rattle.match_tree.proofs.ReserveLemmas.{seen_all}

-- ---- the first number of a route is its least

below_taken : (k : ℕ) (slots : Assignment) (p n : ℕ) → is_free slots p ≡ true → AreBelow k (with_number slots p n) → n < k
below_taken k [] p n free h = absurd cc
below_taken k (None ∷ slots) zero n free h = h.0
below_taken k (Some m ∷ slots) zero n free h = absurd cc
below_taken k (None ∷ slots) (suc p) n free h = below_taken k slots p n free h
below_taken k (Some m ∷ slots) (suc p) n free h = below_taken k slots p n free h.1

below_others : (k : ℕ) (slots : Assignment) (p n : ℕ) → is_free slots p ≡ true → AreBelow k (with_number slots p n) → AreBelow k slots
below_others k [] p n free h = h
below_others k (None ∷ slots) zero n free h = h.1
below_others k (Some m ∷ slots) zero n free h = absurd cc
below_others k (None ∷ slots) (suc p) n free h = below_others k slots p n free h
below_others k (Some m ∷ slots) (suc p) n free h = (h.0, below_others k slots p n free h.1)

climb_over : (n : ℕ) (slots : Assignment) (route : Route) → ((k : ℕ) → AreBelow k slots → n < k) → Climbs slots route → AllByRecursion (λ s. n < s.number) route
climb_over n slots [] over climbs = tt
climb_over n slots (s ∷ route) over climbs =
    (over s.number climbs.1, climb_over n (with_number slots s.pattern s.number) route (λ k h. over k (below_others k slots s.pattern s.number climbs.0 h)) climbs.2)

-- each later number of the route is greater than its first
abbrev Mounts : Route → Type 0
Mounts [] = Unit {0}
Mounts (s ∷ route) = AllByRecursion (λ t. s.number < t.number) route

mounts : (slots : Assignment) (routes : List Route) → AreOpen slots routes → AllByRecursion Mounts routes
mounts slots [] h = tt
mounts slots (r ∷ routes) h = (one r h.0.climbs, mounts slots routes h.1)
  where
    one : (route : Route) → Climbs slots route → Mounts route
    one [] climbs = tt
    one (s ∷ route) climbs = climb_over s.number (with_number slots s.pattern s.number) route (λ k b. below_taken k slots s.pattern s.number climbs.0 b) climbs.2

-- ---- the routes that are seen

later_seen : (oldest n : ℕ) (route : Route) → nat_le oldest n ≡ true → AllByRecursion (λ s. n < s.number) route → is_seen oldest route ≡ true
later_seen oldest n [] e h = refl
later_seen oldest n (s ∷ route) e h =
    let here : nat_le oldest s.number ≡ true = let l = h.0 in grind (arith, nat_tests) in
    λ i. here i && later_seen oldest n route e h.1 i

seen_step : (oldest : ℕ) (s : Step) (routes : List Route) (b : Bool) → nat_le oldest s.number ≡ b → AllByRecursion Mounts (map (λ r. s ∷ r) routes) → filter (is_seen oldest) (map (λ r. s ∷ r) routes) ≡ cond b (map (λ r. s ∷ r) routes) []
seen_step oldest s [] true e h = refl
seen_step oldest s [] false e h = refl
seen_step oldest s (r ∷ routes) true e h =
    λ i. cond (e i && later_seen oldest s.number r e h.0 i) ((s ∷ r) ∷ seen_step oldest s routes true e h.1 i) (seen_step oldest s routes true e h.1 i)
seen_step oldest s (r ∷ routes) false e h =
    λ i. cond (e i && is_seen oldest r) ((s ∷ r) ∷ seen_step oldest s routes false e h.1 i) (seen_step oldest s routes false e h.1 i)

seen_row : (oldest p : ℕ) (row : List Branch) → AllByRecursion Mounts (row_routes p row) → row_routes p (seen_nodes oldest row) ≡ filter (is_seen oldest) (row_routes p row)
seen_row oldest p [] h = refl
seen_row oldest p (node ∷ row) h = by (nat_le oldest node.number) refl (seen_row oldest p row (all_right Mounts (node_routes p node) (row_routes p row) h))
  where
    here : AllByRecursion Mounts (node_routes p node)
    here = all_left Mounts (node_routes p node) (row_routes p row) h

    by : (b : Bool) → nat_le oldest node.number ≡ b → row_routes p (seen_nodes oldest row) ≡ filter (is_seen oldest) (row_routes p row)
        → row_routes p (cond b (node ∷ seen_nodes oldest row) (seen_nodes oldest row)) ≡ filter (is_seen oldest) (node_routes p node ++ row_routes p row)
    by true e later = (λ i. sym (seen_step oldest (step p node.number) ([] ∷ node.routes) true e here) i ++ later i) ∙ sym (filter-append (is_seen oldest) (node_routes p node) (row_routes p row))
    by false e later = (λ i. sym (seen_step oldest (step p node.number) ([] ∷ node.routes) false e here) i ++ later i) ∙ sym (filter-append (is_seen oldest) (node_routes p node) (row_routes p row))

rows_seen : (oldest p : ℕ) (rows : List (List Branch)) → AllByRecursion Mounts (rows_routes p rows) → rows_routes p (map (seen_nodes oldest) rows) ≡ filter (is_seen oldest) (rows_routes p rows)
rows_seen oldest p [] h = refl
rows_seen oldest p (row ∷ rows) h =
    (λ i. seen_row oldest p row (all_left Mounts (row_routes p row) (rows_routes (p + 1) rows) h) i ++ rows_seen oldest (p + 1) rows (all_right Mounts (row_routes p row) (rows_routes (p + 1) rows) h) i)
    ∙ sym (filter-append (is_seen oldest) (row_routes p row) (rows_routes (p + 1) rows))

-- leaving unseen nodes out of the first rows is leaving the unseen routes out
pub open_seen : (oldest : ℕ) (slots : Assignment) (rows : List (List Branch)) → AreOpen slots (rows_routes 0 rows) → rows_routes 0 (map (seen_nodes oldest) rows) ≡ filter (is_seen oldest) (rows_routes 0 rows)
open_seen oldest slots rows h = rows_seen oldest 0 rows (mounts slots (rows_routes 0 rows) h)

-- ---- told of a tree

filter_swap : {X : Type 0} (p q : X → Bool) (xs : List X) → filter q (filter p xs) ≡ filter p (filter q xs)
filter_swap p q xs = filter_both p q (λ x. p x && q x) (λ x. refl) xs ∙ sym (filter_both q p (λ x. p x && q x) (λ x. and_comm (q x) (p x)) xs)

filter_all : {X : Type 0} (p : X → Bool) (xs : List X) → AllByRecursion (λ x. p x ≡ true) xs → filter p xs ≡ xs
filter_all p [] h = refl
filter_all p (x ∷ xs) h = λ i. cond (h.0 i) (x ∷ filter_all p xs h.1 i) (filter_all p xs h.1 i)

pub pending_at : (d : Definition) (pending : Option Pending) (routes : List Route) (n : ℕ) → MatchOption (reserve_of d pending routes) ⊥ (λ r. r.number ≡ n) → (x : Pending) × ((pending ≡ Some x) × (x.number ≡ n))
pending_at d None routes n h = absurd h
pending_at d (Some x) routes n h = (x, (refl, h))

sees_added : (d : Definition) (pending : Option Pending) (x : Pending) (routes : List Route) → SeesAdded d pending routes → pending ≡ Some x → oldest_seen d.window x.number ≤ x.number
    → filter (is_seen (oldest_seen d.window x.number)) (added x routes) ≡ added x routes
sees_added d pending x routes sees is e = filter_all (is_seen (oldest_seen d.window x.number)) (added x routes) (subst (λ q. SeesAdded d q routes) is sees e)

added_lasts : (d : Definition) (pending : Option Pending) (x : Pending) (routes now : List Route) → SeesAdded d pending routes → pending ≡ Some x → oldest_seen d.window x.number ≤ x.number
    → now ≡ filter (is_seen (oldest_seen d.window x.number)) routes → added x now ≡ added x routes
added_lasts d pending x routes now sees is e left =
    ap (added x) left ∙ filter_swap (is_seen (oldest_seen d.window x.number)) (λ r. not (lacks (x.number ∷ []) r)) routes ∙ sees_added d pending x routes sees is e

pub expired_kept : {ties : Ties} (d : Definition) (rows now : List (List Branch)) (count count' : ℕ) (pending : Option Pending) (x : Pending) → IsKept d ties rows count pending → pending ≡ Some x
    → oldest_seen d.window x.number ≤ x.number → length now ≡ length rows → rows_routes 0 now ≡ filter (is_seen (oldest_seen d.window x.number)) (rows_routes 0 rows)
    → count' ≡ 1 + length (rows_routes 0 now) → IsKept d ties now count' pending
expired_kept {ties} d rows now count count' pending x k is e l left counts =
    let fewer = kept_fewer d rows now count count' pending (is_seen (oldest_seen d.window x.number)) k l left counts in
    let same = added_lasts d pending x (rows_routes 0 rows) (rows_routes 0 now) k.seen is e left in
    let here : x.aside ≡ length (added x (rows_routes 0 rows)) = subst (λ q. CountsAdded q (rows_routes 0 rows)) is k.aside in
    subst (λ (q : Option Pending). IsKept d ties now count' q) (sym is) (record {
      some = fewer.some;
      many = fewer.many;
      tied = fewer.tied;
      few = fewer.few;
      sound = fewer.sound;
      free_left = fewer.free_left;
      sees_all = fewer.sees_all;
      counted = fewer.counted;
      aside = here ∙ ap (λ (rs : List Route). length rs) (sym same);
      seen = subst (λ (rs : List Route). oldest_seen d.window x.number ≤ x.number → AllByRecursion (λ r. is_seen (oldest_seen d.window x.number) r ≡ true) rs) (sym same) (subst (λ q. SeesAdded d q (rows_routes 0 rows)) is k.seen);
    })

pub expired_tree : (d : Definition) (rule : ℕ) (pending : Option Pending) (x : Pending) (routes now : List Route) (t : Tree) → tree_of d rule pending routes ≡ t → pending ≡ Some x
    → AreOpen (empty_of d) routes → SeesAdded d pending routes → oldest_seen d.window x.number ≤ x.number → now ≡ filter (is_seen (oldest_seen d.window x.number)) routes
    → tree_of d rule pending now ≡ with_paths t (filter (is_path_seen (oldest_seen d.window x.number)) t.paths) t.reserve
expired_tree d rule pending x routes now t shown is opened sees e left =
    ap (λ (q : Option Pending). tree_of d rule q now) is
    ∙ (λ i. record { definition = d; rule = rule; paths = paths i; reserve = Some record { number = x.number; best = x.best; aside = paths_of d (added_lasts d pending x routes now sees is e left i) } })
    ∙ ap (λ (u : Tree). with_paths u (filter (is_path_seen oldest) u.paths) u.reserve) (ap (λ (q : Option Pending). tree_of d rule q routes) (sym is) ∙ shown)
  where
    oldest : ℕ
    oldest = oldest_seen d.window x.number

    kept : List Route
    kept = filter (lacks (x.number ∷ [])) routes

    paths : paths_of d ([] ∷ filter (lacks (x.number ∷ [])) now) ≡ filter (is_path_seen oldest) (paths_of d ([] ∷ kept))
    paths =
        ap (λ (rs : List Route). paths_of d ([] ∷ rs)) (ap (filter (lacks (x.number ∷ []))) left ∙ filter_swap (is_seen oldest) (lacks (x.number ∷ [])) routes)
        ∙ sym (seen_all oldest d kept (all_filter (IsOpen (empty_of d)) (lacks (x.number ∷ [])) routes opened))

pub sees_at : (d : Definition) (rule : ℕ) (pending : Option Pending) (x : Pending) (routes : List Route) (t : Tree) (n : ℕ) → tree_of d rule pending routes ≡ t → x.number ≡ n
    → oldest_seen t.definition.window n ≤ n → oldest_seen d.window x.number ≤ x.number
sees_at d rule pending x routes t n shown numbered e =
    subst (λ (m : ℕ). oldest_seen d.window m ≤ m) (sym numbered) (subst (λ (u : Tree). oldest_seen u.definition.window n ≤ n) (sym shown) e)

pub expired_at : (d : Definition) (rule : ℕ) (pending : Option Pending) (x : Pending) (routes now : List Route) (t : Tree) (n : ℕ) → tree_of d rule pending routes ≡ t → pending ≡ Some x → x.number ≡ n
    → AreOpen (empty_of d) routes → SeesAdded d pending routes → oldest_seen d.window x.number ≤ x.number → now ≡ filter (is_seen (oldest_seen d.window x.number)) routes
    → tree_of d rule pending now ≡ with_paths t (filter (is_path_seen (oldest_seen t.definition.window n)) t.paths) t.reserve
expired_at d rule pending x routes now t n shown is numbered opened sees e left =
    expired_tree d rule pending x routes now t shown is opened sees e left
    ∙ ap (λ (k : ℕ). with_paths t (filter (is_path_seen k) t.paths) t.reserve) (ap (oldest_seen d.window) numbered ∙ ap (λ (u : Tree). oldest_seen u.definition.window n) shown)

-- without a window the definition sees all of them
pub all_seen : (d : Definition) (routes : List Route) (n : ℕ) → SeesAll d routes → d.window ≡ None → routes ≡ filter (is_seen (oldest_seen d.window n)) routes
all_seen d routes n sees none =
    let oldest : oldest_seen d.window n ≡ 1 = ap (λ (w : Option ℕ). oldest_seen w n) none in
    sym (ap (λ (k : ℕ). filter (is_seen k) routes) oldest ∙ filter_all (is_seen 1) routes (sees none))

pub no_window : (window : Option ℕ) → is_some window ≡ false → window ≡ None
no_window None h = refl
no_window (Some n) h = absurd cc
