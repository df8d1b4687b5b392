-- What a reserve finds, told of paths.
use Rattle.std.proofs.Common.{◌≡◌, ◌≢◌, inl, inr, ◌∙◌, ℕ, zero, suc, ◌+◌, ◌-◌, ◌≤◌, List, [], ◌∷◌, ◌++◌, map, length, replicate, Bool, true, false, not, ◌&&◌, ◌||◌, cond, nat_le, Option, None, Some, refl, sym, ap, subst, arith}
use Rattle.std.specs.Prelude.{◌==◌}
use Rattle.std.specs.List.{filter, flat_map, sum_by, AllByRecursion}
use Rattle.std.proofs.lemmas.Bool.Decides.{nat_tests}
use Rattle.std.proofs.lemmas.List.{map-append}
use Rattle.std.proofs.lemmas.List.Sums.{sum_by-cons}
use Rattle.guard_eval.specs.Meaning.{Assignment}
use Rattle.join_base.specs.declared.message.Message.{Message}
use Rattle.pattern_core.specs.declared.definition.Definition.{Definition}
use Rattle.pattern_core.specs.declared.candidate.Candidate.{Candidate}
use Rattle.pattern_core.specs.Choice.{least}
use Rattle.pattern_core.specs.Window.{oldest_seen}
use Rattle.pattern_core.specs.Members.{IsIn}
use Rattle.pattern_core.proofs.MembersLemmas.{IsIn-append_left, IsIn-append_right, IsIn-append_cases, IsIn-filter, IsIn-filter_from}
use Rattle.tree_rows.specs.Routes.{Route, Branch, step, rows_routes, with_number, filled, lacks, is_seen}
use Rattle.join_base.specs.Taken.{contains_number}
use Rattle.row_screens.specs.Offers.{Offered, is_free, growing, seen, new_routes, new_matches, matches_at}
use Rattle.row_screens.specs.Below.{Climbs, AreOpen}
use Rattle.value_index.specs.Index.{no_index}
use Rattle.row_screens.specs.Offering.{AreIndexed, CanOffer, LeadOn}
use Rattle.match_tree.specs.Growth.{Lasts, Grows, steps_to}
use Rattle.tree_rows.specs.Order.{AreSound}
use Rattle.match_tree.specs.Tries.{tried, tries, tries_behind}
use Rattle.match_tree.specs.Tree.{Tree, empty_of, offer_to, SameMembers, is_path_seen, seen_paths, extensions, completions, IsReserved}
use Rattle.match_tree.specs.Kept.{IsKept, SeesAdded, SeesAll, paths_of, reserve_of, tree_of}
use Rattle.match_tree.specs.declared.pending.Pending.{Pending}
use Rattle.row_screens.specs.declared.ties.Ties.{Ties}
use Rattle.row_screens.proofs.MemberLemmas.{all_in}
use Rattle.match_tree.proofs.FirstLemmas.{all_members}
use Rattle.match_tree.proofs.KeptLemmas.{parts_count, same_map, settled_none, and_true, and_assoc, and_comm}
use Rattle.join_base.proofs.EachLemmas.{each_append}

-- the offer without an index, of which contracts speak
abbrev pub bare : Offered → Offered
bare o = record { messages = o.messages; index = no_index; definition = o.definition; rule = o.rule; number = o.number; oldest = o.oldest }

can_from : (o : Offered) (slots : Assignment) → CanOffer (bare o) slots → AreIndexed o.index o.messages slots → CanOffer o slots
can_from o slots can indexed = record { definition = can.definition; suits = can.suits; agreeable = can.agreeable; indexed = indexed; recorded = can.recorded; below = can.below }

lead_from : (o : Offered) (slots : Assignment) (routes : List Route) → AreOpen slots routes → AllByRecursion (CanOffer (bare o)) (map (filled slots) routes) → AllByRecursion (AreIndexed o.index o.messages) (map (filled slots) routes) → LeadOn o slots routes
lead_from o slots [] h k x = tt
lead_from o slots (r ∷ routes) h k x = (record { climbs = h.0.climbs; can = can_from o (filled slots r) k.0 x.0 }, lead_from o slots routes h.1 k.1 x.1)

settled_tree : (d : Definition) (rule : ℕ) (pending : Option Pending) (routes : List Route) (t : Tree) → tree_of d rule pending routes ≡ t → t.reserve ≡ None → tree_of d rule None routes ≡ t
settled_tree d rule pending routes t shown settled =
    ap (λ (q : Option Pending). tree_of d rule q routes) (sym (settled_none d pending routes (ap (λ (u : Tree). u.reserve) shown ∙ settled))) ∙ shown

-- ---- the paths that the definition sees

seen_further : (oldest : ℕ) (slots : Assignment) (p n : ℕ) → is_free slots p ≡ true → is_path_seen oldest (with_number slots p n) ≡ (is_path_seen oldest slots && nat_le oldest n)
seen_further oldest [] p n free = absurd cc
seen_further oldest (None ∷ slots) zero n free = and_comm (nat_le oldest n) (is_path_seen oldest slots)
seen_further oldest (Some k ∷ slots) zero n free = absurd cc
seen_further oldest (None ∷ slots) (suc p) n free = seen_further oldest slots p n free
seen_further oldest (Some k ∷ slots) (suc p) n free = ap (λ (b : Bool). nat_le oldest k && b) (seen_further oldest slots p n free) ∙ sym (and_assoc (nat_le oldest k) (is_path_seen oldest slots) (nat_le oldest n))

seen_filled : (oldest : ℕ) (slots : Assignment) (route : Route) → Climbs slots route → is_path_seen oldest (filled slots route) ≡ (is_path_seen oldest slots && is_seen oldest route)
seen_filled oldest slots [] climbs = sym (and_true (is_path_seen oldest slots))
seen_filled oldest slots (s ∷ route) climbs =
    seen_filled oldest (with_number slots s.pattern s.number) route climbs.2
    ∙ ap (λ (b : Bool). b && is_seen oldest route) (seen_further oldest slots s.pattern s.number climbs.0)
    ∙ and_assoc (is_path_seen oldest slots) (nat_le oldest s.number) (is_seen oldest route)

seen_empty : (oldest n : ℕ) → is_path_seen oldest (replicate n None) ≡ true
seen_empty oldest zero = refl
seen_empty oldest (suc n) = seen_empty oldest n

seen_some : (oldest : ℕ) (d : Definition) (routes : List Route) → AreOpen (empty_of d) routes → filter (is_path_seen oldest) (paths_of d routes) ≡ paths_of d (filter (is_seen oldest) routes)
seen_some oldest d [] h = refl
seen_some oldest d (r ∷ routes) h = by (is_seen oldest r) refl (seen_some oldest d routes h.1)
  where
    same : is_path_seen oldest (filled (empty_of d) r) ≡ is_seen oldest r
    same = seen_filled oldest (empty_of d) r h.0.climbs ∙ (λ i. seen_empty oldest (length d.patterns) i && is_seen oldest r)

    by : (b : Bool) → is_seen oldest r ≡ b → filter (is_path_seen oldest) (paths_of d routes) ≡ paths_of d (filter (is_seen oldest) routes)
        → cond (is_path_seen oldest (filled (empty_of d) r)) (filled (empty_of d) r ∷ filter (is_path_seen oldest) (paths_of d routes)) (filter (is_path_seen oldest) (paths_of d routes)) ≡ paths_of d (cond b (r ∷ filter (is_seen oldest) routes) (filter (is_seen oldest) routes))
    by true e later = λ i. cond ((same ∙ e) i) (filled (empty_of d) r ∷ later i) (later i)
    by false e later = λ i. cond ((same ∙ e) i) (filled (empty_of d) r ∷ later i) (later i)

-- the empty path is seen
pub seen_all : (oldest : ℕ) (d : Definition) (routes : List Route) → AreOpen (empty_of d) routes → filter (is_path_seen oldest) (paths_of d ([] ∷ routes)) ≡ paths_of d ([] ∷ filter (is_seen oldest) routes)
seen_all oldest d routes h =
    (λ i. cond (seen_empty oldest (length d.patterns) i) (empty_of d ∷ filter (is_path_seen oldest) (paths_of d routes)) (filter (is_path_seen oldest) (paths_of d routes)))
    ∙ ap (λ (ps : List Assignment). empty_of d ∷ ps) (seen_some oldest d routes h)

-- ---- what is new

flat_mapped : {X Y Z : Type 0} (f : Y → List Z) (g : X → Y) (xs : List X) → flat_map f (map g xs) ≡ flat_map (λ x. f (g x)) xs
flat_mapped f g [] = refl
flat_mapped f g (x ∷ xs) = ap (λ zs. f (g x) ++ zs) (flat_mapped f g xs)

sum_mapped : {X Y : Type 0} (f : Y → ℕ) (g : X → Y) (xs : List X) → sum_by f (map g xs) ≡ sum_by (λ x. f (g x)) xs
sum_mapped f g [] = refl
sum_mapped f g (x ∷ xs) = sum_by-cons f (g x) (map g xs) ∙ ap (λ n. f (g x) + n) (sum_mapped f g xs) ∙ sym (sum_by-cons (λ y. f (g y)) x xs)

filled_on : (slots : Assignment) (route : Route) (p n : ℕ) → filled slots (route ++ step p n ∷ []) ≡ with_number (filled slots route) p n
filled_on slots [] p n = refl
filled_on slots (s ∷ route) p n = filled_on (with_number slots s.pattern s.number) route p n

ends_of : (slots : Assignment) (route : Route) (n : ℕ) (ps : List ℕ) → map (filled slots) (map (λ p. route ++ step p n ∷ []) ps) ≡ map (λ p. with_number (filled slots route) p n) ps
ends_of slots route n [] = refl
ends_of slots route n (p ∷ ps) = λ i. filled_on slots route p n i ∷ ends_of slots route n ps i

new_paths : (o : Offered) (slots : Assignment) (routes : List Route) → extensions o (map (filled slots) routes) ≡ map (filled slots) (new_routes o slots routes)
new_paths o slots [] = refl
new_paths o slots (r ∷ routes) =
    (λ i. sym (ends_of slots r o.number (growing o (filled slots r))) i ++ new_paths o slots routes i)
    ∙ sym (map-append (filled slots) (map (λ p. r ++ step p o.number ∷ []) (growing o (filled slots r))) (new_routes o slots routes))

takes_it : (n p : ℕ) (route : Route) → lacks (n ∷ []) (route ++ step p n ∷ []) ≡ false
takes_it n p [] = let same : (n == n) ≡ true = grind (arith, nat_tests) in λ i. not (same i || false) && true
takes_it n p (s ∷ route) = (λ i. not (contains_number (n ∷ []) s.number) && takes_it n p route i) ∙ and_comm (not (contains_number (n ∷ []) s.number)) false

all_ends : (n : ℕ) (route : Route) (ps : List ℕ) → AllByRecursion (λ r. lacks (n ∷ []) r ≡ false) (map (λ p. route ++ step p n ∷ []) ps)
all_ends n route [] = tt
all_ends n route (p ∷ ps) = (takes_it n p route, all_ends n route ps)

all_new : (o : Offered) (slots : Assignment) (routes : List Route) → AllByRecursion (λ r. lacks (o.number ∷ []) r ≡ false) (new_routes o slots routes)
all_new o slots [] = tt
all_new o slots (r ∷ routes) = each_append (λ q. lacks (o.number ∷ []) q ≡ false) (map (λ p. r ++ step p o.number ∷ []) (growing o (filled slots r))) (new_routes o slots routes) (all_ends o.number r (growing o (filled slots r))) (all_new o slots routes)

-- the added routes are those that the number adds behind the empty path and behind the seen routes
same_added : (o : Offered) (slots : Assignment) (before now : List Route) → Lasts o.number before now → Grows o slots (growing o slots) before now
    → SameMembers (filter (λ r. not (lacks (o.number ∷ []) r)) now) (new_routes o slots ([] ∷ seen o before))
same_added o slots before now lasts grows = record {
  to = λ r m.
      let w = IsIn-filter_from (λ q. not (lacks (o.number ∷ []) q)) r now m in
      elim (grows.from r w.0) [
        | inl old ↦ absurd (kept r (subst (λ xs. IsIn r xs) (sym lasts) old) w.1)
        | inr new ↦ elim new [
          | inl behind ↦ IsIn-append_right r here later behind
          | inr begun ↦ IsIn-append_left r here later begun
        ]
      ];
  back = λ r m.
      let taken = all_in (λ q. lacks (o.number ∷ []) q ≡ false) (here ++ later) r (all_new o slots ([] ∷ seen o before)) m in
      IsIn-filter (λ q. not (lacks (o.number ∷ []) q)) r now (ap not taken)
      (elim (IsIn-append_cases r here later m) [
        | inl begun ↦ grows.begins r begun
        | inr behind ↦ grows.adds r behind
      ]);
}
  where
    here : List Route
    here = steps_to o.number (growing o slots)

    later : List Route
    later = new_routes o slots (seen o before)

    kept : (r : Route) → IsIn r (filter (lacks (o.number ∷ [])) now) → not (lacks (o.number ∷ []) r) ≡ true → ⊥
    kept r m e = let w = (IsIn-filter_from (lacks (o.number ∷ [])) r now m).1 in let both = sym e ∙ ap not w in absurd cc

-- ---- told of a tree

pub reserve_lead : (d : Definition) (rule : ℕ) (pending : Option Pending) (routes : List Route) (t : Tree) (messages : List Message) (number : ℕ) (o : Offered)
    → tree_of d rule pending routes ≡ t → t.reserve ≡ None → bare o ≡ offer_to (tree_of d rule None routes) messages number → AreOpen (empty_of d) routes
    → AllByRecursion (CanOffer (offer_to t messages number)) t.paths → AllByRecursion (AreIndexed o.index o.messages) t.paths → CanOffer o (empty_of d) × LeadOn o (empty_of d) routes
reserve_lead d rule pending routes t messages number o shown settled same opened can indexed =
    let all = subst (λ (u : Tree). AllByRecursion (CanOffer (offer_to u messages number)) u.paths) (sym (settled_tree d rule pending routes t shown settled)) can in
    let have = subst (λ (u : Tree). AllByRecursion (AreIndexed o.index o.messages) u.paths) (sym (settled_tree d rule pending routes t shown settled)) indexed in
    let bares = subst (λ (x : Offered). AllByRecursion (CanOffer x) (paths_of d ([] ∷ routes))) (sym same) all in
    (can_from o (empty_of d) bares.0 have.0, lead_from o (empty_of d) routes opened bares.1 have.1)

pub reserve_tries : (d : Definition) (rule : ℕ) (pending : Option Pending) (routes : List Route) (t : Tree) (messages : List Message) (number : ℕ) (o : Offered)
    → tree_of d rule pending routes ≡ t → t.reserve ≡ None → bare o ≡ offer_to (tree_of d rule None routes) messages number
    → tries (offer_to t messages number) t.paths ≡ length (tried o (empty_of d)) + tries_behind o (empty_of d) routes
reserve_tries d rule pending routes t messages number o shown settled same =
    sym (ap (λ (u : Tree). tries (offer_to u messages number) u.paths) (settled_tree d rule pending routes t shown settled))
    ∙ ap (λ (x : Offered). tries x (paths_of d ([] ∷ routes))) (sym same)
    ∙ sum_by-cons (λ path. length (tried o path)) (empty_of d) (map (filled (empty_of d)) routes)
    ∙ ap (λ (n : ℕ). length (tried o (empty_of d)) + n) (sum_mapped (λ path. length (tried o path)) (filled (empty_of d)) routes)

pub reserve_counts : (n : ℕ) (before now : List Route) → Lasts n before now → length now ≡ length before + length (filter (λ r. not (lacks (n ∷ []) r)) now)
reserve_counts n before now lasts = let parts = parts_count (lacks (n ∷ [])) now in let same = ap (λ (rs : List Route). length rs) lasts in omega arith

and_both : (a b : Bool) → (a && b) ≡ true → (a ≡ true) × (b ≡ true)
and_both true b h = (refl, h)
and_both false b h = absurd cc

-- a route that the number adds behind a seen one is seen, as the number is
seen_ends : (oldest n : ℕ) (route : Route) (ps : List ℕ) → nat_le oldest n ≡ true → is_seen oldest route ≡ true → AllByRecursion (λ r. is_seen oldest r ≡ true) (map (λ p. route ++ step p n ∷ []) ps)
seen_ends oldest n route [] e h = tt
seen_ends oldest n route (p ∷ ps) e h = (one route h, seen_ends oldest n route ps e h)
  where
    one : (r : Route) → is_seen oldest r ≡ true → is_seen oldest (r ++ step p n ∷ []) ≡ true
    one [] k = λ i. e i && true
    one (s ∷ r) k = λ i. (and_both (nat_le oldest s.number) (is_seen oldest r) k).0 i && one r (and_both (nat_le oldest s.number) (is_seen oldest r) k).1 i

seen_new : (o : Offered) (slots : Assignment) (routes : List Route) → nat_le o.oldest o.number ≡ true → AllByRecursion (λ r. is_seen o.oldest r ≡ true) routes → AllByRecursion (λ r. is_seen o.oldest r ≡ true) (new_routes o slots routes)
seen_new o slots [] e h = tt
seen_new o slots (r ∷ routes) e h =
    each_append (λ q. is_seen o.oldest q ≡ true) (map (λ p. r ++ step p o.number ∷ []) (growing o (filled slots r))) (new_routes o slots routes)
    (seen_ends o.oldest o.number r (growing o (filled slots r)) e h.0) (seen_new o slots routes e h.1)

seen_filter : (oldest : ℕ) (routes : List Route) → AllByRecursion (λ r. is_seen oldest r ≡ true) (filter (is_seen oldest) routes)
seen_filter oldest [] = tt
seen_filter oldest (r ∷ routes) = by (is_seen oldest r) refl (seen_filter oldest routes)
  where
    by : (b : Bool) → is_seen oldest r ≡ b → AllByRecursion (λ q. is_seen oldest q ≡ true) (filter (is_seen oldest) routes) → AllByRecursion (λ q. is_seen oldest q ≡ true) (cond b (r ∷ filter (is_seen oldest) routes) (filter (is_seen oldest) routes))
    by true e later = (e, later)
    by false e later = later

seen_added : (o : Offered) (slots : Assignment) (before now : List Route) → nat_le o.oldest o.number ≡ true → Lasts o.number before now → Grows o slots (growing o slots) before now
    → AllByRecursion (λ r. is_seen o.oldest r ≡ true) (filter (λ r. not (lacks (o.number ∷ []) r)) now)
seen_added o slots before now e lasts grows =
    all_members (λ r. is_seen o.oldest r ≡ true) (filter (λ r. not (lacks (o.number ∷ []) r)) now)
    (λ r m. all_in (λ q. is_seen o.oldest q ≡ true) (new_routes o slots ([] ∷ seen o before)) r (seen_new o slots ([] ∷ seen o before) e (refl, seen_filter o.oldest before)) ((same_added o slots before now lasts grows).to r m))

lasts_alike : (n : ℕ) (before now : List Route) → Lasts n before now → now ≡ before → AllByRecursion (λ r. lacks (n ∷ []) r ≡ true) now
lasts_alike n before now lasts same = subst (AllByRecursion (λ r. lacks (n ∷ []) r ≡ true)) (lasts ∙ sym same) (lack_filter now)
  where
    lack_filter : (routes : List Route) → AllByRecursion (λ r. lacks (n ∷ []) r ≡ true) (filter (lacks (n ∷ [])) routes)
    lack_filter [] = tt
    lack_filter (r ∷ routes) = by (lacks (n ∷ []) r) refl (lack_filter routes)
      where
        by : (b : Bool) → lacks (n ∷ []) r ≡ b → AllByRecursion (λ q. lacks (n ∷ []) q ≡ true) (filter (lacks (n ∷ [])) routes) → AllByRecursion (λ q. lacks (n ∷ []) q ≡ true) (cond b (r ∷ filter (lacks (n ∷ [])) routes) (filter (lacks (n ∷ [])) routes))
        by true e later = (e, later)
        by false e later = later

none_new : (n : ℕ) (routes : List Route) → AllByRecursion (λ r. lacks (n ∷ []) r ≡ true) routes → filter (λ r. not (lacks (n ∷ []) r)) routes ≡ []
none_new n [] h = refl
none_new n (r ∷ routes) h = λ i. cond (not (h.0 i)) (r ∷ none_new n routes h.1 i) (none_new n routes h.1 i)

pub reserve_seen : (o : Offered) (before now : List Route) (best : Option Candidate) (aside : ℕ) → o.oldest ≡ oldest_seen o.definition.window o.number → Lasts o.number before now
    → (best ≢ None → now ≡ before) → (best ≡ None → Grows o (empty_of o.definition) (growing o (empty_of o.definition)) before now)
    → SeesAdded o.definition (Some record { number = o.number; best = best; aside = aside }) now
reserve_seen o before now None aside same lasts found grows = λ e.
    let sees : nat_le o.oldest o.number ≡ true = grind (arith, nat_tests) in
    subst (λ (n : ℕ). AllByRecursion (λ r. is_seen n r ≡ true) (filter (λ r. not (lacks (o.number ∷ []) r)) now)) same (seen_added o (empty_of o.definition) before now sees lasts (grows refl))
reserve_seen o before now (Some b) aside same lasts found grows = λ e.
    subst (λ (rs : List Route). AllByRecursion (λ r. is_seen (oldest_seen o.definition.window o.number) r ≡ true) rs) (sym (none_new o.number now (lasts_alike o.number before now lasts (found (λ h. absurd cc))))) tt

-- what is true of the routes that lack the number, and of the others, is true of all
all_parts : (P : Route → Type 0) (p : Route → Bool) (routes : List Route) → AllByRecursion P (filter p routes) → AllByRecursion P (filter (λ r. not (p r)) routes) → AllByRecursion P routes
all_parts P p [] some others = tt
all_parts P p (r ∷ routes) some others = by (p r) refl (all_parts P p routes)
  where
    by : (b : Bool) → p r ≡ b → (AllByRecursion P (filter p routes) → AllByRecursion P (filter (λ x. not (p x)) routes) → AllByRecursion P routes) → P r × AllByRecursion P routes
    by true e later =
        let here = subst (λ (b : Bool). AllByRecursion P (cond b (r ∷ filter p routes) (filter p routes))) e some in
        let rest = subst (λ (b : Bool). AllByRecursion P (cond (not b) (r ∷ filter (λ x. not (p x)) routes) (filter (λ x. not (p x)) routes))) e others in
        (here.0, later here.1 rest)
    by false e later =
        let rest = subst (λ (b : Bool). AllByRecursion P (cond b (r ∷ filter p routes) (filter p routes))) e some in
        let here = subst (λ (b : Bool). AllByRecursion P (cond (not b) (r ∷ filter (λ x. not (p x)) routes) (filter (λ x. not (p x)) routes))) e others in
        (here.0, later rest here.1)

-- without a window all routes are seen as before, and those that were added
reserve_all : (d : Definition) (before now : List Route) (number aside : ℕ) (best : Option Candidate) → 1 ≤ number → Lasts number before now → SeesAll d before → SeesAdded d (Some record { number = number; best = best; aside = aside }) now → SeesAll d now
reserve_all d before now number aside best from lasts sees added none =
    let oldest : oldest_seen d.window number ≡ 1 = ap (λ (w : Option ℕ). oldest_seen w number) none in
    let new : AllByRecursion (λ r. is_seen 1 r ≡ true) (filter (λ r. not (lacks (number ∷ []) r)) now) =
    subst (λ (k : ℕ). AllByRecursion (λ r. is_seen k r ≡ true) (filter (λ r. not (lacks (number ∷ []) r)) now)) oldest (added (omega (arith, from, oldest)))
    in
    all_parts (λ r. is_seen 1 r ≡ true) (lacks (number ∷ [])) now (subst (λ (rs : List Route). AllByRecursion (λ r. is_seen 1 r ≡ true) rs) (sym lasts) (sees none)) new

pub reserve_kept : {ties : Ties} (d : Definition) (rows now : List (List Branch)) (count count' number : ℕ) (best : Option Candidate) (pending : Option Pending) → IsKept d ties rows count pending → 1 ≤ number
    → length now ≤ 8 → AreSound now → AreOpen (empty_of d) (rows_routes 0 now) → Lasts number (rows_routes 0 rows) (rows_routes 0 now)
    → SeesAdded d (Some record { number = number; best = best; aside = count' - count }) (rows_routes 0 now)
    → count' + length (rows_routes 0 rows) ≡ count + length (rows_routes 0 now) → IsKept d ties now count' (Some record { number = number; best = best; aside = count' - count })
reserve_kept d rows now count count' number best pending k from few sound opened lasts seen counts = record {
  some = k.some;
  many = k.many;
  tied = k.tied;
  few = few;
  sound = sound;
  free_left = opened;
  sees_all = reserve_all d (rows_routes 0 rows) (rows_routes 0 now) number (count' - count) best from lasts k.sees_all seen;
  counted = let whole = k.counted in omega arith;
  aside = let more = reserve_counts number (rows_routes 0 rows) (rows_routes 0 now) lasts in omega arith;
  seen = seen;
}

pub reserve_found : (d : Definition) (rule : ℕ) (pending : Option Pending) (before now : List Route) (t : Tree) (messages : List Message) (number aside : ℕ) (best : Option Candidate) (o : Offered)
    → tree_of d rule pending before ≡ t → t.reserve ≡ None → bare o ≡ offer_to (tree_of d rule None before) messages number → o.number ≡ number → AreOpen (empty_of d) before
    → Lasts o.number before now → best ≡ least (new_matches o (empty_of d) ([] ∷ seen o before)) → (best ≡ None → Grows o (empty_of d) (growing o (empty_of d)) before now)
    → IsReserved (offer_to t messages number) t.paths (reserve_of d (Some record { number = number; best = best; aside = aside }) now)
reserve_found d rule pending before now t messages number aside best o shown settled same named opened lasts is grows =
    subst (λ (u : Tree). IsReserved (offer_to u messages number) u.paths (reserve_of d (Some record { number = number; best = best; aside = aside }) now)) (settled_tree d rule pending before t shown settled)
    (subst (λ (x : Offered). IsReserved x (paths_of d ([] ∷ before)) (reserve_of d (Some record { number = number; best = best; aside = aside }) now)) same
    (sym named, is ∙ found, added_are))
  where
    seen_are : seen_paths o (paths_of d ([] ∷ before)) ≡ paths_of d ([] ∷ seen o before)
    seen_are = seen_all o.oldest d before opened

    found : least (new_matches o (empty_of d) ([] ∷ seen o before)) ≡ least (completions o (seen_paths o (paths_of d ([] ∷ before))))
    found = ap least (sym (flat_mapped (matches_at o) (filled (empty_of d)) ([] ∷ seen o before)) ∙ ap (completions o) (sym seen_are))

    new_are : extensions o (seen_paths o (paths_of d ([] ∷ before))) ≡ paths_of d (new_routes o (empty_of d) ([] ∷ seen o before))
    new_are = ap (extensions o) seen_are ∙ new_paths o (empty_of d) ([] ∷ seen o before)

    added_are : best ≡ None → SameMembers (paths_of d (filter (λ r. not (lacks (number ∷ []) r)) now)) (extensions o (seen_paths o (paths_of d ([] ∷ before))))
    added_are none =
        subst (λ (ps : List Assignment). SameMembers (paths_of d (filter (λ r. not (lacks (number ∷ []) r)) now)) ps) (sym new_are)
        (subst (λ (n : ℕ). SameMembers (paths_of d (filter (λ r. not (lacks (n ∷ []) r)) now)) (paths_of d (new_routes o (empty_of d) ([] ∷ seen o before)))) named
        (same_map (filled (empty_of d)) (filter (λ r. not (lacks (o.number ∷ []) r)) now) (new_routes o (empty_of d) ([] ∷ seen o before)) (same_added o (empty_of d) before now lasts (grows none))))
