-- Nodes of a row of which some are without the routes that take a number, and nodes that have none behind them.
use Rattle.std.proofs.Common.{◌≡◌, ◌⊎◌, ◌∙◌, inl, inr, ℕ, zero, suc, ◌+◌, ◌<◌, ◌≤◌, ◌≢◌, List, [], ◌∷◌, ◌++◌, map, length, get_or, set, Bool, true, false, not, ◌&&◌, ◌||◌, cond, Some, None, replicate, refl, sym, ap, subst, arith, length-append}
use Rattle.std.specs.Prelude.{◌==◌, slice_index, nat_lt, if◌then◌else◌}
use Rattle.std.specs.List.{filter, AllByRecursion}
use Rattle.std.proofs.lemmas.Bool.{cases_lt, eqb-true}
use Rattle.std.proofs.lemmas.Bool.Decides.{nat_tests}
use Rattle.std.proofs.lemmas.List.{get_or-set_other, get_or-set_same, length-map, length-set}
use Rattle.join_base.specs.declared.message.Message.{Message}
use Rattle.join_base.specs.Taken.{contains_number}
use Rattle.guard_eval.specs.Meaning.{Assignment, recorded_message, number_at, is_slot_filled}
use Rattle.guard_eval.proofs.ExtendLemmas.{Extends, both_true}
use Rattle.guard_eval.proofs.ReadyLemmas.{all_left, all_right}
use Rattle.pattern_core.specs.Matches.{is_of_kind, is_agreeable}
use Rattle.pattern_core.specs.Members.{IsIn}
use Rattle.pattern_core.specs.Suits.{IsRecorded, SlotsSuit}
use Rattle.pattern_core.proofs.SuitsLemmas.{length-SlotsSuit}
use Rattle.value_index.specs.ValueRange.{Ascend}
use Rattle.tree_rows.specs.Routes.{Route, Step, Branch, step, filled, with_number, node_routes, row_routes, lacks}
use Rattle.tree_rows.specs.Rows.{leaf, node_at}
use Rattle.row_screens.specs.Below.{AreBelow, Climbs}
use Rattle.row_screens.specs.Offers.{Offered, is_free, may_take, places}
use Rattle.row_screens.specs.Offering.{CanOffer, LeadOn, LeadsOn}
use Rattle.tree_rows.specs.Order.{Earlier, Rise, IsOrderedNode, IsSoundRow}
use Rattle.tree_rows.specs.Pruned.{AreShort, NodesRise, RiseFrom, pruned}
use Rattle.row_screens.specs.Screen.{IsOffered}
use Rattle.row_screens.specs.Look.{FindsAt}
use Rattle.match_tree.specs.Thinned.{AreVisited, ContinuesPath, ContinuePath, IsBarred, IsGuarded, IsQuiet, IsThinned, IsVisited, NodesContinuePath}
use Rattle.row_screens.proofs.MemberLemmas.{all_in}
use Rattle.match_tree.proofs.LeadLemmas.{below_start, below_unset, not_it}
use Rattle.row_screens.proofs.LookLemmas.{node_less}
use Rattle.tree_rows.proofs.OrderLemmas.{ordered_filter}
use Rattle.tree_rows.proofs.PruneLemmas.{all_filtered, one_of_more}
use Rattle.match_tree.proofs.OpenLemmas.{climbs_rise}
use Rattle.row_screens.proofs.SlotsLemmas.{agreeable_below, below_further, extends_one, free_further}
use Rattle.row_screens.proofs.ScreenLemmas.{number_set}
use Rattle.row_screens.proofs.TakeLemmas.{and_of, filter_within, takes_below, takes_other}
use Rattle.tree_rows.proofs.ListLemmas.{filter_both}
use Rattle.tree_rows.proofs.WalkLemmas.{all_at}

-- ---- what is left of a node

pub pruned_twice : (ks : List ℕ) (node : Branch) → pruned ks (pruned ks node) ≡ pruned ks node
pruned_twice ks node = ap (λ (rs : List Route). record { number = node.number; routes = rs }) (filter_within (lacks ks) (lacks ks) (λ r h. h) node.routes)

pub ordered_pruned : (ks : List ℕ) (node : Branch) → IsOrderedNode node → IsOrderedNode (pruned ks node)
ordered_pruned ks node h = (all_filtered (Earlier []) (lacks ks) node.routes h.0, ordered_filter (lacks ks) node.routes h.1)

pub short_pruned : (m : ℕ) (ks : List ℕ) (node : Branch) → AreShort m node.routes → AreShort m (pruned ks node).routes
short_pruned m ks node h = all_filtered (λ (r : Route). length r ≤ m) (lacks ks) node.routes h

mapped_filter : {X Y : Type 0} (P : Y → Type 0) (f : X → Y) (p : X → Bool) (xs : List X) → AllByRecursion P (map f xs) → AllByRecursion P (map f (filter p xs))
mapped_filter P f p [] h = tt
mapped_filter {X} {Y} P f p (x ∷ xs) h = by (p x) (mapped_filter P f p xs h.1)
  where
    by : (b : Bool) → AllByRecursion P (map f (filter p xs)) → AllByRecursion P (map f (cond b (x ∷ filter p xs) (filter p xs)))
    by true later = (h.0, later)
    by false later = later

pub go_on_pruned : (o : Offered) (slots : Assignment) (q : ℕ) (ks : List ℕ) (node : Branch) → ContinuePath o slots (node_routes q node) → ContinuePath o slots (node_routes q (pruned ks node))
go_on_pruned o slots q ks node h = (h.0, mapped_filter (ContinuesPath o.messages o.index o.definition slots) (λ r. step q node.number ∷ r) (lacks ks) node.routes h.1)

-- ---- two lists of numbers

regroup : (a b x y : Bool) → ((not a && x) && (not (b || false) && y)) ≡ (not (a || b) && (x && y))
regroup true b x y = refl
regroup false true true y = refl
regroup false true false y = refl
regroup false false true y = refl
regroup false false false y = refl

lacks_more : (ks : List ℕ) (k : ℕ) (route : Route) → (lacks ks route && lacks (k ∷ []) route) ≡ lacks (ks ++ k ∷ []) route
lacks_more ks k [] = refl
lacks_more ks k (s ∷ route) =
    regroup (contains_number ks s.number) (s.number == k) (lacks ks route) (lacks (k ∷ []) route) ∙ (λ i. not (sym (one_of_more ks k s.number) i) && lacks_more ks k route i)

and_swap : (a b : Bool) → (a && b) ≡ (b && a)
and_swap true true = refl
and_swap true false = refl
and_swap false true = refl
and_swap false false = refl

pub pruned_more : (ks : List ℕ) (k : ℕ) (node : Branch) → pruned (k ∷ []) (pruned ks node) ≡ pruned (ks ++ k ∷ []) node
pruned_more ks k node = ap (λ (rs : List Route). record { number = node.number; routes = rs }) (filter_both (lacks ks) (lacks (k ∷ [])) (lacks (ks ++ k ∷ [])) (lacks_more ks k) node.routes)

pub pruned_first : (ks : List ℕ) (k : ℕ) (node : Branch) → pruned ks (pruned (k ∷ []) node) ≡ pruned (ks ++ k ∷ []) node
pruned_first ks k node =
    ap (λ (rs : List Route). record { number = node.number; routes = rs })
    (filter_both (lacks (k ∷ [])) (lacks ks) (lacks (ks ++ k ∷ [])) (λ r. and_swap (lacks (k ∷ []) r) (lacks ks r) ∙ lacks_more ks k r) node.routes)

lacks_last : (ks : List ℕ) (k : ℕ) (route : Route) → lacks (ks ++ k ∷ []) route ≡ true → lacks (k ∷ []) route ≡ true
lacks_last ks k route h = right (lacks ks route) (lacks (k ∷ []) route) (lacks_more ks k route ∙ h)
  where
    right : (a b : Bool) → (a && b) ≡ true → b ≡ true
    right true b e = e
    right false b e = absurd cc

-- a number that is taken out before is taken out as well
pub pruned_last : (ks : List ℕ) (k : ℕ) (node : Branch) → pruned (ks ++ k ∷ []) (pruned (k ∷ []) node) ≡ pruned (ks ++ k ∷ []) node
pruned_last ks k node =
    ap (λ (rs : List Route). record { number = node.number; routes = rs }) (filter_within (lacks (ks ++ k ∷ [])) (lacks (k ∷ [])) (lacks_last ks k) node.routes)

lacks_nothing : (route : Route) → lacks [] route ≡ true
lacks_nothing [] = refl
lacks_nothing (s ∷ route) = lacks_nothing route

filter_all : (routes : List Route) → filter (lacks []) routes ≡ routes
filter_all [] = refl
filter_all (r ∷ routes) = λ i. cond (lacks_nothing r i) (r ∷ filter_all routes i) (filter_all routes i)

pub pruned_none : (row : List Branch) → map (pruned []) row ≡ row
pruned_none [] = refl
pruned_none (node ∷ row) =
    let same : pruned [] node ≡ node = λ i. record { number = node.number; routes = filter_all node.routes i } in
    λ i. same i ∷ pruned_none row i

map_map : {X : Type 0} (f g h : X → X) → ((x : X) → f (g x) ≡ h x) → (xs : List X) → map f (map g xs) ≡ map h xs
map_map f g h is [] = refl
map_map f g h is (x ∷ xs) = λ i. is x i ∷ map_map f g h is xs i

-- ---- nodes of which some are thinned

pub same_thinned : (ks : List ℕ) (Rest : ℕ → Type 0) (row : List Branch) → ((i : ℕ) → i < length row → Rest (node_at row i).number) → IsThinned ks Rest row row
same_thinned ks Rest row rest = record { long = refl; each = λ i l. inr (refl, rest i l) }

pub weaker : (ks : List ℕ) (Rest More : ℕ → Type 0) (before now : List Branch) → ((i : ℕ) → i < length before → Rest (node_at before i).number → More (node_at before i).number) → IsThinned ks Rest before now → IsThinned ks More before now
weaker ks Rest More before now from h = record {
  long = h.long;
  each = λ i l. elim (h.each i l) [
    | inl e ↦ inl e
    | inr s ↦ inr (s.0, from i l s.1)
  ];
}

module _ (ks : List ℕ) (First Second : ℕ → Type 0) (before mid now : List Branch) (a : IsThinned ks First before mid) (b : IsThinned ks Second mid now) where
  one : (i : ℕ) → (node_at mid i ≡ pruned ks (node_at before i)) ⊎ ((node_at mid i ≡ node_at before i) × First (node_at before i).number) → (node_at now i ≡ pruned ks (node_at mid i)) ⊎ ((node_at now i ≡ node_at mid i) × Second (node_at mid i).number)
      → (node_at now i ≡ pruned ks (node_at before i)) ⊎ ((node_at now i ≡ node_at before i) × (First (node_at before i).number × Second (node_at before i).number))
  one i (inl e) (inl f) = inl (f ∙ ap (pruned ks) e ∙ pruned_twice ks (node_at before i))
  one i (inl e) (inr f) = inl (f.0 ∙ e)
  one i (inr e) (inl f) = inl (f ∙ ap (pruned ks) e.0)
  one i (inr e) (inr f) = inr (f.0 ∙ e.0, (e.1, subst (λ (x : Branch). Second x.number) e.0 f.1))

  -- in two steps
  pub both_thinned : IsThinned ks (λ n. First n × Second n) before now
  both_thinned = record {
    long = b.long ∙ a.long;
    each = λ i l. one i (a.each i l) (b.each i (omega (arith, l, a.long)));
  }

module _ (ks : List ℕ) (Rest : ℕ → Type 0) where
  tail_of : (x y : Branch) (before now : List Branch) → IsThinned ks Rest (x ∷ before) (y ∷ now) → IsThinned ks Rest before now
  tail_of x y before now h = record { long = omega (arith, h.long); each = λ i l. h.each (suc i) (omega (arith, l)) }

  -- where a function sees no difference, none is seen
  pub thinned_map : {X : Type 0} (f : Branch → X) (before now : List Branch) → ((node : Branch) → f (pruned ks node) ≡ f node) → IsThinned ks Rest before now → map f now ≡ map f before
  thinned_map f [] [] same h = refl
  thinned_map f [] (y ∷ now) same h = absurd (omega (arith, h.long))
  thinned_map f (x ∷ before) [] same h = absurd (omega (arith, h.long))
  thinned_map {X} f (x ∷ before) (y ∷ now) same h = λ i. here (h.each 0 (omega arith)) i ∷ thinned_map f before now same (tail_of x y before now h) i
    where
      here : (y ≡ pruned ks x) ⊎ ((y ≡ x) × Rest x.number) → f y ≡ f x
      here (inl e) = ap f e ∙ same x
      here (inr s) = ap f s.0

  -- what is true of each node, and of it without some routes, stays true
  pub thinned_each : (P : Branch → Type 0) (before now : List Branch) → ((node : Branch) → P node → P (pruned ks node)) → IsThinned ks Rest before now → AllByRecursion P before → AllByRecursion P now
  thinned_each P [] [] keeps h all = tt
  thinned_each P [] (y ∷ now) keeps h all = absurd (omega (arith, h.long))
  thinned_each P (x ∷ before) [] keeps h all = absurd (omega (arith, h.long))
  thinned_each P (x ∷ before) (y ∷ now) keeps h all = (here (h.each 0 (omega arith)), thinned_each P before now keeps (tail_of x y before now h) all.1)
    where
      here : (y ≡ pruned ks x) ⊎ ((y ≡ x) × Rest x.number) → P y
      here (inl e) = subst P (sym e) (keeps x all.0)
      here (inr s) = subst P (sym s.0) all.0

  pub thinned_numbers : (before now : List Branch) → IsThinned ks Rest before now → map (λ node. node.number) now ≡ map (λ node. node.number) before
  thinned_numbers before now h = thinned_map (λ (node : Branch). node.number) before now (λ node. refl) h

  pub thinned_sound : (before now : List Branch) → IsThinned ks Rest before now → IsSoundRow before → IsSoundRow now
  thinned_sound before now h sound = record {
    rise = subst Rise (sym (thinned_numbers before now h)) sound.rise;
    ordered = thinned_each IsOrderedNode before now (ordered_pruned ks) h sound.ordered;
  }

  pub thinned_short : (m : ℕ) (before now : List Branch) → IsThinned ks Rest before now → AllByRecursion (λ node. AreShort m node.routes) before → AllByRecursion (λ node. AreShort m node.routes) now
  thinned_short m before now h short = thinned_each (λ (node : Branch). AreShort m node.routes) before now (short_pruned m ks) h short

  pub thinned_go_on : (o : Offered) (slots : Assignment) (q : ℕ) (before now : List Branch) → IsThinned ks Rest before now → NodesContinuePath o slots q before → NodesContinuePath o slots q now
  thinned_go_on o slots q before now h go_on = thinned_each (λ (node : Branch). ContinuePath o slots (node_routes q node)) before now (go_on_pruned o slots q ks) h go_on

-- where the rest is never true, all are
pub thinned_all : (ks : List ℕ) (before now : List Branch) → IsThinned ks (λ n. ⊥) before now → now ≡ map (pruned ks) before
thinned_all ks [] [] h = refl
thinned_all ks [] (y ∷ now) h = absurd (omega (arith, h.long))
thinned_all ks (x ∷ before) [] h = absurd (omega (arith, h.long))
thinned_all ks (x ∷ before) (y ∷ now) h = λ i. here (h.each 0 (omega arith)) i ∷ thinned_all ks before now (tail_of ks (λ n. ⊥) x y before now h) i
  where
    here : (y ≡ pruned ks x) ⊎ ((y ≡ x) × ⊥) → y ≡ pruned ks x
    here (inl e) = e
    here (inr s) = absurd s.1

-- where those that are left have nothing to lose, all are
pub thinned_close : (ks : List ℕ) (Rest Any : ℕ → Type 0) (before now : List Branch) → ((i : ℕ) → i < length before → Rest (node_at before i).number → pruned ks (node_at before i) ≡ node_at before i) → IsThinned ks Rest before now
    → IsThinned ks Any before now
thinned_close ks Rest Any before now same h = record {
  long = h.long;
  each = λ i l. elim (h.each i l) [
    | inl e ↦ inl e
    | inr s ↦ inl (s.0 ∙ sym (same i l s.1))
  ];
}

-- ---- one node

-- the node at a place is thinned, and no other node has its number
pub thinned_set : (ks : List ℕ) (row : List Branch) (place at : ℕ) (was now : Branch) → place < length row → Rise (map (λ node. node.number) row) → (node_at row place).number ≡ at → was ≡ node_at row place → now ≡ pruned ks was → IsThinned ks (λ n. n ≢ at) row (set row place now)
thinned_set ks row place at was now within rise number is cut = record {
  long = length-set row place now;
  each = λ i l. elim (cases_lt i place) [
    | inl below ↦ inr (get_or-set_other row place i now (leaf 0) (λ e. omega (arith, below, e)), before i below)
    | inr above ↦ elim (cases_lt place i) [
      | inl less ↦ inr (get_or-set_other row place i now (leaf 0) (λ e. omega (arith, less, e)), behind i less l)
      | inr most ↦ inl (subst (λ (k : ℕ). node_at (set row place now) k ≡ pruned ks (node_at row k)) (same i above most) here)
    ]
  ];
}
  where
    before : (i : ℕ) → i < place → (node_at row i).number ≢ at
    before i below e = let less = node_less row i place rise below within in omega (arith, less, number, e)

    behind : (i : ℕ) → place < i → i < length row → (node_at row i).number ≢ at
    behind i above l e = let less = node_less row place i rise above l in omega (arith, less, number, e)

    same : (i : ℕ) → place ≤ i → i ≤ place → place ≡ i
    same i above most = omega (arith, above, most)

    here : node_at (set row place now) place ≡ pruned ks (node_at row place)
    here = get_or-set_same row place now (leaf 0) within ∙ cut ∙ ap (pruned ks) is

-- how many routes there are where one node changes
pub count_set : (row : List Branch) (i : ℕ) (was now : Branch) → i < length row → was ≡ get_or row i was → length (row_routes 0 (set row i now)) + length was.routes ≡ length (row_routes 0 row) + length now.routes
count_set [] i was now within is = absurd (omega arith)
count_set (x ∷ row) zero was now within is =
    let a = length-append (node_routes 0 now) (row_routes 0 row) in
    let b = length-append (node_routes 0 x) (row_routes 0 row) in
    let c = length-map now.routes (λ (r : Route). step 0 now.number ∷ r) in
    let d = length-map x.routes (λ (r : Route). step 0 x.number ∷ r) in
    let same : was ≡ x = is in
    let e = ap (λ (n : Branch). length n.routes) same in
    omega (arith, a, b, c, d, e)
count_set (x ∷ row) (suc i) was now within is =
    let a = length-append (node_routes 0 x) (row_routes 0 (set row i now)) in
    let b = length-append (node_routes 0 x) (row_routes 0 row) in
    let later = count_set row i was now (omega arith) is in
    omega (arith, a, b, later)

-- ---- a route takes a number only where it could be taken

extends_filled : (slots : Assignment) (route : Route) → Climbs slots route → Extends slots (filled slots route)
extends_filled slots [] climbs p set_there = refl
extends_filled slots (s ∷ route) climbs p set_there =
    let here = extends_one slots s.pattern s.number climbs.0 p set_there in
    extends_filled (with_number slots s.pattern s.number) route climbs.2 p (ap is_slot_filled here ∙ set_there) ∙ here

kind_of : (messages : List Message) (kinds : List ℕ) (slots : Assignment) (q m : ℕ) → SlotsSuit messages kinds slots → number_at slots q ≡ Some m → is_of_kind (recorded_message messages m) (slice_index kinds q) ≡ true
kind_of messages [] [] q m suits at = absurd cc
kind_of messages [] (slot ∷ slots) q m suits at = absurd suits
kind_of messages (k ∷ kinds) [] q m suits at = absurd suits
kind_of messages (k ∷ kinds) (None ∷ slots) zero m suits at = absurd cc
kind_of messages (k ∷ kinds) (Some n ∷ slots) zero m suits at = let number : n ≡ m = cc in subst (λ (x : ℕ). is_of_kind (recorded_message messages x) k ≡ true) number suits.1
kind_of messages (k ∷ kinds) (None ∷ slots) (suc q) m suits at = kind_of messages kinds slots q m suits at
kind_of messages (k ∷ kinds) (Some n ∷ slots) (suc q) m suits at = kind_of messages kinds slots q m suits.3 at

module _ (o : Offered) where
  -- the first step could be taken at its path
  taken_there : (slots : Assignment) (q : ℕ) (route : Route) → is_free slots q ≡ true → Climbs (with_number slots q o.number) route → SlotsSuit o.messages o.definition.patterns (filled (with_number slots q o.number) route)
      → is_agreeable o.messages o.definition.conjuncts (filled (with_number slots q o.number) route) ≡ true → may_take o slots q ≡ true
  taken_there slots q route free climbs suits agreeable =
      let longer : Assignment = with_number slots q o.number in
      let whole : Assignment = filled longer route in
      let extends = extends_filled longer route climbs in
      let here = number_set slots q o.number free in
      let there : number_at whole q ≡ Some o.number = extends q (ap is_slot_filled here) ∙ here in
      let kind = kind_of o.messages o.definition.patterns whole q o.number suits there in
      let agrees = agreeable_below o.messages longer whole extends o.definition.conjuncts agreeable in
      and_of (is_free slots q) (is_of_kind (recorded_message o.messages o.number) (slice_index o.definition.patterns q) && is_agreeable o.messages o.definition.conjuncts longer) free
      (and_of (is_of_kind (recorded_message o.messages o.number) (slice_index o.definition.patterns q)) (is_agreeable o.messages o.definition.conjuncts longer) kind agrees)

  quiet_further : (slots : Assignment) (q m : ℕ) → is_free slots q ≡ true → IsQuiet o slots → IsQuiet o (with_number slots q m)
  quiet_further slots q m free quiet p = by (may_take o (with_number slots q m) p) refl
    where
      by : (b : Bool) → may_take o (with_number slots q m) p ≡ b → may_take o (with_number slots q m) p ≡ false
      by true e = absurd (let may = takes_below o slots q m p free e in let never = quiet p in cc)
      by false e = e

  lacks_quiet : (slots : Assignment) (route : Route) → IsQuiet o slots → Climbs slots route → SlotsSuit o.messages o.definition.patterns (filled slots route) → is_agreeable o.messages o.definition.conjuncts (filled slots route) ≡ true
      → lacks (o.number ∷ []) route ≡ true
  lacks_quiet slots [] quiet climbs suits agreeable = refl
  lacks_quiet slots (s ∷ route) quiet climbs suits agreeable =
      by (s.number == o.number) refl (lacks_quiet (with_number slots s.pattern s.number) route (quiet_further slots s.pattern s.number climbs.0 quiet) climbs.2 suits agreeable)
    where
      by : (b : Bool) → (s.number == o.number) ≡ b → lacks (o.number ∷ []) route ≡ true → lacks (o.number ∷ []) (s ∷ route) ≡ true
      by true e later = absurd (
          let same : s.number ≡ o.number = eqb-true s.number o.number e in
          let Whole : ℕ → Assignment = λ n. with_number slots s.pattern n in
          let climbs_on = subst (λ (n : ℕ). Climbs (Whole n) route) same climbs.2 in
          let suits_on = subst (λ (n : ℕ). SlotsSuit o.messages o.definition.patterns (filled (Whole n) route)) same suits in
          let agreeable_on = subst (λ (n : ℕ). is_agreeable o.messages o.definition.conjuncts (filled (Whole n) route) ≡ true) same agreeable in
          let may = taken_there slots s.pattern route climbs.0 climbs_on suits_on agreeable_on in
          let never = quiet s.pattern in
          cc
          )
      by false e later = (λ i. not (e i || false) && lacks (o.number ∷ []) route) ∙ later

-- a route that begins behind a greater number does not take it
lacks_above : (slots : Assignment) (k : ℕ) (route : Route) → ((m : ℕ) → AreBelow m slots → k < m) → Climbs slots route → lacks (k ∷ []) route ≡ true
lacks_above slots k [] above climbs = refl
lacks_above slots k (s ∷ route) above climbs =
    let more : k < s.number = above s.number climbs.1 in
    let e : (s.number == k) ≡ false = grind (arith, nat_tests) in
    (λ i. not (e i || false) && lacks (k ∷ []) route) ∙ lacks_above (with_number slots s.pattern s.number) k route (λ m b. above m (below_unset slots s.pattern s.number m climbs.0 b).0) climbs.2

-- ---- nodes that have nothing to lose

kept_where : (k : ℕ) (s : Step) (P : Route → Type 0) → ((r : Route) → P (s ∷ r) → lacks (k ∷ []) r ≡ true) → (routes : List Route) → AllByRecursion P (map (λ r. s ∷ r) routes) → filter (lacks (k ∷ [])) routes ≡ routes
kept_where k s P none [] h = refl
kept_where k s P none (r ∷ routes) h = λ i. cond (none r h.0 i) (r ∷ kept_where k s P none routes h.1 i) (kept_where k s P none routes h.1 i)

module _ (o : Offered) (slots : Assignment) (q : ℕ) (node : Branch) (go_on : ContinuePath o slots (node_routes q node)) where
  -- no pattern may take the number behind it
  pruned_quiet : IsQuiet o (with_number slots q node.number) → pruned (o.number ∷ []) node ≡ node
  pruned_quiet quiet =
      let none = λ (r : Route) (h : ContinuesPath o.messages o.index o.definition slots (step q node.number ∷ r)). lacks_quiet o (with_number slots q node.number) r quiet h.climbs.2 h.suits h.agreeable in
      ap (λ (rs : List Route). record { number = node.number; routes = rs }) (kept_where o.number (step q node.number) (ContinuesPath o.messages o.index o.definition slots) none node.routes go_on.1)

  -- its own number is not less
  pruned_above : o.number ≤ node.number → pruned (o.number ∷ []) node ≡ node
  pruned_above most =
      let above = λ (m : ℕ) (b : AreBelow m (with_number slots q node.number)). (let less = (below_unset slots q node.number m go_on.0.climbs.0 b).1 in let more : o.number < m = omega (arith, less, most) in more) in
      let none = λ (r : Route) (h : ContinuesPath o.messages o.index o.definition slots (step q node.number ∷ r)). lacks_above (with_number slots q node.number) o.number r above h.climbs.2 in
      ap (λ (rs : List Route). record { number = node.number; routes = rs }) (kept_where o.number (step q node.number) (ContinuesPath o.messages o.index o.definition slots) none node.routes go_on.1)

  pub offered_there : CanOffer o slots → node.number < o.number → IsOffered o slots q node.number
  offered_there can less = record {
    can = record {
      definition = can.definition;
      suits = go_on.0.suits;
      agreeable = go_on.0.agreeable;
      indexed = go_on.0.indexed;
      recorded = can.recorded;
      below = below_further slots q node.number o.number can.below less;
    };
    free = go_on.0.climbs.0;
  }

-- the number may be offered behind a node from which the routes go on, and is taken there only where some pattern may take it
pub guarded : (o : Offered) (slots : Assignment) (q : ℕ) (node : Branch) → CanOffer o slots → ContinuePath o slots (node_routes q node) → IsGuarded o slots q node
guarded o slots q node can go_on = record { there = offered_there o slots q node go_on can; quiet = pruned_quiet o slots q node go_on; above = pruned_above o slots q node go_on }

pub all_guarded : (o : Offered) (slots : Assignment) (q : ℕ) (row : List Branch) → CanOffer o slots → NodesContinuePath o slots q row → AllByRecursion (IsGuarded o slots q) row
all_guarded o slots q [] can h = tt
all_guarded o slots q (node ∷ row) can h = (guarded o slots q node can h.0, all_guarded o slots q row can h.1)

pub guarded_pruned : (o : Offered) (slots : Assignment) (q : ℕ) (node : Branch) → IsGuarded o slots q node → IsGuarded o slots q (pruned (o.number ∷ []) node)
guarded_pruned o slots q node h = record { there = h.there; quiet = λ _. pruned_twice (o.number ∷ []) node; above = λ _. pruned_twice (o.number ∷ []) node }

-- where each pattern is barred there, a node has nothing to lose
pruned_barred : (o : Offered) (slots : Assignment) (q : ℕ) (node : Branch) → IsGuarded o slots q node → length slots ≡ length o.definition.patterns → ((p : ℕ) → p < length o.definition.patterns → IsBarred o slots q p node.number) → pruned (o.number ∷ []) node ≡ node
pruned_barred o slots q node guard long barred = elim (cases_lt node.number o.number) [
  | inl less ↦ guard.quiet (λ p. quiet p less)
  | inr most ↦ guard.above most
]
  where
    free_within : (xs : Assignment) (p : ℕ) → is_free xs p ≡ true → p < length xs
    free_within [] p free = absurd cc
    free_within (x ∷ xs) zero free = omega arith
    free_within (x ∷ xs) (suc p) free = let l = free_within xs p free in omega arith

    quiet : (p : ℕ) → node.number < o.number → may_take o (with_number slots q node.number) p ≡ false
    quiet p less = by (may_take o (with_number slots q node.number) p) refl
      where
        by : (b : Bool) → may_take o (with_number slots q node.number) p ≡ b → may_take o (with_number slots q node.number) p ≡ false
        by true e =
            let free = free_within (with_number slots q node.number) p (both_true (is_free (with_number slots q node.number) p) _ e).0 in
            let count = length-set slots q (Some node.number) in
            barred p (omega (arith, free, count, long)) less
        by false e = e

-- the routes by a node that a visit has left
module _ (o : Offered) (slots : Assignment) (q : ℕ) (node : Branch) (visited : AreVisited o slots (node_routes q node)) where
  none_take : IsQuiet o (with_number slots q node.number) → (ps : List ℕ) → filter (may_take o (with_number slots q node.number)) ps ≡ []
  none_take quiet [] = refl
  none_take quiet (p ∷ ps) = λ i. cond (quiet p i) (p ∷ none_take quiet ps i) (none_take quiet ps i)

  visited_quiet : IsQuiet o (with_number slots q node.number) → pruned (o.number ∷ []) node ≡ node
  visited_quiet quiet =
      let none = λ (r : Route) (h : IsVisited o slots (step q node.number ∷ r)). h.earned (none_take quiet (places 0 o.definition.patterns)) in
      ap (λ (rs : List Route). record { number = node.number; routes = rs }) (kept_where o.number (step q node.number) (IsVisited o slots) none node.routes visited.1)

  visited_above : o.number ≤ node.number → pruned (o.number ∷ []) node ≡ node
  visited_above most =
      let above = λ (m : ℕ) (b : AreBelow m (with_number slots q node.number)). (let less = (below_unset slots q node.number m visited.0.climbs.0 b).1 in let more : o.number < m = omega (arith, less, most) in more) in
      let none = λ (r : Route) (h : IsVisited o slots (step q node.number ∷ r)). lacks_above (with_number slots q node.number) o.number r above h.climbs.2 in
      ap (λ (rs : List Route). record { number = node.number; routes = rs }) (kept_where o.number (step q node.number) (IsVisited o slots) none node.routes visited.1)

  visited_there : node.number < o.number → IsOffered o slots q node.number
  visited_there less =
      let leads = visited.0.lead (λ i. not_it node.number o.number less i && lacks (o.number ∷ []) []) in
      record { can = leads.can; free = leads.climbs.0 }

  pub visited_guarded : IsGuarded o slots q node
  visited_guarded = record { there = visited_there; quiet = visited_quiet; above = visited_above }

  pub visited_rise : RiseFrom node.number node.routes
  visited_rise = each node.routes visited.1
    where
      each : (routes : List Route) → AreVisited o slots (map (λ r. step q node.number ∷ r) routes) → RiseFrom node.number routes
      each [] g = tt
      each (r ∷ routes) g = (climbs_rise slots (step q node.number ∷ r) g.0.climbs, each routes g.1)

pub all_visited_guarded : (o : Offered) (slots : Assignment) (q : ℕ) (row : List Branch) → AllByRecursion (λ node. AreVisited o slots (node_routes q node)) row → AllByRecursion (IsGuarded o slots q) row
all_visited_guarded o slots q [] h = tt
all_visited_guarded o slots q (node ∷ row) h = (visited_guarded o slots q node h.0, all_visited_guarded o slots q row h.1)

pub all_visited_rise : (o : Offered) (slots : Assignment) (q : ℕ) (row : List Branch) → AllByRecursion (λ node. AreVisited o slots (node_routes q node)) row → NodesRise row
all_visited_rise o slots q [] h = tt
all_visited_rise o slots q (node ∷ row) h = (visited_rise o slots q node h.0, all_visited_rise o slots q row h.1)

pub visited_nodes : (o : Offered) (slots : Assignment) (q : ℕ) (row : List Branch) → AreVisited o slots (row_routes q row) → AllByRecursion (λ node. AreVisited o slots (node_routes q node)) row
visited_nodes o slots q [] h = tt
visited_nodes o slots q (node ∷ row) h = (all_left (IsVisited o slots) (node_routes q node) (row_routes q row) h, visited_nodes o slots q row (all_right (IsVisited o slots) (node_routes q node) (row_routes q row) h))

-- at a number that is not found, the pattern is barred
pub found_barred : (o : Offered) (slots : Assignment) (q p n : ℕ) (numbers : List ℕ) → FindsAt o slots q p 0 numbers → IsOffered o slots q n → ¬ IsIn n numbers → may_take o (with_number slots q n) p ≡ false
found_barred o slots q p n numbers finds there absent = by (may_take o (with_number slots q n) p) refl
  where
    by : (b : Bool) → may_take o (with_number slots q n) p ≡ b → may_take o (with_number slots q n) p ≡ false
    by true e = elim (finds.has (record { may = takes_below o slots q n p there.free e; apart = takes_other o slots q n p e }) n (omega arith) there) [
      | inl found ↦ absurd (absent found)
      | inr none ↦ none
    ]
    by false e = e

-- ---- from what leads on

pub goes_on : (o : Offered) (slots : Assignment) (routes : List Route) → LeadOn o slots routes → ContinuePath o slots routes
goes_on o slots [] h = tt
goes_on o slots (r ∷ routes) h =
    (record { climbs = h.0.climbs; suits = h.0.can.suits; agreeable = h.0.can.agreeable; indexed = h.0.can.indexed }, goes_on o slots routes h.1)

-- ---- the numbers that are found in the index

module _ (ks : List ℕ) (limit : ℕ) (all left : List ℕ) where
  -- a number of those that were found may stand at a node as it was only if it is left
  abbrev pub IsLeft : ℕ → Type 0
  IsLeft n = n < limit → IsIn n all → IsIn n left

  -- one of them more
  pub found_more : (at : ℕ) (rest : List ℕ) (before mid now : List Branch) → left ≡ at ∷ rest → IsThinned ks IsLeft before mid → IsThinned ks (λ n. n ≢ at) mid now → IsThinned ks (λ n. n < limit → IsIn n all → IsIn n rest) before now
  found_more at rest before mid now is a b =
      weaker ks (λ n. IsLeft n × (n ≢ at)) (λ n. n < limit → IsIn n all → IsIn n rest) before now (λ i l h less m. later (node_at before i).number h.1 (subst (IsIn (node_at before i).number) is (h.0 less m)))
      (both_thinned ks IsLeft (λ n. n ≢ at) before mid now a b)
    where
      later : (n : ℕ) → n ≢ at → IsIn n (at ∷ rest) → IsIn n rest
      later n apart (inl e) = absurd (apart (sym e))
      later n apart (inr m) = m

  -- the others are not below the limit
  pub found_far : (at : ℕ) (rest : List ℕ) (before now : List Branch) → left ≡ at ∷ rest → Ascend left → limit ≤ at → IsThinned ks IsLeft before now → IsThinned ks (λ n. n < limit → ¬ IsIn n all) before now
  found_far at rest before now is ascend far a = weaker ks IsLeft (λ n. n < limit → ¬ IsIn n all) before now (λ i l h less m. never (node_at before i).number less (subst (IsIn (node_at before i).number) is (h less m))) a
    where
      never : (n : ℕ) → n < limit → IsIn n (at ∷ rest) → ⊥
      never n less (inl e) = omega (arith, less, far, e)
      never n less (inr m) = let more : at < n = all_in (λ k. at < k) rest n (subst Ascend is ascend).0 m in omega (arith, less, far, more)

  -- none is left
  pub found_none : (before now : List Branch) → left ≡ [] → IsThinned ks IsLeft before now → IsThinned ks (λ n. n < limit → ¬ IsIn n all) before now
  found_none before now is a = weaker ks IsLeft (λ n. n < limit → ¬ IsIn n all) before now (λ i l h less m. absurd (subst (IsIn (node_at before i).number) is (h less m))) a

-- ---- pattern by pattern

pub pair_thinned : (o : Offered) (slots : Assignment) (q p : ℕ) (ks left : List ℕ) (before now : List Branch) → ks ≡ o.number ∷ [] → AllByRecursion (IsGuarded o slots q) before → FindsAt o slots q p 0 left → IsThinned ks (λ n. n < o.number → ¬ IsIn n left) before now
    → IsThinned (o.number ∷ []) (IsBarred o slots q p) before now
pair_thinned o slots q p ks left before now is guards finds h =
    weaker (o.number ∷ []) (λ n. n < o.number → ¬ IsIn n left) (IsBarred o slots q p) before now barred (subst (λ (ns : List ℕ). IsThinned ns (λ n. n < o.number → ¬ IsIn n left) before now) is h)
  where
    barred : (i : ℕ) → i < length before → ((node_at before i).number < o.number → ¬ IsIn (node_at before i).number left) → IsBarred o slots q p (node_at before i).number
    barred i l none less =
        let node : Branch = node_at before i in
        let there = (all_at (IsGuarded o slots q) before i (leaf 0) l guards).there less in
        found_barred o slots q p node.number left finds there (none less)

and_never : (a b : Bool) → (a && (false && b)) ≡ false
and_never true b = refl
and_never false b = refl

-- a pattern is barred at itself
pub itself_barred : (o : Offered) (slots : Assignment) (q p n : ℕ) → p ≡ q → may_take o (with_number slots q n) p ≡ false
itself_barred o slots q p n same =
    let kind : Bool = is_of_kind (recorded_message o.messages o.number) (slice_index o.definition.patterns p) in
    let agrees : Bool = is_agreeable o.messages o.definition.conjuncts (with_number (with_number slots q n) p o.number) in
    let it : (p == q) ≡ true = grind (arith, nat_tests) in
    let taken : is_free (with_number slots q n) p ≡ false = free_further slots q n p ∙ (λ i. is_free slots p && not (it i)) ∙ last (is_free slots p) in
    λ i. taken i && (kind && agrees)
  where
    last : (b : Bool) → (b && false) ≡ false
    last true = refl
    last false = refl

-- one of another kind is
pub kind_barred : (o : Offered) (slots : Assignment) (q p n : ℕ) → is_of_kind (recorded_message o.messages o.number) (slice_index o.definition.patterns p) ≡ false → may_take o (with_number slots q n) p ≡ false
kind_barred o slots q p n other =
    let agrees : Bool = is_agreeable o.messages o.definition.conjuncts (with_number (with_number slots q n) p o.number) in
    (λ i. is_free (with_number slots q n) p && (other i && agrees)) ∙ and_never (is_free (with_number slots q n) p) agrees

module _ (o : Offered) (slots : Assignment) (q : ℕ) where
  -- the patterns so far are barred
  abbrev pub AreBarred : ℕ → ℕ → Type 0
  AreBarred count n = (p : ℕ) → p < count → IsBarred o slots q p n

  -- one pattern more
  pub barred_more : (count : ℕ) (before mid now : List Branch) → IsThinned (o.number ∷ []) (AreBarred count) before mid → IsThinned (o.number ∷ []) (IsBarred o slots q count) mid now → IsThinned (o.number ∷ []) (AreBarred (count + 1)) before now
  barred_more count before mid now a b =
      weaker (o.number ∷ []) (λ n. AreBarred count n × IsBarred o slots q count n) (AreBarred (count + 1)) before now (λ i l h p m. more (node_at before i).number h.0 h.1 p m)
      (both_thinned (o.number ∷ []) (AreBarred count) (IsBarred o slots q count) before mid now a b)
    where
      more : (n : ℕ) → AreBarred count n → IsBarred o slots q count n → (p : ℕ) → p < count + 1 → IsBarred o slots q p n
      more n first here p m = elim (cases_lt p count) [
        | inl below ↦ first p below
        | inr above ↦ let same : count ≡ p = omega (arith, above, m) in subst (λ (k : ℕ). IsBarred o slots q k n) same here
      ]

  -- all patterns
  pub barred_all : (Rest : ℕ → Type 0) (count : ℕ) (before now : List Branch) → count ≡ length o.definition.patterns → CanOffer o slots → AllByRecursion (IsGuarded o slots q) before → IsThinned (o.number ∷ []) (AreBarred count) before now → IsThinned (o.number ∷ []) Rest before now
  barred_all Rest count before now is can guards h = thinned_close (o.number ∷ []) (AreBarred count) Rest before now same h
    where
      same : (i : ℕ) → i < length before → AreBarred count (node_at before i).number → pruned (o.number ∷ []) (node_at before i) ≡ node_at before i
      same i l barred =
          let node : Branch = node_at before i in
          let here = all_at (IsGuarded o slots q) before i (leaf 0) l guards in
          pruned_barred o slots q node here (length-SlotsSuit o.messages o.definition.patterns slots can.suits) (λ p m. barred p (omega (arith, m, is)))

-- another number may be offered to the empty path
pub can_number : (o : Offered) (slots : Assignment) (number : ℕ) → slots ≡ replicate (length o.definition.patterns) None → CanOffer o slots → IsRecorded o.messages number
    → CanOffer (record { messages = o.messages; index = o.index; definition = o.definition; rule = o.rule; number = number; oldest = o.oldest }) slots
can_number o slots number empty can recorded = record {
  definition = can.definition;
  suits = can.suits;
  agreeable = can.agreeable;
  indexed = can.indexed;
  recorded = recorded;
  below = subst (AreBelow number) (sym empty) (none_above (length o.definition.patterns));
}
  where
    none_above : (n : ℕ) → AreBelow number (replicate n None)
    none_above zero = tt
    none_above (suc n) = none_above n

-- ---- number by number

-- what one number more leaves, and those that are left for a walk
pub thinned_more : (all : Bool) (k : ℕ) (taken others others_now : List ℕ) (first before now : List Branch) → others_now ≡ (if all then others else others ++ k ∷ []) → IsThinned (k ∷ []) (λ n. all ≡ false) before now
    → map (pruned others) before ≡ map (pruned taken) first → map (pruned others_now) now ≡ map (pruned (taken ++ k ∷ [])) first
thinned_more true k taken others others_now first before now is h so_far =
    let cut : now ≡ map (pruned (k ∷ [])) before = thinned_all (k ∷ []) before now (weaker (k ∷ []) (λ n. true ≡ false) (λ n. ⊥) before now (λ i l e. absurd cc) h) in
    ap (λ (ns : List ℕ). map (pruned ns) now) is
    ∙ ap (map (pruned others)) cut
    ∙ map_map (pruned others) (pruned (k ∷ [])) (pruned (others ++ k ∷ [])) (pruned_first others k) before
    ∙ sym (map_map (pruned (k ∷ [])) (pruned others) (pruned (others ++ k ∷ [])) (pruned_more others k) before)
    ∙ ap (map (pruned (k ∷ []))) so_far
    ∙ map_map (pruned (k ∷ [])) (pruned taken) (pruned (taken ++ k ∷ [])) (pruned_more taken k) first
thinned_more false k taken others others_now first before now is h so_far =
    ap (λ (ns : List ℕ). map (pruned ns) now) is
    ∙ thinned_map (k ∷ []) (λ n. false ≡ false) (pruned (others ++ k ∷ [])) before now (pruned_last others k) h
    ∙ sym (map_map (pruned (k ∷ [])) (pruned others) (pruned (others ++ k ∷ [])) (pruned_more others k) before)
    ∙ ap (map (pruned (k ∷ []))) so_far
    ∙ map_map (pruned (k ∷ [])) (pruned taken) (pruned (taken ++ k ∷ [])) (pruned_more taken k) first

-- ---- numbers that no route has

abbrev pub may_stand : ℕ → ℕ → Bool
may_stand limit n = nat_lt 0 n && nat_lt n limit

is_lt : (a b : ℕ) → nat_lt a b ≡ true → a < b
is_lt a b e = grind (arith, nat_tests)

lt_is : (a b : ℕ) → a < b → nat_lt a b ≡ true
lt_is a b l = grind (arith, nat_tests)

recorded_of : (messages : List Message) (kinds : List ℕ) (slots : Assignment) (q m : ℕ) → SlotsSuit messages kinds slots → number_at slots q ≡ Some m → IsRecorded messages m
recorded_of messages [] [] q m suits at = absurd cc
recorded_of messages [] (slot ∷ slots) q m suits at = absurd suits
recorded_of messages (k ∷ kinds) [] q m suits at = absurd suits
recorded_of messages (k ∷ kinds) (None ∷ slots) zero m suits at = absurd cc
recorded_of messages (k ∷ kinds) (Some n ∷ slots) zero m suits at = let number : n ≡ m = cc in subst (IsRecorded messages) number suits.0
recorded_of messages (k ∷ kinds) (None ∷ slots) (suc q) m suits at = recorded_of messages kinds slots q m suits at
recorded_of messages (k ∷ kinds) (Some n ∷ slots) (suc q) m suits at = recorded_of messages kinds slots q m suits.3 at

contains_standing : (limit s : ℕ) (ns : List ℕ) → 1 ≤ s → s < limit → contains_number (filter (may_stand limit) ns) s ≡ contains_number ns s
contains_standing limit s [] some less = refl
contains_standing limit s (n ∷ ns) some less = by (may_stand limit n) refl (contains_standing limit s ns some less)
  where
    by : (b : Bool) → may_stand limit n ≡ b → contains_number (filter (may_stand limit) ns) s ≡ contains_number ns s → contains_number (cond b (n ∷ filter (may_stand limit) ns) (filter (may_stand limit) ns)) s ≡ ((s == n) || contains_number ns s)
    by true e later = ap (λ (b : Bool). (s == n) || b) later
    by false e later =
        let same : (s == n) ≡ false = apart (s == n) refl in
        later ∙ sym (λ i. same i || contains_number ns s)
      where
        apart : (t : Bool) → (s == n) ≡ t → (s == n) ≡ false
        apart false h = h
        apart true h = absurd (
            let same : s ≡ n = eqb-true s n h in
            let first = lt_is 0 n (omega (arith, some, same)) in
            let second = lt_is n limit (omega (arith, less, same)) in
            let both : may_stand limit n ≡ true = and_of (nat_lt 0 n) (nat_lt n limit) first second in
            cc
            )

lacks_standing : (o : Offered) (slots : Assignment) (ns : List ℕ) (route : Route) → Climbs slots route → SlotsSuit o.messages o.definition.patterns (filled slots route) → AreBelow o.number (filled slots route)
    → lacks (filter (may_stand o.number) ns) route ≡ lacks ns route
lacks_standing o slots ns [] climbs suits below = refl
lacks_standing o slots ns (s ∷ route) climbs suits below =
    let longer : Assignment = with_number slots s.pattern s.number in
    let less = (below_unset slots s.pattern s.number o.number climbs.0 (below_start longer route o.number climbs.2 below)).1 in
    let here = number_set slots s.pattern s.number climbs.0 in
    let there : number_at (filled longer route) s.pattern ≡ Some s.number = extends_filled longer route climbs.2 s.pattern (ap is_slot_filled here) ∙ here in
    let recorded = recorded_of o.messages o.definition.patterns (filled longer route) s.pattern s.number suits there in
    λ i. not (contains_standing o.number s.number ns recorded.0 less i) && lacks_standing o longer ns route climbs.2 suits below i

pub filter_standing : (o : Offered) (slots : Assignment) (ns : List ℕ) (routes : List Route) → LeadOn o slots routes → filter (lacks (filter (may_stand o.number) ns)) routes ≡ filter (lacks ns) routes
filter_standing o slots ns [] h = refl
filter_standing o slots ns (r ∷ routes) h =
    λ i. cond (lacks_standing o slots ns r h.0.climbs h.0.can.suits h.0.can.below i) (r ∷ filter_standing o slots ns routes h.1 i) (filter_standing o slots ns routes h.1 i)

-- those that are left are recorded
pub recorded_standing : (messages : List Message) (limit : ℕ) (ns : List ℕ) → IsRecorded messages limit → AllByRecursion (IsRecorded messages) (filter (may_stand limit) ns)
recorded_standing messages limit [] last = tt
recorded_standing messages limit (n ∷ ns) last = by (may_stand limit n) refl (recorded_standing messages limit ns last)
  where
    by : (b : Bool) → may_stand limit n ≡ b → AllByRecursion (IsRecorded messages) (filter (may_stand limit) ns) → AllByRecursion (IsRecorded messages) (cond b (n ∷ filter (may_stand limit) ns) (filter (may_stand limit) ns))
    by true e later =
        let both = both_true (nat_lt 0 n) (nat_lt n limit) e in
        let some = is_lt 0 n both.0 in
        let less = is_lt n limit both.1 in
        ((omega (arith, some), omega (arith, less, last.1)), later)
    by false e later = later

pub few_more : (all : Bool) (others now : List ℕ) (k i : ℕ) → now ≡ (if all then others else others ++ k ∷ []) → length others ≤ i → length now ≤ i + 1
few_more true others now k i is few = let same = ap (λ (ns : List ℕ). length ns) is in omega (arith, same, few)
few_more false others now k i is few = let same = ap (λ (ns : List ℕ). length ns) is in let more = length-append others (k ∷ []) in omega (arith, same, more, few)

-- the routes by each node go on from the path where those of the row lead on
pub nodes_go_on : (o : Offered) (slots : Assignment) (q : ℕ) (row : List Branch) → LeadOn o slots (row_routes q row) → NodesContinuePath o slots q row
nodes_go_on o slots q [] h = tt
nodes_go_on o slots q (node ∷ row) h =
    (goes_on o slots (node_routes q node) (all_left (LeadsOn o slots) (node_routes q node) (row_routes q row) h), nodes_go_on o slots q row (all_right (LeadsOn o slots) (node_routes q node) (row_routes q row) h))

pub rising_pruned : (ks : List ℕ) (node : Branch) → RiseFrom node.number node.routes → RiseFrom node.number (pruned ks node).routes
rising_pruned ks node h = all_filtered (λ (r : Route). Rise (node.number ∷ map (λ s. s.number) r)) (lacks ks) node.routes h

pub thinned_rise : (ks : List ℕ) (Rest : ℕ → Type 0) (before now : List Branch) → IsThinned ks Rest before now → NodesRise before → NodesRise now
thinned_rise ks Rest before now h rising = thinned_each ks Rest (λ (node : Branch). RiseFrom node.number node.routes) before now (rising_pruned ks) h rising

-- the routes behind a node from which they go on rise
pub nodes_rise : (o : Offered) (slots : Assignment) (q : ℕ) (row : List Branch) → NodesContinuePath o slots q row → NodesRise row
nodes_rise o slots q [] h = tt
nodes_rise o slots q (node ∷ row) h = (each node.routes h.0.1, nodes_rise o slots q row h.1)
  where
    each : (routes : List Route) → ContinuePath o slots (map (λ r. step q node.number ∷ r) routes) → RiseFrom node.number routes
    each [] g = tt
    each (r ∷ routes) g = (climbs_rise slots (step q node.number ∷ r) g.0.climbs, each routes g.1)
