use Rattle.std.proofs.Common.{◌≡◌, ◌∙◌, ◌+◌, ◌-◌, ◌≤◌, ◌∷◌, [], ℕ, List, None, replicate, length, ap, sym, subst, arith}
use Rattle.std.proofs.lemmas.List.{nil_from_length}
use Rattle.std.specs.List.{filter}
use Rattle.guard_eval.specs.Meaning.{Assignment}
use Rattle.tree_rows.specs.Routes.{Branch, Route, rows_routes, lacks}
use Rattle.row_screens.specs.Offers.{growing}
use Rattle.match_tree.specs.Growth.{Grows}
use Rattle.row_screens.specs.Below.{AreOpen}
use Rattle.row_screens.specs.Offering.{offered, LeadOn}
use Rattle.tree_rows.specs.Pruned.{AreShort}
use Rattle.match_tree.specs.Tries.{tried, tries_behind}
use Rattle.match_tree.proofs.EarnLemmas.{visited_routes}
use Rattle.match_tree.proofs.GrowLemmas.{grows_none}
use Rattle.match_tree.proofs.LeadLemmas.{lead_lasts}
use Rattle.match_tree.proofs.RootLemmas.{alone_grows, open_short, root_free, root_takers, tried_empty}
use Rattle.match_tree.proofs.OpenLemmas.{rising_open}
use Rattle.match_tree.proofs.ReserveLemmas.{reserve_counts}
use Rattle.row_screens.proofs.TrialLemmas.{none_outside}
use Rattle.match_tree.proofs.reserve.visit_all.Goals.{After-visit_rows}
use Rattle.match_tree.proofs.reserve.visit_all.Goals as goal

-- the steps of the visit, whatever its answer
steps_few : (g : _) (c : After-visit_rows g) → c.visit_rows.new.steps ≤ c.args.steps.now + (length (tried (offered c.args.offer.now) (replicate (length c.args.offer.now.definition.now.patterns) None)) + tries_behind (offered c.args.offer.now) (replicate (length c.args.offer.now.definition.now.patterns) None) (rows_routes 0 c.args.rows.now.items))
steps_few g c =
    let o = offered c.args.offer.now in
    let slots : c.new-slots.result ≡ replicate (length o.definition.patterns) None = c.new-slots.ensures ∙ ap (λ (n : ℕ). replicate n None) c.len-patterns.ensures.count in
    let wanted = ap (λ (ps : List ℕ). length ps) (c.of_kind-wanted.ensures ∙ tried_empty o) in
    let tried_there = ap (λ (s : Assignment). tries_behind o s (rows_routes 0 c.args.rows.now.items)) slots in
    omega (arith, c.visit_rows.ensures.stepped)

pub visit_path-requires-clause-free : goal.visit_path-requires-clause-free
visit_path-requires-clause-free g c =
    let o = offered c.args.offer.now in
    let slots = c.new-slots.ensures ∙ ap (λ (n : ℕ). replicate n None) c.len-patterns.ensures.count in
    root_free o c.new-slots.result c.of_kind-wanted.result slots c.of_kind-wanted.ensures

pub visit_path-requires-clause-wanted : goal.visit_path-requires-clause-wanted
visit_path-requires-clause-wanted g c =
    let o = offered c.args.offer.now in
    let slots = c.new-slots.ensures ∙ ap (λ (n : ℕ). replicate n None) c.len-patterns.ensures.count in
    root_takers o c.new-slots.result c.of_kind-wanted.result slots c.of_kind-wanted.ensures

pub returns-then-len-eq0-clause-grows : goal.returns-then-len-eq0-clause-grows
returns-then-len-eq0-clause-grows g c =
    let a = c.args in
    let o = offered a.offer.now in
    let slots : Assignment = replicate (length o.definition.patterns) None in
    let none : rows_routes 0 a.rows.now.items ≡ [] = ap (λ (xs : List (List Branch)). rows_routes 0 xs) (nil_from_length a.rows.now.items (omega (arith, c.len.ensures, c.if-len-eq0.true, a.rows.now.ok))) in
    let alone = alone_grows o (sym c.len-patterns.ensures.count ∙ c.if-patterns-eq1.true) in
    λ _. subst (λ (rs : List Route). Grows o slots (growing o slots) rs rs) (sym none) (subst (λ (ps : List ℕ). Grows o slots ps [] []) (sym alone) (grows_none o slots))

pub returns-then-len-eq0-clause-stepped : goal.returns-then-len-eq0-clause-stepped
returns-then-len-eq0-clause-stepped g c =
    let wanted = ap (λ (ps : List ℕ). length ps) (c.of_kind-wanted.ensures ∙ tried_empty (offered c.args.offer.now)) in
    omega (arith, c.visit_path.ensures.counted)

pub visit_rows-requires-clause-outside : goal.visit_rows-requires-clause-outside
visit_rows-requires-clause-outside g c = none_outside (offered c.args.offer.now) c.new-slots.result c.all-asked.result c.all-asked.ensures.full c.of_kind-wanted.result

pub visit_rows-requires-clause-free : goal.visit_rows-requires-clause-free
visit_rows-requires-clause-free g c =
    let o = offered c.args.offer.now in
    let slots = c.new-slots.ensures ∙ ap (λ (n : ℕ). replicate n None) c.len-patterns.ensures.count in
    root_free o c.new-slots.result c.of_kind-wanted.result slots c.of_kind-wanted.ensures

pub visit_rows-requires-clause-wanted : goal.visit_rows-requires-clause-wanted
visit_rows-requires-clause-wanted g c =
    let o = offered c.args.offer.now in
    let slots = c.new-slots.ensures ∙ ap (λ (n : ℕ). replicate n None) c.len-patterns.ensures.count in
    root_takers o c.new-slots.result c.of_kind-wanted.result slots c.of_kind-wanted.ensures

-- no route that the visit has left is longer than there are patterns but one
short_now : (g : _) (c : After-visit_rows g) → AreShort (c.len-patterns.result - 1) (rows_routes 0 c.visit_rows.new.rows.items)
short_now g c =
    let kinds = c.args.offer.now.definition.now.patterns in
    let slots : c.new-slots.result ≡ replicate (length kinds) None = c.new-slots.ensures ∙ ap (λ (n : ℕ). replicate n None) c.len-patterns.ensures.count in
    let open_routes = subst (λ (s : Assignment). AreOpen s (rows_routes 0 c.visit_rows.new.rows.items)) slots c.visit_rows.ensures.free_left in
    let short = open_short (length kinds) (rows_routes 0 c.visit_rows.new.rows.items) open_routes in
    subst (λ (n : ℕ). AreShort (n - 1) (rows_routes 0 c.visit_rows.new.rows.items)) (sym c.len-patterns.ensures.count) short

-- the routes that are left without the number lacked it before
back_now : (g : _) (c : After-visit_rows g) (left : List Route) → left ≡ filter (lacks (c.args.offer.now.number ∷ [])) (rows_routes 0 c.visit_rows.new.rows.items) → filter (lacks (c.args.offer.now.number ∷ [])) left ≡ rows_routes 0 c.args.rows.now.items
back_now g c left is =
    let o = offered c.args.offer.now in
    let old : List Route = rows_routes 0 c.args.rows.now.items in
    ap (filter (lacks (o.number ∷ []))) (is ∙ c.visit_rows.ensures.lasting) ∙ lead_lasts o (replicate (length c.args.offer.now.definition.now.patterns) None) old c.requires.lead

pub more_than-added-requires : goal.more_than-added-requires
more_than-added-requires g c =
    let e = c.visit_rows.ensures in
    let more = reserve_counts c.args.offer.now.number (rows_routes 0 c.args.rows.now.items) (rows_routes 0 c.visit_rows.new.rows.items) e.lasting in
    omega (arith, e.counted)

pub more_than-added-requires-in-Err : goal.more_than-added-requires-in-Err
more_than-added-requires-in-Err g c =
    let e = c.visit_rows.ensures in
    let more = reserve_counts c.args.offer.now.number (rows_routes 0 c.args.rows.now.items) (rows_routes 0 c.visit_rows.new.rows.items) e.lasting in
    omega (arith, e.counted)

pub remove_found-requires-clause-counted : goal.remove_found-requires-clause-counted
remove_found-requires-clause-counted g c = omega (arith, c.visit_rows.ensures.counted, c.requires.whole, c.more_than-added.ensures.fits)

pub remove_found-requires-clause-added : goal.remove_found-requires-clause-added
remove_found-requires-clause-added g c =
    let e = c.visit_rows.ensures in
    let more = reserve_counts c.args.offer.now.number (rows_routes 0 c.args.rows.now.items) (rows_routes 0 c.visit_rows.new.rows.items) e.lasting in
    omega (arith, e.counted, c.more_than-added.ensures.more)

pub remove_found-requires-clause-short : goal.remove_found-requires-clause-short
remove_found-requires-clause-short g c = short_now g (goal.at.remove_found-requires-clause-short g c).After-visit_rows

pub remove_found-requires-clause-visited : goal.remove_found-requires-clause-visited
remove_found-requires-clause-visited g c =
    let o = offered c.args.offer.now in
    let slots : c.new-slots.result ≡ replicate (length o.definition.patterns) None = c.new-slots.ensures ∙ ap (λ (n : ℕ). replicate n None) c.len-patterns.ensures.count in
    let old : List Route = rows_routes 0 c.args.rows.now.items in
    let now : List Route = rows_routes 0 c.visit_rows.new.rows.items in
    let lead = subst (λ (s : Assignment). LeadOn o s old) (sym slots) c.requires.lead in
    visited_routes o c.new-slots.result now c.visit_rows.ensures.free_left (c.in-Ok-Some.ensures.earned (λ e. absurd cc)) (subst (λ (rs : List Route). LeadOn o c.new-slots.result rs) (sym c.visit_rows.ensures.lasting) lead)

pub remove_new-requires-clause-short : goal.remove_new-requires-clause-short
remove_new-requires-clause-short g c = short_now g (goal.at.remove_new-requires-clause-short g c).After-visit_rows

pub remove_new-requires-clause-counted : goal.remove_new-requires-clause-counted
remove_new-requires-clause-counted g c = omega (arith, c.visit_rows.ensures.counted, c.requires.whole, c.more_than-added-in-Err.ensures.fits)

pub remove_new-requires-clause-added : goal.remove_new-requires-clause-added
remove_new-requires-clause-added g c =
    let e = c.visit_rows.ensures in
    let more = reserve_counts c.args.offer.now.number (rows_routes 0 c.args.rows.now.items) (rows_routes 0 c.visit_rows.new.rows.items) e.lasting in
    omega (arith, e.counted, c.more_than-added-in-Err.ensures.more)

pub remove_new-requires-clause-rising : goal.remove_new-requires-clause-rising
remove_new-requires-clause-rising g c = rising_open c.new-slots.result (rows_routes 0 c.visit_rows.new.rows.items) c.visit_rows.ensures.free_left

pub returns-in-Ok-None-clause-stepped : goal.returns-in-Ok-None-clause-stepped
returns-in-Ok-None-clause-stepped g c = steps_few g (goal.at.returns-in-Ok-None-clause-stepped g c).After-visit_rows

pub returns-in-Ok-Some-clause-lasting : goal.returns-in-Ok-Some-clause-lasting
returns-in-Ok-Some-clause-lasting g c = back_now g (goal.at.returns-in-Ok-Some-clause-lasting g c).After-visit_rows (rows_routes 0 c.remove_found.new.rows.items) c.remove_found.ensures.left

pub returns-in-Ok-Some-clause-stepped : goal.returns-in-Ok-Some-clause-stepped
returns-in-Ok-Some-clause-stepped g c = steps_few g (goal.at.returns-in-Ok-Some-clause-stepped g c).After-visit_rows

pub returns-in-Err-clause-lasting : goal.returns-in-Err-clause-lasting
returns-in-Err-clause-lasting g c = back_now g (goal.at.returns-in-Err-clause-lasting g c).After-visit_rows (rows_routes 0 c.remove_new.new.rows.items) c.remove_new.ensures.left

pub returns-in-Err-clause-stepped : goal.returns-in-Err-clause-stepped
returns-in-Err-clause-stepped g c = steps_few g (goal.at.returns-in-Err-clause-stepped g c).After-visit_rows
