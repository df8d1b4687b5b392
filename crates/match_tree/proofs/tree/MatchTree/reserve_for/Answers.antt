use Rattle.std.proofs.Common.{◌≡◌, ◌+◌, ◌-◌, ◌≤◌, List, None, refl, arith}
use Rattle.value_index.specs.Index.{no_index}
use Rattle.tree_rows.specs.Routes.{Route, rows_routes}
use Rattle.row_screens.specs.Offers.{Offered}
use Rattle.match_tree.specs.Kept.{tree_of}
use Rattle.match_tree.specs.Tree.{offer_to}
use Rattle.match_tree.specs.Tries.{tries}
use Rattle.match_tree.proofs.ReserveLemmas.{bare, reserve_lead, reserve_tries, reserve_counts, reserve_seen, reserve_kept, reserve_found}
use Rattle.match_tree.proofs.tree.MatchTree.reserve_for.Goals.{After-visit_all}
use Rattle.match_tree.proofs.tree.MatchTree.reserve_for.Goals as goal

-- the steps of the visit, whatever its answer
steps_few : (g : _) (c : After-visit_all g) → c.visit_all.new.steps ≤ c.args.steps.now + tries (offer_to c.args.self.now c.args.messages.now c.args.number) c.args.self.now.paths
steps_few g c =
    let s = c.self.inside in
    let before : List Route = rows_routes 0 s.rows.items in
    let o : Offered = record { messages = c.args.messages.now; index = c.args.index.now; definition = s.definition; rule = s.rule; number = c.args.number; oldest = c.oldest_seen.result } in
    let same : bare o ≡ offer_to (tree_of s.definition s.rule None before) c.args.messages.now c.args.number = λ i. record { messages = c.args.messages.now; index = no_index; definition = s.definition; rule = s.rule; number = c.args.number; oldest = c.oldest_seen.ensures i } in
    let all = reserve_tries s.definition s.rule s.pending before c.args.self.now c.args.messages.now c.args.number o c.self.view_is c.requires.settled same in
    omega (arith, c.visit_all.ensures.stepped)

pub visit_all-requires-clause-lead : goal.visit_all-requires-clause-lead
visit_all-requires-clause-lead g c =
    let s = c.self.inside in
    let before : List Route = rows_routes 0 s.rows.items in
    let o : Offered = record { messages = c.args.messages.now; index = c.args.index.now; definition = s.definition; rule = s.rule; number = c.args.number; oldest = c.oldest_seen.result } in
    let same : bare o ≡ offer_to (tree_of s.definition s.rule None before) c.args.messages.now c.args.number = λ i. record { messages = c.args.messages.now; index = no_index; definition = s.definition; rule = s.rule; number = c.args.number; oldest = c.oldest_seen.ensures i } in
    (reserve_lead s.definition s.rule s.pending before c.args.self.now c.args.messages.now c.args.number o c.self.view_is c.requires.settled same c.self.invariant.free_left c.requires.can c.requires.indexed).1

pub returns-in_err-best-clause-stepped : goal.returns-in_err-best-clause-stepped
returns-in_err-best-clause-stepped g c = steps_few g (goal.at.returns-in_err-best-clause-stepped g c).After-visit_all

pub overflow_sub-aside : goal.overflow_sub-aside
overflow_sub-aside g c =
    let s = c.self.inside in
    let more = reserve_counts c.args.number (rows_routes 0 s.rows.items) (rows_routes 0 c.visit_all.new.rows.items) c.visit_all.ensures.lasting in
    omega (arith, c.in_ok-best.ensures.counted)

pub invariant_of-self-2 : goal.invariant_of-self-2
invariant_of-self-2 g c =
    let s = c.self.inside in
    let o : Offered = record { messages = c.args.messages.now; index = c.args.index.now; definition = s.definition; rule = s.rule; number = c.args.number; oldest = c.oldest_seen.result } in
    let seen = reserve_seen o (rows_routes 0 s.rows.items) (rows_routes 0 c.visit_all.new.rows.items) c.in_ok-best.best (c.visit_all.new.count - s.count) c.oldest_seen.ensures c.visit_all.ensures.lasting c.in_ok-best.ensures.found c.in_ok-best.ensures.grows in
    let before : List Route = rows_routes 0 s.rows.items in
    let same : bare o ≡ offer_to (tree_of s.definition s.rule None before) c.args.messages.now c.args.number = λ i. record { messages = c.args.messages.now; index = no_index; definition = s.definition; rule = s.rule; number = c.args.number; oldest = c.oldest_seen.ensures i } in
    let can = (reserve_lead s.definition s.rule s.pending before c.args.self.now c.args.messages.now c.args.number o c.self.view_is c.requires.settled same c.self.invariant.free_left c.requires.can c.requires.indexed).0 in
    reserve_kept s.definition s.rows.items c.visit_all.new.rows.items s.count c.visit_all.new.count c.args.number c.in_ok-best.best s.pending c.self.invariant can.recorded.0 (omega (arith, c.visit_all.ensures.few)) c.visit_all.ensures.sound c.visit_all.ensures.free_left c.visit_all.ensures.lasting seen c.in_ok-best.ensures.counted

pub returns-clause-reserved : goal.returns-clause-reserved
returns-clause-reserved g c =
    let s = c.self.inside in
    let before : List Route = rows_routes 0 s.rows.items in
    let now : List Route = rows_routes 0 c.visit_all.new.rows.items in
    let o : Offered = record { messages = c.args.messages.now; index = c.args.index.now; definition = s.definition; rule = s.rule; number = c.args.number; oldest = c.oldest_seen.result } in
    let same : bare o ≡ offer_to (tree_of s.definition s.rule None before) c.args.messages.now c.args.number = λ i. record { messages = c.args.messages.now; index = no_index; definition = s.definition; rule = s.rule; number = c.args.number; oldest = c.oldest_seen.ensures i } in
    reserve_found s.definition s.rule s.pending before now c.args.self.now c.args.messages.now c.args.number (c.visit_all.new.count - s.count) c.in_ok-best.best o c.self.view_is c.requires.settled same refl c.self.invariant.free_left c.visit_all.ensures.lasting c.in_ok-best.ensures.best c.in_ok-best.ensures.grows

pub returns-clause-stepped : goal.returns-clause-stepped
returns-clause-stepped g c = steps_few g (goal.at.returns-clause-stepped g c).After-visit_all
