use Rattle.std.proofs.Common.{true, false, ◌≡◌, ◌∙◌, ◌+◌, ◌-◌, ◌^◌, ◌<◌, ◌≤◌, ◌++◌, ◌∷◌, [], ℕ, List, Option, Some, None, map, drop, length, length-append, vec_capacity, refl, ap, sym, subst, arith}
use Rattle.std.specs.List.{AllByRecursion}
use Rattle.std.specs.List.Sorted.{IsStrictlyIncreasing}
use Rattle.std.proofs.lemmas.List.{length-map, map-append, take_at}
use Rattle.std.specs.Prelude.{All, if◌then◌else◌}
use Rattle.std.specs.Vec.{with_items}
use Rattle.join_base.specs.declared.message.Message.{Message}
use Rattle.join_base.specs.declared.message.Source.{Source}
use Rattle.join_base.specs.declared.message.Stamped.{Stamped}
use Rattle.mailbox_core.specs.Mail.{IsRecorded, Mail, Received, latest, recorded_messages, next_arrival, with_arrival, without_last}
use Rattle.fair_semantics.specs.declared.run.Entry.{Entry}
use Rattle.match_tree.specs.Tree.{Tree}
use Rattle.pattern_core.specs.Suits as recorded_in
use Rattle.value_index.specs.Index.{AddsOnly, Has}
use Rattle.tree_law.specs.Trees.{CanOfferTo, HasPaths, HasReserve, best_of, cleared_tree, settled_tree, tries_at}
use Rattle.fair_semantics.specs.declared.run.Ending.TheVariants as ending
use Rattle.fair_semantics.specs.declared.run.Firing.{Firing}
use Rattle.fair_semantics.specs.declared.run.Outcome.TheVariants.{Fired}
use Rattle.fair_semantics.specs.Body.{effects_of, stops}
use Rattle.fair_semantics.specs.Linked.{firing_effects}
use Rattle.fair_semantics.specs.Step.{Arrival, body_at, entry_with, fair_step, is_refused, is_running}
use Rattle.actor_turn.specs.Held.{Held, history_with, is_taken, new_entries, posts_behind, tries_for}
use Rattle.actor_turn.specs.Ready.{BodyReady}
use Rattle.actor_turn.specs.Indexed.{IsIndexOf, KeepsUntaken, LacksTaken}
use Rattle.actor_turn.specs.Inside.{IsAtRest, IsTold, held_of, setting_in}
use Rattle.actor_turn.specs.declared.actor.Actor.TheInside.{Inside}
use Rattle.actor_turn.specs.Outbox.{Queue}
use Rattle.actor_turn.specs.Sent.{delivered, sent_by}
use Rattle.actor_turn.proofs.PartsLemmas.{retracted_again}
use Rattle.actor_turn.proofs.RestLemmas.{taken_fits, taken_runs}
use Rattle.actor_turn.proofs.ToldLemmas.{MayFire}
use Rattle.actor_turn.specs.Parts.{Keeps, fired_at, history_in, state_of}
use Rattle.actor_turn.proofs.ArriveLemmas.{IsDone, can_record, fires_done, have, keeps_done, may_fire, recorded_all, rest_is, stamp_same, steps_few, taken_in, takes_newest}
use Rattle.actor_turn.proofs.HeldLemmas.{none_waits, partial_held}
use Rattle.actor_turn.proofs.OfferedLemmas.{unsettled_can, unsettled_paths}
use Rattle.actor_turn.proofs.HistoryLemmas.{history_more, same_arrivals}
use Rattle.actor_turn.proofs.IndexLemmas.{each_recorded, fired_index, kept_index, paths_indexed, tried}
use Rattle.actor_turn.proofs.PostsLemmas.{fired_posts, unfired_posts}
use Rattle.actor_turn.proofs.actor.Actor.take_in.Goals.{After-empty_ended-in-Ok-fire, After-give_up, After-give_up-in-Err, After-empty_ended, After-record, After-remove_taken, After-push-in-Ok-fire, In-Some, In_err-number, In_ok-number}
use Rattle.actor_turn.proofs.actor.Actor.take_in.Goals as goal

-- ---- what the answers share

abbrev firing_taken : Option Firing → List ℕ
firing_taken None = []
firing_taken (Some firing) = firing.taken

abbrev arrival_at : Inside → Source → Message → ℕ → Arrival
arrival_at a source message stamp = record { state = (held_of a).state; source = source; message = message; stamp = stamp }

taken_at : (a : Inside) (held : Held) (message : Message) (stamp : ℕ) → held_of a ≡ held → is_taken held.setting held.state message stamp ≡ true → is_taken (setting_in a) (held_of a).state message stamp ≡ true
taken_at a held message stamp view taken = subst (λ (h : Held). is_taken h.setting h.state message stamp ≡ true) (sym view) taken

not_refused : (a : Inside) (held : Held) (message : Message) (stamp : ℕ) → held_of a ≡ held → is_taken held.setting held.state message stamp ≡ true → is_refused (setting_in a) (held_of a).state message stamp ≡ false
not_refused a held message stamp view taken = taken_fits (setting_in a) (held_of a).state message stamp (taken_at a held message stamp view taken)

runs_still : (a : Inside) (held : Held) (message : Message) (stamp : ℕ) → held_of a ≡ held → is_taken held.setting held.state message stamp ≡ true → a.ending ≡ ending.Running
runs_still a held message stamp view taken = taken_runs (setting_in a) (held_of a).state message stamp (taken_at a held message stamp view taken)

-- the steps of offering the number
steps : (g : _) (c : After-record g) → c.record.new.steps ≤ c.args.steps.now + tries_for (setting_in c.self.inside).rules (held_of c.self.inside).state c.args.message
steps g c =
    let a = c.self.inside in
    let i = c.self.invariant in
    let takes = not_refused a _ c.args.message c.args.stamp c.self.view_is c.requires.taken in
    let few = subst (λ (ts : List Tree). c.record.new.steps ≤ c.args.steps.now + tries_at (recorded_messages a.mail.mail.arrivals ++ c.args.message ∷ []) (length a.mail.mail.arrivals + 1) ts) c.deref_mut.ensures.value c.record.ensures.steps in
    steps_few (length a.outboxes.items) (setting_in a) a.mail.mail a.firings.items a.ending a.trees.items i.told i.rest c.args.source c.args.message c.args.stamp takes c.args.steps.now c.record.new.steps few

-- the trees were offered the number
reserved : (g : _) (c : In_ok-number g) → AllByRecursion (HasReserve c.in_ok-number.number) c.record.new.trees
reserved g c =
    let a = c.self.inside in
    let i = c.self.invariant in
    let takes = not_refused a _ c.args.message c.args.stamp c.self.view_is c.requires.taken in
    let e = c.in_ok-number.ensures in
    have (length a.outboxes.items) (setting_in a) a.mail.mail a.firings.items a.ending a.trees.items i.told i.rest c.args.source c.args.message c.args.stamp takes c.record.new.trees (e.same ∙ c.deref_mut.ensures.value) e.reserved c.in_ok-number.number e.number

-- what stands when the message was kept
kept : (g : _) (c : After-empty_ended g) → IsDone (setting_in c.self.inside) (arrival_at c.self.inside c.args.source c.args.message c.args.stamp) None c.keep-outcome.new.mail.mail c.push.new.self.items c.keep-outcome.new.ending c.keep-outcome.new.trees c.keep-outcome.result
kept g c =
    let a = c.self.inside in
    let i = c.self.invariant in
    let takes = not_refused a _ c.args.message c.args.stamp c.self.view_is c.requires.taken in
    let running = runs_still a _ c.args.message c.args.stamp c.self.view_is c.requires.taken in
    let e = c.in_ok-number.ensures in
    let offered : List Tree = c.record.new.trees in
    let long : length offered ≡ a.trees.len = omega (arith, c.record.auto.trees, c.deref_mut.ensures.len) in
    let again = take_at offered (drop (length offered) a.trees.items) a.trees.len long in
    let now = c.deref_mut-in_default-best_of.ensures.value ∙ again in
    let best : best_of offered ≡ None = ap best_of (sym (c.deref.ensures.value ∙ again)) ∙ sym c.best_of.ensures ∙ c.in_default-best_of.is in
    let rising = subst (λ (m : Mail). IsStrictlyIncreasing m.live) e.recorded e.ascending in
    let firings : c.push.new.self.items ≡ a.firings.items ++ None ∷ [] = rw (c.push.ensures.items, c.none.ensures.none) (ap (λ (fs : List (Option Firing)). fs ++ None ∷ []) c.reserve_entry.ensures.firings) in
    let keeps = subst (λ (ts : List Tree). Keeps c.in_ok-number.number a.limits.partials ts c.keep-outcome.new.trees c.record.new.mail.mail c.keep-outcome.new.mail.mail a.ending c.keep-outcome.new.ending c.keep-outcome.result) now c.keep-outcome.ensures in
    let P : List (Option Firing) → Type 0 = λ fs. IsDone (setting_in a) (arrival_at a c.args.source c.args.message c.args.stamp) None c.keep-outcome.new.mail.mail fs c.keep-outcome.new.ending c.keep-outcome.new.trees c.keep-outcome.result in
    subst P (sym firings)
    (keeps_done (length a.outboxes.items) (setting_in a) a.mail.mail a.firings.items a.ending a.trees.items i.told i.rest c.args.source c.args.message c.args.stamp takes offered (e.same ∙ c.deref_mut.ensures.value) e.reserved running rising best c.in_ok-number.number a.limits.partials c.keep-outcome.new.trees c.record.new.mail.mail c.keep-outcome.new.mail.mail c.keep-outcome.new.ending c.keep-outcome.result e.number refl e.recorded keeps)

-- the match may fire
may : (g : _) (c : In-Some g) → MayFire (recorded_messages (with_arrival c.self.inside.mail.mail c.args.source c.args.message c.args.stamp).arrivals) (length c.self.inside.outboxes.items) c.self.inside.rules c.in-Some.chosen
may g c =
    let a = c.self.inside in
    let i = c.self.invariant in
    let takes = not_refused a _ c.args.message c.args.stamp c.self.view_is c.requires.taken in
    let running = runs_still a _ c.args.message c.args.stamp c.self.view_is c.requires.taken in
    let e = c.in_ok-number.ensures in
    let offered : List Tree = c.record.new.trees in
    let long : length offered ≡ a.trees.len = omega (arith, c.record.auto.trees, c.deref_mut.ensures.len) in
    let again = take_at offered (drop (length offered) a.trees.items) a.trees.len long in
    let best : best_of offered ≡ Some c.in-Some.chosen = ap best_of (sym (c.deref.ensures.value ∙ again)) ∙ sym c.best_of.ensures ∙ c.in-Some.is in
    may_fire (length a.outboxes.items) (setting_in a) a.mail.mail a.firings.items a.ending a.trees.items i.told i.rest c.args.source c.args.message c.args.stamp takes offered (e.same ∙ c.deref_mut.ensures.value) e.reserved running c.in-Some.chosen best

-- what stands when it has fired
fired : (g : _) (c : After-push-in-Ok-fire g) → IsDone (setting_in c.self.inside) (arrival_at c.self.inside c.args.source c.args.message c.args.stamp) (Some c.in-Ok-fire.firing.value) c.fire.new.mail.mail c.push-in-Ok-fire.new.self.items c.fire.new.ending c.fire.new.trees Fired
fired g c =
    let a = c.self.inside in
    let i = c.self.invariant in
    let takes = not_refused a _ c.args.message c.args.stamp c.self.view_is c.requires.taken in
    let running = runs_still a _ c.args.message c.args.stamp c.self.view_is c.requires.taken in
    let e = c.in_ok-number.ensures in
    let offered : List Tree = c.record.new.trees in
    let long : length offered ≡ a.trees.len = omega (arith, c.record.auto.trees, c.deref_mut.ensures.len) in
    let again = take_at offered (drop (length offered) a.trees.items) a.trees.len long in
    let best : best_of offered ≡ Some c.in-Some.chosen = ap best_of (sym (c.deref.ensures.value ∙ again)) ∙ sym c.best_of.ensures ∙ c.in-Some.is in
    let f = c.in-Ok-fire.ensures in
    let body = body_at a.rules c.in-Some.chosen.rule in
    let firings : c.push-in-Ok-fire.new.self.items ≡ a.firings.items ++ Some c.in-Ok-fire.firing.value ∷ [] = rw (c.push-in-Ok-fire.ensures.items, c.from_box.ensures.firing) (ap (λ (fs : List (Option Firing)). fs ++ Some c.in-Ok-fire.firing.value ∷ []) c.reserve_entry.ensures.firings) in
    let trees = subst (λ (ts : List Tree). c.fire.new.trees ≡ (if stops body then map cleared_tree ts else map (fired_at c.in_ok-number.number c.in-Some.chosen.taken) ts)) (c.deref_mut-2.ensures.value ∙ again) f.trees in
    fires_done (length a.outboxes.items) (setting_in a) a.mail.mail a.firings.items a.ending a.trees.items i.told i.rest c.args.source c.args.message c.args.stamp takes offered (e.same ∙ c.deref_mut.ensures.value) e.reserved running c.in-Some.chosen best c.in_ok-number.number (Some c.in-Ok-fire.firing.value) c.record.new.mail.mail c.fire.new.mail.mail c.push-in-Ok-fire.new.self.items c.fire.new.ending c.fire.new.trees
    e.number e.recorded f.firing f.mail trees f.ending firings

-- ---- recording

pub record-requires-clause-few : goal.record-requires-clause-few
record-requires-clause-few g c =
    let a = c.self.inside in
    let i = c.self.invariant in
    let takes = not_refused a _ c.args.message c.args.stamp c.self.view_is c.requires.taken in
    (taken_in (length a.outboxes.items) (setting_in a) a.mail.mail a.firings.items a.ending a.trees.items i.told i.rest c.args.source c.args.message c.args.stamp takes).few

pub record-requires-clause-latest : goal.record-requires-clause-latest
record-requires-clause-latest g c =
    let a = c.self.inside in
    let i = c.self.invariant in
    let takes = not_refused a _ c.args.message c.args.stamp c.self.view_is c.requires.taken in
    (taken_in (length a.outboxes.items) (setting_in a) a.mail.mail a.firings.items a.ending a.trees.items i.told i.rest c.args.source c.args.message c.args.stamp takes).latest_low

pub record-requires-clause-can : goal.record-requires-clause-can
record-requires-clause-can g c =
    let a = c.self.inside in
    let i = c.self.invariant in
    let takes = not_refused a _ c.args.message c.args.stamp c.self.view_is c.requires.taken in
    subst (λ (ts : List Tree). AllByRecursion (CanOfferTo (recorded_messages a.mail.mail.arrivals ++ c.args.message ∷ []) (length a.mail.mail.arrivals + 1)) ts) (sym c.deref_mut.ensures.value)
    (can_record (length a.outboxes.items) (setting_in a) a.mail.mail a.firings.items a.ending a.trees.items i.told i.rest c.args.source c.args.message c.args.stamp takes)

pub record-requires-clause-indexed : goal.record-requires-clause-indexed
record-requires-clause-indexed g c =
    let a = c.self.inside in
    let i = c.self.invariant in
    subst (λ (ts : List Tree). AllByRecursion (HasPaths a.index (recorded_messages a.mail.mail.arrivals ++ c.args.message ∷ [])) ts) (sym c.deref_mut.ensures.value)
    (paths_indexed (setting_in a) a.mail.mail a.firings.items a.ending a.trees.items i.rest a.index i.indexed c.args.source c.args.message c.args.stamp)

pub returns-in_err-number-clause-steps : goal.returns-in_err-number-clause-steps
returns-in_err-number-clause-steps g c =
    subst (λ (h : Held). c.record.new.steps ≤ c.args.steps.now + tries_for h.setting.rules h.state c.args.message) c.self.view_is (steps g (goal.at.returns-in_err-number-clause-steps g c).After-record)

pub returns-in_default-best_of-clause-steps : goal.returns-in_default-best_of-clause-steps
returns-in_default-best_of-clause-steps g c =
    subst (λ (h : Held). c.record.new.steps ≤ c.args.steps.now + tries_for h.setting.rules h.state c.args.message) c.self.view_is (steps g (goal.at.returns-in_default-best_of-clause-steps g c).After-record)

pub returns-in-Ok-fire-clause-steps : goal.returns-in-Ok-fire-clause-steps
returns-in-Ok-fire-clause-steps g c =
    subst (λ (h : Held). c.record.new.steps ≤ c.args.steps.now + tries_for h.setting.rules h.state c.args.message) c.self.view_is (steps g (goal.at.returns-in-Ok-fire-clause-steps g c).After-record)

pub returns-in-Err-clause-steps : goal.returns-in-Err-clause-steps
returns-in-Err-clause-steps g c =
    subst (λ (h : Held). c.record.new.steps ≤ c.args.steps.now + tries_for h.setting.rules h.state c.args.message) c.self.view_is (steps g (goal.at.returns-in-Err-clause-steps g c).After-record)

-- ---- no memory for an entry, or for recording

pub returns-in_default-clause-partial : goal.returns-in_default-clause-partial
returns-in_default-clause-partial g c =
    let a = c.self.inside in
    partial_held (setting_in a) a.mail.mail c.reserve_entry.new.firings.items a.ending a.trees.items _ _ (rest_is (setting_in a) _ a.mail.mail _ c.reserve_entry.new.firings.items _ a.ending _ a.trees.items refl c.reserve_entry.ensures.firings refl refl c.self.invariant.rest)

pub returns-in_default-clause-waits : goal.returns-in_default-clause-waits
returns-in_default-clause-waits g c =
    let a = c.self.inside in
    none_waits (setting_in a) a.mail.mail c.reserve_entry.new.firings.items a.ending a.trees.items _ _ (rest_is (setting_in a) _ a.mail.mail _ c.reserve_entry.new.firings.items _ a.ending _ a.trees.items refl c.reserve_entry.ensures.firings refl refl c.self.invariant.rest)

unrecorded_inside : (g : _) (c : In_err-number g) → IsAtRest (setting_in c.self.inside) c.record.new.mail.mail c.reserve_entry.new.firings.items c.self.inside.ending (with_items c.self.inside.trees c.record.new.trees).items
unrecorded_inside g c =
    let a = c.self.inside in
    let e = c.in_err-number.ensures in
    let long : length c.record.new.trees ≡ a.trees.len = omega (arith, c.record.auto.trees, c.deref_mut.ensures.len) in
    let left = take_at c.record.new.trees (drop (length c.record.new.trees) a.trees.items) a.trees.len long in
    rest_is (setting_in a) _ c.record.new.mail.mail _ c.reserve_entry.new.firings.items _ a.ending _ (with_items a.trees c.record.new.trees).items e.mail c.reserve_entry.ensures.firings refl (left ∙ e.trees ∙ c.deref_mut.ensures.value) c.self.invariant.rest

pub invariant_of-self-in_err-number : goal.invariant_of-self-in_err-number
invariant_of-self-in_err-number g c =
    let i = c.self.invariant in
    let count = ap (λ (m : Mail). length m.arrivals) c.in_err-number.ensures.mail in
    let capacity = c.reserve_entry.ensures.kept in
    record { told = i.told; rest = unrecorded_inside g (goal.at.invariant_of-self-in_err-number g c).In_err-number; indexed = subst (IsIndexOf c.self.inside.index) (sym c.in_err-number.ensures.mail) i.indexed; none = c.reserve_entry.ensures.entries; room = omega (arith, i.room) }

pub returns-in_err-number-clause-partial : goal.returns-in_err-number-clause-partial
returns-in_err-number-clause-partial g c =
    let a = c.self.inside in
    partial_held (setting_in a) c.record.new.mail.mail c.reserve_entry.new.firings.items a.ending (with_items a.trees c.record.new.trees).items _ _ (unrecorded_inside g (goal.at.returns-in_err-number-clause-partial g c).In_err-number)

pub returns-in_err-number-clause-waits : goal.returns-in_err-number-clause-waits
returns-in_err-number-clause-waits g c =
    let a = c.self.inside in
    none_waits (setting_in a) c.record.new.mail.mail c.reserve_entry.new.firings.items a.ending (with_items a.trees c.record.new.trees).items _ _ (unrecorded_inside g (goal.at.returns-in_err-number-clause-waits g c).In_err-number)

-- ---- no memory for the index

pub insert-requires : goal.insert-requires
insert-requires g c =
    let a = c.self.inside in
    let e = c.in_ok-number.ensures in
    let shown = ap length (c.messages.ensures.messages ∙ ap (λ (m : Mail). recorded_messages m.arrivals) e.recorded) ∙ length-map (with_arrival a.mail.mail c.args.source c.args.message c.args.stamp).arrivals (λ (r : Received). r.message) ∙ length-append a.mail.mail.arrivals _ in
    record { recorded = (omega arith, omega arith) }

unindexed_inside : (g : _) (c : After-give_up g) → IsAtRest (setting_in c.self.inside) c.give_up.new.mail.mail c.reserve_entry.new.firings.items c.self.inside.ending (with_items (with_items c.self.inside.trees c.record.new.trees) c.give_up.new.trees).items
unindexed_inside g c =
    let a = c.self.inside in
    let e = c.in_ok-number.ensures in
    let offered : List Tree = c.record.new.trees in
    let long : length offered ≡ a.trees.len = omega (arith, c.record.auto.trees, c.deref_mut.ensures.len) in
    let again = take_at offered (drop (length offered) a.trees.items) a.trees.len long in
    let long-2 : length c.give_up.new.trees ≡ a.trees.len = omega (arith, c.give_up.auto.trees, c.deref_mut-in_default-insert.ensures.len) in
    let left = take_at c.give_up.new.trees (drop (length c.give_up.new.trees) (with_items a.trees offered).items) a.trees.len long-2 in
    let trees : c.give_up.new.trees ≡ a.trees.items = c.give_up.ensures.trees ∙ ap (map settled_tree) (c.deref_mut-in_default-insert.ensures.value ∙ again) ∙ e.same ∙ c.deref_mut.ensures.value in
    let mail = c.give_up.ensures.retracted ∙ ap without_last e.recorded ∙ retracted_again a.mail.mail c.args.source c.args.message c.args.stamp in
    rest_is (setting_in a) _ c.give_up.new.mail.mail _ c.reserve_entry.new.firings.items _ a.ending _ (with_items (with_items a.trees offered) c.give_up.new.trees).items mail c.reserve_entry.ensures.firings refl (left ∙ trees) c.self.invariant.rest

pub invariant_of-self-in_default-insert : goal.invariant_of-self-in_default-insert
invariant_of-self-in_default-insert g c =
    let a = c.self.inside in
    let i = c.self.invariant in
    let mail : c.give_up.new.mail.mail ≡ a.mail.mail = c.give_up.ensures.retracted ∙ ap without_last c.in_ok-number.ensures.recorded ∙ retracted_again a.mail.mail c.args.source c.args.message c.args.stamp in
    let capacity = c.reserve_entry.ensures.kept in
    let count = ap (λ (m : Mail). length m.arrivals) mail in
    let room : length c.give_up.new.mail.mail.arrivals ≤ vec_capacity c.reserve_entry.new.entries = omega (arith, i.room) in
    let beyond : length a.mail.mail.arrivals < c.in_ok-number.number = omega (arith, c.in_ok-number.ensures.number) in
    let indexed = subst (IsIndexOf c.insert.new.self) (sym mail) (tried a.index c.insert.new.self a.mail.mail c.in_ok-number.number beyond c.insert.ensures.fields c.insert.ensures.keeps c.insert.ensures.only i.indexed) in
    record { told = i.told; rest = unindexed_inside g (goal.at.invariant_of-self-in_default-insert g c).After-give_up; indexed = indexed; none = c.reserve_entry.ensures.entries; room = room }

pub returns-in_default-insert-clause-steps : goal.returns-in_default-insert-clause-steps
returns-in_default-insert-clause-steps g c =
    subst (λ (h : Held). c.record.new.steps ≤ c.args.steps.now + tries_for h.setting.rules h.state c.args.message) c.self.view_is (steps g (goal.at.returns-in_default-insert-clause-steps g c).After-record)

pub returns-in_default-insert-clause-partial : goal.returns-in_default-insert-clause-partial
returns-in_default-insert-clause-partial g c =
    partial_held (setting_in c.self.inside) c.give_up.new.mail.mail c.reserve_entry.new.firings.items c.self.inside.ending (with_items (with_items c.self.inside.trees c.record.new.trees) c.give_up.new.trees).items _ _ (unindexed_inside g (goal.at.returns-in_default-insert-clause-partial g c).After-give_up)

pub returns-in_default-insert-clause-waits : goal.returns-in_default-insert-clause-waits
returns-in_default-insert-clause-waits g c =
    none_waits (setting_in c.self.inside) c.give_up.new.mail.mail c.reserve_entry.new.firings.items c.self.inside.ending (with_items (with_items c.self.inside.trees c.record.new.trees) c.give_up.new.trees).items _ _ (unindexed_inside g (goal.at.returns-in_default-insert-clause-waits g c).After-give_up)

-- ---- keeping

-- fewer arrivals are recorded than the counts reach
few_fired : (g : _) (c : After-record g) → length c.reserve_entry.new.firings.items < 2 ^ 32 - 1
few_fired g c =
    let a = c.self.inside in
    let i = c.self.invariant in
    let takes = not_refused a _ c.args.message c.args.stamp c.self.view_is c.requires.taken in
    let taken = taken_in (length a.outboxes.items) (setting_in a) a.mail.mail a.firings.items a.ending a.trees.items i.told i.rest c.args.source c.args.message c.args.stamp takes in
    omega (arith, taken.few, i.rest.fired, ap length c.reserve_entry.ensures.firings)

pub push-requires-clause-few : goal.push-requires-clause-few
push-requires-clause-few g c = few_fired g (goal.at.push-requires-clause-few g c).After-record

pub push-requires-in-Ok-fire-clause-few : goal.push-requires-in-Ok-fire-clause-few
push-requires-in-Ok-fire-clause-few g c = few_fired g (goal.at.push-requires-in-Ok-fire-clause-few g c).After-record

pub keep-outcome-requires-clause-reserved : goal.keep-outcome-requires-clause-reserved
keep-outcome-requires-clause-reserved g c =
    let a = c.self.inside in
    let offered : List Tree = c.record.new.trees in
    let long : length offered ≡ a.trees.len = omega (arith, c.record.auto.trees, c.deref_mut.ensures.len) in
    let again = take_at offered (drop (length offered) a.trees.items) a.trees.len long in
    subst (λ (ts : List Tree). AllByRecursion (HasReserve c.in_ok-number.number) ts) (sym (c.deref_mut-in_default-best_of.ensures.value ∙ again)) (reserved g (goal.at.keep-outcome-requires-clause-reserved g c).In_ok-number)

kept_inside : (g : _) (c : After-empty_ended g) → IsAtRest (setting_in c.self.inside) c.keep-outcome.new.mail.mail c.push.new.self.items c.keep-outcome.new.ending (with_items (with_items c.self.inside.trees c.record.new.trees) c.keep-outcome.new.trees).items
kept_inside g c =
    let a = c.self.inside in
    let long : length c.keep-outcome.new.trees ≡ a.trees.len = omega (arith, c.keep-outcome.auto.trees, c.deref_mut-in_default-best_of.ensures.len) in
    let left = take_at c.keep-outcome.new.trees (drop (length c.keep-outcome.new.trees) (with_items a.trees c.record.new.trees).items) a.trees.len long in
    rest_is (setting_in a) _ c.keep-outcome.new.mail.mail _ c.push.new.self.items _ c.keep-outcome.new.ending _ (with_items (with_items a.trees c.record.new.trees) c.keep-outcome.new.trees).items refl refl refl left (kept g c).at_rest

pub invariant_of-self-in_default-best_of : goal.invariant_of-self-in_default-best_of
invariant_of-self-in_default-best_of g c =
    let a = c.self.inside in
    let i = c.self.invariant in
    let rest = kept_inside g (goal.at.invariant_of-self-in_default-best_of g c).After-empty_ended in
    let messages = ap length c.messages-arrivals.ensures.messages ∙ length-map a.mail.mail.arrivals (λ (r : Received). r.message) in
    let place = c.in-Ok.ensures.room in
    let firings : c.push.new.self.items ≡ a.firings.items ++ None ∷ [] = rw (c.push.ensures.items, c.none.ensures.none) (ap (λ (fs : List (Option Firing)). fs ++ None ∷ []) c.reserve_entry.ensures.firings) in
    let more = ap length firings ∙ length-append a.firings.items (None ∷ []) in
    let room : length c.keep-outcome.new.mail.mail.arrivals ≤ vec_capacity c.reserve_entry.new.entries = omega (arith, rest.fired, i.rest.fired) in
    let e = c.in_ok-number.ensures in
    let P : List Message × ℕ → Type 0 = λ x. Has c.insert.new.self x.0 x.1 in
    let shown = c.messages.ensures.messages ∙ ap (λ (m : Mail). recorded_messages m.arrivals) e.recorded in
    let newest = subst P (λ j. (shown j, e.number j)) c.in-Ok-insert.ensures.has in
    let only = subst (λ (n : ℕ). AddsOnly n a.index.entries c.insert.new.self.entries) e.number c.insert.ensures.only in
    let running = runs_still a _ c.args.message c.args.stamp c.self.view_is c.requires.taken in
    let left = c.keep-outcome.ensures.left in
    let indexed = kept_index (setting_in a) a.mail.mail a.firings.items a.ending a.trees.items i.rest a.index i.indexed c.args.source c.args.message c.args.stamp c.insert.new.self c.empty_ended.new.index _ c.record.new.mail.mail c.keep-outcome.new.mail.mail c.keep-outcome.new.ending running c.insert.ensures.fields c.insert.ensures.keeps only newest e.recorded left.mail left.end rest.ended c.empty_ended.ensures.fields c.empty_ended.ensures.entries in
    record { told = i.told; rest = rest; indexed = indexed; none = c.reserve_entry.ensures.entries; room = room }

pub returns-in_default-best_of-clause-partial : goal.returns-in_default-best_of-clause-partial
returns-in_default-best_of-clause-partial g c =
    partial_held (setting_in c.self.inside) c.keep-outcome.new.mail.mail c.push.new.self.items c.keep-outcome.new.ending (with_items (with_items c.self.inside.trees c.record.new.trees) c.keep-outcome.new.trees).items _ _ (kept_inside g (goal.at.returns-in_default-best_of-clause-partial g c).After-empty_ended)

pub returns-in_default-best_of-clause-waits : goal.returns-in_default-best_of-clause-waits
returns-in_default-best_of-clause-waits g c =
    none_waits (setting_in c.self.inside) c.keep-outcome.new.mail.mail c.push.new.self.items c.keep-outcome.new.ending (with_items (with_items c.self.inside.trees c.record.new.trees) c.keep-outcome.new.trees).items _ _ (kept_inside g (goal.at.returns-in_default-best_of-clause-waits g c).After-empty_ended)

pub returns-in_default-best_of-clause-step : goal.returns-in_default-best_of-clause-step
returns-in_default-best_of-clause-step g c =
    subst (λ (h : Held). fair_step h.setting h.state c.args.source c.args.message c.args.stamp ≡ (state_of c.keep-outcome.new.mail.mail c.push.new.self.items c.keep-outcome.new.ending, c.keep-outcome.result)) c.self.view_is
    (kept g (goal.at.returns-in_default-best_of-clause-step g c).After-empty_ended).step

pub returns-in_default-best_of-clause-history : goal.returns-in_default-best_of-clause-history
returns-in_default-best_of-clause-history g c =
    let a = c.self.inside in
    let same = same_arrivals _ c.record.new.mail.mail c.keep-outcome.new.mail.mail c.keep-outcome.ensures.left.mail in
    subst (λ (h : Held). history_in c.keep-outcome.new.mail.mail.arrivals ≡ history_with h c.args.source c.args.message c.args.stamp) c.self.view_is
    (history_more (held_of a) a.mail.mail c.args.source c.args.message c.args.stamp refl c.record.new.mail.mail c.keep-outcome.new.mail.mail (taken_at a _ c.args.message c.args.stamp c.self.view_is c.requires.taken) c.in_ok-number.ensures.recorded same)

pub returns-in_default-best_of-clause-outbox : goal.returns-in_default-best_of-clause-outbox
returns-in_default-best_of-clause-outbox g c =
    let outbox = (held_of c.self.inside).outbox in
    let news = (kept g (goal.at.returns-in_default-best_of-clause-outbox g c).After-empty_ended).entries in
    subst (λ (h : Held). outbox ≡ posts_behind 0 (new_entries h.state (state_of c.keep-outcome.new.mail.mail c.push.new.self.items c.keep-outcome.new.ending)) h.outbox) c.self.view_is
    (unfired_posts 0 _ outbox refl ∙ ap (λ (es : List Entry). posts_behind 0 es outbox) (sym news))

-- ---- firing

pub fire-requires-clause-numbered : goal.fire-requires-clause-numbered
fire-requires-clause-numbered g c = (may g (goal.at.fire-requires-clause-numbered g c).In-Some).numbered

pub fire-requires-clause-exists : goal.fire-requires-clause-exists
fire-requires-clause-exists g c = (may g (goal.at.fire-requires-clause-exists g c).In-Some).exists

pub fire-requires-clause-ready : goal.fire-requires-clause-ready
fire-requires-clause-ready g c =
    let a = c.self.inside in
    let messages = ap (λ (m : Mail). recorded_messages m.arrivals) (sym c.in_ok-number.ensures.recorded) in
    let boxes = ap length (sym c.deref_mut-3.ensures.value) in
    subst (λ (n : ℕ). BodyReady n (recorded_messages c.record.new.mail.mail.arrivals) c.in-Some.chosen.taken (body_at a.rules c.in-Some.chosen.rule)) boxes
    (subst (λ (ms : List Message). BodyReady (length a.outboxes.items) ms c.in-Some.chosen.taken (body_at a.rules c.in-Some.chosen.rule)) messages (may g (goal.at.fire-requires-clause-ready g c).In-Some).ready)

pub fire-requires-clause-recorded : goal.fire-requires-clause-recorded
fire-requires-clause-recorded g c =
    subst (λ (m : Mail). All (IsRecorded m.arrivals) c.in-Some.chosen.taken) (sym c.in_ok-number.ensures.recorded)
    (recorded_all (with_arrival c.self.inside.mail.mail c.args.source c.args.message c.args.stamp).arrivals c.in-Some.chosen.taken (may g (goal.at.fire-requires-clause-recorded g c).In-Some).recorded)

pub fire-requires-clause-reserved : goal.fire-requires-clause-reserved
fire-requires-clause-reserved g c =
    let a = c.self.inside in
    let offered : List Tree = c.record.new.trees in
    let long : length offered ≡ a.trees.len = omega (arith, c.record.auto.trees, c.deref_mut.ensures.len) in
    let again = take_at offered (drop (length offered) a.trees.items) a.trees.len long in
    subst (λ (ts : List Tree). AllByRecursion (HasReserve c.in_ok-number.number) ts) (sym (c.deref_mut-2.ensures.value ∙ again)) (reserved g (goal.at.fire-requires-clause-reserved g c).In_ok-number)

-- the messages as they are recorded
messages_now : (g : _) (c : In_ok-number g) → recorded_messages c.self.inside.mail.mail.arrivals ++ c.args.message ∷ [] ≡ recorded_messages c.record.new.mail.mail.arrivals
messages_now g c =
    let arrivals = c.self.inside.mail.mail.arrivals in
    sym (map-append (λ (r : Received). r.message) arrivals (next_arrival arrivals c.args.source c.args.message c.args.stamp ∷ [])) ∙ ap (λ (m : Mail). recorded_messages m.arrivals) (sym c.in_ok-number.ensures.recorded)

pub fire-requires-clause-can : goal.fire-requires-clause-can
fire-requires-clause-can g c =
    let a = c.self.inside in
    let i = c.self.invariant in
    let takes = not_refused a _ c.args.message c.args.stamp c.self.view_is c.requires.taken in
    let e = c.in_ok-number.ensures in
    let offered : List Tree = c.record.new.trees in
    let long : length offered ≡ a.trees.len = omega (arith, c.record.auto.trees, c.deref_mut.ensures.len) in
    let again = take_at offered (drop (length offered) a.trees.items) a.trees.len long in
    let before : List Message = recorded_messages a.mail.mail.arrivals ++ c.args.message ∷ [] in
    let number : ℕ = length a.mail.mail.arrivals + 1 in
    let can = can_record (length a.outboxes.items) (setting_in a) a.mail.mail a.firings.items a.ending a.trees.items i.told i.rest c.args.source c.args.message c.args.stamp takes in
    let there = unsettled_can before number offered (subst (λ (ts : List Tree). AllByRecursion (CanOfferTo before number) ts) (sym (e.same ∙ c.deref_mut.ensures.value)) can) in
    let messages = messages_now g (goal.at.fire-requires-clause-can g c).In_ok-number in
    let trees : offered ≡ c.deref_mut-2.result.now = sym (c.deref_mut-2.ensures.value ∙ again) in
    let P : List Message × ℕ × List Tree → Type 0 = λ x. AllByRecursion (CanOfferTo x.0 x.1) x.2 in
    subst P (λ j. (messages j, sym e.number j, trees j)) there

pub fire-requires-clause-indexed : goal.fire-requires-clause-indexed
fire-requires-clause-indexed g c =
    let a = c.self.inside in
    let i = c.self.invariant in
    let e = c.in_ok-number.ensures in
    let offered : List Tree = c.record.new.trees in
    let long : length offered ≡ a.trees.len = omega (arith, c.record.auto.trees, c.deref_mut.ensures.len) in
    let again = take_at offered (drop (length offered) a.trees.items) a.trees.len long in
    let before : List Message = recorded_messages a.mail.mail.arrivals ++ c.args.message ∷ [] in
    let indexed = paths_indexed (setting_in a) a.mail.mail a.firings.items a.ending a.trees.items i.rest a.index i.indexed c.args.source c.args.message c.args.stamp in
    let there = unsettled_paths a.index before offered (subst (λ (ts : List Tree). AllByRecursion (HasPaths a.index before) ts) (sym (e.same ∙ c.deref_mut.ensures.value)) indexed) in
    let messages = messages_now g (goal.at.fire-requires-clause-indexed g c).In_ok-number in
    let trees : offered ≡ c.deref_mut-2.result.now = sym (c.deref_mut-2.ensures.value ∙ again) in
    let P : List Message × List Tree → Type 0 = λ x. AllByRecursion (HasPaths a.index x.0) x.1 in
    subst P (λ j. (messages j, trees j)) there

-- the firing took the numbers of the match, and they leave the index
pub remove_taken-requires : goal.remove_taken-requires
remove_taken-requires g c =
    let a = c.self.inside in
    let f = c.in-Ok-fire.ensures in
    let messages : c.messages-in-Ok-fire.result.now ≡ recorded_messages (with_arrival a.mail.mail c.args.source c.args.message c.args.stamp).arrivals = c.messages-in-Ok-fire.ensures.messages ∙ ap (λ (m : Mail). recorded_messages m.arrivals) f.mail ∙ ap (λ (m : Mail). recorded_messages m.arrivals) c.in_ok-number.ensures.recorded in
    let taken = c.as_slice-taken.ensures.same ∙ ap (λ (f : Firing). f.taken) c.deref-in-Ok-fire.ensures ∙ ap firing_taken c.in-Ok-fire.ensures.firing in
    let all = each_recorded (recorded_messages (with_arrival a.mail.mail c.args.source c.args.message c.args.stamp).arrivals) c.in-Some.chosen.taken (may g (goal.at.remove_taken-requires g c).In-Some).recorded in
    let P : List Message × List ℕ → Type 0 = λ x. All (recorded_in.IsRecorded x.0) x.1 in
    record { recorded = subst P (λ j. (sym messages j, sym taken j)) all }

fired_indexed : (g : _) (c : After-empty_ended-in-Ok-fire g) → (is_running c.fire.new.ending ≡ false → c.fire.new.mail.mail.live ≡ []) → IsIndexOf c.empty_ended-in-Ok-fire.new.index c.fire.new.mail.mail
fired_indexed g c none =
    let a = c.self.inside in
    let i = c.self.invariant in
    let takes = not_refused a _ c.args.message c.args.stamp c.self.view_is c.requires.taken in
    let running = runs_still a _ c.args.message c.args.stamp c.self.view_is c.requires.taken in
    let e = c.in_ok-number.ensures in
    let offered : List Tree = c.record.new.trees in
    let long : length offered ≡ a.trees.len = omega (arith, c.record.auto.trees, c.deref_mut.ensures.len) in
    let again = take_at offered (drop (length offered) a.trees.items) a.trees.len long in
    let best : best_of offered ≡ Some c.in-Some.chosen = ap best_of (sym (c.deref.ensures.value ∙ again)) ∙ sym c.best_of.ensures ∙ c.in-Some.is in
    let newest = takes_newest (length a.outboxes.items) (setting_in a) a.mail.mail a.firings.items a.ending a.trees.items i.told i.rest c.args.source c.args.message c.args.stamp takes offered (e.same ∙ c.deref_mut.ensures.value) e.reserved running c.in-Some.chosen best in
    let taken = c.as_slice-taken.ensures.same ∙ ap (λ (f : Firing). f.taken) c.deref-in-Ok-fire.ensures ∙ ap firing_taken c.in-Ok-fire.ensures.firing in
    let others = subst (λ (ns : List ℕ). KeepsUntaken ns a.index.entries c.remove_taken.new.index.entries) taken c.remove_taken.ensures.others in
    let f = c.in-Ok-fire.ensures in
    let messages = c.messages-in-Ok-fire.ensures.messages ∙ ap (λ (m : Mail). recorded_messages m.arrivals) f.mail ∙ ap (λ (m : Mail). recorded_messages m.arrivals) e.recorded in
    let P : List Message × List ℕ → Type 0 = λ x. LacksTaken x.1 c.remove_taken.new.index x.0 in
    let gone = subst P (λ j. (messages j, taken j)) c.remove_taken.ensures.gone in
    fired_index (setting_in a) a.mail.mail a.firings.items a.ending a.trees.items i.rest a.index i.indexed c.args.source c.args.message c.args.stamp c.remove_taken.new.index c.empty_ended-in-Ok-fire.new.index _ c.in-Some.chosen.taken c.record.new.mail.mail c.fire.new.mail.mail c.fire.new.ending running c.remove_taken.ensures.fields others c.remove_taken.ensures.adds_none gone newest e.recorded f.mail f.ending none c.empty_ended-in-Ok-fire.ensures.fields c.empty_ended-in-Ok-fire.ensures.entries

fired_inside : (g : _) (c : After-push-in-Ok-fire g) → IsAtRest (setting_in c.self.inside) c.fire.new.mail.mail c.push-in-Ok-fire.new.self.items c.fire.new.ending (with_items (with_items c.self.inside.trees c.record.new.trees) c.fire.new.trees).items
fired_inside g c =
    let a = c.self.inside in
    let long : length c.fire.new.trees ≡ a.trees.len = omega (arith, c.fire.auto.trees, c.deref_mut-2.ensures.len) in
    let left = take_at c.fire.new.trees (drop (length c.fire.new.trees) (with_items a.trees c.record.new.trees).items) a.trees.len long in
    rest_is (setting_in a) _ c.fire.new.mail.mail _ c.push-in-Ok-fire.new.self.items _ c.fire.new.ending _ (with_items (with_items a.trees c.record.new.trees) c.fire.new.trees).items refl refl refl left (fired g c).at_rest

pub invariant_of-self-in-Ok-fire : goal.invariant_of-self-in-Ok-fire
invariant_of-self-in-Ok-fire g c =
    let a = c.self.inside in
    let i = c.self.invariant in
    let rest = fired_inside g (goal.at.invariant_of-self-in-Ok-fire g c).After-push-in-Ok-fire in
    let long : length c.fire.new.outboxes ≡ a.outboxes.len = omega (arith, c.fire.auto.outboxes, c.deref_mut-3.ensures.len) in
    let boxes = take_at c.fire.new.outboxes (drop (length c.fire.new.outboxes) a.outboxes.items) a.outboxes.len long in
    let same_count : length a.outboxes.items ≡ length (with_items a.outboxes c.fire.new.outboxes).items = omega (arith, ap length boxes, a.outboxes.ok.0) in
    let messages = ap length c.messages-arrivals.ensures.messages ∙ length-map a.mail.mail.arrivals (λ (r : Received). r.message) in
    let place = c.in-Ok.ensures.room in
    let firings : c.push-in-Ok-fire.new.self.items ≡ a.firings.items ++ Some c.in-Ok-fire.firing.value ∷ [] = rw (c.push-in-Ok-fire.ensures.items, c.from_box.ensures.firing) (ap (λ (fs : List (Option Firing)). fs ++ Some c.in-Ok-fire.firing.value ∷ []) c.reserve_entry.ensures.firings) in
    let more = ap length firings ∙ length-append a.firings.items (Some c.in-Ok-fire.firing.value ∷ []) in
    let room : length c.fire.new.mail.mail.arrivals ≤ vec_capacity c.reserve_entry.new.entries = omega (arith, rest.fired, i.rest.fired) in
    let indexed = fired_indexed g (goal.at.invariant_of-self-in-Ok-fire g c).After-empty_ended-in-Ok-fire rest.ended in
    record { told = subst (λ (n : ℕ). IsTold n (setting_in a)) same_count i.told; rest = rest; indexed = indexed; none = c.reserve_entry.ensures.entries; room = room }

pub returns-in-Ok-fire-clause-partial : goal.returns-in-Ok-fire-clause-partial
returns-in-Ok-fire-clause-partial g c =
    partial_held (setting_in c.self.inside) c.fire.new.mail.mail c.push-in-Ok-fire.new.self.items c.fire.new.ending (with_items (with_items c.self.inside.trees c.record.new.trees) c.fire.new.trees).items _ _ (fired_inside g (goal.at.returns-in-Ok-fire-clause-partial g c).After-push-in-Ok-fire)

pub returns-in-Ok-fire-clause-waits : goal.returns-in-Ok-fire-clause-waits
returns-in-Ok-fire-clause-waits g c =
    none_waits (setting_in c.self.inside) c.fire.new.mail.mail c.push-in-Ok-fire.new.self.items c.fire.new.ending (with_items (with_items c.self.inside.trees c.record.new.trees) c.fire.new.trees).items _ _ (fired_inside g (goal.at.returns-in-Ok-fire-clause-waits g c).After-push-in-Ok-fire)

unfired_inside : (g : _) (c : After-give_up-in-Err g)
    → IsAtRest (setting_in c.self.inside) c.give_up-in-Err.new.mail.mail c.reserve_entry.new.firings.items c.fire.new.ending (with_items (with_items (with_items c.self.inside.trees c.record.new.trees) c.fire.new.trees) c.give_up-in-Err.new.trees).items
unfired_inside g c =
    let a = c.self.inside in
    let e = c.in_ok-number.ensures in
    let f = c.in-Err.ensures in
    let offered : List Tree = c.record.new.trees in
    let long : length offered ≡ a.trees.len = omega (arith, c.record.auto.trees, c.deref_mut.ensures.len) in
    let again = take_at offered (drop (length offered) a.trees.items) a.trees.len long in
    let long-2 : length c.fire.new.trees ≡ a.trees.len = omega (arith, c.fire.auto.trees, c.deref_mut-2.ensures.len) in
    let long-4 : length c.give_up-in-Err.new.trees ≡ a.trees.len = omega (arith, c.give_up-in-Err.auto.trees, c.deref_mut-in-Err.ensures.len) in
    let left = take_at c.fire.new.trees (drop (length c.fire.new.trees) (with_items a.trees offered).items) a.trees.len long-2 in
    let last = take_at c.give_up-in-Err.new.trees (drop (length c.give_up-in-Err.new.trees) (with_items (with_items a.trees offered) c.fire.new.trees).items) a.trees.len long-4 in
    let same = e.same ∙ c.deref_mut.ensures.value in
    let trees : c.give_up-in-Err.new.trees ≡ a.trees.items = c.give_up-in-Err.ensures.trees ∙ ap (map settled_tree) (c.deref_mut-in-Err.ensures.value ∙ left ∙ f.same_trees ∙ c.deref_mut-2.ensures.value ∙ again) ∙ same in
    let mail = c.give_up-in-Err.ensures.retracted ∙ ap without_last (f.same_mail ∙ e.recorded) ∙ retracted_again a.mail.mail c.args.source c.args.message c.args.stamp in
    rest_is (setting_in a) _ c.give_up-in-Err.new.mail.mail _ c.reserve_entry.new.firings.items _ c.fire.new.ending _ (with_items (with_items (with_items a.trees offered) c.fire.new.trees) c.give_up-in-Err.new.trees).items mail c.reserve_entry.ensures.firings f.same_ending (last ∙ trees) c.self.invariant.rest

pub invariant_of-self-in-Err : goal.invariant_of-self-in-Err
invariant_of-self-in-Err g c =
    let a = c.self.inside in
    let i = c.self.invariant in
    let long : length c.fire.new.outboxes ≡ a.outboxes.len = omega (arith, c.fire.auto.outboxes, c.deref_mut-3.ensures.len) in
    let boxes = take_at c.fire.new.outboxes (drop (length c.fire.new.outboxes) a.outboxes.items) a.outboxes.len long in
    let same_count : length a.outboxes.items ≡ length (with_items a.outboxes c.fire.new.outboxes).items = omega (arith, ap length boxes, a.outboxes.ok.0) in
    let mail : c.give_up-in-Err.new.mail.mail ≡ a.mail.mail = c.give_up-in-Err.ensures.retracted ∙ ap without_last (c.in-Err.ensures.same_mail ∙ c.in_ok-number.ensures.recorded) ∙ retracted_again a.mail.mail c.args.source c.args.message c.args.stamp in
    let capacity = c.reserve_entry.ensures.kept in
    let count = ap (λ (m : Mail). length m.arrivals) mail in
    let room : length c.give_up-in-Err.new.mail.mail.arrivals ≤ vec_capacity c.reserve_entry.new.entries = omega (arith, i.room) in
    record { told = subst (λ (n : ℕ). IsTold n (setting_in a)) same_count i.told; rest = unfired_inside g (goal.at.invariant_of-self-in-Err g c).After-give_up-in-Err; indexed = subst (IsIndexOf a.index) (sym mail) i.indexed; none = c.reserve_entry.ensures.entries; room = room }

pub returns-in-Err-clause-partial : goal.returns-in-Err-clause-partial
returns-in-Err-clause-partial g c =
    partial_held (setting_in c.self.inside) c.give_up-in-Err.new.mail.mail c.reserve_entry.new.firings.items c.fire.new.ending (with_items (with_items (with_items c.self.inside.trees c.record.new.trees) c.fire.new.trees) c.give_up-in-Err.new.trees).items _ _ (unfired_inside g (goal.at.returns-in-Err-clause-partial g c).After-give_up-in-Err)

pub returns-in-Err-clause-waits : goal.returns-in-Err-clause-waits
returns-in-Err-clause-waits g c =
    none_waits (setting_in c.self.inside) c.give_up-in-Err.new.mail.mail c.reserve_entry.new.firings.items c.fire.new.ending (with_items (with_items (with_items c.self.inside.trees c.record.new.trees) c.fire.new.trees) c.give_up-in-Err.new.trees).items _ _ (unfired_inside g (goal.at.returns-in-Err-clause-waits g c).After-give_up-in-Err)

pub returns-in-Ok-fire-clause-step : goal.returns-in-Ok-fire-clause-step
returns-in-Ok-fire-clause-step g c =
    subst (λ (h : Held). fair_step h.setting h.state c.args.source c.args.message c.args.stamp ≡ (state_of c.fire.new.mail.mail c.push-in-Ok-fire.new.self.items c.fire.new.ending, Fired)) c.self.view_is
    (fired g (goal.at.returns-in-Ok-fire-clause-step g c).After-push-in-Ok-fire).step

pub returns-in-Ok-fire-clause-history : goal.returns-in-Ok-fire-clause-history
returns-in-Ok-fire-clause-history g c =
    let a = c.self.inside in
    let same = ap (λ (m : Mail). m.arrivals) c.in-Ok-fire.ensures.mail in
    subst (λ (h : Held). history_in c.fire.new.mail.mail.arrivals ≡ history_with h c.args.source c.args.message c.args.stamp) c.self.view_is
    (history_more (held_of a) a.mail.mail c.args.source c.args.message c.args.stamp refl c.record.new.mail.mail c.fire.new.mail.mail (taken_at a _ c.args.message c.args.stamp c.self.view_is c.requires.taken) c.in_ok-number.ensures.recorded same)

pub returns-in-Ok-fire-clause-outbox : goal.returns-in-Ok-fire-clause-outbox
returns-in-Ok-fire-clause-outbox g c =
    let a = c.self.inside in
    let i = c.self.invariant in
    let long-3 : length c.fire.new.outboxes ≡ a.outboxes.len = omega (arith, c.fire.auto.outboxes, c.deref_mut-3.ensures.len) in
    let boxes = take_at c.fire.new.outboxes (drop (length c.fire.new.outboxes) a.outboxes.items) a.outboxes.len long-3 in
    let entry : Entry = entry_with (arrival_at a c.args.source c.args.message c.args.stamp) (Some c.in-Ok-fire.firing.value) in
    let before : Mail = c.record.new.mail.mail in
    let outbox = (held_of a).outbox in
    let f = c.in-Ok-fire.ensures in
    let effects : effects_of (recorded_messages before.arrivals) c.in-Some.chosen.taken (body_at a.rules c.in-Some.chosen.rule) ≡ c.in-Ok-fire.firing.value.effects = ap firing_effects (sym f.firing) in
    let stamp = stamp_same (length a.outboxes.items) (setting_in a) a.mail.mail a.firings.items a.ending a.trees.items i.told i.rest c.args.source c.args.message c.args.stamp before c.in_ok-number.ensures.recorded in
    let after : List (List Stamped) = map (λ (o : Queue). o.posts) (with_items a.outboxes c.fire.new.outboxes).items in
    let posts : after ≡ delivered (sent_by (latest before.arrivals) c.in-Ok-fire.firing.value.effects) outbox = ap (λ (os : List Queue). map (λ (o : Queue). o.posts) os) boxes ∙ f.posts ∙ (λ j. delivered (sent_by (latest before.arrivals) (effects j)) (map (λ (o : Queue). o.posts) (c.deref_mut-3.ensures.value j))) in
    let news = (fired g (goal.at.returns-in-Ok-fire-clause-outbox g c).After-push-in-Ok-fire).entries in
    subst (λ (h : Held). map (λ (o : Queue). o.posts) (with_items a.outboxes c.fire.new.outboxes).items ≡ posts_behind 0 (new_entries h.state (state_of c.fire.new.mail.mail c.push-in-Ok-fire.new.self.items c.fire.new.ending)) h.outbox) c.self.view_is
    (posts ∙ fired_posts entry c.in-Ok-fire.firing.value (latest before.arrivals) outbox refl stamp ∙ ap (λ (es : List Entry). posts_behind 0 es outbox) (sym news))
