-- Each step leaves less work: it takes a post, and the posts that it makes are fewer than an arrival stands for.
use Rattle.std.proofs.Common.{◌≡◌, ◌∙◌, ◌⊎◌, inl, inr, ℕ, zero, suc, ◌+◌, ◌-◌, ◌<◌, ◌≤◌, List, [], ◌∷◌, ◌++◌, length, length-append, map, drop, Bool, true, false, Option, None, Some, slice_get, refl, ap, sym, subst, arith}
use Rattle.std.specs.Prelude.{if◌then◌else◌, ◌==◌, ◌&&◌, nat_le, nat_lt, Contains}
use Rattle.std.specs.List.{AllByRecursion, cons_option, filter_map, flat_map, sum_by}
use Rattle.std.proofs.lemmas.Bool.Decides.{nat_tests}
use Rattle.std.proofs.lemmas.List.{append-nil}
use Rattle.std.proofs.lemmas.List.Sums.{sum_by-append}
use Rattle.std.proofs.Math.Seq.{drop-append_seam}
use Rattle.join_base.specs.declared.message.Message.{Message}
use Rattle.join_base.specs.declared.message.Stamped.{Stamped}
use Rattle.join_base.specs.declared.message.Source.{Source}
use Rattle.join_base.specs.declared.message.Source.TheVariants.{Feed, Actor}
use Rattle.pattern_core.specs.declared.candidate.Candidate.{Candidate}
use Rattle.pattern_core.specs.Matches.{partial_count}
use Rattle.pattern_core.specs.Choice.{choice}
use Rattle.script_types.specs.declared.plan.Plan.{Plan}
use Rattle.script_types.specs.declared.plan.ActorPlan.{ActorPlan}
use Rattle.script_types.specs.declared.plan.Rule.{Rule}
use Rattle.script_types.specs.declared.plan.Statement.{Statement}
use Rattle.script_types.specs.declared.plan.Statement.TheVariants as statement
use Rattle.script_types.specs.Typed.{IsTyped, IsTypedActor, IsTypedRule, kind_types}
use Rattle.fair_semantics.specs.declared.run.Effect.{Effect}
use Rattle.fair_semantics.specs.declared.run.Effect.TheVariants as effect
use Rattle.fair_semantics.specs.declared.run.Ending.TheVariants as ending
use Rattle.fair_semantics.specs.declared.run.Outcome.TheVariants as outcome
use Rattle.fair_semantics.specs.declared.run.Entry.{Entry}
use Rattle.fair_semantics.specs.declared.run.Limits.{Limits}
use Rattle.join_base.specs.Taken.{without}
use Rattle.fair_semantics.specs.Body.{effects_of, statement_effects, stops}
use Rattle.fair_semantics.specs.Fair.{rules_of, setting_of}
use Rattle.fair_semantics.specs.Linked.{effect_for, entry_posts, firing_effects, numbers_from, same_source, sources}
use Rattle.fair_semantics.specs.Schedule.{System, left_waiting, newly_waiting, posts_made, state_after, taking}
use Rattle.fair_semantics.specs.Step.{Arrival, Setting, State, Stepped, body_at, body_of, by_choice, definitions_of, entry_with, fair_step, firing_of, is_refused, is_running, messages_with, live_with, recorded, running_step, step_by}
use Rattle.fair_semantics.proofs.ListLemmas.{each_at, each_from}
use Rattle.fair_semantics.proofs.TakenLemmas.{or_parts}
use Rattle.run_order_law.proofs.EventLemmas.{same_number, same_source_is}
use Rattle.run_order_law.proofs.SourceLemmas.{is_itself, itself}
use Rattle.schedule_law.specs.WorkLeft.{StepsLeaveLess, arrivals_left, room_of, waiting_count, waiting_for, work_left}
use Rattle.schedule_law.proofs.SumLemmas.{once, sum_both, sum_less, sum_map, sum_most, sum_none, sum_same}

-- ---- what a body makes

one_effect : (messages : List Message) (taken : List ℕ) (s : Statement) → length (statement_effects messages taken s) ≤ 1
one_effect messages taken (statement.Print items) = omega arith
one_effect messages taken (statement.Post target kind operands) = omega arith
one_effect messages taken statement.Stop = omega arith
one_effect messages taken (statement.Reply pattern operand) = omega arith

few_effects : (messages : List Message) (taken : List ℕ) (body : List Statement) → length (effects_of messages taken body) ≤ length body
few_effects messages taken [] = omega arith
few_effects messages taken (s ∷ body) =
    let one = one_effect messages taken s in
    let later = few_effects messages taken body in
    let both = length-append (statement_effects messages taken s) (effects_of messages taken body) in
    omega (arith, one, later, both)

-- no body of these rules has more than 16 statements
abbrev pub AreSmall : List Rule → Type 0
AreSmall rules = AllByRecursion (λ (rule : Rule). length rule.body ≤ 16) rules

small_body : (rules : List Rule) (rule : ℕ) → AreSmall rules → length (body_at rules rule) ≤ 16
small_body rules rule small = by (slice_get rules (rule - 1)) refl
  where
    by : (o : Option Rule) → slice_get rules (rule - 1) ≡ o → length (body_of o) ≤ 16
    by None e = omega arith
    by (Some r) e = each_at (λ (x : Rule). length x.body ≤ 16) rules (rule - 1) r e small

pub small_rules : (plan : Plan) (limits : Limits) (actor : ℕ) → IsTyped plan → AreSmall (setting_of plan actor limits).rules
small_rules plan limits actor typed = by (slice_get plan.actors actor) refl
  where
    by : (o : Option ActorPlan) → slice_get plan.actors actor ≡ o → AreSmall (rules_of o)
    by None e = tt
    by (Some own) e =
        let own_typed : IsTypedActor (length plan.actors) (kind_types plan.kinds) own = each_at (IsTypedActor (length plan.actors) (kind_types plan.kinds)) plan.actors actor own e typed.actors in
        each_from (IsTypedRule (length plan.actors) (kind_types plan.kinds)) (λ (rule : Rule). length rule.body ≤ 16) (λ rule t. t.few_statements) own.rules own_typed.each

-- ---- what a step adds

-- nothing, or an entry where there was room, with at most 16 effects
abbrev pub AddsFew : ℕ → State → State → Type 0
AddsFew most before after =
    (after.entries ≡ before.entries) ⊎ ((length before.entries < most) × ((entry : Entry) × ((after.entries ≡ before.entries ++ entry ∷ []) × (length (firing_effects entry.firing) ≤ 16))))

module _ (setting : Setting) (small : AreSmall setting.rules) where
  abbrev HasSmall : Arrival → State → Type 0
  HasSmall arrival after = (entry : Entry) × ((after.entries ≡ arrival.state.entries ++ entry ∷ []) × (length (firing_effects entry.firing) ≤ 16))

  chosen_small : (arrival : Arrival) (c : Candidate) → length (firing_effects (firing_of setting.rules (messages_with arrival) (Some c))) ≤ 16
  chosen_small arrival c =
      let few = few_effects (messages_with arrival) c.taken (body_at setting.rules c.rule) in
      let most = small_body setting.rules c.rule small in
      omega (arith, few, most)

  recorded_small : (arrival : Arrival) (o : Option Candidate) → HasSmall arrival (by_choice setting arrival o).0
  recorded_small arrival None = by (nat_lt setting.limits.partials (partial_count (messages_with arrival) (live_with arrival) (definitions_of setting.rules)))
    where
      by : (b : Bool) → let stepped : Stepped = if b then (recorded arrival None [] ending.Jammed, outcome.Jammed) else (recorded arrival None (live_with arrival) ending.Running, outcome.Kept) in HasSmall arrival stepped.0
      by true = (entry_with arrival None, (refl, omega arith))
      by false = (entry_with arrival None, (refl, omega arith))
  recorded_small arrival (Some c) = by (stops (body_at setting.rules c.rule))
    where
      by : (b : Bool) → HasSmall arrival (if b then recorded arrival (firing_of setting.rules (messages_with arrival) (Some c)) [] ending.Stopped else recorded arrival (firing_of setting.rules (messages_with arrival) (Some c)) (without (live_with arrival) c.taken) ending.Running)
      by true = (entry_with arrival (firing_of setting.rules (messages_with arrival) (Some c)), (refl, chosen_small arrival c))
      by false = (entry_with arrival (firing_of setting.rules (messages_with arrival) (Some c)), (refl, chosen_small arrival c))

  adds_few : (state : State) (source : Source) (message : Message) (stamp : ℕ) → AddsFew setting.limits.arrivals state (fair_step setting state source message stamp).0
  adds_few state source message stamp = by (is_running state.ending)
    where
      running : (b : Bool) → is_refused setting state message stamp ≡ b → AddsFew setting.limits.arrivals state (running_step b setting state source message stamp).0
      running true e = inl refl
      running false e =
          let arrival : Arrival = record { state = state; source = source; message = message; stamp = stamp } in
          let full : nat_le setting.limits.arrivals (length state.entries) ≡ false = (or_parts _ _ e).0 in
          let room : length state.entries < setting.limits.arrivals = grind (arith, nat_tests) in
          inr (room, recorded_small arrival (choice (messages_with arrival) (live_with arrival) (definitions_of setting.rules)))

      by : (b : Bool) → AddsFew setting.limits.arrivals state (step_by b setting state source message stamp).0
      by false = inl refl
      by true = running (is_refused setting state message stamp) refl

-- ---- what is posted

-- how many of these effects are posts to one of the first actors
abbrev posts_among : ℕ → ℕ → List Effect → ℕ
posts_among actors stamp effects = sum_by (λ target. length (filter_map (effect_for target stamp) effects)) (numbers_from 0 actors)

one_post : (stamp to target : ℕ) (message : Message) (effects : List Effect)
    → length (filter_map (effect_for target stamp) (effect.Post to message ∷ effects)) ≤ (if target == to then 1 else 0) + length (filter_map (effect_for target stamp) effects)
one_post stamp to target message effects = by (to == target) refl
  where
    by : (b : Bool) → (to == target) ≡ b
        → length (cons_option (if b then Some record { message = message; stamp = stamp } else None) (filter_map (effect_for target stamp) effects)) ≤ (if target == to then 1 else 0) + length (filter_map (effect_for target stamp) effects)
    by false e = omega arith
    by true e = subst (λ (n : ℕ). suc (length (filter_map (effect_for target stamp) effects)) ≤ (if target == n then 1 else 0) + length (filter_map (effect_for target stamp) effects)) (sym (same_number to target e))
        (subst (λ (b : Bool). suc (length (filter_map (effect_for target stamp) effects)) ≤ (if b then 1 else 0) + length (filter_map (effect_for target stamp) effects)) (sym (is_itself target)) (omega arith))

few_posts : (actors stamp : ℕ) (effects : List Effect) → posts_among actors stamp effects ≤ length effects
few_posts actors stamp [] = let none = sum_none (λ target. length (filter_map (effect_for target stamp) [])) (λ target. refl) (numbers_from 0 actors) in omega (arith, none)
few_posts actors stamp (effect.Print line ∷ effects) = let later = few_posts actors stamp effects in omega (arith, later)
few_posts actors stamp (effect.Reply number value ∷ effects) = let later = few_posts actors stamp effects in omega (arith, later)
few_posts actors stamp (effect.Post to message ∷ effects) =
    let later = few_posts actors stamp effects in
    let here = once 0 actors to 1 in
    let both = sum_both (λ target. if target == to then 1 else 0) (λ target. length (filter_map (effect_for target stamp) effects)) (numbers_from 0 actors) in
    let most = sum_most (λ target. length (filter_map (effect_for target stamp) (effect.Post to message ∷ effects))) (λ target. (if target == to then 1 else 0) + length (filter_map (effect_for target stamp) effects)) (λ target. one_post stamp to target message effects) (numbers_from 0 actors) in
    omega (arith, later, here, both, most)

-- how many posts a step made
abbrev pub posted : ℕ → State → State → ℕ
posted actors before after = sum_by (λ target. length (posts_made before after target)) (numbers_from 0 actors)

none_posted : (actors : ℕ) (before after : State) → after.entries ≡ before.entries → posted actors before after ≡ 0
none_posted actors before after same = sum_none (λ target. length (posts_made before after target)) (λ target. ap (λ (xs : List Entry). length (flat_map (entry_posts target) xs)) (ap (drop (length before.entries)) same ∙ nothing before.entries)) (numbers_from 0 actors)
  where
    nothing : (xs : List Entry) → drop (length xs) xs ≡ []
    nothing [] = refl
    nothing (x ∷ xs) = nothing xs

few_posted : (actors : ℕ) (before after : State) (entry : Entry) → after.entries ≡ before.entries ++ entry ∷ [] → posted actors before after ≤ length (firing_effects entry.firing)
few_posted actors before after entry is =
    let here : (target : ℕ) → length (posts_made before after target) ≡ length (filter_map (effect_for target entry.stamp) (firing_effects entry.firing)) =
    λ target. ap (λ (xs : List Entry). length (flat_map (entry_posts target) xs)) (ap (drop (length before.entries)) is ∙ drop-append_seam before.entries (entry ∷ [])) ∙ ap length (append-nil (entry_posts target entry)) in
    let same = sum_same (λ target. length (posts_made before after target)) (λ target. length (filter_map (effect_for target entry.stamp) (firing_effects entry.firing))) here (numbers_from 0 actors) in
    let few = few_posts actors entry.stamp (firing_effects entry.firing) in
    omega (arith, same, few)

-- ---- a step

number_contained : (start count k : ℕ) → start ≤ k → k < start + count → Contains (numbers_from start count) k
number_contained start zero k l m = absurd (omega (arith, l, m))
number_contained start (suc count) k l m = by (start == k) refl (λ later. number_contained (start + 1) count k later (omega (arith, m)))
  where
    by : (b : Bool) → (start == k) ≡ b → (start + 1 ≤ k → Contains (numbers_from (start + 1) count) k) → Contains (numbers_from start (suc count)) k
    by true e later = (0, omega arith, same_number start k e)
    by false e later =
        let less : start + 1 ≤ k = grind (arith, nat_tests) in
        let r = later less in
        (suc r.0, omega (arith, r.1), r.2)

module _ (plan : Plan) (limits : Limits) (feeds : ℕ) (typed : IsTyped plan) (system : System) (actor : ℕ) (source : Source) (in_plan : actor < length plan.actors) (known : Contains (sources feeds (length plan.actors)) source)
    (post : Stamped) (rest : List Stamped) (waits : system.waiting source actor ≡ post ∷ rest) where
  abbrev after : State
  after = state_after plan limits system actor source post

  abbrev next : System
  next = record {
    state = λ other. if other == actor then after else system.state other;
    waiting = λ from target. left_waiting system actor source rest from target ++ newly_waiting system actor after from target;
  }

  abbrev numbers : List ℕ
  numbers = numbers_from 0 (length plan.actors)

  abbrev all : List Source
  all = sources feeds (length plan.actors)

  abbrev left : ℕ → Source → ℕ
  left target from = length (left_waiting system actor source rest from target)

  abbrev newly : ℕ → Source → ℕ
  newly target from = length (newly_waiting system actor after from target)

  -- the post that was taken
  no_more : (target : ℕ) (from : Source) → left target from ≤ length (system.waiting from target)
  no_more target from = by (same_source from source) (target == actor) refl refl
    where
      by : (b c : Bool) → same_source from source ≡ b → (target == actor) ≡ c → length (if b && c then rest else system.waiting from target) ≤ length (system.waiting from target)
      by false c e f = omega arith
      by true false e f = omega arith
      by true true e f =
          let here : length (system.waiting from target) ≡ suc (length rest) = ap length ((λ i. system.waiting (same_source_is from source e i) (same_number target actor f i)) ∙ waits) in
          omega (arith, here)

  one_less : left actor source + 1 ≤ length (system.waiting source actor)
  one_less =
      let taken : left actor source ≡ length rest = λ i. length (if itself source i && is_itself actor i then rest else system.waiting source actor) in
      let here : length (system.waiting source actor) ≡ suc (length rest) = ap length waits in
      omega (arith, taken, here)

  taken_here : sum_by (left actor) all + 1 ≤ waiting_for plan feeds system actor
  taken_here = sum_less (left actor) (λ from. length (system.waiting from actor)) 1 (no_more actor) all source known one_less

  taken_all : sum_by (λ target. sum_by (left target) all) numbers + 1 ≤ waiting_count plan feeds system
  taken_all = sum_less (λ target. sum_by (left target) all) (waiting_for plan feeds system) 1 (λ target. sum_most (left target) (λ from. length (system.waiting from target)) (no_more target) all) numbers actor (number_contained 0 (length plan.actors) actor (omega arith) (omega (arith, in_plan))) taken_here

  -- the posts that were made
  made_for : (target : ℕ) → sum_by (newly target) all ≤ length (posts_made (system.state actor) after target)
  made_for target =
      let n : ℕ = length (posts_made (system.state actor) after target) in
      let fed : List Source = map (λ k. Feed k) (numbers_from 1 feeds) in
      let posting : List Source = map (λ a. Actor a) numbers in
      let parts = sum_by-append (newly target) fed posting in
      let first = sum_map (newly target) (λ k. Feed k) (numbers_from 1 feeds) ∙ sum_none (λ k. newly target (Feed k)) (λ k. refl) (numbers_from 1 feeds) in
      let second = sum_map (newly target) (λ a. Actor a) numbers ∙ sum_same (λ a. newly target (Actor a)) (λ a. if a == actor then n else 0) each numbers in
      let most = once 0 (length plan.actors) actor n in
      omega (arith, parts, first, second, most)
    where
      each : (a : ℕ) → newly target (Actor a) ≡ (if a == actor then length (posts_made (system.state actor) after target) else 0)
      each a = by (a == actor)
        where
          by : (b : Bool) → length (if b then posts_made (system.state actor) after target else []) ≡ (if b then length (posts_made (system.state actor) after target) else 0)
          by true = refl
          by false = refl

  made_all : sum_by (λ target. sum_by (newly target) all) numbers ≤ posted (length plan.actors) (system.state actor) after
  made_all = sum_most (λ target. sum_by (newly target) all) (λ target. length (posts_made (system.state actor) after target)) made_for numbers

  waiting_next : waiting_count plan feeds next ≡ sum_by (λ target. sum_by (left target) all) numbers + sum_by (λ target. sum_by (newly target) all) numbers
  waiting_next = sum_same (waiting_for plan feeds next) (λ target. sum_by (left target) all + sum_by (newly target) all) each numbers ∙ sum_both (λ target. sum_by (left target) all) (λ target. sum_by (newly target) all) numbers
    where
      each : (target : ℕ) → waiting_for plan feeds next target ≡ sum_by (left target) all + sum_by (newly target) all
      each target =
          sum_same (λ from. length (next.waiting from target)) (λ from. left target from + newly target from) (λ from. length-append (left_waiting system actor source rest from target) (newly_waiting system actor after from target)) all
          ∙ sum_both (left target) (newly target) all

  -- the arrivals that are left
  room_here : room_of limits next actor ≡ limits.arrivals - length after.entries
  room_here = ap (λ (b : Bool). limits.arrivals - length (if b then after else system.state actor).entries) (is_itself actor)

  room_less : (less : ℕ) → limits.arrivals - length after.entries + less ≤ room_of limits system actor → arrivals_left plan limits next + less ≤ arrivals_left plan limits system
  room_less less h =
      sum_less (room_of limits next) (room_of limits system) less no_more_room numbers actor (number_contained 0 (length plan.actors) actor (omega arith) (omega (arith, in_plan))) (omega (arith, h, room_here))
    where
      no_more_room : (other : ℕ) → room_of limits next other ≤ room_of limits system other
      no_more_room other = by (other == actor) refl
        where
          by : (b : Bool) → (other == actor) ≡ b → limits.arrivals - length (if b then after else system.state other).entries ≤ room_of limits system other
          by false e = omega arith
          by true e = let same = ap (room_of limits system) (same_number other actor e) in omega (arith, h, same)

  pub step_leaves_less : work_left plan limits feeds next < work_left plan limits feeds system
  step_leaves_less =
      elim (adds_few (setting_of plan actor limits) (small_rules plan limits actor typed) (system.state actor) source post.message post.stamp) [
        | inl same ↦
            let none = none_posted (length plan.actors) (system.state actor) after same in
            let entries = ap length same in
            let room = room_less 0 (omega (arith, entries)) in
            omega (arith, taken_all, made_all, waiting_next, none, room)
        | inr added ↦
            let few = few_posted (length plan.actors) (system.state actor) after added.1.0 added.1.1.0 in
            let small = added.1.1.1 in
            let more = ap length added.1.1.0 ∙ length-append (system.state actor).entries (added.1.0 ∷ []) in
            let full = added.0 in
            let room = room_less 1 (omega (arith, more, full)) in
            omega (arith, taken_all, made_all, waiting_next, few, small, room)
      ]

pub steps_leave_less : StepsLeaveLess
steps_leave_less plan limits feeds system next actor source typed in_plan known step = by (system.waiting source actor) refl step
  where
    by : (posts : List Stamped) → system.waiting source actor ≡ posts → taking plan limits system actor source posts ≡ Some next → work_left plan limits feeds next < work_left plan limits feeds system
    by [] waits e = absurd cc
    by (post ∷ rest) waits e =
        let taken = step_leaves_less plan limits feeds typed system actor source in_plan known post rest waits in
        subst (λ (s : System). work_left plan limits feeds s < work_left plan limits feeds system) (some_is _ _ e) taken
      where
        some_is : {X : Type 0} (x y : X) → Some x ≡ Some y → x ≡ y
        some_is x y h = cc
