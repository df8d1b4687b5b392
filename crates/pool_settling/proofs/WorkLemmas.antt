-- An arrival leaves no more work: it records a message only where there is room, and a body makes at most 16 posts. With
-- the messages that were given it is at most one more.
use Rattle.std.proofs.Common.{◌≡◌, ◌∙◌, ℕ, zero, suc, ◌+◌, ◌-◌, ◌*◌, ◌<◌, ◌≤◌, List, [], ◌∷◌, ◌++◌, length, length-append, set, drop, Bool, true, false, Option, None, Some, slice_get, refl, ap, subst, sym, arith}
use Rattle.std.specs.Prelude.{◌^◌, if◌then◌else◌, nat_le, nat_lt}
use Rattle.std.specs.List.{sum_by}
use Rattle.std.proofs.lemmas.Bool.Decides.{nat_tests}
use Rattle.std.proofs.lemmas.List.Elements.{filter_map-append}
use Rattle.std.proofs.lemmas.List.Sums.{sum_by-cons}
use Rattle.std.proofs.Math.Seq.{drop-append_seam}
use Rattle.join_base.specs.Late.{Late, late_more, raised, raised_at}
use Rattle.join_base.specs.Taken.{without}
use Rattle.join_base.specs.declared.message.Message.{Message}
use Rattle.join_base.specs.declared.message.Source.{Source}
use Rattle.join_base.specs.declared.message.Source.TheVariants.{Feed, Actor}
use Rattle.join_base.specs.declared.message.Stamped.{Stamped}
use Rattle.pattern_core.specs.declared.candidate.Candidate.{Candidate}
use Rattle.pattern_core.specs.Matches.{partial_count}
use Rattle.pattern_core.specs.Choice.{choice}
use Rattle.script_types.specs.declared.plan.Rule.{Rule}
use Rattle.script_types.specs.declared.plan.Statement.{Statement}
use Rattle.script_types.specs.declared.plan.Statement.TheVariants as statement
use Rattle.fair_semantics.specs.declared.run.Ending.TheVariants as ending
use Rattle.fair_semantics.specs.declared.run.Outcome.TheVariants as outcome
use Rattle.fair_semantics.specs.declared.run.Entry.{Entry}
use Rattle.fair_semantics.specs.declared.run.Firing.{Firing}
use Rattle.fair_semantics.specs.Body.{effects_of, statement_effects, stops}
use Rattle.fair_semantics.specs.Step.{Arrival, Setting, State, Stepped, body_at, body_of, by_choice, definitions_of, entry_with, fair_step, firing_of, is_refused, is_running, messages_with, live_with, recorded, running_step, step_by}
use Rattle.fair_semantics.proofs.ListLemmas.{each_at}
use Rattle.fair_semantics.proofs.TakenLemmas.{or_parts}
use Rattle.schedule_law.proofs.WorkLemmas.{AreSmall}
use Rattle.actor_turn.specs.Held.{new_entries, posts_behind, posts_for}
use Rattle.actor_turn.specs.Sent.{delivered, post_of, sent_by}
use Rattle.actor_turn.proofs.PostsLemmas.{fired_posts, no_posts, unfired_posts}
use Rattle.pool_settling.specs.Work.{late_sum}

-- ---- a body makes a post at most with each statement

module _ (messages : List Message) (taken : List ℕ) (stamp : ℕ) where
  one_post : (s : Statement) → length (sent_by stamp (statement_effects messages taken s)) ≤ 1
  one_post (statement.Print items) = omega arith
  one_post (statement.Post target kind operands) = omega arith
  one_post statement.Stop = omega arith
  one_post (statement.Reply pattern operand) = omega arith

  posts_few : (body : List Statement) → length (sent_by stamp (effects_of messages taken body)) ≤ length body
  posts_few [] = omega arith
  posts_few (s ∷ body) =
      let parts = filter_map-append (post_of stamp) (statement_effects messages taken s) (effects_of messages taken body) in
      let long = length-append (sent_by stamp (statement_effects messages taken s)) (sent_by stamp (effects_of messages taken body)) in
      let one = one_post s in
      let more = posts_few body in
      subst (λ (ps : List (ℕ × Stamped)). length ps ≤ length (s ∷ body)) (sym parts) (omega arith)

-- ---- sums

pub sum_set : {X : Type 0} (f : X → ℕ) (xs : List X) (k : ℕ) (x y : X) → slice_get xs k ≡ Some x → sum_by f (set xs k y) + f x ≡ sum_by f xs + f y
sum_set f [] k x y e = absurd cc
sum_set f (z ∷ xs) zero x y e =
    let same : z ≡ x = cc in
    let a = sum_by-cons f y xs in
    let b = sum_by-cons f z xs in
    let c = ap f same in
    omega (arith, a, b, c)
sum_set f (z ∷ xs) (suc k) x y e =
    let later = sum_set f xs k x y e in
    let a = sum_by-cons f z (set xs k y) in
    let b = sum_by-cons f z xs in
    omega (arith, later, a, b)

abbrev count_of : List (List Stamped) → ℕ
count_of outbox = sum_by length outbox

one_more : (outbox : List (List Stamped)) (target : ℕ) (post : Stamped) → count_of (set outbox target (posts_for outbox target ++ post ∷ [])) ≤ count_of outbox + 1
one_more [] target post = omega arith
one_more (ps ∷ outbox) zero post =
    let a = sum_by-cons {X = List Stamped} length (ps ++ post ∷ []) outbox in
    let b = sum_by-cons {X = List Stamped} length ps outbox in
    let c = length-append ps (post ∷ []) in
    omega (arith, a, b, c)
one_more (ps ∷ outbox) (suc target) post =
    let later = one_more outbox target post in
    let a = sum_by-cons {X = List Stamped} length ps (set outbox target (posts_for outbox target ++ post ∷ [])) in
    let b = sum_by-cons {X = List Stamped} length ps outbox in
    omega (arith, later, a, b)

all_more : (sent : List (ℕ × Stamped)) (outbox : List (List Stamped)) → count_of (delivered sent outbox) ≤ count_of outbox + length sent
all_more [] outbox = omega arith
all_more (s ∷ sent) outbox =
    let here = one_more outbox s.0 s.1 in
    let later = all_more sent (set outbox s.0 (posts_for outbox s.0 ++ s.1 ∷ [])) in
    omega (arith, here, later)

-- ---- a late message

raised_most : (b : Bool) (n : ℕ) → (if b then n + 1 else n) ≤ n + 1
raised_most true n = omega arith
raised_most false n = omega arith

raised_sum : (counts : List ℕ) (place : ℕ) → sum_by (λ (n : ℕ). n) (raised_at counts place) ≤ sum_by (λ (n : ℕ). n) counts + 1
raised_sum [] place = omega arith
raised_sum (n ∷ counts) zero =
    let one = raised_most (nat_lt n (2 ^ 64 - 1)) n in
    let a = sum_by-cons (λ (m : ℕ). m) (raised n) counts in
    let b = sum_by-cons (λ (m : ℕ). m) n counts in
    omega (arith, one, a, b)
raised_sum (n ∷ counts) (suc place) =
    let later = raised_sum counts place in
    let a = sum_by-cons (λ (m : ℕ). m) n (raised_at counts place) in
    let b = sum_by-cons (λ (m : ℕ). m) n counts in
    omega (arith, later, a, b)

late_one_more : (late : Late) (source : Source) → late_sum (late_more late source) ≤ late_sum late + 1
late_one_more late (Feed k) = let more = raised_sum late.feeds (k - 1) in omega (arith, more)
late_one_more late (Actor a) = let more = raised_sum late.actors a in omega (arith, more)

-- ---- a step

small_body : (rules : List Rule) (rule : ℕ) → AreSmall rules → length (body_at rules rule) ≤ 16
small_body rules rule small = by (slice_get rules (rule - 1)) refl
  where
    by : (o : Option Rule) → slice_get rules (rule - 1) ≡ o → length (body_of o) ≤ 16
    by None e = omega arith
    by (Some r) e = each_at (λ (x : Rule). length x.body ≤ 16) rules (rule - 1) r e small

module _ (setting : Setting) (small : AreSmall setting.rules) (outbox : List (List Stamped)) where
  abbrev most : ℕ
  most = setting.limits.arrivals

  -- with the posts of the new entries, no more work is left
  abbrev AddsNoWork : State → State → Type 0
  AddsNoWork before after = count_of (posts_behind 0 (new_entries before after) outbox) + 17 * (most - length after.entries) ≤ count_of outbox + 17 * (most - length before.entries)

  -- and with the messages that were given, at most one more
  abbrev AddsOne : State → State → Type 0
  AddsOne before after =
      length after.entries + late_sum after.late + (count_of (posts_behind 0 (new_entries before after) outbox) + 17 * (most - length after.entries))
      ≤ length before.entries + late_sum before.late + (count_of outbox + 17 * (most - length before.entries)) + 1

  -- a message was late, or was recorded, where there was room, with 16 posts at most
  pub record IsLate (before after : State) : Type 0 where
    pub entries : after.entries ≡ before.entries
    pub late : late_sum after.late ≤ late_sum before.late + 1

  pub record IsRecorded (before after : State) : Type 0 where
    pub entry : Entry
    pub entries : after.entries ≡ before.entries ++ entry ∷ []
    pub late : after.late ≡ before.late
    pub room : length before.entries < most
    pub few : count_of (posts_behind 0 (entry ∷ []) outbox) ≤ count_of outbox + 16

  none_new : (before after : State) → IsLate before after → AddsNoWork before after × AddsOne before after
  none_new before after is =
      let none : new_entries before after ≡ [] = ap (drop (length before.entries)) is.entries ∙ nothing before.entries in
      let boxes : count_of (posts_behind 0 (new_entries before after) outbox) ≡ count_of outbox = ap (λ (es : List Entry). count_of (posts_behind 0 es outbox)) none ∙ ap count_of (sym (no_posts 0 outbox)) in
      let n : length after.entries ≡ length before.entries = ap length is.entries in
      let late = is.late in
      (omega (arith, boxes, n), omega (arith, boxes, n, late))
    where
      nothing : (xs : List Entry) → drop (length xs) xs ≡ []
      nothing [] = refl
      nothing (x ∷ xs) = nothing xs

  one_new : (before after : State) → IsRecorded before after → AddsNoWork before after × AddsOne before after
  one_new before after is =
      let one : new_entries before after ≡ is.entry ∷ [] = ap (drop (length before.entries)) is.entries ∙ drop-append_seam before.entries (is.entry ∷ []) in
      let boxes : count_of (posts_behind 0 (new_entries before after) outbox) ≡ count_of (posts_behind 0 (is.entry ∷ []) outbox) = ap (λ (es : List Entry). count_of (posts_behind 0 es outbox)) one in
      let n : length after.entries ≡ length before.entries + 1 = ap length is.entries ∙ length-append before.entries (is.entry ∷ []) in
      let late : late_sum after.late ≡ late_sum before.late = ap late_sum is.late in
      let room = is.room in
      let few = is.few in
      (omega (arith, boxes, n, room, few), omega (arith, boxes, n, late, room, few))

  fired_few : (arrival : Arrival) (c : Candidate) → count_of (posts_behind 0 (entry_with arrival (firing_of setting.rules (messages_with arrival) (Some c)) ∷ []) outbox) ≤ count_of outbox + 16
  fired_few arrival c =
      let firing : Firing = record { rule = c.rule; taken = c.taken; effects = effects_of (messages_with arrival) c.taken (body_at setting.rules c.rule) } in
      let entry : Entry = entry_with arrival (Some firing) in
      let few : length (sent_by entry.stamp firing.effects) ≤ length (body_at setting.rules c.rule) = posts_few (messages_with arrival) c.taken entry.stamp (body_at setting.rules c.rule) in
      let body = small_body setting.rules c.rule small in
      let all = all_more (sent_by entry.stamp firing.effects) outbox in
      let is : count_of (delivered (sent_by entry.stamp firing.effects) outbox) ≡ count_of (posts_behind 0 (entry ∷ []) outbox) = ap count_of (fired_posts entry firing entry.stamp outbox refl refl) in
      omega (arith, few, body, all, is)

  unfired_few : (arrival : Arrival) → count_of (posts_behind 0 (entry_with arrival None ∷ []) outbox) ≤ count_of outbox + 16
  unfired_few arrival = let is : count_of outbox ≡ count_of (posts_behind 0 (entry_with arrival None ∷ []) outbox) = ap count_of (unfired_posts 0 (entry_with arrival None) outbox refl) in omega (arith, is)

  recorded_one : (arrival : Arrival) (o : Option Candidate) → length arrival.state.entries < most → IsRecorded arrival.state (by_choice setting arrival o).0
  recorded_one arrival None room = by (nat_lt setting.limits.partials (partial_count (messages_with arrival) (live_with arrival) (definitions_of setting.rules)))
    where
      by : (b : Bool) → let stepped : Stepped = if b then (recorded arrival None [] ending.Jammed, outcome.Jammed) else (recorded arrival None (live_with arrival) ending.Running, outcome.Kept) in IsRecorded arrival.state stepped.0
      by true = record { entry = entry_with arrival None; entries = refl; late = refl; room = room; few = unfired_few arrival }
      by false = record { entry = entry_with arrival None; entries = refl; late = refl; room = room; few = unfired_few arrival }
  recorded_one arrival (Some c) room = by (stops (body_at setting.rules c.rule))
    where
      firing : Option Firing
      firing = firing_of setting.rules (messages_with arrival) (Some c)

      by : (b : Bool) → IsRecorded arrival.state (if b then recorded arrival firing [] ending.Stopped else recorded arrival firing (without (live_with arrival) c.taken) ending.Running)
      by true = record { entry = entry_with arrival firing; entries = refl; late = refl; room = room; few = fired_few arrival c }
      by false = record { entry = entry_with arrival firing; entries = refl; late = refl; room = room; few = fired_few arrival c }

  adds : (state : State) (source : Source) (message : Message) (stamp : ℕ) → AddsNoWork state (fair_step setting state source message stamp).0 × AddsOne state (fair_step setting state source message stamp).0
  adds state source message stamp = by (is_running state.ending)
    where
      running : (b : Bool) → is_refused setting state message stamp ≡ b → AddsNoWork state (running_step b setting state source message stamp).0 × AddsOne state (running_step b setting state source message stamp).0
      running true e = none_new state (running_step true setting state source message stamp).0 record { entries = refl; late = late_one_more state.late source }
      running false e =
          let arrival : Arrival = record { state = state; source = source; message = message; stamp = stamp } in
          let full : nat_le setting.limits.arrivals (length state.entries) ≡ false = (or_parts _ _ e).0 in
          let room : length state.entries < setting.limits.arrivals = grind (arith, nat_tests) in
          let chosen : Option Candidate = choice (messages_with arrival) (live_with arrival) (definitions_of setting.rules) in
          one_new state (by_choice setting arrival chosen).0 (recorded_one arrival chosen room)

      by : (b : Bool) → AddsNoWork state (step_by b setting state source message stamp).0 × AddsOne state (step_by b setting state source message stamp).0
      by false = none_new state (step_by false setting state source message stamp).0 record { entries = refl; late = late_one_more state.late source }
      by true = running (is_refused setting state message stamp) refl

  pub step_work : (state : State) (source : Source) (message : Message) (stamp : ℕ) → AddsNoWork state (fair_step setting state source message stamp).0
  step_work state source message stamp = (adds state source message stamp).0

  pub step_weight : (state : State) (source : Source) (message : Message) (stamp : ℕ) → AddsOne state (fair_step setting state source message stamp).0
  step_weight state source message stamp = (adds state source message stamp).1
