-- An actor that stands by what came and went, with one message more.
use Rattle.std.proofs.Common.{◌≡◌, ◌∙◌, ◌⊎◌, inl, inr, ℕ, zero, suc, ◌+◌, ◌-◌, ◌*◌, ◌<◌, ◌≤◌, List, [], ◌∷◌, ◌++◌, length, length-append, drop, Bool, true, false, refl, ap, sym, subst, arith, append_assoc}
use Rattle.std.specs.Prelude.{if◌then◌else◌}
use Rattle.std.specs.List.{AllByRecursion, flat_map, sum_by}
use Rattle.std.proofs.lemmas.List.{append-nil}
use Rattle.join_base.specs.declared.message.Source.{Source}
use Rattle.join_base.specs.declared.message.Stamped.{Stamped}
use Rattle.script_types.specs.declared.plan.Rule.{Rule}
use Rattle.fair_semantics.specs.declared.run.Entry.{Entry}
use Rattle.fair_semantics.specs.declared.run.Outcome.{Outcome}
use Rattle.fair_semantics.specs.Step.{Setting, State, fair_step}
use Rattle.fair_semantics.specs.Linked.{arrived, entry_posts, same_source, sources}
use Rattle.fair_semantics.proofs.SizeLemmas.{Sized, sized}
use Rattle.run_order_law.proofs.EventLemmas.{same_source_is}
use Rattle.post_ring.specs.declared.link_out.LinkOut.{LinkOut}
use Rattle.post_ring.specs.Links.{has_met, received, waiting}
use Rattle.post_ring.specs.Looks.{IsEmptyLook, IsTake}
use Rattle.actor_turn.specs.Held.{Held, history_with, new_entries, posts_behind, posts_for}
use Rattle.actor_turn.proofs.PostsLemmas.{length-posts_behind}
use Rattle.actor_cells.specs.Lawful.{IsAmong}
use Rattle.actor_cells.proofs.CellLemmas.{prefix-refl, prefix-trans}
use Rattle.actor_cells.proofs.HistoryLemmas.{history-more, history-on}
use Rattle.actor_cells.proofs.LinkLemmas.{among}
use Rattle.actor_cells.proofs.StateLemmas.{NoOthers, Stands, grows, one_none, one_of, stands_more}
use Rattle.pool_settling.specs.Standing.{Arrives, HistoryGoesOn, StandsBy, actor_count, came_with, feed_count}
use Rattle.pool_settling.specs.Work.{HasSmallBodies, late_sum, weight_of}
use Rattle.pool_settling.proofs.WorkLemmas.{step_weight}

-- ---- posts of entries

flat_map-append : (target : ℕ) (xs ys : List Entry) → flat_map (entry_posts target) (xs ++ ys) ≡ flat_map (entry_posts target) xs ++ flat_map (entry_posts target) ys
flat_map-append target [] ys = refl
flat_map-append target (x ∷ xs) ys = ap (λ (ps : List Stamped). entry_posts target x ++ ps) (flat_map-append target xs ys) ∙ sym (append_assoc (entry_posts target x) (flat_map (entry_posts target) xs) (flat_map (entry_posts target) ys))

behind_at : (from : ℕ) (new : List Entry) (outbox : List (List Stamped)) (k : ℕ) → k < length outbox → posts_for (posts_behind from new outbox) k ≡ posts_for outbox k ++ flat_map (entry_posts (from + k)) new
behind_at from new [] k within = absurd (omega arith)
behind_at from new (ps ∷ outbox) zero within = ap (λ (n : ℕ). ps ++ flat_map (entry_posts n) new) (let e : from ≡ from + 0 = omega arith in e)
behind_at from new (ps ∷ outbox) (suc k) within =
    behind_at (from + 1) new outbox k (omega arith) ∙ ap (λ (n : ℕ). posts_for outbox k ++ flat_map (entry_posts n) new) (let e : from + 1 + k ≡ from + suc k = omega arith in e)

-- ---- an arrival

-- the actor did the fair step with a message
pub record Steps (source : Source) (post : Stamped) (before after : Held) : Type 0 where
  pub told : after.setting ≡ before.setting
  pub state : after.state ≡ (fair_step before.setting before.state source post.message post.stamp).0
  pub history : after.history ≡ history_with before source post.message post.stamp
  pub outbox : after.outbox ≡ posts_behind 0 (new_entries before.state after.state) before.outbox

pub steps_by : (source : Source) (post : Stamped) (before after : Held) (outcome : Outcome) → after.setting ≡ before.setting → fair_step before.setting before.state source post.message post.stamp ≡ (after.state, outcome)
    → after.history ≡ history_with before source post.message post.stamp → after.outbox ≡ posts_behind 0 (new_entries before.state after.state) before.outbox → Steps source post before after
steps_by source post before after outcome told step history outbox = record { told = told; state = sym (ap (λ (s : State × Outcome). s.0) step); history = history; outbox = outbox }

module _ (source : Source) (post : Stamped) (before after : Held) (step : Steps source post before after) where
  size : Sized (feed_count before) (actor_count before) (fair_step before.setting before.state source post.message post.stamp).0.late
  size = sized (feed_count before) (actor_count before) before.setting ((source, post) ∷ []) before.state (refl, refl)

  feeds : feed_count after ≡ feed_count before
  feeds = ap (λ (s : State). length s.late.feeds) step.state ∙ size.0

  actors : actor_count after ≡ actor_count before
  actors = ap (λ (s : State). length s.late.actors) step.state ∙ size.1

  abbrev new : List Entry
  new = (grows before.setting before.state source post).new

  entries : after.state.entries ≡ before.state.entries ++ new
  entries = ap (λ (s : State). s.entries) step.state ∙ (grows before.setting before.state source post).are

  boxes : after.outbox ≡ posts_behind 0 new before.outbox
  boxes = step.outbox ∙ ap (λ (es : List Entry). posts_behind 0 es before.outbox) (ap (λ (s : State). drop (length before.state.entries) s.entries) step.state ∙ (grows before.setting before.state source post).behind)

  pub stepped_on : HistoryGoesOn before after
  stepped_on = record { told = step.told; feeds = feeds; actors = actors; history = history-on before source post.message post.stamp after.history step.history }

  -- at most one more was given, with what is left
  pub stepped_weight : HasSmallBodies before → weight_of after ≤ weight_of before + 1
  stepped_weight small =
      let most = step_weight before.setting small before.outbox before.state source post.message post.stamp in
      let now = subst (λ (s : State). length s.entries + late_sum s.late + (sum_by length (posts_behind 0 (new_entries before.state s) before.outbox) + 17 * (before.setting.limits.arrivals - length s.entries)) ≤ weight_of before + 1) (sym step.state) most in
      let outboxes : sum_by length after.outbox ≡ sum_by length (posts_behind 0 (new_entries before.state after.state) before.outbox) = ap (λ (o : List (List Stamped)). sum_by length o) step.outbox in
      let limit : after.setting.limits.arrivals ≡ before.setting.limits.arrivals = ap (λ (s : Setting). s.limits.arrivals) step.told in
      omega (arith, now, outboxes, limit)

  module _ (came now : Source → List Stamped) (went : ℕ → List Stamped) (stands : StandsBy came went before) (from : IsAmong (feed_count before) (actor_count before) source)
      (more : (other : Source) → now other ≡ (if same_source source other then came other ++ post ∷ [] else came other)) where
    none : NoOthers before.setting (feed_count before) (actor_count before) came
    none other n = by (stands.known other)
      where
        by : (came other ≡ []) ⊎ IsAmong (feed_count before) (actor_count before) other → came other ≡ []
        by (inl e) = e
        by (inr a) = absurd (one_none other (sources (feed_count before) (actor_count before)) (one_of (feed_count before) (actor_count before) other (among (feed_count before) (actor_count before) other a)) n)

    before_stands : Stands before.setting (feed_count before) (actor_count before) came before.state
    before_stands = record { in_order = stands.in_order; late = stands.late; fair = stands.fair }

    state : Stands before.setting (feed_count before) (actor_count before) now (fair_step before.setting before.state source post.message post.stamp).0
    state =
        stands_more before.setting (feed_count before) (actor_count before) came now before.state before_stands none source post
        (among (feed_count before) (actor_count before) source from) more

    now_history : after.history ≡ arrived now after.state.entries
    now_history =
        subst (λ (s : State). after.history ≡ arrived now s.entries) (sym step.state)
        (history-more before.setting (feed_count before) (actor_count before) came now before.state before_stands none source post more before.history after.history stands.history step.history)

    now_known : (other : Source) → (now other ≡ []) ⊎ IsAmong (feed_count before) (actor_count before) other
    now_known other = by (same_source source other) refl (more other) (stands.known other)
      where
        by : (b : Bool) → same_source source other ≡ b → now other ≡ (if b then came other ++ post ∷ [] else came other) → (came other ≡ []) ⊎ IsAmong (feed_count before) (actor_count before) other → (now other ≡ []) ⊎ IsAmong (feed_count before) (actor_count before) other
        by true same e k = inr (subst (IsAmong (feed_count before) (actor_count before)) (same_source_is source other same) from)
        by false same e (inl n) = inl (e ∙ n)
        by false same e (inr a) = inr a

    now_posted : (target : ℕ) → target < actor_count before → went target ++ posts_for after.outbox target ≡ flat_map (entry_posts target) after.state.entries
    now_posted target within =
        let at : posts_for after.outbox target ≡ posts_for before.outbox target ++ flat_map (entry_posts target) new =
        ap (λ (o : List (List Stamped)). posts_for o target) boxes ∙ behind_at 0 new before.outbox target (subst (λ (n : ℕ). target < n) (sym stands.outboxes) within) ∙ ap (λ (n : ℕ). posts_for before.outbox target ++ flat_map (entry_posts n) new) (let e : 0 + target ≡ target = omega arith in e) in
        ap (λ (ps : List Stamped). went target ++ ps) at ∙ sym (append_assoc (went target) (posts_for before.outbox target) (flat_map (entry_posts target) new))
        ∙ ap (λ (ps : List Stamped). ps ++ flat_map (entry_posts target) new) (stands.posted target within) ∙ sym (flat_map-append target before.state.entries new) ∙ ap (flat_map (entry_posts target)) (sym entries)

    pub stepped : StandsBy now went after
    stepped =
        let s : Stands after.setting (feed_count after) (actor_count after) now after.state = subst (λ (x : Setting × ℕ × ℕ × State). Stands x.0 x.1 x.2 now x.3) (λ i. (sym step.told i, sym feeds i, sym actors i, sym step.state i)) state in
        record {
          outboxes = ap length boxes ∙ length-posts_behind 0 new before.outbox ∙ stands.outboxes ∙ sym actors;
          known = subst (λ (x : ℕ × ℕ). (other : Source) → (now other ≡ []) ⊎ IsAmong x.0 x.1 other) (λ i. (sym feeds i, sym actors i)) now_known;
          in_order = s.in_order;
          late = s.late;
          history = now_history;
          fair = s.fair;
          posted = λ target within. now_posted target (subst (λ (n : ℕ). target < n) actors within);
        }

-- ---- some arrivals

pub on_refl : (held : Held) → HistoryGoesOn held held
on_refl held = record { told = refl; feeds = refl; actors = refl; history = prefix-refl held.history }

pub on_trans : (a b c : Held) → HistoryGoesOn a b → HistoryGoesOn b c → HistoryGoesOn a c
on_trans a b c p q = record { told = q.told ∙ p.told; feeds = q.feeds ∙ p.feeds; actors = q.actors ∙ p.actors; history = prefix-trans a.history b.history c.history p.history q.history }

pub came_same : (came : Source → List Stamped) (source : Source) (those : List Stamped) → came source ≡ those → (other : Source) → came_with came source those other ≡ came other
came_same came source those e other = by (same_source source other) refl
  where
    by : (b : Bool) → same_source source other ≡ b → (if b then those else came other) ≡ came other
    by true same = sym e ∙ ap came (same_source_is source other same)
    by false same = refl

pub stands_same : (came now : Source → List Stamped) (went : ℕ → List Stamped) (held : Held) → ((other : Source) → now other ≡ came other) → StandsBy came went held → StandsBy now went held
stands_same came now went held same = subst (λ (c : Source → List Stamped). StandsBy c went held) (λ i other. sym (same other) i)

pub arrives_none : (source : Source) (those : List Stamped) (held : Held) → Arrives source those those held held
arrives_none source those held = record { stands = λ came went e a s. stands_same came (came_with came source those) went held (came_same came source those e) s; on = on_refl held; weight = λ small. omega arith }

pub arrives_more : (source : Source) (those these all : List Stamped) (post : Stamped) (a b c : Held) → Arrives source those these a b → Steps source post b c → all ≡ these ++ post ∷ [] → Arrives source those all a c
arrives_more source those these all post a b c arrives step more =
    record {
      stands = λ came went e from s.
          let mid = arrives.stands came went e from s in
          let among : IsAmong (feed_count b) (actor_count b) source = subst (λ (x : ℕ × ℕ). IsAmong x.0 x.1 source) (λ i. (sym arrives.on.feeds i, sym arrives.on.actors i)) from in
          stepped source post b c step (came_with came source these) (came_with came source all) went mid among (one came);
      on = on_trans a b c arrives.on (stepped_on source post b c step);
      weight = λ small.
          let so_far = arrives.weight small in
          let one = stepped_weight source post b c step (subst (λ (s : Setting). AllByRecursion (λ (rule : Rule). length rule.body ≤ 16) s.rules) (sym arrives.on.told) small) in
          let n = ap length more in
          let m = length-append these (post ∷ []) in
          omega (arith, so_far, one, n, m);
    }
  where
    one : (came : Source → List Stamped) (other : Source) → came_with came source all other ≡ (if same_source source other then came_with came source these other ++ post ∷ [] else came_with came source these other)
    one came other = by (same_source source other)
      where
        by : (b : Bool) → (if b then all else came other) ≡ (if b then (if b then these else came other) ++ post ∷ [] else (if b then these else came other))
        by true = more
        by false = refl

-- ---- takes

pub all_after : (a b : LinkOut) (m : Stamped) (all : List Stamped) → IsTake a b m → has_met a ≡ true → received a ++ waiting a ≡ all → received b ++ waiting b ≡ all
all_after a b m all take met before =
    ap (λ l. l ++ waiting b) take.taken ∙ append_assoc (received a) (m ∷ []) (waiting b) ∙ ap (λ l. received a ++ l) (sym (take.met met)) ∙ before

pub fewer_wait : (a b : LinkOut) (m : Stamped) → IsTake a b m → has_met a ≡ true → length (waiting b) < length (waiting a)
fewer_wait a b m take met = let n = ap length (take.met met) in omega (arith, n)

pub nothing_waits : (a b : LinkOut) (all : List Stamped) → IsEmptyLook a b → received a ++ waiting a ≡ all → received b ≡ all
nothing_waits a b all empty before = empty.taken ∙ sym (append-nil (received a)) ∙ ap (λ l. received a ++ l) (sym empty.none) ∙ before
