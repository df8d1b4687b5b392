-- Actors that stand by what came and went: a post that was taken, and one that arrived.
use Rattle.std.proofs.Common.{◌≡◌, ◌∙◌, ◌⊎◌, inl, inr, ℕ, zero, suc, ◌+◌, ◌-◌, ◌*◌, ◌<◌, ◌≤◌, List, [], ◌∷◌, ◌++◌, length, set, Bool, true, false, None, Some, slice_get, refl, ap, sym, subst, arith, append_assoc}
use Rattle.std.specs.Prelude.{if◌then◌else◌, ◌==◌, ◌&&◌, ◌||◌}
use Rattle.std.specs.List.{AllByRecursion, sum_by}
use Rattle.std.proofs.lemmas.Bool.{cases_lt}
use Rattle.std.proofs.lemmas.List.{length-set}
use Rattle.std.proofs.lemmas.Option.{slice_get-get_or, slice_get_within}
use mathlib.Core.List.{IsPrefix}
use Rattle.join_base.specs.declared.message.Source.{Source}
use Rattle.join_base.specs.declared.message.Source.TheVariants.{Actor}
use Rattle.join_base.specs.declared.message.Stamped.{Stamped}
use Rattle.script_types.specs.declared.plan.Rule.{Rule}
use Rattle.fair_semantics.specs.Step.{Setting, State}
use Rattle.fair_semantics.specs.Linked.{same_source}
use Rattle.run_order_law.proofs.EventLemmas.{same_number}
use Rattle.run_order_law.proofs.SourceLemmas.{is_itself}
use Rattle.actor_turn.specs.Held.{Held, History, first_of, new_entries, posts_behind, posts_for, without_first}
use Rattle.actor_turn.proofs.PostsLemmas.{length-posts_behind}
use Rattle.actor_cells.specs.Lawful.{IsAmong}
use Rattle.actor_cells.proofs.CellLemmas.{prefix-refl}
use Rattle.pool_settling.specs.Standing.{HistoryGoesOn, StandsBy, actor_count, feed_count}
use Rattle.pool_settling.specs.Ends.{GoOn}
use Rattle.pool_settling.specs.Rounds.{AreMembers, Brings, BringsPosts, Came, IsMember, OutboxHasNone, StandAs, StandFed}
use Rattle.pool_settling.specs.Work.{all_weight, all_work, given_of, late_sum, weight_of, work_of}
use Rattle.pool_settling.proofs.EndLemmas.{go_refl, go_trans, same_or_not, set_get, set_get_other, set_or, set_or_other, some_is}
use Rattle.pool_settling.proofs.StandLemmas.{Steps, on_refl, stepped, stepped_on, stepped_weight}
use Rattle.pool_settling.proofs.WorkLemmas.{step_work, sum_set}

-- ---- one actor of a list

pub there : {X : Type 0} (xs : List X) (k : ℕ) → k < length xs → (x : X) × (slice_get xs k ≡ Some x)
there [] k l = absurd (omega arith)
there (x ∷ xs) zero l = (x, refl)
there (x ∷ xs) (suc k) l = there xs k (omega (arith, l))

module _ (helds : List Held) (k : ℕ) (before after : Held) (at : slice_get helds k ≡ Some before) where
  abbrev nows : List Held
  nows = set helds k after

  -- what holds of the others and of the one that changed holds of each
  pub each_set : (P : ℕ → Held → Type 0) → ((actor : ℕ) (held : Held) → ¬ (actor ≡ k) → slice_get helds actor ≡ Some held → P actor held) → P k after → (actor : ℕ) (held : Held) → slice_get nows actor ≡ Some held → P actor held
  each_set P others mine actor held is = by (same_or_not actor k)
    where
      by : (actor ≡ k) ⊎ (¬ (actor ≡ k)) → P actor held
      by (inr other) = others actor held other (sym (set_get_other helds k actor after other) ∙ is)
      by (inl e) =
          let is_after : after ≡ held = some_is after held (sym (set_get helds k after (slice_get_within helds k before at)) ∙ ap (slice_get nows) (sym e) ∙ is) in
          subst (λ (x : ℕ × Held). P x.0 x.1) (λ i. (sym e i, is_after i)) mine

  pub go_set : HistoryGoesOn before after → GoOn helds nows
  go_set on = record { count = length-set helds k after; each = λ actor x y ex ey. each_set (λ actor held. (x : Held) → slice_get helds actor ≡ Some x → HistoryGoesOn x held) others mine actor y ey x ex }
    where
      others : (actor : ℕ) (held : Held) → ¬ (actor ≡ k) → slice_get helds actor ≡ Some held → (x : Held) → slice_get helds actor ≡ Some x → HistoryGoesOn x held
      others actor held other is x ex = subst (HistoryGoesOn x) (some_is x held (sym ex ∙ is)) (on_refl x)

      mine : (x : Held) → slice_get helds k ≡ Some x → HistoryGoesOn x after
      mine x ex = subst (λ (h : Held). HistoryGoesOn h after) (some_is before x (sym at ∙ ex)) on

  pub members_set : AreMembers helds → HistoryGoesOn before after → length after.outbox ≡ length before.outbox → AreMembers nows
  members_set members on boxes =
      subst (λ (n : ℕ). (actor : ℕ) (held : Held) → slice_get nows actor ≡ Some held → IsMember n held) (sym (length-set helds k after))
      (each_set (λ actor held. IsMember (length helds) held) (λ actor held other is. members actor held is) record {
        outboxes = boxes ∙ (members k before at).outboxes;
        known = on.actors ∙ (members k before at).known;
        small = subst (λ (s : Setting). AllByRecursion (λ (rule : Rule). length rule.body ≤ 16) s.rules) (sym on.told) (members k before at).small;
      })

  pub work_set : all_work nows + work_of before ≡ all_work helds + work_of after
  work_set = sum_set work_of helds k before after at

  pub weight_set : all_weight nows + weight_of before ≡ all_weight helds + weight_of after
  weight_set = sum_set weight_of helds k before after at

-- ---- pointwise

pub stands_to : (came now : Source → List Stamped) (went gone : ℕ → List Stamped) (held : Held) → ((source : Source) → now source ≡ came source) → ((target : ℕ) → gone target ≡ went target) → StandsBy came went held → StandsBy now gone held
stands_to came now went gone held c w = subst (λ (p : (Source → List Stamped) × (ℕ → List Stamped)). StandsBy p.0 p.1 held) (λ i. (λ source. sym (c source) i, λ target. sym (w target) i))

-- ---- an arrival

module _ (source : Source) (post : Stamped) (before after : Held) (step : Steps source post before after) where
  pub step_boxes : length after.outbox ≡ length before.outbox
  step_boxes = ap length step.outbox ∙ length-posts_behind 0 (new_entries before.state after.state) before.outbox

  pub step_less : AllByRecursion (λ (rule : Rule). length rule.body ≤ 16) before.setting.rules → work_of after ≤ work_of before
  step_less small =
      let work : sum_by length (posts_behind 0 (new_entries before.state after.state) before.outbox) + 17 * (before.setting.limits.arrivals - length after.state.entries) ≤ work_of before =
      subst (λ (s : State). sum_by length (posts_behind 0 (new_entries before.state s) before.outbox) + 17 * (before.setting.limits.arrivals - length s.entries) ≤ work_of before) (sym step.state)
      (step_work before.setting small before.outbox before.state source post.message post.stamp) in
      let boxes : sum_by length after.outbox ≡ sum_by length (posts_behind 0 (new_entries before.state after.state) before.outbox) = ap (λ (o : List (List Stamped)). sum_by length o) step.outbox in
      let limit : after.setting.limits.arrivals ≡ before.setting.limits.arrivals = ap (λ (s : Setting). s.limits.arrivals) step.told in
      omega (arith, work, boxes, limit)

-- ---- a post that was taken

pub other_is : (j k : ℕ) → ¬ (k ≡ j) → (j == k) ≡ false
other_is j k o = by (j == k) refl
  where
    by : (b : Bool) → (j == k) ≡ b → b ≡ false
    by true e = absurd (o (sym (same_number j k e)))
    by false e = refl

not_other : (j k : ℕ) → (j == k) ≡ false → ¬ (k ≡ j)
not_other j k e same = let clash : true ≡ false = sym (is_itself j) ∙ ap (λ (n : ℕ). j == n) (sym same) ∙ e in absurd cc

-- the first of the posts for a target was taken, and these are left
pub record Takes (target : ℕ) (post : Stamped) (posts : List Stamped) (before after : Held) : Type 0 where
  pub setting : after.setting ≡ before.setting
  pub state : after.state ≡ before.state
  pub history : after.history ≡ before.history
  pub outbox : after.outbox ≡ set before.outbox target posts
  pub waits : posts_for before.outbox target ≡ post ∷ posts

pub takes_first : (target : ℕ) (post : Stamped) (before after : Held) → Some post ≡ first_of (posts_for before.outbox target) → after ≡ without_first before target (posts_for before.outbox target) → (posts : List Stamped) × Takes target post posts before after
takes_first target post before after first taken = by (posts_for before.outbox target) refl first taken
  where
    by : (ps : List Stamped) → posts_for before.outbox target ≡ ps → Some post ≡ first_of ps → after ≡ without_first before target ps → (posts : List Stamped) × Takes target post posts before after
    by [] e f t = absurd cc
    by (p ∷ posts) e f t =
        let same : p ≡ post = cc in
        (posts, record { setting = ap (λ (h : Held). h.setting) t; state = ap (λ (h : Held). h.state) t; history = ap (λ (h : Held). h.history) t; outbox = ap (λ (h : Held). h.outbox) t; waits = e ∙ ap (λ (x : Stamped). x ∷ posts) same })

-- none was there, and nothing changed
pub takes_none : (target : ℕ) (before after : Held) → None ≡ first_of (posts_for before.outbox target) → after ≡ without_first before target (posts_for before.outbox target) → (after ≡ before) × (posts_for before.outbox target ≡ [])
takes_none target before after first taken = by (posts_for before.outbox target) refl first taken
  where
    by : (ps : List Stamped) → posts_for before.outbox target ≡ ps → None ≡ first_of ps → after ≡ without_first before target ps → (after ≡ before) × (posts_for before.outbox target ≡ [])
    by [] e f t = (t, e)
    by (p ∷ posts) e f t = absurd cc

module _ (target : ℕ) (post : Stamped) (posts : List Stamped) (before after : Held) (takes : Takes target post posts before after) where
  took_on : HistoryGoesOn before after
  took_on = record {
    told = takes.setting;
    feeds = ap (λ (s : State). length s.late.feeds) takes.state;
    actors = ap (λ (s : State). length s.late.actors) takes.state;
    history = subst (IsPrefix before.history) (sym takes.history) (prefix-refl before.history);
  }

  took_boxes : length after.outbox ≡ length before.outbox
  took_boxes = ap length takes.outbox ∙ length-set before.outbox target posts

  module _ (within : target < length before.outbox) where
    took_work : work_of after + 1 ≡ work_of before
    took_work =
        let at : slice_get before.outbox target ≡ Some (post ∷ posts) = slice_get-get_or before.outbox target [] within ∙ ap (λ (ps : List Stamped). Some ps) takes.waits in
        let sums = sum_set {X = List Stamped} length before.outbox target (post ∷ posts) posts at in
        let boxes : sum_by length after.outbox ≡ sum_by length (set before.outbox target posts) = ap (λ (o : List (List Stamped)). sum_by length o) takes.outbox in
        let limit : after.setting.limits.arrivals ≡ before.setting.limits.arrivals = ap (λ (s : Setting). s.limits.arrivals) takes.setting in
        let count : length after.state.entries ≡ length before.state.entries = ap (λ (s : State). length s.entries) takes.state in
        omega (arith, sums, boxes, limit, count)

    took_weight : weight_of after + 1 ≡ weight_of before
    took_weight = let given : given_of after ≡ given_of before = ap (λ (s : State). length s.entries + late_sum s.late) takes.state in let work = took_work in omega (arith, given, work)

    module _ (came : Source → List Stamped) (went : ℕ → List Stamped) (stands : StandsBy came went before) where
      abbrev gone : ℕ → List Stamped
      gone other = if target == other then went other ++ post ∷ [] else went other

      left : (other : ℕ) (b : Bool) → (target == other) ≡ b → (if b then went other ++ post ∷ [] else went other) ++ posts_for (set before.outbox target posts) other ≡ went other ++ posts_for before.outbox other
      left other true e =
          let same : target ≡ other = same_number target other e in
          append_assoc (went other) (post ∷ []) (posts_for (set before.outbox target posts) other)
          ∙ ap (λ (ps : List Stamped). went other ++ post ∷ ps) (ap (posts_for (set before.outbox target posts)) (sym same) ∙ set_or before.outbox target posts [] within)
          ∙ ap (λ (ps : List Stamped). went other ++ ps) (sym takes.waits ∙ ap (posts_for before.outbox) same)
      left other false e = ap (λ (ps : List Stamped). went other ++ ps) (set_or_other before.outbox target other posts [] (not_other target other e))

      took_stands : StandsBy came gone after
      took_stands =
          subst (λ (x : ((Setting × State) × History) × List (List Stamped)). StandsBy came gone (record { setting = x.0.0.0; state = x.0.0.1; history = x.0.1; trees = after.trees; outbox = x.1; lent = after.lent }))
          (λ i. (((sym takes.setting i, sym takes.state i), sym takes.history i), sym takes.outbox i)) record {
            outboxes = length-set before.outbox target posts ∙ stands.outboxes;
            known = stands.known;
            in_order = stands.in_order;
            late = stands.late;
            history = stands.history;
            fair = stands.fair;
            posted = λ other l. left other (target == other) refl ∙ stands.posted other l;
          }

-- ---- a post that was brought

and_false : (b : Bool) → (b && false) ≡ false
and_false true = refl
and_false false = refl

and_true : (b : Bool) → (b && true) ≡ b
and_true true = refl
and_true false = refl

abbrev pub one_came : Came → Source → ℕ → Stamped → Came
one_came came source target post actor other = if same_source source other && (target == actor) then came actor other ++ post ∷ [] else came actor other

-- to another nothing came, and to the target this
pub came_other : (came : Came) (source : Source) (target : ℕ) (post : Stamped) (actor : ℕ) → ¬ (actor ≡ target) → (other : Source) → one_came came source target post actor other ≡ came actor other
came_other came source target post actor o other =
    ap (λ (b : Bool). if same_source source other && b then came actor other ++ post ∷ [] else came actor other) (other_is target actor o)
    ∙ ap (λ (b : Bool). if b then came actor other ++ post ∷ [] else came actor other) (and_false (same_source source other))

pub came_here : (came : Came) (source : Source) (target : ℕ) (post : Stamped) (other : Source) → one_came came source target post target other ≡ (if same_source source other then came target other ++ post ∷ [] else came target other)
came_here came source target post other =
    ap (λ (b : Bool). if same_source source other && b then came target other ++ post ∷ [] else came target other) (is_itself target)
    ∙ ap (λ (b : Bool). if b then came target other ++ post ∷ [] else came target other) (and_true (same_source source other))

module _ (helds : List Held) (members : AreMembers helds) (sender target : ℕ) (before after b : Held) (post : Stamped) (posts : List Stamped) (within : target < length helds) (at : slice_get helds sender ≡ Some before) (takes : Takes target post posts before after)
    (here : slice_get (set helds sender after) target ≡ Some b) where
  abbrev mid : List Held
  mid = set helds sender after

  mid_members : AreMembers mid
  mid_members = members_set helds sender before after at members (took_on target post posts before after takes) (took_boxes target post posts before after takes)

  pub from_known : IsAmong (feed_count b) (actor_count b) (Actor sender)
  from_known =
      let l = slice_get_within helds sender before at in
      let n = length-set helds sender after in
      let known = (mid_members target b here).known in
      omega (arith, l, n, known)

  module _ (c : Held) (step : Steps (Actor sender) post b c) where
    abbrev last : List Held
    last = set mid target c

    step_on : HistoryGoesOn b c
    step_on = stepped_on (Actor sender) post b c step

    on : GoOn helds last
    on = go_trans helds mid last (go_set helds sender before after at (took_on target post posts before after takes)) (go_set mid target b c here step_on)

    less : all_work last < all_work helds
    less =
        let first = work_set helds sender before after at in
        let second = work_set mid target b c here in
        let box : target < length before.outbox = subst (λ (n : ℕ). target < n) (sym (members sender before at).outboxes) within in
        let taken = took_work target post posts before after takes box in
        let arrived = step_less (Actor sender) post b c step (mid_members target b here).small in
        omega (arith, first, second, taken, arrived)

    lighter : all_weight last ≤ all_weight helds
    lighter =
        let first = weight_set helds sender before after at in
        let second = weight_set mid target b c here in
        let box : target < length before.outbox = subst (λ (n : ℕ). target < n) (sym (members sender before at).outboxes) within in
        let taken = took_weight target post posts before after takes box in
        let arrived = stepped_weight (Actor sender) post b c step (mid_members target b here).small in
        omega (arith, first, second, taken, arrived)

    module _ (fed : ℕ → ℕ → List Stamped) (s : StandFed fed helds) where
      abbrev now : Came
      now = one_came s.came (Actor sender) target post

      mid_stand : StandAs s.came (λ actor other. now other (Actor actor)) mid
      mid_stand = each_set helds sender before after at (λ actor held. StandsBy (s.came actor) (λ other. now other (Actor actor)) held) others mine
        where
          others : (actor : ℕ) (held : Held) → ¬ (actor ≡ sender) → slice_get helds actor ≡ Some held → StandsBy (s.came actor) (λ other. now other (Actor actor)) held
          others actor held o is =
              stands_to (s.came actor) (s.came actor) (λ other. s.came other (Actor actor)) (λ other. now other (Actor actor)) held (λ source. refl)
              (λ other. ap (λ (x : Bool). if x && (target == other) then s.came other (Actor actor) ++ post ∷ [] else s.came other (Actor actor)) (other_is sender actor o)) (s.stand actor held is)

          mine : StandsBy (s.came sender) (λ other. now other (Actor sender)) after
          mine =
              let box : target < length before.outbox = subst (λ (n : ℕ). target < n) (sym (members sender before at).outboxes) within in
              stands_to (s.came sender) (s.came sender) (λ other. if target == other then s.came other (Actor sender) ++ post ∷ [] else s.came other (Actor sender)) (λ other. now other (Actor sender)) after (λ source. refl)
              (λ other. ap (λ (x : Bool). if x && (target == other) then s.came other (Actor sender) ++ post ∷ [] else s.came other (Actor sender)) (is_itself sender))
              (took_stands target post posts before after takes box (s.came sender) (λ other. s.came other (Actor sender)) (s.stand sender before at))

      stand : StandAs now (λ actor other. now other (Actor actor)) last
      stand = each_set mid target b c here (λ actor held. StandsBy (now actor) (λ other. now other (Actor actor)) held)
          (λ actor held o is. stands_to (s.came actor) (now actor) (λ other. now other (Actor actor)) (λ other. now other (Actor actor)) held (came_other s.came (Actor sender) target post actor o) (λ other. refl) (mid_stand actor held is))
          (stepped (Actor sender) post b c step (s.came target) (now target) (λ other. now other (Actor target)) (mid_stand target b here) from_known (came_here s.came (Actor sender) target post))

      stand_fed : StandFed fed last
      stand_fed = record { came = now; from_feeds = λ actor feed l. s.from_feeds actor feed (subst (λ (n : ℕ). actor < n) on.count l); stand = stand }

    pub post_brought : Brings true helds last
    post_brought = record {
      posts = record { fed = stand_fed; members = members_set mid target b c here mid_members step_on (step_boxes (Actor sender) post b c step); on = on; work = omega (arith, less); weight = lighter };
      less = λ e. less;
      same = λ e. absurd cc;
    }

-- ---- one after the other

pub posts_refl : (helds : List Held) → AreMembers helds → BringsPosts helds helds
posts_refl helds members = record { fed = λ fed s. s; members = members; on = go_refl helds; work = omega arith; weight = omega arith }

pub posts_trans : (a b c : List Held) → BringsPosts a b → BringsPosts b c → BringsPosts a c
posts_trans a b c p q =
    let first = p.work in
    let second = q.work in
    let third = p.weight in
    let fourth = q.weight in
    record { fed = λ fed s. q.fed fed (p.fed fed s); members = q.members; on = go_trans a b c p.on q.on; work = omega (arith, first, second); weight = omega (arith, third, fourth) }

pub brings_none : (helds : List Held) → AreMembers helds → Brings false helds helds
brings_none helds members = record { posts = posts_refl helds members; less = λ e. absurd cc; same = λ e. refl }

pub brings_more : (f g : Bool) (a b c : List Held) → Brings f a b → Brings g b c → Brings (f || g) a c
brings_more f g a b c p q = record { posts = posts_trans a b c p.posts q.posts; less = less f g p.less q.less; same = same f g p.same q.same }
  where
    less : (f g : Bool) → (f ≡ true → all_work b < all_work a) → (g ≡ true → all_work c < all_work b) → (f || g) ≡ true → all_work c < all_work a
    less true g h k e = let l = h refl in let m = q.posts.work in omega (arith, l, m)
    less false true h k e = let l = k refl in let m = p.posts.work in omega (arith, l, m)
    less false false h k e = absurd cc

    same : (f g : Bool) → (f ≡ false → b ≡ a) → (g ≡ false → c ≡ b) → (f || g) ≡ false → c ≡ a
    same true g h k e = absurd cc
    same false true h k e = absurd cc
    same false false h k e = k refl ∙ h refl

pub neither : (f g : Bool) → (f || g) ≡ false → (f ≡ false) × (g ≡ false)
neither false false e = (refl, refl)
neither false true e = absurd cc
neither true g e = absurd cc

-- where nothing was found so far and nothing here, it is so of one place more
pub all_below : (P : List Held → ℕ → Type 0) (f g : Bool) (b c : List Held) (place : ℕ) → (g ≡ false → c ≡ b) → (f ≡ false → (k : ℕ) → k < place → P b k) → (g ≡ false → P c place) → (f || g) ≡ false → (k : ℕ) → k < place + 1 → P c k
all_below P f g b c place same before here e k l = by (cases_lt k place)
  where
    none : (f ≡ false) × (g ≡ false)
    none = neither f g e

    by : (k < place) ⊎ (place ≤ k) → P c k
    by (inl m) = subst (λ (hs : List Held). P hs k) (sym (same none.1)) (before none.0 k m)
    by (inr m) = let is : place ≡ k = omega (arith, l, m) in subst (P c) is (here none.1)

-- ---- none that could be taken

set_same : {X : Type 0} (xs : List X) (k : ℕ) (x : X) → slice_get xs k ≡ Some x → set xs k x ≡ xs
set_same [] k x e = refl
set_same {X} (y ∷ xs) zero x e = let same : x ≡ y = cc in ap (λ (z : X). z ∷ xs) same
set_same {X} (y ∷ xs) (suc k) x e = ap (λ (zs : List X). y ∷ zs) (set_same xs k x e)

module _ (helds : List Held) (sender target : ℕ) (before after : Held) (at : slice_get helds sender ≡ Some before) (first : None ≡ first_of (posts_for before.outbox target)) (taken : after ≡ without_first before target (posts_for before.outbox target)) where
  unchanged : set helds sender after ≡ helds
  unchanged = ap (set helds sender) (takes_none target before after first taken).0 ∙ set_same helds sender before at

  pub none_brought : AreMembers helds → Brings false helds (set helds sender after)
  none_brought members = subst (Brings false helds) (sym unchanged) (brings_none helds members)

  pub none_waits : OutboxHasNone (set helds sender after) sender target
  none_waits held is =
      let same : before ≡ held = some_is before held (sym at ∙ ap (λ (hs : List Held). slice_get hs sender) (sym unchanged) ∙ is) in
      ap (λ (h : Held). posts_for h.outbox target) (sym same) ∙ (takes_none target before after first taken).1
