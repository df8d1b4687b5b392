-- A step of a system at which something waits leaves less work, so that nothing waits in the end.
use Rattle.std.proofs.Common.{◌≡◌, ◌∙◌, ℕ, zero, suc, ◌+◌, ◌*◌, ◌<◌, ◌≤◌, List, [], ◌∷◌, ◌++◌, length, map, take, Bool, true, false, Option, None, Some, slice_get, append_assoc, refl, ap, sym, subst, arith}
use Rattle.std.specs.Prelude.{if◌then◌else◌, ◌||◌, Contains}
use Rattle.std.specs.List.{AllByRecursion, flat_map, sum_by}
use Rattle.std.proofs.lemmas.Nat.{mul-le}
use Rattle.std.proofs.lemmas.List.{take_all}
use Rattle.std.proofs.lemmas.List.Sums.{sum_by_push}
use Rattle.join_base.specs.declared.message.Stamped.{Stamped}
use Rattle.join_base.specs.declared.message.Source.{Source}
use Rattle.script_types.specs.declared.plan.Plan.{Plan}
use Rattle.script_types.specs.Typed.{IsTyped}
use Rattle.fair_semantics.specs.declared.run.Limits.{Limits}
use Rattle.fair_semantics.specs.Linked.{numbers_from, sources}
use Rattle.fair_semantics.specs.Schedule.{System, scheduled_step, taking}
use Rattle.fair_semantics.proofs.ListLemmas.{each_append}
use Rattle.schedule_law.specs.WorkLeft.{most_work, work_left}
use Rattle.schedule_law.proofs.BoundLemmas.{reached_work}
use Rattle.schedule_law.proofs.WorkLemmas.{steps_leave_less}
use Rattle.actor_system.specs.Serving.{Link, Served, ServedInPart, Serving, MadeStepsInPart, after_link, after_links, in_steps, is_some_post, links_of, links_to, or_same, some_taken, some_waits, system_in, waits_on}
use Rattle.actor_system.specs.Inside.{IsSound}
use Rattle.actor_system.proofs.LinkLemmas.{served_both, take_next, taken_where_waits}

abbrev one_if : Bool → ℕ
one_if b = if b then 1 else 0

-- ---- along links

module _ (plan : Plan) (limits : Limits) (feeds : ℕ) (typed : IsTyped plan) where
  -- of an actor of the plan and a source of the run
  abbrev IsKnown : Link → Type 0
  IsKnown link = (link.0 < length plan.actors) × Contains (sources feeds (length plan.actors)) link.1

  abbrev work : System → ℕ
  work system = work_left plan limits feeds system

  link_leaves : (system : System) (link : Link) → IsKnown link → work (after_link plan limits system link) + one_if (waits_on system link) ≤ work system
  link_leaves system link known = by (system.waiting link.1 link.0) refl
    where
      by : (posts : List Stamped) → system.waiting link.1 link.0 ≡ posts → work_left plan limits feeds (or_same system (taking plan limits system link.0 link.1 (system.waiting link.1 link.0))) + one_if (is_some_post (system.waiting link.1 link.0)) ≤ work_left plan limits feeds system
      by [] is = subst (λ (ps : List Stamped). work_left plan limits feeds (or_same system (taking plan limits system link.0 link.1 ps)) + one_if (is_some_post ps) ≤ work_left plan limits feeds system) (sym is) (omega arith)
      by (post ∷ rest) is = stepped (taking plan limits system link.0 link.1 (post ∷ rest)) refl
        where
          stepped : (o : Option System) → taking plan limits system link.0 link.1 (post ∷ rest) ≡ o
              → work_left plan limits feeds (or_same system (taking plan limits system link.0 link.1 (system.waiting link.1 link.0))) + one_if (is_some_post (system.waiting link.1 link.0)) ≤ work_left plan limits feeds system
          stepped None e = absurd cc
          stepped (Some next) e =
              let step : scheduled_step plan limits system (link.0, link.1) ≡ Some next = ap (taking plan limits system link.0 link.1) is ∙ e in
              let less = steps_leave_less plan limits feeds system next link.0 link.1 typed known.0 known.1 step in
              subst (λ (ps : List Stamped). work_left plan limits feeds (or_same system (taking plan limits system link.0 link.1 ps)) + one_if (is_some_post ps) ≤ work_left plan limits feeds system) (sym is)
              (subst (λ (o : Option System). work_left plan limits feeds (or_same system o) + 1 ≤ work_left plan limits feeds system) (sym e) (omega (arith, less)))

  links_leave : (links : List Link) (system : System) → AllByRecursion IsKnown links → work (after_links plan limits system links) + one_if (some_taken plan limits system links) ≤ work system
  links_leave [] system each = omega arith
  links_leave (link ∷ links) system each = by (waits_on system link) (some_taken plan limits (after_link plan limits system link) links) (link_leaves system link each.0) (links_leave links (after_link plan limits system link) each.1)
    where
      by : (b c : Bool) → work (after_link plan limits system link) + one_if b ≤ work system → work (after_links plan limits (after_link plan limits system link) links) + one_if c ≤ work (after_link plan limits system link)
          → work (after_links plan limits (after_link plan limits system link) links) + one_if (b || c) ≤ work system
      by true true here later = omega (arith, here, later)
      by true false here later = omega (arith, here, later)
      by false true here later = omega (arith, here, later)
      by false false here later = omega (arith, here, later)

-- ---- a serving

known_to : (plan : Plan) (feeds target : ℕ) → target < length plan.actors → (front behind : List Source) → front ++ behind ≡ sources feeds (length plan.actors)
    → AllByRecursion (λ (link : Link). (link.0 < length plan.actors) × Contains (sources feeds (length plan.actors)) link.1) (map (λ source. (target, source)) behind)
known_to plan feeds target l front [] is = tt
known_to plan feeds target l front (source ∷ behind) is =
    ((l, subst (λ (xs : List Source). Contains xs source) is (here front)), known_to plan feeds target l (front ++ source ∷ []) behind (append_assoc front (source ∷ []) behind ∙ is))
  where
    here : (xs : List Source) → Contains (xs ++ source ∷ behind) source
    here [] = (0, omega arith, refl)
    here (x ∷ xs) = let r = here xs in (suc r.0, omega (arith, r.1), r.2)

module _ (s : Serving) where
  abbrev pub work_of : ℕ
  work_of = work_left s.plan s.limits (length s.feeds) (system_in s)

  links_known : (start count : ℕ) → start + count ≤ length s.plan.actors
      → AllByRecursion (λ (link : Link). (link.0 < length s.plan.actors) × Contains (sources (length s.feeds) (length s.plan.actors)) link.1) (flat_map (links_to s) (numbers_from start count))
  links_known start zero l = tt
  links_known start (suc count) l =
      each_append (λ (link : Link). (link.0 < length s.plan.actors) × Contains (sources (length s.feeds) (length s.plan.actors)) link.1) (links_to s start) (flat_map (links_to s) (numbers_from (start + 1) count))
      (known_to s.plan (length s.feeds) start (omega (arith, l)) [] (sources (length s.feeds) (length s.plan.actors)) refl) (links_known (start + 1) count (omega (arith, l)))

  step_leaves : IsTyped s.plan → work_left s.plan s.limits (length s.feeds) (after_links s.plan s.limits (system_in s) (links_of s)) + one_if (some_waits s) ≤ work_of
  step_leaves typed =
      let each = links_known 0 (length s.plan.actors) (omega arith) in
      let less = links_leave s.plan s.limits (length s.feeds) typed (links_of s) (system_in s) each in
      subst (λ (b : Bool). work_left s.plan s.limits (length s.feeds) (after_links s.plan s.limits (system_in s) (links_of s)) + one_if b ≤ work_of) (taken_where_waits s.plan s.limits (system_in s) (links_of s)) less

  -- where no work is left, nothing waits
  pub none_left : IsTyped s.plan → work_of ≤ 0 → some_waits s ≡ false
  none_left typed none = by (some_waits s) (step_leaves typed)
    where
      by : (b : Bool) → work_left s.plan s.limits (length s.feeds) (after_links s.plan s.limits (system_in s) (links_of s)) + one_if b ≤ work_left s.plan s.limits (length s.feeds) (system_in s) → b ≡ false
      by true less = absurd (omega (arith, less, none))
      by false less = refl

-- where something waited, a step leaves less
pub served_less : (before after : Serving) → IsTyped before.plan → Served before (links_of before) after → some_waits before ≡ true → work_of after + 1 ≤ work_of before
served_less before after typed served waits =
    let less = step_leaves before typed in
    let some = ap one_if waits in
    let same : work_of after ≡ work_left before.plan before.limits (length before.feeds) (after_links before.plan before.limits (system_in before) (links_of before)) =
    λ i. work_left (served.same_plan i) (served.same_limits i) (length (served.same_feeds i)) (served.system_is i) in
    omega (arith, less, some, same)

-- what may be left at any time
pub most_left : (s : Serving) → IsSound s → work_of s ≤ most_work s.plan s.limits s.feeds
most_left s sound = reached_work s.plan s.limits s.feeds sound.can.typed (system_in s) sound.reached

-- ---- how many steps there may be

pub fed_more : {X : Type 0} (f : X → ℕ) (xs : List X) (k : ℕ) (x : X) → slice_get xs k ≡ Some x → sum_by f (take (k + 1) xs) ≡ sum_by f (take k xs) + f x
fed_more f xs k x is = ap (sum_by f) (take_next xs k x is) ∙ sum_by_push f (take k xs) x

small_product : (n x : ℕ) → n ≤ 32 → n * x ≤ 32 * x
small_product n x l = mul-le n x 32 x l (omega arith)

pub most_of : (s : Serving) → IsSound s → (posts feed : ℕ) → posts ≡ sum_by length (take feed s.feeds) → length s.feeds ≤ feed → work_of s ≤ 32 * (posts + 17 * s.limits.arrivals)
most_of s sound posts feed is l =
    let all : posts ≡ sum_by length s.feeds = is ∙ ap (sum_by length) (take_all feed s.feeds l) in
    let most = most_left s sound in
    let few = small_product (length s.plan.actors) (sum_by length s.feeds + 17 * s.limits.arrivals) sound.can.typed.few_actors in
    omega (arith, all, most, few)

-- ---- some steps, one behind the other

same_all_links : (before now : Serving) (xs : List Link) → Served before xs now → links_of now ≡ links_of before
same_all_links before now xs served =
    let feeds = served.same_feeds in
    let plan = served.same_plan in
    λ i. flat_map (λ target. map (λ source. (target, source)) (sources (length (feeds i)) (length (plan i).actors))) (numbers_from 0 (length (plan i).actors))

pub step_more : (before now after : Serving) (k : ℕ) → Served before (in_steps k (links_of before)) now → Served now (links_of now) after → Served before (in_steps (k + 1) (links_of before)) after
step_more before now after k done one =
    let links : List Link = links_of before in
    let next : k + 1 ≡ suc k = omega arith in
    let same = subst (λ (ls : List Link). Served now ls after) (same_all_links before now (in_steps k links) done) one in
    subst (λ (n : ℕ). Served before (in_steps n links) after) (sym next) (served_both before now after (in_steps k links) links done same)

pub step_part : (before now after : Serving) (k : ℕ) → Served before (in_steps k (links_of before)) now → ServedInPart now (links_of now) after → MadeStepsInPart before after
step_part before now after k done part = record {
  steps = k;
  first = part.first;
  others = part.others;
  are = sym (same_all_links before now (in_steps k (links_of before)) done) ∙ part.are;
  served = served_both before now after (in_steps k (links_of before)) part.first done part.served;
}
