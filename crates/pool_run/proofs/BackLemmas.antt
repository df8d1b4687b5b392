-- From what threads gave back to what stands beside a run.
use Rattle.std.proofs.Common.{◌≡◌, ℕ, zero, suc, ◌+◌, ◌<◌, List, [], ◌∷◌, ◌++◌, All, length, map, refl, sym, ap, ◌∙◌, subst, arith, append_assoc}
use Rattle.std.specs.Prelude.{Some, slice_get}
use Rattle.std.specs.List.{AllZip}
use Rattle.std.proofs.lemmas.List.{append-nil, length-append, length-map, map-append}
use Rattle.std.proofs.lemmas.List.Elements.{All-append, All-cons, All-head, All-map, All-nil, All-tail, All-weaker}
use Rattle.std.proofs.lemmas.Option.{slice_get_within}
use Rattle.join_base.specs.declared.message.Message.{Message}
use Rattle.script_types.specs.declared.plan.Plan.{Plan}
use Rattle.fair_semantics.specs.declared.run.Limits.{Limits}
use Rattle.fair_semantics.specs.declared.run.Run.{Run}
use Rattle.fair_semantics.specs.Fair.{setting_of}
use Rattle.fair_semantics.specs.Step.{Setting}
use Rattle.turn_lock.specs.View.{HasSeenAll, seen_of}
use Rattle.actor_cells.specs.declared.cell.CellTag.{CellTag}
use Rattle.actor_cells.specs.History.{history_shown}
use Rattle.actor_cells.specs.Tags.{AreTagsOf}
use Rattle.actor_pool.specs.declared.helper.Helper.{Helper}
use Rattle.actor_pool.specs.declared.pool.Pool.{Pool}
use Rattle.actor_pool.specs.declared.poster.Poster.{Poster}
use Rattle.actor_pool.specs.Beside.{Fitting, FitsSeen, setting_in}
use Rattle.actor_pool.specs.Helpers.{SeatView}
use Rattle.actor_pool.proofs.BesideLemmas.{Grows, fits-later}
use Rattle.pool_run.specs.declared.parts.FeedPart.{FeedPart}
use Rattle.pool_run.specs.declared.parts.HelperBack.{HelperBack}
use Rattle.pool_run.specs.declared.parts.Returned.{Returned}
use Rattle.pool_run.specs.declared.parts.WorkPart.{WorkPart}
use Rattle.pool_run.specs.Finishing.{AreSent, GoesOnFromSeen}
use Rattle.pool_run.specs.Parts.{AreReturned, FitsLater, HasTags, IsBack, IsFed, IsJoinable, part_helper, worker_helper}
use Rattle.pool_run.specs.Running.{FitsRun}
use Rattle.pool_run.proofs.RunLemmas.{zip-on}

-- ---- helpers that come back

module _ {B : Type 0} (p : Pool) (fits : Fitting B) where
  zip-count : (given : List Helper) (back : List (HelperBack B)) → AllZip (IsBack p fits) given back → length back ≡ length given
  zip-count [] [] all = refl
  zip-count [] (b ∷ back) all = absurd all
  zip-count (h ∷ given) [] all = absurd all
  zip-count (h ∷ given) (b ∷ back) all = ap suc (zip-count given back all.1)

  zip-joinable : (known : List CellTag) (given : List Helper) (back : List (HelperBack B)) → AllZip (IsBack p fits) given back → All (HasTags known) given → All (IsJoinable p fits known) back
  zip-joinable known [] [] all has = All-nil (IsJoinable p fits known)
  zip-joinable known [] (b ∷ back) all has = absurd all
  zip-joinable known (h ∷ given) [] all has = absurd all
  zip-joinable known (h ∷ given) (b ∷ back) all has =
      let one = all.0 in
      All-cons (IsJoinable p fits known) b back (record { spare = one.spare; tags = one.tags ∙ All-head (HasTags known) h given has; seen = one.seen })
      (zip-joinable known given back all.1 (All-tail (HasTags known) h given has))

module _ {S B : Type 0} (p : Pool) (fits : Fitting B) where
  -- no worker is left
  pub workers-none : (crew : List (WorkPart S B)) (back : List (HelperBack B)) → length crew ≡ 0 → back ≡ [] → AllZip (IsBack p fits) (map worker_helper crew) back
  workers-none [] back none empty = subst (AllZip (IsBack p fits) []) (sym empty) tt
  workers-none (part ∷ crew) back none empty = absurd (omega (arith, none))

  -- one worker more is back
  pub workers-more : (crew left : List (WorkPart S B)) (part : WorkPart S B) (back now : List (HelperBack B)) (own : HelperBack B) → crew ≡ left ++ part ∷ [] → now ≡ back ++ own ∷ []
      → AllZip (IsBack p fits) (map worker_helper left) back → IsBack p fits part.helper own → AllZip (IsBack p fits) (map worker_helper crew) now
  workers-more crew left part back now own last more before one =
      zip-on (IsBack p fits) (map worker_helper left) (map worker_helper crew) back now part.helper own (ap (map worker_helper) last ∙ map-append worker_helper left (part ∷ [])) more before one

  -- no feed is left
  pub returned-none : (parts : List (FeedPart B)) (crew : List (WorkPart S B)) (back : Returned B) → length parts ≡ 0 → back.posters.items ≡ [] → AllZip (IsBack p fits) (map worker_helper crew) back.helpers.items
      → AreReturned p fits parts crew back
  returned-none [] crew back none empty helped = record {
    fed = subst (AllZip (IsFed {B = B} p) []) (sym empty) tt;
    helped = subst (λ (l : List Helper). AllZip (IsBack p fits) l back.helpers.items) (sym (append-nil (map worker_helper crew))) helped;
  }
  returned-none (part ∷ parts) crew back none empty helped = absurd (omega (arith, none))

  -- one feed more came back
  pub returned-more : (parts left : List (FeedPart B)) (part : FeedPart B) (crew : List (WorkPart S B)) (back now : Returned B) (poster : Poster) (own : HelperBack B) → parts ≡ left ++ part ∷ [] → AreReturned p fits left crew back
      → IsFed p part poster → IsBack p fits part.helper own → now.posters.items ≡ back.posters.items ++ poster ∷ [] → now.helpers.items ≡ back.helpers.items ++ own ∷ [] → AreReturned p fits parts crew now
  returned-more parts left part crew back now poster own last before fed one posters helpers =
      let workers = map worker_helper crew in
      let given : workers ++ map part_helper parts ≡ (workers ++ map part_helper left) ++ part.helper ∷ [] =
      ap (λ (l : List Helper). workers ++ l) (ap (map part_helper) last ∙ map-append part_helper left (part ∷ [])) ∙ sym (append_assoc workers (map part_helper left) (part.helper ∷ [])) in
      record {
        fed = zip-on (IsFed p) left parts back.posters.items now.posters.items part poster last posters before.fed fed;
        helped = zip-on (IsBack p fits) (workers ++ map part_helper left) (workers ++ map part_helper parts) back.helpers.items now.helpers.items part.helper own given helpers before.helped one;
      }

  -- as many helpers came back as were given
  pub returned-count : (parts : List (FeedPart B)) (crew : List (WorkPart S B)) (back : Returned B) → AreReturned p fits parts crew back → length back.helpers.items ≡ length crew + length parts
  returned-count parts crew back all =
      let given = zip-count p fits (map worker_helper crew ++ map part_helper parts) back.helpers.items all.helped in
      let both = length-append (map worker_helper crew) (map part_helper parts) in
      let first = length-map crew worker_helper in
      let second = length-map parts part_helper in
      omega (arith, given, both, first, second)

  -- they may be joined to the first helper
  pub joinable : (parts : List (FeedPart B)) (crew : List (WorkPart S B)) (back : Returned B) (a b known : List CellTag) → AreReturned p fits parts crew back
      → All (λ (part : FeedPart B). HasTags a part.helper) parts → a ≡ known → All (λ (part : WorkPart S B). HasTags b part.helper) crew → b ≡ known → All (IsJoinable p fits known) back.helpers.items
  joinable parts crew back a b known all feeds same workers alike =
      let here : All (HasTags known) (map part_helper parts) = All-map (HasTags known) part_helper parts (subst (λ (tags : List CellTag). All (λ (part : FeedPart B). HasTags tags part.helper) parts) same feeds) in
      let there : All (HasTags known) (map worker_helper crew) = All-map (HasTags known) worker_helper crew (subst (λ (tags : List CellTag). All (λ (part : WorkPart S B). HasTags tags part.helper) crew) alike workers) in
      zip-joinable p fits known (map worker_helper crew ++ map part_helper parts) back.helpers.items all.helped (All-append (HasTags known) (map worker_helper crew) (map part_helper parts) there here)

-- ---- what stands beside

tag-at : (tags : List CellTag) (i : ℕ) → i < length tags → (tag : CellTag) × (slice_get tags i ≡ Some tag)
tag-at [] i lt = absurd (omega (arith, lt))
tag-at (tag ∷ tags) zero lt = (tag, refl)
tag-at (tag ∷ tags) (suc i) lt = tag-at tags i (omega (arith, lt))

module _ {B : Type 0} (fits : Fitting B) (grows : Grows fits) where
  -- all that is kept fits what a helper has seen later
  pub all-later : (kept : List B) (v w : SeatView) → w.tags ≡ v.tags → HasSeenAll v w → All (FitsSeen fits v) kept → All (FitsSeen fits w) kept
  all-later kept v w tags seen all = All-weaker (FitsSeen fits v) (FitsSeen fits w) (λ (one : B) fit. fits-later fits grows one v w tags seen fit) kept all

  -- and all that goes on from there
  pub all-lasting : (kept : List B) (v : SeatView) → All (FitsSeen fits v) kept → All (FitsLater fits v) kept
  all-lasting kept v all =
      All-weaker (FitsSeen fits v) (FitsLater fits v) (λ (one : B) fit actor tag at history on. grows one actor (setting_in tag) (seen_of v actor) history on (fit actor tag at)) kept all

module _ {B : Type 0} (fits : Fitting B) where
  -- what fits all that a helper has seen fits a run that goes on from there
  pub run-fits : (plan : Plan) (limits : Limits) (count : ℕ) (posters : List Poster) (feeds : List (List (ℕ × Message))) (v : SeatView) (run : Run) (kept : B) → AreTagsOf plan limits count v.tags → length run.actors ≡ length plan.actors
      → AreSent plan posters feeds → GoesOnFromSeen plan posters v run → FitsLater fits v kept → FitsRun fits plan limits feeds run kept
  run-fits plan limits feed_count posters feeds v run kept tags actors sent on fit actor own at =
      let within = slice_get_within run.actors actor own at in
      let count = tags.count in
      let found = tag-at v.tags actor (omega (arith, within, count, actors)) in
      let is = tags.each actor found.0 found.1 in
      let same : setting_in found.0 ≡ setting_of plan actor limits = λ i. record { sorts = is.sorts i; rules = is.rules i; limits = is.same_limits i } in
      subst (λ (s : Setting). fits kept actor s (history_shown feeds run actor own)) same (fit actor found.0 found.1 (history_shown feeds run actor own) (on.history feeds sent actor own at))

  pub all-fit : (plan : Plan) (limits : Limits) (count : ℕ) (posters : List Poster) (feeds : List (List (ℕ × Message))) (v : SeatView) (run : Run) (kept : List B) → AreTagsOf plan limits count v.tags → length run.actors ≡ length plan.actors
      → AreSent plan posters feeds → GoesOnFromSeen plan posters v run → All (FitsLater fits v) kept → All (FitsRun fits plan limits feeds run) kept
  all-fit plan limits count posters feeds v run kept tags actors sent on all =
      All-weaker (FitsLater fits v) (FitsRun fits plan limits feeds run) (λ (one : B) fit. run-fits plan limits count posters feeds v run one tags actors sent on fit) kept all
