-- In a linked run an arrival's origin is the arrival whose firing posted it.
use Rattle.std.proofs.Common.{◌≡◌, ◌∙◌, inl, inr, ℕ, zero, suc, ◌+◌, ◌-◌, ◌<◌, ◌≤◌, Bool, true, false, cond, List, [], ◌∷◌, ◌++◌, length, map, take, Option, None, Some, slice_get, refl, sym, ap, subst, arith}
use Rattle.std.specs.Prelude.{◌==◌, ◌&&◌, Contains, if◌then◌else◌}
use Rattle.std.specs.List.{cons_option, count_by}
use Rattle.std.proofs.lemmas.Bool.{cases_lt, eq-eqb}
use Rattle.std.proofs.lemmas.Bool.Decides.{nat_tests}
use Rattle.std.proofs.lemmas.List.{length-map}
use Rattle.std.proofs.lemmas.List.Elements.{Contains-append_right}
use Rattle.std.proofs.lemmas.List.Sums.{sum_by-append, sum_by-cons}
use Rattle.std.proofs.lemmas.Option.{get_or_from_slice_get}
use Rattle.join_base.proofs.EachLemmas.{each_at}
use Rattle.join_base.specs.declared.message.Message.{Message}
use Rattle.join_base.specs.declared.message.Source.{Source}
use Rattle.join_base.specs.declared.message.Source.TheVariants.{Feed, Actor}
use Rattle.script_types.specs.declared.plan.Plan.{Plan}
use Rattle.fair_semantics.specs.declared.run.ActorRun.{ActorRun}
use Rattle.fair_semantics.specs.declared.run.Entry.{Entry}
use Rattle.fair_semantics.specs.declared.run.Limits.{Limits}
use Rattle.fair_semantics.specs.declared.run.Run.{Run}
use Rattle.fair_semantics.specs.Fits.{ActorRunFits, EntryFits, SourceFits}
use Rattle.fair_semantics.specs.Linked.{IsLinked, messages_of, numbers_from, posts_in, same_source, sources, taken_from}
use Rattle.fair_semantics.proofs.NumberLemmas.{count_numbers, get_numbers}
use Rattle.feed_causes.specs.Causes.{Arrived, arrivals, arrivals_from, at_actor, is_from, origin_by, origin_of, posters}
use Rattle.feed_causes.specs.Law.{IsPosted, OriginsPosted}
use Rattle.feed_causes.proofs.PosterLemmas.{get_behind, get_front, made_by}

-- ---- lists

take_front : {X : Type 0} (xs ys : List X) (k : ℕ) → k ≤ length xs → take k (xs ++ ys) ≡ take k xs
take_front xs ys zero few = refl
take_front [] ys (suc k) few = absurd (omega (arith, few))
take_front {X} (x ∷ xs) ys (suc k) few = ap (λ (zs : List X). x ∷ zs) (take_front xs ys k (omega (arith, few)))

take_behind : {X : Type 0} (xs ys : List X) (k : ℕ) → length xs ≤ k → take k (xs ++ ys) ≡ xs ++ take (k - length xs) ys
take_behind [] ys k many = let same : k ≡ k - 0 = omega arith in ap (λ (n : ℕ). take n ys) same
take_behind (x ∷ xs) ys zero many = absurd (omega (arith, many))
take_behind {X} (x ∷ xs) ys (suc k) many =
    let same : k - length xs ≡ suc k - suc (length xs) = omega arith in
    ap (λ (zs : List X). x ∷ zs) (take_behind xs ys k (omega (arith, many)) ∙ ap (λ (n : ℕ). xs ++ take n ys) same)

get_taken : {X : Type 0} (n : ℕ) (xs : List X) (k : ℕ) (x : X) → slice_get (take n xs) k ≡ Some x → slice_get xs k ≡ Some x
get_taken zero xs k x at = absurd cc
get_taken (suc n) [] k x at = absurd cc
get_taken (suc n) (y ∷ xs) zero x at = at
get_taken (suc n) (y ∷ xs) (suc k) x at = get_taken n xs k x at

get_at : (actor : ℕ) (entries : List Entry) (k : ℕ) (arrival : Arrived) → slice_get (map (at_actor actor) entries) k ≡ Some arrival → (actor ≡ arrival.0) × (slice_get entries k ≡ Some arrival.1)
get_at actor [] k arrival at = absurd cc
get_at actor (e ∷ entries) zero arrival at = let same : at_actor actor e ≡ arrival = cc in (ap (λ (a : Arrived). a.0) same, ap (λ (a : Arrived). Some a.1) same)
get_at actor (e ∷ entries) (suc k) arrival at = get_at actor entries k arrival at

take_map : (actor k : ℕ) (entries : List Entry) → take k (map (at_actor actor) entries) ≡ map (at_actor actor) (take k entries)
take_map actor zero entries = refl
take_map actor (suc k) [] = refl
take_map actor (suc k) (e ∷ entries) = ap (λ (es : List Arrived). at_actor actor e ∷ es) (take_map actor k entries)

-- ---- how many arrivals came from an actor

-- among those of the actor they came to
count_own : (from to : ℕ) (entries : List Entry) → count_by (is_from from to) (map (at_actor to) entries) ≡ length (taken_from (Actor from) entries)
count_own from to [] = refl
count_own from to (e ∷ entries) =
    sum_by-cons (λ (a : Arrived). cond (is_from from to a) 1 0) (at_actor to e) (map (at_actor to) entries)
    ∙ ap (λ (b : Bool). cond (b && same_source e.source (Actor from)) 1 0 + count_by (is_from from to) (map (at_actor to) entries)) (eq-eqb to to refl)
    ∙ by (same_source e.source (Actor from)) (count_own from to entries)
  where
    by : (b : Bool) → count_by (is_from from to) (map (at_actor to) entries) ≡ length (taken_from (Actor from) entries)
        → cond b 1 0 + count_by (is_from from to) (map (at_actor to) entries) ≡ length (cons_option (if b then Some e.message else None) (taken_from (Actor from) entries))
    by true later = omega (arith, later)
    by false later = omega (arith, later)

-- among those of another there is none
count_other : (from to actor : ℕ) (entries : List Entry) → (actor == to) ≡ false → count_by (is_from from to) (map (at_actor actor) entries) ≡ 0
count_other from to actor [] other = refl
count_other from to actor (e ∷ entries) other =
    let later = count_other from to actor entries other in
    let none : 0 + count_by (is_from from to) (map (at_actor actor) entries) ≡ 0 = omega (arith, later) in
    sum_by-cons (λ (a : Arrived). cond (is_from from to a) 1 0) (at_actor actor e) (map (at_actor actor) entries)
    ∙ ap (λ (b : Bool). cond (b && same_source e.source (Actor from)) 1 0 + count_by (is_from from to) (map (at_actor actor) entries)) other
    ∙ none

-- ---- where an arrival stands

-- it is an entry of an actor, and as many of its actor's came from another before it as among all arrivals
pub record Stands (actor : ℕ) (runs : List ActorRun) (place : ℕ) (arrival : Arrived) : Type 0 where
  pub k : ℕ
  pub own : ActorRun
  pub at : ℕ
  pub actor_is : arrival.0 ≡ actor + k
  pub own_is : slice_get runs k ≡ Some own
  pub there : slice_get own.entries at ≡ Some arrival.1
  pub counted : (from : ℕ) → count_by (is_from from arrival.0) (take place (arrivals_from actor runs)) ≡ length (taken_from (Actor from) (take at own.entries))

not_same : (j k : ℕ) → k < j → (k == j) ≡ false
not_same j k less = grind (arith, nat_tests)

module _ (actor : ℕ) (own : ActorRun) (runs : List ActorRun) (place : ℕ) (arrival : Arrived) where
  count : length (map (at_actor actor) own.entries) ≡ length own.entries
  count = length-map own.entries (at_actor actor)

  stands_first : place < length own.entries → slice_get ((map (at_actor actor) own.entries) ++ arrivals_from (actor + 1) runs) place ≡ Some arrival → Stands actor (own ∷ runs) place arrival
  stands_first less at =
      let within : place < length (map (at_actor actor) own.entries) = omega (arith, count, less) in
      let here = get_at actor own.entries place arrival (sym (get_front (map (at_actor actor) own.entries) (arrivals_from (actor + 1) runs) place within) ∙ at) in
      let here_is = here.0 in
      record {
        k = 0;
        own = own;
        at = place;
        actor_is = omega (arith, here_is);
        own_is = refl;
        there = here.1;
        counted = λ from.
            ap (λ (every : List Arrived). count_by (is_from from arrival.0) every) (take_front (map (at_actor actor) own.entries) (arrivals_from (actor + 1) runs) place (omega (arith, within)) ∙ take_map actor place own.entries)
            ∙ ap (λ (a : ℕ). count_by (is_from from arrival.0) (map (at_actor a) (take place own.entries))) here_is
            ∙ count_own from arrival.0 (take place own.entries);
      }

  stands_later : length own.entries ≤ place → Stands (actor + 1) runs (place - length own.entries) arrival → Stands actor (own ∷ runs) place arrival
  stands_later few later =
      let many : length (map (at_actor actor) own.entries) ≤ place = omega (arith, count, few) in
      let later_is = later.actor_is in
      record {
        k = suc later.k;
        own = later.own;
        at = later.at;
        actor_is = omega (arith, later_is);
        own_is = later.own_is;
        there = later.there;
        counted = λ from.
            ap (λ (every : List Arrived). count_by (is_from from arrival.0) every)
            (take_behind (map (at_actor actor) own.entries) (arrivals_from (actor + 1) runs) place many ∙ ap (λ (n : ℕ). (map (at_actor actor) own.entries) ++ take (place - n) (arrivals_from (actor + 1) runs)) count)
            ∙ sum_by-append (λ (a : Arrived). cond (is_from from arrival.0 a) 1 0) (map (at_actor actor) own.entries) (take (place - length own.entries) (arrivals_from (actor + 1) runs))
            ∙ ap (λ (n : ℕ). n + count_by (is_from from arrival.0) (take (place - length own.entries) (arrivals_from (actor + 1) runs)))
            (count_other from arrival.0 actor own.entries (not_same arrival.0 actor (omega (arith, later_is))))
            ∙ none_more (count_by (is_from from arrival.0) (take (place - length own.entries) (arrivals_from (actor + 1) runs)))
            ∙ later.counted from;
      }
    where
      none_more : (n : ℕ) → 0 + n ≡ n
      none_more n = omega arith

stands : (actor : ℕ) (runs : List ActorRun) (place : ℕ) (arrival : Arrived) → slice_get (arrivals_from actor runs) place ≡ Some arrival → Stands actor runs place arrival
stands actor [] place arrival at = absurd cc
stands actor (own ∷ runs) place arrival at = elim (cases_lt place (length own.entries)) [
  | inl less ↦ stands_first actor own runs place arrival less at
  | inr few ↦ stands_later actor own runs place arrival few (stands (actor + 1) runs (place - length own.entries) arrival (behind few))
]
  where
    behind : length own.entries ≤ place → slice_get (arrivals_from (actor + 1) runs) (place - length own.entries) ≡ Some arrival
    behind few =
        let count : length (map (at_actor actor) own.entries) ≡ length own.entries = length-map own.entries (at_actor actor) in
        ap (λ (n : ℕ). slice_get (arrivals_from (actor + 1) runs) (place - n)) (sym count)
        ∙ sym (get_behind (map (at_actor actor) own.entries) (arrivals_from (actor + 1) runs) place (omega (arith, count, few)))
        ∙ at

-- ---- what an actor took from another

taken_here : (from : ℕ) (entries : List Entry) (at : ℕ) (e : Entry) → slice_get entries at ≡ Some e → e.source ≡ Actor from → slice_get (taken_from (Actor from) entries) (length (taken_from (Actor from) (take at entries))) ≡ Some e.message
taken_here from [] at e is source = absurd cc
taken_here from (x ∷ entries) zero e is source =
    let same : x ≡ e = cc in
    ap (λ (b : Bool). slice_get (cons_option (if b then Some x.message else None) (taken_from (Actor from) entries)) 0) (ap (λ (s : Source). same_source s (Actor from)) (ap (λ (y : Entry). y.source) same ∙ source) ∙ eq-eqb from from refl)
    ∙ ap (λ (y : Entry). Some y.message) same
taken_here from (x ∷ entries) (suc at) e is source = by (same_source x.source (Actor from)) (taken_here from entries at e is source)
  where
    by : (b : Bool) → slice_get (taken_from (Actor from) entries) (length (taken_from (Actor from) (take at entries))) ≡ Some e.message
        → slice_get (cons_option (if b then Some x.message else None) (taken_from (Actor from) entries)) (length (cons_option (if b then Some x.message else None) (taken_from (Actor from) (take at entries)))) ≡ Some e.message
    by true later = later
    by false later = later

actor_among : (feeds actors from : ℕ) → from < actors → Contains (sources feeds actors) (Actor from)
actor_among feeds actors from less =
    let others : List Source = map (λ (k : ℕ). Feed k) (numbers_from 1 feeds) in
    let own : List Source = map (λ (a : ℕ). Actor a) (numbers_from 0 actors) in
    let count : length own ≡ actors = length-map (numbers_from 0 actors) (λ (a : ℕ). Actor a) ∙ count_numbers 0 actors in
    let same : 0 + from ≡ from = omega arith in
    let there : slice_get own from ≡ Some (Actor from) = get_numbers (λ (a : ℕ). Actor a) 0 actors from less ∙ ap (λ (a : ℕ). Some (Actor a)) same in
    Contains-append_right others own (Actor from) (from, omega (arith, count, less), get_or_from_slice_get own from (Actor from) (Actor from) there)

-- ---- the law

module _ (plan : Plan) (limits : Limits) (feeds : List (List (ℕ × Message))) (run : Run) (linked : IsLinked plan limits feeds run) (place from : ℕ) (arrival : Arrived) (at : slice_get (arrivals run) place ≡ Some arrival)
    (source : arrival.1.source ≡ Actor from) (s : Stands 0 run.actors place arrival) where
  own_fits : ActorRunFits plan run.version run.feeds s.own
  own_fits = each_at (ActorRunFits plan run.version run.feeds) run.actors s.k s.own s.own_is linked.fits_plan.each

  entry_fits : EntryFits plan run.version run.feeds arrival.1
  entry_fits = each_at (EntryFits plan run.version run.feeds) s.own.entries s.at arrival.1 s.there own_fits.entries

  sender : from < length plan.actors
  sender = subst (SourceFits plan run.feeds) source entry_fits.source

  -- the post behind as many as came before
  post : slice_get (messages_of (posts_in s.k (slice_get run.actors from))) (length (taken_from (Actor from) (take s.at s.own.entries))) ≡ Some arrival.1.message
  post =
      let order = (linked.each s.k s.own s.own_is).in_order (Actor from) (actor_among run.feeds (length plan.actors) from sender) in
      get_taken (length (taken_from (Actor from) s.own.entries)) (messages_of (posts_in s.k (slice_get run.actors from))) (length (taken_from (Actor from) (take s.at s.own.entries))) arrival.1.message
      (ap (λ (ms : List Message). slice_get ms (length (taken_from (Actor from) (take s.at s.own.entries)))) (sym order) ∙ taken_here from s.own.entries s.at arrival.1 s.there source)

  is_posted : IsPosted (arrivals run) place from arrival.0 arrival.1.message
  is_posted =
      let here : s.k ≡ arrival.0 = let is = s.actor_is in omega (arith, is) in
      let sent = subst (λ (to : ℕ). slice_get (messages_of (posts_in to (slice_get run.actors from))) (length (taken_from (Actor from) (take s.at s.own.entries))) ≡ Some arrival.1.message) here post in
      let made = made_by from arrival.0 0 0 run.actors from (length (taken_from (Actor from) (take s.at s.own.entries))) arrival.1.message (omega arith) sent in
      let found : 0 + made.at ≡ made.at = omega arith in
      record {
        origin = made.at;
        poster = made.poster;
        is =
            ap (λ (a : Option Arrived). origin_by (arrivals run) place a) at
            ∙ ap (λ (of : Source). origin_of (arrivals run) place arrival.0 of) source
            ∙ ap (λ (n : ℕ). slice_get (posters from arrival.0 0 (arrivals run)) n) (s.counted from)
            ∙ made.is
            ∙ ap (λ (n : ℕ). Some n) found;
        there = made.there;
        posts = made.posts;
      }

pub origins_posted : OriginsPosted
origins_posted plan limits feeds run linked place from arrival at source = is_posted plan limits feeds run linked place from arrival at source (stands 0 run.actors place arrival at)
