-- The order by stamps has the arrivals of each actor in their order, and ascends.
use Rattle.std.proofs.Common.{◌≡◌, ◌∙◌, inl, inr, ℕ, zero, suc, ◌+◌, ◌<◌, ◌≤◌, List, [], ◌∷◌, ◌++◌, length, map, Bool, true, false, cond, Option, None, Some, slice_get, refl, ap, sym, subst, arith}
use Rattle.std.specs.Prelude.{if◌then◌else◌, ◌==◌}
use Rattle.std.specs.List.{AllByRecursion, AllPairs, cons_option, filter, flat_map}
use Rattle.std.proofs.lemmas.List.{append-nil}
use Rattle.std.proofs.lemmas.List.Elements.{filter_map-append}
use Rattle.std.proofs.lemmas.Bool.{cases_lt}
use Rattle.pattern_core.specs.Members.{IsIn}
use Rattle.fair_semantics.specs.declared.run.Entry.{Entry}
use Rattle.fair_semantics.specs.declared.run.ActorRun.{ActorRun}
use Rattle.fair_semantics.specs.Linked.{numbers_from}
use Rattle.fair_semantics.specs.StampLaw.{arrivals_of}
use Rattle.fair_semantics.proofs.ListLemmas.{each_append, each_from}
use Rattle.fair_semantics.proofs.CountedLemmas.{same_number}
pub use Rattle.run_order_law.specs.Sorted.{entries_in}
use Rattle.run_order_law.specs.Sorted.{ComesFirst}
use Rattle.run_order_law.specs.Order.{by_stamp, of_each, entries_of_stamp}
use Rattle.run_order_law.proofs.EventLemmas.{for_actor, if_to}
use Rattle.run_order_law.proofs.SourceLemmas.{is_itself, not_equal}
use Rattle.run_order_law.proofs.RecordLemmas.{AreRising}
use Rattle.run_order_law.proofs.ListLemmas.{at_place}

-- ---- what each actor has

module _ {X : Type 0} where
  abbrev pub with_it : ℕ → X → (ℕ × X)
  with_it actor x = (actor, x)

  pub for_same : (actor other : ℕ) (xs : List X) → (actor == other) ≡ true → for_actor actor (map (with_it other) xs) ≡ xs
  for_same actor other [] e = refl
  for_same actor other (x ∷ xs) e = ap (λ (b : Bool). cons_option (if b then Some x else None) (for_actor actor (map (with_it other) xs))) e ∙ ap (λ (ys : List X). x ∷ ys) (for_same actor other xs e)

  pub for_other : (actor other : ℕ) (xs : List X) → (actor == other) ≡ false → for_actor actor (map (with_it other) xs) ≡ []
  for_other actor other [] e = refl
  for_other actor other (x ∷ xs) e = ap (λ (b : Bool). cons_option (if b then Some x else None) (for_actor actor (map (with_it other) xs))) e ∙ for_other actor other xs e

  -- what the actor has whose run this is
  abbrev pub had : (ℕ → ActorRun → List X) → ℕ → Option ActorRun → List X
  had has actor None = []
  had has actor (Some own) = has actor own

  module _ (has : ℕ → ActorRun → List X) where
    each_more : (actor from : ℕ) (own : ActorRun) (more : List ActorRun) → for_actor actor (of_each has from (own ∷ more)) ≡ for_actor actor (map (with_it from) (has from own)) ++ for_actor actor (of_each has (from + 1) more)
    each_more actor from own more = filter_map-append (if_to actor) (map (with_it from) (has from own)) (of_each has (from + 1) more)

    below_none : (actor from : ℕ) (runs : List ActorRun) → actor < from → for_actor actor (of_each has from runs) ≡ []
    below_none actor from [] l = refl
    below_none actor from (own ∷ more) l =
        each_more actor from own more ∙ (λ i. for_other actor from (has from own) (not_equal actor from (inl l)) i ++ below_none actor (from + 1) more (omega arith) i)

    for_each : (k actor from : ℕ) (runs : List ActorRun) → actor ≡ from + k → for_actor actor (of_each has from runs) ≡ had has actor (slice_get runs k)
    for_each k actor from [] e = refl
    for_each zero actor from (own ∷ more) e =
        let here : from ≡ actor = omega arith in
        let same : (actor == from) ≡ true = subst (λ (n : ℕ). (actor == n) ≡ true) (sym here) (is_itself actor) in
        each_more actor from own more ∙ (λ i. for_same actor from (has from own) same i ++ below_none actor (from + 1) more (omega arith) i) ∙ append-nil (has from own) ∙ ap (λ (n : ℕ). has n own) here
    for_each (suc k) actor from (own ∷ more) e =
        each_more actor from own more ∙ (λ i. for_other actor from (has from own) (not_equal actor from (inr (omega arith))) i ++ for_each k actor (from + 1) more (omega arith) i)

    pub for_run : (actor : ℕ) (runs : List ActorRun) → for_actor actor (of_each has 0 runs) ≡ had has actor (slice_get runs actor)
    for_run actor runs = for_each actor actor 0 runs (omega arith)

-- ---- the arrivals of an actor

abbrev stamped : ℕ → Entry → Bool
stamped stamp entry = entry.stamp == stamp

abbrev has_stamp : List Entry → ℕ → List Entry
has_stamp entries stamp = filter (stamped stamp) entries

-- none has this stamp where all are greater
none_has : (stamp latest : ℕ) (entries : List Entry) → AreRising latest entries → stamp ≤ latest → has_stamp entries stamp ≡ []
none_has stamp latest [] rising l = refl
none_has stamp latest (e ∷ es) rising l =
    let no : (e.stamp == stamp) ≡ false = not_equal e.stamp stamp (inr (omega (arith, rising.0))) in
    ap (λ (b : Bool). cond b (e ∷ has_stamp es stamp) (has_stamp es stamp)) no ∙ none_has stamp e.stamp es rising.1 (omega (arith, rising.0))

flat_none : (entries : List Entry) (numbers : List ℕ) → entries ≡ [] → flat_map (has_stamp entries) numbers ≡ []
flat_none entries [] e = refl
flat_none entries (n ∷ ns) e = (λ i. has_stamp (e i) n ++ flat_none entries ns e i)

-- behind the first stamp the first entry does not matter
past_first : (e : Entry) (es : List Entry) (start n : ℕ) → e.stamp < start → flat_map (has_stamp (e ∷ es)) (numbers_from start n) ≡ flat_map (has_stamp es) (numbers_from start n)
past_first e es start zero l = refl
past_first e es start (suc n) l =
    let no : (e.stamp == start) ≡ false = not_equal e.stamp start (inl l) in
    λ i. cond (no i) (e ∷ has_stamp es start) (has_stamp es start) ++ past_first e es (start + 1) n (omega arith) i

abbrev pub AreWithin : ℕ → List Entry → Type 0
AreWithin bound entries = AllByRecursion (λ (e : Entry). e.stamp < bound) entries

bounded : (entries : List Entry) (a b : ℕ) → a ≡ b → AreWithin a entries → AreWithin b entries
bounded entries a b e within = subst (λ (n : ℕ). AreWithin n entries) e within

-- entries whose stamps rise, taken stamp by stamp
stamp_by_stamp : (entries : List Entry) (latest start n : ℕ) → start ≡ latest + 1 → AreRising latest entries → AreWithin (start + n) entries → flat_map (has_stamp entries) (numbers_from start n) ≡ entries
stamp_by_stamp [] latest start n s rising within = flat_none [] (numbers_from start n) refl
stamp_by_stamp (e ∷ es) latest start zero s rising within = absurd (omega (arith, rising.0, within.0))
stamp_by_stamp (e ∷ es) latest start (suc n) s rising within =
    let none : has_stamp es start ≡ [] = none_has start e.stamp es rising.1 (omega (arith, rising.0)) in
    elim (cases_lt start e.stamp) [
      | inl later ↦
          let no : (e.stamp == start) ≡ false = not_equal e.stamp start (inr later) in
          let others = stamp_by_stamp (e ∷ es) start (start + 1) n refl (later, rising.1) (bounded (e ∷ es) (start + suc n) (start + 1 + n) (omega arith) within) in
          (λ i. cond (no i) (e ∷ has_stamp es start) (none i) ++ flat_map (has_stamp (e ∷ es)) (numbers_from (start + 1) n)) ∙ others
      | inr not_later ↦
          let is : e.stamp ≡ start = omega (arith, rising.0) in
          let yes : (e.stamp == start) ≡ true = subst (λ (m : ℕ). (e.stamp == m) ≡ true) is (is_itself e.stamp) in
          let others = stamp_by_stamp es e.stamp (start + 1) n (omega arith) rising.1 (bounded es (start + suc n) (start + 1 + n) (omega arith) within.1) in
          (λ i. cond (yes i) (e ∷ none i) (has_stamp es start) ++ past_first e es (start + 1) n (omega arith) i) ∙ ap (λ (xs : List Entry). e ∷ xs) others
    ]

-- ---- the whole order

flat_for : {X : Type 0} (actor : ℕ) (f : ℕ → List (ℕ × X)) (numbers : List ℕ) → for_actor actor (flat_map f numbers) ≡ flat_map (λ n. for_actor actor (f n)) numbers
flat_for actor f [] = refl
flat_for actor f (n ∷ ns) = filter_map-append (if_to actor) (f n) (flat_map f ns) ∙ ap (λ (xs : _). for_actor actor (f n) ++ xs) (flat_for actor f ns)

flat_empty : {X : Type 0} (numbers : List ℕ) → flat_map {X = ℕ} {A = X} (λ n. []) numbers ≡ []
flat_empty [] = refl
flat_empty (n ∷ ns) = flat_empty ns

-- the order has the arrivals of an actor in their order
pub order_for : (actor : ℕ) (runs : List ActorRun) → AreRising 0 (entries_in (slice_get runs actor)) → AreWithin (1 + length (arrivals_of runs)) (entries_in (slice_get runs actor)) → for_actor actor (by_stamp runs) ≡ entries_in (slice_get runs actor)
order_for actor runs rising within =
    flat_for actor (λ stamp. of_each (entries_of_stamp stamp) 0 runs) (numbers_from 1 (length (arrivals_of runs)))
    ∙ (λ i. flat_map (λ stamp. for_run (entries_of_stamp stamp) actor runs i) (numbers_from 1 (length (arrivals_of runs))))
    ∙ by (slice_get runs actor) rising within
  where
    by : (o : Option ActorRun) → AreRising 0 (entries_in o) → AreWithin (1 + length (arrivals_of runs)) (entries_in o) → flat_map (λ stamp. had (entries_of_stamp stamp) actor o) (numbers_from 1 (length (arrivals_of runs))) ≡ entries_in o
    by None r w = flat_empty (numbers_from 1 (length (arrivals_of runs)))
    by (Some own) r w = stamp_by_stamp own.entries 0 1 (length (arrivals_of runs)) refl r w

-- ---- it ascends

abbrev AreBehind : (ℕ × Entry) → List (ℕ × Entry) → Type 0
AreBehind x xs = AllByRecursion (λ y. ComesFirst x y) xs

-- each comes before those that stand behind it
abbrev pub AreOrdered : List (ℕ × Entry) → Type 0
AreOrdered [] = Unit {0}
AreOrdered (x ∷ xs) = AreBehind x xs × AreOrdered xs

-- of this stamp, and of this actor or a later one
pub record IsAt (stamp actor : ℕ) (arrival : ℕ × Entry) : Type 0 where
  pub stamp_is : arrival.1.stamp ≡ stamp
  pub least : actor ≤ arrival.0

abbrev AreAt : ℕ → ℕ → List (ℕ × Entry) → Type 0
AreAt stamp actor arrivals = AllByRecursion (IsAt stamp actor) arrivals

abbrev pub AreFrom : ℕ → List (ℕ × Entry) → Type 0
AreFrom least arrivals = AllByRecursion (λ (y : ℕ × Entry). least ≤ y.1.stamp) arrivals

-- an arrival of the stamp and actor comes before all of that stamp and from that actor on
before_at : (stamp actor : ℕ) (x : ℕ × Entry) → x.1.stamp ≡ stamp → x.0 ≡ actor → (xs : List (ℕ × Entry)) → AreAt stamp actor xs → AreBehind x xs
before_at stamp actor x s a xs at = each_from (IsAt stamp actor) (λ y. ComesFirst x y) (λ y is. inr (s ∙ sym is.stamp_is, omega (arith, is.least))) xs at

-- the arrivals of one actor with a stamp, in front of those of the later actors
own_block : (stamp actor : ℕ) (entries : List Entry) (ys : List (ℕ × Entry)) → AreAt stamp actor ys → AreOrdered ys → let xs : List (ℕ × Entry) = map (with_it actor) (has_stamp entries stamp) ++ ys in AreAt stamp actor xs × AreOrdered xs
own_block stamp actor [] ys at ordered = (at, ordered)
own_block stamp actor (e ∷ es) ys at ordered = by (e.stamp == stamp) refl (own_block stamp actor es ys at ordered)
  where
    by : (b : Bool) → (e.stamp == stamp) ≡ b → let xs : List (ℕ × Entry) = map (with_it actor) (has_stamp es stamp) ++ ys in AreAt stamp actor xs × AreOrdered xs
        → let zs : List (ℕ × Entry) = map (with_it actor) (cond b (e ∷ has_stamp es stamp) (has_stamp es stamp)) ++ ys in AreAt stamp actor zs × AreOrdered zs
    by false is later = later
    by true is later =
        let same : e.stamp ≡ stamp = same_number e.stamp stamp is in
        ((record { stamp_is = same; least = omega arith }, later.0), (before_at stamp actor (actor, e) same refl (map (with_it actor) (has_stamp es stamp) ++ ys) later.0, later.1))

block : (stamp actor : ℕ) (runs : List ActorRun) → let xs : List (ℕ × Entry) = of_each (entries_of_stamp stamp) actor runs in AreAt stamp actor xs × AreOrdered xs
block stamp actor [] = (tt, tt)
block stamp actor (own ∷ more) =
    let later = block stamp (actor + 1) more in
    let others : List (ℕ × Entry) = of_each (entries_of_stamp stamp) (actor + 1) more in
    own_block stamp actor own.entries others (each_from (IsAt stamp (actor + 1)) (IsAt stamp actor) (λ y is. record { stamp_is = is.stamp_is; least = omega (arith, is.least) }) others later.0) later.1

-- those of a stamp in front of those of greater ones
in_front : (stamp : ℕ) (xs ys : List (ℕ × Entry)) → AreAt stamp 0 xs → AreOrdered xs → AreFrom (stamp + 1) ys → AreOrdered ys → AreOrdered (xs ++ ys)
in_front stamp [] ys at first from ordered = ordered
in_front stamp (x ∷ xs) ys at first from ordered =
    let s = at.0.stamp_is in
    let behind : AreBehind x ys = each_from (λ (y : ℕ × Entry). stamp + 1 ≤ y.1.stamp) (λ y. ComesFirst x y) (λ y l. inl (omega arith)) ys from in
    (each_append (λ y. ComesFirst x y) xs ys first.0 behind, in_front stamp xs ys at.1 first.1 from ordered)

blocks : (runs : List ActorRun) (start n : ℕ) → let xs : List (ℕ × Entry) = flat_map (λ stamp. of_each (entries_of_stamp stamp) 0 runs) (numbers_from start n) in AreFrom start xs × AreOrdered xs
blocks runs start zero = (tt, tt)
blocks runs start (suc n) =
    let first : List (ℕ × Entry) = of_each (entries_of_stamp start) 0 runs in
    let others : List (ℕ × Entry) = flat_map (λ stamp. of_each (entries_of_stamp stamp) 0 runs) (numbers_from (start + 1) n) in
    let b = block start 0 runs in
    let later = blocks runs (start + 1) n in
    let from : AreFrom start others = each_from (λ (y : ℕ × Entry). start + 1 ≤ y.1.stamp) (λ (y : ℕ × Entry). start ≤ y.1.stamp) (λ y l. omega arith) others later.0 in
    let at : AreFrom start first = each_from (IsAt start 0) (λ (y : ℕ × Entry). start ≤ y.1.stamp) (λ y is. omega (arith, is.stamp_is)) first b.0 in
    (each_append (λ (y : ℕ × Entry). start ≤ y.1.stamp) first others at from, in_front start first others b.0 b.1 later.0 later.1)

pub order_ascends : (runs : List ActorRun) → AreOrdered (by_stamp runs)
order_ascends runs = (blocks runs 1 (length (arrivals_of runs))).1

-- what stands behind an arrival has no smaller stamp
pub from_for : (least actor : ℕ) (xs : List (ℕ × Entry)) → AreFrom least xs → (e : Entry) → IsIn e (for_actor actor xs) → least ≤ e.stamp
from_for least actor [] h e i = absurd i
from_for least actor (x ∷ xs) h e i = by (actor == x.0) (from_for least actor xs h.1 e) i
  where
    by : (b : Bool) → (IsIn e (for_actor actor xs) → least ≤ e.stamp) → IsIn e (cons_option (if b then Some x.1 else None) (for_actor actor xs)) → least ≤ e.stamp
    by false later j = later j
    by true later (inl is) = let first = h.0 in subst (λ (y : Entry). least ≤ y.stamp) is first
    by true later (inr j) = later j

no_smaller : (x y : ℕ × Entry) → ComesFirst x y → x.1.stamp ≤ y.1.stamp
no_smaller x y (inl l) = omega arith
no_smaller x y (inr e) = omega (arith, e.0)

pub ordered_behind : (front : List (ℕ × Entry)) (x : ℕ × Entry) (xs : List (ℕ × Entry)) → AreOrdered (front ++ x ∷ xs) → AreFrom x.1.stamp (x ∷ xs)
ordered_behind [] x xs h = (omega arith, each_from (λ y. ComesFirst x y) (λ (y : ℕ × Entry). x.1.stamp ≤ y.1.stamp) (no_smaller x) xs h.0)
ordered_behind (f ∷ front) x xs h = ordered_behind front x xs h.1

pub ordered_pairs : (xs : List (ℕ × Entry)) → AreOrdered xs → AllPairs ComesFirst xs
ordered_pairs [] h i j d l m = absurd (omega arith)
ordered_pairs (x ∷ xs) h i zero d l m = absurd (omega arith)
ordered_pairs (x ∷ xs) h zero (suc j) d l m = at_place (λ y. ComesFirst x y) xs h.0 j d (omega arith)
ordered_pairs (x ∷ xs) h (suc i) (suc j) d l m = ordered_pairs xs h.1 i j d (omega arith) (omega arith)
