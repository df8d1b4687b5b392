-- Messages behind an ended actor's arrivals: each late count is the number of those from its source.
use Rattle.std.proofs.Common.{◌≡◌, ◌∙◌, ℕ, zero, suc, ◌+◌, ◌-◌, ◌^◌, ◌<◌, ◌≤◌, min, List, [], ◌∷◌, ◌++◌, length, map, drop, Bool, true, false, refl, ap, sym, subst, arith}
use Rattle.std.specs.Prelude.{if◌then◌else◌, nat_lt, ◌==◌, slice_index, slice_set}
use Rattle.std.specs.List.{AllByRecursion, flat_map, list_any}
use Rattle.std.proofs.lemmas.List.{length-map, map-append}
use Rattle.std.proofs.lemmas.Bool.Decides.{nat_tests}
use Rattle.join_base.specs.declared.message.Stamped.{Stamped}
use Rattle.join_base.specs.declared.message.Source.{Source}
use Rattle.join_base.specs.declared.message.Source.TheVariants.{Feed, Actor}
use Rattle.join_base.specs.declared.message.Sort.{Sort}
use Rattle.fair_semantics.specs.declared.run.Entry.{Entry}
use Rattle.join_base.specs.Late.{Late, late_count, late_more, raised, raised_at}
use Rattle.fair_semantics.specs.Step.{Setting, State, is_refused, is_running, late_step, spent_step}
use Rattle.fair_semantics.specs.Fair.{Sent, after_all}
use Rattle.fair_semantics.specs.Linked.{behind_first, brought_first, greatest_start, numbers_from, rest_of, rests_in_order, same_source, sources, starts_unfit, starts_with, taken_from}
use Rattle.fair_semantics.proofs.TakenLemmas.{late_is, spent_is}
use Rattle.fair_semantics.proofs.SizeLemmas.{Sized, sized_more}

abbrev one_if : Bool → ℕ
one_if b = if b then 1 else 0

-- how many of the messages come from a source
abbrev pub occurs : Source → List Sent → ℕ
occurs source [] = 0
occurs source (s ∷ sent) = one_if (same_source s.0 source) + occurs source sent

occurs-append : (source : Source) (xs ys : List Sent) → occurs source (xs ++ ys) ≡ occurs source xs + occurs source ys
occurs-append source [] ys = omega arith
occurs-append source (x ∷ xs) ys = let later = occurs-append source xs ys in omega (arith, later)

-- ---- late counts

abbrev pub Among : ℕ → ℕ → Source → Type 0
Among feeds actors (Feed k) = (1 ≤ k) × (k ≤ feeds)
Among feeds actors (Actor a) = a < actors

set_same : (xs : List ℕ) (k n : ℕ) → k < length xs → slice_index (slice_set xs k n) k ≡ n
set_same [] k n l = absurd (omega arith)
set_same (x ∷ xs) zero n l = refl
set_same (x ∷ xs) (suc k) n l = set_same xs k n (omega arith)

set_other : (xs : List ℕ) (j k n : ℕ) → (j ≡ k → ⊥) → slice_index (slice_set xs j n) k ≡ slice_index xs k
set_other [] j k n h = refl
set_other (x ∷ xs) zero zero n h = absurd (h refl)
set_other (x ∷ xs) zero (suc k) n h = refl
set_other (x ∷ xs) (suc j) zero n h = refl
set_other (x ∷ xs) (suc j) (suc k) n h = set_other xs j k n (λ e. h (ap suc e))

abbrev raised_where : Bool → ℕ → ℕ
raised_where b count = if b then raised count else count

pub same_number : (a b : ℕ) → (a == b) ≡ true → a ≡ b
same_number a b e = grind (arith, nat_tests)

other_number : (a b : ℕ) → (a == b) ≡ false → a ≡ b → ⊥
other_number a b e p = absurd (grind (arith, nat_tests))

raised_one : (xs : List ℕ) (j k : ℕ) (b : Bool) → (b ≡ true → j ≡ k) → (b ≡ false → j ≡ k → ⊥) → j < length xs → slice_index (raised_at xs j) k ≡ raised_where b (slice_index xs k)
raised_one xs j k true same other l = let e = same refl in ap (λ (n : ℕ). slice_index (raised_at xs n) k) e ∙ set_same xs k (raised (slice_index xs k)) (omega (arith, e))
raised_one xs j k false same other l = set_other xs j k (raised (slice_index xs j)) (other refl)

late_one : (feeds actors : ℕ) (late : Late) (s source : Source) → Sized feeds actors late → Among feeds actors s → Among feeds actors source → late_count (late_more late s) source ≡ raised_where (same_source s source) (late_count late source)
late_one feeds actors late (Feed j) (Feed k) sized a b =
    raised_one late.feeds (j - 1) (k - 1) (j == k) (λ e. ap (λ (n : ℕ). n - 1) (same_number j k e)) (λ e p. let same : j ≡ k = omega (arith, a.0, b.0, p) in other_number j k e same) (omega (arith, a.0, a.1, sized.0))
late_one feeds actors late (Feed j) (Actor k) sized a b = refl
late_one feeds actors late (Actor j) (Feed k) sized a b = refl
late_one feeds actors late (Actor j) (Actor k) sized a b = raised_one late.actors j k (j == k) (same_number j k) (other_number j k) (omega (arith, a, sized.1))

-- each of the messages is late
abbrev pub raised_by : Late → List Sent → Late
raised_by late [] = late
raised_by late (s ∷ sent) = raised_by (late_more late s.0) sent

pub ended_late : (setting : Setting) (sent : List Sent) (state : State) → is_running state.ending ≡ false → (after_all setting state sent).late ≡ raised_by state.late sent
ended_late setting [] state e = refl
ended_late setting (s ∷ sent) state e = ap (λ (x : State). (after_all setting x sent).late) (late_is setting state s e) ∙ ended_late setting sent (late_step state s.0).0 e

pub spent_late : (setting : Setting) (s : Sent) (sent : List Sent) (state : State) → is_running state.ending ≡ true → is_refused setting state s.1.message s.1.stamp ≡ true → (after_all setting state (s ∷ sent)).late ≡ raised_by state.late (s ∷ sent)
spent_late setting s sent state e r = ap (λ (x : State). (after_all setting x sent).late) (spent_is setting state s e r) ∙ ended_late setting sent (spent_step state s.0).0 refl

raised_small : (b : Bool) (n : ℕ) → n ≤ 2 ^ 64 - 1 → raised_where b n ≡ min (n + one_if b) (2 ^ 64 - 1)
raised_small false n l = omega arith
raised_small true n l = by (nat_lt n (2 ^ 64 - 1)) refl
  where
    less : (m k : ℕ) → nat_lt m k ≡ true → m < k
    less m k e = grind (arith, nat_tests)

    more : (m k : ℕ) → nat_lt m k ≡ false → k ≤ m
    more m k e = grind (arith, nat_tests)

    by : (c : Bool) → nat_lt n (2 ^ 64 - 1) ≡ c → (if c then n + 1 else n) ≡ min (n + 1) (2 ^ 64 - 1)
    by true e = let h = less n (2 ^ 64 - 1) e in omega arith
    by false e = let h = more n (2 ^ 64 - 1) e in omega arith

pub counted : (feeds actors : ℕ) (source : Source) → Among feeds actors source → (sent : List Sent) (late : Late) → Sized feeds actors late → AllByRecursion (λ (s : Sent). Among feeds actors s.0) sent → late_count late source ≤ 2 ^ 64 - 1 → late_count (raised_by late sent) source ≡ min (late_count late source + occurs source sent) (2 ^ 64 - 1)
counted feeds actors source a [] late sized each l = omega arith
counted feeds actors source a (s ∷ sent) late sized each l =
    let one : late_count (late_more late s.0) source ≡ min (late_count late source + one_if (same_source s.0 source)) (2 ^ 64 - 1) = late_one feeds actors late s.0 source sized each.0 a ∙ raised_small (same_source s.0 source) (late_count late source) l in
    let later = counted feeds actors source a sent (late_more late s.0) (sized_more feeds actors late s.0 sized) each.1 (omega (arith, one)) in
    omega (arith, one, later)

pub sized_by : (feeds actors : ℕ) (sent : List Sent) (late : Late) → Sized feeds actors late → Sized feeds actors (raised_by late sent)
sized_by feeds actors [] late sized = sized
sized_by feeds actors (s ∷ sent) late sized = sized_by feeds actors sent (late_more late s.0) (sized_more feeds actors late s.0 sized)

-- ---- the rests in their order have as many messages from a source as before

abbrev total : Source → List (List Sent) → ℕ
total source [] = 0
total source (rest ∷ rests) = occurs source rest + total source rests

total_is : (source : Source) (rests : List (List Sent)) → occurs source (flat_map (λ (sent : List Sent). sent) rests) ≡ total source rests
total_is source [] = refl
total_is source (rest ∷ rests) = let sum = occurs-append source rest (flat_map (λ (sent : List Sent). sent) rests) in let later = total_is source rests in omega (arith, sum, later)

total_behind : (source : Source) (leads : List Sent → Bool) (rest : List Sent) (rests : List (List Sent)) → total source (behind_first leads rest rests) ≡ occurs source rest + total source rests
total_behind source leads rest [] = refl
total_behind source leads rest (first ∷ others) = by (leads first)
  where
    by : (b : Bool) → total source (if b then first ∷ rest ∷ others else rest ∷ first ∷ others) ≡ occurs source rest + total source (first ∷ others)
    by true = omega arith
    by false = refl

total_brought : (source : Source) (leads : List Sent → Bool) (rests : List (List Sent)) → total source (brought_first leads rests) ≡ total source rests
total_brought source leads [] = refl
total_brought source leads (rest ∷ rests) = by (leads rest) (total_behind source leads rest (brought_first leads rests)) (total_brought source leads rests)
  where
    by : (b : Bool) → total source (behind_first leads rest (brought_first leads rests)) ≡ occurs source rest + total source (brought_first leads rests) → total source (brought_first leads rests) ≡ total source rests
        → total source (if b then rest ∷ rests else behind_first leads rest (brought_first leads rests)) ≡ occurs source rest + total source rests
    by true behind later = refl
    by false behind later = omega (arith, behind, later)

total_in_order : (source : Source) (sorts : List (List Sort)) (rests : List (List Sent)) → total source (rests_in_order sorts rests) ≡ total source rests
total_in_order source sorts rests = by (list_any (starts_unfit sorts) rests)
  where
    by : (b : Bool) → total source (if b then brought_first (starts_unfit sorts) rests else brought_first (starts_with (greatest_start rests)) rests) ≡ total source rests
    by true = total_brought source (starts_unfit sorts) rests
    by false = total_brought source (starts_with (greatest_start rests)) rests

-- ---- and these are its own rest

occurs_of : (source other : Source) (posts : List Stamped) → occurs source (map (λ post. (other, post)) posts) ≡ (if same_source other source then length posts else 0)
occurs_of source other [] = either (same_source other source) 0
  where
    either : (b : Bool) (n : ℕ) → n ≡ (if b then n else n)
    either true n = refl
    either false n = refl
occurs_of source other (post ∷ posts) = by (same_source other source) (occurs_of source other posts)
  where
    by : (b : Bool) → occurs source (map (λ p. (other, p)) posts) ≡ (if b then length posts else 0) → one_if b + occurs source (map (λ p. (other, p)) posts) ≡ (if b then suc (length posts) else 0)
    by true later = omega (arith, later)
    by false later = omega (arith, later)

abbrev where_same : ℕ → Bool → ℕ
where_same n b = if b then n else 0

module _ (posts : Source → List Stamped) (entries : List Entry) where
  occurs_rest : (source other : Source) → occurs source (rest_of posts entries other) ≡ where_same (length (rest_of posts entries other)) (same_source other source)
  occurs_rest source other =
      let left : List Stamped = drop (length (taken_from other entries)) (posts other) in
      occurs_of source other left ∙ ap (λ (n : ℕ). if same_source other source then n else 0) (sym (length-map left (λ post. (other, post))))

  abbrev rests_from : (ℕ → Source) → ℕ → ℕ → List (List Sent)
  rests_from mk from n = map (rest_of posts entries) (map mk (numbers_from from n))

  module _ (mk : ℕ → Source) (same : (i j : ℕ) → same_source (mk i) (mk j) ≡ (i == j)) where
    total_before : (j from n : ℕ) → j < from → total (mk j) (rests_from mk from n) ≡ 0
    total_before j from zero l = refl
    total_before j from (suc n) l =
        let here : occurs (mk j) (rest_of posts entries (mk from)) ≡ 0 = occurs_rest (mk j) (mk from) ∙ ap (where_same (length (rest_of posts entries (mk from)))) (same from j ∙ differ from j l) in
        let later = total_before j (from + 1) n (omega arith) in
        omega (arith, here, later)
      where
        differ : (a b : ℕ) → b < a → (a == b) ≡ false
        differ a b e = grind (arith, nat_tests)

    total_at : (j from n : ℕ) → j < n → total (mk (from + j)) (rests_from mk from n) ≡ length (rest_of posts entries (mk (from + j)))
    total_at j from zero l = absurd (omega arith)
    total_at zero from (suc n) l =
        let e : from ≡ from + 0 = omega arith in
        let here : occurs (mk from) (rest_of posts entries (mk from)) ≡ length (rest_of posts entries (mk from)) = occurs_rest (mk from) (mk from) ∙ ap (where_same (length (rest_of posts entries (mk from)))) (same from from ∙ equal from) in
        let later = total_before from (from + 1) n (omega arith) in
        let at : total (mk from) (rests_from mk from (suc n)) ≡ length (rest_of posts entries (mk from)) = omega (arith, here, later) in
        subst (λ (k : ℕ). total (mk k) (rests_from mk from (suc n)) ≡ length (rest_of posts entries (mk k))) e at
      where
        equal : (a : ℕ) → (a == a) ≡ true
        equal a = grind (arith, nat_tests)
    total_at (suc j) from (suc n) l =
        let e : from + 1 + j ≡ from + suc j = omega arith in
        let k : ℕ = from + suc j in
        let here : occurs (mk k) (rest_of posts entries (mk from)) ≡ 0 = occurs_rest (mk k) (mk from) ∙ ap (where_same (length (rest_of posts entries (mk from)))) (same from k ∙ differ from j) in
        let later : total (mk k) (rests_from mk (from + 1) n) ≡ length (rest_of posts entries (mk k)) = subst (λ (i : ℕ). total (mk i) (rests_from mk (from + 1) n) ≡ length (rest_of posts entries (mk i))) e (total_at j (from + 1) n (omega arith)) in
        omega (arith, here, later)
      where
        differ : (a b : ℕ) → (a == a + suc b) ≡ false
        differ a b = grind (arith, nat_tests)

  total_other : (mk : ℕ → Source) (source : Source) → ((k : ℕ) → same_source (mk k) source ≡ false) → (from n : ℕ) → total source (rests_from mk from n) ≡ 0
  total_other mk source other from zero = refl
  total_other mk source other from (suc n) =
      let here : occurs source (rest_of posts entries (mk from)) ≡ 0 = occurs_rest source (mk from) ∙ ap (where_same (length (rest_of posts entries (mk from)))) (other from) in
      let later = total_other mk source other (from + 1) n in
      omega (arith, here, later)

  total-append : (source : Source) (xs ys : List (List Sent)) → total source (xs ++ ys) ≡ total source xs + total source ys
  total-append source [] ys = omega arith
  total-append source (x ∷ xs) ys = let later = total-append source xs ys in omega (arith, later)

  total_of : (feeds actors : ℕ) (source : Source) → total source (map (rest_of posts entries) (sources feeds actors)) ≡ total source (rests_from (λ k. Feed k) 1 feeds) + total source (rests_from (λ a. Actor a) 0 actors)
  total_of feeds actors source =
      ap (total source) (map-append (rest_of posts entries) (map (λ k. Feed k) (numbers_from 1 feeds)) (map (λ a. Actor a) (numbers_from 0 actors)))
      ∙ total-append source (rests_from (λ k. Feed k) 1 feeds) (rests_from (λ a. Actor a) 0 actors)

  total_source : (feeds actors : ℕ) (source : Source) → Among feeds actors source → total source (map (rest_of posts entries) (sources feeds actors)) ≡ length (rest_of posts entries source)
  total_source feeds actors (Feed k) a =
      let e : 1 + (k - 1) ≡ k = omega (arith, a.0) in
      let own = subst (λ (i : ℕ). total (Feed i) (rests_from (λ k. Feed k) 1 feeds) ≡ length (rest_of posts entries (Feed i))) e (total_at (λ k. Feed k) (λ i j. refl) (k - 1) 1 feeds (omega (arith, a.0, a.1))) in
      let other = total_other (λ a. Actor a) (Feed k) (λ i. refl) 0 actors in
      let sum = total_of feeds actors (Feed k) in
      omega (arith, own, other, sum)
  total_source feeds actors (Actor b) a =
      let e : 0 + b ≡ b = omega arith in
      let own = subst (λ (i : ℕ). total (Actor i) (rests_from (λ a. Actor a) 0 actors) ≡ length (rest_of posts entries (Actor i))) e (total_at (λ a. Actor a) (λ i j. refl) b 0 actors a) in
      let other = total_other (λ k. Feed k) (Actor b) (λ i. refl) 1 feeds in
      let sum = total_of feeds actors (Actor b) in
      omega (arith, own, other, sum)

  -- in their order the rests have each source's rest once
  pub occurs_behind : (sorts : List (List Sort)) (feeds actors : ℕ) (source : Source) → Among feeds actors source → occurs source (flat_map (λ (sent : List Sent). sent) (rests_in_order sorts (map (rest_of posts entries) (sources feeds actors)))) ≡ length (rest_of posts entries source)
  occurs_behind sorts feeds actors source a =
      total_is source (rests_in_order sorts (map (rest_of posts entries) (sources feeds actors)))
      ∙ total_in_order source sorts (map (rest_of posts entries) (sources feeds actors))
      ∙ total_source feeds actors source a
