-- Links one after the other: what is served, what is taken, and that nothing waits where nothing was taken.
use Rattle.std.proofs.Common.{◌≡◌, ◌∙◌, inl, inr, ℕ, zero, suc, ◌+◌, ◌-◌, ◌<◌, ◌≤◌, List, [], ◌∷◌, ◌++◌, length, map, take, drop, Bool, true, false, Some, slice_get, append_assoc, refl, ap, sym, subst, arith}
use Rattle.std.specs.Prelude.{if◌then◌else◌, ◌||◌, nat_lt, OnErr, Result, Ok, Err}
use Rattle.std.specs.List.{flat_map, list_any}
use Rattle.std.proofs.lemmas.Bool.{cases_lt}
use Rattle.std.proofs.lemmas.Bool.Decides.{nat_tests}
use Rattle.std.proofs.lemmas.List.{append-nil, length-map, take_all}
use Rattle.std.proofs.lemmas.Grind.{flat_map-append}
use Rattle.join_base.specs.declared.message.Stamped.{Stamped}
use Rattle.join_base.specs.declared.message.Source.{Source}
use Rattle.join_base.specs.declared.message.Source.TheVariants.{Feed, Actor}
use Rattle.script_types.specs.declared.plan.Plan.{Plan}
use Rattle.fair_semantics.specs.declared.run.Limits.{Limits}
use Rattle.fair_semantics.specs.Fits.{SourceFits}
use Rattle.fair_semantics.specs.Linked.{numbers_from, sources}
use Rattle.fair_semantics.specs.Schedule.{System, taking}
use Rattle.fair_semantics.proofs.FairLemmas.{numbers_from-more}
use Rattle.fair_semantics.proofs.NumberLemmas.{count_numbers, get_numbers}
use Rattle.actor_system.specs.Serving.{Link, MovedTo, Served, ServedInPart, Serving, after_link, after_links, is_some_post, links_of, links_to, or_same, some_taken, some_waits, source_at, system_in, waits_on}

-- ---- what is served

module _ (plan : Plan) (limits : Limits) where
  after_both : (system : System) (xs ys : List Link) → after_links plan limits system (xs ++ ys) ≡ after_links plan limits (after_links plan limits system xs) ys
  after_both system [] ys = refl
  after_both system (x ∷ xs) ys = after_both (after_link plan limits system x) xs ys

  taken_both : (system : System) (xs ys : List Link) → some_taken plan limits system (xs ++ ys) ≡ (some_taken plan limits system xs || some_taken plan limits (after_links plan limits system xs) ys)
  taken_both system [] ys = refl
  taken_both system (x ∷ xs) ys = by (waits_on system x) (taken_both (after_link plan limits system x) xs ys)
    where
      by : (b : Bool) → some_taken plan limits (after_link plan limits system x) (xs ++ ys) ≡ (some_taken plan limits (after_link plan limits system x) xs || some_taken plan limits (after_links plan limits (after_link plan limits system x) xs) ys)
          → (b || some_taken plan limits (after_link plan limits system x) (xs ++ ys)) ≡ ((b || some_taken plan limits (after_link plan limits system x) xs) || some_taken plan limits (after_links plan limits (after_link plan limits system x) xs) ys)
      by true later = refl
      by false later = later

  -- a link on which nothing waits leaves the system as it is
  not_served : (system : System) (link : Link) → waits_on system link ≡ false → after_link plan limits system link ≡ system
  not_served system link e = by (system.waiting link.1 link.0) refl e
    where
      by : (posts : List Stamped) → system.waiting link.1 link.0 ≡ posts → is_some_post posts ≡ false → after_link plan limits system link ≡ system
      by [] is h = ap (λ (ps : List Stamped). or_same system (taking plan limits system link.0 link.1 ps)) is
      by (post ∷ posts) is h = absurd cc

  -- a post is taken exactly where one waits
  pub taken_where_waits : (system : System) (links : List Link) → some_taken plan limits system links ≡ list_any (waits_on system) links
  taken_where_waits system [] = refl
  taken_where_waits system (link ∷ links) = by (waits_on system link) refl (taken_where_waits system links)
    where
      by : (b : Bool) → waits_on system link ≡ b → some_taken plan limits system links ≡ list_any (waits_on system) links → (b || some_taken plan limits (after_link plan limits system link) links) ≡ (b || list_any (waits_on system) links)
      by true e later = refl
      by false e later = ap (λ (s : System). some_taken plan limits s links) (not_served system link e) ∙ later

  pub none_served : (system : System) (links : List Link) → list_any (waits_on system) links ≡ false → after_links plan limits system links ≡ system
  none_served system [] e = refl
  none_served system (link ∷ links) e = by (waits_on system link) refl e (none_served system links)
    where
      by : (b : Bool) → waits_on system link ≡ b → (b || list_any (waits_on system) links) ≡ false → (list_any (waits_on system) links ≡ false → after_links plan limits system links ≡ system) → after_links plan limits (after_link plan limits system link) links ≡ system
      by true is h later = absurd cc
      by false is h later = ap (λ (s : System). after_links plan limits s links) (not_served system link is) ∙ later h

-- ---- one serving after another

pub served_none : (s : Serving) → Served s [] s
served_none s = record { same_plan = refl; same_limits = refl; same_feeds = refl; system_is = refl }

pub served_both : (before now after : Serving) (xs ys : List Link) → Served before xs now → Served now ys after → Served before (xs ++ ys) after
served_both before now after xs ys first second = record {
  same_plan = second.same_plan ∙ first.same_plan;
  same_limits = second.same_limits ∙ first.same_limits;
  same_feeds = second.same_feeds ∙ first.same_feeds;
  system_is = second.system_is ∙ (λ i. after_links (first.same_plan i) (first.same_limits i) (first.system_is i) ys) ∙ sym (after_both before.plan before.limits (system_in before) xs ys);
}

pub served_still : (before now after : Serving) (xs : List Link) → Served before xs now → MovedTo now (system_in now) after → Served before xs after
served_still before now after xs first second = record {
  same_plan = second.same_plan ∙ first.same_plan;
  same_limits = second.same_limits ∙ first.same_limits;
  same_feeds = second.same_feeds ∙ first.same_feeds;
  system_is = second.system_is ∙ first.system_is;
}

pub part_behind : (before now after : Serving) (xs ys zs : List Link) → Served before xs now → ServedInPart now ys after → ServedInPart before (xs ++ (ys ++ zs)) after
part_behind before now after xs ys zs first part = record {
  first = xs ++ part.first;
  others = part.others ++ zs;
  are = ap (λ (ls : List Link). xs ++ (ls ++ zs)) part.are ∙ ap (λ (ls : List Link). xs ++ ls) (append_assoc part.first part.others zs) ∙ sym (append_assoc xs part.first (part.others ++ zs));
  served = served_both before now after xs part.first first part.served;
}

-- whether one was taken, where some links come behind others
pub taken_behind : (before now : Serving) (xs ys : List Link) (a b : Bool) → Served before xs now → a ≡ some_taken before.plan before.limits (system_in before) xs → b ≡ some_taken now.plan now.limits (system_in now) ys
    → (a || b) ≡ some_taken before.plan before.limits (system_in before) (xs ++ ys)
taken_behind before now xs ys a b first is_a is_b =
    (λ i. is_a i || is_b i) ∙ (λ i. some_taken before.plan before.limits (system_in before) xs || some_taken (first.same_plan i) (first.same_limits i) (first.system_is i) ys)
    ∙ sym (taken_both before.plan before.limits (system_in before) xs ys)

-- ---- the links to an actor

nat_less : (a b : ℕ) → a < b → nat_lt a b ≡ true
nat_less a b l = grind (arith, nat_tests)

nat_not_less : (a b : ℕ) → b ≤ a → nat_lt a b ≡ false
nat_not_less a b l = grind (arith, nat_tests)

get_left : {X : Type 0} (xs ys : List X) (k : ℕ) → k < length xs → slice_get (xs ++ ys) k ≡ slice_get xs k
get_left [] ys k l = absurd (omega arith)
get_left (x ∷ xs) ys zero l = refl
get_left (x ∷ xs) ys (suc k) l = get_left xs ys k (omega arith)

get_right : {X : Type 0} (xs ys : List X) (k : ℕ) → slice_get (xs ++ ys) (length xs + k) ≡ slice_get ys k
get_right [] ys k = let e : 0 + k ≡ k = omega arith in ap (slice_get ys) e
get_right (x ∷ xs) ys k = let e : suc (length xs) + k ≡ suc (length xs + k) = omega arith in ap (slice_get (x ∷ (xs ++ ys))) e ∙ get_right xs ys k

pub source_there : (feeds actors place : ℕ) → place < feeds + actors → slice_get (sources feeds actors) place ≡ Some (source_at feeds place)
source_there feeds actors place l =
    let fed : List Source = map (λ k. Feed k) (numbers_from 1 feeds) in
    let posted : List Source = map (λ a. Actor a) (numbers_from 0 actors) in
    let count : length fed ≡ feeds = length-map (numbers_from 1 feeds) (λ k. Feed k) ∙ count_numbers 1 feeds in
    elim (cases_lt place feeds) [
      | inl within ↦
          let e : 1 + place ≡ place + 1 = omega arith in
          get_left fed posted place (omega arith) ∙ get_numbers (λ k. Feed k) 1 feeds place within ∙ ap (λ (k : ℕ). Some (Feed k)) e
          ∙ ap (λ (b : Bool). Some (if b then Feed (place + 1) else Actor (place - feeds))) (sym (nat_less place feeds within))
      | inr past ↦
          let e : place ≡ length fed + (place - feeds) = omega arith in
          let z : 0 + (place - feeds) ≡ place - feeds = omega arith in
          ap (slice_get (fed ++ posted)) e ∙ get_right fed posted (place - feeds) ∙ get_numbers (λ a. Actor a) 0 actors (place - feeds) (omega arith) ∙ ap (λ (k : ℕ). Some (Actor k)) z
          ∙ ap (λ (b : Bool). Some (if b then Feed (place + 1) else Actor (place - feeds))) (sym (nat_not_less place feeds (omega arith)))
    ]

pub source_exists : (plan : Plan) (feeds place : ℕ) → place < feeds + length plan.actors → SourceFits plan feeds (source_at feeds place)
source_exists plan feeds place l =
    elim (cases_lt place feeds) [
      | inl within ↦ subst (λ (b : Bool). SourceFits plan feeds (if b then Feed (place + 1) else Actor (place - feeds))) (sym (nat_less place feeds within)) (omega arith, omega arith)
      | inr past ↦ let small : place - feeds < length plan.actors = omega arith in subst (λ (b : Bool). SourceFits plan feeds (if b then Feed (place + 1) else Actor (place - feeds))) (sym (nat_not_less place feeds (omega arith))) small
    ]

get_map : {X Y : Type 0} (f : X → Y) (xs : List X) (k : ℕ) (x : X) → slice_get xs k ≡ Some x → slice_get (map f xs) k ≡ Some (f x)
get_map f [] k x e = absurd cc
get_map {X} {Y} f (y ∷ xs) zero x e = let same : y ≡ x = cc in ap (λ (z : X). Some (f z)) same
get_map f (y ∷ xs) (suc k) x e = get_map f xs k x e

pub take_next : {X : Type 0} (xs : List X) (k : ℕ) (x : X) → slice_get xs k ≡ Some x → take (k + 1) xs ≡ take k xs ++ x ∷ []
take_next [] k x e = absurd cc
take_next {X} (y ∷ xs) zero x e = let same : y ≡ x = cc in ap (λ (z : X). z ∷ []) same
take_next {X} (y ∷ xs) (suc k) x e = let n : suc k + 1 ≡ suc (k + 1) = omega arith in ap (λ (m : ℕ). take m (y ∷ xs)) n ∙ ap (λ (zs : List X). y ∷ zs) (take_next xs k x e)

take_drop : {X : Type 0} (xs : List X) (k : ℕ) → xs ≡ take k xs ++ drop k xs
take_drop xs zero = refl
take_drop [] (suc k) = refl
take_drop {X} (x ∷ xs) (suc k) = ap (λ (zs : List X). x ∷ zs) (take_drop xs k)

module _ (s : Serving) (target place : ℕ) (l : place < length s.feeds + length s.plan.actors) where
  abbrev link : Link
  link = (target, source_at (length s.feeds) place)

  pub link_next : take (place + 1) (links_to s target) ≡ take place (links_to s target) ++ link ∷ []
  link_next = take_next (links_to s target) place link (get_map (λ source. (target, source)) (sources (length s.feeds) (length s.plan.actors)) place (source_at (length s.feeds) place) (source_there (length s.feeds) (length s.plan.actors) place l))

pub links_count : (s : Serving) (target : ℕ) → length (links_to s target) ≡ length s.feeds + length s.plan.actors
links_count s target =
    let fed = length-map (numbers_from 1 (length s.feeds)) (λ k. Feed k) ∙ count_numbers 1 (length s.feeds) in
    let posted = length-map (numbers_from 0 (length s.plan.actors)) (λ a. Actor a) ∙ count_numbers 0 (length s.plan.actors) in
    length-map (sources (length s.feeds) (length s.plan.actors)) (λ source. (target, source))
    ∙ both (map (λ k. Feed k) (numbers_from 1 (length s.feeds))) (map (λ a. Actor a) (numbers_from 0 (length s.plan.actors))) ∙ (λ i. fed i + posted i)
  where
    both : {X : Type 0} (xs ys : List X) → length (xs ++ ys) ≡ length xs + length ys
    both [] ys = omega arith
    both (x ∷ xs) ys = let h = both xs ys in omega (arith, h)

pub links_all : (s : Serving) (target place : ℕ) → length s.feeds + length s.plan.actors ≤ place → take place (links_to s target) ≡ links_to s target
links_all s target place l = take_all place (links_to s target) (omega (arith, links_count s target))

pub links_part : (before after : Serving) (target place : ℕ) → Served before (take place (links_to before target)) after → ServedInPart before (links_to before target) after
links_part before after target place served = record { first = take place (links_to before target); others = drop place (links_to before target); are = take_drop (links_to before target) place; served = served }

-- one link more
pub served_link : (before now after : Serving) (xs : List Link) (link : Link) → Served before xs now → MovedTo now (after_link now.plan now.limits (system_in now) link) after → Served before (xs ++ link ∷ []) after
served_link before now after xs link first moved = served_both before now after xs (link ∷ []) first moved

pub taken_link : (before now : Serving) (xs : List Link) (link : Link) (a b : Bool) → Served before xs now → a ≡ some_taken before.plan before.limits (system_in before) xs → b ≡ waits_on (system_in now) link
    → (a || b) ≡ some_taken before.plan before.limits (system_in before) (xs ++ link ∷ [])
taken_link before now xs link a b first is_a is_b = taken_behind before now xs (link ∷ []) a b first is_a (is_b ∙ or_false (waits_on (system_in now) link))
  where
    or_false : (c : Bool) → c ≡ (c || false)
    or_false true = refl
    or_false false = refl

-- ---- target by target

abbrev pub links_before : Serving → ℕ → List Link
links_before s target = flat_map (links_to s) (numbers_from 0 target)

pub links_more : (s : Serving) (target : ℕ) → links_before s (target + 1) ≡ links_before s target ++ links_to s target
links_more s target =
    let e : 0 + target ≡ target = omega arith in
    ap (flat_map (links_to s)) (sym (numbers_from-more 0 target)) ∙ flat_map-append (links_to s) (numbers_from 0 target) ((0 + target) ∷ []) ∙ ap (λ (ls : List Link). links_before s target ++ ls) (append-nil (links_to s (0 + target)))
    ∙ ap (λ (n : ℕ). links_before s target ++ links_to s n) e

numbers_split : (start k n : ℕ) → k ≤ n → numbers_from start n ≡ numbers_from start k ++ numbers_from (start + k) (n - k)
numbers_split start zero n l = let e : start ≡ start + 0 = omega arith in let f : n ≡ n - 0 = omega arith in λ i. numbers_from (e i) (f i)
numbers_split start (suc k) zero l = absurd (omega arith)
numbers_split start (suc k) (suc n) l =
    let e : start + 1 + k ≡ start + suc k = omega arith in
    let f : n - k ≡ suc n - suc k = omega arith in
    ap (λ (ns : List ℕ). start ∷ ns) (numbers_split (start + 1) k n (omega arith) ∙ (λ i. numbers_from (start + 1) k ++ numbers_from (e i) (f i)))

-- all links are those before a target, those to it, and the others
pub links_around : (s : Serving) (target : ℕ) → target < length s.plan.actors → (zs : List Link) × (links_of s ≡ links_before s target ++ (links_to s target ++ zs))
links_around s target l =
    let rest : List ℕ = numbers_from (0 + (target + 1)) (length s.plan.actors - (target + 1)) in (
      flat_map (links_to s) rest,
      ap (flat_map (links_to s)) (numbers_split 0 (target + 1) (length s.plan.actors) (omega arith)) ∙ flat_map-append (links_to s) (numbers_from 0 (target + 1)) rest
          ∙ ap (λ (ls : List Link). ls ++ flat_map (links_to s) rest) (links_more s target) ∙ append_assoc (links_before s target) (links_to s target) (flat_map (links_to s) rest),
    )

-- the links of a serving that was made of the same
pub same_links : (before now : Serving) (xs : List Link) (target : ℕ) → Served before xs now → links_to now target ≡ links_to before target
same_links before now xs target served = λ i. map (λ source. (target, source)) (sources (length (served.same_feeds i)) (length (served.same_plan i).actors))

-- where nothing waited before a step, nothing waits behind it
pub nothing_waits : (before after : Serving) → Served before (links_of before) after → some_waits before ≡ false → some_waits after ≡ false
nothing_waits before after served none =
    let same : system_in after ≡ system_in before = served.system_is ∙ none_served before.plan before.limits (system_in before) (links_of before) none in
    (λ i. list_any (waits_on (same i)) (flat_map (λ target. map (λ source. (target, source)) (sources (length (served.same_feeds i)) (length (served.same_plan i).actors))) (numbers_from 0 (length (served.same_plan i).actors)))) ∙ none

pub on_err : {A E : Type 0} {P : Type 0} (r : Result A E) → P → OnErr r P
on_err (Ok x) p = tt
on_err (Err e) p = p
