-- Late counts: those of a state, and the list of them that a run shows.
use Rattle.std.proofs.Common.{◌≡◌, ◌∙◌, ℕ, suc, ◌+◌, ◌<◌, List, [], ◌∷◌, length, map, false, refl, ap, sym, arith}
use Rattle.std.specs.Prelude.{◌||◌, slice_index}
use Rattle.std.proofs.lemmas.List.{append-nil}
use Rattle.join_base.specs.declared.message.Source.TheVariants.{Feed, Actor}
use Rattle.join_base.specs.Late.{Late}
use Rattle.join_base.specs.Late.{late_counts}
use Rattle.fair_semantics.specs.Linked.{numbers_from}
use Rattle.log_replay.specs.Expected.{some_late}
pub use Rattle.fair_semantics.proofs.LateLemmas.{actor_count, actors_listed, feed_count, none_listed, some_of}

-- equal at each number
pub map_numbers : (f : ℕ → ℕ) (start : ℕ) (xs : List ℕ) → ((k : ℕ) → k < length xs → f (start + k) ≡ slice_index xs k) → map f (numbers_from start (length xs)) ≡ xs
map_numbers f start [] h = refl
map_numbers f start (x ∷ xs) h =
    let e : start + 0 ≡ start = omega arith in
    let first : f start ≡ x = ap f (sym e) ∙ h 0 (omega arith) in
    let later : (k : ℕ) → k < length xs → f (start + 1 + k) ≡ slice_index xs k = λ k l. ap f (next start k) ∙ h (suc k) (omega arith) in
    λ i. first i ∷ map_numbers f (start + 1) xs later i
  where
    next : (a k : ℕ) → a + 1 + k ≡ a + suc k
    next a k = omega arith

-- where none is listed, none is above 0
pub none_late : (late : Late) → late_counts late ≡ [] → some_late late ≡ false
none_late late e =
    let feeds = none_listed (λ k. Feed k) (λ i j. refl) 1 late.feeds (actors_listed late) e in
    let actors = none_listed (λ a. Actor a) (λ i j. refl) 0 late.actors [] (append-nil (actors_listed late) ∙ feeds.1) in
    λ i. feeds.0 i || actors.0 i
