-- Where no arrival stands nothing was taken, and nothing is marked.
use Rattle.std.proofs.Common.{◌≡◌, ℕ, ◌≤◌, Bool, List, [], length, ap}
use Rattle.std.proofs.lemmas.Option.{slice_get_past}
use Rattle.feed_causes.specs.Causes.{Arrived, taken_at, taken_by}
use Rattle.feed_causes.specs.Search.{all_awaited, all_marked}

taken_past : (all : List Arrived) (place : ℕ) → length all ≤ place → taken_at all place ≡ []
taken_past all place past = ap (taken_by place) (slice_get_past all place past)

pub none_marked : (all : List Arrived) (place : ℕ) (marks : List Bool) → length all ≤ place → all_marked marks (taken_at all place) ≡ marks
none_marked all place marks past = ap (all_marked marks) (taken_past all place past)

pub none_awaited : (all : List Arrived) (place : ℕ) (marks : List Bool) (waiting : List ℕ) → length all ≤ place → all_awaited marks (taken_at all place) waiting ≡ waiting
none_awaited all place marks waiting past = ap (λ (places : List ℕ). all_awaited marks places waiting) (taken_past all place past)
