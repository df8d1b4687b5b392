-- From what a closed lock gives back to what closing a pool claims.
use Rattle.std.proofs.Common.{◌≡◌, ℕ, zero, suc, ◌+◌, ◌<◌, List, [], ◌∷◌, All, length, map, refl, sym, ap, ◌∙◌, subst, arith}
use Rattle.std.specs.Prelude.{Option, Some, None, slice_get}
use Rattle.std.proofs.lemmas.List.Elements.{All-nil, All-cons, All-weaker}
use mathlib.Core.Option.{some, some-injective}
use mathlib.Core.List.{IsPrefix}
use lib.ListN.{get_elem?}
use Rattle.turn_lock.specs.View.{IsFirst, seen_of, HasSeenAll}
use Rattle.turn_lock.specs.Steps.{AreBack}
use Rattle.actor_cells.specs.declared.cell.Cell.{Cell}
use Rattle.actor_cells.specs.declared.cell.CellTag.{CellTag}
use Rattle.actor_cells.specs.Lawful.{IsLawful, cell_tag, history_of}
use Rattle.actor_cells.specs.AllLawful.{AreLawful}
use Rattle.actor_pool.specs.declared.pool.Pool.{Pool}
use Rattle.actor_pool.specs.declared.poster.Poster.{Poster}
use Rattle.actor_pool.specs.Helpers.{SeatView, feed_count}
use Rattle.actor_pool.specs.Posters.{IsPosterOf, IsSeated}
use Rattle.actor_pool.specs.Whole.{HoldSeen}
use Rattle.actor_pool.proofs.HelperLemmas.{prefix-trans}

tags-at : (cells : List Cell) (tags : List CellTag) → length cells ≡ length tags → ((i : ℕ) (c : Cell) → get_elem? cells i ≡ some c → get_elem? tags i ≡ some (cell_tag c)) → map cell_tag cells ≡ tags
tags-at [] [] count back = refl
tags-at [] (t ∷ tags) count back = absurd (omega arith)
tags-at (c ∷ cells) [] count back = absurd (omega arith)
tags-at (c ∷ cells) (t ∷ tags) count back = λ i. some-injective (cell_tag c) t (sym (back 0 c refl)) i ∷ tags-at cells tags (omega arith) (λ j. back (suc j)) i

pub tags-back : (v : SeatView) (cells : List Cell) → AreBack cell_tag IsLawful history_of v cells → map cell_tag cells ≡ v.tags
tags-back v cells back = tags-at cells v.tags back.0 (λ i c at. (back.1 i c at).1)

all-at : (P : Cell → Type 0) (cells : List Cell) → ((i : ℕ) (c : Cell) → get_elem? cells i ≡ some c → P c) → All P cells
all-at P [] back = All-nil P
all-at P (c ∷ cells) back = All-cons P c cells (back 0 c refl) (all-at P cells (λ j. back (suc j)))

pub lawful-back : (v : SeatView) (cells : List Cell) → AreBack cell_tag IsLawful history_of v cells → AreLawful cells
lawful-back v cells back = all-at IsLawful cells (λ i c at. (back.1 i c at).0)

-- the same place, in the words of the lock
place-of : (cells : List Cell) (i : ℕ) (c : Cell) → slice_get cells i ≡ Some c → get_elem? cells i ≡ some c
place-of [] i c at = absurd (let e : ⊥ = cc in e)
place-of (x ∷ cells) zero c at = (let e : x ≡ c = cc in ap some e)
place-of (x ∷ cells) (suc i) c at = place-of cells i c at

pub seen-back : (v w : SeatView) (cells : List Cell) → HasSeenAll v w → AreBack cell_tag IsLawful history_of w cells → HoldSeen v cells
seen-back v w cells seen back actor cell at = prefix-trans _ _ _ (seen actor) (back.1 actor cell (place-of cells actor cell at)).2

-- no other helper is out, so just the posters' seats are
pub posters-out : (v : SeatView) (n m : ℕ) → n ≡ m → IsFirst (0 + m) v → IsFirst n v
posters-out v n m same first = (let e : 0 + m ≡ n = omega (arith, same) in subst (λ (k : ℕ). IsFirst k v) e first)

pub all-seated : (p : Pool) (posters : List Poster) → All (IsPosterOf p) posters → All (IsSeated p.turns) posters
all-seated p posters all k d lt = (all k d lt).seated
