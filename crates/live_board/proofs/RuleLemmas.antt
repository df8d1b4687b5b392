-- Each step on the board keeps its rule.
use Rattle.std.proofs.Common.{◌≡◌, ◌≢◌, ℕ, ap, Some, slice_get, List, [], ◌∷◌, ◌++◌, set, refl, sym, ◌∙◌, subst, ⊎_elim}
use mathlib.Core.Option.{some}
use lib.ListN.{get_elem?}
use Rattle.left_right.specs.Register.{Admits, TurnsAt, Forks, Merges}
use Rattle.atomic_table.proofs.Lists.{at_set, at_snoc}
use Rattle.join_base.proofs.EachLemmas.{each_from, each_append}
use Rattle.live_board.specs.declared.snapshot.Snapshot.{Snapshot}
use Rattle.live_board.specs.History.{front_book, front_records}
use Rattle.logbook.specs.Pages.{Book}
use Rattle.live_board.specs.BoardRule.{Begins, SeenBegin, AllBegin, SeesNext, HasSeenOf}
use Rattle.live_board.proofs.BeginLemmas.{prefix-self, prefix-trans}

pub begins-self : (p : Snapshot) → Begins p p
begins-self p = (refl, prefix-self (front_records p.front))

pub begins-trans : (p q r : Snapshot) → Begins p q → Begins q r → Begins p r
begins-trans p q r h k = (h.0 ∙ k.0, prefix-trans _ _ _ h.1 k.1)

pub seen-on : (x y : Snapshot) → Begins x y → (v : List Snapshot) → SeenBegin x v → SeenBegin y v
seen-on x y on v h = each_from (λ p. Begins p x) (λ p. Begins p y) (λ p k. begins-trans p x y k on) v h

pub admits : Admits AllBegin []
admits x views h seat v at = ⊎_elim (h seat v) (λ (e : [] ≡ v). subst (SeenBegin x) e tt) (at_snoc views [] v seat at)

-- the value goes on, or stays, and the seat sees it
pub sees : (seat : ℕ) (v : List Snapshot) (x y : Snapshot) → Begins x y → TurnsAt AllBegin seat v x y SeesNext
sees seat v x y on views h at = (
  y ∷ v,
  (λ j u e. ⊎_elim (λ (t : (j ≡ seat) × (y ∷ v ≡ u)). subst (SeenBegin y) t.1 (begins-self y, seen-on x y on v (h seat v at))) (λ (t : (j ≢ seat) × (get_elem? views j ≡ some u)). seen-on x y on u (h j u t.1))
      (at_set views seat j (y ∷ v) u e)),
  (h seat v at, refl),
)

set-begins : (x : Snapshot) (views : List (List Snapshot)) (seat : ℕ) (v : List Snapshot) → AllBegin x views → SeenBegin x v → AllBegin x (set views seat v)
set-begins x views seat v h own j u e = ⊎_elim (λ (t : (j ≡ seat) × (v ≡ u)). subst (SeenBegin x) t.1 own) (λ (t : (j ≢ seat) × (get_elem? views j ≡ some u)). h j u t.1) (at_set views seat j v u e)

pub forks : (seat : ℕ) (v : List Snapshot) → Forks AllBegin seat v v v
forks seat v x views h at j u e = ⊎_elim (set-begins x views seat v h (h seat v at) j u) (λ (same : v ≡ u). subst (SeenBegin x) same (h seat v at)) (at_snoc (set views seat v) v u j e)

pub merges : (seat : ℕ) (v : List Snapshot) (other : ℕ) (w : List Snapshot) → Merges AllBegin seat v other w (v ++ w) []
merges seat v other w x views h at apart there =
    let a = h seat v at in
    let b : SeenBegin x w = ⊎_elim (λ (t : (other ≡ seat) × (v ++ w ≡ w)). absurd (apart t.0)) (λ (t : (other ≢ seat) × (get_elem? views other ≡ some w)). h other w t.1) (at_set views seat other (v ++ w) w there) in
    set-begins x (set views seat (v ++ w)) other [] (set-begins x views seat (v ++ w) h (each_append (λ p. Begins p x) v w a b)) tt

-- a seat that has seen a board of a history sees only boards of it
pub sees-of : (b : Book) (v w : List Snapshot) (x : Snapshot) → SeesNext v x x w → HasSeenOf b v → HasSeenOf b w × (front_book x.front ≡ b)
sees-of b [] w x sees seen = absurd (let e : ⊥ = cc in e)
sees-of b (p ∷ v) w x sees seen =
    let first : front_book p.front ≡ b = cc in
    let same : front_book x.front ≡ b = sym (sees.0.0.0) ∙ first in
    (subst (HasSeenOf b) (sym sees.1) (ap Some same), same)

-- and so does one that has taken in what such a seat knows, and knew nothing
pub takes-of : (b : Book) (v w : List Snapshot) → v ≡ [] → HasSeenOf b w → HasSeenOf b (v ++ w)
takes-of b v w none seen = subst (λ (l : List Snapshot). HasSeenOf b (l ++ w)) (sym none) seen

-- what a seat saw last is of its own history
pub saw-of : (v : List Snapshot) (p : Snapshot) → slice_get v 0 ≡ Some p → HasSeenOf (front_book p.front) v
saw-of [] p saw = absurd (let e : ⊥ = cc in e)
saw-of (q ∷ v) p saw = (let same : q ≡ p = cc in ap (λ (x : Snapshot). Some (front_book x.front)) same)
