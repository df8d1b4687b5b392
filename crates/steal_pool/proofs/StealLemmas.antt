-- How many tickets of actors a pass took.
use Rattle.std.proofs.Common.{◌≡◌, ℕ, zero, suc, ◌+◌, List, [], ◌∷◌, set, ap, ◌∙◌, arith}
use Rattle.std.specs.Prelude.{Option, None, Some, IfNone, IfSome, cond, nat_lt, slice_get, sum_by}
use Rattle.std.specs.Option.{option_to_list}
use Rattle.std.proofs.lemmas.List.Sums.{sum_by-cons, sum_by-append}
use Rattle.ready_queue.specs.View as queue
use Rattle.actor_pool.specs.declared.helper.Helper.{Helper}
use Rattle.actor_pool.specs.declared.pool.Pool.{Pool}
use Rattle.actor_pool.specs.Helpers.{IsHelperOf, HelperGoesOn, pass_of, actor_count}
use Rattle.actor_pool.specs.Working.{TakesTickets, actors_among}
use Rattle.actor_pool.proofs.WorkLemmas.{takes-none, takes-queue, takes-else}
use Rattle.steal_pool.specs.declared.view.DequeView.{DequeView}
use Rattle.steal_pool.specs.View.{with_taken, with_none}
use Rattle.steal_pool.specs.Rule.{DequeRule}
use Rattle.steal_pool.specs.Taking.{TakesOne}

-- a sum over all views, after one has changed
sum_at : (f : DequeView → ℕ) (views : List DequeView) (place : ℕ) (v w : DequeView) → slice_get views place ≡ Some v
    → sum_by f (set views place w) + f v ≡ sum_by f views + f w
sum_at f [] place v w at = absurd (let e : ⊥ = cc in e)
sum_at f (u ∷ views) zero v w at =
    let is : u ≡ v = cc in
    let same = ap f is in
    omega (arith, sum_by-cons f u views, sum_by-cons f w views, same)
sum_at f (u ∷ views) (suc place) v w at =
    let rest = sum_at f views place v w at in
    omega (arith, sum_by-cons f u views, sum_by-cons f u (set views place w), rest)

abbrev below : ℕ → DequeView → ℕ
below count v = actors_among count v.taken

-- a ticket was taken
pub took_one : (holds : List ℕ → List DequeView → Type 0) (count x : ℕ) (olds nows : List DequeView)
    → TakesOne holds x olds nows → sum_by (below count) nows ≡ sum_by (below count) olds + actors_among count (x ∷ [])
took_one holds count x olds nows one =
    let sum = sum_at (below count) olds one.place one.known (with_taken (x ∷ []) one.known) one.known_there in
    let more = sum_by-append (λ (t : ℕ). cond (nat_lt t count) 1 0) one.known.taken (x ∷ []) in
    ap (sum_by (below count)) one.taken ∙ omega (arith, sum, more)

-- how many tickets of the pool's actors were taken, by these views
abbrev total : Pool → List DequeView → ℕ
total p views = sum_by (below (actor_count p)) views

-- a ticket of the queue
pub takes_queued : (p : Pool) (x : ℕ) (olds nows : List DequeView) (a b : Helper) → nows ≡ olds → HelperGoesOn p a b
    → pass_of b ≡ queue.with_taken x (pass_of a) → TakesTickets p (x ∷ []) (total p olds) (total p nows) a b
takes_queued p x olds nows a b same on taken =
    let one = takes-queue p 0 x a b on taken in
    let kept = ap (total p) same in
    record { goes_on = on; taken = one.taken; more = one.more; counted = omega (arith, one.counted, kept) }

-- one of a deque
pub takes_own : (p : Pool) (x : ℕ) (olds mids nows : List DequeView) (a : Helper) → IsHelperOf p a → mids ≡ olds
    → TakesOne DequeRule x mids nows → TakesTickets p (x ∷ []) (total p olds) (total p nows) a a
takes_own p x olds mids nows a own same one =
    let more = took_one DequeRule (actor_count p) x mids nows one in
    let kept = ap (total p) same in
    takes-else p (total p olds) (total p nows) x a own (omega (arith, more, kept))

-- one of a deque, or none, where none was found in the queue before
pub takes_behind : (p : Pool) (found : Option ℕ) (v : DequeView) (vs olds nows : List DequeView) (a b : Helper)
    → HelperGoesOn p a b → pass_of b ≡ queue.with_none (pass_of a) → v ∷ vs ≡ olds
    → IfSome found (λ x. TakesOne DequeRule x (v ∷ vs) nows) → IfNone found (nows ≡ with_none v ∷ vs)
    → TakesTickets p (option_to_list found) (total p olds) (total p nows) a b
takes_behind p None v vs olds nows a b on refused same taken none =
    let before = takes-none p 0 a b on refused in
    let still : total p nows ≡ total p (v ∷ vs) = ap (total p) none in
    let kept = ap (total p) same in
    record { goes_on = on; taken = before.taken; more = before.more; counted = omega (arith, before.counted, still, kept) }
takes_behind p (Some x) v vs olds nows a b on refused same taken none =
    let before = takes-none p 0 a b on refused in
    let more = took_one DequeRule (actor_count p) x (v ∷ vs) nows taken in
    let kept = ap (total p) same in
    record { goes_on = on; taken = before.taken; more = before.more; counted = omega (arith, before.counted, more, kept) }
