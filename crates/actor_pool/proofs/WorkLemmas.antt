-- Facts on what a worker does, step by step.
use Rattle.std.proofs.Common.{◌≡◌, ℕ, ◌+◌, ◌≤◌, List, [], ◌∷◌, ◌++◌, Bool, true, false, refl, sym, ap, ◌∙◌, arith, append_assoc, inl, inr}
use Rattle.std.specs.Prelude.{cond, nat_lt}
use Rattle.std.proofs.lemmas.Bool.{le-ltb}
use Rattle.std.proofs.lemmas.List.{append-nil}
use Rattle.std.proofs.lemmas.List.Sums.{sum_by-append, sum_by-cons}
use Rattle.actor_pool.specs.declared.helper.Helper.{Helper}
use Rattle.actor_pool.specs.declared.pool.Pool.{Pool}
use Rattle.ready_queue.specs.declared.view.PassView.{PassView}
use Rattle.ready_queue.specs.View.{with_taken, with_none}
use Rattle.actor_pool.specs.Helpers.{SeatView, HelperGoesOn, seat_of, pass_of, actor_count}
use Rattle.actor_pool.specs.Announcing.{Announces}
use Rattle.actor_pool.specs.Working.{Works, WorksFrom, TakesTickets, actors_among}
use Rattle.actor_pool.proofs.HelperLemmas.{goes-further, stays}
use Rattle.actor_pool.specs.Helpers.{IsHelperOf}

abbrev one_if : Pool → ℕ → ℕ
one_if p ticket = cond (nat_lt ticket (actor_count p)) 1 0

among-one : (p : Pool) (x : ℕ) → actors_among (actor_count p) (x ∷ []) ≡ one_if p x
among-one p x = (let one = sum_by-cons (one_if p) x [] in omega (arith, one))

few : (p : Pool) (x : ℕ) → actors_among (actor_count p) (x ∷ []) ≤ 1
few p x = let one = among-one p x in let most = at_most (nat_lt x (actor_count p)) in omega arith
  where
    at_most : (b : Bool) → cond b 1 0 ≤ 1
    at_most true = omega arith
    at_most false = omega arith

-- a number that is no actor's
none-among : (p : Pool) (x : ℕ) → actor_count p ≤ x → actors_among (actor_count p) (x ∷ []) ≡ 0
none-among p x large = among-one p x ∙ ap (λ (b : Bool). cond b 1 0) (le-ltb x (actor_count p) large)

-- nothing was done
pub works-not : (p : Pool) (n : ℕ) (a : Helper) → IsHelperOf p a → WorksFrom p n n a a
works-not p n a own = record { goes_on = stays p a own; taken = []; more = sym (append-nil (pass_of a).taken); claims = omega arith }

pub works-further : (p : Pool) (k m n : ℕ) (a b c : Helper) → WorksFrom p k m a b → WorksFrom p m n b c → WorksFrom p k n a c
works-further p k m n a b c h j = record {
  goes_on = goes-further p a b c h.goes_on j.goes_on;
  taken = h.taken ++ j.taken;
  more = j.more ∙ ap (λ (l : List ℕ). l ++ j.taken) h.more ∙ append_assoc (pass_of a).taken h.taken j.taken;
  claims = omega (arith, h.claims, j.claims, sum_by-append (λ (t : ℕ). cond (nat_lt t (actor_count p)) 1 0) h.taken j.taken);
}

-- no ticket was found
pub works-none : (p : Pool) (m n : ℕ) (a b : Helper) → TakesTickets p [] m n a b → WorksFrom p m n a b
works-none p m n a b h = record { goes_on = h.goes_on; taken = h.taken; more = h.more; claims = omega (arith, h.goes_on.claims, h.counted) }

-- the ticket is no actor's
pub works-passed : (p : Pool) (m n x : ℕ) (a b : Helper) → actor_count p ≤ x → TakesTickets p (x ∷ []) m n a b → WorksFrom p m n a b
works-passed p m n x a b large h =
    let none = none-among p x large in
    record { goes_on = h.goes_on; taken = h.taken; more = h.more; claims = omega (arith, h.goes_on.claims, h.counted, none) }

-- a ticket was taken, and a claim made
pub works-one : (p : Pool) (m n k x : ℕ) (a b c : Helper) → TakesTickets p (x ∷ []) m n a b → HelperGoesOn p b c → (pass_of c).taken ≡ (pass_of b).taken → k ≡ n → (seat_of b).claims + 1 ≤ (seat_of c).claims → WorksFrom p m k a c
works-one p m n k x a b c h on still same claimed = record {
  goes_on = goes-further p a b c h.goes_on on;
  taken = h.taken;
  more = still ∙ h.more;
  claims = (let one = few p x in omega (arith, h.goes_on.claims, h.counted, claimed, one, same));
}

-- all tickets are of the pool's queue
pub works-queue : (p : Pool) (a b : Helper) → WorksFrom p 0 0 a b → Works p a b
works-queue p a b h = record { goes_on = h.goes_on; taken = h.taken; more = h.more; claims = omega (arith, h.claims) }

-- a ticket of the pool's queue, or none
pub takes-queue : (p : Pool) (n x : ℕ) (a b : Helper) → HelperGoesOn p a b → pass_of b ≡ with_taken x (pass_of a) → TakesTickets p (x ∷ []) n n a b
takes-queue p n x a b on taken = record { goes_on = on; taken = x ∷ []; more = ap (λ (q : PassView). q.taken) taken; counted = refl }

pub takes-none : (p : Pool) (n : ℕ) (a b : Helper) → HelperGoesOn p a b → pass_of b ≡ with_none (pass_of a) → TakesTickets p [] n n a b
takes-none p n a b on refused = record { goes_on = on; taken = []; more = ap (λ (q : PassView). q.taken) refused ∙ sym (append-nil (pass_of a).taken); counted = refl }

-- a ticket that was taken elsewhere
pub takes-else : (p : Pool) (m n x : ℕ) (a : Helper) → IsHelperOf p a → n ≡ m + actors_among (actor_count p) (x ∷ []) → TakesTickets p (x ∷ []) m n a a
takes-else p m n x a own more = record { goes_on = stays p a own; taken = []; more = sym (append-nil (pass_of a).taken); counted = omega (arith, more) }

-- an announcement takes no ticket
pub announces-taken : (i : ℕ) (v w : SeatView) (p q : PassView) → Announces i v p w q → q.taken ≡ p.taken
announces-taken i v w p q (inl h) = ap (λ (x : PassView). x.taken) h.3
announces-taken i v w p q (inr (inl h)) = ap (λ (x : PassView). x.taken) h.3
announces-taken i v w p q (inr (inr h)) = ap (λ (x : PassView). x.taken) h.3
