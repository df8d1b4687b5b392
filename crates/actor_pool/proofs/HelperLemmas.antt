-- Facts on helpers that go on, over plain data.
use Rattle.std.proofs.Common.{◌≡◌, ℕ, zero, suc, ◌+◌, ◌≤◌, List, [], ◌∷◌, ◌++◌, refl, sym, ap, ◌∙◌, subst, arith, append_assoc, get_or, set}
use Rattle.std.proofs.lemmas.List.{append-nil}
use mathlib.Core.List.{IsPrefix}
use Rattle.turn_lock.specs.declared.view.Turn.TheVariants.{Free}
use Rattle.turn_lock.specs.declared.view.Role.{Role}
use Rattle.turn_lock.specs.declared.view.Role.TheVariants.{First, Other, Spent}
use Rattle.turn_lock.specs.View.{HasSeenAll, IsFirst, seen_of, flagged, unmarked, released}
use Rattle.turn_lock.specs.Steps.{Gets, GivesBack}
use Rattle.turn_lock.specs.Seats.{view_of, IsSameSeat}
use Rattle.ready_queue.specs.Passes.{view_of as pass_view, IsSamePass}
use Rattle.actor_cells.specs.declared.cell.Cell.{Cell}
use Rattle.actor_cells.specs.History.{History}
use Rattle.actor_cells.specs.Lawful.{IsLawful, cell_tag, history_of, tally_of}
use Rattle.actor_cells.specs.Served.{StaysLawful}
use Rattle.actor_pool.specs.declared.helper.Helper.{Helper}
use Rattle.actor_pool.specs.declared.pool.Pool.{Pool}
use Rattle.actor_pool.specs.Turning.{HadTurn, TakesTurn}
use Rattle.actor_pool.specs.Helpers.{SeatView, IsHelperOf, HelperGoesOn, seat_of, pass_of}

pub prefix-refl : {X : Type 0} (a : List X) → IsPrefix a a
prefix-refl a = ([], append-nil a)

pub prefix-trans : {X : Type 0} (a b c : List X) → IsPrefix a b → IsPrefix b c → IsPrefix a c
prefix-trans a b c p q = (p.0 ++ q.0, sym (append_assoc a p.0 q.0) ∙ ap (λ l. l ++ q.0) p.1 ∙ q.1)

-- one of the lists seen goes on
seen-set : {E : Type 0} (xs : List (List E)) (i : ℕ) (log : List E) → IsPrefix (get_or xs i []) log → (j : ℕ) → IsPrefix (get_or xs j []) (get_or (set xs i log) j [])
seen-set [] i log pre j = prefix-refl _
seen-set (x ∷ xs) zero log pre zero = pre
seen-set (x ∷ xs) zero log pre (suc j) = prefix-refl _
seen-set (x ∷ xs) (suc i) log pre zero = prefix-refl _
seen-set (x ∷ xs) (suc i) log pre (suc j) = seen-set xs i log pre j

-- what a turn leaves of the view of its seat
pub record Went (i : ℕ) (c d : Cell) (v w : SeatView) : Type 0 where
  pub free : w.turn ≡ Free
  pub role : w.role ≡ v.role
  pub tags : w.tags ≡ v.tags
  pub seen : HasSeenAll v w
  pub tries : v.tries ≤ w.tries
  pub claims : v.claims ≤ w.claims
  pub had : HadTurn i v w
  pub found_is : w.found ≡ tally_of c ∷ []
  pub left_is : w.left ≡ tally_of d ∷ []

turn-done : (i : ℕ) (v w1 w : SeatView) (c d : Cell) (word : ℕ) → Gets cell_tag IsLawful history_of tally_of i v c w1 → IsPrefix (history_of c) (history_of d)
    → GivesBack history_of tally_of i w1 d word w → Went i c d v w
turn-done i v w1 w c d word got kept back =
    let is = back ∙ ap (released i word (history_of d) (tally_of d)) got.0.4 in record {
      free = ap (λ (x : SeatView). x.turn) is;
      role = ap (λ (x : SeatView). x.role) is;
      tags = ap (λ (x : SeatView). x.tags) is;
      seen = λ j. subst (λ (l : List History). IsPrefix (seen_of v j) (get_or l j [])) (sym (ap (λ (x : SeatView). x.seen) is)) (seen-set v.seen i (history_of d) (prefix-trans _ _ _ got.3 kept) j);
      tries = (let e = ap (λ (x : SeatView). x.tries) is in omega (arith, e));
      claims = (let e = ap (λ (x : SeatView). x.claims) is in omega (arith, e));
      had = record {
        tries = (let e = ap (λ (x : SeatView). x.tries) is in omega (arith, e));
        claims = (let e = ap (λ (x : SeatView). x.claims) is in omega (arith, e));
        latest = (word, ap (λ (x : SeatView). x.latest) is);
      };
      found_is = ap (λ (x : SeatView). x.found) is;
      left_is = ap (λ (x : SeatView). x.left) is;
    }

pub turn-went : (i k : ℕ) (v w1 w : SeatView) (c c0 d : Cell) (word : ℕ) → k ≡ i → c0 ≡ c → Gets cell_tag IsLawful history_of tally_of i v c w1 → StaysLawful c0 d
    → GivesBack history_of tally_of k w1 d word w → Went i c d v w
turn-went i k v w1 w c c0 d word at here got kept back =
    turn-done i v w1 w c d word got (subst (λ (x : Cell). IsPrefix (history_of x) (history_of d)) here kept.history) (subst (λ (m : ℕ). GivesBack history_of tally_of m w1 d word w) at back)

-- the turn of which the clauses of `turn` speak
pub turn-taken : (i k : ℕ) (v w1 w : SeatView) (c c0 d : Cell) (word : ℕ) → k ≡ i → c0 ≡ c → Gets cell_tag IsLawful history_of tally_of i v c w1 → StaysLawful c0 d
    → GivesBack history_of tally_of k w1 d word w → TakesTurn i c d v w
turn-taken i k v w1 w c c0 d word at here got kept back =
    let went = turn-went i k v w1 w c c0 d word at here got kept back in record {
      had = went.had;
      during = w1;
      got = got;
      kept = subst (λ (x : Cell). StaysLawful x d) here kept;
      back = (word, subst (λ (m : ℕ). GivesBack history_of tally_of m w1 d word w) at back);
      tally_found = went.found_is;
      tally_left = went.left_is;
    }

pub went-goes : (p : Pool) (a b : Helper) (i : ℕ) (c d : Cell) → IsHelperOf p a → b.seat.seat.table_id ≡ a.seat.seat.table_id → b.pass ≡ a.pass → Went i c d (seat_of a) (seat_of b) → HelperGoesOn p a b
went-goes p a b i c d belongs same kept went = record {
  own = record { seat = same ∙ belongs.seat; pass = ap (λ q. q.pass.table_id) kept ∙ belongs.pass; free = went.free };
  role = went.role;
  tags = went.tags;
  seen = went.seen;
  tries = went.tries;
  claims = went.claims;
  nones = (let e = ap (λ q. (pass_view q).nones) kept in omega (arith, e));
}

pub stays : (p : Pool) (a : Helper) → IsHelperOf p a → HelperGoesOn p a a
stays p a own = record { own = own; role = refl; tags = refl; seen = λ j. prefix-refl _; tries = omega arith; claims = omega arith; nones = omega arith }

pub goes-further : (p : Pool) (a b c : Helper) → HelperGoesOn p a b → HelperGoesOn p b c → HelperGoesOn p a c
goes-further p a b c h k = record {
  own = k.own;
  role = k.role ∙ h.role;
  tags = k.tags ∙ h.tags;
  seen = λ j. prefix-trans _ _ _ (h.seen j) (k.seen j);
  tries = omega (arith, h.tries, k.tries);
  claims = omega (arith, h.claims, k.claims);
  nones = omega (arith, h.nones, k.nones);
}

abbrev number_of : Role → ℕ
number_of (First n) = n
number_of Other = 0
number_of Spent = 0

-- one seat fewer is out
pub one-fewer : (n k : ℕ) (v w : SeatView) → k ≡ n + 1 → IsFirst k v → (out : ℕ) × IsFirst (out + 1) v × IsFirst out w → IsFirst n w
one-fewer n k v w more first out =
    let same : out.0 + 1 ≡ k = ap number_of (sym out.1 ∙ first) in
    let e : out.0 ≡ n = omega (arith, same, more) in
    subst (λ (m : ℕ). IsFirst m w) e out.2

-- a step that adds nothing to what is seen and leaves the tries and claims, or adds to them
stepped : (p : Pool) (a b : Helper) (w : SeatView) → IsHelperOf p a → IsSameSeat a.seat b.seat → b.pass ≡ a.pass → seat_of b ≡ w
    → w.turn ≡ (seat_of a).turn → w.role ≡ (seat_of a).role → w.tags ≡ (seat_of a).tags → w.seen ≡ (seat_of a).seen → (seat_of a).tries ≤ w.tries → (seat_of a).claims ≤ w.claims → HelperGoesOn p a b
stepped p a b w belongs same kept is t r g s m n = record {
  own = record { seat = same.0 ∙ belongs.seat; pass = ap (λ q. q.pass.table_id) kept ∙ belongs.pass; free = ap (λ (x : SeatView). x.turn) is ∙ t ∙ belongs.free };
  role = ap (λ (x : SeatView). x.role) is ∙ r;
  tags = ap (λ (x : SeatView). x.tags) is ∙ g;
  seen = λ j. subst (λ (l : List History). IsPrefix (seen_of (seat_of a) j) (get_or l j [])) (sym (ap (λ (x : SeatView). x.seen) is ∙ s)) (prefix-refl _);
  tries = (let e = ap (λ (x : SeatView). x.tries) is in omega (arith, e, m));
  claims = (let e = ap (λ (x : SeatView). x.claims) is in omega (arith, e, n));
  nones = (let e = ap (λ q. (pass_view q).nones) kept in omega (arith, e));
}

pub flag-goes : (p : Pool) (a b : Helper) (i : ℕ) → IsHelperOf p a → IsSameSeat a.seat b.seat → b.pass ≡ a.pass → (word : ℕ) × (seat_of b ≡ flagged i word (seat_of a)) → HelperGoesOn p a b
flag-goes p a b i own same kept step = stepped p a b (flagged i step.0 (seat_of a)) own same kept step.1 refl refl refl refl (omega arith) (omega arith)

pub unmark-goes : (p : Pool) (a b : Helper) (i : ℕ) → IsHelperOf p a → IsSameSeat a.seat b.seat → b.pass ≡ a.pass → (word : ℕ) × (seat_of b ≡ unmarked i word (seat_of a)) → HelperGoesOn p a b
unmark-goes p a b i own same kept step = stepped p a b (unmarked i step.0 (seat_of a)) own same kept step.1 refl refl refl refl (omega arith) (omega arith)

-- the same seat, and another look at the queue
pub took : (p : Pool) (a b : Helper) → IsHelperOf p a → IsSamePass a.pass b.pass → b.seat ≡ a.seat → (pass_of a).nones ≤ (pass_of b).nones → HelperGoesOn p a b
took p a b belongs same seat fewer =
    let is = ap (λ s. view_of s) seat in record {
      own = record { seat = ap (λ s. s.seat.table_id) seat ∙ belongs.seat; pass = same.0 ∙ belongs.pass; free = ap (λ (x : SeatView). x.turn) is ∙ belongs.free };
      role = ap (λ (x : SeatView). x.role) is;
      tags = ap (λ (x : SeatView). x.tags) is;
      seen = λ j. subst (λ (x : SeatView). IsPrefix (seen_of (seat_of a) j) (seen_of x j)) (sym is) (prefix-refl _);
      tries = (let e = ap (λ (x : SeatView). x.tries) is in omega (arith, e));
      claims = (let e = ap (λ (x : SeatView). x.claims) is in omega (arith, e));
      nones = fewer;
    }
