-- What one more adds: messages to a chain of fair steps, a number to those that rise by one, and an entry to the latest
-- stamp.
use Rattle.std.proofs.Common.{◌≡◌, ◌∙◌, ℕ, zero, suc, ◌+◌, List, [], ◌∷◌, ◌++◌, refl, ap, arith}
use Rattle.fair_semantics.specs.declared.run.Entry.{Entry}
use Rattle.fair_semantics.specs.Step.{last_stamp, latest_stamp, State, Setting, fair_step}
use Rattle.fair_semantics.specs.Fair.{Sent, after_all}
use Rattle.fair_semantics.specs.Linked.{numbers_from}

-- the messages behind others are taken from the state that those leave
pub after_all-append : (setting : Setting) (state : State) (first second : List Sent) → after_all setting state (first ++ second) ≡ after_all setting (after_all setting state first) second
after_all-append setting state [] second = refl
after_all-append setting state (sent ∷ first) second = after_all-append setting (fair_step setting state sent.0 sent.1.message sent.1.stamp).0 first second

pub numbers_from-more : (start n : ℕ) → numbers_from start n ++ (start + n) ∷ [] ≡ numbers_from start (n + 1)
numbers_from-more start zero = let e : start + 0 ≡ start = omega arith in ap (λ (m : ℕ). m ∷ []) e
numbers_from-more start (suc n) =
    let e : start + suc n ≡ start + 1 + n = omega arith in
    let f : suc n + 1 ≡ suc (n + 1) = omega arith in
    rw f (ap (λ (ms : List ℕ). start ∷ ms) (ap (λ (m : ℕ). numbers_from (start + 1) n ++ m ∷ []) e ∙ numbers_from-more (start + 1) n))

last_stamp-more : (before : ℕ) (entries : List Entry) (entry : Entry) → last_stamp before (entries ++ entry ∷ []) ≡ entry.stamp
last_stamp-more before [] entry = refl
last_stamp-more before (e ∷ entries) entry = last_stamp-more e.stamp entries entry

pub latest_stamp-more : (entries : List Entry) (entry : Entry) → latest_stamp (entries ++ entry ∷ []) ≡ entry.stamp
latest_stamp-more entries entry = last_stamp-more 0 entries entry
