-- The law of a family of queues.
use Rattle.std.proofs.Common.{◌≡◌, ℕ, List, [], ◌∷◌, ◌++◌, Bool, true, false, refl, sym, ap, ◌∙◌, append_assoc}
use Rattle.std.specs.Prelude.{◌==◌, if◌then◌else◌}
use Rattle.std.proofs.lemmas.Bool.{eqb-true}
use Rattle.steal_pool.specs.Law.{Family, DequeLaw}
use Rattle.steal_pool.specs.Law.History.{empty, puts, takes}

-- at the queue k, where the queue j has a ticket more,
put_one : (put taken waiting : Family) (j x k : ℕ) → taken k ++ waiting k ≡ put k → (b : Bool) → (k == j) ≡ b
    → taken k ++ (if b then waiting j ++ x ∷ [] else waiting k) ≡ (if b then put j ++ x ∷ [] else put k)
put_one put taken waiting j x k before false apart = before
put_one put taken waiting j x k before true same =
    let e = eqb-true k j same in
    ap (λ (i : ℕ). taken k ++ (waiting i ++ x ∷ [])) (sym e) ∙ sym (append_assoc (taken k) (waiting k) (x ∷ []))
    ∙ ap (λ (l : List ℕ). l ++ x ∷ []) before ∙ ap (λ (i : ℕ). put i ++ x ∷ []) e

-- and where it has one fewer
take_one : (put taken waiting : Family) (j x k : ℕ) (rest : List ℕ) → waiting j ≡ x ∷ rest
    → taken k ++ waiting k ≡ put k → (b : Bool) → (k == j) ≡ b
    → (if b then taken j ++ x ∷ [] else taken k) ++ (if b then rest else waiting k) ≡ put k
take_one put taken waiting j x k rest front before false apart = before
take_one put taken waiting j x k rest front before true same =
    let e = eqb-true k j same in
    append_assoc (taken j) (x ∷ []) rest ∙ ap (λ (l : List ℕ). taken j ++ l) (sym front)
    ∙ ap (λ (i : ℕ). taken i ++ waiting i) (sym e) ∙ before

pub deque_law : DequeLaw
deque_law put taken waiting empty k = refl
deque_law put taken waiting (puts p t w j x before) k =
    put_one p t w j x k (deque_law p t w before k) (k == j) refl
deque_law put taken waiting (takes p t w j x rest front before) k =
    take_one p t w j x k rest front (deque_law p t w before k) (k == j) refl
