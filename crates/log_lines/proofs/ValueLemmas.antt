-- Values that are read in turn.
use Rattle.std.proofs.Common.{◌≡◌, ◌∙◌, ℕ, zero, suc, ◌+◌, ◌<◌, ◌≤◌, List, [], ◌∷◌, ◌++◌, length, drop, map, get_or, Option, None, Some, refl, sym, ap, append_assoc, arith, append-nil}
use Rattle.std.proofs.lemmas.List.{drop_all}
use Rattle.join_base.specs.declared.message.Sort.{Sort}
use Rattle.join_base.specs.declared.message.Value.{Value}
use Rattle.log_lines.specs.declared.fault.LineFault.{LineFault}
use Rattle.log_lines.specs.declared.fault.LineFault.TheVariants.{NoLine, NoMemory}
use Rattle.log_lines.specs.Gives.{◌>>=◌, Fails}
use Rattle.log_lines.specs.Messages.{closed_value, closing, values_at}

abbrev pub sorts_of : List (List ℕ × Sort) → List Sort
sorts_of fields = map (λ (field : List ℕ × Sort). field.1) fields

-- the same behind values that were read
abbrev pub with_front : {X : Type 0} → List X → Option (List X × List ℕ) → Option (List X × List ℕ)
with_front front None = None
with_front front (Some p) = Some (front ++ p.0, p.1)

front_more : {X : Type 0} (front : List X) (x : X) (read : Option (List X × List ℕ)) → with_front front (read >>= λ vs. Some (x ∷ vs.0, vs.1)) ≡ with_front (front ++ x ∷ []) read
front_more front x None = refl
front_more front x (Some p) = ap (λ xs. Some (xs, p.1)) (sym (append_assoc front (x ∷ []) (p.0)))

-- the fields from one on
fields_from : (fields : List (List ℕ × Sort)) (i : ℕ) (d : List ℕ × Sort) → i < length fields → sorts_of (drop i fields) ≡ (get_or fields i d).1 ∷ sorts_of (drop (i + 1) fields)
fields_from [] i d within = absurd (omega arith)
fields_from (f ∷ fields) zero d within = refl
fields_from (f ∷ fields) (suc i) d within =
    let next : suc i + 1 ≡ suc (i + 1) = omega arith in
    fields_from fields i d (omega arith) ∙ ap (λ (n : ℕ). (get_or fields i d).1 ∷ sorts_of (drop n (f ∷ fields))) (sym next)

module _ (fields : List (List ℕ × Sort)) (i : ℕ) (field : List ℕ × Sort) (within : i < length fields) (at : field ≡ get_or fields i field) (values : List Value) (rest : List ℕ) (all : Option (List Value × List ℕ)) where
  -- what is left once the value at a place was read
  abbrev pub Behind : ℕ → Option (Value × List ℕ)
  Behind close = closed_value (field.1) close rest

  unfolds : (close : ℕ) → close ≡ closing (sorts_of (drop (i + 1) fields)) → values_at (sorts_of (drop i fields)) rest ≡ (Behind close >>= λ v. values_at (sorts_of (drop (i + 1) fields)) (v.1) >>= λ vs. Some (v.0 ∷ vs.0, vs.1))
  unfolding values_at
  unfolds close is =
      ap (λ (types : List Sort). values_at types rest) (fields_from fields i field within ∙ ap (λ (f : List ℕ × Sort). f.1 ∷ sorts_of (drop (i + 1) fields)) (sym at))
      ∙ ap (λ (n : ℕ). Behind n >>= λ v. values_at (sorts_of (drop (i + 1) fields)) (v.1) >>= λ vs. Some (v.0 ∷ vs.0, vs.1)) (sym is)

  pub one_more : (close : ℕ) (v : Value) (more : List ℕ) → close ≡ closing (sorts_of (drop (i + 1) fields)) → Behind close ≡ Some (v, more)
      → with_front values (values_at (sorts_of (drop i fields)) rest) ≡ all → with_front (values ++ v ∷ []) (values_at (sorts_of (drop (i + 1) fields)) more) ≡ all
  one_more close v more is found told =
      sym (front_more values v (values_at (sorts_of (drop (i + 1) fields)) more))
      ∙ ap (with_front values) (sym (unfolds close is ∙ ap (λ (o : Option (Value × List ℕ)). o >>= λ v. values_at (sorts_of (drop (i + 1) fields)) (v.1) >>= λ vs. Some (v.0 ∷ vs.0, vs.1)) found))
      ∙ told

  none_here : (close : ℕ) → close ≡ closing (sorts_of (drop (i + 1) fields)) → Behind close ≡ None → with_front values (values_at (sorts_of (drop i fields)) rest) ≡ all → all ≡ None
  none_here close is found told =
      sym told ∙ ap (with_front values) (unfolds close is ∙ ap (λ (o : Option (Value × List ℕ)). o >>= λ v. values_at (sorts_of (drop (i + 1) fields)) (v.1) >>= λ vs. Some (v.0 ∷ vs.0, vs.1)) found)

  pub refused : (close : ℕ) (fault : LineFault) → close ≡ closing (sorts_of (drop (i + 1) fields)) → Fails fault (Behind close) → with_front values (values_at (sorts_of (drop i fields)) rest) ≡ all → Fails fault all
  refused close NoLine is found told = none_here close is found told
  refused close NoMemory is found told = tt

pub all_read : (fields : List (List ℕ × Sort)) (i : ℕ) (values : List Value) (rest : List ℕ) (all : Option (List Value × List ℕ)) → length fields ≤ i
    → with_front values (values_at (sorts_of (drop i fields)) rest) ≡ all → all ≡ Some (values, rest)
unfolding values_at
all_read fields i values rest all past told =
    sym told
    ∙ ap (λ (l : List (List ℕ × Sort)). with_front values (values_at (sorts_of l) rest)) (drop_all i fields past)
    ∙ ap (λ (vs : List Value). Some (vs, rest)) (append-nil values)
