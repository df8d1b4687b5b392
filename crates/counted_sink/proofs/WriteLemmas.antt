-- Writing piece by piece.
use Rattle.std.proofs.Common.{◌≡◌, ℕ, ◌+◌, ◌≤◌, List, [], ◌++◌, append_assoc, length, length-append, take, drop, Option, None, Some, refl, sym, ap, ◌∙◌, subst, arith}
use Rattle.std.proofs.lemmas.List.{append-nil}
use Rattle.std.proofs.Math.Seq.{take-add}
use Rattle.std.specs.Prelude.{Ok, Err}
use Rattle.join_base.specs.Outside.{WriteTells}
use Rattle.counted_sink.specs.Counting.{WriteCount, WritesFewWhereTold}
use Rattle.counted_sink.specs.Writing.{Writes}

-- a sink that tells took these bytes
abbrev pub Took : Option (List ℕ) → Option (List ℕ) → List ℕ → Type 0
Took None now written = now ≡ None
Took (Some before) now written = now ≡ Some (before ++ written)

pub took_none : (told : Option (List ℕ)) → Took told told []
took_none None = refl
took_none (Some before) = ap (λ (b : List ℕ). Some b) (sym (append-nil before))

took_more_told : (E : Type 0) (before : List ℕ) (now : Option (List ℕ)) (first piece : List ℕ) (count : ℕ) (mid : Option (List ℕ)) → mid ≡ Some (before ++ first) → WriteTells {E = E} mid now piece (Ok count)
    → now ≡ Some (before ++ (first ++ take count piece))
took_more_told E before now first piece count None is told = absurd cc
took_more_told E before now first piece count (Some mid) is told =
    let e : mid ≡ before ++ first = cc in
    told ∙ ap (λ (m : List ℕ). Some (m ++ take count piece)) e ∙ ap (λ (b : List ℕ). Some b) (append_assoc before first (take count piece))

-- a piece more
pub took_more : (E : Type 0) (start mid now : Option (List ℕ)) (first piece : List ℕ) (count : ℕ) → Took start mid first → WriteTells {E = E} mid now piece (Ok count) → Took start now (first ++ take count piece)
took_more E None mid now first piece count so_far told = let P : Option (List ℕ) → Type 0 = λ (m : Option (List ℕ)). WriteTells {E = E} m now piece (Ok count) in subst P so_far told
took_more E (Some before) mid now first piece count so_far told = took_more_told E before now first piece count mid so_far told

-- a write failed
same_told : {E : Type 0} (mid now : Option (List ℕ)) (piece : List ℕ) (fault : E) → WriteTells mid now piece (Err fault) → now ≡ mid
same_told None now piece fault told = told
same_told (Some mid) now piece fault told = told

-- it took no more than before
pub took_still : {E : Type 0} (start mid now : Option (List ℕ)) (first piece : List ℕ) (fault : E) → Took start mid first → WriteTells mid now piece (Err fault) → Took start now first
took_still None mid now first piece fault so_far told = same_told mid now piece fault told ∙ so_far
took_still (Some before) mid now first piece fault so_far told = same_told mid now piece fault told ∙ so_far

pub took_some : {E F : Type 0} (X : Type 0) (start mid now : Option (List ℕ)) (bytes first rest piece : List ℕ) (fault : E) (other : F) → bytes ≡ first ++ rest → Took start mid first → WriteTells mid now piece (Err fault)
    → Writes {X = X} start now bytes (Err other)
took_some X None mid now bytes first rest piece fault other parts so_far told = took_still None mid now first piece fault so_far told
took_some X (Some before) mid now bytes first rest piece fault other parts so_far told =
    record { written = first; rest = rest; parts = parts; taken = took_still (Some before) mid now first piece fault so_far told }

-- ---- the writes that were made

-- what was written bounds them
pub few_where_told : (start now : Option (List ℕ)) (written : List ℕ) (before after : WriteCount) (more : ℕ) → Took start now written → after.made ≤ before.made + length written + more → WritesFewWhereTold start now before after more
few_where_told None now written before after more took few = tt
few_where_told (Some taken) now written before after more took few =
    let P : Option (List ℕ) → Type 0 = λ (o : Option (List ℕ)). WritesFewWhereTold (Some taken) o before after more in
    subst P (sym took) (omega (arith, length-append taken written, few))

-- the front of some bytes with a piece of the others
pub front_more : (bytes : List ℕ) (done count : ℕ) → done + count ≤ length bytes → take done bytes ++ take count (drop done bytes) ≡ take (done + count) bytes
front_more bytes done count within = sym (take-add done count bytes)
