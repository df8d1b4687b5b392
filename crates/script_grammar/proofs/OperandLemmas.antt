-- A term of one leaf.
use Rattle.std.proofs.Common.{◌≡◌, ◌∙◌, ℕ, Bool, true, false, not, ◌&&◌, ◌==◌, List, [], ◌∷◌, ◌++◌, length, length-append, ap, sym, arith}
use Rattle.std.proofs.lemmas.Bool.{and_parts, eqb-true, not-true}
use Rattle.script_grammar.specs.declared.tree.LeafDecl.{LeafDecl}
use Rattle.script_grammar.specs.OperandViews.{plain}

-- what a list of one gives when its last is taken
pub only_last : {X : Type 0} (list front : List X) (last : X) → length list ≡ 1 → list ≡ front ++ last ∷ [] → list ≡ last ∷ []
only_last list [] last one is = is
only_last {X} list (first ∷ front) last one is = absurd (omega (arith, one, ap (λ (l : List X). length l) is, length-append (first ∷ front) (last ∷ [])))

pub plain_is : (leaf : LeafDecl) (place : ℕ) → (not leaf.minus && leaf.place == place) ≡ true → plain place leaf.part ≡ leaf
plain_is leaf place is =
    let both = and_parts (not leaf.minus) (leaf.place == place) is in
    let unsigned : leaf.minus ≡ false = not-true leaf.minus both.0 in
    let here : leaf.place ≡ place = eqb-true leaf.place place both.1 in
    let one : Path LeafDecl (plain place leaf.part) (record { place = leaf.place; minus = false; part = leaf.part }) = ap (λ (p : ℕ). record { place = p; minus = false; part = leaf.part }) (sym here) in
    let two : Path LeafDecl (record { place = leaf.place; minus = false; part = leaf.part }) leaf = ap (λ (b : Bool). record { place = leaf.place; minus = b; part = leaf.part }) (sym unsigned) in
    one ∙ two
