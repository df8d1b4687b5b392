-- Joins whose guards compare integers in the first fields of the first two patterns.
use Rattle.std.proofs.Common.{◌≡◌, ℕ, zero, suc, ◌≤◌, List, [], ◌∷◌, ◌++◌, length, replicate, true, None, sym, subst, arith, refl}
use Rattle.std.specs.Prelude.{slice_get, slice_index}
use Rattle.std.specs.List.{AllByRecursion}
use Rattle.join_base.specs.declared.message.Message.{Message}
use Rattle.join_base.specs.declared.message.Sort.{Sort}
use Rattle.guard_eval.specs.Condition.{Condition}
use Rattle.guard_eval.specs.Meaning.{Need, needs_of, has_sort}
use Rattle.pattern_core.specs.declared.definition.Definition.{Definition}
use Rattle.pattern_core.specs.Suits.{DefinitionSuits, KindHas, NeedSuits}
use Rattle.pattern_core.proofs.SuitsLemmas.{suits_empty}
use Rattle.pattern_core.proofs.AgreeLemmas.{agreeable_empty}
use Rattle.value_index.specs.Index.{no_index}
use Rattle.row_screens.proofs.LookLemmas.{unindexed}
use Rattle.matching_tests.specs.Samples.{IsSampleNeed, AreSamples, AreInts}
use Rattle.row_screens.specs.Below.{AreBelow}
use Rattle.row_screens.specs.Offering.{CanOffer}
use Rattle.match_tree.specs.Tree.{Tree, offer_to, empty_of}

kind_has : (messages : List Message) (kind field : ℕ) (sort : Sort) → field ≡ 0 → sort ≡ Sort.Int → AreInts messages → KindHas messages kind field sort
kind_has [] kind field sort e f h = tt
kind_has (m ∷ messages) kind field sort e f h =
    ((λ is. subst (λ (k : ℕ). has_sort sort (slice_get m.fields k) ≡ true) (sym e) (subst (λ (s : Sort). has_sort s (slice_get m.fields 0) ≡ true) (sym f) h.0)), kind_has messages kind field sort e f h.1)

needs_suit : (messages : List Message) (kinds : List ℕ) (needs : List Need) → 2 ≤ length kinds → AreInts messages → AllByRecursion IsSampleNeed needs → AllByRecursion (NeedSuits messages kinds) needs
needs_suit messages kinds [] few ints h = tt
needs_suit messages kinds (need ∷ needs) few ints h =
    let l = h.0.0 in
    ((omega arith, kind_has messages (slice_index kinds need.0.pattern) need.0.field need.1 h.0.1.0 h.0.1.1 ints), needs_suit messages kinds needs few ints h.1)

pub samples_suit : (messages : List Message) (d : Definition) → 2 ≤ length d.patterns → length d.patterns ≤ 8 → AreInts messages → AreSamples d.conjuncts → DefinitionSuits messages d
samples_suit messages d some few ints needs = record { some = omega arith; few = few; needs = all d.conjuncts needs }
  where
    all : (cs : List Condition) → AreSamples cs → AllByRecursion (λ c. AllByRecursion (NeedSuits messages d.patterns) (needs_of c)) cs
    all [] h = tt
    all (c ∷ cs) h = (needs_suit messages d.patterns (needs_of c) some ints h.0, all cs h.1)

below_empty : (n k : ℕ) → AreBelow n (replicate k None)
below_empty n zero = tt
below_empty n (suc k) = below_empty n k

-- the first number may be offered to the empty path
pub first_can : (messages : List Message) (t : Tree) → DefinitionSuits messages t.definition → 1 ≤ length messages → CanOffer (offer_to t messages 1) (empty_of t.definition)
first_can messages t suits some = record {
  definition = suits;
  suits = suits_empty messages t.definition.patterns;
  agreeable = agreeable_empty messages t.definition.conjuncts (length t.definition.patterns);
  indexed = unindexed no_index messages (empty_of t.definition) refl;
  recorded = (omega arith, some);
  below = below_empty 1 (length t.definition.patterns);
}

-- and so it may in a tree that was just made
pub opening_can : (messages shown : List Message) (t : Tree) (d : Definition) → shown ≡ messages → t ≡ record { definition = d; rule = 1; paths = empty_of d ∷ []; reserve = None } → DefinitionSuits messages d → 1 ≤ length messages → AllByRecursion (CanOffer (offer_to t shown 1)) t.paths
opening_can messages shown t d same opening suits some =
    let start : Tree = record { definition = d; rule = 1; paths = empty_of d ∷ []; reserve = None } in
    subst (λ (ls : List Message). AllByRecursion (CanOffer (offer_to t ls 1)) t.paths) (sym same)
    (subst (λ (u : Tree). AllByRecursion (CanOffer (offer_to u messages 1)) u.paths) (sym opening) (first_can messages start suits some, tt))

pub samples_more : (cs : List Condition) (c : Condition) → AreSamples cs → AllByRecursion IsSampleNeed (needs_of c) → AreSamples (cs ++ c ∷ [])
samples_more [] c h k = (k, tt)
samples_more (d ∷ cs) c h k = (h.0, samples_more cs c h.1 k)

pub ints_more : (messages : List Message) (m : Message) → AreInts messages → has_sort Sort.Int (slice_get m.fields 0) ≡ true → AreInts (messages ++ m ∷ [])
ints_more [] m h k = (k, tt)
ints_more (l ∷ messages) m h k = (h.0, ints_more messages m h.1 k)
