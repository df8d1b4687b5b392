-- What is kept of the row, and how often its last message is tried there.
use Rattle.std.proofs.Common.{◌≡◌, ◌∙◌, inl, inr, refl, ap, sym, subst, ℕ, zero, suc, ◌≤◌, ◌<◌, List, [], ◌∷◌, ◌++◌, map, length, Bool, Option, None, Some, arith}
use Rattle.std.specs.Prelude.{MatchOption}
use Rattle.std.specs.List.{filter, AllByRecursion}
use Rattle.join_base.specs.declared.message.Message.{Message}
use Rattle.guard_eval.specs.Meaning.{Assignment}
use Rattle.pattern_core.specs.Members.{IsIn}
use Rattle.pattern_core.specs.Suits.{DefinitionSuits}
use Rattle.pattern_core.specs.Window.{oldest_seen}
use Rattle.pattern_core.proofs.MembersLemmas.{IsIn-append_left, IsIn-append_right, IsIn-append_cases, IsIn-filter_from, IsIn-flat_map, IsIn-flat_map_from}
use Rattle.value_index.specs.Index.{no_index}
use Rattle.tree_rows.specs.Routes.{with_number}
use Rattle.row_screens.specs.Offers.{Offered, growing}
use Rattle.row_screens.specs.Offering.{CanOffer}
use Rattle.match_tree.specs.Tree.{Tree, Reserve, AreOnce, IsReserved, SameMembers, empty_of, extensions, is_path_seen, offer_to, seen_paths}
use Rattle.match_tree.specs.Tries.{tried, tries}
use Rattle.tree_law.proofs.CountLemmas.{once_sum}
use Rattle.matching_tests.specs.Samples.{AreInts, AreSamples}
use Rattle.matching_tests.specs.Tried.{AreAmong, GrowsBy, kept, pair, row}
use Rattle.matching_tests.proofs.SampleLemmas.{opening_can, samples_suit}

-- ---- what a message adds

-- the paths that are kept where the number completes no match
pub kept_grows : (t before after : Tree) (messages : List Message) (n : ℕ) (q : Assignment → Bool) (reserve : Option Reserve) → IsReserved (offer_to t messages n) t.paths reserve → before.paths ≡ filter q t.paths
    → MatchOption reserve ⊥ (λ r. (r.best ≡ None) × SameMembers after.paths (before.paths ++ r.aside)) → GrowsBy (offer_to t messages n) t.paths after.paths
kept_grows t before after messages n q None reserved left gains = absurd gains
kept_grows t before after messages n q (Some r) reserved left gains = one
  where
    o : Offered
    o = offer_to t messages n

    grown : Assignment → List Assignment
    grown path = map (λ p. with_number path p o.number) (growing o path)

    one : (x : Assignment) → IsIn x after.paths → IsIn x (t.paths ++ extensions o t.paths)
    one x m = elim (IsIn-append_cases x before.paths r.aside (gains.1.to x m)) [
      | inl old ↦ IsIn-append_left x t.paths (extensions o t.paths) (IsIn-filter_from q x t.paths (subst (λ xs. IsIn x xs) left old)).0
      | inr added ↦
          let w = IsIn-flat_map_from grown x (seen_paths o t.paths) ((reserved.2 gains.0).to x added) in
          IsIn-append_right x t.paths (extensions o t.paths) (IsIn-flat_map grown (w.0) x t.paths (IsIn-filter_from (is_path_seen o.oldest) (w.0) t.paths w.1).0 w.2)
    ]

-- the paths that are left where a match fires
pub left_grows : (t after : Tree) (messages : List Message) (n : ℕ) (p q : Assignment → Bool) → after.paths ≡ filter p (filter q t.paths) → GrowsBy (offer_to t messages n) t.paths after.paths
left_grows t after messages n p q left = one
  where
    one : (x : Assignment) → IsIn x after.paths → IsIn x (t.paths ++ extensions (offer_to t messages n) t.paths)
    one x m =
        let first = (IsIn-filter_from p x (filter q t.paths) (subst (λ xs. IsIn x xs) left m)).0 in
        IsIn-append_left x t.paths (extensions (offer_to t messages n) t.paths) (IsIn-filter_from q x t.paths first).0

-- ---- the row

-- a number of the row, offered to the pair
abbrev offered : ℕ → ℕ → Offered
offered rule n = record { messages = row; index = no_index; definition = pair; rule = rule; number = n; oldest = oldest_seen pair.window n }

same_offer : (t : Tree) (messages : List Message) (n : ℕ) → messages ≡ row → t.definition ≡ pair → offer_to t messages n ≡ offered t.rule n
same_offer t messages n same definition =
    λ i. record { messages = same i; index = no_index; definition = definition i; rule = t.rule; number = n; oldest = oldest_seen (definition i).window n }

pair_suits : DefinitionSuits row pair
pair_suits =
    let first : 0 < 2 = omega arith in
    let second : 1 < 2 = omega arith in
    let samples : AreSamples pair.conjuncts = (((first, (refl, refl)), tt), (((first, (refl, refl)), ((second, (refl, refl)), tt)), tt)) in
    let ints : AreInts row = (refl, (refl, (refl, (refl, tt)))) in
    samples_suit row pair (omega arith) (omega arith) ints samples

pub first_can : (t : Tree) (messages : List Message) → messages ≡ row → t ≡ record { definition = pair; rule = 1; paths = empty_of pair ∷ []; reserve = None } → AllByRecursion (CanOffer (offer_to t messages 1)) t.paths
first_can t messages same opening = opening_can row messages t pair same opening pair_suits (omega arith)

pub first_among : (t : Tree) → t ≡ record { definition = pair; rule = 1; paths = empty_of pair ∷ []; reserve = None } → AreAmong t.paths kept
first_among t opening = subst (λ (u : Tree). AreAmong u.paths kept) (sym opening) one
  where
    one : (x : Assignment) → IsIn x (empty_of pair ∷ []) → IsIn x kept
    one x (inl e) = inl e
    one x (inr m) = absurd m

-- the first three numbers add no more than what is kept
adds_none : (rule n : ℕ) → 1 ≤ n → n < 4 → (x : Assignment) → IsIn x (extensions (offered rule n) kept) → IsIn x kept
adds_none rule zero some few x m = absurd (omega (arith, some))
adds_none rule (suc zero) some few x (inl e) = inr (inl e)
adds_none rule (suc zero) some few x (inr m) = absurd m
adds_none rule (suc (suc zero)) some few x m = absurd m
adds_none rule (suc (suc (suc zero))) some few x m = absurd m
adds_none rule (suc (suc (suc (suc n)))) some few x m = absurd (omega (arith, few))

pub among_next : (t after : Tree) (messages : List Message) (n : ℕ) → messages ≡ row → t.definition ≡ pair → 1 ≤ n → n < 4 → AreAmong t.paths kept → GrowsBy (offer_to t messages n) t.paths after.paths → AreAmong after.paths kept
among_next t after messages n same definition some few among grows = one
  where
    o : Offered
    o = offer_to t messages n

    grown : Assignment → List Assignment
    grown path = map (λ p. with_number path p o.number) (growing o path)

    one : (x : Assignment) → IsIn x after.paths → IsIn x kept
    one x m = elim (IsIn-append_cases x t.paths (extensions o t.paths) (grows x m)) [
      | inl old ↦ among x old
      | inr new ↦
          let w = IsIn-flat_map_from grown x t.paths new in
          let wide : IsIn x (extensions o kept) = IsIn-flat_map grown (w.0) x kept (among (w.0) w.1) w.2 in
          adds_none t.rule n some few x (subst (λ (q : Offered). IsIn x (extensions q kept)) (same_offer t messages n same definition) wide)
    ]

two_tries : (rule : ℕ) → tries (offered rule 4) kept ≡ 2
two_tries rule = refl

-- the fourth message is tried at what is kept, twice at most
pub tried_twice : (t : Tree) (messages : List Message) → messages ≡ row → t.definition ≡ pair → AreOnce t.paths → AreAmong t.paths kept → tries (offer_to t messages 4) t.paths ≤ 2
tried_twice t messages same definition once among =
    let o = offer_to t messages 4 in
    let few : tries o t.paths ≤ tries o kept = once_sum (λ (path : Assignment). length (tried o path)) t.paths kept once among in
    let two : tries o kept ≡ 2 = ap (λ (q : Offered). tries q kept) (same_offer t messages 4 same definition) ∙ two_tries t.rule in
    omega (arith, few, two)
