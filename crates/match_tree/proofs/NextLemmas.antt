-- The paths of a tree may be offered the number behind the one that they were offered.
use Rattle.std.proofs.Common.{◌≡◌, inl, inr, ◌∙◌, ℕ, ◌+◌, ◌<◌, ◌≤◌, List, [], ◌∷◌, ◌++◌, map, length, Bool, Option, None, Some, refl, sym, subst, arith}
use Rattle.std.specs.Prelude.{MatchOption}
use Rattle.std.specs.List.{filter, AllByRecursion}
use Rattle.join_base.specs.declared.message.Message.{Message}
use Rattle.guard_eval.specs.Meaning.{Assignment}
use Rattle.pattern_core.specs.declared.candidate.Candidate.{Candidate}
use Rattle.pattern_core.specs.declared.definition.Definition.{Definition}
use Rattle.pattern_core.specs.Members.{IsIn}
use Rattle.pattern_core.specs.Window.{SeesLatest, oldest_seen}
use Rattle.pattern_core.proofs.MembersLemmas.{IsIn-append_cases, IsIn-map_from, IsIn-filter_from, IsIn-flat_map_from}
use Rattle.value_index.specs.Index.{no_index}
use Rattle.join_base.proofs.EachLemmas.{each_filter}
use Rattle.tree_rows.specs.Routes.{with_number}
use Rattle.row_screens.specs.Offers.{Offered, places, may_take, takers, leaves_one_free, growing}
use Rattle.row_screens.specs.Below.{AreBelow}
use Rattle.row_screens.specs.Offering.{CanOffer}
use Rattle.match_tree.specs.Tree.{Tree, Reserve, offer_to, seen_paths, is_path_seen, extensions, SameMembers, IsReserved}
use Rattle.row_screens.proofs.SlotsLemmas.{below_further}
use Rattle.row_screens.proofs.MemberLemmas.{all_in}
use Rattle.match_tree.proofs.FirstLemmas.{all_members}
use Rattle.row_screens.proofs.LookLemmas.{unindexed}
use Rattle.row_screens.proofs.MatchLemmas.{suits_with, agrees_with}

below_next : (n : ℕ) (slots : Assignment) → AreBelow n slots → AreBelow (n + 1) slots
below_next n [] h = tt
below_next n (None ∷ slots) h = below_next n slots h
below_next n (Some k ∷ slots) h = (let l = h.0 in omega arith, below_next n slots h.1)

-- the same path, and the number behind
can_next : (t u : Tree) (messages : List Message) (n : ℕ) (slots : Assignment) → u.definition ≡ t.definition → n < length messages → CanOffer (offer_to t messages n) slots → CanOffer (offer_to u messages (n + 1)) slots
can_next t u messages n slots same within can =
    let Suits : Definition → Type 0 = λ d. CanOffer (record { messages = messages; index = no_index; definition = d; rule = u.rule; number = n + 1; oldest = oldest_seen d.window (n + 1) }) slots in
    subst Suits (sym same) (record { definition = can.definition; suits = can.suits; agreeable = can.agreeable; indexed = unindexed no_index messages slots refl; recorded = (omega arith, omega arith); below = below_next n slots can.below })

-- a path that has the number, and the number behind
can_grown : (t u : Tree) (messages : List Message) (n p : ℕ) (slots : Assignment) → u.definition ≡ t.definition → n < length messages → CanOffer (offer_to t messages n) slots → IsIn p (growing (offer_to t messages n) slots)
    → CanOffer (offer_to u messages (n + 1)) (with_number slots p n)
can_grown t u messages n p slots same within can m =
    let o : Offered = offer_to t messages n in
    let taken = IsIn-filter_from (leaves_one_free o slots) p (takers o slots) m in
    let may = (IsIn-filter_from (may_take o slots) p (places 0 o.definition.patterns) taken.0).1 in
    let Suits : Definition → Type 0 = λ d. CanOffer (record { messages = messages; index = no_index; definition = d; rule = u.rule; number = n + 1; oldest = oldest_seen d.window (n + 1) }) (with_number slots p n) in
    subst Suits (sym same) (record {
      definition = can.definition;
      suits = suits_with o slots p can may;
      agreeable = agrees_with o slots p may;
      indexed = unindexed no_index messages (with_number slots p n) refl;
      recorded = (omega arith, omega arith);
      below = below_further slots p n (n + 1) (below_next n slots can.below) (omega arith);
    })

-- the paths that are kept where the number completes no match
pub kept_can : (t before after : Tree) (messages : List Message) (n : ℕ) (q : Assignment → Bool) (reserve : Option Reserve) → n < length messages → AllByRecursion (CanOffer (offer_to t messages n)) t.paths → IsReserved (offer_to t messages n) t.paths reserve
    → before.paths ≡ filter q t.paths → MatchOption reserve ⊥ (λ r. (r.best ≡ None) × SameMembers after.paths (before.paths ++ r.aside)) → after.definition ≡ t.definition
    → AllByRecursion (CanOffer (offer_to after messages (n + 1))) after.paths
kept_can t before after messages n q None within can reserved left gains same = absurd gains
kept_can t before after messages n q (Some r) within can reserved left gains same = all_members (CanOffer (offer_to after messages (n + 1))) after.paths one
  where
    o : Offered
    o = offer_to t messages n

    at : (x : Assignment) → IsIn x t.paths → CanOffer o x
    at x m = all_in (CanOffer o) t.paths x can m

    new : (x : Assignment) → IsIn x (extensions o (seen_paths o t.paths)) → CanOffer (offer_to after messages (n + 1)) x
    new x m =
        let w = IsIn-flat_map_from (λ path. map (λ p. with_number path p o.number) (growing o path)) x (seen_paths o t.paths) m in
        let v = IsIn-map_from (λ p. with_number (w.0) p o.number) x (growing o (w.0)) w.2 in
        let old = (IsIn-filter_from (is_path_seen o.oldest) (w.0) t.paths w.1).0 in
        subst (CanOffer (offer_to after messages (n + 1))) v.2 (can_grown t after messages n (v.0) (w.0) same within (at (w.0) old) v.1)

    one : (x : Assignment) → IsIn x after.paths → CanOffer (offer_to after messages (n + 1)) x
    one x m = elim (IsIn-append_cases x before.paths r.aside (gains.1.to x m)) [
      | inl old ↦ can_next t after messages n x same within (at x (IsIn-filter_from q x t.paths (subst (λ xs. IsIn x xs) left old)).0)
      | inr added ↦ new x ((reserved.2 gains.0).to x added)
    ]

-- the paths that are left where a match fires
pub left_can : (t after : Tree) (messages : List Message) (n : ℕ) (p q : Assignment → Bool) → n < length messages → AllByRecursion (CanOffer (offer_to t messages n)) t.paths → after.paths ≡ filter p (filter q t.paths) → after.definition ≡ t.definition
    → AllByRecursion (CanOffer (offer_to after messages (n + 1))) after.paths
left_can t after messages n p q within can left same = all_members (CanOffer (offer_to after messages (n + 1))) after.paths one
  where
    one : (x : Assignment) → IsIn x after.paths → CanOffer (offer_to after messages (n + 1)) x
    one x m =
        let first = (IsIn-filter_from p x (filter q t.paths) (subst (λ xs. IsIn x xs) left m)).0 in
        can_next t after messages n x same within (all_in (CanOffer (offer_to t messages n)) t.paths x can (IsIn-filter_from q x t.paths first).0)

-- the paths that are still seen
pub fewer_can : (t u : Tree) (messages : List Message) (n : ℕ) (q : Assignment → Bool) → u.definition ≡ t.definition → u.rule ≡ t.rule → u.paths ≡ filter q t.paths → AllByRecursion (CanOffer (offer_to t messages n)) t.paths → AllByRecursion (CanOffer (offer_to u messages n)) u.paths
fewer_can t u messages n q definition rule paths can =
    let same : offer_to t messages n ≡ offer_to u messages n = λ i. record { messages = messages; index = no_index; definition = sym definition i; rule = sym rule i; number = n; oldest = oldest_seen (sym definition i).window n } in
    let P : Offered × List Assignment → Type 0 = λ x. AllByRecursion (CanOffer x.0) x.1 in
    subst P (λ i. (same i, sym paths i)) (each_filter (CanOffer (offer_to t messages n)) q t.paths can)

pub sees_itself : (window : Option ℕ) (n : ℕ) → SeesLatest window → 1 ≤ n → oldest_seen window n ≤ n
sees_itself None n sees some = some
sees_itself (Some w) n sees some = omega arith

-- what is kept where there is no match
pub both_gains : (reserve : Option Reserve) (best : Option Candidate) (before after : List Assignment) → best ≡ None → MatchOption reserve (best ≡ None) (λ r. best ≡ r.best) → MatchOption reserve ⊥ (λ r. SameMembers after (before ++ r.aside))
    → MatchOption reserve ⊥ (λ r. (r.best ≡ None) × SameMembers after (before ++ r.aside))
both_gains None best before after none is gains = gains
both_gains (Some r) best before after none is gains = (sym is ∙ none, gains)
