-- Keeping what was set aside, in all trees.
use Rattle.std.proofs.Common.{◌≡◌, ◌∙◌, ℕ, zero, suc, ◌+◌, ◌<◌, ◌≤◌, List, [], ◌∷◌, ◌++◌, length, take, drop, get_or, slice_set, Option, Some, None, refl, sym, ap, subst, arith}
use Rattle.std.specs.Prelude.{MatchOption}
use Rattle.std.specs.List.{AllByRecursion}
use Rattle.std.proofs.lemmas.List.{take_more, take_more_set, drop-set-lt, take_all, length-set}
use Rattle.join_base.specs.declared.message.Message.{Message}
use Rattle.pattern_core.specs.Window.{SeesLatest, oldest_seen}
use Rattle.match_tree.specs.Tree.{Tree, Reserve, SameMembers, IsReserved}
use Rattle.tree_rows.proofs.WalkLemmas.{all_at, left_item, left_more}
use Rattle.tree_law.specs.Partials.{number_more, offer_more}
use Rattle.tree_law.specs.Trees.{HoldAll, HasReserve, IsKeptAt, AreKept, AreKeptAt, AreSettled, AreReservedFor, best_of, expired_tree, reserve_best}
use Rattle.tree_law.proofs.TreesLemmas.{none_first}

-- where no tree has found a match, none of them has
pub none_at : (trees : List Tree) (i : ℕ) (d : Tree) → i < length trees → best_of trees ≡ None → reserve_best (get_or trees i d).reserve ≡ None
none_at [] i d within none = absurd (omega arith)
none_at (t ∷ trees) zero d within none = (none_first (reserve_best t.reserve) (best_of trees) none).0
none_at (t ∷ trees) (suc i) d within none = none_at trees i d (omega arith) (none_first (reserve_best t.reserve) (best_of trees) none).1

-- the trees so far were kept, and the others are as before
pub record IsKeeping (number : ℕ) (before now : List Tree) (i : ℕ) : Type 0 where
  pub done : AreKeptAt number (take i before) (take i now)
  pub settled : AreSettled (take i now)
  pub left : drop i now ≡ drop i before
  pub count : length now ≡ length before

pub keeping_none : (number : ℕ) (trees : List Tree) → IsKeeping number trees trees 0
keeping_none number trees = record { done = tt; settled = tt; left = refl; count = refl }

kept_last : (number : ℕ) (befores afters : List Tree) (before after : Tree) → AreKeptAt number befores afters → IsKeptAt number before after → AreKeptAt number (befores ++ before ∷ []) (afters ++ after ∷ [])
kept_last number [] [] before after h k = (k, tt)
kept_last number [] (u ∷ afters) before after h k = absurd h
kept_last number (t ∷ befores) [] before after h k = absurd h
kept_last number (t ∷ befores) (u ∷ afters) before after h k = (h.0, kept_last number befores afters before after h.1 k)

settled_last : (trees : List Tree) (tree : Tree) → AreSettled trees → tree.reserve ≡ None → AreSettled (trees ++ tree ∷ [])
settled_last [] tree h k = (k, tt)
settled_last (t ∷ trees) tree h k = (h.0, settled_last trees tree h.1 k)

pub keeping_more : (number : ℕ) (before now : List Tree) (i : ℕ) (d x : Tree) → i < length before → IsKeeping number before now i → IsKeptAt number (get_or now i d) x → x.reserve ≡ None → IsKeeping number before (slice_set now i x) (i + 1)
keeping_more number before now i d x within h kept settled =
    let inside : i < length now = omega (arith, h.count) in
    let same : get_or now i d ≡ get_or before i d = left_item now before i d h.left in
    let one = subst (λ (t : Tree). IsKeptAt number t x) same kept in
    let all = kept_last number (take i before) (take i now) (get_or before i d) x h.done one in
    let P : List Tree → List Tree → Type 0 = λ a b. AreKeptAt number a b in
    record {
      done = subst (λ (ts : List Tree). P ts (take (i + 1) (slice_set now i x))) (sym (take_more before i d within)) (subst (λ (ts : List Tree). P (take i before ++ get_or before i d ∷ []) ts) (sym (take_more_set now i x inside)) all);
      settled = subst (λ (ts : List Tree). AreSettled ts) (sym (take_more_set now i x inside)) (settled_last (take i now) x h.settled settled);
      left = drop-set-lt (i + 1) now i x (omega arith) ∙ left_more now before i h.left;
      count = length-set now i x ∙ h.count;
    }

pub keeping_all : (number : ℕ) (before now : List Tree) (i : ℕ) → length before ≤ i → IsKeeping number before now i → AreKeptAt number before now
keeping_all number before now i past h =
    let P : List Tree → List Tree → Type 0 = λ a b. AreKeptAt number a b in
    subst (λ (ts : List Tree). P ts now) (take_all i before past) (subst (λ (ts : List Tree). P (take i before) ts) (take_all i now (omega (arith, h.count))) h.done)

pub keeping_settled : (number : ℕ) (before now : List Tree) (i : ℕ) → length before ≤ i → IsKeeping number before now i → AreSettled now
keeping_settled number before now i past h = subst (λ (ts : List Tree). AreSettled ts) (take_all i now (omega (arith, h.count))) h.settled

-- a tree that is as it was
pub reserve_before : (number : ℕ) (before now : List Tree) (i : ℕ) (d : Tree) → i < length before → drop i now ≡ drop i before → AllByRecursion (HasReserve number) before → HasReserve number (get_or now i d)
reserve_before number before now i d within left all = subst (λ (t : Tree). HasReserve number t) (sym (left_item now before i d left)) (all_at (HasReserve number) before i d within all)

pub none_before : (before now : List Tree) (i : ℕ) (d : Tree) → i < length before → drop i now ≡ drop i before → best_of before ≡ None → reserve_best (get_or now i d).reserve ≡ None
none_before before now i d within left none = subst (λ (t : Tree). reserve_best t.reserve ≡ None) (sym (left_item now before i d left)) (none_at before i d within none)

-- what `extend` asks
pub may_extend : (number : ℕ) (reserve : Option Reserve) → MatchOption reserve ⊥ (λ r. r.number ≡ number) → reserve_best reserve ≡ None → MatchOption reserve ⊥ (λ r. (r.number ≡ number) × (r.best ≡ None))
may_extend number None h none = absurd h
may_extend number (Some r) h none = (h, none)

-- a tree that expired and then was extended was kept
pub kept_one : (number : ℕ) (before expired after : Tree) → expired ≡ expired_tree number before → MatchOption before.reserve ⊥ (λ r. r.number ≡ number) → after.definition ≡ expired.definition → after.rule ≡ expired.rule
    → MatchOption expired.reserve ⊥ (λ r. SameMembers after.paths (expired.paths ++ r.aside)) → IsKeptAt number before after
kept_one number before expired after is reserved definition rule gains =
    by before.reserve refl reserved (subst (λ (t : Tree). MatchOption t.reserve ⊥ (λ r. SameMembers after.paths (t.paths ++ r.aside))) is gains)
  where
    by : (o : Option Reserve) → before.reserve ≡ o → MatchOption o ⊥ (λ r. r.number ≡ number) → MatchOption o ⊥ (λ r. SameMembers after.paths ((expired_tree number before).paths ++ r.aside)) → IsKeptAt number before after
    by None had h g = absurd h
    by (Some r) had h g = record {
      definition = definition ∙ ap (λ (t : Tree). t.definition) is;
      rule = rule ∙ ap (λ (t : Tree). t.rule) is;
      reserve = r;
      had = had;
      paths = g;
    }

-- ---- for a further message

pub kept_more : (messages : List Message) (message : Message) (befores afters : List Tree) → AreKeptAt (number_more messages) befores afters → AreKept messages message befores afters
kept_more messages message [] [] h = tt
kept_more messages message [] (u ∷ afters) h = absurd h
kept_more messages message (t ∷ befores) [] h = absurd h
kept_more messages message (t ∷ befores) (u ∷ afters) h =
    (record { definition = h.0.definition; rule = h.0.rule; reserve = h.0.reserve; had = h.0.had; paths = h.0.paths }, kept_more messages message befores afters h.1)

oldest_within : (window : Option ℕ) (number : ℕ) → 1 ≤ number → SeesLatest window → oldest_seen window number ≤ number
oldest_within None number some sees = some
oldest_within (Some w) number some sees = omega arith

reserved_number : (messages : List Message) (message : Message) (tree : Tree) (o : Option Reserve) → IsReserved (offer_more messages message tree.definition tree.rule) tree.paths o → MatchOption o ⊥ (λ r. r.number ≡ number_more messages)
reserved_number messages message tree None h = absurd h
reserved_number messages message tree (Some r) h = h.0

-- trees that hold have the reserves that keeping and expiring ask for
pub have_reserves : (messages : List Message) (message : Message) (live : List ℕ) (trees : List Tree) → HoldAll messages live trees → AreReservedFor messages message trees → AllByRecursion (HasReserve (number_more messages)) trees
have_reserves messages message live [] h reserved = tt
have_reserves messages message live (t ∷ trees) h reserved =
    (record { reserved = reserved_number messages message t t.reserve reserved.0; sees = oldest_within t.definition.window (number_more messages) (omega arith) h.0.sees }, have_reserves messages message live trees h.1 reserved.1)
