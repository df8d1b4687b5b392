use Rattle.std.proofs.Common.{◌≡◌, ◌∙◌, ◌+◌, ℕ, Bool, Option, ap, sym, subst}
use Rattle.std.specs.List.{filter, AllByRecursion}
use Rattle.guard_eval.specs.Meaning.{Assignment}
use Rattle.row_screens.specs.Offering.{CanOffer}
use Rattle.match_tree.specs.Tree.{Tree, Reserve, offer_to, is_path_seen, is_path_without, IsReserved}
use Rattle.pattern_core.specs.Window.{oldest_seen}
use Rattle.match_tree.proofs.NextLemmas.{both_gains, fewer_can, kept_can, left_can}
use Rattle.matching_tests.specs.Tried.{GrowsBy}
use Rattle.matching_tests.proofs.IndexLemmas.{all_indexed}
use Rattle.matching_tests.proofs.TriedLemmas.{kept_grows, left_grows}
use Rattle.matching_tests.proofs.trees.arrive.Goals as goal
use Rattle.matching_tests.proofs.trees.arrive.Goals.{After-forget, in-None, in-Some}

pub returns-clause-can : goal.returns-clause-can
returns-clause-can g c =
    let t : Tree = c.args.tree.now in
    let messages = c.args.messages.now in
    let n : ℕ = c.args.number in
    let reserved = c.reserve_for.new.self in
    let before : Tree = c.expire.new.self in
    let q : Assignment → Bool = is_path_seen (oldest_seen reserved.definition.window n) in
    let left : before.paths ≡ filter q t.paths = ap (λ (u : Tree). u.paths) c.expire.ensures ∙ ap (filter q) c.in_ok-reserve_for.ensures.paths in
    let definition = ap (λ (u : Tree). u.definition) c.expire.ensures ∙ c.in_ok-reserve_for.ensures.definition in
    let kept = ap (λ (u : Tree). u.reserve) c.expire.ensures in
    let found = subst (λ (r : Option Reserve). IsReserved (offer_to t messages n) t.paths r) (sym kept) c.in_ok-reserve_for.ensures.reserved in
    let Can : Tree → Type 0 = λ u. AllByRecursion (CanOffer (offer_to u messages (n + 1))) u.paths in
    elim c.match-found.branch [
      | in-None w ↦
          let after : Tree = w.extend.new.self in
          let gains = both_gains before.reserve c.best_with-found.result before.paths after.paths w.in-None.is c.best_with-found.ensures.best w.extend.ensures.gains in
          subst Can (sym w.tree-is) (kept_can t before after messages n q before.reserve c.requires.recorded c.requires.can found left gains (w.extend.ensures.definition ∙ definition))
      | in-Some w ↦
          let forgot : Tree = w.forget.new.self in
          let after : Tree = w.prune.new.self in
          let p : Assignment → Bool = is_path_without w.in-Some.best.taken in
          let paths = ap (λ (u : Tree). u.paths) w.prune.ensures ∙ ap (filter p) (ap (λ (u : Tree). u.paths) w.forget.ensures ∙ left) in
          let same = ap (λ (u : Tree). u.definition) w.prune.ensures ∙ ap (λ (u : Tree). u.definition) w.forget.ensures ∙ definition in
          subst Can (sym w.tree-is) (left_can t after messages n p q c.requires.recorded c.requires.can paths same)
    ]

pub returns-clause-grows : goal.returns-clause-grows
returns-clause-grows g c =
    let t : Tree = c.args.tree.now in
    let messages = c.args.messages.now in
    let n : ℕ = c.args.number in
    let reserved = c.reserve_for.new.self in
    let before : Tree = c.expire.new.self in
    let q : Assignment → Bool = is_path_seen (oldest_seen reserved.definition.window n) in
    let left : before.paths ≡ filter q t.paths = ap (λ (u : Tree). u.paths) c.expire.ensures ∙ ap (filter q) c.in_ok-reserve_for.ensures.paths in
    let kept = ap (λ (u : Tree). u.reserve) c.expire.ensures in
    let found = subst (λ (r : Option Reserve). IsReserved (offer_to t messages n) t.paths r) (sym kept) c.in_ok-reserve_for.ensures.reserved in
    let Grows : Tree → Type 0 = λ u. GrowsBy (offer_to t messages n) t.paths u.paths in
    elim c.match-found.branch [
      | in-None w ↦
          let after : Tree = w.extend.new.self in
          let gains = both_gains before.reserve c.best_with-found.result before.paths after.paths w.in-None.is c.best_with-found.ensures.best w.extend.ensures.gains in
          subst Grows (sym w.tree-is) (kept_grows t before after messages n q before.reserve found left gains)
      | in-Some w ↦
          let after : Tree = w.prune.new.self in
          let p : Assignment → Bool = is_path_without w.in-Some.best.taken in
          let paths = ap (λ (u : Tree). u.paths) w.prune.ensures ∙ ap (filter p) (ap (λ (u : Tree). u.paths) w.forget.ensures ∙ left) in
          subst Grows (sym w.tree-is) (left_grows t after messages n p q paths)
    ]

pub reserve_for-requires-clause-indexed : goal.reserve_for-requires-clause-indexed
reserve_for-requires-clause-indexed g c = all_indexed c.args.index.now c.args.messages.now c.args.tree.now c.args.number c.requires.indexed c.requires.can

-- the paths that are left may be offered the number as well
left_offered : (g : _) (c : After-forget g) → AllByRecursion (CanOffer (offer_to c.forget.new.self c.args.messages.now c.args.number)) c.forget.new.self.paths
left_offered g c =
    let t : Tree = c.args.tree.now in
    let n : ℕ = c.args.number in
    let q : Assignment → Bool = is_path_seen (oldest_seen c.reserve_for.new.self.definition.window n) in
    let paths = ap (λ (u : Tree). u.paths) c.forget.ensures ∙ ap (λ (u : Tree). u.paths) c.expire.ensures ∙ ap (filter q) c.in_ok-reserve_for.ensures.paths in
    let definition = ap (λ (u : Tree). u.definition) c.forget.ensures ∙ ap (λ (u : Tree). u.definition) c.expire.ensures ∙ c.in_ok-reserve_for.ensures.definition in
    let rule = ap (λ (u : Tree). u.rule) c.forget.ensures ∙ ap (λ (u : Tree). u.rule) c.expire.ensures ∙ c.in_ok-reserve_for.ensures.rule in
    fewer_can t c.forget.new.self c.args.messages.now n q definition rule paths c.requires.can

pub prune-requires-clause-can : goal.prune-requires-clause-can
prune-requires-clause-can g c = left_offered g (goal.at.prune-requires-clause-can g c).After-forget

pub prune-requires-clause-indexed : goal.prune-requires-clause-indexed
prune-requires-clause-indexed g c =
    all_indexed c.args.index.now c.args.messages.now c.forget.new.self c.args.number c.requires.indexed (left_offered g (goal.at.prune-requires-clause-indexed g c).After-forget)
