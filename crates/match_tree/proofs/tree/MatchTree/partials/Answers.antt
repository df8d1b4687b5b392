use Rattle.std.proofs.Common.{◌∙◌, ap, length, subst, arith}
use Rattle.match_tree.specs.Tree.{Tree, AreOnce}
use Rattle.match_tree.proofs.KeptLemmas.{kept_aside, kept_count}
use Rattle.match_tree.proofs.OnceLemmas.{kept_once}
use Rattle.match_tree.proofs.tree.MatchTree.partials.Goals as goal

pub overflow_sub-result : goal.overflow_sub-result
overflow_sub-result c =
    let s = c.self.inside in
    let whole = kept_aside s.definition s.rows.items s.count s.pending c.in-Some.pending c.self.invariant c.in-Some.is in
    omega arith

pub returns-in-Some : goal.returns-in-Some
returns-in-Some c =
    let s = c.self.inside in
    record { count = kept_count s.definition s.rows.items s.count s.pending c.in-Some.pending c.self.invariant c.in-Some.is ∙ ap (λ (t : Tree). length t.paths) c.self.view_is; once = subst (λ (t : Tree). AreOnce t.paths) c.self.view_is (kept_once s.definition s.rows.items s.count s.pending c.self.invariant) }

pub returns-in-None-clause-once : goal.returns-in-None-clause-once
returns-in-None-clause-once c =
    let s = c.self.inside in
    subst (λ (t : Tree). AreOnce t.paths) c.self.view_is (kept_once s.definition s.rows.items s.count s.pending c.self.invariant)
