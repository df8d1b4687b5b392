use Rattle.std.proofs.Common.{◌≡◌, ◌∷◌, ◌++◌, [], None, sym, subst}
use Rattle.std.specs.Prelude.{MatchOption}
use Rattle.tree_rows.specs.Routes.{rows_routes}
use Rattle.match_tree.specs.Tree.{Tree, SameMembers}
use Rattle.match_tree.specs.Kept.{paths_of}
use Rattle.match_tree.proofs.KeptLemmas.{gains_at}
use Rattle.match_tree.proofs.tree.MatchTree.extend.Goals as goal

pub returns-clause-gains : goal.returns-clause-gains
returns-clause-gains c =
    let s = c.self.inside in
    let routes = rows_routes 0 s.rows.items in
    let reserved = subst (λ (t : Tree). MatchOption t.reserve ⊥ (λ r. (r.number ≡ c.args.number) × (r.best ≡ None))) (sym c.self.view_is) c.requires.reserved in
    subst (λ (t : Tree). MatchOption t.reserve ⊥ (λ r. SameMembers (paths_of s.definition ([] ∷ routes)) (t.paths ++ r.aside))) c.self.view_is (gains_at s.definition s.pending routes c.args.number reserved)
