use Rattle.std.proofs.Common.{◌<◌, ◌≡◌, ◌∙◌, [], length, sym, ap, arith, nat_lt}
use Rattle.std.proofs.lemmas.List.{nil_from_length}
use Rattle.tree_rows.specs.Pruned.{seen_nodes}
use Rattle.tree_rows.proofs.ExpireLemmas.{front_seen, front_unseen}
use Rattle.tree_rows.proofs.expire.begins_unseen.Goals as goal

pub returns-then-len-eq0-clause-none : goal.returns-then-len-eq0-clause-none
returns-then-len-eq0-clause-none c =
    let none : c.args.row.now ≡ [] = nil_from_length c.args.row.now (sym c.len.ensures ∙ c.if-len-eq0.true) in
    λ _. ap (seen_nodes c.args.oldest) none ∙ sym none

pub returns : goal.returns
returns c =
    let row = c.args.row.now in
    let some : 0 < length row = omega (arith, c.len.ensures, c.if-len-eq0.false) in
    let same = ap (λ n. nat_lt n c.args.oldest) (sym c.number_at.ensures) in
    record {
      none = λ seen. front_seen c.args.oldest row c.requires (same ∙ seen);
      first = λ unseen. (some, front_unseen c.args.oldest row some (same ∙ unseen));
    }
