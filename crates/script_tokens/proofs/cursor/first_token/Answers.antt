use Rattle.std.proofs.Common.{◌≡◌, ◌<◌, ◌≤◌, List, ℕ, length, subst, sym, ◌∙◌, rules, arith}
use Rattle.std.proofs.lemmas.List.{nil_from_length}
use Rattle.script_tokens.specs.Tokens.{IsToken}
use Rattle.script_tokens.proofs.CursorLemmas.{none_left, first_left}
use Rattle.script_tokens.proofs.cursor.first_token.Goals as goal

pub returns-then-is_empty-clause-tokens : goal.returns-then-is_empty-clause-tokens
returns-then-is_empty-clause-tokens c =
    let none : length c.skip-front.result.now ≡ 0 = search rules in
    sym (none_left c.args.size c.args.text.now (sym c.skip-front.ensures.rest ∙ nil_from_length c.skip-front.result.now none))

pub returns-clause-tokens : goal.returns-clause-tokens
returns-clause-tokens c =
    let some : 0 < length c.skip-front.result.now = search rules in
    let fits : length c.skip-front.result.now ≤ c.args.size = omega (arith, c.requires.within, c.skip-front.ensures.shorter) in
    let within : length c.split_at.result.1.now ≤ c.args.size = search rules in
    first_left c.args.size c.args.text.now c.skip-front.result.now c.split_at.result.1.now c.in_ok-kind.kind c.skip-front.ensures.rest some fits within
    (subst (λ (l : List ℕ). IsToken c.skip-front.result.now c.in_ok-kind.kind l) (sym c.split_at.ensures.back) c.in_ok-kind.ensures.token)
