use Rattle.std.proofs.Common.{◌≡◌, ◌<◌, ◌≤◌, List, ℕ, length, subst, sym, ◌∙◌, rules, arith}
use Rattle.std.proofs.lemmas.List.{nil_from_length}
use Rattle.script_tokens.specs.Tokens.{IsToken}
use Rattle.script_tokens.proofs.ListLemmas.{kept_more}
use Rattle.script_tokens.proofs.TokenLemmas.{front_end, front_next}
use Rattle.script_tokens.proofs.lexer.push_tokens.Goals as goal

pub returns-then-is_empty-clause-pushed : goal.returns-then-is_empty-clause-pushed
returns-then-is_empty-clause-pushed c =
    let none : length c.skip-front.result.now ≡ 0 = search rules in
    front_end c.args.text.now c.loop.tokens.items c.loop.left.now c.loop.invariant.front (sym c.skip-front.ensures.rest ∙ nil_from_length c.skip-front.result.now none)

pub loop-preserved : goal.loop-preserved
loop-preserved c =
    let some : 0 < length c.skip-front.result.now = search rules in
    let fits : length c.skip-front.result.now ≤ length c.args.text.now = omega arith in
    record {
      shorter = omega (arith, c.in_ok-kind.ensures.fits);
      front = front_next c.args.text.now c.loop.tokens.items c.push.new.self.items c.loop.left.now c.skip-front.result.now c.split_at.result.1.now c.in_ok-kind.kind
          c.loop.invariant.front c.skip-front.ensures.rest some fits
          (subst (λ (l : List ℕ). IsToken c.skip-front.result.now c.in_ok-kind.kind l) (sym c.split_at.ensures.back) c.in_ok-kind.ensures.token)
          (sym c.if-is_bad.ensures) c.in_ok-push.ensures.items;
      counted = search rules;
      kept = rw c.in_ok-push.ensures.items (kept_more c.args.tokens.now.items c.loop.tokens.items _ c.loop.invariant.kept);
    }
