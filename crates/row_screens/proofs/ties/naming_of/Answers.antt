use Rattle.std.proofs.Common.{◌∙◌, ℕ, sym, arith}
use Rattle.std.specs.Prelude.{◌==◌, ◌&&◌, ◌||◌}
use Rattle.row_screens.specs.Ties.{names, needs_at}
use Rattle.row_screens.proofs.TieLemmas.{named_all, named_more, not_below}
use Rattle.row_screens.proofs.ties.naming_of.Goals as goal

pub loop-place-init : goal.loop-place-init
loop-place-init c = λ k. c.new-found.ensures.empty k ∙ sym (λ i. not_below k i && names c.args.pattern (needs_at c.args.conjuncts.now k))

pub loop-place-preserved : goal.loop-place-preserved
loop-place-preserved c =
    let a = c.args in
    let place : ℕ = c.loop-place.place in
    λ k.
    c.add_naming-found.ensures k
    ∙ (λ i. ((k == place) && names a.pattern (needs_at a.conjuncts.now place)) || c.loop-place.invariant k i)
    ∙ named_more (λ (n : ℕ). names a.pattern (needs_at a.conjuncts.now n)) place k

pub returns : goal.returns
returns c = named_all c.args.conjuncts.now c.args.pattern c.loop-place.found c.loop-place.place c.loop-place.invariant (omega (arith, c.loop-place-test.false, c.len.ensures))
