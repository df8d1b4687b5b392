use Rattle.std.proofs.Common.{◌∙◌, ap, slice_get, subst, sym}
use Rattle.guard_eval.specs.Meaning.{Assignment}
use Rattle.waiting_reasons.specs.Inside.{SuitsWith}
use Rattle.waiting_reasons.proofs.SuitLemmas.{alone_empty, alone_suit}
use Rattle.waiting_reasons.proofs.patterns.write_misfit.Goals as goal

pub write_further-requires-clause-empty : goal.write_further-requires-clause-empty
write_further-requires-clause-empty c =
    ap (λ (s : Assignment). slice_get s c.args.place) c.requires.none ∙ alone_empty c.args.rule.now.definition c.args.place c.args.kind c.requires.kind

pub write_further-requires-clause-longer : goal.write_further-requires-clause-longer
write_further-requires-clause-longer c =
    let a = c.args in
    subst (λ (s : Assignment). SuitsWith a.messages.now a.rule.now.definition.patterns s a.place a.number) (sym c.requires.none)
    (alone_suit a.messages.now a.rule.now.definition a.place a.kind a.number c.requires.kind (sym c.is_of_kind.ensures ∙ c.if-not-is_of_kind.false))
