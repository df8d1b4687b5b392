use Rattle.std.proofs.Common.{◌∙◌, Some, sym}
use Rattle.std.proofs.lemmas.Bool.Decides.{Decides-eqb}
use Rattle.std.proofs.lemmas.Slice.Eq.{strip_prefix_is}
use Rattle.log_replay.proofs.ProgressLemmas.{piece_stands}
use Rattle.log_replay.proofs.apart.along.Goals as goal

pub returns-in-Some-clause-progress : goal.returns-in-Some-clause-progress
returns-in-Some-clause-progress c =
    sym
    (piece_stands c.args.bytes.now c.args.place c.args.piece.now c.in-Some.field-0.now c.requires.within (sym c.split_at.ensures.back ∙ strip_prefix_is Decides-eqb c.split_at.result.1.now c.args.piece.now (Some c.in-Some.field-0) c.in-Some.ensures.cases))
