use Rattle.std.proofs.Common.{◌++◌}
use Rattle.std.specs.Prelude.{codes}
use Rattle.std.specs.Fmt.{decimal}
use Rattle.feed_answers.proofs.LineLemmas.{both}
use Rattle.feed_answers.proofs.print.write_row.Goals as goal

pub returns : goal.returns
returns c = both c.write_labelled-2.result c.args.text.now c.write_labelled.new.text c.write_labelled-2.new.text (codes "answer feed " ++ decimal c.args.feed) (codes " row " ++ decimal c.args.row) c.in_ok-write_labelled.ensures c.write_labelled-2.ensures
