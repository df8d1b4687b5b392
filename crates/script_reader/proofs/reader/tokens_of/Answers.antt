use Rattle.std.proofs.lemmas.Result.{IfOk-weaker}
use Rattle.script_reader.proofs.SpellsLemmas.{reads_tree}
use Rattle.script_reader.proofs.reader.tokens_of.Goals as goal

pub returns : goal.returns
returns c = IfOk-weaker c.new.result _ _ (λ tokens cut. reads_tree c.one_list.ensures.one c.args.bytes.now tokens cut) c.new.ensures
