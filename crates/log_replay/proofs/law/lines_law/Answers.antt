use Rattle.log_replay.proofs.LineLemmas.{lines_are_text}
use Rattle.log_replay.proofs.law.lines_law.Goals as goal

pub returns : goal.returns
returns c = lines_are_text
