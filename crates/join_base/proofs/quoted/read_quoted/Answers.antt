use Rattle.std.proofs.Common.{rules, arith}
use Rattle.join_base.proofs.TextLemmas.{text_within}
use Rattle.join_base.proofs.quoted.read_quoted.Goals as goal

pub from_text-requires : goal.from_text-requires
from_text-requires c = (omega arith, text_within c.args.max 1920 _ c.requires.short (search rules))
