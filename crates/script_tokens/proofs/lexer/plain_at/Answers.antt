use Rattle.std.proofs.Common.{take}
use Rattle.script_tokens.proofs.WordLemmas.{word_named, symbol_named}
use Rattle.script_tokens.proofs.lexer.plain_at.Goals as goal

pub returns-then-begins_word-clause-name : goal.returns-then-begins_word-clause-name
returns-then-begins_word-clause-name c = rw c.in_ok-kind.ensures (word_named (take c.word_len-n.result c.args.text.now))

pub returns-clause-name : goal.returns-clause-name
returns-clause-name c = rw c.symbol_at.ensures.value (symbol_named c.byte_at-first.result c.byte_at.result c.args.text.now)
