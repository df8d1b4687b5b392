use Rattle.std.proofs.Common.{ℕ, ap, arith}
use Rattle.script_grammar.specs.Prefixes.{bits_of}
use Rattle.script_grammar.proofs.PrefixLemmas.{bits_split}
use Rattle.script_grammar.proofs.prefix.Prefix.split.Goals as goal

pub returns-then-self-eq0 : goal.returns-then-self-eq0
returns-then-self-eq0 c = ap (λ (count : ℕ). bits_of count c.args.self.bits) c.if-self-eq0.true

pub returns : goal.returns
returns c = bits_split c.args.self.count c.args.self.bits (omega arith)
