use Rattle.std.proofs.Common.{Bool, ap, sym, ◌∷◌, ◌∙◌}
use Rattle.script_grammar.specs.Prefixes.{marks_of}
use Rattle.script_grammar.proofs.PrefixLemmas.{with_not, with_parentheses}
use Rattle.script_grammar.proofs.prefix.Prefix.with.Goals as goal

pub returns-then-is_not : goal.returns-then-is_not
returns-then-is_not c = with_not c.args.self.count c.args.self.bits ∙ ap (λ (b : Bool). b ∷ marks_of c.args.self) (sym c.if-is_not.true)

pub returns : goal.returns
returns c = with_parentheses c.args.self.count c.args.self.bits ∙ ap (λ (b : Bool). b ∷ marks_of c.args.self) (sym c.if-is_not.false)
