use Rattle.std.proofs.Common.{refl}
use Rattle.script_faults.proofs.RuleLemmas.{rule_noted}
use Rattle.script_faults.proofs.rule.RulesNoter.note.Goals as goal

pub returns-clause-gives : goal.returns-clause-gives
returns-clause-gives c =
    rule_noted c.args.self.now _ c.in_ok-place.place c.note_rule.new.found c.note_rule.new.tokens _ c.in_ok-place.ensures.gives refl refl c.in_ok-note_number.ensures.number c.note_number.ensures.found
