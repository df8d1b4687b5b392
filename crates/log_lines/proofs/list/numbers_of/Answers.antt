use Rattle.std.proofs.Common.{◌∙◌, sym, ap, Some, List, ℕ}
use Rattle.log_lines.specs.Messages.{all_numbers, numbers_of}
use Rattle.log_lines.proofs.ListLemmas.{comma_parts, behind, ends_with, goes_on, no_last, no_part}
use Rattle.log_lines.proofs.list.numbers_of.Goals as goal

pub returns-in_default-arrival_number : goal.returns-in_default-arrival_number
unfolding numbers_of
returns-in_default-arrival_number c =
    no_part c.parts.numbers c.parts.rest.now (all_numbers (comma_parts c.args.text.now)) c.parts.invariant c.in-Some.part.now c.in-Some.more.now c.in-Some.ensures.parts (sym c.arrival_number.ensures ∙ c.in_default-arrival_number.is)

pub parts-preserved : goal.parts-preserved
parts-preserved c =
    ap (λ (numbers : List ℕ). behind numbers (all_numbers (comma_parts c.in-Some.more.now))) c.in_ok-push.ensures.ok
    ∙ goes_on c.parts.numbers c.parts.rest.now (all_numbers (comma_parts c.args.text.now)) c.parts.invariant c.in-Some.part.now c.in-Some.more.now c.in-Some-arrival_number.number c.in-Some.ensures.parts (sym c.arrival_number.ensures ∙ c.in-Some-arrival_number.is)

pub returns-in_default-arrival_number-2 : goal.returns-in_default-arrival_number-2
unfolding numbers_of
returns-in_default-arrival_number-2 c =
    no_last c.parts.numbers c.parts.rest.now (all_numbers (comma_parts c.args.text.now)) c.parts.invariant c.in_default.ensures.parts (sym c.arrival_number-2.ensures ∙ c.in_default-arrival_number-2.is)

pub returns : goal.returns
unfolding numbers_of
returns c =
    ends_with c.parts.numbers c.parts.rest.now (all_numbers (comma_parts c.args.text.now)) c.parts.invariant c.in-Some-arrival_number-2.number c.in_default.ensures.parts (sym c.arrival_number-2.ensures ∙ c.in-Some-arrival_number-2.is)
    ∙ ap (λ (ns : List ℕ). Some ns) (sym c.in_ok-push-2.ensures.ok)
