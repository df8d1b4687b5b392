use Rattle.std.proofs.Common.{sym, ◌∙◌}
use Rattle.std.proofs.lemmas.Result.{err_from_is_err_and}
use Rattle.script_grammar.proofs.WalkLemmas.{noting_begun, noting_ends, noting_goes_on, noting_stops}
use Rattle.script_plan.proofs.HeldLemmas.{all_hold, first_holds, others_hold}
use Rattle.script_plan.proofs.script.visit_rules.Goals as goal

pub list-init : goal.list-init
list-init g c = record { noted = noting_begun; small = all_hold c.requires.small }

pub visit_rule-requires : goal.visit_rule-requires
visit_rule-requires g c = record { small = first_holds (sym c.is_next.ensures ∙ c.list-test.true) c.list.invariant.small }

pub list-preserved : goal.list-preserved
list-preserved g c =
    let is = sym c.is_next.ensures ∙ c.list-test.true in
    let read = c.in_ok-visit_rule.ensures in
    record {
      noted = noting_goes_on is read.gives read.shorter c.list.invariant.noted;
      small = others_hold is c.list.invariant.small read.gives.phrase c.visit_rule.new.tokens read.gives.reads read.shorter;
    }

pub returns-in_err-visit_rule : goal.returns-in_err-visit_rule
returns-in_err-visit_rule g c =
    let p = err_from_is_err_and c.from_residual.result c.from_residual.ensures.1 in
    rw (p.1, p.2) (noting_stops c.in_err-visit_rule.field-0.0 _ (sym c.is_next.ensures ∙ c.list-test.true) c.in_err-visit_rule.ensures.gives c.list.invariant.noted)

pub returns : goal.returns
returns g c = noting_ends (sym c.is_next.ensures ∙ c.list-test.false) c.list.invariant.noted
