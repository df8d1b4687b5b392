use Rattle.std.proofs.Common.{◌≡◌, ◌∙◌, ℕ, List, false, true, get_or, take, ap, sym, subst, arith}
use Rattle.std.proofs.lemmas.List.{take_all}
use Rattle.join_base.specs.Taken.{contains_number}
use Rattle.actor_turn.specs.Indexed.{LacksTaken}
use Rattle.actor_turn.proofs.IndexLemmas.{contains_at, one_more_gone}
use Rattle.actor_turn.proofs.indexed.remove_taken.Goals as goal

pub remove-requires : goal.remove-requires
remove-requires c = record { recorded = c.requires.recorded c.loop-number.number-index 0 c.loop-number-test.true }

pub loop-number-preserved : goal.loop-number-preserved
loop-number-preserved c =
    let taken = c.args.taken.now in
    let i = c.loop-number.number-index in
    record {
      fields = c.remove.ensures.fields ∙ c.loop-number.invariant.fields;
      others = λ e free there. c.remove.ensures.others e (λ same. let both : true ≡ false = sym (contains_at taken i c.loop-number-test.true) ∙ sym (ap (contains_number taken) same) ∙ free in absurd cc) (c.loop-number.invariant.others e free there);
      adds_none = λ e there. c.loop-number.invariant.adds_none e (c.remove.ensures.adds_none e there);
      gone = one_more_gone taken i c.loop-number.index c.remove.new.self c.args.messages.now c.loop-number-test.true c.remove.ensures.fields c.remove.ensures.adds_none c.loop-number.invariant.gone c.remove.ensures.lacks;
    }

pub returns-clause-gone : goal.returns-clause-gone
returns-clause-gone c = subst (λ (ns : List ℕ). LacksTaken ns c.loop-number.index c.args.messages.now) (take_all c.loop-number.number-index c.args.taken.now c.loop-number-test.false) c.loop-number.invariant.gone
