use Rattle.std.proofs.Common.{◌<◌, ◌∙◌, List, Option, get_or, length, refl, sym, ap, subst, arith}
use Rattle.join_base.specs.declared.message.Value.{Value}
use Rattle.pattern_core.specs.Members.{IsIn}
use Rattle.ask_board.specs.declared.view.Ask.{Ask}
use Rattle.answerer.proofs.JoinLemmas.{in_at}
use Rattle.ask_run.specs.Telling.{AreRight}
use Rattle.ask_run.proofs.ToldLemmas.{same_on, still_known, still_right, told_itself}
use Rattle.ask_run.proofs.telling.put_told.Goals as goal

pub loop-place-init : goal.loop-place-init
loop-place-init c = record { told = told_itself c.args.answerer.now.answers c.requires.of_board; same = refl }

pub put_one-requires-clause-known : goal.put_one-requires-clause-known
put_one-requires-clause-known c = still_known c.args.answerer.now.answers c.loop-place.answerer.answers c.loop-place.invariant.told c.requires.known

pub put_one-requires-clause-right : goal.put_one-requires-clause-right
put_one-requires-clause-right c =
    let before = c.loop-place.invariant in
    subst (λ (queues : List (List (Option Value))). AreRight queues c.args.feed c.loop-place.answerer) (sym before.same) (still_right c.args.queues.now c.args.feed c.args.answerer.now c.loop-place.answerer before.told c.requires.right)

pub put_one-requires-clause-listed : goal.put_one-requires-clause-listed
put_one-requires-clause-listed c =
    let none : Ask = record { feed = 0; actor = 0; place = 0 } in
    let same = c.asks.ensures.same in
    let within : c.loop-place.place < length c.asks.result.now = omega (arith, c.loop-place-test.true, ap length c.asks-place-end.ensures.same, ap length c.loop-place.invariant.told.asks, ap length same) in
    subst (IsIn (get_or c.asks.result.now c.loop-place.place none)) same (in_at c.asks.result.now c.loop-place.place none within)

pub loop-place-preserved : goal.loop-place-preserved
loop-place-preserved c = record {
  told = same_on c.args.answerer.now.answers c.loop-place.answerer.answers c.put_one.new.answerer.answers c.loop-place.invariant.told c.put_one.ensures.told;
  same = c.put_one.ensures.same ∙ c.loop-place.invariant.same;
}
