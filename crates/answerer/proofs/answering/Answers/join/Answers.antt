use Rattle.std.proofs.Common.{◌∙◌, List, IsSome, get_or, refl, sym, subst}
use Rattle.std.proofs.lemmas.List.{take_all}
use Rattle.pattern_core.specs.Members.{IsIn}
use Rattle.ask_board.specs.View.{known_of}
use Rattle.ask_board.specs.declared.view.Ask.{Ask}
use Rattle.ask_board.specs.declared.view.AskView.{AskView}
use Rattle.answerer.specs.declared.answering.Answers.{Answers}
use Rattle.answerer.specs.Answered.{Joins}
use Rattle.answerer.proofs.JoinLemmas.{Learns, in_at, join_step, joins_some, learns, listed_step}
use Rattle.answerer.proofs.answering.Answers.join.Goals as goal

abbrev none : Ask
none = record { feed = 0; actor = 0; place = 0 }

pub learn-requires-clause-known : goal.learn-requires-clause-known
learn-requires-clause-known c =
    let ask : Ask = get_or c.args.asks.now c.loop-ask.ask-index none in
    subst (λ (v : AskView). IsSome (known_of v ask)) (sym c.loop-ask.invariant.view) (c.requires.known ask (in_at c.args.asks.now c.loop-ask.ask-index none c.loop-ask-test.true))

pub returns-in_err-push-clause-joins : goal.returns-in_err-push-clause-joins
returns-in_err-push-clause-joins c =
    let ask : Ask = get_or c.args.asks.now c.loop-ask.ask-index none in
    let learnt : Answers = record { board = c.loop-ask.self.board; view = c.learn.new.self; asks = c.loop-ask.self.asks } in
    let own : Learns c.loop-ask.view ask c.loop-ask.self learnt = learns c.loop-ask.view c.learn.new.self ask c.loop-ask.self c.loop-ask.invariant.joins.of_board c.learn.ensures.one_board c.learn.ensures.learnt c.learn.ensures.same c.learn.ensures.others in
    let now : Learns c.args.view ask c.loop-ask.self learnt = subst (λ (v : AskView). Learns v ask c.loop-ask.self learnt) c.loop-ask.invariant.view own in
    let joined : Joins c.args.view c.args.asks.now c.args.self.now learnt = joins_some c.args.view c.args.asks.now c.loop-ask.ask-index ask none c.args.self.now c.loop-ask.self learnt c.loop-ask-test.true refl c.loop-ask.invariant.joins now in
    subst (λ (all : List Ask). Joins c.args.view c.args.asks.now c.args.self.now (record { board = c.loop-ask.self.board; view = c.learn.new.self; asks = all })) (sym c.in_err-push.ensures.err) joined

pub loop-ask-preserved : goal.loop-ask-preserved
loop-ask-preserved c =
    let ask : Ask = get_or c.args.asks.now c.loop-ask.ask-index none in
    let learnt : Answers = record { board = c.loop-ask.self.board; view = c.learn.new.self; asks = c.loop-ask.self.asks } in
    let own : Learns c.loop-ask.view ask c.loop-ask.self learnt = learns c.loop-ask.view c.learn.new.self ask c.loop-ask.self c.loop-ask.invariant.joins.of_board c.learn.ensures.one_board c.learn.ensures.learnt c.learn.ensures.same c.learn.ensures.others in
    let now : Learns c.args.view ask c.loop-ask.self learnt = subst (λ (v : AskView). Learns v ask c.loop-ask.self learnt) c.loop-ask.invariant.view own in
    record {
      view = c.learn.ensures.unchanged ∙ c.loop-ask.invariant.view;
      joins = join_step c.args.view c.args.asks.now c.loop-ask.ask-index ask none c.args.self.now c.loop-ask.self learnt c.push.new.self c.loop-ask-test.true refl c.loop-ask.invariant.joins now c.in_ok-push.ensures.ok;
      joined = listed_step c.args.view c.args.asks.now c.loop-ask.ask-index ask none c.loop-ask.self learnt c.push.new.self c.loop-ask-test.true refl now c.in_ok-push.ensures.ok c.loop-ask.invariant.joined;
    }

pub returns-clause-joined : goal.returns-clause-joined
returns-clause-joined c = λ ask h. c.loop-ask.invariant.joined ask (subst (IsIn ask) (sym (take_all c.loop-ask.ask-index c.args.asks.now c.loop-ask-test.false)) h)
