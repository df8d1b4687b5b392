use Rattle.std.proofs.Common.{◌≡◌, take}
use Rattle.pattern_core.specs.Members.{IsIn}
use Rattle.ask_board.specs.declared.view.Ask.{Ask}
use Rattle.answerer.specs.Answered.{Joins}
use Rattle.answerer.proofs.answering.Answers.join.Given as goal

-- the asks so far
abbrev pub invariant-loop-ask : goal.invariant-loop-ask
invariant-loop-ask l = record {
  view : l.view ≡ l.fn.view;
  joins : Joins l.fn.view (take l.ask-index l.asks) l.fn.self l.self;
  joined : (ask : Ask) → IsIn ask (take l.ask-index l.asks) → IsIn ask l.self.asks;
}
