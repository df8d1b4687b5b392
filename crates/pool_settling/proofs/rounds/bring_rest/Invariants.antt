use Rattle.std.proofs.Common.{◌+◌, ◌≤◌, take, length}
use Rattle.std.specs.List.{sum_by}
use Rattle.pool_settling.specs.Ends.{GoOn}
use Rattle.pool_settling.specs.Rounds.{AreMembers, HaveFeeds, IsFedRest}
use Rattle.pool_settling.specs.Work.{all_weight}
use Rattle.pool_settling.proofs.rounds.bring_rest.Given as goal

-- the first lists came
abbrev pub invariant-loop-place : goal.invariant-loop-place
invariant-loop-place g l = record {
  members : AreMembers l.actors.items;
  have : HaveFeeds (length l.rest) l.actors.items;
  fed : IsFedRest (take l.place l.rest) l.initial.actors.items l.actors.items;
  on : GoOn l.initial.actors.items l.actors.items;
  weight : all_weight l.actors.items ≤ all_weight l.initial.actors.items + sum_by length (take l.place l.rest);
}
