use Rattle.std.proofs.Common.{◌+◌, ◌≤◌, take}
use Rattle.pool_settling.specs.Ends.{GoOn}
use Rattle.pool_settling.specs.Rounds.{AreMembers, HaveFeeds, IsFedMore}
use Rattle.pool_settling.specs.Work.{all_weight}
use Rattle.pool_settling.proofs.rounds.bring_feed.Given as goal

-- the first posts came
abbrev pub invariant-loop-place : goal.invariant-loop-place
invariant-loop-place g l = record {
  members : AreMembers l.actors.items;
  have : HaveFeeds l.feed l.actors.items;
  fed : IsFedMore l.feed (take l.place l.posts) l.initial.actors.items l.actors.items;
  on : GoOn l.initial.actors.items l.actors.items;
  weight : all_weight l.actors.items ≤ all_weight l.initial.actors.items + l.place;
}
