use Rattle.std.proofs.Common.{◌≡◌, drop, length, map}
use Rattle.std.specs.List.{AllByRecursion}
use Rattle.join_base.specs.Late.{HasCount}
use Rattle.fair_semantics.specs.Fair.{after_all, setting_of}
use Rattle.log_replay.specs.Expected.{bare, stepped}
use Rattle.log_replay.proofs.replaying.made_run.Given as goal

abbrev pub invariant-loop-entry : goal.invariant-loop-entry
invariant-loop-entry g l = record {
  left : after_all l.actor.setting l.actor.state (map bare (drop l.entry-index l.entry-items)) ≡ stepped l.plan l.run l.fn.index;
  setting : l.actor.setting ≡ setting_of l.plan l.fn.index l.run.limits;
  counted : AllByRecursion (λ entry. HasCount l.actor.state.late entry.source) l.entry-items;
  boxes : length l.actor.outbox ≡ length l.plan.actors;
}
