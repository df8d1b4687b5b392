use Rattle.std.proofs.Common.{subst, sym}
use Rattle.join_base.specs.Late.{HasCount}
use Rattle.join_base.specs.declared.message.Source.TheVariants as source
use Rattle.actor_turn.specs.Held.{Held}
use Rattle.actor_tests.proofs.turn.arrives.Goals as goal

pub returns-in-Err : goal.returns-in-Err
returns-in-Err g c = subst (λ (h : Held). HasCount h.state.late (source.Feed 1)) (sym c.in-Err.ensures.unchanged) c.requires
