use Rattle.std.proofs.Common.{◌∙◌, ◌-◌, ◌∷◌, [], ap, arith}
use Rattle.join_base.specs.Taken.{without}
use Rattle.mailbox_core.specs.Live.{Live}
use Rattle.mailbox_core.proofs.LiveLemmas.{InPlace-set, removed_at, zeros-set}
use Rattle.mailbox_core.proofs.live.LiveNumbers.remove.Goals as goal

pub invariant_of-self : goal.invariant_of-self
invariant_of-self c = record {
  in_place = InPlace-set 1 c.self.inside.cells.items (c.args.number - 1) c.self.invariant.in_place;
  cleared = zeros-set c.self.inside.cells.items c.self.inside.cleared (c.args.number - 1) c.self.invariant.cleared;
}

pub returns-clause-numbers : goal.returns-clause-numbers
returns-clause-numbers c = removed_at 1 c.self.inside.cells.items (c.args.number - 1) c.args.number (omega (arith, c.requires.some)) (omega arith) c.self.invariant.in_place ∙ ap (λ (v : Live). without v.numbers (c.args.number ∷ [])) c.self.view_is
