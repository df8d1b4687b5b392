use Rattle.row_screens.specs.Offers.{Offered}
use Rattle.row_screens.specs.Offering.{offered}
use Rattle.match_tree.proofs.ThinLemmas.{all_guarded, can_number, nodes_rise}
use Rattle.match_tree.proofs.by_value.prune_number.Goals as goal

pub prune_offered-requires : goal.prune_offered-requires
prune_offered-requires c =
    let a = c.args in
    let o = offered a.offer.now in
    let taken : Offered = record { messages = o.messages; index = o.index; definition = o.definition; rule = o.rule; number = a.number; oldest = o.oldest } in
    let can = can_number o a.slots.now a.number c.requires.empty c.requires.can c.requires.recorded in
    record {
      can = can;
      guarded = all_guarded taken a.slots.now a.pattern a.nodes.now.items can c.requires.go_on;
      rising = nodes_rise o a.slots.now a.pattern a.nodes.now.items c.requires.go_on;
      few = c.requires.few;
      sound = c.requires.sound;
      short = c.requires.short;
    }
