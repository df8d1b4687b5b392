use Rattle.std.proofs.Common.{◌∙◌, ◌-◌, ◌^◌, List, min, ap}
use Rattle.match_tree.specs.Tree.{Tree}
use Rattle.tree_law.specs.Trees.{path_count}
use Rattle.fair_semantics.specs.Fair.{partials_of}
use Rattle.actor_turn.specs.Held.{Held}
use Rattle.actor_turn.specs.Inside.{setting_in}
use Rattle.actor_turn.proofs.RestLemmas.{partials_counted}
use Rattle.actor_turn.proofs.actor.Actor.partials.Goals as goal

pub returns : goal.returns
returns c =
    let a = c.self.inside in
    let counted = c.count_paths.ensures.count ∙ ap (λ (ts : List Tree). min (path_count ts) (2 ^ 64 - 1)) c.deref.ensures.value in
    record {
      count =
          partials_counted (setting_in a) a.mail.mail a.firings.items a.ending a.trees.items c.count_paths.result c.self.invariant.rest c.messages.ensures.sound.ascending counted
          ∙ ap (λ (h : Held). partials_of h.setting.rules h.state) c.self.view_is;
    }
