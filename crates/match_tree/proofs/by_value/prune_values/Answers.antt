use Rattle.std.proofs.Common.{◌≡◌, ◌∙◌, ℕ, List, None, length, replicate, ap, sym, subst}
use Rattle.std.specs.List.{filter, AllByRecursion}
use Rattle.guard_eval.specs.Meaning.{Assignment}
use Rattle.pattern_core.specs.Suits.{IsRecorded}
use Rattle.tree_rows.specs.Routes.{rows_routes, lacks}
use Rattle.row_screens.specs.Offering.{offered, CanOffer, LeadOn}
use Rattle.match_tree.proofs.ThinLemmas.{filter_standing, recorded_standing}
use Rattle.match_tree.proofs.by_value.prune_values.Goals as goal

pub prune_each-requires : goal.prune_each-requires
prune_each-requires c =
    let a = c.args in
    let o = offered a.offer.now in
    let slots : c.new-slots.result ≡ replicate (length o.definition.patterns) None = c.new-slots.ensures ∙ ap (λ (n : ℕ). replicate n None) c.len.ensures.count in
    let recorded = recorded_standing o.messages o.number a.numbers.now c.requires.can.recorded in
    record {
      empty = slots;
      can = subst (CanOffer o) (sym slots) c.requires.can;
      recorded = subst (λ (ns : List ℕ). AllByRecursion (IsRecorded o.messages) ns) (sym c.standing-those.ensures) recorded;
      lead = subst (λ (s : Assignment). LeadOn o s (rows_routes 0 a.rows.now)) (sym slots) c.requires.lead;
      patterns = c.requires.patterns;
      few = c.requires.few;
      sound = c.requires.sound;
      short = c.requires.short;
    }

pub returns-clause-left : goal.returns-clause-left
returns-clause-left c =
    let a = c.args in
    let o = offered a.offer.now in
    let old = rows_routes 0 a.rows.now in
    c.prune_each.ensures.left ∙ ap (λ (ns : List ℕ). filter (lacks ns) old) c.standing-those.ensures ∙ filter_standing o (replicate (length o.definition.patterns) None) a.numbers.now old c.requires.lead
