use Rattle.std.proofs.Common.{◌≡◌, ◌++◌, ◌∷◌, [], sym, subst, true}
use Rattle.std.specs.Option.{option_to_list}
use Rattle.join_base.specs.Taken.{contains_number}
use Rattle.mailbox_core.specs.Live.{InPlace, Live, is_number}
use Rattle.std.specs.List.{filter}
use Rattle.mailbox_core.proofs.LiveLemmas.{InPlace-front, last_number, zeros-pop}
use Rattle.mailbox_core.proofs.live.LiveNumbers.pop.Goals as goal

pub invariant_of-self : goal.invariant_of-self
invariant_of-self c =
    let found = subst (λ (v : Live). contains_number v.numbers v.count ≡ true) (sym c.self.view_is) c.requires.last in
    record {
      in_place = InPlace-front 1 c.pop.new.self.items (option_to_list c.pop.result) (subst (InPlace 1) c.pop.ensures.items c.self.invariant.in_place);
      cleared = zeros-pop c.self.inside.cells.items c.pop.new.self.items c.pop.result c.self.inside.cleared c.pop.ensures.items c.self.invariant.in_place found c.self.invariant.cleared;
    }

pub returns-clause-numbers : goal.returns-clause-numbers
returns-clause-numbers c =
    let back = sym c.self.view_is in
    let found = subst (λ (v : Live). contains_number v.numbers v.count ≡ true) back c.requires.last in
    let last = last_number c.self.inside.cells.items c.pop.new.self.items c.pop.result _ _ c.self.inside.cells.ok.0 c.pop.ensures.items c.pop.ensures.cases c.self.invariant.in_place found in
    subst (λ (v : Live). v.numbers ≡ filter is_number c.pop.new.self.items ++ v.count ∷ []) c.self.view_is last
