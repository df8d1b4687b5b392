use Rattle.std.proofs.Common.{refl, subst, sym}
use Rattle.join_base.specs.Late.{HasCount}
use Rattle.actor_turn.specs.Held.{Held}
use Rattle.actor_cells.proofs.BringLemmas.{counted-here, kept, refusing, tally}
use Rattle.actor_cells.proofs.cell.Cell.bring.Goals as goal

pub bring_one-requires : goal.bring_one-requires
bring_one-requires g c = record {
  known = subst (λ (h : Held). HasCount h.state.late c.index_mut-one.result.now.source) (sym c.deref_mut.ensures.value) (counted-here c.args.self.now c.args.place c.index_mut-one.result.now c.requires.lawful c.requires.within (sym c.index_mut-one.ensures.value));
}

pub returns-clause-kept : goal.returns-clause-kept
returns-clause-kept g c = kept c.args.self.now _ c.args.place c.index_mut-one.result.now c.bring_one.new.link c.requires.lawful c.requires.within (sym c.index_mut-one.ensures.value) refl refl _ c.deref_mut.ensures.value c.bring_one.result c.bring_one.ensures.brought c.bring_one.ensures.refused

pub returns-clause-tally : goal.returns-clause-tally
returns-clause-tally g c = tally c.args.self.now.inward.items c.deref_mut.result.now c.bring_one.new.actor c.args.place c.index_mut-one.result.now c.bring_one.new.link (sym c.index_mut-one.ensures.value) c.bring_one.result c.bring_one.ensures.brought

pub returns-clause-refused : goal.returns-clause-refused
returns-clause-refused g c = refusing c.args.self.now _ c.args.place c.index_mut-one.result.now c.bring_one.new.link c.requires.lawful c.requires.within (sym c.index_mut-one.ensures.value) refl refl _ c.deref_mut.ensures.value c.bring_one.result c.bring_one.ensures.refused
