use Rattle.std.proofs.Common.{refl, sym, ap, ◌∙◌, Some}
use Rattle.std.proofs.lemmas.List.Elements.{All-set}
use Rattle.actor_cells.specs.declared.cell.Cell.{Cell}
use Rattle.actor_cells.specs.Lawful.{IsLawful}
use Rattle.actor_cells.proofs.PrepareLemmas.{get-at}
use Rattle.actor_cells.proofs.cells.Cells.serve.Goals as goal

pub returns-clause-served : goal.returns-clause-served
returns-clause-served g c =
    let x = c.index_mut-cell.result.now in
    record {
      before = x;
      after = c.serve.new.self;
      here = get-at c.args.self.now.cells.items c.args.actor x c.requires.exists ∙ ap (λ (cell : Cell). Some cell) (sym c.index_mut-cell.ensures.value);
      only = refl;
      kept = c.serve.ensures.kept;
      turned = c.serve.ensures.turned;
      sent = c.serve.ensures.sent;
      refused = c.serve.ensures.refused;
    }

pub returns-clause-lawful : goal.returns-clause-lawful
returns-clause-lawful g c = All-set IsLawful c.args.self.now.cells.items c.args.actor c.serve.new.self c.serve.ensures.kept.lawful c.requires.lawful
