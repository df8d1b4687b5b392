use Rattle.std.proofs.Common.{ap, ◌∙◌}
use Rattle.std.specs.Option.{option_map}
use Rattle.script_names.specs.Names.{item_of}
use Rattle.script_names.specs.Scope.{sort_slot}
use Rattle.script_names.proofs.RowLemmas.{item_of-entries}
use Rattle.script_names.proofs.variables.Variables.sort_of.Goals as goal

pub returns : goal.returns
returns c =
    ap (option_map sort_slot) (c.copied.ensures ∙ c.get.ensures.value)
    ∙ item_of-entries sort_slot c.args.name.now c.self.inside.sorts.entries
    ∙ ap (item_of c.args.name.now) c.self.view_is
