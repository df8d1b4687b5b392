use Rattle.std.proofs.Common.{◌∙◌, ap}
use Rattle.value_index.specs.Columns.{entries_from}
use Rattle.value_index.specs.Index.{Index}
use Rattle.value_index.proofs.EntryLemmas.{one_more_column}
use Rattle.value_index.proofs.index.ValueIndex.add_field.Goals as goal

pub returns : goal.returns
returns c = record { entries = ap (entries_from 0) c.in_ok-push.ensures.items ∙ one_more_column 0 c.self.inside.columns.items _ c.new.ensures.empty ∙ ap (λ (x : Index). x.entries) c.self.view_is }
