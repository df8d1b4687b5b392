use Rattle.history_law.proofs.HistoryLemmas.{entries_go_on, rests_no_matter, runs_show_histories, sources_no_matter}
use Rattle.history_law.proofs.law.history_law.Goals as goal

pub returns : goal.returns
returns c = record { go_on = entries_go_on; sources = sources_no_matter; rests = rests_no_matter; runs = runs_show_histories }
