use Rattle.answerer.proofs.FitLemmas.{fits_read, others_read}
use Rattle.answerer.proofs.reading.Answerer.read.Goals as goal

pub returns-clause-fits : goal.returns-clause-fits
returns-clause-fits c =
    fits_read c.args.self.now c.args.actor c.args.entries.now c.at_mut-progress.result.now c.read_entries.new.progress c.read_entries.new.answers c.at_mut-progress.ensures.item c.requires.fits c.read_entries.ensures.fits c.read_entries.ensures.others

pub returns-clause-others : goal.returns-clause-others
returns-clause-others c =
    others_read c.args.self.now c.args.actor c.args.entries.now c.at_mut-progress.result.now c.read_entries.new.progress c.read_entries.new.answers c.at_mut-progress.ensures.item c.requires.fits c.read_entries.ensures.fits c.read_entries.ensures.others
