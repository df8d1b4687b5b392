use Rattle.log_replay.proofs.MadeLemmas.{expected_fits}
use Rattle.log_replay.proofs.law.fits_law.Goals as goal

pub returns : goal.returns
returns c = expected_fits
