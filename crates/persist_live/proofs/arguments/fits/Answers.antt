use Rattle.persist_live.proofs.Fitting.{fits}
use Rattle.persist_live.proofs.arguments.fits.Goals as goal

pub returns : goal.returns
returns c = fits c.args.number c.well_formed.0
