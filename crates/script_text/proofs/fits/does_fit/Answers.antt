use Rattle.script_text.proofs.FitsDecided.{decided}
use Rattle.script_text.proofs.fits.does_fit.Goals as goal

pub returns : goal.returns
returns c = decided c.args.schema.now c.args.key.now c.args.row.now c.fits.result c.fits.ensures
