use Rattle.script_text.proofs.FitsDecided.{fits_again, fits_indeed}
use Rattle.script_text.proofs.laws.rows_fit.Goals as goal

pub returns : goal.returns
returns c = record { fits = λ tables key row. (fits_indeed tables key row, fits_again tables key row) }
