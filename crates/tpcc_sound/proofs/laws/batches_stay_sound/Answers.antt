use Rattle.cat_builtin.specs.Tpcc.{tpcc}
use Rattle.tpcc_routines.specs.Routines.{is_more}
use Rattle.tpcc_sound.proofs.Serially.{stays-sound}
use Rattle.tpcc_sound.specs.Laws.{act}
use Rattle.tpcc_sound.proofs.laws.batches_stay_sound.Goals as goal

pub returns : goal.returns
returns c = λ start list answer rows carried whole taken fits sound serial.
    stays-sound (λ w db. c.taken_behave.ensures tpcc is_more act w db) c.more_suits.ensures whole start list answer rows carried taken fits sound serial
