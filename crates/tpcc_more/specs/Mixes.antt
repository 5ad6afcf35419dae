-- Order entry between two batches, and its next batch.
use Rattle.std.specs.Prelude.{◌≡◌, [], true}
use Rattle.std.specs.List.{All}
use Rattle.std.specs.FinMap as fin
use Rattle.aria_base.specs.Draws.{standing}
use Rattle.aria_base.specs.Orders.{Database}
use Rattle.cat_builtin.specs.Tpcc.{tpcc}
use Rattle.proc_lang.specs.Catalogs.{IsCatalog}
use Rattle.range_suits.specs.Suits.{is_taken}
use Rattle.range_resv.specs.Engines.{Between}
use Rattle.tpcc_load.specs.declared.settings.Tpcc.{Tpcc}
use Rattle.tpcc_load.specs.Heads.{head}
use Rattle.tpcc_load.specs.Rows.{laid}
use Rattle.tpcc_routines.specs.Routines.{is_more}
use Rattle.tpcc_routines.specs.Sound.{IsSound}

-- what is true of every mix: its catalogue is that of order entry, what waits is taken, and its rows are sound
pub record IsMix (mix : Between) : Type 0 where
  pub plan : mix.plan ≡ tpcc
  pub catalog : IsCatalog tpcc
  pub taken : All (λ w. is_taken tpcc is_more w.work ≡ true) mix.carried
  pub sound : IsSound mix.rows

-- these rows, on which no batch was run: no request is numbered, and nothing waits
abbrev pub begun : Database → Between
begun rows = record { plan = tpcc; rows = rows; carried = []; batches = 0; requests = 0 }

-- the rows before the first request
abbrev pub head_rows : Tpcc → Database
head_rows s = laid fin.empty (head s (standing s.number 1 0)).0
