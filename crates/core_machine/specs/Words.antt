-- Reservation words by keys, and what is found of requests that ran.
use Rattle.std.specs.Prelude.{ℕ, ◌-◌, ◌^◌, List, Option, Some, None}
use Rattle.std.specs.BTreeMap.{get}
use Rattle.std.specs.Option.{unwrap_or}
use Rattle.aria_base.specs.Orders.{Cells}
use Rattle.aria_base.specs.declared.keys.Key.{Key}
use Rattle.aria_base.specs.contracts.keys.KeyOrd.TheImpl as key_order
use Rattle.proc_lang.specs.declared.ends.End.{End}
use Rattle.batch_rules.specs.Batches.{Carrier}
use Rattle.proc_exec.specs.declared.outcomes.Outcome.{Outcome}
use Rattle.core_machine.specs.declared.words.Words.{Words}

-- a key that is not there has the greatest word
abbrev pub word_in : Words → Key → ℕ
word_in words key = unwrap_or (get key_order.cmp-value.it words.map key) (2 ^ 64 - 1)

-- an outcome carries what its request's run came to
abbrev pub ran : Carrier Key Cells End Outcome
ran = record { reads = λ o. o.reads; rows = λ o. o.writes; end = λ o. o.end }
