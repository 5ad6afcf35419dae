-- The workloads of both kinds: their catalogue, their rows before the first request, and their requests.
use Rattle.std.specs.Prelude.{◌≤◌, ℕ, List, codes}
use Rattle.std.specs.FinMap as fin
use Rattle.rand_pcg.specs.Lcg.{Lcg}
use Rattle.aria_base.specs.Draws.{standing}
use Rattle.aria_base.specs.Orders.{Database, key_cmp}
use Rattle.aria_base.specs.declared.calls.Call.{Call}
use Rattle.command_words.specs.declared.settings.Amount.{Amount}
use Rattle.command_words.specs.declared.settings.Load.{Load}
use Rattle.command_words.specs.declared.settings.Load.TheVariants as kind
use Rattle.command_words.specs.declared.settings.Stock.{Stock}
use Rattle.command_words.specs.declared.settings.Workload.{Workload}
use Rattle.proc_lang.specs.Catalogs.{Plan}
use Rattle.cat_builtin.specs.Ycsb.{ycsb}
use Rattle.cat_builtin.specs.Tpcc.{tpcc}
use Rattle.load_gen.specs.Draws.{Drawn}
use Rattle.load_gen.specs.Ycsb as accesses
use Rattle.tpcc_load.specs.declared.settings.Tpcc.{Tpcc}
use Rattle.tpcc_load.specs.Heads as orders
use Rattle.tpcc_load.specs.Requests.{request}
use Rattle.tpcc_load.specs.Rows.{laid}
use Rattle.workloads.specs.declared.generators.Generator.{Generator}
use Rattle.workloads.specs.declared.generators.Generator.TheVariants as load

-- the settings of order entry
abbrev pub orders_of : Amount → Stock → Tpcc
orders_of a s = record { number = a.number; warehouses = s.warehouses; customers = s.customers; items = s.items }

-- what the settings of a line ask for; what belongs to the other kind has no part in it
abbrev pub of_kind : Workload → Load → Generator
of_kind w kind.Ycsb = load.Ycsb (record {
  number = w.amount.number;
  keys = w.accesses.keys;
  ops = w.accesses.ops;
  reads = w.accesses.reads;
  updates = w.accesses.updates;
  hot = w.accesses.hot;
})
of_kind w kind.Tpcc = load.Tpcc (orders_of w.amount w.stock)

abbrev pub generator_of : Workload → Generator
generator_of w = of_kind w w.kind

-- the settings are within their ranges
abbrev pub IsWithin : Generator → Type 0
IsWithin (load.Ycsb s) = accesses.IsWithin s
IsWithin (load.Tpcc s) = orders.IsWithin s

-- the name of its catalogue, which is that of its kind
abbrev pub name_of : Generator → List ℕ
name_of (load.Ycsb s) = codes "ycsb"
name_of (load.Tpcc s) = codes "tpcc"

abbrev pub plan_of : Generator → Plan
plan_of (load.Ycsb s) = ycsb
plan_of (load.Tpcc s) = tpcc

-- the rows before the first request; those of order entry are drawn from stream 1
abbrev pub rows_of : Generator → Database
rows_of (load.Ycsb s) = fin.from_entries {R = key_cmp} (accesses.rows_from 0 s.keys)
rows_of (load.Tpcc s) = laid fin.empty (orders.head s (standing s.number 1 0)).0

abbrev pub number_of : Generator → ℕ
number_of (load.Ycsb s) = s.number
number_of (load.Tpcc s) = s.number

-- the requests are drawn from stream 2
abbrev pub first_draws : Generator → Lcg
first_draws g = standing (number_of g) 2 0

-- a request of the batch of this number
abbrev pub request_of : Generator → ℕ → Drawn Call
request_of (load.Ycsb s) number = accesses.request s
request_of (load.Tpcc s) number = request s number
