-- The options of all commands: their values, and the one that counts where the line gives none.
use Rattle.std.specs.Prelude.{ℕ, List, codes}
use Rattle.aria_base.specs.declared.limits.TheConstants.{MOST_PERCENT, MOST_REPLICAS, MOST_REQUESTS, MOST_WORKERS}
use Rattle.batch_rules.specs.declared.verdicts.Rule.{Rule}
use Rattle.batch_rules.specs.declared.verdicts.Rule.TheVariants.{Plain, Reorder}
use Rattle.command_words.specs.declared.settings.Listing.{Listing}
use Rattle.command_words.specs.declared.settings.Listing.TheVariants.{Each, Last}
use Rattle.command_words.specs.declared.settings.Load.{Load}
use Rattle.command_words.specs.declared.settings.Load.TheVariants.{Ycsb, Tpcc}
use Rattle.command_words.specs.Values.{Choice, Range}

abbrev pub range : List ℕ → ℕ → ℕ → ℕ → Range
range name low high usual = record { name = name; low = low; high = high; usual = usual }

-- ---- how a batch is run

abbrev pub workers : Range
workers = range (codes "workers") 1 MOST_WORKERS 1

abbrev pub replicas : Range
replicas = range (codes "replicas") 1 MOST_REPLICAS 1

abbrev pub nodes : Range
nodes = range (codes "nodes") 1 8 2

abbrev pub fallback : Range
fallback = range (codes "fallback") 0 MOST_PERCENT MOST_PERCENT

-- 0 is never
abbrev pub checkpoint : Range
checkpoint = range (codes "checkpoint") 0 1000000 0

abbrev pub rule : Choice Rule
rule = record { name = codes "rule"; usual = (codes "reorder", Reorder); other = (codes "plain", Plain) }

abbrev pub listing : Choice Listing
listing = record { name = codes "state"; usual = (codes "last", Last); other = (codes "each", Each) }

abbrev pub drain : List ℕ
drain = codes "drain"

abbrev pub over : List ℕ
over = codes "over"

abbrev pub batons : List ℕ
batons = codes "batons"

-- ---- workloads

abbrev pub kind : Choice Load
kind = record { name = codes "kind"; usual = (codes "ycsb", Ycsb); other = (codes "tpcc", Tpcc) }

abbrev pub number : Range
number = range (codes "number") 0 9999999 1

abbrev pub batches : Range
batches = range (codes "batches") 1 1000 10

abbrev pub size : Range
size = range (codes "size") 1 MOST_REQUESTS 100

abbrev pub keys : Range
keys = range (codes "keys") 100 1000000 1000

abbrev pub ops : Range
ops = range (codes "ops") 1 16 10

abbrev pub reads : Range
reads = range (codes "reads") 0 100 50

abbrev pub updates : Range
updates = range (codes "updates") 0 100 0

abbrev pub hot : Range
hot = range (codes "hot") 0 100 0

abbrev pub warehouses : Range
warehouses = range (codes "warehouses") 1 4 1

abbrev pub customers : Range
customers = range (codes "customers") 30 3000 30

abbrev pub items : Range
items = range (codes "items") 100 100000 100
