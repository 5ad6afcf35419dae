-- The settings of a line that asks for a workload are within their ranges.
use Rattle.std.proofs.Common.{◌≡◌, ◌≤◌, ◌*◌, ◌+◌, true, false, cond, ℕ, Bool, Option, Some, None, List, [], ◌∷◌, refl, sym, ap, ◌∙◌, subst, arith}
use Rattle.std.specs.Prelude.{⊤, nat_le, ◌&&◌, find, option_and_then, option_map, bytes_eq}
use Rattle.std.proofs.lemmas.Bool.{and_parts}
use Rattle.command_words.specs.Lines.{Line, text_in}
use Rattle.command_words.specs.Options as option
use Rattle.command_words.specs.Settings.{amount_of, accesses_of, stock_of, workload_of, once_of, init_of, run_of, replay_of, bench_of, mix_of, nodes_of}
use Rattle.command_words.specs.Settings.{command_of, readers}
use Rattle.command_words.specs.Values.{Range, within, number_or, number_of, number_in, choice_in}
use Rattle.command_words.specs.declared.settings.Accesses.{Accesses}
use Rattle.command_words.specs.declared.settings.Amount.{Amount}
use Rattle.command_words.specs.declared.settings.Bench.{Bench}
use Rattle.command_words.specs.declared.settings.Command.{Command}
use Rattle.command_words.specs.declared.settings.Command.TheVariants as command
use Rattle.command_words.specs.declared.settings.Load.{Load}
use Rattle.command_words.specs.declared.settings.Mix.{Mix}
use Rattle.command_words.specs.declared.settings.Load.TheVariants as kind
use Rattle.command_words.specs.declared.settings.Stock.{Stock}
use Rattle.command_words.specs.declared.settings.Workload.{Workload}
use Rattle.workloads.specs.Generators.{IsWithin, of_kind}
use Rattle.workloads.specs.Laws.{IsAmount, IsAsked, IsMixAsked}

-- ---- options of values

-- what a value went through
record Came {X Y : Type 0} (o : Option X) (f : X → Option Y) (y : Y) : Type 0 where
  from : X
  is : o ≡ Some from
  gives : f from ≡ Some y

came : {X Y : Type 0} {o : Option X} {f : X → Option Y} {y : Y} → option_and_then f o ≡ Some y → Came o f y
came {o = None} e = cc
came {o = Some x} e = record { from = x; is = refl; gives = e }

-- a test that let a value through
passed : {X : Type 0} (t : Bool) (x y : X) → cond t (Some x) None ≡ Some y → (t ≡ true) × (x ≡ y)
passed true x y e = (refl, cc)
passed false x y e = cc

-- ---- numbers

abbrev IsIn : Range → ℕ → Type 0
IsIn r n = (r.low ≤ n) × (n ≤ r.high)

read_in : (r : Range) (m n : ℕ) → within r m ≡ Some n → IsIn r n
read_in r m n e =
    let p = passed (nat_le r.low m && nat_le m r.high) m n e in
    let both = and_parts (nat_le r.low m) (nat_le m r.high) p.0 in
    let low : r.low ≤ m = grind (arith, both.0) in
    let high : m ≤ r.high = grind (arith, both.1) in
    subst (IsIn r) p.1 (low, high)

text_in_range : (r : Range) (text : Option (List ℕ)) (n : ℕ) → IsIn r r.usual → number_or r text ≡ Some n → IsIn r n
text_in_range r None n usual e = let it : r.usual ≡ n = cc in subst (IsIn r) it usual
text_in_range r (Some text) n usual e = let c = came {o = number_of text} {f = within r} e in read_in r c.from n c.gives

number_within : (l : Line) (r : Range) (n : ℕ) → IsIn r r.usual → number_in l r ≡ Some n → IsIn r n
number_within l r n usual e = text_in_range r (text_in l r.name) n usual e

-- ---- settings

amount_within : (l : Line) (a : Amount) → amount_of l ≡ Some a → IsAmount a
amount_within l a e =
    let n = came {o = number_in l option.number} e in
    let b = came {o = number_in l option.batches} n.gives in
    let s = came {o = number_in l option.size} b.gives in
    let fits = passed (nat_le (b.from * s.from) 1000000) (record { number = n.from; batches = b.from; size = s.from }) a s.gives in
    subst IsAmount fits.1 (record {
      batches = number_within l option.batches b.from (omega arith, omega arith) b.is;
      size = number_within l option.size s.from (omega arith, omega arith) s.is;
      requests = grind (arith, fits.0);
    })

record AreAccesses (a : Accesses) : Type 0 where
  keys : (1 ≤ a.keys) × (a.keys ≤ 1000000)
  ops : (1 ≤ a.ops) × (a.ops ≤ 16)
  shares : a.reads + a.updates ≤ 100
  hot : a.hot ≤ 100

record IsStock (s : Stock) : Type 0 where
  warehouses : (1 ≤ s.warehouses) × (s.warehouses ≤ 4)
  customers : (30 ≤ s.customers) × (s.customers ≤ 3000)
  items : (100 ≤ s.items) × (s.items ≤ 100000)

accesses_within : (l : Line) (a : Accesses) → accesses_of l ≡ Some a → AreAccesses a
accesses_within l a e =
    let k = came {o = number_in l option.keys} e in
    let o = came {o = number_in l option.ops} k.gives in
    let r = came {o = number_in l option.reads} o.gives in
    let u = came {o = number_in l option.updates} r.gives in
    let h = came {o = number_in l option.hot} u.gives in
    let fits = passed (nat_le (r.from + u.from) 100) (record { keys = k.from; ops = o.from; reads = r.from; updates = u.from; hot = h.from }) a h.gives in
    let keys = number_within l option.keys k.from (omega arith, omega arith) k.is in
    let hot = number_within l option.hot h.from (omega arith, omega arith) h.is in
    subst AreAccesses fits.1 (record {
      keys = (omega (arith, keys), keys.1);
      ops = number_within l option.ops o.from (omega arith, omega arith) o.is;
      shares = grind (arith, fits.0);
      hot = hot.1;
    })

stock_within : (l : Line) (s : Stock) → stock_of l ≡ Some s → IsStock s
stock_within l s e =
    let w = came {o = number_in l option.warehouses} e in
    let c = came {o = number_in l option.customers} w.gives in
    let i = came {o = number_in l option.items} c.gives in
    let it : ◌≡◌ {A = Stock} (record { warehouses = w.from; customers = c.from; items = i.from }) s = cc in
    subst IsStock it (record {
      warehouses = number_within l option.warehouses w.from (omega arith, omega arith) w.is;
      customers = number_within l option.customers c.from (omega arith, omega arith) c.is;
      items = number_within l option.items i.from (omega arith, omega arith) i.is;
    })

of_kind_within : (w : Workload) (k : Load) → AreAccesses w.accesses → IsStock w.stock → IsWithin (of_kind w k)
of_kind_within w kind.Ycsb a s = record { keys = a.keys; ops = a.ops; shares = a.shares; hot = a.hot }
of_kind_within w kind.Tpcc a s = record { warehouses = s.warehouses; customers = s.customers; items = s.items }

workload_within : (l : Line) (w : Workload) → workload_of l ≡ Some w → IsAsked w
workload_within l w e =
    let k = came {o = choice_in l option.kind} e in
    let m = came {o = amount_of l} k.gives in
    let a = came {o = accesses_of l} m.gives in
    let s = came {o = stock_of l} a.gives in
    let made : Workload = record { kind = k.from; amount = m.from; accesses = a.from; stock = s.from } in
    let it : made ≡ w = cc in
    subst IsAsked it (record {
      amount = amount_within l m.from m.is;
      generator = of_kind_within made k.from (accesses_within l a.from a.is) (stock_within l s.from s.is);
    })

bench_within : (l : Line) (b : Bench) → bench_of l ≡ Some b → IsAsked b.workload
bench_within l b e =
    let d = came {o = workload_of l} e in
    let w = came {o = number_in l option.workers} d.gives in
    let r = came {o = number_in l option.replicas} w.gives in
    let u = came {o = choice_in l option.rule} r.gives in
    let f = came {o = number_in l option.fallback} u.gives in
    let it : d.from ≡ b.workload = ap (λ (o : Option Bench). workload_in d.from o) f.gives in
    subst IsAsked it (workload_within l d.from d.is)
  where
    workload_in : Workload → Option Bench → Workload
    workload_in w None = w
    workload_in w (Some b) = b.workload

mix_within : (l : Line) (m : Mix) → mix_of l ≡ Some m → IsMixAsked m
mix_within l m e =
    let a = came {o = amount_of l} e in
    let s = came {o = stock_of l} a.gives in
    let w = came {o = number_in l option.workers} s.gives in
    let u = came {o = choice_in l option.rule} w.gives in
    let stock = stock_within l s.from s.is in
    let it : ◌≡◌ {A = Mix} (record { amount = a.from; stock = s.from; workers = w.from; rule = u.from }) m = cc in
    subst IsMixAsked it (record {
      amount = amount_within l a.from a.is;
      orders = record { warehouses = stock.warehouses; customers = stock.customers; items = stock.items };
      workers = number_within l option.workers w.from (omega arith, omega arith) w.is;
    })

-- ---- commands

abbrev IsWithinCommand : Command → Type 0
IsWithinCommand (command.Gen w) = IsAsked w
IsWithinCommand (command.Bench b) = IsAsked b.workload
IsWithinCommand (command.Mix m) = IsMixAsked m
IsWithinCommand c = ⊤

abbrev Reader : Type 0
Reader = List ℕ × (Line → Option Command)

abbrev AreWithin : List Reader → Type 0
AreWithin [] = ⊤
AreWithin (r ∷ rs) = ((l : Line) (c : Command) → r.1 l ≡ Some c → IsWithinCommand c) × AreWithin rs

mapped : {X : Type 0} (f : X → Command) (o : Option X) (c : Command) → ((x : X) → o ≡ Some x → IsWithinCommand (f x)) → option_map f o ≡ Some c
    → IsWithinCommand c
mapped f None c each e = cc
mapped f (Some x) c each e = let it : f x ≡ c = cc in subst IsWithinCommand it (each x refl)

readers_within : AreWithin readers
readers_within = (
  λ l c. mapped command.Once (once_of l) c (λ x is. tt),
  (
    λ l c. mapped command.Init (init_of l) c (λ x is. tt),
    (
      λ l c. mapped command.Run (run_of l) c (λ x is. tt),
      (
        λ l c. mapped command.Replay (replay_of l) c (λ x is. tt),
        (
          λ l c e. let it : command.Check ≡ c = cc in subst IsWithinCommand it tt,
          (
            λ l c. mapped command.Gen (workload_of l) c (workload_within l),
            (
              λ l c. mapped command.Bench (bench_of l) c (bench_within l),
              (
                λ l c e. let it : command.Audit ≡ c = cc in subst IsWithinCommand it tt,
                (
                  λ l c. mapped command.Mix (mix_of l) c (mix_within l),
                  (λ l c. mapped command.Nodes (nodes_of l) c (λ x is. tt), tt),
                ),
              ),
            ),
          ),
        ),
      ),
    ),
  ),
)

named_within : (rs : List Reader) (name : List ℕ) (l : Line) (c : Command) → AreWithin rs
    → option_and_then (λ r. r.1 l) (find (λ r. bytes_eq name r.0) rs) ≡ Some c → IsWithinCommand c
named_within [] name l c h e = cc
named_within (r ∷ rs) name l c h e = by (bytes_eq name r.0) (named_within rs name l c h.1) e
  where
    by : (b : Bool) → (option_and_then (λ r. r.1 l) (find (λ r. bytes_eq name r.0) rs) ≡ Some c → IsWithinCommand c)
        → option_and_then (λ r. r.1 l) (cond b (Some r) (find (λ r. bytes_eq name r.0) rs)) ≡ Some c → IsWithinCommand c
    by true others e = h.0 l c e
    by false others e = others e

command_within : (l : Line) (c : Command) → command_of l ≡ Some c → IsWithinCommand c
command_within l c e = named_within readers l.cmd.name l c readers_within e

pub gen_asked : (l : Line) (w : Workload) → command_of l ≡ Some (command.Gen w) → IsAsked w
gen_asked l w e = command_within l (command.Gen w) e

pub bench_asked : (l : Line) (b : Bench) → command_of l ≡ Some (command.Bench b) → IsAsked b.workload
bench_asked l b e = command_within l (command.Bench b) e

pub mix_asked : (l : Line) (m : Mix) → command_of l ≡ Some (command.Mix m) → IsMixAsked m
mix_asked l m e = command_within l (command.Mix m) e
