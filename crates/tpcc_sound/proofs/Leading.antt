-- Runs of procedures, statement by statement: what holds of the rows where a run is done.
use Rattle.std.proofs.Common.{◌≡◌, refl, sym, ap, ◌∙◌, ℕ, ◌+◌, Bool, true, false, nat_lt, true≢false, if◌then◌else◌}
use Rattle.std.proofs.Common.{List, [], ◌∷◌, ◌++◌, length, Option, Some, None, Ok, Err}
use Rattle.std.specs.Prelude.{Result}
use Rattle.std.specs.FinMap as fin
use Rattle.aria_base.specs.Orders.{Cells, Database}
use Rattle.aria_base.specs.declared.keys.Key.{Key}
use Rattle.aria_base.specs.declared.values.Value.{Value}
use Rattle.batch_rules.specs.Trees.{Ends, Reads, Writes, set_at, end_of, left_by}
use Rattle.batch_rules.specs.Touches.{map_after}
use Rattle.proc_lang.specs.declared.ends.Trap.{Trap}
use Rattle.proc_lang.specs.declared.ends.Trap.TheVariants.{Many}
use Rattle.proc_lang.specs.declared.ends.End.{End}
use Rattle.proc_lang.specs.declared.ends.End.TheVariants as end
use Rattle.proc_lang.specs.declared.limits.TheConstants.{MOST_ACCESSES, MOST_GIVEN}
use Rattle.proc_lang.specs.Values.{Got, both}
use Rattle.proc_lang.specs.Meaning.{Frame, Run, Next, set_to, with, counted, reads, writes, read_or, gives, set_all, is_done}

-- a result without a trap
abbrev pub ok_of : {A : Type 0} → A → Got A
ok_of x = Ok x

abbrev or_that : {A : Type 0} → A → Got A → A
or_that x (Ok y) = y
or_that x (Err t) = x

pub ok-is : {A : Type 0} (x y : A) → ok_of x ≡ ok_of y → x ≡ y
ok-is x y e = ap (or_that x) e

module _ (P : Database → Type 0) where
  -- where the run is done on this database, P holds of the rows that it leaves
  abbrev pub Leads : Run → Database → Type 0
  Leads (Ends e) db = is_done e ≡ true → P db
  Leads (Reads k go) db = Leads (go (fin.get db k)) db
  Leads (Writes k row t) db = Leads t (set_at db k row)

  left-leads : (t : Run) (db : Database) → Leads t db → is_done (end_of t db) ≡ true → P (left_by t db)
  left-leads (Ends e) db leads done = leads done
  left-leads (Reads k go) db leads done = left-leads (go (fin.get db k)) db leads done
  left-leads (Writes k row t) db leads done = left-leads t (set_at db k row) leads done

  pub run-leads : (t : Run) (db : Database) → P db → Leads t db → P (map_after is_done t db)
  run-leads t db before leads = on (is_done (end_of t db)) refl
    where
      on : (b : Bool) → is_done (end_of t db) ≡ b → P (if b then left_by t db else db)
      on true is = left-leads t db leads is
      on false is = before

  -- ---- parts of a statement

  pub with-leads : {A : Type 0} (g : Got A) (go : A → Run) (db : Database) → ((x : A) → g ≡ Ok x → Leads (go x) db) → Leads (with g go) db
  with-leads (Ok x) go db so = so x refl
  with-leads (Err trap) go db so = λ done. absurd (true≢false (sym done))

  pub counted-leads : (f : Frame) (go : Next) (db : Database)
      → ((g : Frame) → g.regs ≡ f.regs → g.gives ≡ f.gives → Leads (go g) db) → Leads (counted f go) db
  counted-leads f go db so = on (nat_lt f.made MOST_ACCESSES)
    where
      on : (b : Bool) → Leads (if b then go (record { regs = f.regs; gives = f.gives; made = f.made + 1 }) else Ends (end.Trap Many)) db
      on true = so (record { regs = f.regs; gives = f.gives; made = f.made + 1 }) refl refl
      on false = λ done. absurd (true≢false (sym done))

  -- the row at a key into registers, or the run is not done
  pub read-leads : (key : Got Key) (absent : End) (rs : List ℕ) (next : Next) (f : Frame) (db : Database) → is_done absent ≡ false
      → ((k : Key) (row : Cells) (g : Frame) → key ≡ Ok k → fin.get db k ≡ Some row → g.regs ≡ set_all rs row f.regs → Leads (next g) db)
      → Leads (reads key (read_or absent rs next) f) db
  read-leads key absent rs next f db not so =
      with-leads key (λ k. counted f (λ g. Reads k (read_or absent rs next g))) db (λ k is.
      counted-leads f (λ g. Reads k (read_or absent rs next g)) db (λ g regs _. on k is g regs (fin.get db k) refl))
    where
      on : (k : Key) → key ≡ Ok k → (g : Frame) → g.regs ≡ f.regs → (o : Option Cells) → fin.get db k ≡ o → Leads (read_or absent rs next g o) db
      on k is g regs None none = λ done. absurd (true≢false (sym done ∙ not))
      on k is g regs (Some row) there = so k row (set_to g (set_all rs row g.regs)) is there (ap (set_all rs row) regs)

  pub write-leads : (key : Got Key) (row : Got (Option Cells)) (next : Next) (f : Frame) (db : Database)
      → ((k : Key) (r : Option Cells) (g : Frame) → key ≡ Ok k → row ≡ Ok r → g.regs ≡ f.regs → Leads (next g) (set_at db k r))
      → Leads (writes key row next f) db
  write-leads key row next f db so =
      with-leads (both key row) (λ p. counted f (λ g. Writes p.0 p.1 (next g))) db (λ p is.
      let parts = both-parts key row p is in
      counted-leads f (λ g. Writes p.0 p.1 (next g)) db (λ g regs _. so p.0 p.1 g parts.0 parts.1 regs))
    where
      both-parts : (key : Got Key) (row : Got (Option Cells)) (p : Key × Option Cells) → both key row ≡ Ok p → (key ≡ Ok p.0) × (row ≡ Ok p.1)
      both-parts (Ok k) (Ok r) p is = (ap (λ q. Ok q.0) (ok-is (k, r) p is), ap (λ q. Ok q.1) (ok-is (k, r) p is))
      both-parts (Ok k) (Err t) p is = let no : ⊥ = cc in absurd no
      both-parts (Err t) row p is = let no : ⊥ = cc in absurd no

  pub gives-leads : (next : Next) (f : Frame) (v : Value) (db : Database) → ((g : Frame) → g.regs ≡ f.regs → Leads (next g) db) → Leads (gives next f v) db
  gives-leads next f v db so = on (nat_lt (length f.gives) MOST_GIVEN)
    where
      on : (b : Bool) → Leads (if b then next (record { regs = f.regs; gives = f.gives ++ v ∷ []; made = f.made }) else Ends (end.Trap Many)) db
      on true = so (record { regs = f.regs; gives = f.gives ++ v ∷ []; made = f.made }) refl
      on false = λ done. absurd (true≢false (sym done))

  pub if-leads : (b : Bool) (one other : Run) (db : Database) → Leads one db → Leads other db → Leads (if b then one else other) db
  if-leads true one other db a o = a
  if-leads false one other db a o = o
