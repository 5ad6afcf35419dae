-- What the waves of waiting requests come to.
use Rattle.std.specs.Prelude.{◌≡◌, ℕ, suc, ◌<◌, true, List, [], ◌∷◌, map, set, length, Option, Some, None, slice_get}
use Rattle.std.specs.Prelude.{slice_index_or, if◌then◌else◌, nat_eq, nat_lt}
use Rattle.std.specs.List.{All}
use Rattle.std.specs.Option.{option_map}
use Rattle.aria_base.specs.Orders.{key_cmp, Cells, Database}
use Rattle.aria_base.specs.Schemas.{IsConsistent}
use Rattle.aria_base.specs.declared.keys.Key.{Key}
use Rattle.aria_base.specs.declared.calls.Request.{Request}
use Rattle.batch_rules.specs.Trees.{Tree, trace_of, end_of}
use Rattle.batch_rules.specs.Touches.{outside}
use Rattle.batch_rules.specs.Waves.{Waved, waved, found, late_rows}
use Rattle.proc_lang.specs.Catalogs.{Plan, IsCatalog, takes}
use Rattle.proc_lang.specs.declared.ends.End.{End}
use Rattle.proc_lang.specs.Meaning.{is_done}
use Rattle.proc_exec.specs.Limits.{touchable}
use Rattle.proc_exec.specs.declared.outcomes.Waiting.{Waiting}
use Rattle.proc_exec.specs.declared.outcomes.Late.{Late}
use Rattle.proc_exec.specs.declared.outcomes.Late.TheVariants as late
use Rattle.fallback_locks.specs.declared.dones.Done.{Done}

-- the items with their waves
abbrev pub in_waves : List Waiting → List (Waved Waiting)
in_waves waiting = waved key_cmp (λ w. touchable w.declared) [] waiting

-- the wave of each, in the order of the list
abbrev pub waves_of : List Waiting → List ℕ
waves_of waiting = map (λ e. e.wave) (in_waves waiting)

-- it is a catalogue, which takes each call, and each row fits its tables
pub record AllFit (plan : Plan) (waiting : List Waiting) (rows : Database) : Type 0 where
  pub catalog : IsCatalog plan
  pub calls : All (λ w. takes plan w.request.call ≡ true) waiting
  pub rows_fit : IsConsistent plan.tables rows

-- the places, from i, of the numbers that are n
abbrev pub places : ℕ → ℕ → List ℕ → List ℕ
places n i [] = []
places n i (x ∷ xs) = if nat_eq x n then i ∷ places n (suc i) xs else places n (suc i) xs

-- each number's places, and no number past them
pub record IsGrouped (groups : List (List ℕ)) (numbers : List ℕ) : Type 0 where
  pub each : (n : ℕ) (d : List ℕ) → n < length groups → slice_index_or groups n d ≡ places n 0 numbers
  pub below : All (λ k. k < length groups) numbers

-- the results at their places
abbrev pub filled : List (Option Late) → List Done → List (Option Late)
filled slots [] = slots
filled slots (d ∷ ds) = filled (set slots d.place (Some d.late)) ds

-- finished at no key outside the declared ones, and else moved by that key
abbrev pub late_by : Option Key → End → Late
late_by None end = late.Finished end
late_by (Some key) end = late.Moved key

module _ (tree : Request → Tree Key Cells End) where
  -- what becomes of the request on the database
  abbrev pub late_at : Database → Waiting → Late
  late_at db w = late_by (outside key_cmp (touchable w.declared) (trace_of (tree w.request) db)) (end_of (tree w.request) db)

  -- the same, with its place and the rows that it writes
  abbrev pub done_at : Database → ℕ → Waiting → Done
  done_at db place w = record { place = place; late = late_at db w; rows = late_rows is_done (touchable w.declared) (tree w.request) db }

  -- what the request at the place of the list comes to
  abbrev pub done_of : Database → List Waiting → ℕ → Option Done
  done_of db waiting place = option_map (done_at db place) (slice_get waiting place)

  -- at this index of the places stands one whose request comes to that
  abbrev pub ComesTo : Database → List Waiting → List ℕ → ℕ → Done → Type 0
  ComesTo db waiting at index done = Some done ≡ done_of db waiting (slice_index_or at index 0)

  -- what the requests at these places come to, each on this database
  abbrev pub AreDone : Database → List Waiting → List ℕ → List Done → Type 0
  AreDone db waiting at dones = map Some dones ≡ map (done_of db waiting) at

  -- what wave n finds
  abbrev pub wave_finds : Database → List (Waved Waiting) → ℕ → Database
  wave_finds start es = found is_done (λ e. touchable e.item.declared) (λ e. tree e.item.request) (λ e. e.wave) start es

  -- the results of the waves below n at the places of these
  abbrev pub so_far : (ℕ → Database) → ℕ → List (Waved Waiting) → List (Option Late)
  so_far finds n es = map (λ e. if nat_lt e.wave n then Some (late_at (finds e.wave) e.item) else None) es
