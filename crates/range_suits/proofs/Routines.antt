-- A routine whose actions fit a schema touches whole keys, and keeps rows consistent.
use Rattle.std.proofs.Common.{◌≡◌, List, map, length, slice_get, true, Some, None, Option, sym, ap}
use Rattle.std.proofs.Common.{◌∙◌}
use Rattle.std.specs.Prelude.{IsSomeAnd}
use Rattle.std.specs.List.{All}
use Rattle.std.proofs.lemmas.Bool.{eq-eqb}
use Rattle.std.proofs.lemmas.List.{length-map}
use Rattle.std.proofs.lemmas.List.Elements.{All-nil}
use Rattle.aria_base.specs.Kinds.{value_kind, part_kind}
use Rattle.aria_base.specs.Orders.{key_cmp, Cells, Database}
use Rattle.aria_base.specs.Schemas.{IsConsistent}
use Rattle.aria_base.specs.declared.keys.Key.{Key}
use Rattle.aria_base.specs.declared.schemas.Table.{Table}
use Rattle.aria_base.proofs.Fitting.{MayStand, fit_changed}
use Rattle.aria_base.proofs.Orders.{key_cmp_total}
use Rattle.batch_rules.specs.Trees.{Read as visit_read, Write as visit_write, set_at}
use Rattle.batch_rules.specs.Touches.{is_among}
use Rattle.batch_rules.proofs.Maps.{get-set_at}
use Rattle.range_rules.specs.declared.routines.Action.{Action}
use Rattle.range_rules.specs.declared.routines.Action.TheVariants.{Read, Write, Scan, Stop}
use Rattle.range_rules.specs.declared.routines.Seen.{Seen}
use Rattle.range_rules.specs.Courses.{Course, after_action, run_routine}
use Rattle.range_rules.specs.Scans.{key_of}
use Rattle.range_rules.proofs.Courses.{routine_keeps}
use Rattle.range_suits.specs.Suits.{FitsKey, FitsWrite, FitsPrefix, FitsAction, has_parts, is_whole}
use Rattle.range_suits.proofs.Noting.{AllNoted, note_one, maybe_behind}

module _ (schema : List Table) where
  whole_from : (k : Key) → FitsKey schema k → is_whole schema k ≡ true
  whole_from k fits = at (slice_get schema k.table) fits
    where
      at : (table : Option Table) → IsSomeAnd table (λ table. map part_kind k.parts ≡ table.key) → has_parts table (length k.parts) ≡ true
      at None fits = absurd fits
      at (Some table) fits = eq-eqb _ _ (sym (ap length fits) ∙ length-map k.parts part_kind)

  key_fits : (k : Key) (row : Option Cells) → FitsWrite schema k row → FitsKey schema k
  key_fits k None fits = fits
  key_fits k (Some row) fits = at (slice_get schema k.table) fits
    where
      at : (table : Option Table) → IsSomeAnd table (λ table. (map part_kind k.parts ≡ table.key) × (map value_kind row ≡ table.cols))
          → IsSomeAnd table (λ table. map part_kind k.parts ≡ table.key)
      at None fits = fits
      at (Some table) fits = fits.0

  may_stand : (k : Key) (row : Option Cells) → FitsWrite schema k row → MayStand schema k row
  may_stand k None fits = tt
  may_stand k (Some row) fits = fits

  abbrev IsWhole : Key → Type 0
  IsWhole k = is_whole schema k ≡ true

  pub record FitsCourse (c : Course) : Type 0 where
    pub rows : IsConsistent schema c.map
    pub noted : AllNoted IsWhole c.noted
    pub scans : All (FitsPrefix schema) c.scans

  kept_by : (c : Course) (a : Action) → FitsAction schema a → FitsCourse c → FitsCourse (after_action c a)
  kept_by c (Read k) fits h = record { rows = h.rows; noted = note_one IsWhole c.noted (visit_read k) h.noted (whole_from k fits); scans = h.scans }
  kept_by c (Write k row) fits h = record {
    rows = fit_changed schema c.map (set_at c.map k row) k row h.rows (may_stand k row fits) (get-set_at key_cmp_total c.map k row);
    noted = note_one IsWhole c.noted (visit_write k row) h.noted (whole_from k (key_fits k row fits));
    scans = h.scans;
  }
  kept_by c (Scan p) fits h = record {
    rows = h.rows;
    noted = h.noted;
    scans = maybe_behind (FitsPrefix schema) (is_among key_cmp (map key_of c.scans) (key_of p)) c.scans p h.scans fits;
  }
  kept_by c (Stop e) fits h = h

  pub routine_fits : (act : List Seen → Action) (db : Database) → ((seen : List Seen) → FitsAction schema (act seen)) → IsConsistent schema db
      → FitsCourse (run_routine act db).course
  routine_fits act db fits consistent = routine_keeps act FitsCourse (λ c h. kept_by c (act c.seen) (fits c.seen) h) db
      (record { rows = consistent; noted = record { reads = All-nil IsWhole; writes = All-nil IsWhole }; scans = All-nil (FitsPrefix schema) })
