-- The routine suits a database with the tables of the tests.
use Rattle.std.proofs.Common.{◌≡◌, ℕ, ℤ, pos, ◌<◌, List, [], ◌∷◌, length, take, slice_get, Bool, true, false, Some, None, Option, subst, refl, arith}
use Rattle.std.specs.Prelude.{IsSomeAnd, if◌then◌else◌}
use Rattle.std.specs.Ordering.{int_eq}
use Rattle.aria_base.specs.Orders.{Cells}
use Rattle.aria_base.specs.declared.keys.Part.{Part}
use Rattle.aria_base.specs.declared.keys.Part.TheVariants as part
use Rattle.aria_base.specs.declared.schemas.Table.{Table}
use Rattle.aria_base.specs.declared.values.Kind.{Kind}
use Rattle.aria_base.specs.declared.values.Kind.TheVariants as kind
use Rattle.proc_lang.specs.declared.ends.End.TheVariants as end
use Rattle.proc_lang.specs.declared.ends.Trap.TheVariants.{Absent}
use Rattle.range_rules.specs.declared.routines.Action.{Action}
use Rattle.range_rules.specs.declared.routines.Action.TheVariants as action
use Rattle.range_rules.specs.declared.routines.Seen.{Seen}
use Rattle.range_suits.specs.Suits.{FitsAction, FitsPrefix, FitsWrite, Suits}
use Rattle.worked_scans.specs.Ready.{HasTables}
use Rattle.worked_scans.specs.Steps.{act_of, after, asked, at_step, behind, count_of, longest, noted, number_row, pair, scanned, takes_any}

-- a table whose keys have two parts, and whose rows have one number
abbrev HasKeys : Kind → Option Table → Type 0
HasKeys first table = IsSomeAnd table (λ t. (first ∷ kind.Int ∷ [] ≡ t.key) × (kind.Int ∷ [] ≡ t.cols))

one_of_two : (first : Kind) (table : Option Table) → HasKeys first table → IsSomeAnd table (λ t. (1 < length t.key) × (first ∷ [] ≡ take 1 t.key))
one_of_two first None has = absurd has
one_of_two first (Some t) has = subst (λ (key : List Kind). (1 < length key) × (first ∷ [] ≡ take 1 key)) has.0 (omega arith, refl)

none_of_two : (first : Kind) (table : Option Table) → HasKeys first table → IsSomeAnd table (λ t. (0 < length t.key) × ([] ≡ take 0 t.key))
none_of_two first None has = absurd has
none_of_two first (Some t) has = subst (λ (key : List Kind). (0 < length key) × ([] ≡ take 0 key)) has.0 (omega arith, refl)

its_key : (first : Kind) (table : Option Table) → HasKeys first table → IsSomeAnd table (λ t. first ∷ kind.Int ∷ [] ≡ t.key)
its_key first None has = absurd has
its_key first (Some t) has = has.0

module _ (schema : List Table) (has : HasTables schema) where
  abbrev Fit : Action → Type 0
  Fit = FitsAction schema

  -- where both may stand, either may
  either : (so : Bool) (one other : Action) → Fit one → Fit other → Fit (if so then one else other)
  either true one other fits others = fits
  either false one other fits others = others

  under_fits : (a : ℤ) → FitsPrefix schema (record { table = 0; parts = part.Int a ∷ [] })
  under_fits a = one_of_two kind.Int (slice_get schema 0) has.pairs

  pairs_fit : FitsPrefix schema (record { table = 0; parts = [] })
  pairs_fit = none_of_two kind.Int (slice_get schema 0) has.pairs

  longest_fits : FitsPrefix schema (record { table = 1; parts = part.Text longest ∷ [] })
  longest_fits = one_of_two kind.Text (slice_get schema 1) has.texts

  texts_fit : FitsPrefix schema (record { table = 1; parts = [] })
  texts_fit = none_of_two kind.Text (slice_get schema 1) has.texts

  key_fits : (a b : ℤ) → FitsWrite schema (pair a b) None
  key_fits a b = its_key kind.Int (slice_get schema 0) has.pairs

  abbrev scan : ℕ → List Part → Action
  scan table parts = action.Scan (record { table = table; parts = parts })

  abbrev trap : Action
  trap = action.Stop (end.Trap Absent)

  -- what is left after some tests
  abbrev from_texts : ℤ → Action
  from_texts op = if int_eq op (pos 9) then scan 1 [] else trap

  abbrev from_longest : ℤ → Action
  from_longest op = if int_eq op (pos 8) then scan 1 (part.Text longest ∷ []) else from_texts op

  abbrev from_pairs : ℤ → Action
  from_pairs op = if int_eq op (pos 7) then scan 0 [] else from_longest op

  scanned_fits : (op a : ℤ) → Fit (scanned op a)
  scanned_fits op a =
      either (int_eq op (pos 6)) (scan 0 (part.Int a ∷ [])) (from_pairs op) (under_fits a) (
      either (int_eq op (pos 7)) (scan 0 []) (from_longest op) pairs_fit (
      either (int_eq op (pos 8)) (scan 1 (part.Text longest ∷ [])) (from_texts op) longest_fits (
      either (int_eq op (pos 9)) (scan 1 []) trap texts_fit tt)))

  abbrev deletes : ℤ → ℤ → Action
  deletes a b = action.Write (pair a b) None

  abbrev puts : ℤ → ℤ → ℤ → Action
  puts a b n = action.Write (pair a b) (Some (number_row n))

  abbrev from_deletes : ℤ → ℤ → ℤ → Action
  from_deletes op a b = if int_eq op (pos 4) then deletes a b else scanned op a

  abbrev from_puts_at : ℤ → ℤ → ℤ → Cells → Action
  from_puts_at op a b found = if int_eq op (pos 3) then puts a (count_of found) b else from_deletes op a b

  abbrev from_puts : ℤ → ℤ → ℤ → Cells → Action
  from_puts op a b found = if int_eq op (pos 2) then puts a b (count_of found) else from_puts_at op a b found

  asked_fits : (op a b : ℤ) (found : Cells) → Fit (asked op a b found)
  asked_fits op a b found =
      either (int_eq op (pos 1)) (action.Read (pair a b)) (from_puts op a b found) (key_fits a b) (
      either (int_eq op (pos 2)) (puts a b (count_of found)) (from_puts_at op a b found) has.pairs (
      either (int_eq op (pos 3)) (puts a (count_of found) b) (from_deletes op a b) has.pairs (
      either (int_eq op (pos 4)) (deletes a b) (scanned op a) (key_fits a b) (scanned_fits op a))))

  step_fits : (steps : List ℤ) (found : Cells) → Fit (at_step steps found)
  step_fits [] found = tt
  step_fits (op ∷ []) found = tt
  step_fits (op ∷ a ∷ []) found = tt
  step_fits (op ∷ a ∷ b ∷ rest) found = asked_fits op a b found

  after_fits : (steps : List ℤ) (found : Cells) (seen : List Seen) → Fit (after steps found seen)
  after_fits steps found [] = step_fits steps found
  after_fits steps found (one ∷ seen) = after_fits (behind steps) (noted found one) seen

  pub steps_suit : Suits schema takes_any (λ q call. act_of call)
  steps_suit call q seen taken first last = after_fits call.nums [] seen
