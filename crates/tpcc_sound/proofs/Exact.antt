-- No failure is found exactly where the rows are sound.
use Rattle.std.proofs.Common.{◌≡◌, refl, sym, ap, subst, ◌∙◌, ℤ, Bool, true, false, cond, true≢false, eqb, if◌then◌else◌, List, [], ◌∷◌}
use Rattle.std.proofs.Common.{Option, Some, None, is_none, arith}
use Rattle.std.specs.Prelude.{int_le, ◌<ℤ◌}
use Rattle.std.specs.List.{find, AllByRecursion}
use Rattle.std.specs.FinMap as fin
use Rattle.std.specs.FinMap.Entries as list
use Rattle.std.proofs.lemmas.Bool.{eqb-true, eq-eqb}
use Rattle.std.proofs.lemmas.Int.{ints}
use Rattle.aria_base.specs.Orders.{key_cmp, Cells, Database}
use Rattle.aria_base.specs.declared.keys.Key.{Key}
use Rattle.cat_builtin.specs.Warehouses as table
use Rattle.tpcc_audit.specs.declared.findings.Audit.{Audit}
use Rattle.tpcc_audit.specs.declared.findings.Audit.TheVariants as audit
use Rattle.tpcc_audit.specs.Conditions.{audited}
use Rattle.tpcc_routines.specs.declared.findings.Soundness.{Soundness}
use Rattle.tpcc_routines.specs.declared.findings.Soundness.TheVariants.{Sound, Fails}
use Rattle.tpcc_routines.specs.Routines.{d_next_o_id, order_number}
use Rattle.tpcc_routines.specs.Sound.{district_of, IsSound, is_next, is_early, line_finding, lines_finding, after_audit, soundness}
use Rattle.tpcc_sound.proofs.Entries.{Rows, ties, tied, each-entry}

-- ---- a row that is found is one of the rows

some-is : (x y : Cells) → Some x ≡ Some y → x ≡ y
some-is x y same = ap (λ o. or_this x o) same
  where
    or_this : Cells → Option Cells → Cells
    or_this x None = x
    or_this x (Some z) = z

each-holds : (P : Key → Cells → Type 0) (es : Rows) → AllByRecursion (λ e. P e.0 e.1) es → (q : Key) (row : Cells) → list.find key_cmp q es ≡ Some row
    → P q row
each-holds P [] all q row found = absurd (true≢false (ap is_none found))
each-holds P (e ∷ es) all q row found =
    elim (ties q e.0) as (λ b. ties q e.0 ≡ b → cond b (Some e.1) (list.find key_cmp q es) ≡ Some row → P q row) [
      | true ↦ λ is same. subst (λ k. P k row) (sym (tied q e.0 is)) (subst (P e.0) (some-is e.1 row same) all.0)
      | false ↦ λ other rest. each-holds P es all.1 q row rest
    ] refl found

-- ---- a search that finds nothing

none-passes : (p : Key × Cells → Bool) (es : Rows) → find p es ≡ None → AllByRecursion (λ e. p e ≡ false) es
none-passes p [] none = tt
none-passes p (e ∷ es) none =
    elim (p e) as (λ b. p e ≡ b → cond b (Some e) (find p es) ≡ None → (p e ≡ false) × AllByRecursion (λ e. p e ≡ false) es) [
      | true ↦ λ is some. absurd (true≢false (sym (ap is_none some)))
      | false ↦ λ is rest. (is, none-passes p es rest)
    ] refl none

passes-none : (p : Key × Cells → Bool) (es : Rows) → AllByRecursion (λ e. p e ≡ false) es → find p es ≡ None
passes-none p [] all = refl
passes-none p (e ∷ es) all = ap (λ b. cond b (Some e) (find p es)) all.0 ∙ passes-none p es all.1

-- ---- findings

abbrev is_sound : Soundness → Bool
is_sound Sound = true
is_sound (Fails condition w d) = false

line-none : (o : Option (Key × Cells)) → line_finding o ≡ Sound → o ≡ None
line-none None e = refl
line-none (Some line) e = absurd (true≢false (sym (ap is_sound e)))

audit-first : (a : Audit) (rest : Soundness) → after_audit a rest ≡ Sound → (a ≡ audit.Holds) × (rest ≡ Sound)
audit-first audit.Holds rest e = (refl, e)
audit-first (audit.Fails condition w d wanted found) rest e = absurd (true≢false (sym (ap is_sound e)))

-- ---- one row

below : (n o : ℤ) → int_le n o ≡ false → o <ℤ n
below n o e = grind (arith, ints)

not-below : (n o : ℤ) → o <ℤ n → int_le n o ≡ false
not-below n o e = grind (arith, ints)

next-not : (o : ℤ) (found : Option Cells) → ((district : Cells) → found ≡ Some district → o <ℤ d_next_o_id district) → is_next o found ≡ false
next-not o None so = refl
next-not o (Some district) so = not-below (d_next_o_id district) o (so district refl)

module _ (rows : Database) where
  abbrev IsNumbered : Key → Cells → Type 0
  IsNumbered k line = (district : Cells) → k.table ≡ table.order_lines → district_of rows k ≡ Some district → order_number k <ℤ d_next_o_id district

  is-numbered : (k : Key) (line : Cells) → is_early rows (k, line) ≡ false → IsNumbered k line
  is-numbered k line e district of there =
      below (d_next_o_id district) (order_number k)
      (ap (is_next (order_number k)) (sym there)
      ∙ ap (λ b. if b then is_next (order_number k) (district_of rows k) else false) (sym (eq-eqb k.table table.order_lines of)) ∙ e)

  not-early : (k : Key) (line : Cells) → IsNumbered k line → is_early rows (k, line) ≡ false
  not-early k line so = at (eqb k.table table.order_lines) refl
    where
      at : (b : Bool) → eqb k.table table.order_lines ≡ b → (if b then is_next (order_number k) (district_of rows k) else false) ≡ false
      at true of = next-not (order_number k) (district_of rows k) (λ district there. so district (eqb-true k.table table.order_lines of) there)
      at false other = refl

  -- ---- all rows

  pub sound-found : soundness rows ≡ Sound → IsSound rows
  sound-found e =
      let parts = audit-first (audited rows) (lines_finding rows (fin.entries rows)) e in
      let none = none-passes (is_early rows) (fin.entries rows) (line-none (find (is_early rows) (fin.entries rows)) parts.1) in
      record {
        audit = parts.0;
        lines = λ k line district of found there.
            is-numbered k line (each-holds (λ k row. is_early rows (k, row) ≡ false) (fin.entries rows) none k line (sym (fin.get-entries rows k) ∙ found))
            district of there;
      }

  pub found-sound : IsSound rows → soundness rows ≡ Sound
  found-sound sound =
      (λ i. after_audit (sound.audit i) (lines_finding rows (fin.entries rows)))
      ∙ ap line_finding (passes-none (is_early rows) (fin.entries rows)
      (each-entry (λ k row. is_early rows (k, row) ≡ false) rows
      (λ k line found. not-early k line (λ district of there. sound.lines k line district of found there))))
