-- What entries lead to: the rows among them, which come first and rise, and then the requests.
use Rattle.std.proofs.Common.{◌≡◌, ℕ, ◌+◌, ◌<◌, List, [], ◌∷◌, ◌++◌, length, map, Option, Some, None, Bool, true, false, cond, refl, ap, sym, ◌∙◌, arith}
use Rattle.std.specs.Prelude.{option_and_then, ◌&&◌, ◌==◌}
use Rattle.std.proofs.lemmas.Bool.{and_parts, and_from, eqb-true}
use Rattle.std.proofs.lemmas.List.{append_assoc, append-nil}
use Rattle.std.proofs.lemmas.Grind.{common_steps}
use Rattle.aria_base.specs.Orders.{Cells}
use Rattle.aria_base.specs.declared.keys.Key.{Key}
use Rattle.aria_base.specs.declared.calls.Request.{Request}
use Rattle.image_text.specs.Lines.{pushes}
use Rattle.image_text.specs.Entries.{Entry, OfRow, OfHeld, Taken, last_key, is_above, push}
use Rattle.image_text.proofs.RowsRise.{ascend, last_pushed}

abbrev pub entries_in : List (Key × Cells) → List Request → List Entry
entries_in rows held = map OfRow rows ++ map OfHeld held

abbrev pub taken_of : List (Key × Cells) → List Request → Taken
taken_of rows held = record { rows = rows; held = held }

module _ (read : List ℕ → Option Entry) where
  -- ---- forth

  helds_pushed : (held : List Request) (s : Taken) → pushes read push s (map OfHeld held) ≡ Some (taken_of (s.rows) (s.held ++ held))
  helds_pushed [] s = ap (λ (l : List Request). Some (taken_of s.rows l)) (sym (append-nil s.held))
  helds_pushed (r ∷ held) s =
      helds_pushed held (taken_of (s.rows) (s.held ++ r ∷ [])) ∙ ap (λ (l : List Request). Some (taken_of s.rows l)) (append_assoc s.held (r ∷ []) held)

  pub entries_pushed : (rows before : List (Key × Cells)) (held : List Request) → ascend (last_key before) rows ≡ true
      → pushes read push (taken_of (before) ([])) (entries_in rows held) ≡ Some (taken_of (before ++ rows) (held))
  entries_pushed [] before held up =
      helds_pushed held (taken_of (before) ([])) ∙ ap (λ (l : List (Key × Cells)). Some (taken_of l held)) (sym (append-nil before))
  entries_pushed (row ∷ rows) before held up =
      let parts = and_parts (is_above (last_key before) row.0) (ascend (Some row.0) rows) up in
      let above = parts.0 in
      let last = ap (λ (o : Option Key). ascend o rows) (last_pushed before row) in
      rw above (entries_pushed rows (before ++ row ∷ []) held (last ∙ parts.1)
      ∙ ap (λ (l : List (Key × Cells)). Some (taken_of l held)) (append_assoc before (row ∷ []) rows))

  -- ---- back

  pub record IsGrown (s : Taken) (xs : List Entry) (end : Taken) : Type 0 where
    pub rows : List (Key × Cells)
    pub held : List Request
    pub items : xs ≡ entries_in rows held
    pub rows_are : end.rows ≡ s.rows ++ rows
    pub held_are : end.held ≡ s.held ++ held
    pub rising : ascend (last_key s.rows) rows ≡ true
    pub first : 0 < length s.held → rows ≡ []

  with_row : (s end : Taken) (row : Key × Cells) (xs : List Entry) → (length s.held == 0) ≡ true → is_above (last_key s.rows) row.0 ≡ true
      → IsGrown (taken_of (s.rows ++ row ∷ []) (s.held)) xs end → IsGrown s (OfRow row ∷ xs) end
  with_row s end row xs none above h = record {
    rows = row ∷ h.rows;
    held = h.held;
    items = ap (λ (l : List Entry). OfRow row ∷ l) h.items;
    rows_are = h.rows_are ∙ append_assoc s.rows (row ∷ []) h.rows;
    held_are = h.held_are;
    rising = and_from (is_above (last_key s.rows) row.0) (ascend (Some row.0) h.rows) above
        (ap (λ (o : Option Key). ascend o h.rows) (sym (last_pushed s.rows row)) ∙ h.rising);
    first = λ some. let k = eqb-true (length s.held) 0 none in absurd (omega arith);
  }

  with_held : (s end : Taken) (r : Request) (xs : List Entry) → IsGrown (taken_of (s.rows) (s.held ++ r ∷ [])) xs end → IsGrown s (OfHeld r ∷ xs) end
  with_held s end r xs h =
      let no_rows : h.rows ≡ [] = h.first (grind (arith, common_steps)) in
      record {
        rows = [];
        held = r ∷ h.held;
        items = ap (λ (l : List Entry). OfHeld r ∷ l) (h.items ∙ ap (λ (l : List (Key × Cells)). entries_in l h.held) no_rows);
        rows_are = h.rows_are ∙ ap (λ (l : List (Key × Cells)). s.rows ++ l) no_rows;
        held_are = h.held_are ∙ append_assoc s.held (r ∷ []) h.held;
        rising = refl;
        first = λ some. refl;
      }

  pub grown : (xs : List Entry) (s end : Taken) → pushes read push s xs ≡ Some end → IsGrown s xs end
  grown [] s end e =
      let same : s ≡ end = cc in
      record {
        rows = [];
        held = [];
        items = refl;
        rows_are = ap (λ (t : Taken). t.rows) (sym same) ∙ sym (append-nil s.rows);
        held_are = ap (λ (t : Taken). t.held) (sym same) ∙ sym (append-nil s.held);
        rising = refl;
        first = λ some. refl;
      }
  grown (OfHeld r ∷ xs) s end e = with_held s end r xs (grown xs (taken_of (s.rows) (s.held ++ r ∷ [])) end e)
  grown (OfRow row ∷ xs) s end e = by (λ k. grown xs (taken_of (s.rows ++ row ∷ []) (s.held)) end k) (length s.held == 0) refl
      (is_above (last_key s.rows) row.0) refl e
    where
      by : (pushes read push (taken_of (s.rows ++ row ∷ []) (s.held)) xs ≡ Some end → IsGrown (taken_of (s.rows ++ row ∷ []) (s.held)) xs end)
          → (a : Bool) → (length s.held == 0) ≡ a → (b : Bool) → is_above (last_key s.rows) row.0 ≡ b
          → option_and_then (λ t. pushes read push t xs) (cond (a && b) (Some (taken_of (s.rows ++ row ∷ []) (s.held))) None) ≡ Some end
          → IsGrown s (OfRow row ∷ xs) end
      by again true p true q k = with_row s end row xs p q (again k)
      by again true p false q k = cc
      by again false p b q k = cc
