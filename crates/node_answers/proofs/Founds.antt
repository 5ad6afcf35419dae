-- What `get` found at a place of a list.
use Rattle.std.proofs.Common.{◌≡◌, ℕ, List, length, Some, None, true, false, ltb, refl, sym}
use Rattle.std.specs.Prelude.{slice_get, slice_index_or}
use Rattle.std.proofs.lemmas.Bool.{ltb-true, ltb-false}
use Rattle.std.proofs.lemmas.Option.{slice_get_read, slice_get_past}

module _ {X : Type 0} (xs : List X) (i : ℕ) where
  pub found_at : (x : X) → true ≡ ltb i (length xs) → x ≡ slice_index_or xs i x → Some x ≡ slice_get xs i
  found_at x within is = sym (slice_get_read xs (length xs) i x refl (ltb-true i (length xs) (sym within)) is)

  pub none_at : false ≡ ltb i (length xs) → None ≡ slice_get xs i
  none_at past = sym (slice_get_past xs i (ltb-false i (length xs) (sym past)))
