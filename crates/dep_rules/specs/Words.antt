-- A batch's reservation words as they are read for the decision of one request.
use Rattle.std.specs.Prelude.{◌≡◌, ◌<◌, ℕ, ◌+◌, ◌*◌, ◌-◌, Option, None, Some, if◌then◌else◌, min, nat_lt, List, [], ◌∷◌, length}
use Rattle.std.specs.Prelude.{slice_index}
use Rattle.std.specs.List.{range_with_len}
use Rattle.std.specs.Ordering.{nat_cmp}
use Rattle.aria_base.specs.Reserved.{tid_under}
use Rattle.batch_rules.specs.Touches.{is_among}
use Rattle.batch_rules.specs.Verdicts.{least}
use Rattle.dep_rules.specs.Sheets.{Sheet}
use Rattle.dep_rules.specs.declared.decisions.Side.{Side}
use Rattle.dep_rules.specs.declared.decisions.Side.TheVariants as side

-- Under the tag the words of each key stand for the least request that writes it, at the even place, and for the least that reads it,
-- at the odd one; for none where no request does.
pub record Tell (sheet : Sheet) (tag : ℕ) (words : List ℕ) : Type 0 where
  pub two_a_key : length words ≡ 2 * sheet.keys
  pub writers : (key : ℕ) → key < sheet.keys → tid_under tag (slice_index words (2 * key))
      ≡ least (λ keys. is_among nat_cmp keys key) sheet.writes
  pub readers : (key : ℕ) → key < sheet.keys → tid_under tag (slice_index words (2 * key + 1))
      ≡ least (λ keys. is_among nat_cmp keys key) sheet.reads

-- the TIDs of the requests before this one
abbrev pub tids_before : ℕ → List ℕ
tids_before tid = range_with_len 1 (tid - 1)

abbrev pub place_on : Side → ℕ → ℕ
place_on side.Reads key = 2 * key + 1
place_on side.Writes key = 2 * key

abbrev pub earlier_only : ℕ → Option ℕ → Option ℕ
earlier_only tid None = None
earlier_only tid (Some t) = if nat_lt t tid then Some t else None

abbrev pub lesser : Option ℕ → Option ℕ → Option ℕ
lesser None other = other
lesser (Some t) None = Some t
lesser (Some t) (Some u) = Some (min t u)

-- the TID below `tid` that the key's word stands for on this side
abbrev pub told : List ℕ → ℕ → Side → ℕ → ℕ → Option ℕ
told words tag side tid key = earlier_only tid (tid_under tag (slice_index words (place_on side key)))

-- the least of what is told of these keys, and of this one
abbrev pub least_of : (ℕ → Option ℕ) → Option ℕ → List ℕ → Option ℕ
least_of f best [] = best
least_of f best (key ∷ keys) = least_of f (lesser best (f key)) keys
