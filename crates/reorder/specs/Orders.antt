-- The printed order by places of the list, from 1.
use Rattle.std.specs.Prelude.{ℕ, ◌+◌, List, [], ◌∷◌, map, Bool, true, false, if◌then◌else◌}
use Rattle.std.specs.List.{enumerate_from}
use Rattle.batch_rules.specs.declared.verdicts.Verdict.{Verdict}
use Rattle.batch_rules.specs.Verdicts.{goes_ahead, keeps_turn}
use Rattle.batch_rules.specs.Batches.{Entry, Ended, Moved, placed, ordered}

-- those that finish in the commit phase, as they are placed
abbrev pub placed_tids : List Verdict → List ℕ
placed_tids verdicts = map (λ p. p.0) (placed (λ p. p.1) (enumerate_from 1 verdicts))

-- An entry that tells its place, its verdict and whether it has its final end, and nothing of keys, requests and ends
abbrev pub bare : ℕ → Verdict → Bool → Entry (Unit {0}) (Unit {0}) (Unit {0})
bare tid verdict ended = record {
  judged = record { tid = tid; request = tt; verdict = verdict };
  fate = if ended then Ended tt else Moved tt;
}

abbrev pub bare_from : ℕ → List Verdict → List Bool → List (Entry (Unit {0}) (Unit {0}) (Unit {0}))
bare_from tid [] ended = []
bare_from tid (verdict ∷ verdicts) [] = []
bare_from tid (verdict ∷ verdicts) (end ∷ ended) = bare tid verdict end ∷ bare_from (tid + 1) verdicts ended

-- all that have ended, as they are printed
abbrev pub ordered_tids : List Verdict → List Bool → List ℕ
ordered_tids verdicts ended = map (λ e. e.judged.tid) (ordered (bare_from 1 verdicts ended))

-- it finishes in the commit phase, and read what an earlier one writes or did not
abbrev pub finishes_with : Bool → Verdict → Bool
finishes_with true verdict = goes_ahead verdict
finishes_with false verdict = keeps_turn verdict
