use Rattle.std.proofs.Common.{◌≡◌, ℕ, ◌<◌, ◌≤◌, ◌+◌, get_or, length}
use Rattle.std.specs.Vec.{vec_capacity}
use Rattle.std.specs.Mem.Slots.{slots_items}
use mathlib.Core.Option.{some}
use lib.ListN.{get_elem?}
use Rattle.resv_words.proofs.words.Words.close.Given as goal

abbrev pub invariant-loop-place : goal.invariant-loop-place
invariant-loop-place l = record {
  room : l.count + 1 ≤ vec_capacity l.words;
  filled : length l.words.items ≡ l.place;
  read : (k : ℕ) → k < l.place → get_elem? (slots_items l.closed.words) k ≡ some (get_or l.words.items k 0);
}
