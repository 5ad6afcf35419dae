-- A text in lines. A line feed (10) ends a line; one carriage return (13) at a line's end is no part of it.
use Rattle.std.specs.Prelude.{ℕ, ◌+◌, ◌-◌, ◌^◌, min, Bool, not, ◌&&◌, ◌==◌, nat_le, if◌then◌else◌, List, [], ◌∷◌, ◌++◌, length}
use Rattle.std.specs.Prelude.{take, slice_index, Option, Some, None}
use Rattle.script_text.specs.declared.refusals.Refusal.{Refusal}
use Rattle.script_text.specs.declared.refusals.RefusalKind.{RefusalKind}
use Rattle.script_text.specs.declared.refusals.RefusalKind.TheVariants.{Long, Size}

-- what is known of a text as far as it was taken: how many bytes it may have, and how many a line; how many were taken, how many
-- of them were line feeds, and what stands behind the last of these
pub record Feed : Type 0 where
  pub limit : ℕ
  pub longest : ℕ
  pub taken : ℕ
  pub count : ℕ
  pub begun : List ℕ

-- nothing was taken
abbrev pub blank : ℕ → ℕ → Feed
blank limit longest = record { limit = limit; longest = longest; taken = 0; count = 0; begun = [] }

-- the line without one carriage return at its end
abbrev pub unreturned : List ℕ → List ℕ
unreturned line = if slice_index line (length line - 1) == 13 then take (length line - 1) line else line

-- the number of the line behind so many; it stands still at the greatest number of 64 bits
abbrev pub line_after : ℕ → ℕ
line_after count = min (count + 1) (2 ^ 64 - 1)

-- this byte is past what its line may have; a line feed never is
abbrev pub is_past_line : Feed → ℕ → Bool
is_past_line feed b = not (b == 10) && nat_le feed.longest (length feed.begun)

-- this byte is past what the text may have
abbrev pub is_past_limit : Feed → Bool
is_past_limit feed = nat_le feed.limit feed.taken

abbrev pub with_feed : Feed → Feed
with_feed feed = record feed { taken = feed.taken + 1; count = feed.count + 1; begun = [] }

abbrev pub with_byte : Feed → ℕ → Feed
with_byte feed b = record feed { taken = feed.taken + 1; begun = feed.begun ++ b ∷ [] }

-- the lines that bytes complete before the first one that is past a bound; what is known there; and the refusal of that byte's
-- line
pub record Scan : Type 0 where
  pub lines : List (List ℕ)
  pub feed : Feed
  pub fault : Option Refusal

abbrev pub refused_at : ℕ → RefusalKind → Refusal
refused_at count kind = record { line = line_after count; kind = kind }

abbrev pub stopped : List (List ℕ) → Feed → RefusalKind → Scan
stopped done feed kind = record { lines = done; feed = feed; fault = Some (refused_at feed.count kind) }

abbrev pub scan_after : List (List ℕ) → Feed → List ℕ → Scan
scan_after done feed [] = record { lines = done; feed = feed; fault = None }
scan_after done feed (b ∷ bs) =
    if is_past_line feed b then stopped done feed Long
    else (if is_past_limit feed then stopped done feed Size
    else (if b == 10 then scan_after (done ++ unreturned feed.begun ∷ []) (with_feed feed) bs
    else scan_after done (with_byte feed b) bs))

abbrev pub scan : Feed → List ℕ → Scan
scan feed bytes = scan_after [] feed bytes

-- the line behind the last line feed, where bytes stand there
abbrev pub last_line : Feed → Option (List ℕ)
last_line feed = if length feed.begun == 0 then None else Some (unreturned feed.begun)
