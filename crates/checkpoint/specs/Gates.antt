-- What a stop may leave of a slot while its gate, or what stands behind it, is written.
use Rattle.std.specs.Prelude.{◌≡◌, ◌≢◌, ◌⊎◌, ℕ, List, [], ◌∷◌, length, take, Option, if◌then◌else◌}
use Rattle.disk_model.specs.Files.{File, untouched}
use Rattle.disk_model.specs.Histories.{HasImage}
use Rattle.checkpoint.specs.Slots.{is_open, opened, closed}

-- there is a gate, and it is closed
abbrev pub IsShut : List ℕ → Type 0
IsShut [] = ⊥
IsShut (gate ∷ rest) = gate ≢ 1

-- The gate is closed, or these bytes begin with an image from before. (They may be longer: once anything is written, what lies
-- behind the end at the last sync holds any bytes.)
abbrev pub IsShutOrSame : Option File → List ℕ → Type 0
IsShutOrSame told image = IsShut image ⊎ ((before : List ℕ) × HasImage told before × (take (length before) image ≡ before))

-- The gate is closed, or these bytes begin as an image from before does with its gate open.
abbrev pub IsShutOrOpened : Option File → List ℕ → Type 0
IsShutOrOpened told image =
    IsShut image ⊎ ((before : List ℕ) × HasImage told before × (take (length (opened before)) image ≡ opened before))

-- the file with its gate closed and synced; one that is closed was not written
abbrev pub shut_file : File → File
shut_file file = if is_open file.seen then untouched (closed file.seen) else file
