-- The command as far as it is made.
use Rattle.std.specs.Prelude.{ℕ, Bool, true, false, zero, suc, List, map, take}
use Rattle.clap.specs.Walk.{Text}
use Rattle.clap.specs.Simple.{App}
use Rattle.command_words.specs.declared.rows.CommandRow.{CommandRow}
use Rattle.command_words.specs.Shapes.{shape_for, top_for}
use Rattle.command_words.specs.Rows.{cmd_of}

abbrev pub is_zero : ℕ → Bool
is_zero zero = true
is_zero (suc n) = false

abbrev pub so_far : Text → List CommandRow → ℕ → App
so_far name rows i =
    record { top = record (top_for name) { is_leaf = is_zero i }; subs = map shape_for (map cmd_of (take i rows)) }
