-- The rows of the code's tables as plain values, and what matches give of a line.
use Rattle.std.specs.Prelude.{◌≡◌, ℕ, List, map, Option, Some, None, option_map, Vec}
use Rattle.std.specs.Borrow.{Bor}
use Rattle.clap.specs.Words.{Text, first_of, subcommand_rows_of}
use Rattle.clap.specs.declared.parser.matches.ArgMatches.{ArgMatches}
use Rattle.command_words.specs.declared.rows.OptionRow.{OptionRow}
use Rattle.command_words.specs.declared.rows.CommandRow.{CommandRow}
use Rattle.command_words.specs.declared.lines.GivenRow.{GivenRow}
use Rattle.command_words.specs.declared.lines.LineRow.{LineRow}
use Rattle.command_words.specs.declared.options.Number.{Number}
use Rattle.command_words.specs.declared.options.Choice.{Choice as Words}
use Rattle.command_words.specs.Lines.{Opt, Cmd, Given, Line, text_in}
use Rattle.command_words.specs.Values.{Choice, Range}

abbrev pub opt_of : OptionRow → Opt
opt_of r = record { name = r.name.now; is_flag = r.is_flag }

abbrev pub cmd_of : CommandRow → Cmd
cmd_of r = record { name = r.name.now; options = map opt_of r.options.now }

abbrev pub range_of : Number → Range
range_of n = record { name = n.name.now; low = n.low; high = n.high; usual = n.usual }

abbrev pub choice_of : {T : Type 0} → Words T → Choice T
choice_of c = record { name = c.name.now; usual = (c.usual.0.now, c.usual.1); other = (c.other.0.now, c.other.1) }

abbrev pub given_of : GivenRow → Given
given_of r = record { opt = opt_of r.option; text = r.text.now }

abbrev pub line_of_row : LineRow → Line
line_of_row r = record { cmd = cmd_of r.command; given = map given_of r.given.items }

abbrev pub part_of : Bor (List ℕ) × Option (Bor (List ℕ)) → List ℕ × Option (List ℕ)
part_of p = (p.0.now, option_map (λ v. v.now) p.1)

-- the same options, or none
abbrev pub IsOptionsOf : {A : Type 0} → Option (List Given) → Option (Vec GivenRow A) → Type 0
IsOptionsOf None None = Unit {0}
IsOptionsOf None (Some v) = ⊥
IsOptionsOf (Some xs) None = ⊥
IsOptionsOf (Some xs) (Some v) = map given_of v.items ≡ xs

-- the same line, or none
abbrev pub IsLineOf : Option Line → Option LineRow → Type 0
IsLineOf l r = option_map line_of_row r ≡ l

-- the matches are those of the line: its command, and the text of each option
abbrev pub IsRead : Line → ArgMatches → Type 0
IsRead l m = (option_map (λ p. p.0) (subcommand_rows_of m) ≡ Some l.cmd.name)
    × ((name : Text) → option_map (λ p. first_of name p.1) (subcommand_rows_of m) ≡ Some (text_in l name))

-- clap's matches where the arguments are a line, and none elsewhere
abbrev pub IsReadOf : Option Line → Option ArgMatches → Type 0
IsReadOf None None = Unit {0}
IsReadOf None (Some m) = ⊥
IsReadOf (Some l) None = ⊥
IsReadOf (Some l) (Some m) = IsRead l m
