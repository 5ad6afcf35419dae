-- What a person at a terminal is told: words and lines as they are shown, and the words that cannot stand.
use Rattle.std.specs.Prelude.{ℕ, zero, suc, Bool, false, not, ◌&&◌, ◌==◌, nat_le, nat_lt, min, if◌then◌else◌, List, [], ◌∷◌, ◌++◌, length, map, take, drop, slice_index, count_by, ◌-◌}
use Rattle.std.specs.Prelude.{Option, Some, None, option_and_then, is_some, codes, bytes_eq, find}
use Rattle.std.specs.List.{before_first, after_first}
use Rattle.command_words.specs.Lines.{Opt, Cmd, line_of, opt_named}
use Rattle.command_words.specs.Settings.{command_of}
use Rattle.aria_cli.specs.declared.hints.TheConstants.{MOST_SHOWN, MOST_WORDS}

-- a byte as it is shown: `?` in the place of one that does not print
abbrev pub shown_byte : ℕ → ℕ
shown_byte byte = if nat_le 32 byte && nat_le byte 126 then byte else 63

-- a line as it is shown
abbrev pub shown : List ℕ → List ℕ
shown line = map shown_byte (take (min (length line) MOST_SHOWN) line) ++ (if nat_lt MOST_SHOWN (length line) then codes " .." else [])

-- a further word behind those that are shown
abbrev pub with_word : List ℕ → List ℕ → List ℕ
with_word text word = (if length text == 0 then text else text ++ 32 ∷ []) ++ shown word

abbrev pub with_words : List ℕ → List (List ℕ) → List ℕ
with_words text [] = text
with_words text (word ∷ words) = with_words (with_word text word) words

abbrev pub is_option : List ℕ → Bool
is_option word = bytes_eq (take 2 word) (codes "--")

-- whether the value of an option is the next word, where its name stands alone
abbrev pub has_value : Option Opt → Bool
has_value None = false
has_value (Some option) = not option.is_flag

abbrev pub takes_next : List Opt → List ℕ → Bool
takes_next options word = if is_option word then has_value (opt_named options (drop 2 word)) else false

-- the first word, with the next one where that is its value
abbrev pub first_option : List Opt → List (List ℕ) → List (List ℕ)
first_option options [] = []
first_option options (word ∷ []) = word ∷ []
first_option options (word ∷ value ∷ rest) =
    if takes_next options word && not (is_option value) then word ∷ value ∷ [] else word ∷ []

-- the options of a command
abbrev pub options_in : Option Cmd → List Opt
options_in None = []
options_in (Some command) = command.options

abbrev pub options_of : List Cmd → List ℕ → List Opt
options_of commands name = options_in (find (λ command. bytes_eq command.name name) commands)

abbrev pub is_command : List Cmd → List (List ℕ) → Bool
is_command commands words = is_some (option_and_then command_of (line_of commands words))

-- of how many words the longest beginning is that is a command, where it has fewer than so many; 0 where none is
abbrev pub longest_below : List Cmd → List (List ℕ) → ℕ → ℕ
longest_below commands words zero = 0
longest_below commands words (suc count) =
    if is_command commands (take count words) then count else longest_below commands words count

-- the words that cannot stand
abbrev pub wrong_words : List Cmd → List (List ℕ) → List (List ℕ)
wrong_words commands [] = []
wrong_words commands (name ∷ rest) = first_option (options_of commands name)
    (drop (longest_below commands (name ∷ rest) (min (length (name ∷ rest)) MOST_WORDS)) (name ∷ rest))

-- `refused NUMBER CAUSE`
abbrev pub number_in : List ℕ → List ℕ
number_in line = before_first (λ b. b == 32) (drop 8 line)

abbrev pub cause_in : List ℕ → List ℕ
cause_in line = after_first (λ b. b == 32) (drop 8 line)

-- bytes without this one at their end, where it stands there
abbrev pub without_last : ℕ → List ℕ → List ℕ
without_last byte line = if nat_lt 0 (length line) && (slice_index line (length line - 1) == byte) then take (length line - 1) line else line

-- a line without its line feed, and without a carriage return before that
abbrev pub without_end : List ℕ → List ℕ
without_end line = without_last 13 (without_last 10 line)

-- how many line feeds there are
abbrev pub feeds : List ℕ → ℕ
feeds bytes = count_by (λ b. b == 10) bytes
