-- The longest beginning of the arguments that is a command.
use Rattle.std.proofs.Common.{◌≡◌, ◌∙◌, ◌+◌, ◌<◌, ℕ, true, false, suc, refl, sym, ap, ap₂, arith, List, [], ◌∷◌, map, take, drop, length, min, get_or}
use Rattle.std.proofs.lemmas.List.{take-map, drop-map, length-map}
use Rattle.command_words.specs.Lines.{Cmd}
use Rattle.aria_cli.specs.declared.hints.TheConstants.{MOST_WORDS}
use Rattle.aria_cli.specs.Told.{first_option, is_command, longest_below, options_of, wrong_words}

module _ {A : Type 0} (bytes : A → List ℕ) (commands : List Cmd) (words : List A) where
  -- a longer one
  pub longer : (count : ℕ) → is_command commands (map bytes (take count words)) ≡ true → count ≡ longest_below commands (map bytes words) (count + 1)
  longer count is =
      let next : count + 1 ≡ suc count = omega arith in
      let same : take count (map bytes words) ≡ map bytes (take count words) = take-map bytes count words in
      rw (next, same, is) refl

  -- none that is longer
  pub no_longer : (count : ℕ) → is_command commands (map bytes (take count words)) ≡ false
      → longest_below commands (map bytes words) count ≡ longest_below commands (map bytes words) (count + 1)
  no_longer count is =
      let next : count + 1 ≡ suc count = omega arith in
      let same : take count (map bytes words) ≡ map bytes (take count words) = take-map bytes count words in
      rw (next, same, is) refl

-- the words behind it
pub behind : {A : Type 0} (bytes : A → List ℕ) (commands : List Cmd) (words : List A) (d : A) (name : List ℕ) (longest end : ℕ)
    → 0 < length words → name ≡ bytes (get_or words 0 d) → longest ≡ longest_below commands (map bytes words) end
    → end ≡ min (length words) MOST_WORDS
    → first_option (options_of commands name) (map bytes (drop longest words)) ≡ wrong_words commands (map bytes words)
behind bytes commands [] d name longest end some is long ends = absurd (omega arith)
behind bytes commands (word ∷ words) d name longest end some is long ends =
    let count : length (map bytes (word ∷ words)) ≡ length (word ∷ words) = length-map (word ∷ words) bytes in
    let all : end ≡ min (length (map bytes (word ∷ words))) MOST_WORDS = ends ∙ ap (λ n. min n MOST_WORDS) (sym count) in
    let least : longest ≡ longest_below commands (map bytes (word ∷ words)) (min (length (map bytes (word ∷ words))) MOST_WORDS)
    = long ∙ ap (longest_below commands (map bytes (word ∷ words))) all in
    ap₂ (λ n rest. first_option (options_of commands n) rest) is
    (sym (drop-map bytes longest (word ∷ words)) ∙ ap (λ n. drop n (map bytes (word ∷ words))) least)
