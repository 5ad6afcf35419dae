-- Loops over tables.
use Rattle.std.proofs.Common.{◌≡◌, ◌∙◌, ◌<◌, ◌≤◌, ◌+◌, ◌-◌, drop, ◌==◌, ◌||◌, ℕ, Bool, cond, true, false, not, true≢false, Option, Some, None, zero, suc, refl, sym, ap, ap₂, arith, List, [], ◌∷◌, ◌++◌, map, take, length, slice_index_or}
use Rattle.std.proofs.lemmas.List.{take_all}
use Rattle.std.specs.List.{before_first, list_any, position_or_len}
use Rattle.clap.specs.Walk.{Row, Text, first_of}
use Rattle.std.specs.Prelude.{Vec, bytes_eq, find, is_some, option_map, unwrap_or}
use Rattle.command_words.specs.declared.lines.GivenRow.{GivenRow}
use Rattle.command_words.specs.Lines.{Cmd, Given, line_of, options_of, split, with_cmd, with_options}
use Rattle.clap.specs.Simple.{App, Shape, with_subcommand}
use Rattle.command_words.specs.declared.rows.CommandRow.{CommandRow}
use Rattle.command_words.specs.Shapes.{app_for, shape_for, top_for}
use Rattle.command_words.specs.Rows.{IsOptionsOf, cmd_of, given_of}
use Rattle.command_words.specs.Builds.{is_zero, so_far}

-- one more row
pub map_more : {X Y Z : Type 0} (g : Y → Z) (f : X → Y) (xs : List X) (i : ℕ) (d : X) → i < length xs
    → map g (map f (take (i + 1) xs)) ≡ map g (map f (take i xs)) ++ g (f (slice_index_or xs i d)) ∷ []
map_more g f [] i d lt = absurd (omega arith)
map_more g f (y ∷ ys) zero d lt = refl
map_more g f (y ∷ ys) (suc i) d lt =
    let next : suc i + 1 ≡ suc (i + 1) = omega arith in
    ap (λ n. map g (map f (take n (y ∷ ys)))) next ∙ ap (λ zs. g (f y) ∷ zs) (map_more g f ys i d (omega arith))

-- one more subcommand
pub sub_more : (old new : App) (name : Text) (rows : List CommandRow) (i : ℕ) (d : CommandRow) (s : Shape) → new ≡ with_subcommand old s
    → old ≡ so_far name rows i
    → s ≡ shape_for (cmd_of (slice_index_or rows i d)) → i < length rows → new ≡ so_far name rows (i + 1)
sub_more old new name rows i d s is old_is s_is lt =
    let next : i + 1 ≡ suc i = omega arith in
    is ∙ ap₂ with_subcommand old_is s_is ∙ ap₂ (λ (b : Bool) (xs : List Shape). record { top = record (top_for name) { is_leaf = b }; subs = xs })
    (sym (ap is_zero next)) (sym (map_more shape_for cmd_of rows i d lt))

pub sub_all : (a : App) (name : Text) (rows : List CommandRow) (i : ℕ) → 0 < length rows → length rows ≤ i → a ≡ so_far name rows i
    → a ≡ app_for name (map cmd_of rows)
sub_all a name rows zero some all is = absurd (omega arith)
sub_all a name rows (suc i) some all is = is ∙ ap (λ xs. record { top = top_for name; subs = map shape_for (map cmd_of xs) }) (take_all (suc i) rows all)

no_sign : (p : ℕ → Bool) (xs : List ℕ) → position_or_len p xs ≡ length xs → list_any p xs ≡ false
no_sign p [] e = refl
no_sign p (x ∷ xs) e = go (p x) e (no_sign p xs)
  where
    go : (b : Bool) → cond (not b) (1 + position_or_len p xs) 0 ≡ suc (length xs) → (position_or_len p xs ≡ length xs → list_any p xs ≡ false)
        → (b || list_any p xs) ≡ false
    go true e more = absurd (omega arith)
    go false e more = more (omega arith)

-- a body with no sign is a name alone
pub name_alone : (word body : List ℕ) → word ≡ 45 ∷ 45 ∷ body → (length body == 0) ≡ false → position_or_len (λ b. b == 61) body ≡ length body
    → Some (body, None) ≡ split word
name_alone word [] is some none = absurd (true≢false some)
name_alone word (b ∷ bs) is some none =
    let whole : before_first (λ x. x == 61) (b ∷ bs) ≡ b ∷ bs = take_all _ (b ∷ bs) (omega arith) in
    let lacks = no_sign (λ x. x == 61) (b ∷ bs) none in
    rw (is, lacks, whole) refl

pub some_options : {A : Type 0} (cmd : Cmd) (o : Option (List Given)) (v : Vec GivenRow A) → IsOptionsOf o (Some v)
    → Some (record { cmd = cmd; given = map given_of v.items }) ≡ with_options cmd o
some_options cmd None v is = absurd is
some_options cmd (Some xs) v is = ap (λ ys. Some (record { cmd = cmd; given = ys })) is

pub no_options : (A : Type 0) (cmd : Cmd) (o : Option (List Given)) → IsOptionsOf {A = A} o None → None ≡ with_options cmd o
no_options A cmd None is = refl
no_options A cmd (Some xs) is = absurd is

pub line_is : (cmds : List Cmd) (words : List Text) (word : Text) (rest : List Text) (cmd : Cmd) → words ≡ word ∷ rest
    → find (λ c. bytes_eq c.name word) cmds ≡ Some cmd
    → with_options cmd (options_of cmd.options [] None rest) ≡ line_of cmds words
line_is cmds words word rest cmd is found = sym (ap (line_of cmds) is ∙ ap (λ o. with_cmd o rest) found)

pub first_rest : {X : Type 0} (f : X → Text) (ws : List X) (x : X) (word : Text) → word ≡ f x → x ≡ slice_index_or ws 0 x → 1 ≤ length ws
    → map f ws ≡ word ∷ map f (take (length ws - 1) (drop 1 ws))
first_rest f [] x word is at some = absurd (omega arith)
first_rest f (y ∷ ys) x word is at some =
    let same : f y ≡ word = ap f (sym at) ∙ sym is in
    ap₂ (λ t ts. t ∷ map f ts) same (sym (take_all (length (y ∷ ys) - 1) ys (omega arith)))

pub text_is : (name : Text) (rows : List Row) (o : Option (Text × List Row)) (t : Option Text) → Some rows ≡ option_map (λ p. p.1) o
    → option_map (λ p. first_of name p.1) o ≡ Some t
    → first_of name rows ≡ t
text_is name rows None t here is = absurd (true≢false (ap is_some here))
text_is name rows (Some p) t here is = ap (λ o. unwrap_or o t) (ap (option_map (first_of name)) here ∙ is)
