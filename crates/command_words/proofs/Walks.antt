-- A line of the form passes clap's walk.
use Rattle.std.proofs.Common.{◌≡◌, ◌∙◌, ◌&&◌, ◌||◌, ◌==◌, ℕ, Bool, cond, true, false, not, refl, sym, ap, ap₂, subst, List, [], ◌∷◌, ◌++◌, map, Option, Some, None, true≢false, append-nil, codes, if◌then◌else◌}
use Rattle.std.specs.Prelude.{fold, find, option_map, option_and_then, slice_get, bytes_eq, is_some, unwrap_or}
use Rattle.std.specs.Option.{option_or}
use Rattle.std.specs.List.{list_all, list_any}
use Rattle.std.proofs.lemmas.Slice.Eq.{bytes_eq-Decides}
use Rattle.std.proofs.lemmas.List.{map-append}
use Rattle.std.proofs.lemmas.List.Folds.{find-append}
use Rattle.std.proofs.lemmas.Option.{none-some}
use Rattle.clap.specs.Lexer.{long_of, long_of_rest, short_of, strip_byte}
use Rattle.clap.specs.Walk.{Held, Names, Row, Rule, Text, Waiting, Walk, idle, option, arg_by_id, arg_by_long, at_row, has_row, settled, nothing_held, walk, stop_after, walked, word_met, answers_to, subcommand_met, without, used, with_values, more_values, finished, with_default, first_of, reading_by, rows_after}
use Rattle.clap.specs.Simple.{App, Shape, subcommand_of, built, built_leaf, with_leaf_noted, marked_built, filled, filled_from, inherited, is_simple, is_simple_leaf, is_ready_leaf, label_of, names_of, entered, rows_at}
use Rattle.clap.specs.Takes.{takes, built_takes, entered_passes, walk_passes, turn_passes, word_passes, step_passes, settle_passes, level_passes, default_passes, is_valid, is_given as is_present}
use Rattle.clap.specs.declared.parser.matches.ValueSource.TheVariants.{DefaultValue, CommandLine}
use Rattle.clap.specs.declared.builder.value_parser.Reading.{Reading}
use Rattle.clap.proofs.WalkLemmas.{find-map, list_any-map, walk_stopped}
use Rattle.command_words.specs.Lines.{Opt, Cmd, Given, Read, Line, split, split_body, has_dash, is_given, opt_named, add, with_part, with_opt, with_split, with_word, options_of, with_options, with_cmd, line_of, is_flag_of, text_by, text_in}
use Rattle.command_words.specs.Shapes.{rule_for, shape_for, top_for, app_for}

-- ---- lists and arguments

pub find_passes : {X : Type 0} (p : X → Bool) (xs : List X) (x : X) → find p xs ≡ Some x → p x ≡ true
find_passes p [] x e = cc
find_passes p (y ∷ ys) x e = go (p y) refl e (find_passes p ys x)
  where
    go : (b : Bool) → p y ≡ b → cond b (Some y) (find p ys) ≡ Some x → (find p ys ≡ Some x → p x ≡ true) → p x ≡ true
    go true t e more = ap p (sym (ap (λ o. unwrap_or o y) e)) ∙ t
    go false t e more = more e

-- clap's long arguments are the line's
pub long_is_split : (word : Text) → long_of word ≡ split word
long_is_split [] = refl
long_is_split (a ∷ []) = go (a == 45)
  where
    go : (x : Bool) → option_and_then long_of_rest (option_and_then (strip_byte 45) (cond x (Some []) None)) ≡ cond (x && false) (split_body []) None
    go true = refl
    go false = refl
long_is_split (a ∷ b ∷ bs) = go (a == 45)
  where
    rest : (xs : Text) → long_of_rest xs ≡ split_body xs
    rest [] = refl
    rest (x ∷ xs) = refl

    more : (y : Bool) → option_and_then long_of_rest (cond y (Some bs) None) ≡ cond (y && true) (split_body bs) None
    more true = rest bs
    more false = refl

    go : (x : Bool) → option_and_then long_of_rest (option_and_then (strip_byte 45) (cond x (Some (b ∷ bs)) None)) ≡ cond (x && (b == 45 && true))
        (split_body bs) None
    go true = more (b == 45)
    go false = refl

-- an argument of the line is not `--`
pub not_dashes : (word : Text) (p : Text × Option Text) → split word ≡ Some p → bytes_eq word (45 ∷ 45 ∷ []) ≡ false
not_dashes [] p e = refl
not_dashes (a ∷ []) p e = go (a == 45)
  where
    go : (x : Bool) → (x && false) ≡ false
    go true = refl
    go false = refl
not_dashes (a ∷ b ∷ []) p e = go (a == 45) (b == 45) e
  where
    go : (x y : Bool) → cond (x && (y && true)) None None ≡ Some p → (x && (y && true)) ≡ false
    go true true e = absurd (true≢false (ap (λ o. not (is_some o)) e))
    go true false e = refl
    go false y e = refl
not_dashes (a ∷ b ∷ c ∷ cs) p e = go (a == 45) (b == 45)
  where
    go : (x y : Bool) → (x && (y && false)) ≡ false
    go true true = refl
    go true false = refl
    go false y = refl

-- a value with no dash is no flag
pub plain_word_is : (word : Text) → has_dash word ≡ false → (bytes_eq word (45 ∷ 45 ∷ []) ≡ false) × (long_of word ≡ None) × (short_of word ≡ None)
plain_word_is [] e = (refl, refl, refl)
plain_word_is (a ∷ rest) e = (rw e refl, rw e refl, rw e refl)

-- ---- built rules

abbrev pub built_rule : Opt → Rule
built_rule o = filled (rule_for o)

pub filled_is : (i : ℕ) (os : List Opt) → filled_from i (map rule_for os) ≡ map built_rule os
filled_is i [] = refl
filled_is i (o ∷ os) = ap (λ rs. built_rule o ∷ rs) (filled_is i os)

pub by_long : (os : List Opt) (name : Text) → arg_by_long (map built_rule os) name ≡ option_map built_rule (opt_named os name)
by_long [] name = refl
by_long (o ∷ os) name = go (bytes_eq o.name name) (by_long os name)
  where
    go : (b : Bool) → arg_by_long (map built_rule os) name ≡ option_map built_rule (opt_named os name)
        → cond (b || false) (Some (built_rule o)) (arg_by_long (map built_rule os) name) ≡ option_map built_rule (cond b (Some o) (opt_named os name))
    go true e = refl
    go false e = e

pub by_id : (os : List Opt) (name : Text) → arg_by_id (map built_rule os) name ≡ option_map built_rule (opt_named os name)
by_id os name = sym (find-map (λ (r : Rule). bytes_eq r.id name) built_rule os)

-- ---- rows

abbrev pub row_for : Given → Row
row_for g = record { id = g.opt.name; values = g.text ∷ []; count = None; source = Some CommandLine; reading = reading_by (built_rule g.opt) }

pub has_row_is : (given : List Given) (name : Text) → has_row name (map row_for given) ≡ is_given given name
has_row_is given name = sym (list_any-map (λ (r : Row). bytes_eq r.id name) row_for given)

pub neither : (a b : Bool) → (a || b) ≡ false → (a ≡ false) × (b ≡ false)
neither true b e = absurd (true≢false e)
neither false b e = (refl, e)

pub at_new : (id : Text) (change : Row → List Row) (missing : List Row) (rows : List Row) → has_row id rows ≡ false
    → at_row id change missing rows ≡ rows ++ missing
at_new id change missing [] none = refl
at_new id change missing (r ∷ rs) none =
    let e = neither (bytes_eq r.id id) _ none in
    rw e.0 (ap (λ xs. r ∷ xs) (at_new id change missing rs e.1))

pub set_new : (id : Text) (how : Reading) (v : Text) (rows : List Row) → has_row id rows ≡ false
    → with_values id how CommandLine (v ∷ []) (without id rows) ≡ rows ++ record {
      id = id;
      values = v ∷ [];
      count = None;
      source = Some CommandLine;
      reading =
          how;
    } ∷ []
set_new id how v rows none =
    let kept : without id rows ≡ rows = at_new id (λ _. []) [] rows none ∙ append-nil rows in
    ap (with_values id how CommandLine (v ∷ [])) kept ∙ at_new id (more_values CommandLine (v ∷ [])) _ rows none

pub used_is : (o : Opt) (v : Text) (rows : List Row) → o.is_flag ≡ false → has_row o.name rows ≡ false
    → used (built_rule o) (v ∷ []) rows ≡ rows ++ row_for (record { opt = o; text = v }) ∷ []
used_is o v rows valued none = rw valued (set_new o.name _ v rows none)

-- ---- one step of the walk, at a subcommand's level

abbrev pub at : Held → Waiting → Walk
at h waiting = record { held = h; waiting = waiting; position = 1; is_trailing = false; stopped = None }

pub bytes_same : (xs : Text) → bytes_eq xs xs ≡ true
bytes_same xs = (bytes_eq-Decides xs xs).1 refl

pub has_name : (os : List Opt) (name : Text) (o : Opt) → opt_named os name ≡ Some o → opt_named os o.name ≡ Some o
has_name os name o e = let same : o.name ≡ name = (bytes_eq-Decides o.name name).0 (find_passes (λ x. bytes_eq x.name name) os o e) in ap (opt_named os) same
    ∙ e

abbrev with_part_by : List Given → Bool → Opt → Option Text → Option Read
with_part_by given f o None = Some (if f then add given o (codes "true") else record { given = given; pending = Some o })
with_part_by given f o (Some v) = if f then None else Some (add given o v)

by_flag : (given : List Given) (o : Opt) (v : Option Text) → with_part_by given o.is_flag o v ≡ with_part given o v
by_flag given o None = refl
by_flag given o (Some v) = refl

abbrev given_of : Opt → Text → Given
given_of o text = record { opt = o; text = text }

pub one_more : (given : List Given) (g : Given) (rows : List Row) → rows ≡ map row_for given → rows ++ row_for g ∷ [] ≡ map row_for (given ++ g ∷ [])
one_more given g rows e = ap (λ rs. rs ++ row_for g ∷ []) e ∙ sym (map-append row_for given (g ∷ []))

abbrev waiting_for : Option Opt → Waiting
waiting_for None = idle
waiting_for (Some o) = option o.name

module _ (s : Shape) (os : List Opt) (plain : s.args_override_self ≡ false) (rules_are : s.rules ≡ map built_rule os) where
  -- where the walk stands, against what the line's reader has
  abbrev Related : List Given → Option Opt → Held → Type 0
  Related given None h = (settle_passes s.rules false h ≡ true) × ((settled s.rules h).rows ≡ map row_for given)
  Related given (Some o) h = (h.rows ≡ map row_for given) × (h.pending ≡ Some (o.name, [])) × (opt_named os o.name ≡ Some o) × (o.is_flag ≡ false)
      × (is_given given o.name ≡ false)

  abbrev Steps : Option Opt → Held → Text → Read → Type 0
  Steps pending h word r = (turn_passes s [] (at h (waiting_for pending)) word ≡ true)
      × ((after : Held) × Related r.given r.pending after × (walked s.rules [] (at h (waiting_for pending)) word ≡ at after (waiting_for r.pending)))

  rule_named : (name : Text) (o : Opt) → opt_named os name ≡ Some o → arg_by_long s.rules name ≡ Some (built_rule o)
  rule_named name o found = ap (λ rs. arg_by_long rs name) rules_are ∙ by_long os name ∙ ap (option_map built_rule) found

  rule_with : (name : Text) (o : Opt) → opt_named os name ≡ Some o → arg_by_id s.rules name ≡ Some (built_rule o)
  rule_with name o found = ap (λ rs. arg_by_id rs name) rules_are ∙ by_id os name ∙ ap (option_map built_rule) found

  -- what is held once the option has its text
  abbrev taken : Held → Opt → Text → Held
  taken h o v = record { rows = (settled s.rules h).rows ++ row_for (given_of o v) ∷ []; pending = None; skip = h.skip }

  none_yet : (given : List Given) (h : Held) (o : Opt) → (settled s.rules h).rows ≡ map row_for given → is_given given o.name ≡ false
      → has_row o.name (settled s.rules h).rows ≡ false
  none_yet given h o rows new = ap (has_row o.name) rows ∙ has_row_is given o.name ∙ new

  -- `--name=value`
  both_step : (given : List Given) (h : Held) (word name v : Text) (o : Opt) → Related given None h → split word ≡ Some (name, Some v)
      → opt_named os name ≡ Some o
      → o.is_flag ≡ false → is_given given o.name ≡ false → Steps None h word (add given o v)
  unfolding walked
  both_step given h word name v o rel parts found valued new =
      let dashes = not_dashes word _ parts in
      let long : long_of word ≡ Some (name, Some v) = long_is_split word ∙ parts in
      let known = rule_named name o found in
      let none = none_yet given h o rel.1 new in (
        rw (dashes, long, known, valued, plain, rel.0, none) refl,
        (
          taken h o v,
          (refl, one_more given (given_of o v) _ rel.1),
          rw (dashes, long, known, valued) (ap (λ rs. at (record { rows = rs; pending = None; skip = h.skip }) idle) (set_new o.name _ v _ none)),
        ),
      )

  -- `--name`, of a flag
  flag_step : (given : List Given) (h : Held) (word name : Text) (o : Opt) → Related given None h → split word ≡ Some (name, None) → opt_named os name ≡ Some o
      → o.is_flag ≡ true → is_given given o.name ≡ false → Steps None h word (add given o (codes "true"))
  unfolding walked
  flag_step given h word name o rel parts found valued new =
      let dashes = not_dashes word _ parts in
      let long : long_of word ≡ Some (name, None) = long_is_split word ∙ parts in
      let known = rule_named name o found in
      let none = none_yet given h o rel.1 new in (
        rw (dashes, long, known, valued, plain, rel.0, none) refl,
        (
          taken h o (codes "true"),
          (refl, one_more given (given_of o (codes "true")) _ rel.1),
          rw (dashes, long, known, valued) (ap (λ rs. at (record { rows = rs; pending = None; skip = h.skip }) idle) (set_new o.name _ (codes "true") _ none)),
        ),
      )

  -- `--name`, of an option whose value follows
  name_step : (given : List Given) (h : Held) (word name : Text) (o : Opt) → Related given None h → split word ≡ Some (name, None) → opt_named os name ≡ Some o
      → o.is_flag ≡ false → is_given given o.name ≡ false → Steps None h word (record { given = given; pending = Some o })
  unfolding walked
  name_step given h word name o rel parts found valued new =
      let dashes = not_dashes word _ parts in
      let long : long_of word ≡ Some (name, None) = long_is_split word ∙ parts in
      let known = rule_named name o found in (
        rw (dashes, long, known, valued, plain, rel.0) refl,
        (
          record (settled s.rules h) { pending = Some (o.name, []) },
          (rel.1, refl, has_name os name o found, valued, new),
          rw (dashes, long, known, valued) refl,
        ),
      )

  -- the value that follows
  value_step : (given : List Given) (h : Held) (word : Text) (o : Opt) → Related given (Some o) h → has_dash word ≡ false
      → Steps (Some o) h word (add given o word)
  unfolding walked
  value_step given h word o rel dash =
      let p = plain_word_is word dash in
      let known = rule_with o.name o rel.2 in
      let none : has_row o.name h.rows ≡ false = ap (has_row o.name) rel.0 ∙ has_row_is given o.name ∙ rel.4 in (
        rw (p.0, p.1, p.2) refl,
        (
          record { rows = h.rows; pending = Some (o.name, word ∷ []); skip = h.skip },
          (rw (known, rel.3, none) refl, rw known (used_is o word h.rows rel.3 none ∙ one_more given (given_of o word) h.rows rel.0)),
          rw (p.0, p.1, p.2, known, rel.1, rel.3, bytes_same) refl,
        ),
      )

  one_step : (given : List Given) (pending : Option Opt) (h : Held) (word : Text) (r : Read) → Related given pending h
      → with_word os given pending word ≡ Some r → Steps pending h word r
  one_step given None h word r rel e = by_split (split word) refl e
    where
      by_part : (name : Text) (v : Option Text) (o : Opt) (b : Bool) → split word ≡ Some (name, v) → opt_named os name ≡ Some o → is_given given o.name ≡ false
          → o.is_flag ≡ b
          → with_part_by given b o v ≡ Some r → Steps None h word r
      by_part name None o true parts found new flag e = subst (Steps None h word) (ap (λ x. unwrap_or x r) e)
          (flag_step given h word name o rel parts found flag new)
      by_part name None o false parts found new flag e = subst (Steps None h word) (ap (λ x. unwrap_or x r) e)
          (name_step given h word name o rel parts found flag new)
      by_part name (Some v) o true parts found new flag e = absurd (none-some r e)
      by_part name (Some v) o false parts found new flag e =
          subst (Steps None h word) (ap (λ x. unwrap_or x r) e) (both_step given h word name v o rel parts found flag new)

      by_new : (name : Text) (v : Option Text) (o : Opt) (b : Bool) → split word ≡ Some (name, v) → opt_named os name ≡ Some o → is_given given o.name ≡ b
          → cond b None (with_part given o v) ≡ Some r → Steps None h word r
      by_new name v o true parts found new e = absurd (none-some r e)
      by_new name v o false parts found new e = by_part name v o o.is_flag parts found new refl (by_flag given o v ∙ e)

      by_opt : (name : Text) (v : Option Text) (o : Option Opt) → split word ≡ Some (name, v) → opt_named os name ≡ o → with_opt given o v ≡ Some r
          → Steps None h word r
      by_opt name v None parts found e = absurd (none-some r e)
      by_opt name v (Some o) parts found e = by_new name v o (is_given given o.name) parts found refl e

      by_split : (p : Option (Text × Option Text)) → split word ≡ p → with_split os given p ≡ Some r → Steps None h word r
      by_split None parts e = absurd (none-some r e)
      by_split (Some p) parts e = by_opt p.0 p.1 (opt_named os p.0) parts refl e
  one_step given (Some o) h word r rel e = by_dash (has_dash word) refl e
    where
      by_dash : (b : Bool) → has_dash word ≡ b → cond b None (Some (add given o word)) ≡ Some r → Steps (Some o) h word r
      by_dash true dash e = absurd (none-some r e)
      by_dash false dash e = subst (Steps (Some o) h word) (ap (λ x. unwrap_or x r) e) (value_step given h word o rel dash)

  -- what the walk comes to
  abbrev Ends : Walk → List Text → List Given → Type 0
  Ends w words final = (walk_passes s [] w words ≡ true) × (settle_passes s.rules false (fold (walked s.rules []) w words).held ≡ true)
      × ((settled s.rules (fold (walked s.rules []) w words).held).rows ≡ map row_for final)

  pub passes : (given : List Given) (pending : Option Opt) (h : Held) (words : List Text) (final : List Given) → Related given pending h
      → options_of os given pending words ≡ Some final
      → Ends (at h (waiting_for pending)) words final
  unfolding walk_passes
  passes given None h [] final rel e = (refl, rel.0, rel.1 ∙ ap (λ x. map row_for (unwrap_or x final)) e)
  passes given (Some o) h [] final rel e = absurd (none-some final e)
  passes given pending h (word ∷ words) final rel e = go (with_word os given pending word) refl e
      (λ r after rel2 e2. passes r.given r.pending after words final rel2 e2)
    where
      go : (o : Option Read) → with_word os given pending word ≡ o → option_and_then (λ r. options_of os r.given r.pending words) o ≡ Some final
          → ((r : Read) (after : Held) → Related r.given r.pending after → options_of os r.given r.pending words ≡ Some final
          → Ends (at after (waiting_for r.pending)) words final)
          → Ends (at h (waiting_for pending)) (word ∷ words) final
      go None is e more = absurd (none-some final e)
      go (Some r) is e more =
          let st = one_step given pending h word r rel is in
          let rest = more r st.1.0 st.1.1 e in
          let back : at st.1.0 (waiting_for r.pending) ≡ walked s.rules [] (at h (waiting_for pending)) word = sym st.1.2 in (
            rw st.0 (subst (λ w. walk_passes s [] w words ≡ true) back rest.0),
            subst (λ w. settle_passes s.rules false (fold (walked s.rules []) w words).held ≡ true) back rest.1,
            subst (λ w. (settled s.rules (fold (walked s.rules []) w words).held).rows ≡ map row_for final) back rest.2,
          )

-- ---- after the walk

defaults_pass : (os : List Opt) → list_all default_passes (map built_rule os) ≡ true
defaults_pass [] = refl
defaults_pass (o ∷ os) = rw (defaults_pass os) (go o.is_flag refl)
  where
    go : (b : Bool) → o.is_flag ≡ b → (default_passes (built_rule o) && true) ≡ true
    go true e = rw e refl
    go false e = rw e refl

all_true : {X Y : Type 0} (p : Y → Bool) (f : X → Y) (xs : List X) → ((x : X) → p (f x) ≡ true) → list_all p (map f xs) ≡ true
all_true p f [] each = refl
all_true p f (x ∷ xs) each = rw (each x) (all_true p f xs each)

-- a subcommand as it is built
abbrev pub leaf : List ℕ → Cmd → Shape
leaf name c = built_leaf (inherited (with_leaf_noted (marked_built (top_for name))) (shape_for c))

pub leaf_passes : (name : Text) (c : Cmd) (words : List Text) (final : List Given) → options_of c.options [] None words ≡ Some final
    → (level_passes (leaf name c) [] nothing_held words false ≡ true)
    × (rows_after (leaf name c).rules [] words ≡ fold with_default (map row_for final) (map built_rule c.options))
leaf_passes name c words final e =
    let s = leaf name c in
    let rules_are : s.rules ≡ map built_rule c.options = filled_is 1 c.options in
    let p = passes s c.options refl rules_are [] None nothing_held words final (refl, refl) e in
    let valid : (rows : List Row) → is_valid s rows false ≡ true = λ rows.
    rw (rules_are, all_true (λ a. a.is_free) built_rule c.options (λ o. refl))
    (all_true (λ a. not a.required || is_present a.id rows) built_rule c.options (λ o. refl)) in (
      rw (p.0, p.1, ap (list_all default_passes) rules_are, defaults_pass c.options) (valid _),
      ap₂ (λ rs c. fold with_default rs c) p.2 rules_are,
    )

-- ---- defaults

abbrev default_row : Opt → Row
default_row o = record { id = o.name; values = codes "false" ∷ []; count = None; source = Some DefaultValue; reading = reading_by (built_rule o) }

abbrev extra : Bool → Opt → List Row
extra true o = default_row o ∷ []
extra false o = []

-- a flag that is not given gets its default at the end
with_default_is : (rows : List Row) (o : Opt) (has flag : Bool) → has_row o.name rows ≡ has → o.is_flag ≡ flag
    → with_default rows (built_rule o) ≡ rows ++ (if has then [] else extra flag o)
with_default_is rows o true flag e f = rw e (sym (append-nil rows))
with_default_is rows o false false e f = rw (e, f) (sym (append-nil rows))
with_default_is rows o false true e f = rw (e, f) (at_new o.name (more_values DefaultValue (codes "false" ∷ [])) _ rows e)

named : Text → Row → Bool
named name r = bytes_eq r.id name

stays_found : (os : List Opt) (name : Text) (rows : List Row) (r : Row) → find (λ x. bytes_eq x.id name) rows ≡ Some r
    → find (λ x. bytes_eq x.id name) (fold with_default rows (map built_rule os)) ≡ Some r
stays_found [] name rows r e = e
stays_found (o ∷ os) name rows r e =
    let more = if has_row o.name rows then [] else extra o.is_flag o in
    let next : find (λ x. bytes_eq x.id name) (with_default rows (built_rule o)) ≡ Some r =
    ap (find (λ x. bytes_eq x.id name)) (with_default_is rows o (has_row o.name rows) o.is_flag refl refl) ∙ find-append (λ x. bytes_eq x.id name) rows more
    ∙ ap (λ f. option_or f (find (λ x. bytes_eq x.id name) more)) e in
    stays_found os name (with_default rows (built_rule o)) r next

no_row_named : (name : Text) (rows : List Row) → find (λ x. bytes_eq x.id name) rows ≡ None → has_row name rows ≡ false
no_row_named name [] e = refl
no_row_named name (r ∷ rows) e = go (bytes_eq r.id name) e (no_row_named name rows)
  where
    go : (b : Bool) → cond b (Some r) (find (λ x. bytes_eq x.id name) rows) ≡ None → (find (λ x. bytes_eq x.id name) rows ≡ None → has_row name rows ≡ false)
        → (b || has_row name rows) ≡ false
    go true e more = absurd (none-some r (sym e))
    go false e more = more e

abbrev off : Bool → Option Text
off flag = if flag then Some (codes "false") else None

-- the text of an option that was not given
default_text : (os : List Opt) (name : Text) (rows : List Row) → find (λ x. bytes_eq x.id name) rows ≡ None
    → first_of name (fold with_default rows (map built_rule os)) ≡ off (is_flag_of os name)
default_text [] name rows e = ap (option_and_then (λ r. slice_get r.values 0)) e
default_text (o ∷ os) name rows e = go (bytes_eq o.name name) o.is_flag refl refl (λ next. default_text os name (with_default rows (built_rule o)) next)
  where
    go : (same flag : Bool) → bytes_eq o.name name ≡ same → o.is_flag ≡ flag
        → (find (λ x. bytes_eq x.id name) (with_default rows (built_rule o)) ≡ None
        → first_of name (fold with_default (with_default rows (built_rule o)) (map built_rule os)) ≡ off (is_flag_of os name))
        → first_of name (fold with_default (with_default rows (built_rule o)) (map built_rule os)) ≡ off ((same && flag) || is_flag_of os name)
    go true true s f more =
        let name_is : o.name ≡ name = (bytes_eq-Decides o.name name).0 s in
        let none : has_row o.name rows ≡ false = ap (λ n. has_row n rows) name_is ∙ no_row_named name rows e in
        let here : find (λ x. bytes_eq x.id name) (default_row o ∷ []) ≡ Some (default_row o) = rw s refl in
        let next : find (λ x. bytes_eq x.id name) (with_default rows (built_rule o)) ≡ Some (default_row o) =
        ap (find (λ x. bytes_eq x.id name)) (with_default_is rows o false true none f) ∙ find-append (λ x. bytes_eq x.id name) rows (default_row o ∷ [])
        ∙ ap₂ option_or e here in
        ap (option_and_then (λ r. slice_get r.values 0)) (stays_found os name (with_default rows (built_rule o)) (default_row o) next)
    go true false s f more =
        more (ap (find (λ x. bytes_eq x.id name)) (with_default_is rows o (has_row o.name rows) false refl f) ∙ find-append (λ x. bytes_eq x.id name) rows _
        ∙ ap₂ option_or e (nothing (has_row o.name rows)))
      where
        nothing : (b : Bool) → find (λ x. bytes_eq x.id name) (if b then [] else extra false o) ≡ None
        nothing true = refl
        nothing false = refl
    go false flag s f more =
        more (ap (find (λ x. bytes_eq x.id name)) (with_default_is rows o (has_row o.name rows) flag refl f) ∙ find-append (λ x. bytes_eq x.id name) rows _
        ∙ ap₂ option_or e (nothing (has_row o.name rows) flag))
      where
        nothing : (b c : Bool) → find (λ x. bytes_eq x.id name) (if b then [] else extra c o) ≡ None
        nothing true c = refl
        nothing false true = rw s refl
        nothing false false = refl

-- the text of each option is the line's
pub texts_are : (c : Cmd) (given : List Given) (name : Text)
    → first_of name (fold with_default (map row_for given) (map built_rule c.options)) ≡ text_in (record { cmd = c; given = given }) name
texts_are c given name = go (find (λ g. bytes_eq g.opt.name name) given) refl
  where
    rows_find : find (λ r. bytes_eq r.id name) (map row_for given) ≡ option_map row_for (find (λ g. bytes_eq g.opt.name name) given)
    rows_find = sym (find-map (λ (r : Row). bytes_eq r.id name) row_for given)

    go : (o : Option Given) → find (λ g. bytes_eq g.opt.name name) given ≡ o
        → first_of name (fold with_default (map row_for given) (map built_rule c.options)) ≡ text_by c.options name o
    go (Some g) e = ap (option_and_then (λ r. slice_get r.values 0))
        (stays_found c.options name (map row_for given) (row_for g) (rows_find ∙ ap (option_map row_for) e))
    go None e = default_text c.options name (map row_for given) (rows_find ∙ ap (option_map row_for) e)

-- ---- the whole line

top_stopped : (s : Shape) (names : Names) (w : Walk) (p : Text × List Text) (words : List Text) → w.stopped ≡ Some p → walk_passes s names w words ≡ true
unfolding walk_passes walked
top_stopped s names w p [] e = refl
top_stopped s names w p (word ∷ words) e =
    let next : (walked s.rules names w word).stopped ≡ Some (p.0, p.1 ++ word ∷ []) = rw e refl in
    let rest = top_stopped s names (walked s.rules names w word) _ words next in
    ap (λ b. b && walk_passes s names (walked s.rules names w word) words)
    (ap (λ o. is_some o || (word_passes s names w.is_trailing w.waiting word w.held && step_passes s w.position
    (word_met s.rules names w.is_trailing w.waiting w.position word w.held).0 (word_met s.rules names w.is_trailing w.waiting w.position word w.held).1))
    e) ∙ rest

none_true : {X Y : Type 0} (p : Y → Bool) (f : X → Y) (xs : List X) → ((x : X) → p (f x) ≡ false) → list_any p (map f xs) ≡ false
none_true p f [] each = refl
none_true p f (x ∷ xs) each = rw (each x) (none_true p f xs each)

or_yes : (b : Bool) → (b || true) ≡ true
or_yes true = refl
or_yes false = refl

module _ (name : Text) where
  leaves_are : (cs : List Cmd) → map built_leaf (map (inherited (with_leaf_noted (marked_built (top_for name)))) (map shape_for cs)) ≡ map (leaf name) cs
  leaves_are [] = refl
  leaves_are (c ∷ cs) = ap (λ xs. leaf name c ∷ xs) (leaves_are cs)

  find_label : (word : Text) (cs : List Cmd) → find (answers_to word) (map label_of (map (leaf name) cs)) ≡ option_map (λ (c : Cmd). (c.name, []))
      (find (λ c. bytes_eq c.name word) cs)
  find_label word [] = refl
  find_label word (c ∷ cs) = go (bytes_eq c.name word) (find_label word cs)
    where
      go : (b : Bool) → find (answers_to word) (map label_of (map (leaf name) cs)) ≡ option_map (λ (x : Cmd). (x.name, []))
          (find (λ x. bytes_eq x.name word) cs)
          → cond (b || false) (Some (c.name, [])) (find (answers_to word) (map label_of (map (leaf name) cs))) ≡ option_map (λ (x : Cmd). (x.name, []))
          (cond b (Some c) (find (λ x. bytes_eq x.name word) cs))
      go true e = refl
      go false e = e

  find_leaf : (word : Text) (cs : List Cmd) → find (λ s. answers_to word (label_of s)) (map (leaf name) cs) ≡ option_map (leaf name)
      (find (λ c. bytes_eq c.name word) cs)
  find_leaf word [] = refl
  find_leaf word (c ∷ cs) = go (bytes_eq c.name word) (find_leaf word cs)
    where
      go : (b : Bool) → find (λ s. answers_to word (label_of s)) (map (leaf name) cs) ≡ option_map (leaf name) (find (λ x. bytes_eq x.name word) cs)
          → cond (b || false) (Some (leaf name c)) (find (λ s. answers_to word (label_of s)) (map (leaf name) cs)) ≡ option_map (leaf name)
          (cond b (Some c) (find (λ x. bytes_eq x.name word) cs))
      go true e = refl
      go false e = e

  simple_leaf : (c : Cmd) → is_simple_leaf (shape_for c) ≡ true
  simple_leaf c = all_true (λ a. a.is_simple) rule_for c.options (λ o. refl)

  ready_leaf : (c : Cmd) → is_ready_leaf (leaf name c) ≡ true
  ready_leaf c = rw filled_is (rw (all_true (λ a. a.is_simple) built_rule c.options (λ o. refl)) (ap not (none_true _ built_rule c.options (λ o. refl))))

  pub app_is_simple : (cmds : List Cmd) → is_simple (app_for name cmds) ≡ true
  app_is_simple cmds = rw (all_true is_simple_leaf shape_for cmds simple_leaf, leaves_are cmds) (all_true is_ready_leaf (leaf name) cmds ready_leaf)

  -- the command as it is built
  abbrev whole : List Cmd → App
  whole cmds = record { top = with_leaf_noted (marked_built (top_for name)); subs = map (leaf name) cmds }

  whole_is : (cmds : List Cmd) → built (app_for name cmds) ≡ whole cmds
  whole_is cmds = ap (λ xs. record { top = with_leaf_noted (marked_built (top_for name)); subs = xs }) (leaves_are cmds)

  module _ (cmds : List Cmd) (cmd : Cmd) (word : Text) (rest : List Text) (found : find (λ c. bytes_eq c.name word) cmds ≡ Some cmd) where
    met : subcommand_met (names_of (whole cmds)) idle word ≡ Some cmd.name
    met = ap (option_map (λ (p : Text × List Text). p.0)) (find_label word cmds ∙ ap (option_map (λ (c : Cmd). (c.name, []))) found)

    turned : walked [] (names_of (whole cmds)) (at nothing_held idle) word ≡ record (at nothing_held idle) { stopped = Some (cmd.name, []) }
    unfolding walked
    turned = rw met refl

    walk_is : walk [] (names_of (whole cmds)) nothing_held (word ∷ rest) ≡ record (at nothing_held idle) { stopped = Some (cmd.name, rest) }
    walk_is = ap (λ w. fold (walked [] (names_of (whole cmds))) w rest) turned
        ∙ sym (walk_stopped [] (names_of (whole cmds)) (at nothing_held idle) cmd.name [] rest)

    again : find (λ c. bytes_eq c.name cmd.name) cmds ≡ Some cmd
    again = let same : cmd.name ≡ word = (bytes_eq-Decides cmd.name word).0 (find_passes (λ c. bytes_eq c.name word) cmds cmd found) in
        ap (λ n. find (λ c. bytes_eq c.name n) cmds) same ∙ found

    enters : find (λ s. answers_to cmd.name (label_of s)) (map (leaf name) cmds) ≡ Some (leaf name cmd)
    enters = find_leaf cmd.name cmds ∙ ap (option_map (leaf name)) again

    top_passes : walk_passes (whole cmds).top (names_of (whole cmds)) (at nothing_held idle) (word ∷ rest) ≡ true
    unfolding walk_passes
    top_passes =
        let turn : turn_passes (whole cmds).top (names_of (whole cmds)) (at nothing_held idle) word ≡ true = rw (met, or_yes) refl in
        rw (turn, turned) (top_stopped (whole cmds).top (names_of (whole cmds)) (record (at nothing_held idle) { stopped = Some (cmd.name, []) })
        (cmd.name, []) rest refl)

    pub taken_as : (given : List Given) → options_of cmd.options [] None rest ≡ Some given
        → (takes (app_for name cmds) (word ∷ rest) ≡ true)
        × (subcommand_of (app_for name cmds) (word ∷ rest) ≡ Some (cmd.name, fold with_default (map row_for given) (map built_rule cmd.options)))
    taken_as given e =
        let below = leaf_passes name cmd rest given e in
        let words = word ∷ rest in
        let a = whole cmds in
        let enters_level : entered_passes a (Some (cmd.name, rest)) ≡ true = rw (enters, below.0) refl in
        let enters_rows : entered a (Some (cmd.name, rest)) ≡ Some (cmd.name, fold with_default (map row_for given) (map built_rule cmd.options)) =
        ap (option_map (λ s. rows_at s rest)) enters ∙ ap (λ rows. Some (cmd.name, rows)) below.1 in
        let top_level : (w : Walk) → w ≡ record (at nothing_held idle) { stopped = Some (cmd.name, rest) }
        → (entered_passes a w.stopped && (walk_passes a.top (names_of a) (at nothing_held idle) words && (settle_passes [] false w.held
        && (true && is_valid a.top (finished [] w.held) (is_some (entered a w.stopped)))))) ≡ true = λ w is. rw (is, enters_level, top_passes) refl in (
          ap₂ (λ b x. b && built_takes x nothing_held words) (app_is_simple cmds) (whole_is cmds) ∙ top_level (walk [] (names_of a) nothing_held words) walk_is,
          ap (λ x. entered x (stop_after x.top.rules (names_of x) words)) (whole_is cmds) ∙ ap (λ (w : Walk). entered a w.stopped) walk_is ∙ enters_rows,
        )

  -- A LINE OF THE FORM IS TAKEN, AND ITS VALUES ARE THE LINE'S.
  abbrev pub Taken : List Cmd → List Text → Line → Type 0
  Taken cmds words l = (takes (app_for name cmds) words ≡ true)
      × (subcommand_of (app_for name cmds) words ≡ Some (l.cmd.name, fold with_default (map row_for l.given) (map built_rule l.cmd.options)))

  pub line_is_taken : (cmds : List Cmd) (words : List Text) (l : Line) → line_of cmds words ≡ Some l → Taken cmds words l
  line_is_taken cmds [] l e = absurd (none-some l e)
  line_is_taken cmds (word ∷ rest) l e = by_cmd (find (λ c. bytes_eq c.name word) cmds) refl e
    where
      by_given : (cmd : Cmd) (o : Option (List Given)) → find (λ c. bytes_eq c.name word) cmds ≡ Some cmd → options_of cmd.options [] None rest ≡ o
          → with_options cmd o ≡ Some l → Taken cmds (word ∷ rest) l
      by_given cmd None found is e = absurd (none-some l e)
      by_given cmd (Some given) found is e = subst (Taken cmds (word ∷ rest)) (ap (λ x. unwrap_or x l) e) (taken_as cmds cmd word rest found given is)

      by_cmd : (o : Option Cmd) → find (λ c. bytes_eq c.name word) cmds ≡ o → with_cmd o rest ≡ Some l → Taken cmds (word ∷ rest) l
      by_cmd None found e = absurd (none-some l e)
      by_cmd (Some cmd) found e = by_given cmd (options_of cmd.options [] None rest) found refl e
