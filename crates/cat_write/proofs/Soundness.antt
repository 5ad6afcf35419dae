-- What typing says of statements beside kinds: their tables are there, and they lie in few blocks. So their JSON nests little.
use Rattle.std.proofs.Common.{◌≡◌, ℕ, suc, ◌+◌, ◌*◌, ◌≤◌, ◌<◌, List, [], ◌∷◌, length, map, get_or, Option, Some, None, Bool, true, false, Result, refl, arith}
use Rattle.std.specs.declared.result.Result.TheVariants.{Ok, Err}
use Rattle.std.specs.Prelude.{◌&&◌, is_some, not, nat_lt}
use Rattle.std.specs.List.{All, slice_get, list_all}
use Rattle.std.proofs.lemmas.Grind.{common_steps}
use Rattle.std.proofs.lemmas.List.Sums.{AllPass-from_list_all}
use Rattle.aria_base.specs.declared.schemas.Table.{Table}
use Rattle.serde_json.specs.Data.{Data}
use Rattle.serde_json.specs.Data as json
use Rattle.serde_json.specs.View.{items_of}
use Rattle.proc_lang.specs.Terms.{Term, Num, Text, Me, Named, Unary, Binary, MulDiv, Front}
use Rattle.proc_lang.specs.Steps.{Absence, Traps, Fails, Blanks, Step, Steps, NoMore, More}
use Rattle.proc_lang.specs.Steps as step
use Rattle.proc_lang.specs.declared.limits.TheConstants.{DEEPEST_EXPR, MOST_BLOCKS}
use Rattle.proc_lang.specs.declared.flaws.TheConstants.{NESTING, UNKNOWN_TABLE}
use Rattle.proc_lang.specs.Catalogs.{depth, term_fits, step_fits, steps_fit}
use Rattle.proc_lang.specs.Values.{got}
use Rattle.proc_lang.specs.Typing.{Typed, Scope, Set, Reached, found, wanted, at_place, passed, keyed, shaped, reads, tells, writes, deletes, tests, goes_over, inside, inside_each, typed_step, typed_steps}
use Rattle.cat_forms.specs.Written.{term_data, index_data, read_last, step_data, steps_data}

-- ---- what follows where typing finds nothing

got_ok : {A B E : Type 0} (r : Result A E) (go : A → Result B E) (y : B) → got r go ≡ Ok y → (x : A) × (r ≡ Ok x) × (go x ≡ Ok y)
got_ok (Ok x) go y h = (x, refl, h)
got_ok (Err e) go y h = absurd (cc h)

at_place_ok : {A : Type 0} (place : ℕ) (typed : Typed A) (x : A) → at_place place typed ≡ Ok x → typed ≡ Ok x
at_place_ok place (Ok y) x h = cc h
at_place_ok place (Err cause) x h = absurd (cc h)

passed_ok : (r : Reached) (typed : Typed Set) (next : Reached) → passed r typed ≡ Ok next → (set : Set) × (typed ≡ Ok set)
passed_ok r typed next h =
    let a = got_ok (at_place r.next typed) _ next h in
    (a.0, at_place_ok r.next typed a.0 a.1)

found_ok : {A : Type 0} (cause : ℕ) (o : Option A) (x : A) → found cause o ≡ Ok x → is_some o ≡ true
found_ok cause None x h = absurd (cc h)
found_ok cause (Some y) x h = refl

wanted_ok : (cause : ℕ) (b : Bool) (x : Unit {0}) → wanted cause b ≡ Ok x → b ≡ true
wanted_ok cause true x h = refl
wanted_ok cause false x h = absurd (cc h)

keyed_ok : (s : Scope) (t parts : ℕ) (table : Table) → keyed s t parts ≡ Ok table → is_some (slice_get s.tables t) ≡ true
keyed_ok s t parts table h = let a = got_ok (found UNKNOWN_TABLE (slice_get s.tables t)) _ table h in found_ok UNKNOWN_TABLE (slice_get s.tables t) a.0 a.1

shaped_ok : (s : Scope) (t parts columns : ℕ) (table : Table) → shaped s t parts columns ≡ Ok table → is_some (slice_get s.tables t) ≡ true
shaped_ok s t parts columns table h = let a = got_ok (keyed s t parts) _ table h in keyed_ok s t parts a.0 a.1

reads_ok : (s : Scope) (t : ℕ) (ks : List Term) (rs : List ℕ) (set new : Set) → reads s t ks rs set ≡ Ok new → is_some (slice_get s.tables t) ≡ true
reads_ok s t ks rs set new h = let a = got_ok (shaped s t (length ks) (length rs)) _ new h in shaped_ok s t (length ks) (length rs) a.0 a.1

writes_ok : (s : Scope) (t : ℕ) (ks es : List Term) (set new : Set) → writes s t ks es set ≡ Ok new → is_some (slice_get s.tables t) ≡ true
writes_ok s t ks es set new h = let a = got_ok (shaped s t (length ks) (length es)) _ new h in shaped_ok s t (length ks) (length es) a.0 a.1

deletes_ok : (s : Scope) (t : ℕ) (ks : List Term) (set new : Set) → deletes s t ks set ≡ Ok new → is_some (slice_get s.tables t) ≡ true
deletes_ok s t ks set new h = let a = got_ok (keyed s t (length ks)) _ new h in keyed_ok s t (length ks) a.0 a.1

tests_ok : (s : Scope) (set : Set) (e : Term) (x : Unit {0}) → tests s set e ≡ Ok x → s.blocks < MOST_BLOCKS
tests_ok s set e x h =
    let a = got_ok (wanted NESTING (nat_lt s.blocks MOST_BLOCKS)) _ x h in
    let b = wanted_ok NESTING (nat_lt s.blocks MOST_BLOCKS) a.0 a.1 in
    grind (arith, common_steps, b)

goes_over_ok : (s : Scope) (n width : ℕ) → goes_over s n ≡ Ok width → s.blocks < MOST_BLOCKS
goes_over_ok s n width h =
    let a = got_ok (wanted NESTING (nat_lt s.blocks MOST_BLOCKS && not (is_some s.tuple))) _ width h in
    let b = wanted_ok NESTING (nat_lt s.blocks MOST_BLOCKS && not (is_some s.tuple)) a.0 a.1 in
    grind (arith, common_steps, b)

-- ---- the tables of statements

abbrev pub table_known : List Table → ℕ → Bool
table_known tables t = is_some (slice_get tables t)

abbrev mutual
  pub step_known : List Table → Step → Bool
  step_known tables (step.Let r e) = true
  step_known tables (step.Read absence t ks rs) = table_known tables t
  step_known tables (step.Put t ks es) = table_known tables t
  step_known tables (step.Del t ks) = table_known tables t
  step_known tables (step.If e a b) = steps_known tables a && steps_known tables b
  step_known tables (step.Each n body) = steps_known tables body
  step_known tables (step.Give e) = true
  step_known tables (step.Fail code) = true

  pub steps_known : List Table → Steps → Bool
  steps_known tables NoMore = true
  steps_known tables (More s rest) = step_known tables s && steps_known tables rest

-- ---- how deep JSON nests

term_nests : (t : Term) → json.depth (term_data t) ≤ depth t
term_nests (Num z) = omega arith
term_nests (Text bytes) = omega arith
term_nests Me = omega arith
term_nests (Named from n) = omega arith
term_nests (Unary o a) = omega (arith, term_nests a)
term_nests (Binary o a b) = omega (arith, term_nests a, term_nests b)
term_nests (MulDiv a b c) = omega (arith, term_nests a, term_nests b, term_nests c)
term_nests (Front a b n) = omega (arith, term_nests a, term_nests b)

fit_nests : (t : Term) → term_fits t ≡ true → json.depth (term_data t) ≤ DEEPEST_EXPR
fit_nests t h =
    let few : depth t ≤ DEEPEST_EXPR = grind (arith, common_steps, h) in
    omega (arith, term_nests t, few)

-- so many deep at most, where each of them is
pub all_nest : {A : Type 0} (f : A → Data) (n : ℕ) (xs : List A) → All (λ x. json.depth (f x) ≤ n) xs → json.items_depth (items_of (map f xs)) ≤ n
all_nest f n [] each = omega arith
all_nest f n (x ∷ xs) each = omega (arith, each 0 x (omega arith), all_nest f n xs (λ k y below. each (suc k) y (omega (arith, below))))

terms_nest : (ts : List Term) → list_all term_fits ts ≡ true → json.items_depth (items_of (map term_data ts)) ≤ DEEPEST_EXPR
terms_nest ts h = all_nest term_data DEEPEST_EXPR ts (λ k t below. fit_nests (get_or ts k t) (AllPass-from_list_all term_fits ts h k t below))

indexes_nest : (ns : List ℕ) → json.items_depth (items_of (map index_data ns)) ≤ 0
indexes_nest ns = all_nest index_data 0 ns (λ k n below. omega arith)

-- what a read has last
last_nests : (absence : Absence) → json.items_depth (items_of (read_last absence)) ≤ 0
last_nests Traps = omega arith
last_nests (Fails code) = omega arith
last_nests (Blanks flag) = omega arith

-- ---- statements

-- within so many blocks
record Sound (tables : List Table) (blocks : ℕ) (s : Step) : Type 0 where
  known : step_known tables s ≡ true
  nests : json.depth (step_data tables s) + 2 * blocks ≤ 26

pub record AllSound (tables : List Table) (blocks : ℕ) (ss : Steps) : Type 0 where
  pub known : steps_known tables ss ≡ true
  pub nests : json.items_depth (items_of (steps_data tables ss)) + 2 * blocks ≤ 26

mutual
  step_sound : (s : Scope) (st : Step) (r next : Reached) → s.blocks ≤ MOST_BLOCKS → step_fits st ≡ true → typed_step s st r ≡ Ok next
      → Sound s.tables s.blocks st
  step_sound s (step.Let n e) r next b f h = record { known = refl; nests = omega (arith, fit_nests e f) }
  step_sound s (step.Read absence t ks rs) r next b f h =
      let p = passed_ok r _ next h in
      let a = got_ok (reads s t ks rs r.set) (tells s absence) p.0 p.1 in
      let fit : list_all term_fits ks ≡ true = grind (arith, common_steps, f) in
      record { known = reads_ok s t ks rs r.set a.0 a.1; nests = omega (arith, terms_nest ks fit, indexes_nest rs, last_nests absence) }
  step_sound s (step.Put t ks es) r next b f h =
      let p = passed_ok r (writes s t ks es r.set) next h in
      let fit : list_all term_fits ks ≡ true = grind (arith, common_steps, f) in
      let fits : list_all term_fits es ≡ true = grind (arith, common_steps, f) in
      record { known = writes_ok s t ks es r.set p.0 p.1; nests = omega (arith, terms_nest ks fit, terms_nest es fits) }
  step_sound s (step.Del t ks) r next b f h =
      let p = passed_ok r (deletes s t ks r.set) next h in
      record { known = deletes_ok s t ks r.set p.0 p.1; nests = omega (arith, terms_nest ks f) }
  step_sound s (step.If e x y) r next b f h =
      let t = got_ok (at_place r.next (tests s r.set e)) _ next h in
      let low = tests_ok s r.set e t.0 (at_place_ok r.next (tests s r.set e) t.0 t.1) in
      let c = got_ok (typed_steps (inside s) x (record { next = r.next + 1; set = r.set })) _ next t.2 in
      let d = got_ok (typed_steps (inside s) y (record { next = c.0.next; set = r.set })) _ next c.2 in
      let fe : term_fits e ≡ true = grind (arith, common_steps, f) in
      let fx : steps_fit x ≡ true = grind (arith, common_steps, f) in
      let fy : steps_fit y ≡ true = grind (arith, common_steps, f) in
      let first = steps_sound (inside s) x (record { next = r.next + 1; set = r.set }) c.0 (omega (arith, low)) fx c.1 in
      let second = steps_sound (inside s) y (record { next = c.0.next; set = r.set }) d.0 (omega (arith, low)) fy d.1 in
      record { known = rw (first.known, second.known); nests = omega (arith, fit_nests e fe, first.nests, second.nests) }
  step_sound s (step.Each n body) r next b f h =
      let t = got_ok (at_place r.next (goes_over s n)) _ next h in
      let low = goes_over_ok s n t.0 (at_place_ok r.next (goes_over s n) t.0 t.1) in
      let c = got_ok (typed_steps (inside_each s t.0) body (record { next = r.next + 1; set = r.set })) _ next t.2 in
      let block = steps_sound (inside_each s t.0) body (record { next = r.next + 1; set = r.set }) c.0 (omega (arith, low)) f c.1 in
      record { known = block.known; nests = omega (arith, block.nests) }
  step_sound s (step.Give e) r next b f h = record { known = refl; nests = omega (arith, fit_nests e f) }
  step_sound s (step.Fail code) r next b f h = record { known = refl; nests = omega arith }

  pub steps_sound : (s : Scope) (ss : Steps) (r next : Reached) → s.blocks ≤ MOST_BLOCKS → steps_fit ss ≡ true → typed_steps s ss r ≡ Ok next
      → AllSound s.tables s.blocks ss
  steps_sound s NoMore r next b f h = record { known = refl; nests = omega arith }
  steps_sound s (More st rest) r next b f h =
      let a = got_ok (typed_step s st r) _ next h in
      let fs : step_fits st ≡ true = grind (arith, common_steps, f) in
      let fr : steps_fit rest ≡ true = grind (arith, common_steps, f) in
      let first = step_sound s st r a.0 b fs a.1 in
      let others = steps_sound s rest a.0 next b fr a.2 in
      record { known = rw (first.known, others.known); nests = omega (arith, first.nests, others.nests) }
