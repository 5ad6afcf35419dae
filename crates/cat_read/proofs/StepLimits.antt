-- What the walk reads as a body is within the limits.
use Rattle.std.proofs.Common.{◌≡◌, ℕ, ◌+◌, ◌≤◌, List, [], ◌∷◌, ◌++◌, Option, Some, true, Result, refl, subst, arith}
use Rattle.std.specs.declared.result.Result.TheVariants.{Ok}
use Rattle.std.specs.Prelude.{option_and_then, ◌&&◌}
use Rattle.std.specs.List.{list_all}
use Rattle.std.proofs.lemmas.Grind.{common_steps}
use Rattle.aria_base.specs.declared.schemas.Table.{Table}
use Rattle.serde_json.specs.Data.{Data, null, boolean, number, string, array, object, Items, no_items, item}
use Rattle.serde_json.specs.Find.{as_str, as_array}
use Rattle.proc_lang.specs.declared.procs.PathPart.{PathPart}
use Rattle.proc_lang.specs.declared.limits.TheConstants.{MOST_STATEMENTS, GREATEST_CODE}
use Rattle.proc_lang.specs.Terms.{Term}
use Rattle.proc_lang.specs.Steps.{Traps, Fails, Blanks, Step, Steps, NoMore, Let, Read, Put, Del, If, Each, Give, Fail}
use Rattle.proc_lang.specs.Syntax.{in_turn}
use Rattle.proc_lang.specs.Catalogs.{term_fits, code_fits, step_fits, steps_fit, step_count, steps_count}
use Rattle.cat_forms.specs.declared.names.Verb.{Verb}
use Rattle.cat_forms.specs.declared.names.Verb.TheVariants as verb
use Rattle.cat_forms.specs.Names.{verb_named}
use Rattle.cat_forms.specs.Places.{in_item}
use Rattle.cat_forms.specs.Shapes.{at_path, index}
use Rattle.cat_forms.specs.TermWalks.{term_at}
use Rattle.cat_forms.specs.StepWalks.{table_in, code, indexes, terms_at, row_at, read_at, step_at, statement_at, verb_at, block_at, steps_after, body_at}
use Rattle.cat_read.proofs.Binds.{bind_ok, at_path_ok, with_room_ok}
use Rattle.cat_read.proofs.TermLimits.{term_limits, terms_limits, number_bounds}

-- ---- statements one after another

steps_fit-last : (ss : List Step) (s : Step) → steps_fit (in_turn (ss ++ s ∷ [])) ≡ (steps_fit (in_turn ss) && step_fits s)
steps_fit-last [] s = grind (arith, common_steps)
steps_fit-last (t ∷ ss) s = grind (arith, common_steps, steps_fit-last ss s)

steps_count-last : (ss : List Step) (s : Step) → steps_count (in_turn (ss ++ s ∷ [])) ≡ steps_count (in_turn ss) + step_count s
steps_count-last [] s = omega arith
steps_count-last (t ∷ ss) s = omega (arith, steps_count-last ss s)

-- ---- operands

code_ok : (d : Data) (n : ℕ) → code d ≡ Some n → code_fits n ≡ true
code_ok d n h = let b = number_bounds 1 GREATEST_CODE d n h in grind (arith, common_steps, b.0, b.1)

terms_ok : (path : List PathPart) (at : ℕ) (d : Data) (ts : List Term) → terms_at path at d ≡ Ok ts → list_all term_fits ts ≡ true
terms_ok path at d ts h =
    let a = bind_ok (at_path path (as_array d)) _ ts h in
    terms_limits (in_item path at) 0 [] a.0 ts refl a.2

row_ok : (tables : List Table) (path : List PathPart) (t ks : Data) (row : ℕ × List Term) → row_at tables path t ks ≡ Ok row → list_all term_fits row.1 ≡ true
row_ok tables path t ks row h =
    let n = bind_ok (at_path path (table_in tables t)) _ row h in
    let k = bind_ok (terms_at path 2 ks) _ row n.2 in
    let e : ◌≡◌ {A = ℕ × List Term} (n.0, k.0) row = cc k.2 in
    subst (λ (r : ℕ × List Term). list_all term_fits r.1 ≡ true) e (terms_ok path 2 ks k.0 k.1)

read_ok : (tables : List Table) (path : List PathPart) (t ks rs : Data) (read : (ℕ × List Term) × List ℕ) → read_at tables path t ks rs ≡ Ok read
    → list_all term_fits read.0.1 ≡ true
read_ok tables path t ks rs read h =
    let row = bind_ok (row_at tables path t ks) _ read h in
    let regs = bind_ok (at_path path (indexes rs)) _ read row.2 in
    let e : ◌≡◌ {A = (ℕ × List Term) × List ℕ} (row.0, regs.0) read = cc regs.2 in
    subst (λ (r : (ℕ × List Term) × List ℕ). list_all term_fits r.0.1 ≡ true) e (row_ok tables path t ks row.0 row.1)

-- ---- statements

-- the statement fits, and the walk has counted it and all in its blocks
pub record Counted (seen : ℕ) (s : Step) (n : ℕ) : Type 0 where
  pub fits : step_fits s ≡ true
  pub count : n + 1 ≡ seen + step_count s
  pub few : n ≤ MOST_STATEMENTS

-- so for a block, behind statements that are done
pub record CountedAll (seen : ℕ) (done b : Steps) (n : ℕ) : Type 0 where
  pub fits : steps_fit b ≡ true
  pub count : n + steps_count done ≡ seen + steps_count b
  pub few : n ≤ MOST_STATEMENTS

counted : (seen n m : ℕ) (s t : Step) → ◌≡◌ {A = Step × ℕ} (s, n) (t, m) → Counted seen s n → Counted seen t m
counted seen n m s t e h = subst (λ (p : Step × ℕ). Counted seen p.0 p.1) e h

flat : (seen n : ℕ) (s t : Step) → ◌≡◌ {A = Result (Step × ℕ) (List PathPart)} (Ok (s, seen)) (Ok (t, n)) → seen ≤ MOST_STATEMENTS → step_count s ≡ 1
    → step_fits s ≡ true → Counted seen t n
flat seen n s t e few one fits =
    let p : ◌≡◌ {A = Step × ℕ} (s, seen) (t, n) = cc e in
    counted seen seen n s t p (record { fits = fits; count = omega (arith, one); few = few })

mutual
  step_counted : (tables : List Table) (body path : List PathPart) (seen : ℕ) (d : Data) (s : Step) (n : ℕ) → seen ≤ MOST_STATEMENTS
      → step_at tables body path seen d ≡ Ok (s, n) → Counted seen s n
  step_counted tables body path seen null s n few h = absurd (cc h)
  step_counted tables body path seen (boolean b) s n few h = absurd (cc h)
  step_counted tables body path seen (number m) s n few h = absurd (cc h)
  step_counted tables body path seen (string bytes) s n few h = absurd (cc h)
  step_counted tables body path seen (array ds) s n few h = statement_counted tables body path seen ds s n few h
  step_counted tables body path seen (object ms) s n few h = absurd (cc h)

  statement_counted : (tables : List Table) (body path : List PathPart) (seen : ℕ) (ds : Items) (s : Step) (n : ℕ) → seen ≤ MOST_STATEMENTS
      → statement_at tables body path seen ds ≡ Ok (s, n) → Counted seen s n
  statement_counted tables body path seen no_items s n few h = absurd (cc h)
  statement_counted tables body path seen (item name operands) s n few h =
      verb_counted tables body path seen (option_and_then verb_named (as_str name)) operands s n few h

  verb_counted : (tables : List Table) (body path : List PathPart) (seen : ℕ) (v : Option Verb) (ds : Items) (s : Step) (n : ℕ) → seen ≤ MOST_STATEMENTS
      → verb_at tables body path seen v ds ≡ Ok (s, n) → Counted seen s n
  verb_counted tables body path seen (Some verb.Let) (item r (item e no_items)) s n few h =
      let a = bind_ok (at_path path (index r)) _ (s, n) h in
      let t = bind_ok (term_at (in_item path 2) 1 e) _ (s, n) a.2 in
      flat seen n (Let a.0 t.0) s t.2 few refl (term_limits (in_item path 2) e t.0 t.1)
  verb_counted tables body path seen (Some verb.Get) (item t (item ks (item rs no_items))) s n few h =
      let a = bind_ok (read_at tables path t ks rs) _ (s, n) h in
      flat seen n (Read Traps a.0.0.0 a.0.0.1 a.0.1) s a.2 few refl (rw (read_ok tables path t ks rs a.0 a.1))
  verb_counted tables body path seen (Some verb.Need) (item t (item ks (item rs (item c no_items)))) s n few h =
      let a = bind_ok (read_at tables path t ks rs) _ (s, n) h in
      let f = bind_ok (at_path path (code c)) _ (s, n) a.2 in
      flat seen n (Read (Fails f.0) a.0.0.0 a.0.0.1 a.0.1) s f.2 few refl
      (rw (read_ok tables path t ks rs a.0 a.1, code_ok c f.0 (at_path_ok path (code c) f.0 f.1)))
  verb_counted tables body path seen (Some verb.Find) (item t (item ks (item rs (item f no_items)))) s n few h =
      let a = bind_ok (read_at tables path t ks rs) _ (s, n) h in
      let g = bind_ok (at_path path (index f)) _ (s, n) a.2 in
      flat seen n (Read (Blanks g.0) a.0.0.0 a.0.0.1 a.0.1) s g.2 few refl (rw (read_ok tables path t ks rs a.0 a.1))
  verb_counted tables body path seen (Some verb.Put) (item t (item ks (item es no_items))) s n few h =
      let a = bind_ok (row_at tables path t ks) _ (s, n) h in
      let c = bind_ok (terms_at path 3 es) _ (s, n) a.2 in
      flat seen n (Put a.0.0 a.0.1 c.0) s c.2 few refl (rw (row_ok tables path t ks a.0 a.1, terms_ok path 3 es c.0 c.1))
  verb_counted tables body path seen (Some verb.Del) (item t (item ks no_items)) s n few h =
      let a = bind_ok (row_at tables path t ks) _ (s, n) h in
      flat seen n (Del a.0.0 a.0.1) s a.2 few refl (row_ok tables path t ks a.0 a.1)
  verb_counted tables body path seen (Some verb.If) (item e (item a (item b no_items))) s n few h =
      let t = bind_ok (term_at (in_item path 1) 1 e) _ (s, n) h in
      let f = bind_ok (block_at tables body path 2 seen a) _ (s, n) t.2 in
      let g = bind_ok (block_at tables body path 3 f.0.1 b) _ (s, n) f.2 in
      let first = block_counted tables body path 2 seen a f.0.0 f.0.1 few f.1 in
      let second = block_counted tables body path 3 f.0.1 b g.0.0 g.0.1 first.few g.1 in
      let p : ◌≡◌ {A = Step × ℕ} (If t.0 f.0.0 g.0.0, g.0.1) (s, n) = cc g.2 in
      counted seen g.0.1 n (If t.0 f.0.0 g.0.0) s p (record {
        fits = rw (term_limits (in_item path 1) e t.0 t.1, first.fits, second.fits);
        count = omega (arith, first.count, second.count);
        few = second.few;
      })
  verb_counted tables body path seen (Some verb.Each) (item l (item a no_items)) s n few h =
      let i = bind_ok (at_path path (index l)) _ (s, n) h in
      let f = bind_ok (block_at tables body path 2 seen a) _ (s, n) i.2 in
      let block = block_counted tables body path 2 seen a f.0.0 f.0.1 few f.1 in
      let p : ◌≡◌ {A = Step × ℕ} (Each i.0 f.0.0, f.0.1) (s, n) = cc f.2 in
      counted seen f.0.1 n (Each i.0 f.0.0) s p (record { fits = block.fits; count = omega (arith, block.count); few = block.few })
  verb_counted tables body path seen (Some verb.Give) (item e no_items) s n few h =
      let t = bind_ok (term_at (in_item path 1) 1 e) _ (s, n) h in
      flat seen n (Give t.0) s t.2 few refl (term_limits (in_item path 1) e t.0 t.1)
  verb_counted tables body path seen (Some verb.Fail) (item c no_items) s n few h =
      let f = bind_ok (at_path path (code c)) _ (s, n) h in
      flat seen n (Fail f.0) s f.2 few refl (code_ok c f.0 (at_path_ok path (code c) f.0 f.1))
  verb_counted tables body path seen other operands s n few h = absurd (cc h)

  block_counted : (tables : List Table) (body path : List PathPart) (at seen : ℕ) (d : Data) (b : Steps) (n : ℕ) → seen ≤ MOST_STATEMENTS
      → block_at tables body path at seen d ≡ Ok (b, n) → CountedAll seen NoMore b n
  block_counted tables body path at seen null b n few h = absurd (cc h)
  block_counted tables body path at seen (boolean x) b n few h = absurd (cc h)
  block_counted tables body path at seen (number m) b n few h = absurd (cc h)
  block_counted tables body path at seen (string bytes) b n few h = absurd (cc h)
  block_counted tables body path at seen (array ds) b n few h = steps_counted tables body (in_item path at) 0 seen [] ds b n few refl h
  block_counted tables body path at seen (object ms) b n few h = absurd (cc h)

  steps_counted : (tables : List Table) (body path : List PathPart) (at seen : ℕ) (done : List Step) (ds : Items) (b : Steps) (n : ℕ) → seen ≤ MOST_STATEMENTS
      → steps_fit (in_turn done) ≡ true → steps_after tables body path at seen done ds ≡ Ok (b, n) → CountedAll seen (in_turn done) b n
  steps_counted tables body path at seen done no_items b n few fits h =
      let p : ◌≡◌ {A = Steps × ℕ} (in_turn done, seen) (b, n) = cc h in
      subst (λ (p : Steps × ℕ). CountedAll seen (in_turn done) p.0 p.1) p (record { fits = fits; count = omega arith; few = few })
  steps_counted tables body path at seen done (item d ds) b n few fits h =
      let r = with_room_ok body seen _ (b, n) h in
      let a = bind_ok (step_at tables body (in_item path at) (seen + 1) d) _ (b, n) r.1 in
      let first = step_counted tables body (in_item path at) (seen + 1) d a.0.0 a.0.1 (omega (arith, r.0)) a.1 in
      let rest = steps_counted tables body path (at + 1) a.0.1 (done ++ a.0.0 ∷ []) ds b n first.few (rw (steps_fit-last done a.0.0, fits, first.fits)) a.2 in
      record { fits = rest.fits; count = omega (arith, first.count, rest.count, steps_count-last done a.0.0); few = rest.few }

-- ---- bodies

pub body_fits : (tables : List Table) (path : List PathPart) (d : Data) (b : Steps) → body_at tables path d ≡ Ok b
    → (steps_fit b ≡ true) × (steps_count b ≤ MOST_STATEMENTS)
body_fits tables path d b h =
    let a = bind_ok (at_path path (as_array d)) _ b h in
    let c = bind_ok (steps_after tables path path 0 0 [] a.0) _ b a.2 in
    let e : c.0.0 ≡ b = cc c.2 in
    let k = steps_counted tables path path 0 0 [] a.0 c.0.0 c.0.1 (omega arith) refl c.1 in
    subst (λ b. (steps_fit b ≡ true) × (steps_count b ≤ MOST_STATEMENTS)) e (k.fits, omega (arith, k.count, k.few))
