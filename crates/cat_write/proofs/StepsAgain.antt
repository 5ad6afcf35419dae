-- What is written of a body reads as it.
use Rattle.std.proofs.Common.{◌≡◌, ℕ, zero, suc, ◌+◌, ◌≤◌, List, [], ◌∷◌, ◌++◌, map, length, Option, Some, None, option_map, true, false, refl, ap, sym, ◌∙◌, arith}
use Rattle.std.specs.declared.result.Result.TheVariants.{Ok}
use Rattle.std.specs.Prelude.{◌&&◌, not, is_some, nat_lt}
use Rattle.std.specs.Option.{option_map_or}
use Rattle.std.specs.List.{list_all, list_any, slice_get, position_or_len}
use Rattle.std.specs.Str.{bytes_eq}
use Rattle.std.proofs.lemmas.Bool.{and_parts, not-true}
use Rattle.std.proofs.lemmas.List.{append_assoc, append-nil}
use Rattle.std.proofs.lemmas.Option.{slice_get-map, slice_get_within}
use Rattle.std.proofs.lemmas.Slice.Eq.{bytes_eq-Decides}
use Rattle.std.proofs.lemmas.Grind.{common_steps}
use Rattle.aria_base.specs.declared.schemas.Table.{Table}
use Rattle.serde_json.specs.View.{items_of}
use Rattle.proc_lang.specs.declared.procs.PathPart.{PathPart}
use Rattle.proc_lang.specs.declared.limits.TheConstants.{MOST_STATEMENTS, GREATEST_CODE}
use Rattle.proc_lang.specs.Terms.{Term}
use Rattle.proc_lang.specs.Steps.{Traps, Fails, Blanks, Step, Steps, NoMore, More}
use Rattle.proc_lang.specs.Steps as step
use Rattle.proc_lang.specs.Syntax.{in_turn}
use Rattle.proc_lang.specs.Catalogs.{term_fits, code_fits, step_fits, steps_fit, step_count, steps_count, distinct}
use Rattle.cat_forms.specs.Places.{in_item}
use Rattle.cat_forms.specs.StepWalks.{number_of, code, indexes_after, indexes, terms_at, row_at, read_at, step_at, steps_after, body_at}
use Rattle.cat_forms.specs.Written.{index_data, indexes_data, terms_data, table_name, table_ref, list_data, step_data, steps_data}
use Rattle.cat_write.specs.Held.{is_u32, term_held, step_held, steps_held}
use Rattle.cat_write.proofs.TermsAgain.{between_again, index_again, whole_again, terms_again}
use Rattle.cat_write.proofs.Soundness.{table_known, step_known, steps_known}

-- ---- tables

-- a name that none of these has is not the name at a place among them
other_name : (names : List (List ℕ)) (n : ℕ) (name own : List ℕ) → list_any (bytes_eq own) names ≡ false → slice_get names n ≡ Some name
    → bytes_eq own name ≡ false
other_name [] n name own h e = absurd (cc e)
other_name (x ∷ names) zero name own h e =
    let first : bytes_eq own x ≡ false = grind (arith, common_steps, h) in
    let same : x ≡ name = cc e in
    rw (← same) first
other_name (x ∷ names) (suc n) name own h e =
    let rest : list_any (bytes_eq own) names ≡ false = grind (arith, common_steps, h) in
    other_name names n name own rest e

-- a table's name leads to it
place_again : (tables : List Table) (n : ℕ) (x : Table) → distinct (map (λ t. t.name) tables) ≡ true → slice_get tables n ≡ Some x
    → position_or_len (λ t. bytes_eq t.name x.name) tables ≡ n
place_again [] n x d e = absurd (cc e)
place_again (t ∷ ts) zero x d e =
    let same : t ≡ x = cc e in
    let own : bytes_eq t.name x.name ≡ true = (bytes_eq-Decides t.name x.name).1 (ap (λ (t : Table). t.name) same) in
    rw own
place_again (t ∷ ts) (suc n) x d e =
    let names : List (List ℕ) = map (λ (t : Table). t.name) ts in
    let apart = and_parts (not (list_any (bytes_eq t.name) names)) (distinct names) d in
    let named : slice_get names n ≡ Some x.name = slice_get-map (λ (t : Table). t.name) ts n ∙ ap (option_map (λ (t : Table). t.name)) e in
    let other = other_name names n x.name t.name (not-true (list_any (bytes_eq t.name) names) apart.0) named in
    let later = place_again ts n x apart.1 e in
    rw (other, later) (omega arith)

number_again : (tables : List Table) (n : ℕ) → distinct (map (λ t. t.name) tables) ≡ true → table_known tables n ≡ true
    → number_of tables (table_name tables n) ≡ n
number_again tables n d h = found (slice_get tables n) refl h where
  found : (o : Option Table) → slice_get tables n ≡ o → is_some o ≡ true → number_of tables (option_map_or (λ t. t.name) o []) ≡ n
  found None e h = absurd (cc h)
  found (Some x) e h =
      let place = place_again tables n x d e in
      let low : nat_lt n (length tables) ≡ true = grind (arith, common_steps, slice_get_within tables n x e) in
      rw (place, low)

-- ---- plain operands

code_again : (n : ℕ) → code_fits n ≡ true → code (index_data n) ≡ Some n
code_again n h =
    let low : 1 ≤ n = grind (arith, common_steps, h) in
    let high : n ≤ GREATEST_CODE = grind (arith, common_steps, h) in
    between_again 1 GREATEST_CODE n low high

indexes_again : (done ns : List ℕ) → list_all is_u32 ns ≡ true → indexes_after done (items_of (map index_data ns)) ≡ Some (done ++ ns)
indexes_again done [] h = ap Some (sym (append-nil done))
indexes_again done (n ∷ ns) h =
    let held = and_parts (is_u32 n) (list_all is_u32 ns) h in
    let e = index_again n held.0 in
    let rest = indexes_again (done ++ n ∷ []) ns held.1 in
    rw e (rest ∙ ap Some (append_assoc done (n ∷ []) ns))

regs_again : (ns : List ℕ) → list_all is_u32 ns ≡ true → indexes (indexes_data ns) ≡ Some ns
regs_again ns h = indexes_again [] ns h

exprs_again : (path : List PathPart) (at : ℕ) (ts : List Term) → list_all term_fits ts ≡ true → list_all term_held ts ≡ true
    → terms_at path at (terms_data ts) ≡ Ok ts
exprs_again path at ts f h = terms_again (in_item path at) 0 [] ts f h

-- ---- statements

counts : (s : Step) → 1 ≤ step_count s
counts (step.Let n e) = omega arith
counts (step.Read absence t ks rs) = omega arith
counts (step.Put t ks es) = omega arith
counts (step.Del t ks) = omega arith
counts (step.If e a b) = omega arith
counts (step.Each n body) = omega arith
counts (step.Give e) = omega arith
counts (step.Fail c) = omega arith

-- statements before others
abbrev behind : List Step → Steps → Steps
behind [] rest = rest
behind (s ∷ ss) rest = More s (behind ss rest)

behind-none : (ss : List Step) → behind ss NoMore ≡ in_turn ss
behind-none [] = refl
behind-none (s ∷ ss) = ap (More s) (behind-none ss)

behind-last : (ss : List Step) (s : Step) (rest : Steps) → behind (ss ++ s ∷ []) rest ≡ behind ss (More s rest)
behind-last [] s rest = refl
behind-last (t ∷ ss) s rest = ap (More t) (behind-last ss s rest)

-- it may be written under these tables
record Fit (tables : List Table) (s : Step) : Type 0 where
  fits : step_fits s ≡ true
  held : step_held s ≡ true
  known : step_known tables s ≡ true

pub record AllFit (tables : List Table) (ss : Steps) : Type 0 where
  pub fits : steps_fit ss ≡ true
  pub held : steps_held ss ≡ true
  pub known : steps_known tables ss ≡ true

module _ (tables : List Table) (d : distinct (map (λ t. t.name) tables) ≡ true) (body : List PathPart) where
  row_again : (path : List PathPart) (t : ℕ) (ks : List Term) → table_known tables t ≡ true → list_all term_fits ks ≡ true → list_all term_held ks ≡ true
      → row_at tables path (table_ref tables t) (terms_data ks) ≡ Ok (t, ks)
  row_again path t ks k f h =
      let et = number_again tables t d k in
      let ek = exprs_again path 2 ks f h in
      rw (et, ek)

  read_again : (path : List PathPart) (t : ℕ) (ks : List Term) (rs : List ℕ) → table_known tables t ≡ true → list_all term_fits ks ≡ true
      → (list_all term_held ks && list_all is_u32 rs) ≡ true → read_at tables path (table_ref tables t) (terms_data ks) (indexes_data rs) ≡ Ok ((t, ks), rs)
  read_again path t ks rs k f h =
      let held = and_parts (list_all term_held ks) (list_all is_u32 rs) h in
      let er = row_again path t ks k f held.0 in
      let en = regs_again rs held.1 in
      rw (er, en)

  -- the walk has counted a statement before it comes to it, and then counts what lies in its blocks
  mutual
    step_again : (path : List PathPart) (seen : ℕ) (s : Step) → Fit tables s → step_count s + seen ≤ 1 + MOST_STATEMENTS
        → (n : ℕ) × (step_at tables body path seen (step_data tables s) ≡ Ok (s, n)) × (n + 1 ≡ seen + step_count s)
    step_again path seen (step.Let n e) f few =
        let held = and_parts (is_u32 n) (term_held e) f.held in
        let en = index_again n held.0 in
        let ee = whole_again (in_item path 2) e f.fits held.1 in
        (seen, rw (en, ee), refl)
    step_again path seen (step.Read Traps t ks rs) f few =
        let fits = and_parts (list_all term_fits ks) true f.fits in
        let held = and_parts (list_all term_held ks && list_all is_u32 rs) true f.held in
        let er = read_again path t ks rs f.known fits.0 held.0 in
        (seen, rw er, refl)
    step_again path seen (step.Read (Fails c) t ks rs) f few =
        let fits = and_parts (list_all term_fits ks) (code_fits c) f.fits in
        let held = and_parts (list_all term_held ks && list_all is_u32 rs) true f.held in
        let er = read_again path t ks rs f.known fits.0 held.0 in
        let ec = code_again c fits.1 in
        (seen, rw (er, ec), refl)
    step_again path seen (step.Read (Blanks flag) t ks rs) f few =
        let fits = and_parts (list_all term_fits ks) true f.fits in
        let held = and_parts (list_all term_held ks && list_all is_u32 rs) (is_u32 flag) f.held in
        let er = read_again path t ks rs f.known fits.0 held.0 in
        let ef = index_again flag held.1 in
        (seen, rw (er, ef), refl)
    step_again path seen (step.Put t ks es) f few =
        let fits = and_parts (list_all term_fits ks) (list_all term_fits es) f.fits in
        let held = and_parts (list_all term_held ks) (list_all term_held es) f.held in
        let er = row_again path t ks f.known fits.0 held.0 in
        let ee = exprs_again path 3 es fits.1 held.1 in
        (seen, rw (er, ee), refl)
    step_again path seen (step.Del t ks) f few =
        let er = row_again path t ks f.known f.fits f.held in
        (seen, rw er, refl)
    step_again path seen (step.If e a b) f few =
        let fits = and_parts (term_fits e && steps_fit a) (steps_fit b) f.fits in
        let held = and_parts (term_held e && steps_held a) (steps_held b) f.held in
        let known = and_parts (steps_known tables a) (steps_known tables b) f.known in
        let fit = and_parts (term_fits e) (steps_fit a) fits.0 in
        let hold = and_parts (term_held e) (steps_held a) held.0 in
        let ee = whole_again (in_item path 1) e fit.0 hold.0 in
        let first = steps_again (in_item path 2) 0 seen [] a (record { fits = fit.1; held = hold.1; known = known.0 }) (omega (arith, few)) in
        let second = steps_again (in_item path 3) 0 first.0 [] b (record { fits = fits.1; held = held.1; known = known.1 }) (omega (arith, few, first.2)) in
        let ea = first.1 in
        let eb = second.1 in
        (second.0, rw (ee, ea, eb), omega (arith, first.2, second.2))
    step_again path seen (step.Each n a) f few =
        let held = and_parts (is_u32 n) (steps_held a) f.held in
        let en = index_again n held.0 in
        let block = steps_again (in_item path 2) 0 seen [] a (record { fits = f.fits; held = held.1; known = f.known }) (omega (arith, few)) in
        let ea = block.1 in
        (block.0, rw (en, ea), omega (arith, block.2))
    step_again path seen (step.Give e) f few =
        let ee = whole_again (in_item path 1) e f.fits f.held in
        (seen, rw ee, refl)
    step_again path seen (step.Fail c) f few =
        let ec = code_again c f.fits in
        (seen, rw ec, refl)

    steps_again : (path : List PathPart) (at seen : ℕ) (done : List Step) (ss : Steps) → AllFit tables ss → steps_count ss + seen ≤ MOST_STATEMENTS
        → (n : ℕ) × (steps_after tables body path at seen done (items_of (steps_data tables ss)) ≡ Ok (behind done ss, n)) × (n ≡ seen + steps_count ss)
    steps_again path at seen done NoMore f few = (seen, ap (λ (b : Steps). Ok (b, seen)) (sym (behind-none done)), omega arith)
    steps_again path at seen done (More s rest) f few =
        let fits = and_parts (step_fits s) (steps_fit rest) f.fits in
        let held = and_parts (step_held s) (steps_held rest) f.held in
        let known = and_parts (step_known tables s) (steps_known tables rest) f.known in
        let room : nat_lt seen MOST_STATEMENTS ≡ true = grind (arith, common_steps, few, counts s) in
        let first = step_again (in_item path at) (seen + 1) s (record { fits = fits.0; held = held.0; known = known.0 }) (omega (arith, few)) in
        let others = steps_again path (at + 1) first.0 (done ++ s ∷ []) rest (record { fits = fits.1; held = held.1; known = known.1 })
        (omega (arith, few, first.2)) in
        let es = first.1 in
        (others.0, rw (room, es) (others.1 ∙ ap (λ (b : Steps). Ok (b, others.0)) (behind-last done s rest)), omega (arith, first.2, others.2))

-- the statements of a body
pub body_again : (tables : List Table) → distinct (map (λ t. t.name) tables) ≡ true → (path : List PathPart) (ss : Steps) → AllFit tables ss
    → steps_count ss ≤ MOST_STATEMENTS → body_at tables path (list_data (steps_data tables ss)) ≡ Ok ss
body_again tables d path ss f few =
    let read = steps_again tables d path path 0 0 [] ss f (omega (arith, few)) in
    let e = read.1 in
    rw e
