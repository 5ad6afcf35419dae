-- What the walk reads as an expression is within the limits.
use Rattle.std.proofs.Common.{◌≡◌, ℕ, ◌+◌, ◌≤◌, List, Option, Some, true, refl, subst, arith, [], ◌∷◌, ◌++◌}
use Rattle.std.specs.declared.result.Result.TheVariants.{Ok}
use Rattle.std.specs.Prelude.{option_and_then, nat_le}
use Rattle.std.specs.List.{list_all}
use Rattle.std.proofs.lemmas.List.Folds.{list_all-append}
use Rattle.std.proofs.lemmas.Grind.{common_steps}
use Rattle.serde_json.specs.Data.{Data, null, boolean, number, string, array, object, Items, no_items, item}
use Rattle.serde_json.specs.Find.{as_str, as_i64, as_number, as_u64}
use Rattle.proc_lang.specs.declared.procs.PathPart.{PathPart}
use Rattle.proc_lang.specs.declared.limits.TheConstants.{DEEPEST_EXPR, MOST_FRONT}
use Rattle.proc_lang.specs.Terms.{Term, Num, Text, Me, Named, Unary, Binary, MulDiv, Front}
use Rattle.proc_lang.specs.Values.{both}
use Rattle.proc_lang.specs.Catalogs.{depth, fronts_fit, term_fits}
use Rattle.cat_forms.specs.declared.names.Form.{Form}
use Rattle.cat_forms.specs.declared.names.Form.TheVariants as form
use Rattle.cat_forms.specs.Names.{form_named}
use Rattle.cat_forms.specs.Places.{in_item}
use Rattle.cat_forms.specs.Shapes.{Shaped, index, number_between, number_within, text_of}
use Rattle.cat_forms.specs.TermWalks.{term_at, node_at, form_at, terms_after}
use Rattle.cat_read.proofs.Binds.{bind_ok, both_ok, at_path_ok, mapped_ok, chained_ok, at_level_ok, number_ok}

-- an expression that stands at the level is nowhere too deep, and takes no more bytes than a text has
pub record Within (level : ℕ) (t : Term) : Type 0 where
  pub shallow : level + depth t ≤ 1 + DEEPEST_EXPR
  pub fronts : fronts_fit t ≡ true

-- the number that data says is within its bounds
pub number_bounds : (low high : ℕ) (d : Data) (n : ℕ) → number_between low high d ≡ Some n → (low ≤ n) × (n ≤ high)
number_bounds low high d n h =
    let m = chained_ok (number_within low high) (option_and_then as_u64 (as_number d)) n h in
    let k = number_ok low high m.0 n m.2 in
    (grind (arith, common_steps, k.1), grind (arith, common_steps, k.1))

-- of two operands, where it is so of each
both_within : (level : ℕ) (x y : Shaped Term) (a b : Term) → ((t : Term) → x ≡ Ok t → Within level t) → ((t : Term) → y ≡ Ok t → Within level t)
    → both x y ≡ Ok (a, b) → Within level a × Within level b
both_within level x y a b of_x of_y h = let ab = both_ok x y a b h in (of_x a ab.0, of_y b ab.1)

mutual
  pub term_within : (path : List PathPart) (level : ℕ) (d : Data) (t : Term) → term_at path level d ≡ Ok t → Within level t
  term_within path level null t h = absurd (cc h)
  term_within path level (boolean b) t h = absurd (cc h)
  term_within path level (number n) t h =
      let l = at_level_ok path level _ t h in
      let m = mapped_ok Num (as_i64 n) t (at_path_ok path _ t l.1) in
      subst (λ t. Within level t) m.2 (record { shallow = omega (arith, l.0); fronts = refl })
  term_within path level (string bytes) t h =
      let l = at_level_ok path level _ t h in
      let m = mapped_ok Text (text_of bytes) t (at_path_ok path _ t l.1) in
      subst (λ t. Within level t) m.2 (record { shallow = omega (arith, l.0); fronts = refl })
  term_within path level (array ds) t h =
      let l = at_level_ok path level _ t h in
      node_within path level ds t l.0 l.1
  term_within path level (object ms) t h = absurd (cc h)

  node_within : (path : List PathPart) (level : ℕ) (ds : Items) (t : Term) → level ≤ DEEPEST_EXPR → node_at path level ds ≡ Ok t → Within level t
  node_within path level no_items t l h = absurd (cc h)
  node_within path level (item name operands) t l h = form_within path level (option_and_then form_named (as_str name)) operands t l h

  form_within : (path : List PathPart) (level : ℕ) (f : Option Form) (ds : Items) (t : Term) → level ≤ DEEPEST_EXPR → form_at path level f ds ≡ Ok t
      → Within level t
  form_within path level (Some form.Me) no_items t l h = let e : Me ≡ t = cc h in
      subst (λ t. Within level t) e (record { shallow = omega (arith, l); fronts = refl })
  form_within path level (Some (form.Named from)) (item n no_items) t l h =
      let m = mapped_ok (Named from) (index n) t (at_path_ok path _ t h) in
      subst (λ t. Within level t) m.2 (record { shallow = omega (arith, l); fronts = refl })
  form_within path level (Some (form.Unary o)) (item x no_items) t l h =
      let a = bind_ok (term_at (in_item path 1) (level + 1) x) _ t h in
      let e : Unary o a.0 ≡ t = cc a.2 in
      let x_is = term_within (in_item path 1) (level + 1) x a.0 a.1 in
      subst (λ t. Within level t) e (record { shallow = omega (arith, x_is.shallow); fronts = x_is.fronts })
  form_within path level (Some (form.Binary o)) (item x (item y no_items)) t l h =
      let p = bind_ok (both (term_at (in_item path 1) (level + 1) x) (term_at (in_item path 2) (level + 1) y)) _ t h in
      let ab = both_within (level + 1) _ _ p.0.0 p.0.1 (term_within (in_item path 1) (level + 1) x) (term_within (in_item path 2) (level + 1) y) p.1 in
      let e : Binary o p.0.0 p.0.1 ≡ t = cc p.2 in
      subst (λ t. Within level t) e (record { shallow = omega (arith, ab.0.shallow, ab.1.shallow); fronts = rw (ab.0.fronts, ab.1.fronts) })
  form_within path level (Some form.MulDiv) (item x (item y (item z no_items))) t l h =
      let p = bind_ok (both (both (term_at (in_item path 1) (level + 1) x) (term_at (in_item path 2) (level + 1) y)) (term_at (in_item path 3) (level + 1) z))
      _ t h in
      let abc = both_ok (both (term_at (in_item path 1) (level + 1) x) (term_at (in_item path 2) (level + 1) y))
      (term_at (in_item path 3) (level + 1) z) p.0.0 p.0.1 p.1 in
      let ab = both_within (level + 1) _ _ p.0.0.0 p.0.0.1 (term_within (in_item path 1) (level + 1) x) (term_within (in_item path 2) (level + 1) y) abc.0 in
      let c = term_within (in_item path 3) (level + 1) z p.0.1 abc.1 in
      let e : MulDiv p.0.0.0 p.0.0.1 p.0.1 ≡ t = cc p.2 in
      subst (λ t. Within level t) e (record {
        shallow = omega (arith, ab.0.shallow, ab.1.shallow, c.shallow);
        fronts =
            rw (ab.0.fronts, ab.1.fronts, c.fronts);
      })
  form_within path level (Some form.Front) (item x (item y (item n no_items))) t l h =
      let p = bind_ok (both (term_at (in_item path 1) (level + 1) x) (term_at (in_item path 2) (level + 1) y)) _ t h in
      let ab = both_within (level + 1) _ _ p.0.0 p.0.1 (term_within (in_item path 1) (level + 1) x) (term_within (in_item path 2) (level + 1) y) p.1 in
      let m = mapped_ok (Front p.0.0 p.0.1) (number_between 0 MOST_FRONT n) t (at_path_ok path _ t p.2) in
      let few : nat_le m.0 MOST_FRONT ≡ true = grind (arith, common_steps, (number_bounds 0 MOST_FRONT n m.0 m.1).1) in
      subst (λ t. Within level t) m.2 (record { shallow = omega (arith, ab.0.shallow, ab.1.shallow); fronts = rw (few, ab.0.fronts, ab.1.fronts) })
  form_within path level other operands t l h = absurd (cc h)

-- one that lies in no other
pub term_limits : (path : List PathPart) (d : Data) (t : Term) → term_at path 1 d ≡ Ok t → term_fits t ≡ true
term_limits path d t h =
    let w = term_within path 1 d t h in
    grind (arith, common_steps, w.shallow, w.fronts)

-- expressions one after another
pub terms_limits : (path : List PathPart) (at : ℕ) (done : List Term) (ds : Items) (ts : List Term) → list_all term_fits done ≡ true
    → terms_after path at done ds ≡ Ok ts → list_all term_fits ts ≡ true
terms_limits path at done no_items ts h e = let same : done ≡ ts = cc e in rw (← same) h
terms_limits path at done (item d ds) ts h e =
    let b = bind_ok (term_at (in_item path at) 1 d) _ ts e in
    terms_limits path (at + 1) (done ++ b.0 ∷ []) ds ts (rw (list_all-append term_fits done (b.0 ∷ []), h, term_limits (in_item path at) d b.0 b.1)) b.2
