-- What is written of an expression reads as it.
use Rattle.std.proofs.Common.{◌≡◌, ℕ, ℤ, pos, negsuc, ◌+◌, ◌≤◌, List, [], ◌∷◌, ◌++◌, map, Option, Some, option_map, true, refl, ap, sym, ◌∙◌, arith}
use Rattle.std.specs.declared.result.Result.TheVariants.{Ok}
use Rattle.std.specs.Prelude.{◌&&◌, nat_le, max}
use Rattle.std.specs.List.{list_all}
use Rattle.std.proofs.lemmas.Bool.{and_parts}
use Rattle.std.proofs.lemmas.List.{append_assoc, append-nil}
use Rattle.std.proofs.lemmas.Grind.{common_steps}
use Rattle.serde_json.specs.Data.{Items, no_items, item, string, array}
use Rattle.serde_json.specs.View.{items_of}
use Rattle.serde_json.specs.Find.{as_i64, of_integer}
use Rattle.proc_lang.specs.declared.procs.PathPart.{PathPart}
use Rattle.proc_lang.specs.declared.limits.TheConstants.{DEEPEST_EXPR, MOST_FRONT}
use Rattle.proc_lang.specs.Terms.{Term, Num, Text, Me, Named, Unary, Binary, MulDiv, Front}
use Rattle.proc_lang.specs.Values.{both, is_i64}
use Rattle.proc_lang.specs.Catalogs.{depth, fronts_fit, term_fits}
use Rattle.cat_forms.specs.declared.names.Form.{Form}
use Rattle.cat_forms.specs.declared.names.Form.TheVariants as form
use Rattle.cat_forms.specs.Names.{form_name}
use Rattle.cat_forms.specs.Places.{in_item}
use Rattle.cat_forms.specs.Shapes.{Shaped, at_path, index, number_between, text_of, is_text}
use Rattle.cat_forms.specs.TermWalks.{at_level, term_at, node_at, form_at, terms_after}
use Rattle.cat_forms.specs.Written.{index_data, term_data}
use Rattle.cat_forms.proofs.NamesAgain.{form_again}
use Rattle.cat_write.specs.Held.{is_u32, term_held}

-- ---- forms

shallow : {A : Type 0} (path : List PathPart) (level : ℕ) (read : Shaped A) → level ≤ DEEPEST_EXPR → at_level path level read ≡ read
shallow path level read h = let e : nat_le level DEEPEST_EXPR ≡ true = grind (arith, common_steps, h) in rw e

form_read : (path : List PathPart) (level : ℕ) (f : Form) (ops : Items) → level ≤ DEEPEST_EXPR
    → term_at path level (array (item (string (form_name f)) ops)) ≡ form_at path level (Some f) ops
form_read path level f ops h = shallow path level (node_at path level (item (string (form_name f)) ops)) h
    ∙ ap (λ (g : Option Form). form_at path level g ops) (form_again f)

-- ---- plain operands

pub between_again : (low high n : ℕ) → low ≤ n → n ≤ high → number_between low high (index_data n) ≡ Some n
between_again low high n h k =
    let a : nat_le low n ≡ true = grind (arith, common_steps, h) in
    let b : nat_le n high ≡ true = grind (arith, common_steps, k) in
    rw (a, b)

pub index_again : (n : ℕ) → is_u32 n ≡ true → index (index_data n) ≡ Some n
index_again n h = let k : n ≤ 4294967295 = grind (arith, common_steps, h) in between_again 0 4294967295 n (omega arith) k

integer_again : (z : ℤ) → is_i64 z ≡ true → as_i64 (of_integer z) ≡ Some z
integer_again (pos n) h = rw h
integer_again (negsuc n) h = refl

text_again : (bytes : List ℕ) → is_text bytes ≡ true → text_of bytes ≡ Some bytes
text_again bytes h = rw h

-- ---- expressions

-- at this level, and within the limits, what is written of it reads as it
abbrev Again : ℕ → Term → Type 0
Again level t = level + depth t ≤ 1 + DEEPEST_EXPR → fronts_fit t ≡ true → term_held t ≡ true → (path : List PathPart) → term_at path level (term_data t) ≡ Ok t

-- two operands, as the first of a form
both_again : (level : ℕ) (a b : Term) → level + (1 + max (depth a) (depth b)) ≤ 1 + DEEPEST_EXPR → (fronts_fit a && fronts_fit b) ≡ true
    → (term_held a && term_held b) ≡ true → Again (level + 1) a → Again (level + 1) b → (path : List PathPart)
    → both (term_at (in_item path 1) (level + 1) (term_data a)) (term_at (in_item path 2) (level + 1) (term_data b)) ≡ Ok (a, b)
both_again level a b d f h again_a again_b path =
    let fs = and_parts (fronts_fit a) (fronts_fit b) f in
    let hs = and_parts (term_held a) (term_held b) h in
    let ea = again_a (omega (arith, d)) fs.0 hs.0 (in_item path 1) in
    let eb = again_b (omega (arith, d)) fs.1 hs.1 (in_item path 2) in
    rw (ea, eb)

term_again : (level : ℕ) (t : Term) → Again level t
term_again level (Num z) d f h path = shallow path level (at_path path (option_map Num (as_i64 (of_integer z)))) (omega (arith, d))
    ∙ ap (λ (o : Option ℤ). at_path path (option_map Num o)) (integer_again z h)
term_again level (Text bytes) d f h path = shallow path level (at_path path (option_map Text (text_of bytes))) (omega (arith, d))
    ∙ ap (λ (o : Option (List ℕ)). at_path path (option_map Text o)) (text_again bytes h)
term_again level Me d f h path = form_read path level form.Me no_items (omega (arith, d))
term_again level (Named from n) d f h path = form_read path level (form.Named from) (item (index_data n) no_items) (omega (arith, d))
    ∙ ap (λ (o : Option ℕ). at_path path (option_map (Named from) o)) (index_again n h)
term_again level (Unary o a) d f h path =
    let e = term_again (level + 1) a (omega (arith, d)) f h (in_item path 1) in
    form_read path level (form.Unary o) (item (term_data a) no_items) (omega (arith, d)) ∙ rw e
term_again level (Binary o a b) d f h path =
    let e = both_again level a b d f h (term_again (level + 1) a) (term_again (level + 1) b) path in
    form_read path level (form.Binary o) (item (term_data a) (item (term_data b) no_items)) (omega (arith, d)) ∙ rw e
term_again level (MulDiv a b c) d f h path =
    let fs = and_parts (fronts_fit a && fronts_fit b) (fronts_fit c) f in
    let hs = and_parts (term_held a && term_held b) (term_held c) h in
    let e = both_again level a b (omega (arith, d)) fs.0 hs.0 (term_again (level + 1) a) (term_again (level + 1) b) path in
    let ec = term_again (level + 1) c (omega (arith, d)) fs.1 hs.1 (in_item path 3) in
    form_read path level form.MulDiv (item (term_data a) (item (term_data b) (item (term_data c) no_items))) (omega (arith, d)) ∙ rw (e, ec)
term_again level (Front a b n) d f h path =
    let few : n ≤ MOST_FRONT = grind (arith, common_steps, f) in
    let fs : (fronts_fit a && fronts_fit b) ≡ true = grind (arith, common_steps, f) in
    let e = both_again level a b d fs h (term_again (level + 1) a) (term_again (level + 1) b) path in
    let en = between_again 0 MOST_FRONT n (omega arith) few in
    form_read path level form.Front (item (term_data a) (item (term_data b) (item (index_data n) no_items))) (omega (arith, d)) ∙ rw (e, en)

-- one that lies in no other
pub whole_again : (path : List PathPart) (t : Term) → term_fits t ≡ true → term_held t ≡ true → term_at path 1 (term_data t) ≡ Ok t
whole_again path t f h =
    let fits = and_parts (nat_le (depth t) DEEPEST_EXPR) (fronts_fit t) f in
    let few : depth t ≤ DEEPEST_EXPR = grind (arith, common_steps, fits.0) in
    term_again 1 t (omega (arith, few)) fits.1 h path

pub terms_again : (path : List PathPart) (at : ℕ) (done ts : List Term) → list_all term_fits ts ≡ true → list_all term_held ts ≡ true
    → terms_after path at done (items_of (map term_data ts)) ≡ Ok (done ++ ts)
terms_again path at done [] f h = ap Ok (sym (append-nil done))
terms_again path at done (t ∷ ts) f h =
    let fits = and_parts (term_fits t) (list_all term_fits ts) f in
    let held = and_parts (term_held t) (list_all term_held ts) h in
    let e = whole_again (in_item path at) t fits.0 held.0 in
    let rest = terms_again path (at + 1) (done ++ t ∷ []) ts fits.1 held.1 in
    rw e (rest ∙ ap Ok (append_assoc done (t ∷ []) ts))
