-- In an order each number stands once, so that each request ends as the serial run has it.
use Rattle.std.proofs.Common.{◌≡◌, ℕ, List, [], ◌∷◌, ◌++◌, map, Bool, true, false, cond, Option, Some, None, refl, ap, sym, ◌∙◌, ⊎_elim, ◌==◌, ◌||◌, eqb-true}
use Rattle.std.specs.Prelude.{is_some, not}
use Rattle.std.specs.List.{filter, list_any}
use Rattle.std.specs.Option.{option_or}
use Rattle.std.proofs.lemmas.Bool.{cases_Bool, eq-eqb}
use Rattle.aria_base.specs.Orders.{Cells, Database}
use Rattle.aria_base.specs.declared.keys.Key.{Key}
use Rattle.aria_base.specs.declared.calls.Request.{Request}
use Rattle.batch_core.specs.Serial.{is_named}
use Rattle.batch_rules.specs.Serials.{serial_ends}
use Rattle.batch_rules.specs.Touches.{map_after}
use Rattle.batch_rules.specs.Trees.{Tree, end_of}
use Rattle.proc_lang.specs.declared.ends.End.{End}
use Rattle.proc_lang.specs.Meaning.{is_done}
use Rattle.serial_check.specs.Runs.{end_in}
use Rattle.serial_check.specs.Serial.{AreApart, numbers}

-- none of these has the number
abbrev Lacks : ℕ → List Request → Type 0
Lacks q [] = Unit {0}
Lacks q (r ∷ rs) = ((r.q == q) ≡ false) × Lacks q rs

longer : (named : List Request) (r : Request) (q : ℕ) → list_any (λ n. n == q) (numbers named) ≡ true
    → list_any (λ n. n == q) (numbers (named ++ r ∷ [])) ≡ true
longer [] r q h = cc
longer (x ∷ xs) r q h = elim (x.q == q) as (λ b. (b || list_any (λ n. n == q) (numbers xs)) ≡ true
    → (b || list_any (λ n. n == q) (numbers (xs ++ r ∷ []))) ≡ true) [ true ↦ λ k. refl | false ↦ λ k. longer xs r q k ] h

-- what is apart from those named so far lacks the number of each
lacks_named : (named more : List Request) (q : ℕ) → list_any (λ n. n == q) (numbers named) ≡ true → AreApart named more → Lacks q more
lacks_named named [] q h apart = tt
lacks_named named (r ∷ rs) q h apart =
    let here : (r.q == q) ≡ false = ⊎_elim
    (λ (e : (r.q == q) ≡ true). let same : r.q ≡ q = eqb-true r.q q e in
    let clash : true ≡ false = sym h ∙ ap (λ q. list_any (λ n. n == q) (numbers named)) (sym same) ∙ apart.0 in cc)
    (λ (ne : (r.q == q) ≡ false). ne)
    (cases_Bool (r.q == q)) in
    (here, lacks_named (named ++ r ∷ []) rs q (longer named r q h) apart.1)

last_named : (named : List Request) (r : Request) → list_any (λ n. n == r.q) (numbers (named ++ r ∷ [])) ≡ true
last_named [] r = ap (λ b. b || false) (eq-eqb r.q r.q refl)
last_named (x ∷ xs) r = elim (x.q == r.q) as (λ b. (b || list_any (λ n. n == r.q) (numbers (xs ++ r ∷ []))) ≡ true) [ true ↦ refl | false ↦ last_named xs r ]

module _ (tree : Request → Tree Key Cells End) where
  no_end : (db : Database) (rs : List Request) (q : ℕ) → Lacks q rs → end_in tree db rs q ≡ None
  no_end db [] q h = refl
  no_end db (r ∷ rs) q h =
      ap (λ o. option_or o (cond (r.q == q) (Some (end_of (tree r) db)) None)) (no_end (map_after is_done (tree r) db) rs q h.1)
      ∙ ap (λ b. cond b (Some (end_of (tree r) db)) None) h.0

  still : (f g : Request → Option End) (rs : List Request) (es : List End) → map f rs ≡ map Some es → map (λ r. option_or (f r) (g r)) rs ≡ map Some es
  still f g [] es h = h
  still f g (r ∷ rs) [] h = cc
  still f g (r ∷ rs) (e ∷ es) h =
      let first : f r ≡ Some e = cc in
      let rest : map f rs ≡ map Some es = cc in
      ap (λ o. option_or o (g r) ∷ map (λ r. option_or (f r) (g r)) rs) first ∙ ap (λ os. Some e ∷ os) (still f g rs es rest)

  pub ends_told : (named : List Request) (db : Database) (rs : List Request) → AreApart named rs
      → map (λ r. end_in tree db rs r.q) rs ≡ map Some (serial_ends is_done tree db rs)
  ends_told named db [] apart = refl
  ends_told named db (r ∷ rs) apart =
      let after = map_after is_done (tree r) db in
      let end = end_of (tree r) db in
      let none : end_in tree after rs r.q ≡ None = no_end after rs r.q (lacks_named (named ++ r ∷ []) rs r.q (last_named named r) apart.1) in
      let rest = ends_told (named ++ r ∷ []) after rs apart.1 in
      let head : end_in tree db (r ∷ rs) r.q ≡ Some end
      = ap (λ o. option_or o (cond (r.q == r.q) (Some end) None)) none ∙ ap (λ b. cond b (Some end) None) (eq-eqb r.q r.q refl) in
      ap (λ o. o ∷ map (λ s. end_in tree db (r ∷ rs) s.q) rs) head
      ∙ ap (λ os. Some end ∷ os)
      (still (λ s. end_in tree after rs s.q) (λ s. cond (r.q == s.q) (Some end) None) rs (serial_ends is_done tree after rs) rest)

  either : (o : Option End) (b : Bool) (e : End) → is_some (option_or o (cond b (Some e) None)) ≡ (b || is_some o)
  either None true e = refl
  either None false e = refl
  either (Some x) true e = refl
  either (Some x) false e = refl

  -- who has an end there is named
  pub named_end : (db : Database) (rs : List Request) (q : ℕ) → is_some (end_in tree db rs q) ≡ list_any (λ n. n == q) (numbers rs)
  named_end db [] q = refl
  named_end db (r ∷ rs) q =
      either (end_in tree (map_after is_done (tree r) db) rs q) (r.q == q) (end_of (tree r) db)
      ∙ ap (λ b. (r.q == q) || b) (named_end (map_after is_done (tree r) db) rs q)

  pub not_ended : (db : Database) (order list : List Request)
      → filter (λ r. not (is_some (end_in tree db order r.q))) list ≡ filter (λ r. not (is_named (numbers order) r)) list
  not_ended db order [] = refl
  not_ended db order (r ∷ rs) =
      ap (λ b. cond (not b) (r ∷ filter (λ r. not (is_some (end_in tree db order r.q))) rs) (filter (λ r. not (is_some (end_in tree db order r.q))) rs))
      (named_end db order r.q)
      ∙ ap (λ more. cond (not (is_named (numbers order) r)) (r ∷ more) more) (not_ended db order rs)
