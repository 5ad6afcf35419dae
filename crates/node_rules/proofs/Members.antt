-- What is among the messages that are due.
use Rattle.std.proofs.Common.{◌≡◌, ℕ, zero, suc, ◌+◌, ◌-◌, ◌≤◌, ⊎_elim, List, [], ◌∷◌, ◌++◌, map, Bool, true, false, cond, Some, None, Option, refl, sym}
use Rattle.std.proofs.Common.{ap, ◌∙◌, subst, Ordering, arith, Contains}
use Rattle.std.specs.Prelude.{slice_get, ◌==◌, if◌then◌else◌, filter_map, flat_map}
use Rattle.std.specs.List.{filter, enumerate_from, cons_option}
use Rattle.std.proofs.lemmas.Bool.{eqb-true, eqb-false, eq-eqb}
use Rattle.std.proofs.lemmas.Option.{same_Some}
use Rattle.std.proofs.lemmas.List.Elements.{Contains-append_left, Contains-append_right}
use Rattle.node_rules.specs.Messages.{Message, pick}
use Rattle.node_rules.specs.Nets.{Net, owner, tids}
use Rattle.node_rules.specs.Dues.{Desk, own_requests, all_requests, run_due, told_due, has_marks, least_due, fate_due, due}
use Rattle.node_rules.proofs.Picks.{has_head, has_behind, has_cases}

cons_has : {Y : Type 0} (r : Option Y) (ys : List Y) (y : Y) → Contains ys y → Contains (cons_option r ys) y
cons_has None ys y c = c
cons_has (Some z) ys y c = has_behind z ys y c

module _ {X Y : Type 0} where
  pub flat_has : (f : X → List Y) (xs : List X) (x : X) (y : Y) → Contains xs x → Contains (f x) y → Contains (flat_map f xs) y
  flat_has f [] x y c d = absurd (let lt = c.1 in omega arith)
  flat_has f (z ∷ zs) x y c d = ⊎_elim
      (λ same. Contains-append_left (f z) (flat_map f zs) y (subst (λ x. Contains (f x) y) (sym same) d))
      (λ rest. Contains-append_right (f z) (flat_map f zs) y (flat_has f zs x y rest d))
      (has_cases z zs x c)

  pub mapped_has : (h : X → Option Y) (xs : List X) (x : X) (y : Y) → Contains xs x → h x ≡ Some y → Contains (filter_map h xs) y
  mapped_has h [] x y c e = absurd (let lt = c.1 in omega arith)
  mapped_has h (z ∷ zs) x y c e = ⊎_elim
      (λ same. subst (λ r. Contains (cons_option r (filter_map h zs)) y) (sym (ap h same ∙ e)) (has_head y (filter_map h zs)))
      (λ rest. cons_has (h z) (filter_map h zs) y (mapped_has h zs x y rest e))
      (has_cases z zs x c)

  -- what was picked stands in the list
  pub picked : (f : X → Option Y) (xs : List X) (y : Y) → pick f xs ≡ Some y → (x : X) × Contains xs x × (f x ≡ Some y)
  picked f [] y e = cc
  picked f (x ∷ xs) y e = elim (f x) as (λ r. f x ≡ r → (elim r [ None ↦ pick f xs | Some z ↦ Some z ]) ≡ Some y
      → (x' : X) × Contains (x ∷ xs) x' × (f x' ≡ Some y)) [
        | None ↦ λ t e. let rest = picked f xs y e in (rest.0, has_behind x xs rest.0 rest.1, rest.2)
        | Some z ↦ λ t e. (x, has_head x xs, t ∙ e)
      ] refl e

module _ {X : Type 0} where
  pub filter_has : (p : X → Bool) (xs : List X) (x : X) → Contains xs x → p x ≡ true → Contains (filter p xs) x
  filter_has p [] x c e = c
  filter_has p (z ∷ zs) x c e = ⊎_elim
      (λ same. subst (λ b. Contains (cond b (z ∷ filter p zs) (filter p zs)) x) (sym (ap p same ∙ e))
      (subst (λ y. Contains (z ∷ filter p zs) y) same (has_head z (filter p zs))))
      (λ rest. elim (p z) as (λ b. Contains (cond b (z ∷ filter p zs) (filter p zs)) x) [
        | true ↦
            has_behind z (filter p zs) x (filter_has p zs x rest e)
        | false ↦ filter_has p zs x rest e
      ])
      (has_cases z zs x c)

  pub enumerate_has : (i : ℕ) (xs : List X) (t : ℕ) (x : X) → i ≤ t → slice_get xs (t - i) ≡ Some x → Contains (enumerate_from i xs) (t, x)
  enumerate_has i [] t x low e = cc
  enumerate_has i (z ∷ zs) t x low e = elim (t == i) as (λ b. (t == i) ≡ b → Contains (enumerate_from i (z ∷ zs)) (t, x)) [
    | true ↦ λ b.
        let at : i ≡ t = sym (eqb-true t i b) in
        let here : t - i ≡ zero = omega arith in
        let same : Some z ≡ Some x = sym (ap (slice_get (z ∷ zs)) here) ∙ e in
        subst (λ p. Contains (enumerate_from i (z ∷ zs)) p) (λ j. (at j, same_Some z x same j)) (has_head (i, z) (enumerate_from (i + 1) zs))
    | false ↦ λ b.
        let off = eqb-false t i b in
        let at : t - i ≡ suc (t - (i + 1)) = omega arith in
        has_behind (i, z) (enumerate_from (i + 1) zs) (t, x) (enumerate_has (i + 1) zs t x (omega arith) (sym (ap (slice_get (z ∷ zs)) at) ∙ e))
  ] refl

module _ {K V Q A : Type 0} {R : K → K → Ordering} (net : Net R V Q A) (desk : Desk R V Q) where
  pub own_has : (tid : ℕ) (q : Q) → 1 ≤ tid → slice_get desk.list (tid - 1) ≡ Some q → owner net tid ≡ desk.node → Contains (own_requests net desk) (tid, q)
  own_has tid q low stands own = filter_has (λ e. owner net e.0 == desk.node) (all_requests net desk) (tid, q)
      (enumerate_has 1 desk.list tid q low stands) (eq-eqb _ _ own)

  abbrev pub runs : List (Message K V)
  runs = flat_map (run_due net desk) (own_requests net desk)

  abbrev pub tolds : List (Message K V)
  tolds = filter_map (told_due net desk) desk.given

  abbrev pub leasts : List (Message K V)
  leasts = if has_marks net desk then map (least_due net desk) (tids desk.list) else []

  abbrev pub fates : List (Message K V)
  fates = flat_map (fate_due net desk) (own_requests net desk)

  pub due_run : (m : Message K V) → Contains runs m → Contains (due net desk) m
  due_run m c = Contains-append_left (runs ++ tolds ++ leasts) fates m (Contains-append_left (runs ++ tolds) leasts m (Contains-append_left runs tolds m c))

  pub due_told : (m : Message K V) → Contains tolds m → Contains (due net desk) m
  due_told m c = Contains-append_left (runs ++ tolds ++ leasts) fates m
      (Contains-append_left (runs ++ tolds) leasts m (Contains-append_right runs tolds m c))

  pub due_least : (m : Message K V) → Contains leasts m → Contains (due net desk) m
  due_least m c = Contains-append_left (runs ++ tolds ++ leasts) fates m (Contains-append_right (runs ++ tolds) leasts m c)

  pub due_fate : (m : Message K V) → Contains fates m → Contains (due net desk) m
  due_fate m c = Contains-append_right (runs ++ tolds ++ leasts) fates m c
