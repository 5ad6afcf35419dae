-- Lists whose items in one place belong together.
use Rattle.std.proofs.Common.{◌≡◌, ◌∙◌, sym, ap, subst, ℕ, ◌<◌, List, [], ◌∷◌, ◌++◌, map, Some, length, get_or, refl, arith, suc}
use Rattle.std.proofs.lemmas.List.{length-map, map-append}
use Rattle.std.proofs.Math.ListN.{get_or-map}
use Rattle.std.specs.declared.result.Result.{Result}
use Rattle.std.specs.declared.result.Result.TheVariants.{Ok}
use Rattle.std.specs.Result.{IfOk}
use Rattle.std.specs.List.{All, AllZip}
use Rattle.std.proofs.lemmas.List.Elements.{All-nil, All-cons, All-head, All-tail, All-pop}

module _ {A B : Type 0} (P : A → B → Type 0) where
  -- from what is known of each place
  pub zip_places : (xs : List A) (ys : List B) → length ys ≡ length xs
      → ((i : ℕ) (d : A) (e : B) → i < length xs → P (get_or xs i d) (get_or ys i e)) → AllZip P xs ys
  zip_places [] [] len each = tt
  zip_places [] (y ∷ ys) len each = absurd (omega arith)
  zip_places (x ∷ xs) [] len each = absurd (omega arith)
  zip_places (x ∷ xs) (y ∷ ys) len each = (each 0 x y (omega arith), zip_places xs ys (omega arith) (λ i d e h. each (suc i) d e (omega arith)))

  -- what each pair says of its second part, or of its first
  pub all_second : {Q : A → Type 0} {R : B → Type 0} → ((x : A) (y : B) → P x y → Q x → R y) → (xs : List A) (ys : List B) → AllZip P xs ys → All Q xs
      → All R ys
  all_second {Q} {R} f [] [] z all = All-nil R
  all_second {Q} {R} f [] (y ∷ ys) z all = elim z [ ]
  all_second {Q} {R} f (x ∷ xs) [] z all = elim z [ ]
  all_second {Q} {R} f (x ∷ xs) (y ∷ ys) z all = All-cons R y ys (f x y z.0 (All-head Q x xs all)) (all_second f xs ys z.1 (All-tail Q x xs all))

  pub all_first : {Q R : A → Type 0} → ((x : A) (y : B) → P x y → Q x → R x) → (xs : List A) (ys : List B) → AllZip P xs ys → All Q xs → All R xs
  all_first {Q} {R} f [] [] z all = All-nil R
  all_first {Q} {R} f [] (y ∷ ys) z all = elim z [ ]
  all_first {Q} {R} f (x ∷ xs) [] z all = elim z [ ]
  all_first {Q} {R} f (x ∷ xs) (y ∷ ys) z all = All-cons R x xs (f x y z.0 (All-head Q x xs all)) (all_first f xs ys z.1 (All-tail Q x xs all))

  pub zip_lengths : (xs : List A) (ys : List B) → AllZip P xs ys → length ys ≡ length xs
  zip_lengths [] [] z = refl
  zip_lengths [] (y ∷ ys) z = elim z [ ]
  zip_lengths (x ∷ xs) [] z = elim z [ ]
  zip_lengths (x ∷ xs) (y ∷ ys) z = let rest = zip_lengths xs ys z.1 in omega (arith, rest)

-- where each first part tells something of its second, and all of them tell the same, so does what is one of those
module _ {E R A : Type 0} (P : E → R → Type 0) (of : E → A) (part : R → A) (says : (x : E) (y : R) → P x y → part y ≡ of x) where
  pub one_of_all : (xs : List E) (ys : List R) (found : A) → AllZip P xs ys → ((k : ℕ) (d : E) → k < length xs → All (λ x. of x ≡ of (get_or xs k d)) xs)
      → ((one : A) → All (λ y. part y ≡ one) ys → found ≡ one) → All (λ x. found ≡ of x) xs
  one_of_all xs ys found z alike is k d h =
      is (of (get_or xs k d)) (all_second P {Q = λ x. of x ≡ of (get_or xs k d)} {R = λ y. part y ≡ of (get_or xs k d)} (λ x y p e. says x y p ∙ e) xs ys z
      (alike k d h))

  pub holds_of_all : (Q : A → E → Type 0) → ((x : E) (y : R) → P x y → Q (part y) x) → (xs : List E) (ys : List R) (found : A) → AllZip P xs ys
      → All (λ x. found ≡ of x) xs → All (Q found) xs
  holds_of_all Q holds xs ys found z same =
      all_first P {Q = λ x. found ≡ of x} {R = Q found} (λ x y p e. subst (λ (a : A). Q a x) (says x y p ∙ sym e) (holds x y p)) xs ys z same

pub ap_two : {X Y Z : Type 0} (f : X → Y → Z) (x u : X) (y v : Y) → x ≡ u → y ≡ v → f x y ≡ f u v
ap_two {X} f x u y v p q = ap (λ (w : X). f w y) p ∙ ap (f u) q

-- of results, none of which is an error
pub zip_results : {A B E : Type 0} (P : A → B → Type 0) (xs : List A) (ys : List B) (rs : List (Result B E)) → map Ok ys ≡ rs → length rs ≡ length xs
    → ((i : ℕ) (d : A) (e : Result B E) → i < length xs → IfOk (get_or rs i e) (P (get_or xs i d))) → AllZip P xs ys
zip_results {A} {B} {E} P xs ys rs are len each = zip_places P xs ys (sym (length-map ys Ok) ∙ ap length are ∙ len)
    (λ i d e h. subst (λ (r : Result B E). IfOk r (P (get_or xs i d))) (ap (λ (l : List (Result B E)). get_or l i (Ok e)) (sym are) ∙ get_or-map Ok ys i e)
    (each i d (Ok e) h))

-- of the second parts, or the first ones, that are made of other items
pub zip_map : {A B C : Type 0} (P : A → B → Type 0) (Q : A → C → Type 0) (f : B → C) → ((x : A) (y : B) → P x y → Q x (f y)) → (xs : List A) (ys : List B)
    → AllZip P xs ys → AllZip Q xs (map f ys)
zip_map P Q f g [] [] z = tt
zip_map P Q f g [] (y ∷ ys) z = elim z [ ]
zip_map P Q f g (x ∷ xs) [] z = elim z [ ]
zip_map P Q f g (x ∷ xs) (y ∷ ys) z = (g x y z.0, zip_map P Q f g xs ys z.1)

pub zip_unmap : {A B C : Type 0} (P : C → B → Type 0) (f : A → C) (xs : List A) (ys : List B) → AllZip P (map f xs) ys → AllZip (λ x y. P (f x) y) xs ys
zip_unmap P f [] [] z = tt
zip_unmap P f [] (y ∷ ys) z = elim z [ ]
zip_unmap P f (x ∷ xs) [] z = elim z [ ]
zip_unmap P f (x ∷ xs) (y ∷ ys) z = (z.0, zip_unmap P f xs ys z.1)

-- with one item more at the end
pub map_behind : {A B : Type 0} (f : A → B) (zs xs : List A) (x : A) → zs ≡ xs ++ x ∷ [] → map f zs ≡ map f xs ++ f x ∷ []
map_behind f zs xs x e = ap (map f) e ∙ map-append f xs (x ∷ [])

pub last_of_all : {A : Type 0} (P : A → Type 0) (zs xs : List A) (x : A) → zs ≡ xs ++ x ∷ [] → All P zs → P x
last_of_all P zs xs x e all = (All-pop P zs xs (Some x) e all).1
