-- What the first TIDs at keys say of a list of sets.
use Rattle.std.proofs.Common.{◌≡◌, ℕ, zero, suc, ◌+◌, ◌<◌, List, [], ◌∷◌, ◌++◌, map, take, drop, length, Bool, true, false, cond, Some, None, refl, sym, ap}
use Rattle.std.proofs.Common.{◌∙◌, arith}
use Rattle.std.specs.Prelude.{◌||◌, if◌then◌else◌, is_some, slice_index_or}
use Rattle.std.specs.List.{position_from}
use Rattle.std.specs.Ordering.{eq_by_cmp, is_eq}
use Rattle.std.specs.Cmp.{eq_by_cmp_equiv}
use Rattle.std.specs.BTreeMap.{is_at, get}
use Rattle.std.proofs.lemmas.Bool.{false≢true, true≢false}
use Rattle.aria_base.specs.Orders.{key_cmp, Cells}
use Rattle.aria_base.specs.declared.keys.Key.{Key}
use Rattle.aria_base.proofs.Orders.{key_cmp_total, key_cmp-IsAntisymmetric, derived_cmp, derived-is}
use Rattle.batch_rules.specs.Touches.{is_among}
use Rattle.batch_rules.specs.Verdicts.{meets, least}
use Rattle.batch_rules.proofs.Maps.{same_key}
use Rattle.std.proofs.lemmas.List.{map-append, append_assoc, take_more, drop_more, length-map, length-take-le}
use Rattle.node_rules.specs.Messages.{Sets, Holders}
use Rattle.node_rules.specs.Dues.{lesser, by_sets, holders_on}
use Rattle.node_rules.proofs.Parts.{lesser-or}
use Rattle.node_batch.specs.Firsts.{first_in, or_first, least_told, Knows, holders_behind}
use Rattle.node_batch.specs.Letters.{sets_of, holders_of}
use Rattle.node_batch.specs.declared.letters.Part.{Part}
use Rattle.node_batch.specs.declared.letters.Least.{Least}
use Rattle.node_batch.specs.declared.firsts.Firsts.{Firsts}

pub stays : (f : Firsts) (k : Key) (tid : ℕ) → is_some (first_in f k) ≡ true → (q : Key)
    → first_in f q ≡ or_first (first_in f q) (eq_by_cmp key_cmp q k) tid
stays f k tid some q = elim (first_in f q) as (λ r. first_in f q ≡ r → r ≡ or_first r (eq_by_cmp key_cmp q k) tid) [
  | Some t ↦ λ e. refl
  | None ↦ λ e. elim (eq_by_cmp key_cmp q k) as (λ b. eq_by_cmp key_cmp q k ≡ b → None ≡ (if b then Some tid else None)) [
    | true ↦ λ t. absurd (false≢true (sym (ap is_some e) ∙ ap (λ q. is_some (first_in f q)) (same_key key_cmp-IsAntisymmetric q k t) ∙ some))
    | false ↦ λ t. refl
  ] refl
] refl

pub notes : (f g : Firsts) (k : Key) (tid : ℕ) → is_some (first_in f k) ≡ false
    → ((q : Key) → get derived_cmp g.map q ≡ cond (is_at (derived_cmp k) q) (Some tid) (get derived_cmp f.map q)) → (q : Key)
    → first_in g q ≡ or_first (first_in f q) (eq_by_cmp key_cmp q k) tid
notes f g k tid none is q = is q
    ∙ ap (λ b. cond b (Some tid) (get derived_cmp f.map q)) (ap is_eq (derived-is k q) ∙ (eq_by_cmp_equiv key_cmp_total).symm k q)
    ∙ elim (eq_by_cmp key_cmp q k) as (λ b. eq_by_cmp key_cmp q k ≡ b → cond b (Some tid) (first_in f q) ≡ or_first (first_in f q) b tid) [
      | true ↦ λ t. elim (first_in f q) as (λ r. first_in f q ≡ r → Some tid ≡ or_first r true tid) [
        | Some u ↦ λ e. absurd (true≢false (sym (ap is_some e) ∙ ap (λ q. is_some (first_in f q)) (same_key key_cmp-IsAntisymmetric q k t) ∙ none))
        | None ↦ λ e. refl
      ] refl
      | false ↦ λ t. elim (first_in f q) as (λ r. r ≡ or_first r false tid) [ Some u ↦ refl | None ↦ refl ]
    ] refl

module _ (side : Sets Key Cells → List Key) (sets : List (Sets Key Cells)) (firsts : Firsts) (knows : Knows side sets firsts) where
  told_from : (p : Sets Key Cells → Bool) (ks : List Key)
      → least_told (first_in firsts) (least p sets) ks ≡ least (λ s. p s || meets key_cmp ks (side s)) sets
  told_from p [] = ap (λ f. least f sets) (λ i s. or_false (p s) i)
    where
      or_false : (b : Bool) → b ≡ (b || false)
      or_false true = refl
      or_false false = refl
  told_from p (k ∷ ks) =
      ap (λ r. least_told (first_in firsts) r ks) (ap (lesser (least p sets)) (knows k) ∙ lesser-or p (λ s. is_among key_cmp (side s) k) 1 sets)
      ∙ told_from (λ s. p s || is_among key_cmp (side s) k) ks
      ∙ ap (λ f. least f sets) (λ i s. or_assoc (p s) (is_among key_cmp (side s) k) (meets key_cmp ks (side s)) i)
    where
      or_assoc : (a b c : Bool) → ((a || b) || c) ≡ (a || (b || c))
      or_assoc true b c = refl
      or_assoc false b c = refl

  none_least : (xs : List (Sets Key Cells)) (i : ℕ) → position_from (λ s. false) i xs ≡ None
  none_least [] i = refl
  none_least (x ∷ xs) i = none_least xs (i + 1)

  -- the least at some keys is the least that meets them
  pub least_is : (ks : List Key) → least_told (first_in firsts) None ks ≡ least (λ s. meets key_cmp ks (side s)) sets
  least_is ks = ap (λ r. least_told (first_in firsts) r ks) (sym (none_least sets 1)) ∙ told_from (λ s. false) ks

-- one list of sets more
position_push : (p : Sets Key Cells → Bool) (i : ℕ) (xs : List (Sets Key Cells)) (x : Sets Key Cells)
    → position_from p i (xs ++ x ∷ []) ≡ or_first (position_from p i xs) (p x) (i + length xs)
position_push p i [] x = let e : i ≡ i + zero = omega arith in ap (λ n. cond (p x) (Some n) None) e
position_push p i (y ∷ ys) x = elim (p y) as
    (λ b. cond b (Some i) (position_from p (i + 1) (ys ++ x ∷ [])) ≡ or_first (cond b (Some i) (position_from p (i + 1) ys)) (p x) (i + suc (length ys))) [
      | true ↦ refl
      | false ↦ let e : i + 1 + length ys ≡ i + suc (length ys) = omega arith in position_push p (i + 1) ys x
          ∙ ap (or_first (position_from p (i + 1) ys) (p x)) e
    ]

pub knows_more : (side : Sets Key Cells → List Key) (sets more : List (Sets Key Cells)) (f g : Firsts) (s : Sets Key Cells) (tid : ℕ) → Knows side sets f
    → ((q : Key) → first_in g q ≡ or_first (first_in f q) (is_among key_cmp (side s) q) tid)
    → tid ≡ length sets + 1 → more ≡ sets ++ s ∷ [] → Knows side more g
knows_more side sets more f g s tid knows note count e = λ k.
    let at : tid ≡ 1 + length sets = omega arith in
    note k ∙ (λ i. or_first (knows k i) (is_among key_cmp (side s) k) (at i)) ∙ sym (position_push (λ s. is_among key_cmp (side s) k) 1 sets s)
    ∙ ap (least (λ s. is_among key_cmp (side s) k)) (sym e)

module _ (parts : List Part) (i : ℕ) (part : Part) (at : part ≡ slice_index_or parts i part) (lt : i < length parts) where
  pub taken : map sets_of (take (i + 1) parts) ≡ map sets_of (take i parts) ++ sets_of part ∷ []
  taken = ap (map sets_of) (take_more parts i part lt ∙ ap (λ p. take i parts ++ p ∷ []) (sym at)) ∙ map-append sets_of (take i parts) (part ∷ [])

  pub count : i + 1 ≡ length (map sets_of (take i parts)) + 1
  count = ap (λ n. n + 1) (sym (length-map (take i parts) sets_of ∙ length-take-le i parts (omega arith)))

  pub one_least : (out0 out1 : List Least) (l : Least) → out1 ≡ out0 ++ l ∷ []
      → holders_of l ≡ holders_on (by_sets key_cmp) (map sets_of (take i parts)) (sets_of part) → (all : List Holders)
      → map holders_of out0 ++ holders_behind (map sets_of (take i parts)) (map sets_of (drop i parts)) ≡ all
      → map holders_of out1 ++ holders_behind (map sets_of (take (i + 1) parts)) (map sets_of (drop (i + 1) parts)) ≡ all
  one_least out0 out1 l push is all so_far =
      let rest = map sets_of (drop (i + 1) parts) in
      let here : map sets_of (drop i parts) ≡ sets_of part ∷ rest =
      ap (map sets_of) (drop_more parts i part lt ∙ ap (λ p. p ∷ drop (i + 1) parts) (sym at)) in
      (λ j. (ap (map holders_of) push ∙ map-append holders_of out0 (l ∷ [])) j ++ holders_behind (taken j) rest)
      ∙ append_assoc (map holders_of out0) (holders_of l ∷ []) (holders_behind (map sets_of (take i parts) ++ sets_of part ∷ []) rest)
      ∙ ap (λ x. map holders_of out0 ++ (x ∷ holders_behind (map sets_of (take i parts) ++ sets_of part ∷ []) rest)) is
      ∙ ap (λ ss. map holders_of out0 ++ holders_behind (map sets_of (take i parts)) ss) (sym here)
      ∙ so_far

pub behind_long : (earlier ss : List (Sets Key Cells)) → length (holders_behind earlier ss) ≡ length ss
behind_long earlier [] = refl
behind_long earlier (s ∷ ss) = ap suc (behind_long (earlier ++ s ∷ []) ss)

pub as_many : (parts : List Part) (out : List Least) → map holders_of out ≡ holders_behind [] (map sets_of parts) → length out ≡ length parts
as_many parts out e = sym (length-map out holders_of) ∙ ap length e ∙ behind_long [] (map sets_of parts) ∙ length-map parts sets_of
