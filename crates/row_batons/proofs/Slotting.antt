-- Keys that requests may write have slots, each its own.
use Rattle.std.proofs.Common.{◌≡◌, ◌≢◌, ℕ, zero, suc, ◌+◌, ◌<◌, ◌≤◌, ⊎_elim, inl, inr, Bool, true, false, Option, Some, None, List, [], ◌∷◌, ◌++◌, map, length, get_or, refl, sym, ap, subst, ◌∙◌, arith, All, length-set, get_or-set_same, get_or-set_other, drop, drop-cons}
use Rattle.std.specs.Prelude.{◌⊎◌, ◌||◌, unwrap_or, replicate}
use Rattle.std.specs.Cmp.{unsigned_tied}
use Rattle.std.specs.Ordering.{eq_by_cmp}
use Rattle.std.proofs.lemmas.Bool.{cases_eq, eq-eqb, true≢false}
use Rattle.std.proofs.lemmas.List.Elements.{All-nil, All-cons, All-head, All-tail}
use mathlib.Core.Option.{some, some-injective, some-ne-none}
use lib.ListN.{get_elem?}
use Rattle.atomic_table.proofs.Lists.{at_last, at_longer}
use Rattle.aria_base.proofs.Orders.{key_cmp-IsAntisymmetric}
use Rattle.aria_base.specs.Orders.{key_cmp}
use Rattle.aria_base.specs.declared.keys.Key.{Key}
use Rattle.batch_rules.specs.Numberings.{IsOneToOneOn, HasKeysOf}
use Rattle.batch_rules.specs.Touches.{is_among}
use Rattle.batch_rules.proofs.Maps.{same_key}
use Rattle.dep_rules.specs.Sheets.{AllBelow}
use Rattle.proc_exec.specs.declared.outcomes.Waiting.{Waiting}
use Rattle.std.proofs.lemmas.List.{get_or_default}
use Rattle.std.proofs.lemmas.Option.{none-some}
use Rattle.row_batons.specs.Layouts.{AreAsMany, Slotted, slot_in, with_slot, with_slot_by, with_slots, all_with_slots}

some_same : (m n : ℕ) → Some m ≡ Some n → m ≡ n
some_same m n e = ap (λ o. unwrap_or o 0) e

-- what stands at a place of a list with one item more
at_snoc : (keys : List Key) (key : Key) (j : ℕ) (q : Key) → get_elem? (keys ++ key ∷ []) j ≡ some q
    → (get_elem? keys j ≡ some q) ⊎ ((key ≡ q) × (j ≡ length keys))
at_snoc [] key zero q at = inr (some-injective key q at, refl)
at_snoc [] key (suc j) q at = absurd (some-ne-none q (sym at))
at_snoc (k ∷ keys) key zero q at = inl at
at_snoc (k ∷ keys) key (suc j) q at = ⊎_elim (λ a. inl a) (λ b. inr (b.0, ap suc b.1)) (at_snoc keys key j q at)

-- what holds of all numbers of keys holds of the number of each
pub all_at : (P : ℕ → Type 0) (number : Key → ℕ) (ks : List Key) → All P (map number ks) → (q : Key) → is_among key_cmp ks q ≡ true → P (number q)
all_at P number [] all q among = absurd (true≢false (sym among))
all_at P number (k ∷ ks) all q among = elim (eq_by_cmp key_cmp q k) as (λ b. eq_by_cmp key_cmp q k ≡ b → (b || is_among key_cmp ks q) ≡ true → P (number q)) [
  | true ↦ λ same _. subst (λ p. P (number p)) (sym (same_key key_cmp-IsAntisymmetric q k same)) (All-head P (number k) (map number ks) all)
  | false ↦ λ _ rest. all_at P number ks (All-tail P (number k) (map number ks) all) q rest
] refl among

abbrev pub HasSlot : Slotted → ℕ → Type 0
HasSlot s n = (k : ℕ) × (slot_in s.table n ≡ Some k)

abbrev pub Stays : Slotted → Slotted → Type 0
Stays s s' = (n k : ℕ) → slot_in s.table n ≡ Some k → slot_in s'.table n ≡ Some k

module _ (keys : List Key) (number : Key → ℕ) (one : IsOneToOneOn key_cmp keys number) where
  abbrev pub Known : Key → Type 0
  Known q = is_among key_cmp keys q ≡ true

  -- two known keys with one number are the same
  pub same_of : (p q : Key) → Known p → Known q → number p ≡ number q → p ≡ q
  same_of p q has_p has_q same =
      same_key key_cmp-IsAntisymmetric p q (sym (one p q has_p has_q) ∙ unsigned_tied (number p) (number q) ∙ eq-eqb (number p) (number q) same)

  -- the keys of the slots are known, and the table tells the slot of each
  pub record Tells (s : Slotted) : Type 0 where
    pub among : (k : ℕ) (q : Key) → get_elem? s.keys k ≡ some q → Known q
    pub at : (k : ℕ) (q : Key) → get_elem? s.keys k ≡ some q → slot_in s.table (number q) ≡ Some k
    pub there : (n k : ℕ) → slot_in s.table n ≡ Some k → (q : Key) × (get_elem? s.keys k ≡ some q) × (number q ≡ n)

  pub record IsStep (s s' : Slotted) (numbers : List ℕ) : Type 0 where
    pub tells : Tells s'
    pub same : length s'.table ≡ length s.table
    pub stays : Stays s s'
    pub have : All (HasSlot s') numbers

  module _ (s : Slotted) (key : Key) (tells : Tells s) (known : Known key) (lt : number key < length s.table) (none : slot_in s.table (number key) ≡ None) where
    abbrev more : Slotted
    more = with_slot_by None s key (number key)

    here : slot_in more.table (number key) ≡ Some (length s.keys)
    here = get_or-set_same s.table (number key) (Some (length s.keys)) None lt

    else : (n : ℕ) → n ≢ number key → slot_in more.table n ≡ slot_in s.table n
    else n ne = get_or-set_other s.table (number key) n (Some (length s.keys)) None ne

    kept : Stays s more
    kept n k at = else n (λ same. none-some k (sym none ∙ ap (slot_in s.table) (sym same) ∙ at)) ∙ at

    one_more : IsStep s more (number key ∷ [])
    one_more = record {
      tells = record {
        among = λ k q at. ⊎_elim (λ a. tells.among k q a) (λ b. subst Known b.0 known) (at_snoc s.keys key k q at);
        at = λ k q at. ⊎_elim
            (λ a. kept (number q) k (tells.at k q a))
            (λ b. ap (λ p. slot_in more.table (number p)) (sym b.0) ∙ here ∙ ap Some (sym b.1))
            (at_snoc s.keys key k q at);
        there = λ n k at. ⊎_elim
            (λ (same : n ≡ number key).
            let last : length s.keys ≡ k = some_same (length s.keys) k (sym here ∙ ap (slot_in more.table) (sym same) ∙ at) in
            (key, at_last s.keys key k last, sym same))
            (λ ne. let old = tells.there n k (sym (else n ne) ∙ at) in (old.0, at_longer s.keys (key ∷ []) k old.0 old.1, old.2))
            (cases_eq n (number key));
      };
      same = length-set s.table (number key) (Some (length s.keys));
      stays = kept;
      have = All-cons (HasSlot more) (number key) [] (length s.keys, here) (All-nil (HasSlot more));
    }

  one_step : (s : Slotted) (key : Key) → Tells s → Known key → number key < length s.table → IsStep s (with_slot s key (number key)) (number key ∷ [])
  one_step s key tells known lt = elim (slot_in s.table (number key)) as (λ o. slot_in s.table (number key) ≡ o
      → IsStep s (with_slot_by o s key (number key)) (number key ∷ [])) [
        | None ↦ λ none. one_more s key tells known lt none
        | Some k ↦ λ at. record { tells = tells; same = refl; stays = λ n j is. is; have = All-cons (HasSlot s) (number key) [] (k, at) (All-nil (HasSlot s)) }
      ] refl

  abbrev AllLess : ℕ → List ℕ → Type 0
  AllLess m numbers = All (λ n. n < m) numbers

  steps : (ks : List Key) (s : Slotted) → Tells s → All Known ks → AllLess (length s.table) (map number ks)
      → IsStep s (with_slots s ks (map number ks)) (map number ks)
  steps [] s tells known below = record { tells = tells; same = refl; stays = λ n k at. at; have = All-nil (HasSlot s) }
  steps (key ∷ ks) s tells known below =
      let first = one_step s key tells (All-head Known key ks known) (All-head (λ n. n < length s.table) (number key) (map number ks) below) in
      let s1 = with_slot s key (number key) in
      let rest = steps ks s1 first.tells (All-tail Known key ks known)
      (subst (λ m. AllLess m (map number ks)) (sym first.same) (All-tail (λ n. n < length s.table) (number key) (map number ks) below)) in
      let end = with_slots s1 ks (map number ks) in
      let has = All-head (HasSlot s1) (number key) [] first.have in
      record {
        tells = rest.tells;
        same = rest.same ∙ first.same;
        stays = λ n k at. rest.stays n k (first.stays n k at);
        have = All-cons (HasSlot end) (number key) (map number ks) (has.0, rest.stays (number key) has.0 has.1) rest.have;
      }

  abbrev numbers_of : Waiting → List ℕ
  numbers_of w = map number w.declared.writes

  pub record AreSteps (s s' : Slotted) (ws : List Waiting) : Type 0 where
    pub tells : Tells s'
    pub stays : Stays s s'
    pub have : All (λ w. All (HasSlot s') (numbers_of w)) ws

  pub all_steps : (ws : List Waiting) (s : Slotted) → Tells s → HasKeysOf key_cmp keys (λ w. w.declared.writes) ws
      → AllBelow (length s.table) (map numbers_of ws)
      → AreSteps s (all_with_slots s ws (map numbers_of ws)) ws
  all_steps [] s tells known below = record { tells = tells; stays = λ n k at. at; have = All-nil (λ w. All (HasSlot s) (numbers_of w)) }
  all_steps (w ∷ ws) s tells known below =
      let first = steps w.declared.writes s tells (All-head (λ (v : Waiting). All Known v.declared.writes) w ws known)
      (All-head (AllLess (length s.table)) (numbers_of w) (map numbers_of ws) below) in
      let s1 = with_slots s w.declared.writes (numbers_of w) in
      let rest = all_steps ws s1 first.tells (All-tail (λ (v : Waiting). All Known v.declared.writes) w ws known)
      (subst (λ m. AllBelow m (map numbers_of ws)) (sym first.same) (All-tail (AllLess (length s.table)) (numbers_of w) (map numbers_of ws) below)) in
      let end = all_with_slots s1 ws (map numbers_of ws) in
      record {
        tells = rest.tells;
        stays = λ n k at. rest.stays n k (first.stays n k at);
        have = All-cons (λ v. All (HasSlot end) (numbers_of v)) w ws
            (λ i d lt. let has = first.have i d lt in (has.0, rest.stays (get_or (numbers_of w) i d) has.0 has.1)) rest.have;
      }

  -- where none has a slot, that is told too
  pub none_tells : (count : ℕ) → Tells (record { table = replicate count None; keys = [] })
  none_tells count = record {
    among = λ k q at. absurd (some-ne-none q (sym at));
    at = λ k q at. absurd (some-ne-none q (sym at));
    there = λ n k at. absurd (none-some k (sym (all_none count n) ∙ at));
  }
    where
      all_none : (count n : ℕ) → slot_in (replicate count None) n ≡ None
      all_none zero n = refl
      all_none (suc count) zero = refl
      all_none (suc count) (suc n) = all_none count n

-- ---- steps of the code

-- what a table has at a number, whatever stands where there is nothing
pub table_at : (table : List (Option ℕ)) (n : ℕ) (found : Option ℕ) → n < length table → found ≡ get_or table n found → slot_in table n ≡ found
table_at table n found lt is = get_or_default table n None found lt ∙ sym is

pub same_length : (s : Slotted) (key : Key) (n : ℕ) → length (with_slot s key n).table ≡ length s.table
same_length s key n = elim (slot_in s.table n) as (λ o. length (with_slot_by o s key n).table ≡ length s.table) [
  | None ↦ length-set s.table n (Some (length s.keys))
  | Some k ↦ refl
]

pub all_same_length : (s : Slotted) (keys : List Key) (numbers : List ℕ) → length (with_slots s keys numbers).table ≡ length s.table
all_same_length s [] numbers = refl
all_same_length s (key ∷ keys) [] = refl
all_same_length s (key ∷ keys) (n ∷ numbers) = all_same_length (with_slot s key n) keys numbers ∙ same_length s key n

pub every_same_length : (s : Slotted) (ws : List Waiting) (lists : List (List ℕ)) → length (all_with_slots s ws lists).table ≡ length s.table
every_same_length s [] lists = refl
every_same_length s (w ∷ ws) [] = refl
every_same_length s (w ∷ ws) (list ∷ lists) = every_same_length (with_slots s w.declared.writes list) ws lists ∙ all_same_length s w.declared.writes list

-- one key more
pub one_slot : (s s' : Slotted) (keys : List Key) (numbers : List ℕ) (i j : ℕ) (key : Key) (n : ℕ) (end : Slotted) → i < length keys
    → length numbers ≡ length keys → j ≡ i → key ≡ get_or keys i key → n ≡ get_or numbers j 0
    → s' ≡ with_slot s key n → with_slots s (drop i keys) (drop i numbers) ≡ end → with_slots s' (drop (i + 1) keys) (drop (i + 1) numbers) ≡ end
one_slot s s' keys numbers i j key n end lt same here at is step before =
    let e : suc i ≡ i + 1 = omega arith in
    let cut : drop i keys ≡ key ∷ drop (i + 1) keys = drop-cons keys i key lt ∙ (λ p. sym at p ∷ drop (e p) keys) in
    let cut_numbers : drop i numbers ≡ n ∷ drop (i + 1) numbers = drop-cons numbers i 0 (omega arith)
    ∙ (λ p. (sym (is ∙ ap (λ (k : ℕ). get_or numbers k 0) here)) p ∷ drop (e p) numbers) in
    ap (λ z. with_slots z (drop (i + 1) keys) (drop (i + 1) numbers)) step
    ∙ sym (λ p. with_slots s (cut p) (cut_numbers p))
    ∙ before

-- one request more
pub one_request : (s s' : Slotted) (ws : List Waiting) (lists : List (List ℕ)) (i j : ℕ) (w : Waiting) (list : List ℕ) (end : Slotted) → i < length ws
    → AreAsMany lists ws → j ≡ i → w ≡ get_or ws i w → list ≡ get_or lists j []
    → s' ≡ with_slots s w.declared.writes list → all_with_slots s (drop i ws) (drop i lists) ≡ end
    → all_with_slots s' (drop (i + 1) ws) (drop (i + 1) lists) ≡ end
one_request s s' ws lists i j w list end lt many here at is step before =
    let e : suc i ≡ i + 1 = omega arith in
    let each = many.each in
    let cut : drop i ws ≡ w ∷ drop (i + 1) ws = drop-cons ws i w lt ∙ (λ p. sym at p ∷ drop (e p) ws) in
    let cut_lists : drop i lists ≡ list ∷ drop (i + 1) lists = drop-cons lists i [] (omega arith)
    ∙ (λ p. (sym (is ∙ ap (λ (k : ℕ). get_or lists k []) here)) p ∷ drop (e p) lists) in
    ap (λ z. all_with_slots z (drop (i + 1) ws) (drop (i + 1) lists)) step
    ∙ sym (λ p. all_with_slots s (cut p) (cut_lists p))
    ∙ before

-- a request's list has a number for each key, all of them below the count
pub many_there : (ws : List Waiting) (lists : List (List ℕ)) (i j : ℕ) (w : Waiting) (list : List ℕ) → i < length ws → AreAsMany lists ws → j ≡ i
    → w ≡ get_or ws i w → list ≡ get_or lists j [] → length list ≡ length w.declared.writes
many_there ws lists i j w list lt many here at is =
    ap length (is ∙ ap (λ (k : ℕ). get_or lists k []) here) ∙ many.many i w lt ∙ ap (λ (v : Waiting). length v.declared.writes) (sym at)

pub list_there : (lists : List (List ℕ)) (count m j : ℕ) (list : List ℕ) → j < length lists → list ≡ get_or lists j [] → AllBelow count lists → m ≡ count
    → All (λ n. n < m) list
list_there lists count m j list lt is all same = subst (λ (k : ℕ). All (λ n. n < k) list) (sym same)
    (subst (λ l. All (λ n. n < count) l) (sym is) (all j [] lt))
