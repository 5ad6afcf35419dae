-- The waves by the numbers of keys are those by the keys.
use Rattle.std.proofs.Common.{◌≡◌, ◌≤◌, ℕ, suc, List, [], ◌∷◌, map, length, Bool, true, refl, sym, ap, ◌∙◌, Ordering, arith}
use Rattle.std.proofs.lemmas.List.{length-map}
use Rattle.aria_base.specs.declared.limits.TheConstants.{MOST_REQUESTS}
use Rattle.std.specs.Prelude.{max, if◌then◌else◌, ◌||◌}
use Rattle.std.specs.List.{All, list_any}
use Rattle.std.specs.Ordering.{nat_cmp}
use Rattle.std.proofs.lemmas.List.Elements.{All-nil, All-cons, All-head, All-tail}
use Rattle.aria_base.specs.Orders.{key_cmp}
use Rattle.aria_base.specs.declared.keys.Key.{Key}
use Rattle.batch_rules.specs.Numberings.{IsOneToOneOn, HasKeysOf}
use Rattle.batch_rules.specs.Touches.{Declared, is_among, may_read, may_write}
use Rattle.batch_rules.proofs.Numberings.{among_numbers}
use Rattle.batch_rules.specs.Waves.{Waved, conflicts, wave_behind, waved}
use Rattle.dep_rules.specs.Sheets.{Sheet}
use Rattle.proc_exec.specs.Limits.{touchable}
use Rattle.proc_exec.specs.declared.outcomes.Waiting.{Waiting}
use Rattle.fallback_locks.specs.Numbers.{numbers_at, numbers_in, waves_by, StandFor}
use Rattle.fallback_locks.specs.Reruns.{waves_of}

-- ---- waves go by the conflicts alone

module _ {K L W Z : Type 0} (R : K → K → Ordering) (S : L → L → Ordering) (declared_of : W → Declared K) (also : Z → Declared L)
    (f : W → Z) (Good : W → Type 0)
    (same : (x y : W) → Good x → Good y → conflicts S (also (f x)) (also (f y)) ≡ conflicts R (declared_of x) (declared_of y)) where
  abbrev carried : Waved W → Waved Z
  carried e = record { wave = e.wave; item = f e.item }

  behind_same : (es : List (Waved W)) (w : W) → All (λ e. Good e.item) es → Good w
      → wave_behind S also (map carried es) (f w) ≡ wave_behind R declared_of es w
  behind_same [] w goods good = refl
  behind_same (e ∷ es) w goods good =
      let here = same e.item w (All-head (λ e. Good e.item) e es goods) good in
      let rest = behind_same es w (All-tail (λ e. Good e.item) e es goods) good in
      λ i. if here i then max (suc e.wave) (rest i) else rest i

  pub waved_same : (es : List (Waved W)) (ws : List W) → All (λ e. Good e.item) es → All Good ws
      → map (λ e. e.wave) (waved S also (map carried es) (map f ws)) ≡ map (λ e. e.wave) (waved R declared_of es ws)
  waved_same es [] goods all = refl
  waved_same es (w ∷ ws) goods all =
      let good = All-head Good w ws all in
      let here = behind_same es w goods good in
      let wave = wave_behind R declared_of es w in
      let rest = waved_same (record { wave = wave; item = w } ∷ es) ws (All-cons (λ e. Good e.item) _ es good goods) (All-tail Good w ws all) in
      ap (λ n. n ∷ map (λ e. e.wave) (waved S also (record { wave = n; item = f w } ∷ map carried es) (map f ws))) here ∙ ap (λ l. wave ∷ l) rest

-- ---- numbers conflict where their keys do

module _ {K : Type 0} (R : K → K → Ordering) (keys : List K) (number : K → ℕ) (one : IsOneToOneOn R keys number) where
  abbrev Has : K → Type 0
  Has k = is_among R keys k ≡ true

  any_numbers : (test : ℕ → Bool) (also : K → Bool) → ((k : K) → Has k → test (number k) ≡ also k) → (xs : List K) → All Has xs
      → list_any test (map number xs) ≡ list_any also xs
  any_numbers test also same [] all = refl
  any_numbers test also same (x ∷ xs) all =
      let here = same x (All-head Has x xs all) in
      let rest = any_numbers test also same xs (All-tail Has x xs all) in
      λ i. here i || rest i

  abbrev numbered : Declared K → Declared ℕ
  numbered d = record { reads = map number d.reads; writes = map number d.writes }

  pub conflicts_numbers : (a b : Declared K) → All Has a.reads → All Has a.writes → All Has b.reads → All Has b.writes
      → conflicts nat_cmp (numbered a) (numbered b) ≡ conflicts R a b
  conflicts_numbers a b ar aw br bw =
      let reads = any_numbers (may_write nat_cmp (numbered a)) (may_write R a) (λ k has. among_numbers R keys number one a.writes k has aw) b.reads br in
      let writes = any_numbers (may_read nat_cmp (numbered a)) (may_read R a)
      (λ k has i. among_numbers R keys number one a.reads k has ar i || among_numbers R keys number one a.writes k has aw i) b.writes bw in
      λ i. reads i || writes i

-- ---- and so the waves are the same

-- all keys that the request declares are among these
abbrev Within : List Key → Waiting → Type 0
Within keys w = All (λ k. is_among key_cmp keys k ≡ true) w.declared.reads × All (λ k. is_among key_cmp keys k ≡ true) w.declared.writes

both_within : (keys : List Key) (waiting : List Waiting) → HasKeysOf key_cmp keys (λ w. w.declared.reads) waiting
    → HasKeysOf key_cmp keys (λ w. w.declared.writes) waiting → All (Within keys) waiting
both_within keys waiting reads writes = λ k d below. (reads k d below, writes k d below)

of_any : {X : Type 0} (xs : List X) → All (λ x. Unit) xs
of_any xs = λ k d below. tt

pub waves_same : (sheet : Sheet) (tids : List ℕ) (waiting : List Waiting) → StandFor sheet tids waiting → waves_by sheet tids ≡ waves_of waiting
waves_same sheet tids waiting s =
    sym (waved_same nat_cmp nat_cmp (numbers_at sheet) (λ d. d) (numbers_at sheet) (λ tid. Unit) (λ x y a b. refl) [] tids (of_any []) (of_any tids))
    ∙ ap (λ ds. map (λ e. e.wave) (waved nat_cmp (λ d. d) [] ds)) s.lists
    ∙ waved_same key_cmp nat_cmp (λ w. touchable w.declared) (λ d. d) (numbers_in s.number) (Within s.keys)
    (λ x y a b. conflicts_numbers key_cmp s.keys s.number s.one_to_one (touchable x.declared) (touchable y.declared) a.0 a.1 b.0 b.1)
    [] waiting (All-nil (λ e. Within s.keys e.item)) (both_within s.keys waiting s.reads_among s.writes_among)

pub few_tids : (sheet : Sheet) (tids : List ℕ) (waiting : List Waiting) → StandFor sheet tids waiting → length waiting ≤ MOST_REQUESTS
    → length tids ≤ MOST_REQUESTS
few_tids sheet tids waiting s few =
    let same : length tids ≡ length waiting = sym (length-map tids (numbers_at sheet)) ∙ ap length s.lists ∙ length-map waiting (numbers_in s.number) in
    omega (arith, same, few)
