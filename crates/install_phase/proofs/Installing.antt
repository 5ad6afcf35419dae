-- Writes that are made shard by shard leave, at each key, what they leave in the whole map.
use Rattle.std.proofs.Common.{◌≡◌, refl, sym, ap, subst, ◌∙◌, ◌≢◌, ℕ, ◌<◌, List, [], ◌∷◌, ◌++◌, ◌+◌, map, reverse, flat_map, length, get_or, true, false, cond, Bool, Option, nat_eq, ◌||◌, append_assoc}
use Rattle.std.specs.Prelude.{if◌then◌else◌}
use Rattle.std.specs.Ordering.{eq_by_cmp}
use Rattle.std.specs.FinMap as fin
use Rattle.std.proofs.lemmas.Bool.{eqb-false, eqb-true, eq-eqb}
use Rattle.std.proofs.lemmas.List.{length-map, reverse-append}
use Rattle.std.proofs.lemmas.List.{get_or-map as get_or-map_within}
use Rattle.std.proofs.lemmas.List.Elements.{filter-append}
use Rattle.std.proofs.lemmas.List.Folds.{list_any-append}
use Rattle.std.proofs.Math.Bool.{or-true}
use Rattle.aria_base.specs.Orders.{key_cmp, Cells, Database}
use Rattle.aria_base.specs.declared.keys.Key.{Key}
use Rattle.aria_base.proofs.Orders.{key_cmp_total, key_cmp-IsAntisymmetric}
use Rattle.batch_rules.specs.Trees.{set_at}
use Rattle.batch_rules.specs.Touches.{overwritten, installed}
use Rattle.batch_rules.proofs.Maps.{get-set_at, same_key}
use Rattle.batch_rules.specs.Verdicts.{finishes}
use Rattle.batch_rules.specs.declared.verdicts.Verdict.{Verdict}
use Rattle.batch_rules.specs.declared.verdicts.Verdict.TheVariants.{Finish, Wait}
use Rattle.batch_rules.specs.Batches.{Judged, decided, finishing}
use Rattle.proc_exec.specs.declared.outcomes.Outcome.{Outcome}
use Rattle.tbl_rows.specs.Shards.{Piece, home, bare, at_home, IsWhole, AllNumbered}
use Rattle.tbl_rows.specs.declared.homes.TheConstants.{SHARDS}
use Rattle.tbl_rows.proofs.Together.{home-below}
use Rattle.install_phase.specs.Writes.{Written, at_shard, at_shards, is_one, applied, finished}
use Rattle.install_phase.specs.Installs.{after_finishing, after_changes, written}

-- ---- writes, one after the other

pub applied-append : (rows : Database) (xs ys : Written) → applied rows (xs ++ ys) ≡ applied (applied rows xs) ys
applied-append rows [] ys = refl
applied-append rows (x ∷ xs) ys = applied-append (set_at rows x.0 x.1) xs ys

applied-reverse : (rows : Database) (writes : Written) → applied rows (reverse writes) ≡ overwritten rows writes
applied-reverse rows [] = refl
applied-reverse rows (w ∷ ws) =
    ap (applied rows) (reverse-append (w ∷ []) ws) ∙ applied-append rows (reverse ws) (w ∷ []) ∙ ap (λ m. set_at m w.0 w.1) (applied-reverse rows ws)

applied-installed : (rows : Database) (ones : List (Judged Written))
    → applied rows (flat_map (λ one. reverse one.request) ones) ≡ installed (λ one. one.request) rows ones
applied-installed rows [] = refl
applied-installed rows (one ∷ ones) =
    applied-append rows (reverse one.request) (flat_map (λ o. reverse o.request) ones)
    ∙ ap (λ m. applied m (flat_map (λ o. reverse o.request) ones)) (applied-reverse rows one.request)
    ∙ applied-installed (overwritten rows one.request) ones

-- the writes alone tell what the outcomes do
pub same_changes : (tid : ℕ) (rows : Database) (outcomes : List Outcome) (verdicts : List Verdict)
    → after_changes tid rows (map (λ o. o.writes) outcomes) verdicts ≡ after_finishing tid rows outcomes verdicts
same_changes tid rows [] verdicts = refl
same_changes tid rows (outcome ∷ outcomes) [] = refl
same_changes tid rows (outcome ∷ outcomes) (Finish raw ∷ verdicts) = same_changes (tid + 1) (overwritten rows outcome.writes) outcomes verdicts
same_changes tid rows (outcome ∷ outcomes) (Wait cause ∷ verdicts) = same_changes (tid + 1) rows outcomes verdicts

-- ---- requests, one after the other

-- the first request of those that are still to be installed
pub first_put : (tid : ℕ) (rows new : Database) (changes : Written) (later list : List Written) (verdict : Verdict) (behind verdicts : List Verdict)
    → list ≡ changes ∷ later → verdicts ≡ verdict ∷ behind → new ≡ (if finishes verdict then overwritten rows changes else rows)
    → after_changes (tid + 1) new later behind ≡ after_changes tid rows list verdicts
first_put tid rows new changes later list verdict behind verdicts e f n =
    ap (λ m. after_changes (tid + 1) m later behind) n ∙ here verdict
    ∙ sym (ap (λ os. after_changes tid rows os verdicts) e ∙ ap (after_changes tid rows (changes ∷ later)) f)
  where
    here : (v : Verdict)
        → after_changes (tid + 1) (if finishes v then overwritten rows changes else rows) later behind ≡ after_changes tid rows (changes ∷ later) (v ∷ behind)
    here (Finish raw) = refl
    here (Wait cause) = refl

-- without a verdict no request finishes
pub none_put : (tid : ℕ) (rows : Database) (list : List Written) → after_changes tid rows list [] ≡ rows
none_put tid rows [] = refl
none_put tid rows (changes ∷ list) = refl

-- ---- shard by shard

-- a test that fails, as a Bool
unequal : (a b : ℕ) → (a ≡ b → ⊥) → nat_eq a b ≡ false
unequal a b apart = elim (nat_eq a b) as (λ t. nat_eq a b ≡ t → t ≡ false) [ true ↦ λ e. absurd (apart (eqb-true a b e)) | false ↦ λ e. refl ] refl

-- one write to a key of the shard, and one to a key of another
pub own_made : (write : Key × Option Cells) (piece : Piece) → home write.0 ≡ piece.number
    → record { number = piece.number; rows = set_at piece.rows write.0 write.1 } ≡ finished (write ∷ []) piece
own_made write piece own =
    ap (λ t. record { number = piece.number; rows = applied piece.rows (cond t (write ∷ []) []) }) (sym (eq-eqb (home write.0) piece.number own))

pub other_kept : (write : Key × Option Cells) (piece : Piece) → (home write.0 ≡ piece.number → ⊥) → piece ≡ finished (write ∷ []) piece
other_kept write piece apart =
    ap (λ t. record { number = piece.number; rows = applied piece.rows (cond t (write ∷ []) []) }) (sym (unequal (home write.0) piece.number apart))

-- some writes, and then others
pub finished_more : (some more : Written) (piece : Piece) → finished more (finished some piece) ≡ finished (some ++ more) piece
finished_more some more piece =
    ap (λ rows. record { number = piece.number; rows = rows })
    (sym (applied-append piece.rows (at_shard piece.number some) (at_shard piece.number more))
    ∙ ap (applied piece.rows) (sym (filter-append (λ write. nat_eq (home write.0) piece.number) some more)))

-- other shards hold other keys
other_key : (q key : Key) → home q ≢ home key → eq_by_cmp key_cmp q key ≡ false
other_key q key apart = elim (eq_by_cmp key_cmp q key) as (λ b. eq_by_cmp key_cmp q key ≡ b → b ≡ false) [
  | true ↦ λ e. absurd (apart (ap home (same_key key_cmp-IsAntisymmetric q key e)))
  | false ↦ λ e. refl
] refl

-- of the writes those to the key's shard alone matter to it
get-at_shard : (writes : Written) (rows all : Database) (q : Key) → fin.get rows q ≡ fin.get all q
    → fin.get (applied rows (at_shard (home q) writes)) q ≡ fin.get (applied all writes) q
get-at_shard [] rows all q e = e
get-at_shard (w ∷ ws) rows all q e =
    elim (nat_eq (home w.0) (home q)) as (λ t. nat_eq (home w.0) (home q) ≡ t
    → fin.get (applied rows (cond t (w ∷ at_shard (home q) ws) (at_shard (home q) ws))) q ≡ fin.get (applied (set_at all w.0 w.1) ws) q) [
      | true ↦ λ here. get-at_shard ws (set_at rows w.0 w.1) (set_at all w.0 w.1) q
          (get-set_at key_cmp_total rows w.0 w.1 q ∙ ap (cond (eq_by_cmp key_cmp q w.0) w.1) e ∙ sym (get-set_at key_cmp_total all w.0 w.1 q))
      | false ↦ λ other. get-at_shard ws rows (set_at all w.0 w.1) q
          (e ∙ sym (get-set_at key_cmp_total all w.0 w.1 q ∙ ap (λ b. cond b w.1 (fin.get all q))
          (other_key q w.0 (λ same. eqb-false (home w.0) (home q) other (sym same)))))
    ] refl

-- for a shard the writes to keys of some shards, it among them, tell as much as all writes
one_of : (front rest : List Piece) (piece : Piece) → is_one (front ++ piece ∷ rest) piece.number ≡ true
one_of front rest piece =
    let same : nat_eq piece.number piece.number ≡ true = eq-eqb piece.number piece.number refl in
    list_any-append (λ (p : Piece). nat_eq p.number piece.number) front (piece ∷ rest)
    ∙ ap (λ t. is_one front piece.number || (t || is_one rest piece.number)) same ∙ or-true (is_one front piece.number)

own_shard : (pieces : List Piece) (number : ℕ) (writes : Written) → is_one pieces number ≡ true → at_shard number (at_shards pieces writes) ≡ at_shard number writes
own_shard pieces number [] one = refl
own_shard pieces number (w ∷ ws) one =
    elim (nat_eq (home w.0) number) as (λ t. nat_eq (home w.0) number ≡ t
    → at_shard number (cond (is_one pieces (home w.0)) (w ∷ at_shards pieces ws) (at_shards pieces ws)) ≡ cond t (w ∷ at_shard number ws) (at_shard number ws)) [
      | true ↦ λ e.
          let here : is_one pieces (home w.0) ≡ true = ap (is_one pieces) (eqb-true (home w.0) number e) ∙ one in
          ap (λ t. at_shard number (cond t (w ∷ at_shards pieces ws) (at_shards pieces ws))) here
          ∙ ap (λ t. cond t (w ∷ at_shard number (at_shards pieces ws)) (at_shard number (at_shards pieces ws))) e
          ∙ ap (λ list. w ∷ list) (own_shard pieces number ws one)
      | false ↦ λ e. passed (is_one pieces (home w.0)) e ∙ own_shard pieces number ws one
    ] refl
  where
    passed : (t : Bool) → nat_eq (home w.0) number ≡ false
        → at_shard number (cond t (w ∷ at_shards pieces ws) (at_shards pieces ws)) ≡ at_shard number (at_shards pieces ws)
    passed true e = ap (λ s. cond s (w ∷ at_shard number (at_shards pieces ws)) (at_shard number (at_shards pieces ws))) e
    passed false e = refl

own_some : (pieces front rest : List Piece) (writes : Written) → pieces ≡ front ++ rest
    → map (finished (at_shards pieces writes)) rest ≡ map (finished writes) rest
own_some pieces front [] writes e = refl
own_some pieces front (piece ∷ rest) writes e =
    let one : is_one pieces piece.number ≡ true = ap (λ ps. is_one ps piece.number) e ∙ one_of front rest piece in
    let first : finished (at_shards pieces writes) piece ≡ finished writes piece = ap (λ ws. record { number = piece.number; rows = applied piece.rows ws })
    (own_shard pieces piece.number writes one) in
    ap (λ p. p ∷ map (finished (at_shards pieces writes)) rest) first
    ∙ ap (λ ps. finished writes piece ∷ ps) (own_some pieces (front ++ piece ∷ []) rest writes (e ∙ sym (append_assoc front (piece ∷ []) rest)))

pub own_enough : (pieces : List Piece) (writes : Written) → map (finished (at_shards pieces writes)) pieces ≡ map (finished writes) pieces
own_enough pieces writes = own_some pieces [] pieces writes refl

module _ (pieces after : List Piece) (writes : Written) (whole : IsWhole pieces) (made : after ≡ map (finished writes) pieces) where
  pub count_after : length after ≡ SHARDS
  count_after = ap length made ∙ length-map pieces (finished writes) ∙ whole.count

  pub numbered_after : AllNumbered after
  numbered_after = subst AllNumbered (sym made) (λ i d lt.
      let within : i < length pieces = rw (← length-map pieces (finished writes)) lt in
      ap (λ (piece : Piece). piece.number) (get_or-map_within (finished writes) pieces i (bare 0) d within) ∙ whole.numbered i (bare 0) within)

  home_after : (start : Database) → ((q : Key) → at_home pieces q ≡ fin.get start q) → (q : Key) → at_home after q ≡ fin.get (applied start writes) q
  home_after start each q =
      let own = get_or pieces (home q) (bare 0) in
      let within : home q < length pieces = subst (λ n. home q < n) (sym whole.count) (home-below q) in
      ap (λ ps. at_home ps q) made ∙ ap (λ (piece : Piece). fin.get piece.rows q) (get_or-map_within (finished writes) pieces (home q) (bare 0) (bare 0) within)
      ∙ ap (λ n. fin.get (applied own.rows (at_shard n writes)) q) (whole.numbered (home q) (bare 0) within)
      ∙ get-at_shard writes own.rows start q (each q)

  pub together : (tables start : Database) (tid : ℕ) (list : List Written) (verdicts : List Verdict) → writes ≡ written tid list verdicts
      → ((q : Key) → at_home pieces q ≡ fin.get start q) → ((q : Key) → fin.get tables q ≡ at_home after q) → tables ≡ after_changes tid start list verdicts
  together tables start tid list verdicts are_written split gathered =
      fin.same_map key_cmp_total key_cmp-IsAntisymmetric tables (applied start writes) (λ q. gathered q ∙ home_after start split q)
      ∙ ap (applied start) are_written ∙ applied-installed start (finishing (decided tid list verdicts))
