-- A request run on the rows that were told so far: it asks for the next key of its run, or it ends as on the whole database.
use Rattle.std.proofs.Common.{◌≡◌, List, [], ◌∷◌, Bool, true, false, cond, map, Some, None, Option, refl, sym, ap, ◌∙◌, Ordering}
use Rattle.std.specs.Prelude.{if◌then◌else◌, ◌||◌}
use Rattle.std.specs.List.{All}
use Rattle.std.specs.Option.{unwrap_or}
use Rattle.std.specs.Ordering.{eq_by_cmp, is_eq}
use Rattle.std.specs.Cmp.{IsTotalOrder, tied_itself}
use Rattle.std.specs.FinMap as fin
use Rattle.std.specs.FinMap.{FinMap, IsAntisymmetric, find}
use Rattle.std.proofs.lemmas.Bool.{or_left, or_right}
use Rattle.std.proofs.lemmas.List.Elements.{All-head, All-tail}
use Rattle.batch_rules.specs.Trees.{Tree, Visit, Read, Write, trace_of, end_of}
use Rattle.batch_rules.specs.Touches.{is_among, keys_of, may_read, may_write, outside, overwritten, reads_of, writes_of, all_noted, nothing}
use Rattle.batch_rules.specs.Laws.{SameRun, AgreeWithin}
use Rattle.batch_rules.proofs.Agree.{strays, outside-is}
use Rattle.batch_rules.proofs.Maps.{get-overwritten, same_key}
use Rattle.node_rules.specs.Dues.{both}
use Rattle.node_rules.specs.Truths.{visited}

or_same : (b : Bool) → (b || b) ≡ true → b ≡ true
or_same true e = refl
or_same false e = e

module _ {K V : Type 0} {R : K → K → Ordering} (o : IsTotalOrder R) (anti : IsAntisymmetric R) (db : FinMap R V) where
  -- the row is the database's
  abbrev pub IsRow : K × Option V → Type 0
  IsRow w = w.1 ≡ fin.get db w.0

  -- the rows that were told, as a database
  abbrev pub rows_of : List (K × Option V) → FinMap R V
  rows_of ws = overwritten fin.empty ws

  found_row : (ws : List (K × Option V)) (k : K) → All IsRow ws → is_among R (keys_of ws) k ≡ true → (row : Option V)
      → unwrap_or (find R k ws) row ≡ fin.get db k
  found_row [] k a e row = cc
  found_row (w ∷ ws) k a e row = elim (eq_by_cmp R k w.0) as (λ b. eq_by_cmp R k w.0 ≡ b → (b || is_among R (keys_of ws) k) ≡ true
      → unwrap_or (cond b (Some w.1) (find R k ws)) row ≡ fin.get db k) [
        | true ↦ λ t e. All-head IsRow w ws a ∙ ap (fin.get db) (sym (same_key anti k w.0 t))
        | false ↦ λ t e. found_row ws k (All-tail IsRow w ws a) e row
      ] refl e

  agree : (ws : List (K × Option V)) → All IsRow ws → AgreeWithin (both (keys_of ws)) (rows_of ws) db
  agree ws a k e = get-overwritten o fin.empty ws k ∙ found_row ws k a (or_same _ e) (fin.get fin.empty k)

  module _ {A : Type 0} (is_done : A → Bool) (t : Tree K V A) (ws : List (K × Option V)) (a : All IsRow ws) where
    -- the next key is that of the run on the database
    pub same_wanted : outside R (both (keys_of ws)) (trace_of t (rows_of ws)) ≡ outside R (both (keys_of ws)) (trace_of t db)
    same_wanted = strays o t (both (keys_of ws)) (rows_of ws) db (agree ws a)

    run : outside R (both (keys_of ws)) (trace_of t db) ≡ None → SameRun is_done t (rows_of ws) db
    run inside = (outside-is o anti is_done t (both (keys_of ws)) (rows_of ws) db (same_wanted ∙ inside) (agree ws a)).0

    -- where it was told all, it reads, writes and ends as on the database
    pub same_reads : outside R (both (keys_of ws)) (trace_of t db) ≡ None → reads_of t (rows_of ws) ≡ reads_of t db
    same_reads inside = ap (λ visits. (all_noted R nothing visits).reads) (run inside).trace

    pub same_writes : outside R (both (keys_of ws)) (trace_of t db) ≡ None → writes_of is_done t (rows_of ws) ≡ writes_of is_done t db
    same_writes inside = (run inside).writes

    pub same_end : outside R (both (keys_of ws)) (trace_of t db) ≡ None → end_of t (rows_of ws) ≡ end_of t db
    same_end inside = (run inside).end

itself : {K : Type 0} {R : K → K → Ordering} → IsTotalOrder R → (k : K) → eq_by_cmp R k k ≡ true
itself o k = ap is_eq (tied_itself o k)

module _ {K V : Type 0} {R : K → K → Ordering} (o : IsTotalOrder R) where
  -- the next key is one that the run touches, and it was not told
  pub wanted_touched : (keys : List K) (visits : List (Visit K V)) (k : K) → outside R (both keys) visits ≡ Some k
      → is_among R (map visited visits) k ≡ true
  wanted_touched keys [] k e = cc
  wanted_touched keys (Read q ∷ visits) k e =
      elim (may_read R (both keys) q) as (λ b. (if b then outside R (both keys) visits else Some q) ≡ Some k
      → (eq_by_cmp R k q || is_among R (map visited visits) k) ≡ true) [
        | true ↦ λ e. or_right _ _ (wanted_touched keys visits k e)
        | false ↦ λ e. let same : q ≡ k = cc in or_left _ _ (ap (eq_by_cmp R k) same ∙ itself o k)
      ] e
  wanted_touched keys (Write q row ∷ visits) k e =
      elim (may_write R (both keys) q) as (λ b. (if b then outside R (both keys) visits else Some q) ≡ Some k
      → (eq_by_cmp R k q || is_among R (map visited visits) k) ≡ true) [
        | true ↦ λ e. or_right _ _ (wanted_touched keys visits k e)
        | false ↦ λ e. let same : q ≡ k = cc in or_left _ _ (ap (eq_by_cmp R k) same ∙ itself o k)
      ] e

  pub wanted_new : (keys : List K) (visits : List (Visit K V)) (k : K) → outside R (both keys) visits ≡ Some k → is_among R keys k ≡ false
  wanted_new keys [] k e = cc
  wanted_new keys (Read q ∷ visits) k e =
      elim (is_among R keys q) as (λ b. is_among R keys q ≡ b → (if b || b then outside R (both keys) visits else Some q) ≡ Some k
      → is_among R keys k ≡ false) [
        | true ↦ λ t e. wanted_new keys visits k e
        | false ↦ λ t e. let same : q ≡ k = cc in ap (is_among R keys) (sym same) ∙ t
      ] refl e
  wanted_new keys (Write q row ∷ visits) k e =
      elim (is_among R keys q) as (λ b. is_among R keys q ≡ b → (if b then outside R (both keys) visits else Some q) ≡ Some k → is_among R keys k ≡ false) [
        | true ↦ λ t e. wanted_new keys visits k e
        | false ↦ λ t e. let same : q ≡ k = cc in ap (is_among R keys) (sym same) ∙ t
      ] refl e

  -- what was told of a run that needs no more is still enough with more
  pub enough_more : (keys more : List K) (visits : List (Visit K V)) → ((k : K) → is_among R keys k ≡ true → is_among R more k ≡ true)
      → outside R (both keys) visits ≡ None → outside R (both more) visits ≡ None
  enough_more keys more [] h e = refl
  enough_more keys more (Read q ∷ visits) h e =
      elim (is_among R keys q) as (λ b. is_among R keys q ≡ b → (if b || b then outside R (both keys) visits else Some q) ≡ None
      → (if is_among R more q || is_among R more q then outside R (both more) visits else Some q) ≡ None) [
        | true ↦ λ t e. ap (λ b. if b || b then outside R (both more) visits else Some q) (h q t) ∙ enough_more keys more visits h e
        | false ↦ λ t e. cc
      ] refl e
  enough_more keys more (Write q row ∷ visits) h e =
      elim (is_among R keys q) as (λ b. is_among R keys q ≡ b → (if b then outside R (both keys) visits else Some q) ≡ None
      → (if is_among R more q then outside R (both more) visits else Some q) ≡ None) [
        | true ↦ λ t e. ap (λ b. if b then outside R (both more) visits else Some q) (h q t) ∙ enough_more keys more visits h e
        | false ↦ λ t e. cc
      ] refl e
