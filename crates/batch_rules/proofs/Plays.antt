-- The run step by step comes to what the definitions say of the whole run.
use Rattle.std.proofs.Common.{◌≡◌, true, false, Some, None, refl, Ordering}
use Rattle.std.specs.Prelude.{if◌then◌else◌, MatchOption}
use Rattle.std.specs.FinMap as fin
use Rattle.batch_rules.specs.Trees.{Tree, Ends, Reads, Writes, set_at, trace_of, end_of, left_by}
use Rattle.batch_rules.specs.Touches.{all_noted, Declared, may_read, may_write, outside}
use Rattle.batch_rules.specs.Plays.{Seen, Finishes, Strays, after_read, after_write, play, PlaysWithin}

module _ {K V A : Type 0} {R : K → K → Ordering} where
  pub play-is : (t : Tree K V A) (seen : Seen R V) → play None t seen ≡ record {
    end = Finishes (end_of t seen.map);
    seen =
        record { map = left_by t seen.map; noted = all_noted R seen.noted (trace_of t seen.map) };
  }
  play-is (Ends a) seen = refl
  play-is (Reads k next) seen = play-is (next (fin.get seen.map k)) (after_read seen k)
  play-is (Writes k row next) seen = play-is next (after_write seen k row)

  pub play_within-is : (declared : Declared K) (t : Tree K V A) (seen : Seen R V) → PlaysWithin declared t seen
  play_within-is declared (Ends a) seen = refl
  play_within-is declared (Reads k next) seen =
      elim (may_read R declared k) as (λ b. MatchOption (if b then outside R declared (trace_of (next (fin.get seen.map k)) seen.map) else Some k)
      ((if b then play (Some declared) (next (fin.get seen.map k)) (after_read seen k) else record { end = Strays k; seen = seen }) ≡ play None
      (next (fin.get seen.map k)) (after_read seen k))
      (λ q. (if b then play (Some declared) (next (fin.get seen.map k)) (after_read seen k) else record { end = Strays k; seen = seen }).end ≡ Strays q)) [
        | true ↦ play_within-is declared (next (fin.get seen.map k)) (after_read seen k)
        | false ↦ refl
      ]
  play_within-is declared (Writes k row next) seen =
      elim (may_write R declared k) as (λ b. MatchOption (if b then outside R declared (trace_of next (set_at seen.map k row)) else Some k)
      ((if b then play (Some declared) next (after_write seen k row) else record { end = Strays k; seen = seen }) ≡ play None next (after_write seen k row))
      (λ q. (if b then play (Some declared) next (after_write seen k row) else record { end = Strays k; seen = seen }).end ≡ Strays q)) [
        | true ↦ play_within-is declared next (after_write seen k row)
        | false ↦ refl
      ]
