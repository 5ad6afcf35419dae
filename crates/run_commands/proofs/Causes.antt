-- A stop for a fault: what was at fault since then was at fault since before.
use Rattle.std.proofs.Common.{◌≡◌, inl, inr, subst, refl, ℕ, ◌≤◌, Option, Some, None, IsSomeAnd, arith}
use Rattle.std.specs.Prelude.{Result, Ok, Err, IfErr}
use Rattle.aria_base.specs.Faults.{Rose}
use Rattle.aria_store.specs.Stands.{Kept}
use Rattle.script_course.specs.Causes.{IsCause, IsReadCause}
use Rattle.script_course.specs.declared.stops.Stop.{Stop}
use Rattle.script_course.specs.declared.stops.Stop.TheVariants as stop

rose_since : (a b c : ℕ) → a ≤ b → Rose b c → Rose a c
rose_since a b c before (inl h) = inl (omega (arith, before, h))
rose_since a b c before (inr h) = inr h

some_rose : (store : Option Kept) (b c : ℕ) → IsSomeAnd store (λ _. Rose b c) → Rose b c
some_rose None b c h = absurd h
some_rose (Some store) b c h = h

-- only with a store the disk is at fault
disk_since : (start now : Option Kept) → (start ≡ None → now ≡ None) → (a b c : ℕ) → a ≤ b → IsSomeAnd now (λ _. Rose b c) → IsSomeAnd start (λ _. Rose a c)
disk_since None now none a b c before h = absurd (subst (λ (k : Option Kept). IsSomeAnd k (λ _. Rose b c)) (none refl) h)
disk_since (Some store) now none a b c before h = rose_since a b c before (some_rose now b c h)

module _ (start now : Option Kept) (none : start ≡ None → now ≡ None) (a b c : ℕ) (sink : a ≤ b) (p q r : ℕ) (disk : p ≤ q) where
  pub cause_since : (s : Stop) → IsCause s (Rose b c) (IsSomeAnd now (λ _. Rose q r)) → IsCause s (Rose a c) (IsSomeAnd start (λ _. Rose p r))
  cause_since stop.Refused h = h
  cause_since stop.NoMemory h = h
  cause_since stop.NoWrite h = rose_since a b c sink h
  cause_since stop.NoDisk h = disk_since start now none p q r disk h
  cause_since stop.NoRead h = h

  pub read_since : (source : Type 0) (s : Stop) → IsCause s (Rose b c) (IsSomeAnd now (λ _. Rose q r))
      → IsReadCause s source (Rose a c) (IsSomeAnd start (λ _. Rose p r))
  read_since source stop.Refused h = h
  read_since source stop.NoMemory h = h
  read_since source stop.NoWrite h = rose_since a b c sink h
  read_since source stop.NoDisk h = disk_since start now none p q r disk h
  read_since source stop.NoRead h = absurd h

  pub reads_since : {A : Type 0} (source : Type 0) (result : Result A Stop) → IfErr result (λ s. IsCause s (Rose b c) (IsSomeAnd now (λ _. Rose q r)))
      → IfErr result (λ s. IsReadCause s source (Rose a c) (IsSomeAnd start (λ _. Rose p r)))
  reads_since source (Ok next) h = tt
  reads_since source (Err s) h = read_since source s h
