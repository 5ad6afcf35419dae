-- A batch that was served, as a part of a script.
use Rattle.std.proofs.Common.{◌≡◌, ◌≢◌, sym, subst, refl, ℕ, List, Option, Some, None, IsSomeAnd}
use Rattle.std.specs.Prelude.{Err}
use Rattle.std.specs.Io.KnownBytes.{Appends}
use Rattle.aria_base.specs.Streams.{AppendsFront}
use Rattle.aria_store.specs.Stands.{Kept}
use Rattle.script_course.specs.Causes.{IsCause}
use Rattle.script_course.specs.Courses.{Goes}
use Rattle.script_course.specs.Served.{Serves}
use Rattle.script_course.specs.declared.stops.Stop.{Stop}
use Rattle.serving.specs.Deliveries.{IfTold, IsDeliveryCause, Tells}
use Rattle.serving.specs.declared.batches.Delivery.{Delivery}
use Rattle.serving.specs.declared.batches.Delivery.TheVariants as delivery
use Rattle.serving.specs.declared.lives.Live.{Live}
use Rattle.run_commands.specs.Stops.{IsStopFor}

same_live : (a b : Live) → Some a ≡ Some b → a ≡ b
same_live a b e = cc

module _ (text : List ℕ) (goes_on : Live → Type 0) (old new : Option (List ℕ)) where
  pub told_all : (r : Option Live × Delivery) (live : Live) → r.0 ≡ Some live → Tells text goes_on old new r → Appends old new text × goes_on live
  told_all (Some first, delivery.Told) live e h = (h.0, subst goes_on (same_live first live e) h.1)
  told_all (Some first, delivery.NoMemory) live e h = absurd h
  told_all (Some first, delivery.NoWrite) live e h = absurd h
  told_all (Some first, delivery.NoDisk) live e h = absurd h
  told_all (None, why) live e h = absurd cc

  pub not_told : (r : Option Live × Delivery) → r.0 ≡ None → Tells text goes_on old new r → r.1 ≢ delivery.Told
  not_told (Some first, why) e h = absurd cc
  not_told (None, delivery.Told) e h = absurd h
  not_told (None, delivery.NoMemory) e h = λ k. absurd cc
  not_told (None, delivery.NoWrite) e h = λ k. absurd cc
  not_told (None, delivery.NoDisk) e h = λ k. absurd cc

  pub cut_serves : {R : Type 0} (next : R) (r : Option Live × Delivery) (s : Stop) → r.0 ≡ None → Tells text goes_on old new r → IsStopFor r.1 s
      → Serves (Goes text next) old new (Err s)
  cut_serves next (Some first, why) s e h k = absurd cc
  cut_serves next (None, delivery.Told) s e h k = absurd h
  cut_serves next (None, delivery.NoMemory) s e h k = subst (λ (x : Stop). Serves (Goes text next) old new (Err x)) (sym k) h
  cut_serves next (None, delivery.NoWrite) s e h k = subst (λ (x : Stop). Serves (Goes text next) old new (Err x)) (sym k) h
  cut_serves next (None, delivery.NoDisk) s e h k = subst (λ (x : Stop). Serves (Goes text next) old new (Err x)) (sym k) h

  pub told_is : (r : Option Live × Delivery) (live : Live) → r.0 ≡ Some live → Tells text goes_on old new r → r.1 ≡ delivery.Told
  told_is (Some first, delivery.Told) live e h = refl
  told_is (Some first, delivery.NoMemory) live e h = absurd h
  told_is (Some first, delivery.NoWrite) live e h = absurd h
  told_is (Some first, delivery.NoDisk) live e h = absurd h
  told_is (None, why) live e h = absurd cc

  pub cut_front : (r : Option Live × Delivery) → r.0 ≡ None → Tells text goes_on old new r → AppendsFront old new text
  cut_front (Some first, why) e h = absurd cc
  cut_front (None, delivery.Told) e h = absurd h
  cut_front (None, delivery.NoMemory) e h = h
  cut_front (None, delivery.NoWrite) e h = h
  cut_front (None, delivery.NoDisk) e h = h

  pub if_told : (P : Live → Type 0) (r : Option Live × Delivery) (live : Live) → r.0 ≡ Some live → Tells text goes_on old new r → IfTold r P → P live
  if_told P (Some first, delivery.Told) live e h p = subst P (same_live first live e) p
  if_told P (Some first, delivery.NoMemory) live e h p = absurd h
  if_told P (Some first, delivery.NoWrite) live e h p = absurd h
  if_told P (Some first, delivery.NoDisk) live e h p = absurd h
  if_told P (None, why) live e h p = absurd cc

-- only with a store the disk is at fault
disk_by : (store : Option Kept) (disk : Type 0) → disk → (store ≡ None → ⊥) → IsSomeAnd store (λ _. disk)
disk_by None disk h other = absurd (other refl)
disk_by (Some store) disk h other = h

pub cut_cause : (store : Option Kept) (why : Delivery) (s : Stop) (sink disk : Type 0) → IsDeliveryCause why sink disk → (store ≡ None → why ≢ delivery.NoDisk)
    → IsStopFor why s
    → IsCause s sink (IsSomeAnd store (λ _. disk))
cut_cause store delivery.Told s sink disk h other k = absurd k
cut_cause store delivery.NoMemory s sink disk h other k = subst (λ (x : Stop). IsCause x sink (IsSomeAnd store (λ _. disk))) (sym k) tt
cut_cause store delivery.NoWrite s sink disk h other k = subst (λ (x : Stop). IsCause x sink (IsSomeAnd store (λ _. disk))) (sym k) h
cut_cause store delivery.NoDisk s sink disk h other k =
    subst (λ (x : Stop). IsCause x sink (IsSomeAnd store (λ _. disk))) (sym k) (disk_by store disk h (λ e. other e refl))
