-- What any list of calls leaves.
use Rattle.std.proofs.Common.{◌≡◌, ℕ, List, [], ◌∷◌, subst, arith, inl, inr}
use Rattle.disk_model.specs.Histories.{History, MayLeave, LeavesAll}
use Rattle.image_text.specs.Payloads.{Batch}
use Rattle.slot_images.specs.Images.{Checkpoint}
use Rattle.aria_store.specs.Reopens.{NoStore, Damaged, Found, Reopens}
use Rattle.aria_store.specs.Stands.{Kept, Stands}
use Rattle.aria_store.specs.Courses.{Event, Created, Wrote, Attached, Stopped, IsCourse}
use Rattle.aria_store.proofs.Founds.{found_now, reopens_once}

abbrev IsStore : (ℕ → List ℕ) → Type 0
IsStore images = (c : Checkpoint) × (later : List Batch) × Reopens images (Found c later)

course_found : (events : List Event) (disk : History) (moment : ℕ) → IsCourse events disk moment → (images : ℕ → List ℕ)
    → MayLeave disk moment images → IsStore images
course_found [] disk moment course images left = absurd course
course_found (Created store c ∷ before) disk moment course images left =
    (c, [], found_now disk store c [] course.1 images (subst (λ (m : ℕ). MayLeave disk m images) course.0 left))
course_found (Wrote old store c later d more ∷ before) disk moment course images left =
    elim (course.4.each moment course.0 course.1 images left) [ inl was ↦ (c, later, was) | inr is ↦ (d, more, is) ]
course_found (Attached old ∷ before) disk moment course images left =
    course_found before old old.now course.2 images (course.3.each moment course.0 course.1 images left)
course_found (Stopped old at ∷ before) disk moment course images left =
    course_found before old at course.1 images (course.2 images (subst (λ (m : ℕ). MayLeave disk m images) course.0 left))

pub never_damaged : (events : List Event) (disk : History) (moment : ℕ) → IsCourse events disk moment → (images : ℕ → List ℕ)
    → MayLeave disk moment images
    → IsStore images × ¬ (Reopens images NoStore) × ((file at : ℕ) → ¬ (Reopens images (Damaged file at)))
never_damaged events disk moment course images left =
    let it = course_found events disk moment course images left in (
      it,
      λ none. let both : Found it.0 it.1 ≡ NoStore = reopens_once images (Found it.0 it.1) NoStore it.2 none in absurd (cc both),
      λ file at damaged. let both : Found it.0 it.1 ≡ Damaged file at =
          reopens_once images (Found it.0 it.1) (Damaged file at) it.2 damaged in absurd (cc both),
    )

pub found_again : (old new : History) (store other : Kept) (c d : Checkpoint) (later more : List Batch) → Stands old store c later
    → LeavesAll old new (MayLeave old old.now) → Stands new other d more → (images : ℕ → List ℕ) → MayLeave new new.now images
    → (c ≡ d) × (later ≡ more)
found_again old new store other c d later more was leaves is images left =
    let first = found_now old store c later was images (leaves.each new.now leaves.later (omega arith) images left) in
    let both : Found c later ≡ Found d more =
    reopens_once images (Found c later) (Found d more) first (found_now new other d more is images left) in
    (cc, cc)
