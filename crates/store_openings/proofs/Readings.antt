-- What a read of four files says of what is found in them, and of what they are opened as.
use Rattle.std.proofs.Common.{◌≡◌, ◌⊎◌, inl, inr, sym, ◌∙◌, ap, subst, refl, ℕ, ◌≤◌, ◌<◌, List, Option, None, Some, arith}
use Rattle.std.specs.Prelude.{IfSome, IsSome}
use Rattle.std.specs.Option.{IsSomeAnd}
use Rattle.aria_base.specs.Faults.{Rose}
use Rattle.aria_store.specs.Causes.{AttachCause}
use Rattle.aria_store.specs.Reopens.{Damaged, Found, NoStore, Reopened, Reopens}
use Rattle.aria_store.specs.Stands.{IsTold, Kept, Stands}
use Rattle.aria_store.proofs.Founds.{found_now, reopens_once}
use Rattle.disk_model.specs.Files.{File, IsImage}
use Rattle.disk_model.specs.Histories.{HasImage, History, LeavesAll, MayLeave, current}
use Rattle.disk_model.proofs.Spans.{leaves_more, leaves_then}
use Rattle.image_text.specs.Payloads.{Batch}
use Rattle.input_log.specs.Layout.{log_of}
use Rattle.serving.specs.Stored.{crowded}
use Rattle.serving.specs.declared.lives.Live.{Live}
use Rattle.slot_images.specs.Images.{Checkpoint}
use Rattle.store_files.specs.Attachments.{ReadsAlike, seen_of}
use Rattle.store_files.proofs.Syncs.{rose_later}
use Rattle.store_files.specs.declared.refusals.StoreRefused.{StoreRefused}
use Rattle.store_files.specs.declared.refusals.StoreRefused.TheVariants as of_store
use Rattle.store_openings.specs.Openings.{IsFaultOf, IsOpenedAs, IsRefusalOf, LeavesUnwritten, ReadsAs, ReopensToOpened, log_in, offset_in, opened, opened_at}
use Rattle.store_openings.specs.Refusals.{IsAttaching, IsFor}
use Rattle.store_openings.specs.Runs.{IsCrowdAt, IsFoundAs, IsNotFound, LeftOrRun}
use Rattle.store_openings.specs.declared.engines.RunSettings.{RunSettings}
use Rattle.store_openings.specs.declared.refusals.NotOpened.{NotOpened}
use Rattle.store_openings.specs.declared.refusals.NotOpened.TheVariants as refusal

-- ---- what a read gives

seen_is : (told : Option File) (bytes : List ℕ) → IsSomeAnd told (λ f. f.seen ≡ bytes) → (before : Option File) → seen_of told ≡ seen_of before
    → IsSomeAnd before (λ f. f.seen ≡ bytes)
seen_is None bytes is before same = absurd is
seen_is (Some f) bytes is None same = absurd (cc same)
seen_is (Some f) bytes is (Some g) same = let here : Some f.seen ≡ Some g.seen = same in let one : g.seen ≡ f.seen = cc here in one ∙ is

-- a read gives the same bytes behind calls that leave them
pub reads_on : (old new : History) (images : ℕ → List ℕ) → ReadsAlike old new → ReadsAs old images → ReadsAs new images
reads_on old new images alike reads file low = seen_is (current old file) (images file) (reads file low) (current new file) (sym (alike file))

told_some : (told : Option File) (bytes : List ℕ) → IsSomeAnd told (λ f. f.seen ≡ bytes) → IsSome told
told_some None bytes is = absurd is
told_some (Some f) bytes is = refl

pub told_all : (disk : History) (images : ℕ → List ℕ) → ReadsAs disk images → IsTold disk
told_all disk images reads file low = told_some (current disk file) (images file) (reads file low)

read_image : (told : Option File) (bytes : List ℕ) → IsSomeAnd told (λ f. f.seen ≡ bytes) → IfSome told (λ f. IsImage f f.seen) → HasImage told bytes
read_image None bytes is image = absurd is
read_image (Some f) bytes is image = subst (λ (l : List ℕ). IsImage f l) is image

-- what a read gives is an image that a stop may leave
pub reads_left : (disk : History) (images : ℕ → List ℕ) → ReadsAs disk images → ((file : ℕ) → IfSome (current disk file) (λ f. IsImage f f.seen))
    → MayLeave disk disk.now images
reads_left disk images reads law file low = read_image (current disk file) (images file) (reads file low) (law file)

seen_in : (told : Option File) (bytes : List ℕ) (Q : List ℕ → Type 0) → IsSomeAnd told (λ f. f.seen ≡ bytes) → IfSome told (λ f. Q f.seen) → Q bytes
seen_in None bytes Q is q = absurd is
seen_in (Some f) bytes Q is q = subst Q is q

-- ---- what was found is what the files read as

module _ (disk : History) (images : ℕ → List ℕ) (reads : ReadsAs disk images) (law : (file : ℕ) → IfSome (current disk file) (λ f. IsImage f f.seen)) where
  left : MayLeave disk disk.now images
  left = reads_left disk images reads law

  pub found_is : (store : Kept) (c : Checkpoint) (later : List Batch) (found : Reopened) → (IsTold disk → Stands disk store c later) → Reopens images found
      → found ≡ Found c later
  found_is store c later found stands reopens =
      reopens_once images found (Found c later) reopens (found_now disk store c later (stands (told_all disk images reads)) images left)

  -- attaching was refused
  pub attach_refusal : (before : History) (refused : StoreRefused) (why : NotOpened) (found : Reopened) → AttachCause before disk refused → IsFor refused why
      → Reopens images found
      → IsRefusalOf (opened images found) why
  attach_refusal before of_store.Memory why found cause is reopens = subst (λ (w : NotOpened). IsRefusalOf (opened images found) w) (sym is) tt
  attach_refusal before of_store.DiskFault why found cause is reopens = subst (λ (w : NotOpened). IsRefusalOf (opened images found) w) (sym is) tt
  attach_refusal before of_store.NoStore why found cause is reopens =
      let same : found ≡ NoStore = reopens_once images found NoStore reopens (cause images left) in
      subst (λ (w : NotOpened). IsRefusalOf (opened images found) w) (sym is) (ap (λ (f : Reopened). opened images f) same)
  attach_refusal before (of_store.Damaged file at) why found cause is reopens =
      let same : found ≡ Damaged file at = reopens_once images found (Damaged file at) reopens (cause images left) in
      subst (λ (w : NotOpened). IsRefusalOf (opened images found) w) (sym is) (ap (λ (f : Reopened). opened images f) same)
  attach_refusal before of_store.Exists why found cause is reopens = absurd cause
  attach_refusal before (of_store.Closed faults) why found cause is reopens = absurd cause

-- ---- what is opened

pub log_low : (c : Checkpoint) → log_in c < 4
log_low c = omega arith

pub opened_roomy : (images : ℕ → List ℕ) (c : Checkpoint) (later : List Batch) → crowded c later ≡ None → opened images (Found c later) ≡ Found c later
opened_roomy images c later roomy = ap (λ (p : Option ℕ). opened_at images c later p) roomy

-- the record of the first batch that has no room is what is damaged
pub opened_crowded : (disk : History) (images : ℕ → List ℕ) → ReadsAs disk images → (c : Checkpoint) (later : List Batch) (file at : ℕ)
    → IsCrowdAt disk c later file at → opened images (Found c later) ≡ Damaged file at
opened_crowded disk images reads c later file at crowd =
    let offset : at ≡ offset_in (log_of (images (log_in c))) crowd.0 =
    seen_in (current disk (log_in c)) (images (log_in c)) (λ l. at ≡ offset_in (log_of l) crowd.0) (reads (log_in c) (log_low c)) crowd.3 in
    ap (λ (p : Option ℕ). opened_at images c later p) crowd.1 ∙ sym (λ i. Damaged (crowd.2 i) (offset i))

pub opened_as : (images : ℕ → List ℕ) (engines : RunSettings) (c : Checkpoint) (later : List Batch) (found : Reopened) (live : Live)
    → IsFoundAs engines c later live
    → found ≡ Found c later → IsOpenedAs (opened images found) live
opened_as images engines c later found live f same =
    subst (λ (r : Reopened). IsOpenedAs (opened images r) live) (sym same)
    (subst (λ (r : Reopened). IsOpenedAs r live) (sym (opened_roomy images c later f.roomy)) (f.plan, f.state))

-- what was found is refused where a batch has no room alone
pub found_refusal : (disk new : History) (images : ℕ → List ℕ) → ReadsAs disk images
    → (store : Kept) (c : Checkpoint) (later : List Batch) (found : Reopened) (why : NotOpened)
    → found ≡ Found c later → IsNotFound disk new store c later why → IsRefusalOf (opened images found) why
found_refusal disk new images reads store c later found refusal.NoStore same h = absurd h
found_refusal disk new images reads store c later found (refusal.Damaged file at) same crowd =
    ap (λ (f : Reopened). opened images f) same ∙ opened_crowded disk images reads c later file at crowd
found_refusal disk new images reads store c later found refusal.NoDisk same h = tt
found_refusal disk new images reads store c later found refusal.NoMemory same h = tt

pub found_fault : (old disk new : History) (store : Kept) (c : Checkpoint) (later : List Batch) (why : NotOpened) → old.faults ≤ disk.faults
    → IsNotFound disk new store c later why → IsFaultOf (Rose old.faults new.faults) why
found_fault old disk new store c later refusal.NoStore le h = tt
found_fault old disk new store c later (refusal.Damaged file at) le h = tt
found_fault old disk new store c later refusal.NoDisk le h = rose_later old.faults disk.faults new.faults le h
found_fault old disk new store c later refusal.NoMemory le h = tt

pub attach_fault : (old disk : History) (refused : StoreRefused) (why : NotOpened) → AttachCause old disk refused → IsFor refused why
    → IsFaultOf (Rose old.faults disk.faults) why
attach_fault old disk of_store.Memory why cause is = subst (λ (w : NotOpened). IsFaultOf (Rose old.faults disk.faults) w) (sym is) tt
attach_fault old disk of_store.DiskFault why cause is = subst (λ (w : NotOpened). IsFaultOf (Rose old.faults disk.faults) w) (sym is) cause
attach_fault old disk of_store.NoStore why cause is = subst (λ (w : NotOpened). IsFaultOf (Rose old.faults disk.faults) w) (sym is) tt
attach_fault old disk (of_store.Damaged file at) why cause is = subst (λ (w : NotOpened). IsFaultOf (Rose old.faults disk.faults) w) (sym is) tt
attach_fault old disk of_store.Exists why cause is = absurd cause
attach_fault old disk (of_store.Closed faults) why cause is = absurd cause

pub attaching_of : (old disk : History) (refused : StoreRefused) → AttachCause old disk refused → IsAttaching refused
attaching_of old disk of_store.Memory cause = tt
attaching_of old disk of_store.DiskFault cause = tt
attaching_of old disk of_store.NoStore cause = tt
attaching_of old disk (of_store.Damaged file at) cause = tt
attaching_of old disk of_store.Exists cause = cause
attaching_of old disk (of_store.Closed faults) cause = cause

-- ---- images

-- attaching, and then what was found
module _ (old disk new : History) (attach : LeavesAll old disk (MayLeave old old.now)) where
  back : (images : ℕ → List ℕ) → MayLeave disk disk.now images → MayLeave old old.now images
  back images left = attach.each disk.now attach.later (omega arith) images left

  pub looked_then : LeavesAll disk new (MayLeave disk disk.now) → LeavesAll old new (MayLeave old old.now)
  looked_then rest = leaves_then old disk new (MayLeave old old.now) attach (leaves_more disk new (MayLeave disk disk.now) (MayLeave old old.now) rest back)

  pub unwritten_then : (why : NotOpened) → LeavesUnwritten disk new why → LeavesUnwritten old new why
  unwritten_then refusal.NoStore all = looked_then all
  unwritten_then (refusal.Damaged file at) all = looked_then all
  unwritten_then refusal.NoDisk all = tt
  unwritten_then refusal.NoMemory all = tt

  abbrev Left : Reopened → (ℕ → List ℕ) → Type 0
  Left what images = MayLeave old old.now images ⊎ ReopensToOpened what images

  pub opened_leaves : (images : ℕ → List ℕ) (c : Checkpoint) (later : List Batch) (found : Reopened) → found ≡ Found c later
      → LeavesAll disk new (LeftOrRun disk c later) → LeavesAll old new (Left (opened images found))
  opened_leaves images c later found same rest =
      leaves_then old disk new (Left (opened images found))
      (leaves_more old disk (MayLeave old old.now) (Left (opened images found)) attach (λ i left. inl left))
      (leaves_more disk new (LeftOrRun disk c later) (Left (opened images found)) rest (λ i either. one i either))
    where
      one : (i : ℕ → List ℕ) → LeftOrRun disk c later i → Left (opened images found) i
      one i (inl left) = inl (back i left)
      one i (inr is) = inr (subst (λ (r : Reopened). ReopensToOpened (opened images r) i) (sym same)
          (subst (λ (r : Reopened). ReopensToOpened r i) (sym (opened_roomy images c later is.0)) is.1))

-- where attaching was refused, its images are all
pub attached_leaves : (old new : History) (what : Reopened) → LeavesAll old new (MayLeave old old.now)
    → LeavesAll old new (λ left. MayLeave old old.now left ⊎ ReopensToOpened what left)
attached_leaves old new what all = leaves_more old new (MayLeave old old.now) (λ left. MayLeave old old.now left ⊎ ReopensToOpened what left) all
    (λ i left. inl left)
