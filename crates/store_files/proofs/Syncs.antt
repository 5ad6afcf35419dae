-- Syncs, and the first checkpoint.
use Rattle.std.proofs.Common.{◌≡◌, ◌⊎◌, ℕ, ◌^◌, ◌<◌, ◌≤◌, List, [], length, sym, refl, ◌∙◌, subst, ap, arith, inl, inr, Option, None, Some, option_map}
use Rattle.std.specs.Prelude.{IfSome, ◌%◌}
use Rattle.std.proofs.lemmas.Bool.{cases_eq}
use Rattle.disk_model.specs.Files.{File, IsImage, untouched, settled}
use Rattle.disk_model.specs.Histories.{History, current, EachImage, HasImage, IsStable, MayLeave, Acts, Within, Leaves, LeavesAll, Still}
use Rattle.disk_model.proofs.Images.{untouched_image}
use Rattle.disk_model.proofs.Spans.{each_more, other_stays, within_call, still_none, still_now, leaves_then, leaves_more, leaves_file}
use Rattle.input_log.specs.Layout.{Ends, log_of, EndsAt}
use Rattle.checkpoint.specs.declared.heads.Head.{Head}
use Rattle.checkpoint.specs.Damage.{IsSound}
use Rattle.checkpoint.specs.Slots.{Shown, slot_of, opened, laid}
use Rattle.checkpoint.specs.Gates.{IsShut}
use Rattle.aria_base.specs.Faults.{Rose}
use Rattle.disk_model.specs.Causes.{FaultOnly}
use Rattle.disk_model.specs.declared.refusals.LogRefused.{LogRefused}
use Rattle.disk_model.specs.declared.refusals.LogRefused.TheVariants as refused
use Rattle.store_files.specs.Attachments.{ReadsAlike, seen_of}
use Rattle.store_files.specs.Holdings.{IsBehind, Holds, IsSettled}
use Rattle.store_files.specs.Stores.{Stored, Rests}
use Rattle.store_files.proofs.Appends.{rests_rotated}
use Rattle.store_files.proofs.Whole.{shut_behind, shown_laid, empty_log}

same_images : (t : Option File) → EachImage t (HasImage t)
same_images None = tt
same_images (Some f) = λ image is. is

synced_images : (t : Option File) → IfSome t (λ f. IsImage f f.seen) → EachImage (option_map settled t) (HasImage t)
synced_images None reads = tt
synced_images (Some f) reads = λ image is. subst (IsImage f) (sym (untouched_image f.seen image is)) reads

pub synced_stable : (t : Option File) → IsStable (option_map settled t)
synced_stable None = tt
synced_stable (Some f) = untouched_image f.seen

pub sync_images : (a b : History) (file : ℕ) → Acts a b file → IfSome (current a file) (λ f. IsImage f f.seen)
    → (current b file ≡ option_map settled (current a file)) ⊎ (current b file ≡ current a file)
    → Leaves a b file (HasImage (current a file))
sync_images a b file acts reads now =
    within_call a b file acts (λ t. EachImage t (HasImage (current a file))) (same_images (current a file)) (elim now [
      | inl done ↦ subst (λ (t : Option File). EachImage t (HasImage (current a file))) (sym done) (synced_images (current a file) reads)
      | inr same ↦ subst (λ (t : Option File). EachImage t (HasImage (current a file))) (sym same) (same_images (current a file))
    ])

-- ---- what a read gives

seen_settled : (t : Option File) → seen_of (option_map settled t) ≡ seen_of t
seen_settled None = refl
seen_settled (Some f) = refl

pub sync_reads : (a b : History) (file : ℕ) → Acts a b file → (current b file ≡ option_map settled (current a file)) ⊎ (current b file ≡ current a file)
    → ReadsAlike a b
sync_reads a b file acts now other = elim (cases_eq other file) [
  | inl same ↦ subst (λ (n : ℕ). seen_of (current b n) ≡ seen_of (current a n)) (sym same) (elim now [
    | inl done ↦ ap seen_of done ∙ seen_settled (current a file)
    | inr still ↦ ap seen_of still
  ])
  | inr apart ↦ ap seen_of (acts.others other apart)
]

pub still_reads : (a b : History) → Still a b → ReadsAlike a b
still_reads a b still other = ap seen_of (still_now a b still other)

pub reads_then : (a b c : History) → ReadsAlike a b → ReadsAlike b c → ReadsAlike a c
reads_then a b c first second other = second other ∙ first other

pub sync_leaves : (a b : History) (file : ℕ) → file < 4 → Leaves a b file (HasImage (current a file)) → LeavesAll a b (MayLeave a a.now)
sync_leaves a b file low all =
    leaves_file a b file (HasImage (current a file)) (MayLeave a a.now) low all (λ images own others other is. elim (cases_eq other file) [
      | inl same ↦ subst (λ (n : ℕ). HasImage (current a n) (images n)) (sym same) own
      | inr apart ↦ others other is apart
    ])

pub sync_then : (a b c : History) → LeavesAll a b (MayLeave a a.now) → LeavesAll b c (MayLeave b b.now) → LeavesAll a c (MayLeave a a.now)
sync_then a b c first second =
    leaves_then a b c (MayLeave a a.now) first
    (leaves_more b c (MayLeave b b.now) (MayLeave a a.now) second (λ images left. first.each b.now first.later (omega arith) images left))

pub all_settled : (a b c d e : History) (P Q R S : Option File → Type 0) → Within a b 0 P → Within b c 1 Q
    → Within c d 2 R → Within d e 3 S → IsStable (current b 0) → IsStable (current c 1) → IsStable (current d 2)
    → IsStable (current e 3) → IsSettled e
all_settled a b c d e P Q R S one two three four s0 s1 s2 s3 file low = elim (cases_eq file 0) [
  | inl is ↦ subst (λ (n : ℕ). IsStable (current e n)) (sym is)
      (subst IsStable
      (sym (other_stays d e 3 S four 0 (λ x. absurd (omega (arith, x))) ∙ other_stays c d 2 R three 0
      (λ x. absurd (omega (arith, x))) ∙ other_stays b c 1 Q two 0 (λ x. absurd (omega (arith, x))))) s0)
  | inr not_0 ↦ elim (cases_eq file 1) [
    | inl is ↦ subst (λ (n : ℕ). IsStable (current e n)) (sym is)
        (subst IsStable
        (sym (other_stays d e 3 S four 1 (λ x. absurd (omega (arith, x))) ∙ other_stays c d 2 R three 1
        (λ x. absurd (omega (arith, x))))) s1)
    | inr not_1 ↦ elim (cases_eq file 2) [
      | inl is ↦ subst (λ (n : ℕ). IsStable (current e n)) (sym is)
          (subst IsStable (sym (other_stays d e 3 S four 2 (λ x. absurd (omega (arith, x))))) s2)
      | inr not_2 ↦ let is : file ≡ 3 = omega (arith, low, not_0, not_1, not_2) in subst (λ (n : ℕ). IsStable (current e n)) (sym is) s3
    ]
  ]
]

pub first_holds : (head : Head) (body : List ℕ) (s t u v : History) (P Q R : Option File → Type 0) → IsSound 1 head
    → length body < 256 ^ 8 → IfSome (current s 1) (λ f. IsImage f f.seen) → EachImage (current s 0) IsShut → EachImage (current s 1) IsShut
    → Within s t 1 P → Within t u 3 Q → Within u v 1 R
    → current t 1 ≡ option_map (λ f. untouched (laid head body f.seen)) (current s 1)
    → EachImage (current u 3) (λ image. EndsAt image 0 0) → current v 1 ≡ option_map (λ f. untouched (opened f.seen)) (current u 1)
    → Holds v 1 head body (Ends [] 0)
first_holds head body s t u v P Q R sound small reads shut0 shut1 lays empties shows laid_is ends now = record {
  shown =
      let still : current u 1 ≡ option_map (λ f. untouched (laid head body f.seen)) (current s 1) =
      other_stays t u 3 Q empties 1 (λ x. absurd (omega (arith, x))) ∙ laid_is in
      subst (λ (o : Option File). EachImage o (λ image. slot_of 1 image ≡ Shown head body))
      (sym (now ∙ ap (λ (o : Option File). option_map (λ f. untouched (opened f.seen)) o) still))
      (shown_laid 1 head body sound small (current s 1) reads shut1);
  behind =
      let same : current v 0 ≡ current s 0 =
      other_stays u v 1 R shows 0 (λ x. absurd (omega (arith, x))) ∙ other_stays t u 3 Q empties 0
      (λ x. absurd (omega (arith, x))) ∙ other_stays s t 1 P lays 0 (λ x. absurd (omega (arith, x))) in
      subst (λ (o : Option File). EachImage o (IsBehind 0 head.generation)) (sym same)
      (each_more (current s 0) _ _ (λ image shut. shut_behind 0 head.generation image shut) shut0);
  records =
      subst (λ (o : Option File). EachImage o (λ image. log_of image ≡ Ends [] 0))
      (sym (other_stays u v 1 R shows 3 (λ x. absurd (omega (arith, x)))))
      (each_more (current u 3) _ _ (λ image e. empty_log image e) ends);
}

-- no calls at all
pub unchanged : (a : History) (file : ℕ) → Within a a file (λ told. told ≡ current a file)
unchanged a file = let still = still_none a in record {
  later = still.later;
  past = still.past;
  others = λ moment other from to apart. still.same moment other from to;
  each = λ moment from to. still.same moment file from to;
  faults = still.faults;
}

pub rose_later : (a b c : ℕ) → a ≤ b → Rose b c → Rose a c
rose_later a b c le (inl more) = inl (omega (arith, le, more))
rose_later a b c le (inr last) = inr last

pub fault_later : (a b c : History) (r : LogRefused) → a.faults ≤ b.faults → FaultOnly b c r → FaultOnly a c r
fault_later a b c refused.Memory le cause = cause
fault_later a b c refused.DiskFault le cause = rose_later a.faults b.faults c.faults le cause
fault_later a b c (refused.Damaged file at) le cause = cause

pub rests_created : (z : History) (s : Stored) (body : List ℕ) → s.head.generation ≡ 1 → IsSettled z → IsSound 1 s.head
    → Holds z 1 s.head body (Ends [] 0) → s.at ≡ 0 → s.batches ≡ 0 → Rests z s
rests_created z s body one settled sound holds at batches =
    let parity : s.head.generation % 2 ≡ 1 = omega (arith, one) in
    rests_rotated z s 1 body parity settled sound holds at batches
