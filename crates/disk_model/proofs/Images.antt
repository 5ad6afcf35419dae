-- What a stop leaves of a file where all written bytes are one, and where nothing was written.
use Rattle.std.proofs.Common.{◌≡◌, ℕ, ◌+◌, ◌-◌, ◌<◌, ◌≤◌, min, subst, slice_index_or, List, [], ◌∷◌, ◌++◌, length, take, drop, replicate, get_or, Bool, true, false, refl, sym, ◌∙◌, ap, arith, inl, inr, length-append, length-take, length-drop}
use Rattle.std.specs.Prelude.{nat_le, nat_lt, ◌&&◌}
use Rattle.std.proofs.lemmas.Bool.{cases_lt}
use Rattle.std.proofs.lemmas.Bool.Decides.{nat_tests}
use Rattle.std.proofs.lemmas.List.{places, length-replicate, same_lists, get_or_default, get_or-drop, get_or-append_right}
use Rattle.disk_model.specs.Files.{File, untouched, covers, IsImage}
use Rattle.disk_model.specs.Histories.{current, IsStable}
use Rattle.disk_model.specs.Readings.{free_of, reads_image}
use Rattle.disk_model.specs.Recorded.{Recorded, history_of, file_after}
use Rattle.disk_model.specs.Steps.{Step, blotted, all_blotted, left_of}

length_blotted : (fill : ℕ) (range : ℕ × ℕ) (bytes : List ℕ) → length (blotted fill range bytes) ≡ length bytes
length_blotted fill range bytes =
    omega (
      arith,
      length-append (take range.0 bytes ++ replicate (min range.1 (length bytes - range.0)) fill) (drop (range.0 + range.1) bytes),
      length-append (take range.0 bytes) (replicate (min range.1 (length bytes - range.0)) fill),
      length-take range.0 bytes,
      length-drop (range.0 + range.1) bytes,
      length-replicate (min range.1 (length bytes - range.0)) fill,
    )

outside_blotted : (fill : ℕ) (range : ℕ × ℕ) (bytes : List ℕ) (place : ℕ) → place < length bytes
    → nat_le range.0 place && nat_lt place (range.0 + range.1) ≡ false → get_or (blotted fill range bytes) place 0 ≡ get_or bytes place 0
outside_blotted fill range bytes place within out = elim (cases_lt place range.0) [
  | inl before ↦ grind (arith, places)
  | inr behind ↦
      let past : range.0 + range.1 ≤ place = grind (arith, nat_tests) in
      let filled : List ℕ = take range.0 bytes ++ replicate (min range.1 (length bytes - range.0)) fill in
      let size : length filled ≡ range.0 + range.1 =
      omega (
        arith,
        length-append (take range.0 bytes) (replicate (min range.1 (length bytes - range.0)) fill),
        length-take range.0 bytes,
        length-replicate (min range.1 (length bytes - range.0)) fill,
      ) in
      get_or-append_right filled (drop (range.0 + range.1) bytes) (range.0 + range.1) place 0 size past
      ∙ get_or-drop (range.0 + range.1) bytes (place - (range.0 + range.1)) 0
      ∙ ap (λ (k : ℕ). get_or bytes k 0) (omega arith)
]

length_all_blotted : (fill : ℕ) (ranges : List (ℕ × ℕ)) (bytes : List ℕ) → length (all_blotted fill ranges bytes) ≡ length bytes
length_all_blotted fill [] bytes = refl
length_all_blotted fill (r ∷ rs) bytes = length_blotted fill r (all_blotted fill rs bytes) ∙ length_all_blotted fill rs bytes

outside_all_blotted : (fill : ℕ) (ranges : List (ℕ × ℕ)) (bytes : List ℕ) (place : ℕ) → place < length bytes → covers ranges place ≡ false
    → get_or (all_blotted fill ranges bytes) place 0 ≡ get_or bytes place 0
outside_all_blotted fill [] bytes place within out = refl
outside_all_blotted fill (r ∷ rs) bytes place within out =
    let apart = free_of r.0 r.1 rs place out in
    outside_blotted fill r (all_blotted fill rs bytes) place (omega (arith, length_all_blotted fill rs bytes)) apart.0
    ∙ outside_all_blotted fill rs bytes place within apart.1

-- whether the written bytes come through or not, what is left is an image
pub left_image : (kept : Bool) (fill : ℕ) (f : File) → IsImage f f.seen → IsImage f (left_of kept fill f)
left_image true fill f was = was
left_image false fill f was =
    let size = length_all_blotted fill f.loose f.seen in record {
      long = omega (arith, was.long, size);
      short = λ none. omega (arith, was.short none, size);
      stays = λ place within free. outside_all_blotted fill f.loose f.seen place (omega (arith, was.long, within)) free ∙ was.stays place within free;
    }

-- the only image of a file that nobody wrote to
pub untouched_image : (bytes image : List ℕ) → IsImage (untouched bytes) image → image ≡ bytes
untouched_image bytes image is =
    let same : length image ≡ length bytes = omega (arith, is.long, is.short refl) in
    same_lists image bytes same (λ k d within. get_or_default image k d 0 within ∙ is.stays k (omega arith) refl ∙ get_or_default bytes k 0 d (omega arith))

-- a disk in memory on which no call was made
pub new_stable : (disk : Recorded) → disk.steps ≡ [] → (file : ℕ) → IsStable (current (history_of disk) file)
new_stable disk none file =
    subst (λ (steps : List Step). IsStable (current (history_of (record disk { steps = steps })) file)) (sym none)
    (untouched_image (slice_index_or disk.start file []))

-- what a stop leaves of each file of a disk in memory
pub left_images : (kept : Bool) (fill calls : ℕ) (disk : Recorded) (file : ℕ)
    → IsImage (file_after calls disk file) (left_of kept fill (file_after calls disk file))
left_images kept fill calls disk file =
    left_image kept fill (file_after calls disk file) (reads_image disk calls file)
