-- One call more of a disk in memory.
use Rattle.std.proofs.Common.{◌≡◌, ◌≢◌, ℕ, ◌+◌, ◌<◌, ◌≤◌, inl, inr, List, [], ◌∷◌, ◌++◌, length, slice_index_or, slice_set, Option, Some, option_map, subst, Bool, true, false, refl, sym, ◌∙◌, ap, arith, length-append}
use Rattle.std.specs.Prelude.{◌==◌, if◌then◌else◌}
use Rattle.std.proofs.lemmas.Bool.Decides.{nat_tests}
use Rattle.std.proofs.lemmas.List.{take_all, take-append-le, length-set, get_or-set_same, get_or-set_other}
use Rattle.std.proofs.lemmas.Bool.{cases_eq}
use Rattle.aria_base.specs.Faults.{one_more}
use Rattle.disk_model.specs.Contents.{RoomyBytes, no_bytes}
use Rattle.disk_model.specs.Files.{File, untouched, put, wrote, loosened, settled, Lost}
use Rattle.disk_model.specs.Histories.{Acts, current, MayLose}
use Rattle.disk_model.specs.Recorded.{Recorded, IsDisk, history_of, file_now, file_after, counts, refused}
use Rattle.disk_model.specs.Steps.{Step, Idle, Wrote, Missed, Synced, effect, after, written, step_bytes, IsQuiet}
use Rattle.disk_model.specs.Tapes.{Calls}

pub after_push : (steps : List Step) (step : Step) (file : ℕ) (f : File) → after (steps ++ step ∷ []) file f ≡ effect step file (after steps file f)
after_push [] step file f = refl
after_push (s ∷ steps) step file f = after_push steps step file (effect s file f)

pub written_push : (steps : List Step) (step : Step) → written (steps ++ step ∷ []) ≡ written steps + step_bytes step
written_push [] step = omega arith
written_push (s ∷ steps) step = omega (arith, written_push steps step)

quiet_reads : (step : Step) (file : ℕ) (f : File) → IsQuiet step → (effect step file f).seen ≡ f.seen
quiet_reads Idle file f quiet = refl
quiet_reads (Wrote of at bytes) file f quiet = absurd quiet
quiet_reads (Missed of at len) file f quiet = grind (arith, nat_tests)
quiet_reads (Synced of) file f quiet = grind (arith, nat_tests)

quiet_bytes : (step : Step) → IsQuiet step → step_bytes step ≡ 0
quiet_bytes Idle quiet = refl
quiet_bytes (Wrote of at bytes) quiet = absurd quiet
quiet_bytes (Missed of at len) quiet = refl
quiet_bytes (Synced of) quiet = refl

-- a call that does nothing to other files
abbrev pub IsOf : ℕ → Step → Type 0
IsOf file Idle = Unit {0}
IsOf file (Wrote of at bytes) = of ≡ file
IsOf file (Missed of at len) = of ≡ file
IsOf file (Synced of) = of ≡ file

other_stays : (step : Step) (file other : ℕ) (f : File) → IsOf file step → other ≢ file → effect step other f ≡ f
other_stays Idle file other f own apart = refl
other_stays (Wrote of at bytes) file other f own apart = grind (arith, nat_tests)
other_stays (Missed of at len) file other f own apart = grind (arith, nat_tests)
other_stays (Synced of) file other f own apart = grind (arith, nat_tests)

-- the parts of a disk stay in order after a quiet call
pub disk_noted : (start : List (List ℕ)) (files : List RoomyBytes) (tape : Calls) (step : Step) → IsDisk start files tape → IsQuiet step
    → IsDisk start files (record tape { steps = tape.steps ++ step ∷ [] })
disk_noted start files tape step was quiet = record {
  starts = was.starts;
  four = was.four;
  reads = λ file is. was.reads file is ∙ sym (ap (λ (f : File). f.seen) (after_push tape.steps step file (untouched (slice_index_or start file [])))
      ∙ quiet_reads step file _ quiet);
  spare = λ file is. omega (arith, was.spare file is, written_push tape.steps step);
}

-- and after a write that went into its file
pub disk_wrote : (start : List (List ℕ)) (files : List RoomyBytes) (tape : Calls) (file at : ℕ) (bytes : List ℕ) (new : RoomyBytes) → IsDisk start files tape
    → file < 4
    → new.bytes ≡ put (slice_index_or files file no_bytes).bytes at bytes → (slice_index_or files file no_bytes).spare ≤ new.spare + length bytes
    → IsDisk start (slice_set files file new) (record tape { steps = tape.steps ++ Wrote file at bytes ∷ [] })
disk_wrote start files tape file at bytes new was within same room = record {
  starts = was.starts;
  four = length-set files file new ∙ was.four;
  reads = λ i is. elim (cases_eq i file) [
    | inl own ↦
        let here : slice_index_or (slice_set files file new) i no_bytes ≡ new = rw own (get_or-set_same files file new no_bytes (omega (arith, was.four))) in
        let left : (after (tape.steps ++ Wrote file at bytes ∷ []) i (untouched (slice_index_or start i []))).seen ≡ put
        (after tape.steps i (untouched (slice_index_or start i []))).seen at bytes =
        ap (λ (f : File). f.seen) (after_push tape.steps (Wrote file at bytes) i (untouched (slice_index_or start i []))) ∙ grind (arith, nat_tests) in
        ap (λ (r : RoomyBytes). r.bytes) here ∙ same ∙ ap (λ (l : List ℕ). put l at bytes) (rw own at (was.reads i is)) ∙ rw own (sym (rw own at left))
    | inr apart ↦
        ap (λ (r : RoomyBytes). r.bytes) (get_or-set_other files file i new no_bytes apart) ∙ was.reads i is
        ∙ sym (ap (λ (f : File). f.seen) (after_push tape.steps (Wrote file at bytes) i (untouched (slice_index_or start i []))
        ∙ other_stays (Wrote file at bytes) file i _ refl apart))
  ];
  spare = λ i is. elim (cases_eq i file) [
    | inl own ↦
        let here : slice_index_or (slice_set files file new) i no_bytes ≡ new = rw own (get_or-set_same files file new no_bytes (omega (arith, was.four))) in
        omega (arith, room, was.spare file within, written_push tape.steps (Wrote file at bytes), ap (λ (r : RoomyBytes). r.spare) here)
    | inr apart ↦ omega (
      arith,
      was.spare i is,
      written_push tape.steps (Wrote file at bytes),
      ap (λ (r : RoomyBytes). r.spare) (get_or-set_other files file i new no_bytes apart),
    )
  ];
}

-- the file now is that of the last moment
pub reads_now : (disk : Recorded) (file : ℕ) → file_after (length disk.steps) disk file ≡ file_now disk file
reads_now disk file = ap (λ (steps : List Step). after steps file (untouched (slice_index_or disk.start file [])))
    (take_all (length disk.steps) disk.steps (omega arith))

pub now_is : (disk : Recorded) (file : ℕ) → current (history_of disk) file ≡ Some (file_now disk file)
now_is disk file = ap (λ (f : File). Some f) (reads_now disk file)

-- the disk after one call more, and any number of faults
abbrev pub more : Recorded → Step → ℕ → Recorded
more disk step faults = record disk { steps = disk.steps ++ step ∷ []; faults = faults }

pub now_more : (disk : Recorded) (step : Step) (faults file : ℕ)
    → current (history_of (more disk step faults)) file ≡ Some (effect step file (file_now disk file))
now_more disk step faults file = now_is (more disk step faults) file
    ∙ ap (λ (f : File). Some f) (after_push disk.steps step file (untouched (slice_index_or disk.start file [])))

pub more_acts : (disk : Recorded) (step : Step) (faults file : ℕ) → IsOf file step → disk.faults ≤ faults
    → Acts (history_of disk) (history_of (more disk step faults)) file
more_acts disk step faults file own rise = record {
  later = omega (arith, length-append disk.steps (step ∷ []));
  soon = omega (arith, length-append disk.steps (step ∷ []));
  past = λ moment other le. ap (λ (steps : List Step). Some (after steps other (untouched (slice_index_or disk.start other []))))
      (take-append-le moment disk.steps (step ∷ []) le);
  others = λ other apart. now_more disk step faults other ∙ ap (λ (f : File). Some f) (other_stays step file other (file_now disk other) own apart)
      ∙ sym (now_is disk other);
  faults = rise;
}

pub idle_stays : (disk : Recorded) (faults file : ℕ) → current (history_of (more disk Idle faults)) file ≡ current (history_of disk) file
idle_stays disk faults file = now_more disk Idle faults file ∙ sym (now_is disk file)

own_file : (file : ℕ) → file == file ≡ true
own_file file = grind (arith, nat_tests)

pub now_wrote : (disk : Recorded) (file at : ℕ) (bytes : List ℕ) (faults : ℕ)
    → current (history_of (more disk (Wrote file at bytes) faults)) file ≡ option_map (wrote at bytes) (current (history_of disk) file)
now_wrote disk file at bytes faults =
    now_more disk (Wrote file at bytes) faults file
    ∙ ap (λ (b : Bool). Some (if b then wrote at bytes (file_now disk file) else file_now disk file)) (own_file file)
    ∙ sym (ap (λ (o : Option File). option_map (wrote at bytes) o) (now_is disk file))

pub now_synced : (disk : Recorded) (file faults : ℕ) → current (history_of (more disk (Synced file) faults)) file ≡ option_map settled
    (current (history_of disk) file)
now_synced disk file faults =
    now_more disk (Synced file) faults file
    ∙ ap (λ (b : Bool). Some (if b then settled (file_now disk file) else file_now disk file)) (own_file file)
    ∙ sym (ap (λ (o : Option File). option_map settled o) (now_is disk file))

-- a call that fails is one call more, or only a fault more
pub refused_acts : (disk : Recorded) (missed : Step) (file : ℕ) → IsOf file missed → disk.faults ≤ one_more disk.faults
    → Acts (history_of disk) (history_of (refused missed disk)) file
refused_acts disk missed file own rise = go (counts disk)
  where
    go : (counted : Bool) → Acts (history_of disk) (history_of
        (record disk { steps = if counted then disk.steps ++ missed ∷ [] else disk.steps; faults = one_more disk.faults })) file
    go true = more_acts disk missed (one_more disk.faults) file own rise
    go false = record { later = omega arith; soon = omega arith; past = λ moment other le. refl; others = λ other apart. refl; faults = rise }

pub refused_idle : (disk : Recorded) (file : ℕ) → current (history_of (refused Idle disk)) file ≡ current (history_of disk) file
refused_idle disk file = go (counts disk)
  where
    go : (counted : Bool) → current
        (history_of (record disk { steps = if counted then disk.steps ++ Idle ∷ [] else disk.steps; faults = one_more disk.faults })) file ≡ current
        (history_of disk) file
    go true = idle_stays disk (one_more disk.faults) file
    go false = refl

lost_range : (at len : ℕ) (f : File) → Lost at len f (loosened at len f)
lost_range at len f = record {
  seen = record { before = refl; after = refl; no_shorter = omega arith; no_longer = omega arith };
  synced = refl;
  loose = refl;
}

pub refused_loses : (disk : Recorded) (file at len : ℕ) → MayLose at len (current (history_of disk) file)
    (current (history_of (refused (Missed file at len) disk)) file)
refused_loses disk file at len = go (counts disk)
  where
    now : Option File → Type 0
    now new = MayLose at len (current (history_of disk) file) new

    left : current (history_of (more disk (Missed file at len) (one_more disk.faults))) file ≡ Some (loosened at len (file_after (length disk.steps) disk file))
    left = now_more disk (Missed file at len) (one_more disk.faults) file
        ∙ ap (λ (b : Bool). Some (if b then loosened at len (file_now disk file) else file_now disk file)) (own_file file)
        ∙ ap (λ (f : File). Some (loosened at len f)) (sym (reads_now disk file))

    go : (counted : Bool) → now
        (current (history_of (record disk { steps = if counted then disk.steps ++ Missed file at len ∷ [] else disk.steps; faults = one_more disk.faults }))
        file)
    go true = subst now (sym left) (inr (lost_range at len (file_after (length disk.steps) disk file)))
    go false = inl refl
