use Rattle.std.proofs.Common.{◌≡◌, ℕ, ◌+◌, ◌^◌, ◌<◌, ◌≤◌, List, [], ◌∷◌, length, Option, option_map, sym, ◌∙◌, ap, subst, arith}
use Rattle.std.specs.Prelude.{IfSome}
use Rattle.disk_model.specs.Files.{File, untouched, put}
use Rattle.disk_model.specs.Histories.{current, EachImage, IsStable}
use Rattle.disk_model.proofs.Spans.{stable_untouched}
use Rattle.input_log.specs.Layout.{log_of, with_record, EndsAt}
use Rattle.input_log.proofs.Stages.{room_behind, room_at, stage_done, stage_ends, stage_bytes, record_leaves, gate_leaves, one_more_is}
use Rattle.input_log.proofs.logs.append.Goals as goal

pub write_synced-requires-clause-within : goal.write_synced-requires-clause-within
write_synced-requires-clause-within g c =
    let told = current (g.D.Disk.history c.args.disk.now) c.args.end.now.file in
    room_behind told c.args.end.now.at c.args.end.now.batches c.args.payload.now
    (g.met.D.Disk.reads c.args.disk.now (g.D.Disk.history c.args.disk.now).now c.args.end.now.file) c.requires.ends

pub returns-in_err-write_synced-clause-images : goal.returns-in_err-write_synced-clause-images
returns-in_err-write_synced-clause-images g c =
    let reads = g.met.D.Disk.reads c.args.disk.now (g.D.Disk.history c.args.disk.now).now c.args.end.now.file in
    record_leaves _ _ (g.D.Disk.history c.write_synced.new.disk) _ _ _ _ reads c.requires.ends _ c.write_synced.ensures.images

pub write_synced-requires-2-clause-within : goal.write_synced-requires-2-clause-within
write_synced-requires-2-clause-within g c =
    let told = current (g.D.Disk.history c.args.disk.now) c.args.end.now.file in
    let reads = g.met.D.Disk.reads c.args.disk.now (g.D.Disk.history c.args.disk.now).now c.args.end.now.file in
    let bytes_are = c.deref.ensures.value ∙ c.in_ok-record.ensures in
    let staged_is = c.in_ok-write_synced.ensures.written ∙ ap (λ (l : List ℕ). option_map (λ f. untouched (put f.seen (c.args.end.now.at + 1) l)) told)
    bytes_are in
    subst (λ (o : Option File). IfSome o (λ f. c.args.end.now.at ≤ length f.seen)) (sym staged_is)
    (room_at told c.args.end.now.at c.args.end.now.batches c.args.payload.now reads c.requires.ends)

pub returns-in_err-write_synced-2-clause-images : goal.returns-in_err-write_synced-2-clause-images
returns-in_err-write_synced-2-clause-images g c =
    let told = current (g.D.Disk.history c.args.disk.now) c.args.end.now.file in
    let reads = g.met.D.Disk.reads c.args.disk.now (g.D.Disk.history c.args.disk.now).now c.args.end.now.file in
    let bytes_are = c.deref.ensures.value ∙ c.in_ok-record.ensures in
    let staged_is = c.in_ok-write_synced.ensures.written ∙ ap (λ (l : List ℕ). option_map (λ f. untouched (put f.seen (c.args.end.now.at + 1) l)) told)
    bytes_are in
    let small : length c.args.payload.now < 256 ^ 4 = omega arith in
    gate_leaves _ (g.D.Disk.history c.write_synced.new.disk) _ _ _ _ _ reads c.requires.ends _ small c.write_synced.ensures.images staged_is
    c.write_synced-2.ensures.images

pub returns-clause-images : goal.returns-clause-images
returns-clause-images g c =
    let told = current (g.D.Disk.history c.args.disk.now) c.args.end.now.file in
    let reads = g.met.D.Disk.reads c.args.disk.now (g.D.Disk.history c.args.disk.now).now c.args.end.now.file in
    let bytes_are = c.deref.ensures.value ∙ c.in_ok-record.ensures in
    let staged_is = c.in_ok-write_synced.ensures.written ∙ ap (λ (l : List ℕ). option_map (λ f. untouched (put f.seen (c.args.end.now.at + 1) l)) told)
    bytes_are in
    let small : length c.args.payload.now < 256 ^ 4 = omega arith in
    gate_leaves _ (g.D.Disk.history c.write_synced.new.disk) _ _ _ _ _ reads c.requires.ends _ small c.write_synced.ensures.images staged_is
    c.write_synced-2.ensures.images

pub returns-clause-bytes : goal.returns-clause-bytes
returns-clause-bytes g c =
    let told = current (g.D.Disk.history c.args.disk.now) c.args.end.now.file in
    let reads = g.met.D.Disk.reads c.args.disk.now (g.D.Disk.history c.args.disk.now).now c.args.end.now.file in
    let bytes_are = c.deref.ensures.value ∙ c.in_ok-record.ensures in
    let staged_is = c.in_ok-write_synced.ensures.written ∙ ap (λ (l : List ℕ). option_map (λ f. untouched (put f.seen (c.args.end.now.at + 1) l)) told)
    bytes_are in
    c.in_ok-write_synced-2.ensures.written
    ∙ ap (λ (o : Option File). option_map (λ f. untouched (put f.seen c.args.end.now.at (1 ∷ []))) o) staged_is
    ∙ stage_bytes told c.args.end.now.at c.args.end.now.batches c.args.payload.now reads c.requires.ends

pub returns-clause-stored : goal.returns-clause-stored
returns-clause-stored g c =
    let told = current (g.D.Disk.history c.args.disk.now) c.args.end.now.file in
    let reads = g.met.D.Disk.reads c.args.disk.now (g.D.Disk.history c.args.disk.now).now c.args.end.now.file in
    let bytes_are = c.deref.ensures.value ∙ c.in_ok-record.ensures in
    let staged_is = c.in_ok-write_synced.ensures.written ∙ ap (λ (l : List ℕ). option_map (λ f. untouched (put f.seen (c.args.end.now.at + 1) l)) told)
    bytes_are in
    let done_is = c.in_ok-write_synced-2.ensures.written ∙ ap (λ (o : Option File). option_map (λ f. untouched (put f.seen c.args.end.now.at (1 ∷ []))) o)
    staged_is in
    let small : length c.args.payload.now < 256 ^ 4 = omega arith in
    subst (λ (o : Option File). IfSome told (λ f. EachImage o (λ image. log_of image ≡ with_record c.args.payload.now (log_of f.seen)))) (sym done_is)
    (stage_done told c.args.end.now.at c.args.end.now.batches c.args.payload.now reads c.requires.ends small)

pub returns-clause-stable : goal.returns-clause-stable
returns-clause-stable g c =
    subst (λ (o : Option File). IsStable o) (sym c.in_ok-write_synced-2.ensures.written)
    (stable_untouched (current (g.D.Disk.history c.write_synced.new.disk) c.args.end.now.file) (λ f. put f.seen c.args.end.now.at (1 ∷ [])))

pub returns-clause-counted : goal.returns-clause-counted
returns-clause-counted g c =
    let told = current (g.D.Disk.history c.args.disk.now) c.args.end.now.file in
    let reads = g.met.D.Disk.reads c.args.disk.now (g.D.Disk.history c.args.disk.now).now c.args.end.now.file in
    one_more_is told c.args.end.now.at c.args.end.now.batches c.args.payload.now reads c.requires.ends
    (omega arith) c.saturating_add-end.result c.saturating_add-end.ensures

pub returns-clause-ends : goal.returns-clause-ends
returns-clause-ends g c =
    let told = current (g.D.Disk.history c.args.disk.now) c.args.end.now.file in
    let reads = g.met.D.Disk.reads c.args.disk.now (g.D.Disk.history c.args.disk.now).now c.args.end.now.file in
    let bytes_are = c.deref.ensures.value ∙ c.in_ok-record.ensures in
    let staged_is = c.in_ok-write_synced.ensures.written ∙ ap (λ (l : List ℕ). option_map (λ f. untouched (put f.seen (c.args.end.now.at + 1) l)) told)
    bytes_are in
    let done_is = c.in_ok-write_synced-2.ensures.written ∙ ap (λ (o : Option File). option_map (λ f. untouched (put f.seen c.args.end.now.at (1 ∷ []))) o)
    staged_is in
    let small : length c.args.payload.now < 256 ^ 4 = omega arith in
    let end : ℕ = c.args.end.now.at + (1 + (4 + length c.args.payload.now)) in
    subst (λ (o : Option File). EachImage o (λ image. EndsAt image end c.saturating_add-end.result)) (sym done_is)
    (stage_ends told c.args.end.now.at c.args.end.now.batches c.args.payload.now reads c.requires.ends small end c.saturating_add-end.result (omega arith)
    (returns-clause-counted g c))
