use Rattle.std.proofs.Common.{ℕ, List, length, ◌∙◌, ap, option_map, arith}
use Rattle.disk_model.specs.Files.{untouched, put}
use Rattle.disk_model.specs.Histories.{current}
use Rattle.disk_model.proofs.Spans.{stable_untouched}
use Rattle.checkpoint.proofs.Torn.{head_lost, head_room, lay_leaves, laid_both, head_size}
use Rattle.checkpoint.proofs.slots.lay.Goals as goal

pub returns-in_err-write_at-clause-images : goal.returns-in_err-write_at-clause-images
returns-in_err-write_at-clause-images g c =
    let reads = g.met.D.Disk.reads c.args.disk.now (g.D.Disk.history c.args.disk.now).now c.args.slot in
    let size = ap (λ (l : List ℕ). length l) c.bytes-front.ensures ∙ head_size c.args.head.now (length c.args.body.now) in
    head_lost _ (g.D.Disk.history c.write_at.new.self) _ reads c.requires.shut c.bytes-front.result size c.write_at.ensures.acts c.in_err-write_at.ensures.lost

pub write_synced-requires-clause-within : goal.write_synced-requires-clause-within
write_synced-requires-clause-within g c =
    let reads = g.met.D.Disk.reads c.args.disk.now (g.D.Disk.history c.args.disk.now).now c.args.slot in
    let size = ap (λ (l : List ℕ). length l) c.bytes-front.ensures ∙ head_size c.args.head.now (length c.args.body.now) in
    head_room _ (g.D.Disk.history c.write_at.new.self) _ reads c.requires.shut c.bytes-front.result size c.write_at.ensures.acts
    c.in_ok-write_at.ensures.written

pub returns-in_err-write_synced-clause-images : goal.returns-in_err-write_synced-clause-images
returns-in_err-write_synced-clause-images g c =
    let reads = g.met.D.Disk.reads c.args.disk.now (g.D.Disk.history c.args.disk.now).now c.args.slot in
    let size = ap (λ (l : List ℕ). length l) c.bytes-front.ensures ∙ head_size c.args.head.now (length c.args.body.now) in
    let reads_next = g.met.D.Disk.reads c.write_at.new.self (g.D.Disk.history c.write_at.new.self).now c.args.slot in
    lay_leaves _ _ _ reads c.requires.shut c.bytes-front.result size c.write_at.ensures.acts c.in_ok-write_at.ensures.written
    (g.D.Disk.history c.write_synced.new.disk) _ reads_next c.write_synced.ensures.images

pub returns-clause-images : goal.returns-clause-images
returns-clause-images g c =
    let reads = g.met.D.Disk.reads c.args.disk.now (g.D.Disk.history c.args.disk.now).now c.args.slot in
    let size = ap (λ (l : List ℕ). length l) c.bytes-front.ensures ∙ head_size c.args.head.now (length c.args.body.now) in
    let reads_next = g.met.D.Disk.reads c.write_at.new.self (g.D.Disk.history c.write_at.new.self).now c.args.slot in
    lay_leaves _ _ _ reads c.requires.shut c.bytes-front.result size c.write_at.ensures.acts c.in_ok-write_at.ensures.written
    (g.D.Disk.history c.write_synced.new.disk) _ reads_next c.write_synced.ensures.images

pub returns-clause-bytes : goal.returns-clause-bytes
returns-clause-bytes g c =
    let told = current (g.D.Disk.history c.args.disk.now) c.args.slot in
    c.in_ok-write_synced.ensures.written
    ∙ ap (λ t. option_map (λ f. untouched (put f.seen 40 c.args.body.now)) t) c.in_ok-write_at.ensures.written
    ∙ laid_both told c.bytes-front.result c.args.body.now
    ∙ ap (λ (l : List ℕ). option_map (λ f. untouched (put (put f.seen 1 l) 40 c.args.body.now)) told) c.bytes-front.ensures

pub returns-clause-still_shut : goal.returns-clause-still_shut
returns-clause-still_shut g c = let all = returns-clause-images g c in all.each (g.D.Disk.history c.write_synced.new.disk).now all.later (omega arith)

pub returns-clause-stable : goal.returns-clause-stable
returns-clause-stable g c = rw c.in_ok-write_synced.ensures.written (stable_untouched _ (λ f. put f.seen 40 c.args.body.now))
