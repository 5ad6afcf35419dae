use Rattle.std.proofs.Common.{◌≡◌, ◌-◌, ◌+◌, ◌≤◌, ◌<◌, ℕ, take, drop, Option, refl, ◌∙◌, subst, arith}
use Rattle.std.specs.Prelude.{IfSome}
use Rattle.disk_model.specs.Files.{File}
use Rattle.disk_model.specs.Histories.{current}
use Rattle.input_log.proofs.Scans.{read_short, read_long, read_open}
use Rattle.input_log.proofs.logs.read_record.Goals as goal

pub returns-then-rest-le5-clause-refused : goal.returns-then-rest-le5-clause-refused
returns-then-rest-le5-clause-refused g c =
    (refl, refl, read_short _ c.args.at c.args.len _ c.requires.len c.in_ok-read_at.ensures.bytes (omega arith) c.if-gate-ne-OPEN.false c.if-rest-le5.true)

pub returns-then-rest-size-clause-refused : goal.returns-then-rest-size-clause-refused
returns-then-rest-size-clause-refused g c =
    let size = subst (λ (o : Option File). IfSome o (λ f. c.read_at-2.new.buf ≡ take 4 (drop (c.args.at + 1) f.seen))) c.read_at.ensures.same
    c.in_ok-read_at-2.ensures.bytes in
    let short = subst (λ (n : ℕ). c.args.len - c.args.at - 5 ≤ n) c.read_u32-size.ensures c.if-rest-size.true in
    (refl, refl, read_long _ c.args.at c.args.len _ _ c.requires.len c.in_ok-read_at.ensures.bytes size (omega arith) c.if-gate-ne-OPEN.false short)

pub returns-clause-next : goal.returns-clause-next
returns-clause-next g c =
    let told = current (g.D.Disk.history c.args.disk.now) c.args.file in
    let size = subst (λ (o : Option File). IfSome o (λ f. c.read_at-2.new.buf ≡ take 4 (drop (c.args.at + 1) f.seen))) c.read_at.ensures.same
    c.in_ok-read_at-2.ensures.bytes in
    let fits = subst (λ (n : ℕ). n < c.args.len - c.args.at - 5) c.read_u32-size.ensures c.if-rest-size.false in
    let same = c.read_at-2.ensures.same ∙ c.read_at.ensures.same in
    let bytes = subst (λ (o : Option File). IfSome o (λ f. c.in_ok-payload.payload.items ≡ take c.read_u32-size.result (drop (c.args.at + 5) f.seen))) same
    c.in_ok-payload.ensures.bytes in
    let payload = subst (λ (n : ℕ). IfSome told (λ f. c.in_ok-payload.payload.items ≡ take n (drop (c.args.at + 5) f.seen))) c.read_u32-size.ensures bytes in
    rw c.from_vec.ensures (read_open _ c.args.at c.args.len _ _ _ c.requires.len c.in_ok-read_at.ensures.bytes size payload
    (omega arith) c.if-gate-ne-OPEN.false fits)
