use Rattle.std.proofs.Common.{◌≡◌, ℕ, ◌+◌, ◌<◌, List, [], ◌∷◌, length, length-append, drop, Option, Some, ap, subst, sym, arith}
use Rattle.std.specs.Prelude.{IfSome}
use Rattle.disk_model.specs.Files.{File}
use Rattle.disk_model.specs.Histories.{current}
use Rattle.disk_model.proofs.Spans.{still_now, still_then}
use Rattle.input_log.specs.declared.logs.Payload.{Payload}
use Rattle.input_log.specs.Layout.{next_of, next_is}
use Rattle.input_log.proofs.Scans.{Goes, goes_on}
use Rattle.input_log.proofs.logs.scan.Goals as goal

pub loop-payloads-preserved : goal.loop-payloads-preserved
loop-payloads-preserved g c =
    let told = current (g.D.Disk.history c.args.disk.now) c.args.file in
    let before = current (g.D.Disk.history c.loop-payloads.disk) c.args.file in
    let told_is = still_now _ _ c.loop-payloads.invariant.still c.args.file in
    let found = subst (λ (r : Option (List ℕ)). IfSome before (λ f. next_of (drop c.loop-payloads.at f.seen) ≡ next_is r)) c.in-Some.is
    c.in_ok-bytes.ensures.next in
    let next = subst (λ (o : Option File). IfSome o (λ f. next_of (drop c.loop-payloads.at f.seen) ≡ next_is (Some c.in-Some.bytes))) told_is found in
    let within = subst (λ (r : Option (List ℕ)). IfSome r (λ payload. c.loop-payloads.at + 5 + length payload < c.in_ok-len.len)) c.in-Some.is
    c.in_ok-bytes.ensures.within in
    let size = ap (λ (l : List ℕ). length l) c.as_slice.ensures in
    let place : c.loop-payloads.at + 5 + length c.in-Some.bytes ≡ (c.loop-payloads.at + 1) + (4 + length c.as_slice.result.now) = omega (arith, size) in
    let goes = goes_on told c.loop-payloads.payloads.items c.loop-payloads.at c.in-Some.bytes c.loop-payloads.invariant.goes next in
    record {
      within = omega (arith, within, size);
      empty = λ none. absurd (let more = ap (λ (l : List Payload). length l) c.in_ok-push.ensures.items in let sum =
          length-append c.loop-payloads.payloads.items (record { at = c.loop-payloads.at; bytes = c.in-Some.bytes } ∷ []) in omega (arith, none, more, sum));
      still = still_then _ _ _ c.loop-payloads.invariant.still c.in_ok-bytes.ensures.still;
      size = c.loop-payloads.invariant.size;
      goes = subst (λ (at : ℕ). Goes told c.push.new.self.items at) place
          (subst (λ (ps : List Payload). Goes told ps (c.loop-payloads.at + 5 + length c.in-Some.bytes)) (sym c.in_ok-push.ensures.items) goes);
    }
