use Rattle.std.proofs.Common.{◌≡◌, ◌∙◌, ◌≤◌, ◌++◌, ap, subst, ℕ, List, length, arith}
use Rattle.std.proofs.lemmas.List.{take_all}
use Rattle.std.specs.List.{All}
use Rattle.aria_base.specs.declared.calls.Call.{Call}
use Rattle.aria_base.specs.declared.limits.TheConstants.{LONGEST_LINE}
use Rattle.image_text.proofs.LinesWritten.{all_on}
use Rattle.image_text.specs.Exactly.{line_of_call}
use Rattle.proc_lang.specs.declared.procs.Proc.{Proc}
use Rattle.script_text.specs.Written.{call_line}
use Rattle.example_ledger.proofs.batches.have_lines.Goals as goal

pub loop-call-preserved : goal.loop-call-preserved
loop-call-preserved c =
    let written : c.append_call.new.out.items ≡ line_of_call c.args.catalog.now c.call-item.result =
    c.in_ok-append_call.ensures.text
    ∙ ap (λ (l : List ℕ). l ++ call_line c.procs.result.now c.call-item.result) c.clear.ensures.items
    ∙ ap (λ (procs : List Proc). call_line procs c.call-item.result) c.procs.ensures.procs in
    let same : length c.append_call.new.out.items ≡ length (line_of_call c.args.catalog.now c.call-item.result) = ap length written in
    all_on _ _ _ c.loop-call-test.true c.call-item.is (λ (call : Call). length (line_of_call c.args.catalog.now call) ≤ LONGEST_LINE)
    c.loop-call.invariant (omega (arith, same, c.len.ensures, c.append_call.new.out.ok.0, c.if-len-gt-LONGEST_LINE.false))

pub returns : goal.returns
returns c = λ fits. subst (λ (l : List Call). All (λ call. length (line_of_call c.args.catalog.now call) ≤ LONGEST_LINE) l)
    (take_all c.loop-call.call-index c.args.calls.now c.loop-call-test.false) c.loop-call.invariant
