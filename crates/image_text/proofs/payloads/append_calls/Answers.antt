use Rattle.script_text.specs.Written.{IsArgs}
use Rattle.image_text.specs.Exactly.{line_of_call}
use Rattle.image_text.proofs.LinesWritten.{written_on, all_on}
use Rattle.image_text.proofs.payloads.append_calls.Goals as goal

pub loop-call-preserved : goal.loop-call-preserved
loop-call-preserved c = record {
  text = written_on _ _ _ c.loop-call-test.true c.call-item.is (line_of_call c.args.catalog.now) _ _ _ c.loop-call.invariant.text
      c.in_ok-append_ended.ensures.text;
  args = all_on _ _ _ c.loop-call-test.true c.call-item.is (λ call. IsArgs call.args) c.loop-call.invariant.args c.in_ok-append_ended.ensures.args;
}
