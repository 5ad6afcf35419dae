use Rattle.script_text.specs.Written.{IsArgs}
use Rattle.image_text.specs.Helds.{line_of_held}
use Rattle.image_text.proofs.LinesWritten.{written_on, all_on}
use Rattle.image_text.proofs.bodies.append_requests.Goals as goal

pub loop-request-preserved : goal.loop-request-preserved
loop-request-preserved c = record {
  text = written_on _ _ _ c.loop-request-test.true c.request-item.is (line_of_held c.args.catalog.now) _ _ _ c.loop-request.invariant.text
      c.in_ok-append_held_ended.ensures.text;
  args = all_on _ _ _ c.loop-request-test.true c.request-item.is (λ request. IsArgs request.call.args) c.loop-request.invariant.args
      c.in_ok-append_held_ended.ensures.args;
}
