use Rattle.image_text.proofs.PayloadsRead.{payload_joined, payload_written}
use Rattle.image_text.proofs.payloads.payload_of.Goals as goal

pub returns-clause-text : goal.returns-clause-text
returns-clause-text c =
    payload_joined c.args.catalog.now (record { rule = c.args.rule; fallback = c.args.fallback; calls = c.args.calls.now }) _ _ _ _ _ c.rule_byte.ensures
    c.new-payload.ensures.items c.in_ok-push.ensures.items c.in_ok-push-2.ensures.items c.in_ok-append_calls.ensures.text

pub returns-clause-again : goal.returns-clause-again
returns-clause-again c = payload_written _ _ _ (returns-clause-text c) c.requires.fallback c.requires.calls c.in_ok-append_calls.ensures.args
