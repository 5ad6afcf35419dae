use Rattle.std.proofs.Common.{◌≡◌, List, ap, sym, subst, ◌∙◌}
use Rattle.aria_base.specs.declared.calls.Call.{Call}
use Rattle.image_text.specs.Lines.{lines_taken}
use Rattle.image_text.specs.Payloads.{take, IsCalls}
use Rattle.image_text.proofs.PayloadsRead.{are_calls, no_calls}
use Rattle.image_text.proofs.payloads.read_calls.Goals as goal

pub returns-in-Some-clause-calls : goal.returns-in-Some-clause-calls
returns-in-Some-clause-calls c =
    let taken = sym c.in-Some.is ∙ c.in_ok-calls.ensures ∙ ap (λ (l : List Call). lines_taken (take c.args.catalog.now) l c.args.bytes.now) c.new.ensures in
    subst (IsCalls c.args.catalog.now c.args.bytes.now) (sym c.into_vec.ensures.calls) (are_calls _ _ _ taken c.into_vec.ensures.held)

pub returns-in-Some-clause-fit : goal.returns-in-Some-clause-fit
returns-in-Some-clause-fit c = λ i d below. ((returns-in-Some-clause-calls c).fit i d below).fit

pub returns-clause-calls : goal.returns-clause-calls
returns-clause-calls c =
    let taken = sym c.in-None.is ∙ c.in_ok-calls.ensures ∙ ap (λ (l : List Call). lines_taken (take c.args.catalog.now) l c.args.bytes.now) c.new.ensures in
    no_calls c.args.catalog.now c.args.bytes.now c.schema.ensures.catalog taken
