use Rattle.std.proofs.Common.{◌≤◌, Option, All, length, option_map, sym, subst, arith}
use Rattle.aria_base.specs.declared.limits.TheConstants.{LONGEST_LINE}
use Rattle.disk_model.specs.Recorded.{history_of}
use Rattle.image_text.specs.Exactly.{line_of_call}
use Rattle.image_text.specs.Payloads.{IsThat}
use Rattle.image_text.specs.declared.payloads.Logged.{Logged}
use Rattle.aria_store.specs.Stands.{batch_in}
use Rattle.worked_stores.proofs.Readiness.{ready_added, lines_short}
use Rattle.worked_stores.proofs.bases.Base.append.Goals as goal

pub append-requires-clause-lines : goal.append-requires-clause-lines
append-requires-clause-lines c =
    let plan = c.args.self.now.catalog in
    let is = subst (λ (o : Option Logged). IsThat plan c.args.payload.now (option_map batch_in o)) c.in-Some.is c.in_ok-logged.ensures.batch in
    let short : length c.args.payload.now ≤ 1000 = omega (arith, c.if-payload-gt1000.false) in
    subst (All (λ call. length (line_of_call plan call) ≤ LONGEST_LINE)) (sym c.as_slice.ensures.value)
    (lines_short plan c.args.payload.now (batch_in c.in-Some.logged) is short)

pub returns : goal.returns
returns c =
    ready_added history_of c.args.self.now.disk c.append.new.disk c.args.self.now.store c.append.new.self c.args.self.now.before
    c.args.self.now.catalog c.args.self.now.tables _ _ _ c.requires c.append.result c.append.ensures.refused c.append.ensures.rests
    c.append.ensures.known
