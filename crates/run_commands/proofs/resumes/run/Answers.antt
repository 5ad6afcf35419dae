use Rattle.std.proofs.Common.{◌∙◌, subst, IfSome}
use Rattle.aria_store.specs.Reopens.{Found, Reopened, Reopens}
use Rattle.serving.specs.Lives.{state_of}
use Rattle.store_openings.specs.Openings.{opened}
use Rattle.run_commands.specs.Resumes.{HoldsOver, LeavesOver, StandsOver, saved_first}
use Rattle.run_commands.proofs.Resumed.{Opening, by_found, opened_found, stands_opened, stands_refused, completes_opened, completes_refused, holds_first, laid_opened, leaves_opened, leaves_refused, none_of_found}
use Rattle.run_commands.proofs.resumes.run.Goals as goal

pub returns-in-Ok-clause-completes : goal.returns-in-Ok-clause-completes
returns-in-Ok-clause-completes g c images found reads reopens =
    completes_opened c.args.settings.now c.in-Ok.live (c.in-Ok.ensures.each ∙ c.is_each.ensures) (g.S.Source.left c.args.input.now)
    (g.S.Source.left c.run_over.new.input) (g.K.Sink.given c.args.out.now)
    (g.K.Sink.given c.run_over.new.out) c.run_over.result (opened images found) (c.in-Ok.ensures.opened images found reads reopens) c.run_over.ensures.completes

pub returns-in-Ok-clause-leaves : goal.returns-in-Ok-clause-leaves
returns-in-Ok-clause-leaves g c images found reads reopens =
    let old = g.D.Disk.history c.args.disk.now in
    let mid = g.D.Disk.history c.open.new.disk in
    let new = g.D.Disk.history c.run_over.new.disk in
    let live = c.in-Ok.live in
    let each = c.in-Ok.ensures.each ∙ c.is_each.ensures in
    let ga = g.K.Sink.given c.args.out.now in
    let gb = g.K.Sink.given c.run_over.new.out in
    let is = c.in-Ok.ensures.opened images found reads reopens in
    let P : Reopened → Type 0 = λ what. Opening c.args.settings.now old what mid
    → IfSome (g.S.Source.left c.args.input.now) (λ text. LeavesOver c.args.settings.now what text old new ga gb) in
    by_found images live P (λ k later as_found opens leaves.
    leaves_opened c.args.settings.now old live each (Found k later) (g.S.Source.left c.args.input.now) mid new ga gb opens c.in-Ok.ensures.settings leaves
    (c.run_over.ensures.keeps (state_of live).batches (saved_first images k later)
    (holds_first mid live (saved_first images k later) c.in-Ok.ensures.settings (c.in-Ok.ensures.holds images k later reads as_found))))
    found reopens is (c.in-Ok.ensures.images images found reads reopens)

pub returns-in-Ok-clause-holds : goal.returns-in-Ok-clause-holds
returns-in-Ok-clause-holds g c images found reads reopens ended =
    let mid = g.D.Disk.history c.open.new.disk in
    let new = g.D.Disk.history c.run_over.new.disk in
    let live = c.in-Ok.live in
    let left = g.S.Source.left c.args.input.now in
    let P : Reopened → Type 0 = λ what. IfSome left (λ text. HoldsOver c.args.settings.now images what text new) in
    by_found images live P (λ k later as_found opens.
    laid_opened c.args.settings.now live (c.in-Ok.ensures.each ∙ c.is_each.ensures) left (g.S.Source.left c.run_over.new.input)
    (g.K.Sink.given c.args.out.now) (g.K.Sink.given c.run_over.new.out) c.run_over.result images k later new opens c.in-Ok.ensures.checkpoint
    c.in-Ok.ensures.settings
    (c.run_over.ensures.laid (state_of live).batches (saved_first images k later)
    (holds_first mid live (saved_first images k later) c.in-Ok.ensures.settings (c.in-Ok.ensures.holds images k later reads as_found)) ended))
    found reopens (c.in-Ok.ensures.opened images found reads reopens)

pub returns-in-Err-clause-completes : goal.returns-in-Err-clause-completes
returns-in-Err-clause-completes g c images found reads reopens =
    completes_refused c.args.settings.now (g.S.Source.left c.args.input.now) (g.K.Sink.given c.args.out.now)
    (g.K.Sink.given c.refuse_store.new.out) c.refuse_store.result (opened images found) c.in-Err.why
    (c.in-Err.ensures.refused images found reads reopens) c.refuse_store.ensures.refuses c.refuse_store.ensures.read

pub returns-in-Err-clause-leaves : goal.returns-in-Err-clause-leaves
returns-in-Err-clause-leaves g c images found reads reopens =
    leaves_refused c.args.settings.now (g.D.Disk.history c.args.disk.now) (opened images found) (g.S.Source.left c.args.input.now)
    (g.D.Disk.history c.open.new.disk) (g.K.Sink.given c.args.out.now)
    (g.K.Sink.given c.refuse_store.new.out)
    (none_of_found c.args.settings.now (g.S.Source.left c.args.input.now) (g.K.Sink.given c.args.out.now)
    (g.K.Sink.given c.refuse_store.new.out) c.refuse_store.result (opened images found) c.in-Err.why
    (c.in-Err.ensures.refused images found reads reopens) c.refuse_store.ensures.refuses) (c.in-Err.ensures.images images found reads reopens)

pub returns-in-Ok-clause-stands : goal.returns-in-Ok-clause-stands
returns-in-Ok-clause-stands g c images found reads reopens =
    let old = g.D.Disk.history c.args.disk.now in
    let mid = g.D.Disk.history c.open.new.disk in
    let new = g.D.Disk.history c.run_over.new.disk in
    let live = c.in-Ok.live in
    let left = g.S.Source.left c.args.input.now in
    let ga = g.K.Sink.given c.args.out.now in
    let gb = g.K.Sink.given c.run_over.new.out in
    let P : Reopened → Type 0 = λ what. Opening c.args.settings.now old what mid
    → IfSome left (λ text. StandsOver c.args.settings.now images what text old new ga gb) in
    by_found images live P (λ k later as_found opens leaves.
    stands_opened c.args.settings.now images live (c.in-Ok.ensures.each ∙ c.is_each.ensures) left ga gb old mid new k later opens c.in-Ok.ensures.checkpoint
    (c.open.ensures.fresh images k later reads as_found) leaves
    (c.run_over.ensures.left (state_of live).batches (saved_first images k later)
    (holds_first mid live (saved_first images k later) c.in-Ok.ensures.settings (c.in-Ok.ensures.holds images k later reads as_found))))
    found reopens (c.in-Ok.ensures.opened images found reads reopens) (c.open.ensures.images images found reads reopens)

pub returns-in-Err-clause-stands : goal.returns-in-Err-clause-stands
returns-in-Err-clause-stands g c images found reads reopens =
    stands_refused c.args.settings.now images (g.K.Sink.given c.args.out.now) (g.K.Sink.given c.refuse_store.new.out)
    (g.D.Disk.history c.args.disk.now) (g.D.Disk.history c.open.new.disk) (opened images found) (g.S.Source.left c.args.input.now)
    (none_of_found c.args.settings.now (g.S.Source.left c.args.input.now) (g.K.Sink.given c.args.out.now)
    (g.K.Sink.given c.refuse_store.new.out) c.refuse_store.result (opened images found) c.in-Err.why
    (c.in-Err.ensures.refused images found reads reopens) c.refuse_store.ensures.refuses)
    (λ k later is. c.open.ensures.fresh images k later reads (subst (λ (f : Reopened). Reopens images f) (opened_found images found k later is) reopens))
    (c.open.ensures.images images found reads reopens)
