use Rattle.aria_base.specs.Faults.{Rose}
use Rattle.std.proofs.Common.{◌≡◌, refl, rules, Bool}
use Rattle.std.specs.Prelude.{Err}
use Rattle.std.specs.Option.{IsSomeAnd}
use Rattle.script_places.specs.Places.{closing}
use Rattle.store_commands.specs.Drafts.{values_by}
use Rattle.script_course.proofs.Turns.{front_none}
use Rattle.script_course.specs.Served.{Finishes}
use Rattle.store_commands.specs.Inits.{IsMadeOf, on_end}
use Rattle.script_rows.proofs.Drafted.{closed_under}
use Rattle.store_commands.proofs.Ended.{ends_untouched, refused_apart}
use Rattle.store_commands.proofs.Whole.{ungiven_never}
use Rattle.store_commands.proofs.inits.close.Goals as goal

pub make-requires-clause-rows : goal.make-requires-clause-rows
make-requires-clause-rows g c =
    closed_under c.args.last.place.head c.in-Ok.place.head c.args.last.tables c.requires.fitting
    (c.closes.ensures c.args.last.place c.in-Ok.place c.in-Ok.ensures)

pub returns-in-Err-Memory-clause-ends : goal.returns-in-Err-Memory-clause-ends
returns-in-Err-Memory-clause-ends g c =
    ends_untouched (λ taken. on_end c.args.settings.now taken c.args.last)
    (IsSomeAnd (values_by c.args.last (closing c.args.last.place)) (λ values. IsMadeOf c.args.settings.now values (g.D.Disk.history c.args.disk.now)))
    (g.D.Disk.history c.args.disk.now) (g.K.Sink.given c.args.out.now) (g.K.Sink.given c.args.out.now) _
    (λ taken done. refl)
    (λ taken. front_none (g.K.Sink.given c.args.out.now) (on_end c.args.settings.now taken c.args.last).bytes)

pub returns-clause-ends : goal.returns-clause-ends
returns-clause-ends g c =
    let all : (taken : Bool) → Finishes (on_end c.args.settings.now taken c.args.last) (g.K.Sink.given c.args.out.now)
    (g.K.Sink.given c.refuse.new.out) c.refuse.result = λ taken. search rules in
    let is : closing c.args.last.place ≡ Err c.in-Err-Line.refusal.kind = search rules in
    ends_untouched (λ taken. on_end c.args.settings.now taken c.args.last)
    (IsSomeAnd (values_by c.args.last (closing c.args.last.place)) (λ values. IsMadeOf c.args.settings.now values (g.D.Disk.history c.args.disk.now)))
    (g.D.Disk.history c.args.disk.now) (g.K.Sink.given c.args.out.now) (g.K.Sink.given c.refuse.new.out) c.refuse.result
    (λ taken done. refused_apart c.args.settings.now taken c.args.last (closing c.args.last.place) c.in-Err-Line.refusal.kind is done) all

pub returns-clause-ungiven : goal.returns-clause-ungiven
returns-clause-ungiven g c = ungiven_never (Rose (g.K.Sink.faults c.args.out.now) (g.K.Sink.faults c.refuse.new.out)) (g.K.Sink.given c.args.out.now)
    (g.K.Sink.given c.refuse.new.out) c.refuse.result c.refuse.ensures.cause
