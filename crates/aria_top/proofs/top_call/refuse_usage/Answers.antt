use Rattle.std.proofs.Common.{subst, ℕ, List}
use Rattle.std.specs.Io.KnownBytes.{Appends}
use Rattle.answer_text.specs.Notices.{refused_text}
use Rattle.answer_text.specs.declared.notices.NotDone.TheVariants.{Usage}
use Rattle.script_course.proofs.Turns.{front_all}
use Rattle.aria_top.proofs.top_call.refuse_usage.Goals as goal

pub returns-in-Ok-clause-front : goal.returns-in-Ok-clause-front
returns-in-Ok-clause-front g c =
    let old = g.K.Sink.given c.args.out.now in
    let new = g.K.Sink.given c.give.new.self in
    front_all old new (refused_text Usage) (subst (λ (text : List ℕ). Appends old new text) c.refused_line.ensures c.in-Ok.ensures.bytes)
