use Rattle.std.proofs.Common.{rules, ◌≡◌, ap, subst, [], ◌∷◌, ℕ, List, ◌≤◌, length, Option, Some, None, IfSome}
use Rattle.std.specs.Prelude.{Ok}
use Rattle.aria_base.specs.declared.limits.TheConstants.{LONGEST_LINE}
use Rattle.script_text.specs.Lines.{last_line}
use Rattle.script_course.proofs.Wholes.{last_is}
use Rattle.run_commands.specs.Onces.{doing_result, on_line}
use Rattle.run_commands.specs.Passes.{Line, last}
use Rattle.run_commands.proofs.Lengths.{last_short}
use Rattle.run_commands.proofs.Turns.{same_turns, still_kept}
use Rattle.run_commands.proofs.loops.finish.Goals as goal

pub returns-in-Some-clause-serves : goal.returns-in-Some-clause-serves
returns-in-Some-clause-serves g c =
    let is : last_line c.args.lines ≡ Some c.as_slice.result.now = search rules in
    last_is on_line c.args.script.doing c.as_slice.result.now (last_line c.args.lines) (g.K.Sink.given c.args.out.now) (g.K.Sink.given c.serve.new.out)
    (doing_result c.serve.result) is c.serve.ensures.serves

pub serve-requires-clause-short : goal.serve-requires-clause-short
serve-requires-clause-short g c κs within =
    let is : last_line c.args.lines ≡ Some c.as_slice.result.now = search rules in
    subst (λ (o : Option (List ℕ)). IfSome o (λ line. length line ≤ LONGEST_LINE)) is (last_short c.args.lines c.requires.longest c.requires.begun)

pub returns-in-Some-clause-keeps : goal.returns-in-Some-clause-keeps
returns-in-Some-clause-keeps g c = λ first saved h.
    let is : last_line c.args.lines ≡ Some c.as_slice.result.now = search rules in
    same_turns first saved (last (last_line c.args.lines)) (Line c.as_slice.result.now ∷ []) c.args.script (g.D.Disk.history c.args.disk.now)
    (g.D.Disk.history c.serve.new.disk)
    (g.K.Sink.given c.args.out.now) (g.K.Sink.given c.serve.new.out) c.serve.result (ap last is) (c.serve.ensures.keeps first saved h)

pub returns-in-None-clause-keeps : goal.returns-in-None-clause-keeps
returns-in-None-clause-keeps g c = λ first saved h.
    let none : last_line c.args.lines ≡ None = search rules in
    let disk = g.D.Disk.history c.args.disk.now in
    let now = g.K.Sink.given c.args.out.now in
    same_turns first saved (last (last_line c.args.lines)) [] c.args.script disk disk now now (Ok c.args.script) (ap last none)
    (still_kept first saved c.args.script disk now h)
