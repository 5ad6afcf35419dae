use Rattle.std.proofs.Common.{sym, subst, ap, rules, ◌≡◌, ◌∙◌, List, ℕ, length, ◌≤◌, ◌++◌, map, Some}
use Rattle.std.specs.List.{All}
use Rattle.aria_base.specs.declared.limits.TheConstants.{LONGEST_LINE}
use Rattle.script_course.specs.declared.stops.Stop.TheVariants as stop
use Rattle.script_text.specs.Lines.{Feed, Scan, scan}
use Rattle.run_commands.specs.Passes.{Line, past, turns}
use Rattle.run_commands.proofs.Lengths.{scan_short}
use Rattle.run_commands.proofs.Pieces.{fault_turns, fed_turns}
use Rattle.run_commands.proofs.Turns.{none_kept, same_turns}
use Rattle.run_commands.proofs.loops.take_piece.Goals as goal

pub each_line-requires-clause-short : goal.each_line-requires-clause-short
each_line-requires-clause-short g c κs within =
    subst (λ (l : List (List ℕ)). All (λ line. length line ≤ LONGEST_LINE) l) (sym c.deref.ensures.value)
    (subst (λ (s : Scan). All (λ line. length line ≤ LONGEST_LINE) s.lines) c.in-Ok.ensures.fed
    (scan_short c.args.lines.now c.args.piece.now c.requires.longest c.requires.begun))

pub returns-in-Ok-clause-keeps : goal.returns-in-Ok-clause-keeps
returns-in-Ok-clause-keeps g c = λ first saved h.
    let s = scan c.args.lines.now c.args.piece.now in
    same_turns first saved (turns s) (map Line c.deref.result.now) c.args.script (g.D.Disk.history c.args.disk.now) (g.D.Disk.history c.each_line.new.disk)
    (g.K.Sink.given c.args.out.now) (g.K.Sink.given c.each_line.new.out)
    c.each_line.result (fed_turns s c.in-Ok.done.items c.feed.new.self c.in-Ok.ensures.fed
    ∙ ap (λ (l : List (List ℕ)). map Line l) (sym c.deref.ensures.value)) (c.each_line.ensures.keeps first saved h)

pub returns-in-Err-Memory-clause-keeps : goal.returns-in-Err-Memory-clause-keeps
returns-in-Err-Memory-clause-keeps g c = λ first saved h.
    none_kept first saved (turns (scan c.args.lines.now c.args.piece.now)) c.args.script (g.D.Disk.history c.args.disk.now)
    (g.K.Sink.given c.args.out.now) stop.NoMemory (λ e. absurd cc) h

pub refuse_behind-requires-clause-short : goal.refuse_behind-requires-clause-short
refuse_behind-requires-clause-short g c κs within =
    let same : c.deref-in-Ok-before.result.now ≡ (scan c.args.lines.now c.args.piece.now).lines =
    c.deref-in-Ok-before.ensures.value ∙ c.in-Ok-before.ensures ∙ ap (λ (f : Feed). (scan f c.args.piece.now).lines) c.in-Err-Line.ensures.kept in
    subst (λ (l : List (List ℕ)). All (λ line. length line ≤ LONGEST_LINE) l) (sym same)
    (scan_short c.args.lines.now c.args.piece.now c.requires.longest c.requires.begun)

pub returns-in-Ok-before-clause-keeps : goal.returns-in-Ok-before-clause-keeps
returns-in-Ok-before-clause-keeps g c = λ first saved h.
    let s = scan c.args.lines.now c.args.piece.now in
    let same : c.deref-in-Ok-before.result.now ≡ s.lines =
    c.deref-in-Ok-before.ensures.value ∙ c.in-Ok-before.ensures ∙ ap (λ (f : Feed). (scan f c.args.piece.now).lines) c.in-Err-Line.ensures.kept in
    let fault : s.fault ≡ Some c.in-Err-Line.refusal = search rules in
    same_turns first saved (turns s) (map Line c.deref-in-Ok-before.result.now ++ past (Some c.in-Err-Line.refusal)) c.args.script
    (g.D.Disk.history c.args.disk.now)
    (g.D.Disk.history c.refuse_behind.new.disk)
    (g.K.Sink.given c.args.out.now) (g.K.Sink.given c.refuse_behind.new.out) c.refuse_behind.result
    (fault_turns s c.deref-in-Ok-before.result.now c.in-Err-Line.refusal same fault)
    (c.refuse_behind.ensures.keeps first saved h)

pub returns-in-Err-clause-keeps : goal.returns-in-Err-clause-keeps
returns-in-Err-clause-keeps g c = λ first saved h.
    none_kept first saved (turns (scan c.args.lines.now c.args.piece.now)) c.args.script (g.D.Disk.history c.args.disk.now)
    (g.K.Sink.given c.args.out.now) stop.NoMemory (λ e. absurd cc) h
