use Rattle.std.proofs.Common.{◌≡◌, ◌≤◌, ℕ, [], drop, map, None}
use Rattle.script_course.specs.Courses.{Goes, with_lines}
use Rattle.script_course.specs.Served.{Leads}
use Rattle.run_commands.specs.Keeps.{IsOpen}
use Rattle.run_commands.specs.Onces.{on_line}
use Rattle.run_commands.specs.Passes.{Line}
use Rattle.store_openings.specs.Saved.{Saved}
use Rattle.run_commands.specs.Turns.{HoldsScript}
use Rattle.run_commands.proofs.Turns.{LeadsTurns}
use Rattle.run_commands.proofs.loops.each_line.Given as goal

abbrev pub invariant-loop-line : goal.invariant-loop-line
invariant-loop-line g l =
    let start = g.D.Disk.history l.initial.disk in
    let now = g.D.Disk.history l.disk in
    record {
      opens : IsOpen now l.script;
      store : l.initial.script.store ≡ None → l.script.store ≡ None;
      untouched : l.initial.script.store ≡ None → l.disk ≡ l.initial.disk;
      sink : g.K.Sink.faults l.initial.out ≤ g.K.Sink.faults l.out;
      faults : start.faults ≤ now.faults;
      leads : Leads (with_lines on_line (Goes [] l.script.doing) (drop l.line-index l.lines)) (g.K.Sink.given l.out)
          (with_lines on_line (Goes [] l.initial.script.doing) l.lines) (g.K.Sink.given l.initial.out);
      kept : (first : ℕ) (saved : Saved) → HoldsScript first saved start l.initial.script → (here : Saved) × HoldsScript first here now l.script
          × LeadsTurns first here (map Line (drop l.line-index l.lines)) l.script now (g.K.Sink.given l.out) saved (map Line l.lines) l.initial.script start
          (g.K.Sink.given l.initial.out);
    }
