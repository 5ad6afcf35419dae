use Rattle.std.proofs.Common.{◌≡◌, ◌≤◌, ◌+◌, ◌-◌, ℕ, length, None}
use Rattle.aria_base.specs.declared.limits.TheConstants.{LONGEST_LINE}
use Rattle.script_course.specs.Courses.{told, told_whole}
use Rattle.script_course.specs.Served.{Carries}
use Rattle.run_commands.specs.Keeps.{IsOpen}
use Rattle.run_commands.specs.Onces.{on_line}
use Rattle.run_commands.specs.Outs.{no_line}
use Rattle.store_openings.specs.Saved.{Saved}
use Rattle.run_commands.specs.Turns.{HoldsScript}
use Rattle.run_commands.proofs.Pieces.{CarriesText}
use Rattle.run_commands.proofs.loops.read_script.Given as goal

abbrev pub invariant-loop-count : goal.invariant-loop-count
invariant-loop-count g l =
    let start = g.D.Disk.history l.initial.disk in
    let now = g.D.Disk.history l.disk in
    record {
      opens : IsOpen now l.script;
      store : l.initial.script.store ≡ None → l.script.store ≡ None;
      untouched : l.initial.script.store ≡ None → l.disk ≡ l.initial.disk;
      source : g.S.Source.faults l.initial.input ≤ g.S.Source.faults l.input;
      sink : g.K.Sink.faults l.initial.out ≤ g.K.Sink.faults l.out;
      faults : start.faults ≤ now.faults;
      within : l.lines.taken ≤ l.lines.limit;
      longest : l.lines.longest ≤ LONGEST_LINE;
      begun : length l.lines.begun ≤ l.lines.longest;
      leads : Carries (told on_line l.lines l.script.doing) (told_whole on_line l.lines l.script.doing) (g.S.Source.left l.input) (g.K.Sink.given l.out)
          (told on_line no_line l.initial.script.doing) (told_whole on_line no_line l.initial.script.doing)
          (g.S.Source.left l.initial.input) (g.K.Sink.given l.initial.out);
      kept : (first : ℕ) (saved : Saved) → HoldsScript first saved start l.initial.script → (here : Saved) × HoldsScript first here now l.script
          × CarriesText first here l.lines l.script now (g.S.Source.left l.input) (g.K.Sink.given l.out) saved no_line l.initial.script start
          (g.S.Source.left l.initial.input) (g.K.Sink.given l.initial.out);
    }

abbrev pub decreases-loop-count : goal.decreases-loop-count
decreases-loop-count g l = l.lines.limit + 1 - l.lines.taken
