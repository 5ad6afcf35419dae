use Rattle.std.proofs.Common.{◌≡◌, ◌≤◌, ◌-◌, ℕ, List, length, replicate, Option, None}
use Rattle.disk_model.specs.Histories.{History, LeavesAll}
use Rattle.script_course.specs.Served.{Leads}
use Rattle.serving.specs.Drains.{drained, drains}
use Rattle.serving.specs.Lives.{IsLike, plan_of, state_of}
use Rattle.serving.specs.Stored.{IsLogging, stored_state}
use Rattle.store_openings.specs.Saved.{Saved}
use Rattle.run_commands.specs.Endings.{HoldsLive, IsEnd, drains_of}
use Rattle.run_commands.specs.Keeps.{Keeps}
use Rattle.run_commands.specs.Onces.{Doing}
use Rattle.run_commands.specs.Passes.{Drain, PassesTurns, held_behind}
use Rattle.run_commands.specs.Saves.{IsLeft, saved_behind}
use Rattle.run_commands.proofs.drains.drain.Given as goal

abbrev pub invariant-loop : goal.invariant-loop
invariant-loop g l = record {
  sink : g.K.Sink.faults l.initial.out ≤ g.K.Sink.faults l.out;
  disk : (g.D.Disk.history l.initial.disk).faults ≤ (g.D.Disk.history l.disk).faults;
  store : l.initial.live.store ≡ None → l.live.store ≡ None;
  untouched : l.initial.live.store ≡ None → l.disk ≡ l.initial.disk;
  like : IsLike l.initial.live l.live;
  logging : IsLogging (g.D.Disk.history l.disk) l.live;
  left : length (state_of l.live).waiting ≤ length (state_of l.initial.live).waiting - l.counter;
  leads : Leads (drained (plan_of l.initial.live) l.initial.live.each l.line (length (state_of l.initial.live).waiting - l.counter) (state_of l.live))
      (g.K.Sink.given l.out)
      (drains (plan_of l.initial.live) l.initial.live.each l.line (state_of l.initial.live)) (g.K.Sink.given l.initial.out);
  holds : (first : ℕ) (saved : Saved) (d : Doing) → IsEnd (plan_of l.initial.live) l.initial.live.each l.line (state_of l.initial.live) d
      → HoldsLive first saved (g.D.Disk.history l.initial.disk) l.initial.live
      → (here : Saved) × HoldsLive first here (g.D.Disk.history l.disk) l.live
      × (saved_behind l.initial.live.checkpoint (replicate (length (state_of l.initial.live).waiting - l.counter) Drain)
      (record d { state = state_of l.live }) here
      ≡ saved_behind l.initial.live.checkpoint (drains_of (state_of l.initial.live)) d saved)
      × ((last : History) → LeavesAll (g.D.Disk.history l.disk) last (IsLeft l.initial.live.checkpoint
      (replicate (length (state_of l.initial.live).waiting - l.counter) Drain) (record d { state = state_of l.live }) here)
      → LeavesAll (g.D.Disk.history l.initial.disk) last (IsLeft l.initial.live.checkpoint (drains_of (state_of l.initial.live)) d saved));
  held : (d : Doing) → IsEnd (plan_of l.initial.live) l.initial.live.each l.line (state_of l.initial.live) d
      → held_behind (replicate (length (state_of l.initial.live).waiting - l.counter) Drain) (record d { state = state_of l.live }) (stored_state l.live)
      ≡ held_behind (drains_of (state_of l.initial.live)) d (stored_state l.initial.live);
  -- what is kept from here on is kept from the start
  keeps : (first : ℕ) (saved : Saved) (d : Doing) → IsEnd (plan_of l.initial.live) l.initial.live.each l.line (state_of l.initial.live) d
      → HoldsLive first saved (g.D.Disk.history l.initial.disk) l.initial.live
      → (last : History) (given : Option (List ℕ))
      → Keeps (PassesTurns (replicate (length (state_of l.initial.live).waiting - l.counter) Drain) (record d { state = state_of l.live })
      (stored_state l.live)) (plan_of l.initial.live) (g.D.Disk.history l.disk) last (g.K.Sink.given l.out) given
      → Keeps (PassesTurns (drains_of (state_of l.initial.live)) d (stored_state l.initial.live)) (plan_of l.initial.live)
      (g.D.Disk.history l.initial.disk) last (g.K.Sink.given l.initial.out) given;
}
