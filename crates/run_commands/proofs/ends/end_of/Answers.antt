use Rattle.std.proofs.Common.{◌≡◌, sym, subst}
use Rattle.std.proofs.KnownBytes.{Appends-nil}
use Rattle.disk_model.specs.Histories.{LeavesAll}
use Rattle.script_text.specs.Lines.{line_after}
use Rattle.run_commands.specs.Endings.{HoldsBase}
use Rattle.run_commands.specs.Keeps.{HoldsState, Keeps, LeavesLaid, held_of}
use Rattle.run_commands.specs.Onces.{Running}
use Rattle.run_commands.specs.Passes.{PassesTurns, ending_of, held_behind, held_then, on_turn}
use Rattle.run_commands.specs.Standing.{doing_of}
use Rattle.run_commands.specs.Saves.{IsLeft}
use Rattle.run_commands.specs.Turns.{saved_over}
use Rattle.run_commands.proofs.Closed.{close_refused, close_refused_laid, closed_holds, closed_keeps, closed_laid, closed_left, end_is}
use Rattle.run_commands.proofs.Endings.{holds_leave}
use Rattle.run_commands.proofs.Kept.{keeps_none}
use Rattle.run_commands.proofs.Turns.{left_still}
use Rattle.run_commands.proofs.ends.end_of.Goals as goal
use Rattle.script_places.specs.Places.{plan_in}

-- ---- where nothing is refused

pub returns-in-Ok-clause-keeps : goal.returns-in-Ok-clause-keeps
returns-in-Ok-clause-keeps g c = λ first saved h.
    let place = c.script.inside.place in
    let work = c.script.inside.work in
    let q = c.in-Ok.place in
    let old = g.D.Disk.history c.args.disk.now in
    let new = g.D.Disk.history c.close-in-Ok.new.disk in
    let ga = g.K.Sink.given c.args.out.now in
    let gb = g.K.Sink.given c.close-in-Ok.new.out in
    let here : HoldsBase first saved old (plan_in place.head) work.base =
    subst (λ (s : Running). HoldsState first saved s.checkpoint old (plan_in s.doing.place.head) (held_of s) s.store) (sym c.script.view_is) h in
    let stays = c.closes.ensures place q c.in-Ok.ensures in
    let of = c.script.invariant.holds.of_head in
    let line : c.saturating_add-line.result ≡ line_after place.lines = c.saturating_add-line.ensures in
    subst (λ (s : Running). Keeps (PassesTurns (ending_of c.args.drains s.doing) s.doing (held_of s)) (plan_in s.doing.place.head) old new ga gb)
    c.script.view_is
    (closed_keeps place q work c.in-Ok.ensures stays of c.args.drains first saved old here new ga gb
    (c.close-in-Ok.ensures.keeps first saved (doing_of q work)
    (end_is place q work c.saturating_add-line.result c.script.invariant.counted c.in-Ok.ensures line)
    (closed_holds place q work c.in-Ok.ensures stays of c.args.drains first saved old here)))

pub returns-in-Ok-clause-laid : goal.returns-in-Ok-clause-laid
returns-in-Ok-clause-laid g c = λ first saved h which.
    let place = c.script.inside.place in
    let work = c.script.inside.work in
    let q = c.in-Ok.place in
    let old = g.D.Disk.history c.args.disk.now in
    let new = g.D.Disk.history c.close-in-Ok.new.disk in
    let here : HoldsBase first saved old (plan_in place.head) work.base =
    subst (λ (s : Running). HoldsState first saved s.checkpoint old (plan_in s.doing.place.head) (held_of s) s.store) (sym c.script.view_is) h in
    let stays = c.closes.ensures place q c.in-Ok.ensures in
    let of = c.script.invariant.holds.of_head in
    let line : c.saturating_add-line.result ≡ line_after place.lines = c.saturating_add-line.ensures in
    subst (λ (s : Running). LeavesLaid first (saved_over (ending_of c.args.drains s.doing) s saved) s.checkpoint new (plan_in s.doing.place.head)
    (held_behind (ending_of c.args.drains s.doing) s.doing (held_of s)))
    c.script.view_is
    (closed_laid place q work c.in-Ok.ensures stays of c.args.drains first saved old here new
    (c.close-in-Ok.ensures.laid first saved (doing_of q work)
    (end_is place q work c.saturating_add-line.result c.script.invariant.counted c.in-Ok.ensures line)
    (closed_holds place q work c.in-Ok.ensures stays of c.args.drains first saved old here) which))

-- ---- where it is, or there was no memory

pub returns-in-Err-Memory-clause-keeps : goal.returns-in-Err-Memory-clause-keeps
returns-in-Err-Memory-clause-keeps g c = λ first saved h.
    let s = c.args.script in
    let plan = plan_in s.doing.place.head in
    let disk = g.D.Disk.history c.args.disk.now in
    let now = g.K.Sink.given c.args.out.now in
    keeps_none on_turn held_then plan (ending_of c.args.drains s.doing) s.doing (held_of s) disk now (Appends-nil now)
    (holds_leave first saved s.checkpoint disk plan (held_of s) s.store h)

pub returns-clause-keeps : goal.returns-clause-keeps
returns-clause-keeps g c = λ first saved h.
    let place = c.script.inside.place in
    let work = c.script.inside.work in
    let refusal = c.in-Err-Line.refusal in
    let disk = g.D.Disk.history c.args.disk.now in
    let ga = g.K.Sink.given c.args.out.now in
    let gb = g.K.Sink.given c.refuse.new.out in
    let here : HoldsBase first saved disk (plan_in place.head) work.base =
    subst (λ (s : Running). HoldsState first saved s.checkpoint disk (plan_in s.doing.place.head) (held_of s) s.store) (sym c.script.view_is) h in
    let said = rw c.in-Err-Line.field-0-is at c.in-Err-Line.ensures in
    subst (λ (s : Running). Keeps (PassesTurns (ending_of c.args.drains s.doing) s.doing (held_of s)) (plan_in s.doing.place.head) disk disk ga gb)
    c.script.view_is
    (close_refused place work refusal said.0 said.1 c.args.drains first saved disk here ga gb c.refuse.ensures.front)

pub returns-clause-laid : goal.returns-clause-laid
returns-clause-laid g c = λ first saved h which.
    let place = c.script.inside.place in
    let work = c.script.inside.work in
    let refusal = c.in-Err-Line.refusal in
    let disk = g.D.Disk.history c.args.disk.now in
    let here : HoldsBase first saved disk (plan_in place.head) work.base =
    subst (λ (s : Running). HoldsState first saved s.checkpoint disk (plan_in s.doing.place.head) (held_of s) s.store) (sym c.script.view_is) h in
    let said = rw c.in-Err-Line.field-0-is at c.in-Err-Line.ensures in
    subst (λ (s : Running). LeavesLaid first (saved_over (ending_of c.args.drains s.doing) s saved) s.checkpoint disk (plan_in s.doing.place.head)
    (held_behind (ending_of c.args.drains s.doing) s.doing (held_of s))) c.script.view_is
    (close_refused_laid place work refusal said.0 said.1 c.args.drains first saved disk here)

-- ---- what a stop leaves

pub returns-in-Ok-clause-left : goal.returns-in-Ok-clause-left
returns-in-Ok-clause-left g c = λ first saved h.
    let place = c.script.inside.place in
    let work = c.script.inside.work in
    let q = c.in-Ok.place in
    let old = g.D.Disk.history c.args.disk.now in
    let new = g.D.Disk.history c.close-in-Ok.new.disk in
    let here : HoldsBase first saved old (plan_in place.head) work.base =
    subst (λ (s : Running). HoldsState first saved s.checkpoint old (plan_in s.doing.place.head) (held_of s) s.store) (sym c.script.view_is) h in
    let stays = c.closes.ensures place q c.in-Ok.ensures in
    let of = c.script.invariant.holds.of_head in
    let line : c.saturating_add-line.result ≡ line_after place.lines = c.saturating_add-line.ensures in
    subst (λ (s : Running). LeavesAll old new (IsLeft s.checkpoint (ending_of c.args.drains s.doing) s.doing saved)) c.script.view_is
    (closed_left place q work c.in-Ok.ensures stays of c.args.drains first saved old here new
    (c.close-in-Ok.ensures.left first saved (doing_of q work)
    (end_is place q work c.saturating_add-line.result c.script.invariant.counted c.in-Ok.ensures line)
    (closed_holds place q work c.in-Ok.ensures stays of c.args.drains first saved old here)))

pub returns-in-Err-Memory-clause-left : goal.returns-in-Err-Memory-clause-left
returns-in-Err-Memory-clause-left g c = λ first saved h.
    let s = c.args.script in
    left_still s.checkpoint first (ending_of c.args.drains s.doing) s.doing saved (g.D.Disk.history c.args.disk.now) (plan_in s.doing.place.head) (held_of s)
    s.store h

pub returns-clause-left : goal.returns-clause-left
returns-clause-left g c = λ first saved h.
    let s = c.args.script in
    left_still s.checkpoint first (ending_of c.args.drains s.doing) s.doing saved (g.D.Disk.history c.args.disk.now) (plan_in s.doing.place.head) (held_of s)
    s.store h
