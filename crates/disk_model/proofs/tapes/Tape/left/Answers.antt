use Rattle.std.proofs.Common.{length, ap, arith, length-take}
use Rattle.disk_model.specs.Tapes.{Calls}
use Rattle.disk_model.proofs.Noted.{length_steps_of}
use Rattle.disk_model.proofs.tapes.Tape.left.Goals as goal

pub slice_bounds-left_by-end : goal.slice_bounds-left_by-end
slice_bounds-left_by-end c =
    let same = ap (λ (t : Calls). length t.steps) c.self.view_is in
    omega (arith, same, length_steps_of c.self.inside.entries.items c.self.inside.bytes.items, length-take c.args.calls c.deref.result.now, c.deref.ensures.len)
