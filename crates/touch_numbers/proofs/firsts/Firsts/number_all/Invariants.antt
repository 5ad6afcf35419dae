use Rattle.std.proofs.Common.{◌≡◌, length, drop, take}
use Rattle.touch_numbers.proofs.FirstTouches.{ListSoFar}
use Rattle.touch_numbers.proofs.firsts.Firsts.number_all.Given as goal

abbrev pub invariant-loop-place : goal.invariant-loop-place
invariant-loop-place l = record {
  long : length l.self.given.items ≡ length l.initial.self.given.items;
  each : length l.touches.items ≡ length l.initial.touches.items;
  rest : drop l.place l.touches.items ≡ drop l.place l.initial.touches.items;
  so_far : ListSoFar l.initial.self.given.items l.initial.self.count l.self.given.items l.self.count l.initial.touches.items l.place (take l.place l.touches.items);
}
