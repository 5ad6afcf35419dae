-- Events that are equal in the order of the set are one.
use Rattle.std.proofs.Common.{◌≡◌, refl, Ordering, arith}
use Rattle.std.specs.declared.cmp.Ordering.TheVariants.{Equal}
use Rattle.std.specs.Ordering.{ordering_then}
use Rattle.std.specs.Cmp.{tied_itself}
use Rattle.std.proofs.lemmas.Cmp.{nat_cmp_total}
use Rattle.core_machine.specs.declared.events.Event.{Event}
use Rattle.core_machine.specs.declared.events.Event.TheVariants.{Execute, MarkRead, MarkWrite, Decide, Install, Turn}
use Rattle.core_machine.specs.contracts.events.EventOrd.TheImpl as order

abbrev pub event_cmp : Event → Event → Ordering
event_cmp = order.cmp-value.it

pub exact : (x y : Event) → event_cmp x y ≡ Equal → x ≡ y
exact x y e = grind arith

pub itself : (x : Event) → event_cmp x x ≡ Equal
itself (Execute i) = tied_itself nat_cmp_total i
itself (MarkRead i p) = λ t. ordering_then (tied_itself nat_cmp_total i t) (tied_itself nat_cmp_total p t)
itself (MarkWrite i p) = λ t. ordering_then (tied_itself nat_cmp_total i t) (tied_itself nat_cmp_total p t)
itself (Decide i) = tied_itself nat_cmp_total i
itself (Install i p) = λ t. ordering_then (tied_itself nat_cmp_total i t) (tied_itself nat_cmp_total p t)
itself Turn = refl
