-- Events in the set of those that have come.
use Rattle.std.specs.Prelude.{ℕ, Bool}
use Rattle.std.specs.BTreeSet.{BTreeSet, contains}
use Rattle.core_machine.specs.declared.events.Event.{Event}
use Rattle.core_machine.specs.declared.events.Event.TheVariants.{MarkRead, MarkWrite, Install}
use Rattle.core_machine.specs.declared.kinds.Kind.{Kind}
use Rattle.core_machine.specs.declared.kinds.Kind.TheVariants as kind
use Rattle.core_machine.specs.contracts.events.EventOrd.TheImpl as event_order

abbrev pub event_at : Kind → ℕ → ℕ → Event
event_at kind.Read tid place = MarkRead tid place
event_at kind.Write tid place = MarkWrite tid place
event_at kind.Row tid place = Install tid place

abbrev pub is_in : BTreeSet Event → Event → Bool
is_in came e = contains event_order.cmp-value.it came e
