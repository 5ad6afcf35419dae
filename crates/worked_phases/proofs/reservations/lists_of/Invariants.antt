use Rattle.std.proofs.Common.{◌≡◌, length, map}
use Rattle.dep_rules.specs.Sheets.{AllBelow}
use Rattle.worked_phases.proofs.reservations.lists_of.Given as goal

abbrev pub invariant-loop-place : goal.invariant-loop-place
invariant-loop-place l = (length l.all.items ≡ l.place) × AllBelow l.keys (map (λ v. v.items) l.all.items)
