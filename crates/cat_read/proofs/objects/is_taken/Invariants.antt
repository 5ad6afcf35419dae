use Rattle.std.proofs.Common.{◌≡◌, drop, map}
use Rattle.std.specs.List.{list_any}
use Rattle.std.specs.Str.{bytes_eq}
use Rattle.cat_read.proofs.objects.is_taken.Given as goal

abbrev pub invariant-loop-one : goal.invariant-loop-one
invariant-loop-one g l = list_any (bytes_eq l.name) (map g.T.Named.name_of (drop l.one-index l.earlier)) ≡ list_any (bytes_eq l.name)
    (map g.T.Named.name_of l.earlier)
