use Rattle.std.proofs.Common.{◌++◌, ◌∷◌, [], subst, ◌∙◌}
use Rattle.std.specs.Option.{IfSome}
use Rattle.tbl_snapshot.specs.Places.{HasPlaces}
use Rattle.tbl_snapshot.proofs.Marked.{marked_more}
use Rattle.tbl_snapshot.proofs.reads.Reads.add.Goals as goal

pub invariant_of-self-2 : goal.invariant_of-self-2
invariant_of-self-2 c = rw (c.with_bit-self-inside.ensures, c.in_ok-push.ensures.items, c.make_room.ensures) (
  marked_more c.self.inside.bits c.args.hash c.self.inside.keys.items c.args.key c.requires c.self.invariant.0,
  subst (λ ks. IfSome c.in_ok-places.places (HasPlaces (ks ++ c.args.key ∷ []))) (c.as_slice.ensures.value ∙ c.make_room.ensures) c.in_ok-places.ensures,
)
