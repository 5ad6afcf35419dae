use Rattle.std.proofs.Common.{◌++◌, ◌∷◌, [], sym, subst, ◌∙◌}
use Rattle.std.specs.Option.{IfSome}
use Rattle.batch_rules.specs.Touches.{keys_of}
use Rattle.tbl_snapshot.specs.Marks.{AllMarked, with_bit}
use Rattle.tbl_snapshot.specs.Places.{HasPlaces}
use Rattle.tbl_snapshot.proofs.Marked.{marked_more}
use Rattle.tbl_snapshot.proofs.Placed.{keys_more}
use Rattle.tbl_snapshot.proofs.writes.Writes.add.Goals as goal

pub invariant_of-self-2 : goal.invariant_of-self-2
invariant_of-self-2 c = rw (c.with_bit-self-inside.ensures, c.in_ok-push.ensures.items, c.make_room.ensures) (
    subst (λ ks. AllMarked (with_bit c.self.inside.bits c.args.hash) ks × IfSome c.in_ok-places.places (HasPlaces ks))
    (sym (keys_more c.self.inside.rows.items c.args.key c.args.row)) (
      marked_more c.self.inside.bits c.args.hash (keys_of c.self.inside.rows.items) c.args.key c.requires c.self.invariant.0,
      subst (λ ws. IfSome c.in_ok-places.places (HasPlaces (keys_of ws ++ c.args.key ∷ []))) (c.as_slice.ensures.value ∙ c.make_room.ensures)
          c.in_ok-places.ensures,
    ))
