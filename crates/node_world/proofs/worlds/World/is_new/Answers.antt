use Rattle.std.proofs.Common.{◌≡◌, ◌<◌, ℕ, Bool, length, sym, ◌∙◌, false}
use Rattle.std.specs.Prelude.{slice_index_or}
use Rattle.std.proofs.lemmas.Option.{get_or_from_slice_get}
use Rattle.node_world.specs.declared.worlds.World.{World}
use Rattle.std.proofs.lemmas.Bool.{eqb-true, eq-eqb, true≢false}
use Rattle.node_seats.proofs.Keeping.{stands}
use Rattle.node_world.proofs.Delivered.{flagged_there, to_seat, is_given, is_other, is_current}
use Rattle.node_world.proofs.worlds.World.is_new.Goals as goal

flag_at : (w : World) (k : ℕ) (flag : Bool) → k < length w.given.items → flag ≡ slice_index_or w.given.items k flag
    → slice_index_or w.given.items k false ≡ flag
flag_at w k flag within is = get_or_from_slice_get w.given.items k flag false (stands w.given.items k flag within is)

pub index-requires : goal.index-requires
index-requires c =
    let ready = c.requires.ready in
    rw c.args.self.now.given.ok.0 (flagged_there ready.0 c.args.self.now ready.1 c.args.k c.requires.sent)

pub returns-then-index-clause-old : goal.returns-then-index-clause-old
returns-then-index-clause-old c = λ e.
    let w = c.args.self.now in
    let ready = c.requires.ready in
    let within = flagged_there ready.0 w ready.1 c.args.k c.requires.sent in
    is_given w c.args.k (flag_at w c.args.k c.index.result.now within c.index.ensures ∙ c.if-index.true)

pub index-requires-2 : goal.index-requires-2
index-requires-2 c =
    let ready = c.requires.ready in
    let l = c.index-letter.result.now in
    rw c.args.self.now.seats.ok.0
    (to_seat ready.0 c.args.self.now ready.1 c.args.k l (stands c.args.self.now.sent.items c.args.k l c.requires.sent c.index-letter.ensures))

pub returns-clause-new : goal.returns-clause-new
returns-clause-new c = λ e.
    let w = c.args.self.now in
    let l = c.index-letter.result.now in
    let s = c.index-2.result.now in
    let at = stands w.sent.items c.args.k l c.requires.sent c.index-letter.ensures in
    let ready = c.requires.ready in
    is_current w c.args.k l at s (stands w.seats.items l.addressee s (to_seat ready.0 w ready.1 c.args.k l at) c.index-2.ensures)
    (flag_at w c.args.k c.index.result.now (flagged_there ready.0 w ready.1 c.args.k c.requires.sent) c.index.ensures ∙ c.if-index.false)
    (eqb-true l.batch s.bench.site.batch e)

pub returns-clause-old : goal.returns-clause-old
returns-clause-old c = λ e.
    let w = c.args.self.now in
    let l = c.index-letter.result.now in
    let s = c.index-2.result.now in
    let at = stands w.sent.items c.args.k l c.requires.sent c.index-letter.ensures in
    let ready = c.requires.ready in
    is_other w c.args.k l at s (stands w.seats.items l.addressee s (to_seat ready.0 w ready.1 c.args.k l at) c.index-2.ensures)
    (λ same. absurd (true≢false (sym (eq-eqb l.batch s.bench.site.batch same) ∙ e)))
