use Rattle.std.proofs.Common.{◌≡◌, flat_map, map, ap, arith, rules}
use Rattle.std.proofs.lemmas.List.{nil_from_length}
use Rattle.std.proofs.lemmas.Result.{err_from_is_err_and}
use Rattle.std.specs.Map.Iter.{deref_pair}
use Rattle.std.specs.Slice.Iter.{chunks_rest}
use Rattle.answer_text.specs.States.{row_text}
use Rattle.gen_command.proofs.Leads.{rows_cut, leads_same, leads_on, leads_cut, leads_end}
use Rattle.gen_command.proofs.scripts.give_rows.Goals as goal

pub loop-piece-init : goal.loop-piece-init
loop-piece-init g c =
    let all : chunks_rest c.into_iter-piece-iterator.result ≡ c.args.rows.now = search rules in (
      search rules,
      tt,
      omega arith,
      leads_same _ _ (g.K.Sink.given c.args.out.now) (ap (λ rows. flat_map (row_text c.args.tables.now) (map deref_pair rows)) all),
    )

pub loop-piece-preserved : goal.loop-piece-preserved
loop-piece-preserved g c =
    let steps = c.in-Some.ensures.steps in
    let text = row_text c.args.tables.now in
    let parts = rows_cut text deref_pair (chunks_rest c.loop-piece.piece-iterator) c.in-Some.piece.now (chunks_rest c.next.new.self) steps.1.0 in (
      omega (arith, steps.0, c.loop-piece.invariant.0),
      tt,
      omega (arith, c.loop-piece.invariant.2, c.give_piece.ensures.sink),
      leads_on _ _ _ _ _ _ _ parts c.loop-piece.invariant.3 c.in_ok-give_piece.ensures.gives,
    )

pub returns-in_err-give_piece-clause-gives : goal.returns-in_err-give_piece-clause-gives
returns-in_err-give_piece-clause-gives g c =
    let steps = c.in-Some.ensures.steps in
    let text = row_text c.args.tables.now in
    let parts = rows_cut text deref_pair (chunks_rest c.loop-piece.piece-iterator) c.in-Some.piece.now (chunks_rest c.next.new.self) steps.1.0 in
    let p = err_from_is_err_and c.from_residual.result c.from_residual.ensures.1 in
    rw p.1 (leads_cut _ _ _ _ _ _ _ parts c.loop-piece.invariant.3 c.in_err-give_piece.ensures.gives)

pub returns-clause-gives : goal.returns-clause-gives
returns-clause-gives g c =
    let none = nil_from_length _ c.in-None.ensures.steps.1.0 in
    leads_end _ _ _ _ (ap (λ rows. flat_map (row_text c.args.tables.now) (map deref_pair rows)) none) c.loop-piece.invariant.3
