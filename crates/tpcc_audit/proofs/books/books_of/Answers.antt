use Rattle.std.proofs.Common.{rules, sym, ap, subst, ◌∙◌, ◌<◌, ◌≤◌, length, map, take}
use Rattle.std.proofs.lemmas.List.{take_all}
use Rattle.std.specs.Map.Iter.{deref_pair}
use Rattle.tpcc_audit.specs.Books.{Keeps}
use Rattle.tpcc_audit.specs.Facts.{fact_of}
use Rattle.tpcc_audit.proofs.Bounds.{bounded_roomy}
use Rattle.tpcc_audit.proofs.Notes.{kept-more, told-more}
use Rattle.tpcc_audit.proofs.books.books_of.Goals as goal

pub note-requires : goal.note-requires
note-requires c = bounded_roomy c.loop-key.key-index c.loop-key.kept (search rules) c.loop-key.invariant.bounded

pub loop-key-preserved : goal.loop-key-preserved
loop-key-preserved c =
    let l = c.loop-key in
    let rows = c.args.rows.now in
    let below : l.key-index < length rows = search rules in
    record {
      kept = subst (Keeps c.note.new.self)
          (sym (told-more fact_of deref_pair rows l.key-index c.loop-key-item.result c.fact_of.result below (c.fact_of.ensures
          ∙ ap (λ r. fact_of (deref_pair r)) c.loop-key-item.is)))
          (kept-more l.kept c.note.new.self (map fact_of (map deref_pair (take l.key-index rows))) c.fact_of.result c.in_ok-note.ensures.noted
          l.invariant.kept);
      bounded = c.in_ok-note.ensures.bounded l.key-index l.invariant.bounded;
    }

pub returns : goal.returns
returns c =
    let l = c.loop-key in
    let past : length c.args.rows.now ≤ l.key-index = search rules in
    subst (λ rows. Keeps l.kept (map fact_of (map deref_pair rows))) (take_all l.key-index c.args.rows.now past) l.invariant.kept
