use Rattle.std.proofs.Common.{◌<◌, ◌-◌, ◌∙◌, ap, subst, All, None, take}
use Rattle.std.specs.Prelude.{slice_index_or}
use Rattle.std.proofs.lemmas.List.Elements.{All-take}
use Rattle.batch_rules.specs.Verdicts.{verdict_by}
use Rattle.dep_rules.specs.Sheets.{reads_at, writes_at}
use Rattle.dep_rules.specs.Words.{least_of}
use Rattle.dep_rules.proofs.Leasts.{least_written, least_read}
use Rattle.range_marks.specs.Decisions.{own_at, writer_of, reader_of}
use Rattle.range_marks.proofs.decisions.decide_scanning.Goals as goal

pub returns : goal.returns
returns c =
    let sheet = c.args.numbered.now in
    let words = c.args.words.now in
    let tag = c.args.tag in
    let tid = c.args.tid in
    let Below = All (λ k. k < sheet.keys) in
    let writes : Below (writes_at sheet tid) = subst Below c.writes_of-writes.ensures.list c.writes_of-writes.ensures.below in
    let reads : Below (reads_at sheet tid) = subst Below c.reads_of-reads.ensures.list c.reads_of-reads.ensures.below in
    let own : Below (own_at sheet c.args.counts.now tid) = All-take (λ k. k < sheet.keys) _ (writes_at sheet tid) writes in
    let written = least_written sheet tag words c.requires.words tid c.requires.tid in
    let read = least_read sheet tag words c.requires.words tid c.requires.tid in
    let waw = c.least_writer-waw.ensures ∙ ap (λ l. least_of (writer_of words tag tid) None (take (slice_index_or c.args.counts.now (tid - 1) 0) l))
    c.writes_of-writes.ensures.list ∙ written (own_at sheet c.args.counts.now tid) own in
    let raw = c.least_writer-raw.ensures ∙ ap (least_of (writer_of words tag tid) None) c.reads_of-reads.ensures.list ∙ written (reads_at sheet tid) reads in
    let war = c.least_reader-war.ensures ∙ ap (least_of (reader_of words tag tid) None) c.writes_of-writes.ensures.list ∙ read (writes_at sheet tid) writes in
    c.decided.ensures ∙ (λ i. verdict_by c.args.rule (waw i) (raw i) (war i))
