use Rattle.std.proofs.Common.{◌<◌, ◌∙◌, ap, subst, All, None}
use Rattle.batch_rules.specs.Verdicts.{verdict_by}
use Rattle.dep_rules.specs.Sheets.{reads_at, writes_at}
use Rattle.dep_rules.specs.Words.{least_of, told}
use Rattle.dep_rules.specs.declared.decisions.Side.TheVariants as side
use Rattle.dep_rules.proofs.Leasts.{least_written, least_read}
use Rattle.dep_rules.proofs.decisions.decide.Goals as goal

pub returns : goal.returns
returns c =
    let sheet = c.args.numbered.now in
    let words = c.args.words.now in
    let tag = c.args.tag in
    let tid = c.args.tid in
    let Below = All (λ k. k < sheet.keys) in
    let writes : Below (writes_at sheet tid) = subst Below c.writes_of-writes.ensures.list c.writes_of-writes.ensures.below in
    let reads : Below (reads_at sheet tid) = subst Below c.reads_of-reads.ensures.list c.reads_of-reads.ensures.below in
    let written = least_written sheet tag words c.requires.words tid c.requires.tid in
    let read = least_read sheet tag words c.requires.words tid c.requires.tid in
    let waw = c.least_before-waw.ensures ∙ ap (least_of (told words tag side.Writes tid) None) c.writes_of-writes.ensures.list
    ∙ written (writes_at sheet tid) writes in
    let raw = c.least_before-raw.ensures ∙ ap (least_of (told words tag side.Writes tid) None) c.reads_of-reads.ensures.list
    ∙ written (reads_at sheet tid) reads in
    let war = c.least_before-war.ensures ∙ ap (least_of (told words tag side.Reads tid) None) c.writes_of-writes.ensures.list
    ∙ read (writes_at sheet tid) writes in
    c.decided.ensures ∙ (λ i. verdict_by c.args.rule (waw i) (raw i) (war i))
