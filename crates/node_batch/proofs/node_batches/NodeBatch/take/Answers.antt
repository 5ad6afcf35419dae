use Rattle.std.proofs.Common.{◌≡◌, ◌≤◌, ◌++◌, refl, sym, ap, ◌∙◌, arith, map}
use Rattle.std.proofs.lemmas.List.{append-nil}
use Rattle.node_rules.specs.Messages.{Marks}
use Rattle.node_rules.specs.Newses.{news_by}
use Rattle.node_batch.specs.Letters.{net_of, content_of, message_of, sets_of, holders_of}
use Rattle.node_batch.proofs.Takes.{listed, runs_long, parts_long, fates_long, parts_left, verdicts_left, nodes_left}
use Rattle.node_batch.proofs.node_batches.NodeBatch.take.Goals as goal

pub returns-in-Ask-clause-shows : goal.returns-in-Ask-clause-shows
returns-in-Ask-clause-shows c = λ same desk shows fresh.
    c.in_ok-take_ask-in-Ask.ensures c.args.catalog.now c.args.rule same desk (message_of c.args.letter.now) shows refl (ap content_of c.in-Ask.is)

pub take_told-requires-clause-runs : goal.take_told-requires-clause-runs
take_told-requires-clause-runs c =
    let f = c.requires.fresh in
    runs_long c.args.catalog.now c.args.rule f.0 f.1 c.args.self.now f.2 (message_of c.args.letter.now) f.3

pub returns-in-Told-clause-shows : goal.returns-in-Told-clause-shows
returns-in-Told-clause-shows c = λ same desk shows fresh.
    c.in_ok-take_told-in-Told.ensures.shows c.args.rule same desk (message_of c.args.letter.now) shows refl (ap content_of c.in-Told.is)

pub take_marks-requires-clause-high : goal.take_marks-requires-clause-high
take_marks-requires-clause-high c =
    let f = c.requires.fresh in
    let high = listed c.args.catalog.now c.args.rule f.0 f.1 c.args.self.now f.2 (message_of c.args.letter.now) f.3 in
    let long = parts_long c.args.catalog.now c.args.rule f.0 f.1 c.args.self.now f.2 (message_of c.args.letter.now) f.3 in
    omega arith

pub take_marks-requires-clause-few : goal.take_marks-requires-clause-few
take_marks-requires-clause-few c =
    let f = c.requires.fresh in
    let few = c.requires.few in
    let long = parts_long c.args.catalog.now c.args.rule f.0 f.1 c.args.self.now f.2 (message_of c.args.letter.now) f.3 in
    omega arith

pub take_marks-requires-clause-left : goal.take_marks-requires-clause-left
take_marks-requires-clause-left c =
    let f = c.requires.fresh in
    parts_left c.args.catalog.now c.args.rule f.0 f.1 c.args.self.now f.2 (message_of c.args.letter.now) f.3 (sets_of c.in-Marks.part)
    (ap content_of c.in-Marks.is)

pub returns-in-Marks-clause-shows : goal.returns-in-Marks-clause-shows
returns-in-Marks-clause-shows c = λ same desk shows fresh.
    c.in_ok-take_marks-in-Marks.ensures.shows c.args.catalog.now c.args.rule same desk (message_of c.args.letter.now) shows refl
    (ap content_of c.in-Marks.is ∙ ap Marks (sym c.in_ok-part-in-Marks.ensures)) (fresh.marks (sets_of c.in-Marks.part) (ap content_of c.in-Marks.is))

pub take_least-requires-clause-few : goal.take_least-requires-clause-few
take_least-requires-clause-few c = λ d.
    let f = c.requires.fresh in
    nodes_left c.args.catalog.now c.args.rule f.0 f.1 c.args.self.now f.2 (message_of c.args.letter.now) f.3 (holders_of c.in-Least.least)
    (ap content_of c.in-Least.is) d

pub returns-in-Least-clause-shows : goal.returns-in-Least-clause-shows
returns-in-Least-clause-shows c = λ same desk shows fresh.
    c.in_ok-take_least-in-Least.ensures.shows c.args.catalog.now same desk (message_of c.args.letter.now) shows refl (ap content_of c.in-Least.is)
    fresh.sender (fresh.holders (holders_of c.in-Least.least) (ap content_of c.in-Least.is))

pub take_fate-requires-clause-high : goal.take_fate-requires-clause-high
take_fate-requires-clause-high c =
    let f = c.requires.fresh in
    let high = listed c.args.catalog.now c.args.rule f.0 f.1 c.args.self.now f.2 (message_of c.args.letter.now) f.3 in
    let long = fates_long c.args.catalog.now c.args.rule f.0 f.1 c.args.self.now f.2 (message_of c.args.letter.now) f.3 in
    omega arith

pub take_fate-requires-clause-few : goal.take_fate-requires-clause-few
take_fate-requires-clause-few c =
    let f = c.requires.fresh in
    verdicts_left c.args.catalog.now c.args.rule f.0 f.1 c.args.self.now f.2 (message_of c.args.letter.now) f.3 c.in-Fate.verdict
    (ap content_of c.in-Fate.is)

pub returns-in-Fate-clause-shows : goal.returns-in-Fate-clause-shows
returns-in-Fate-clause-shows c = λ same desk shows fresh.
    let net = net_of c.args.catalog.now c.args.rule c.args.self.now.site.nodes same in
    let none = ap (news_by net desk (message_of c.args.letter.now)) (ap content_of c.in-Fate.is) in (
      c.take_fate.ensures.shows c.args.catalog.now c.args.rule same desk (message_of c.args.letter.now) shows refl (ap content_of c.in-Fate.is)
          (fresh.fate c.in-Fate.verdict (ap content_of c.in-Fate.is)),
      sym (ap (λ l. map message_of c.args.out.now.items ++ l) none ∙ append-nil (map message_of c.args.out.now.items)),
    )
