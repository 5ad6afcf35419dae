use Rattle.std.proofs.Common.{refl, sym, ap, ◌∙◌, arith, ◌++◌, map}
use Rattle.std.proofs.lemmas.List.{append-nil}
use Rattle.node_batch.specs.Letters.{message_of, holders_of}
use Rattle.node_batch.specs.Holds.{fates_mails}
use Rattle.node_batch.proofs.Kept.{hold_told, shows_least, no_fates, all_fates}
use Rattle.node_batch.proofs.node_batches.NodeBatch.take_least.Goals as goal

pub returns-then-hold-self-clause-shows : goal.returns-then-hold-self-clause-shows
returns-then-hold-self-clause-shows c = λ plan same desk m shows is_tid e from none.
    let new = c.heard_also-hold.result in
    let has = hold_told plan c.args.rule same desk _ _ _ _ _ _ _ _ _ shows m c.args.tid c.requires.low c.requires.high is_tid
    (holders_of c.args.least) e from none c.index.result.now new c.index.ensures c.heard_also-hold.ensures in (
      shows_least plan c.args.rule same desk _ _ _ _ _ _ _ _ _ shows m c.args.tid c.requires.low c.requires.high is_tid
          (holders_of c.args.least) e from none new has _ refl,
      sym (ap (λ l. map message_of c.args.out.now.items ++ l)
          (no_fates plan c.args.rule same desk _ _ _ _ _ _ _ _ _ shows m c.args.tid c.requires.low c.requires.high is_tid
          (holders_of c.args.least) e from none new has c.if-hold-self.true) ∙ append-nil _),
    )

pub returns-clause-shows : goal.returns-clause-shows
returns-clause-shows c = λ plan same desk m shows is_tid e from none.
    let new = c.heard_also-hold.result in
    let has = hold_told plan c.args.rule same desk _ _ _ _ _ _ _ _ _ shows m c.args.tid c.requires.low c.requires.high is_tid
    (holders_of c.args.least) e from none c.index.result.now new c.index.ensures c.heard_also-hold.ensures in
    let few = c.requires.few c.index.result.now in
    let one_more = ap (λ h. h.heard) c.heard_also-hold.ensures in
    let old = ap (λ h. h.heard) c.index.ensures in
    let most = c.if-hold-self.false in (
      shows_least plan c.args.rule same desk _ _ _ _ _ _ _ _ _ shows m c.args.tid c.requires.low c.requires.high is_tid
          (holders_of c.args.least) e from none new has _ refl,
      c.in_ok-push_fates.ensures ∙ ap (λ v. map message_of c.args.out.now.items ++ fates_mails c.args.self.now.site c.args.tid v) c.verdict_of.ensures
          ∙ ap (λ l. map message_of c.args.out.now.items ++ l)
          (all_fates plan c.args.rule same desk _ _ _ _ _ _ _ _ _ shows m c.args.tid c.requires.low c.requires.high is_tid
          (holders_of c.args.least) e from none new has (omega arith)),
    )
