use Rattle.std.proofs.Common.{◌≡◌, ◌∙◌, ap, [], None, length}
use Rattle.std.specs.Prelude.{replicate}
use Rattle.node_rules.specs.Dues.{no_sets}
use Rattle.node_batch.specs.Holds.{no_hold}
use Rattle.node_batch.proofs.Blank.{bare_shows}
use Rattle.node_batch.proofs.node_batches.NodeBatch.lengthen.Goals as goal

pub returns-clause-shows : goal.returns-clause-shows
returns-clause-shows c = λ plan rule same desk bare.
    let long : c.len-many.result ≡ length c.push_copies.new.list.items = c.len-many.ensures ∙ c.push_copies.new.list.ok.0 in
    bare_shows plan rule same _ _ _ _ _ _ _ (c.in_ok-self.ensures ∙ ap (λ n. replicate n []) long) (c.in_ok-self-2.ensures
    ∙ ap (λ n. replicate n no_sets) long)
    (c.in_ok-self-3.ensures ∙ ap (λ n. replicate n no_hold) long) (c.in_ok-self-4.ensures ∙ ap (λ n. replicate n None) long) desk bare
