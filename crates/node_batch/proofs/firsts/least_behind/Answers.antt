use Rattle.std.proofs.Common.{◌∙◌, ap, None}
use Rattle.batch_rules.specs.Touches.{keys_of}
use Rattle.node_batch.specs.Firsts.{first_in, least_told, reads_in, writes_in}
use Rattle.node_batch.proofs.Noted.{least_is}
use Rattle.node_batch.proofs.firsts.least_behind.Goals as goal

pub returns : goal.returns
returns c = λ earlier writers readers.
    let waw = c.least_of_rows.ensures ∙ ap (λ rows. least_told (first_in c.args.writers.now) None (keys_of rows)) c.as_slice.ensures
    ∙ least_is writes_in earlier c.args.writers.now writers (keys_of c.args.part.now.rows) in
    let raw = c.least_of_keys.ensures ∙ ap (λ keys. least_told (first_in c.args.writers.now) None keys) c.as_slice-2.ensures
    ∙ least_is writes_in earlier c.args.writers.now writers c.args.part.now.reads in
    let war = c.least_of_rows-2.ensures ∙ ap (λ rows. least_told (first_in c.args.readers.now) None (keys_of rows)) c.as_slice-3.ensures
    ∙ least_is reads_in earlier c.args.readers.now readers (keys_of c.args.part.now.rows) in
    λ i. record { waw = waw i; raw = raw i; war = war i }
