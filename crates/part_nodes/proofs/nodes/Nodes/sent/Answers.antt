use Rattle.std.proofs.Common.{◌≡◌, length, sym, ◌∙◌, arith}
use Rattle.std.proofs.lemmas.List.{length-map}
use Rattle.node_batch.specs.Letters.{message_of}
use Rattle.part_nodes.proofs.nodes.Nodes.sent.Goals as goal

pub returns-clause-sent : goal.returns-clause-sent
returns-clause-sent c =
    let w = c.args.self.now.world in
    let long = c.len.ensures in
    let ok = w.sent.ok.0 in
    let same : c.len.result ≡ length w.sent.items = omega arith in
    same ∙ sym (length-map w.sent.items message_of)
