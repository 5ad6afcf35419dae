use Rattle.std.proofs.Common.{◌++◌, ◌∷◌, [], length, map, sym, ap, ◌∙◌}
use Rattle.std.proofs.lemmas.List.{map-append}
use Rattle.node_batch.specs.Entries.{entry_of}
use Rattle.node_batch.specs.Sames.{same_message}
use Rattle.node_batch.proofs.Ended.{rows_end, waiting_end}
use Rattle.node_batch.proofs.Kept.{many_runs, many_parts, many_fates}
use Rattle.node_seats.specs.Nodes.{settled_of}
use Rattle.node_seats.proofs.seats.Seat.complete.Goals as goal

pub entries-requires-clause-fates : goal.entries-requires-clause-fates
entries-requires-clause-fates c = let f = c.requires.shown in many_fates c.args.catalog.now f.0 same_message f.1 _ _ _ _ _ _ _ _ _ f.2

pub entries-requires-clause-runs : goal.entries-requires-clause-runs
entries-requires-clause-runs c = let f = c.requires.shown in many_runs c.args.catalog.now f.0 same_message f.1 _ _ _ _ _ _ _ _ _ f.2

pub go_on-requires-clause-parts : goal.go_on-requires-clause-parts
go_on-requires-clause-parts c =
    let f = c.requires.shown in
    many_fates c.args.catalog.now f.0 same_message f.1 _ _ _ _ _ _ _ _ _ f.2
    ∙ sym (many_parts c.args.catalog.now f.0 same_message f.1 _ _ _ _ _ _ _ _ _ f.2)

pub go_on-requires-clause-list : goal.go_on-requires-clause-list
go_on-requires-clause-list c = let f = c.requires.shown in many_fates c.args.catalog.now f.0 same_message f.1 _ _ _ _ _ _ _ _ _ f.2

pub returns : goal.returns
returns c = λ rule desk shows.
    let waits = waiting_end c.args.catalog.now rule same_message desk c.args.self.now.bench shows in
    record {
      rows = c.in_ok-carried.ensures.rows ∙ rows_end c.args.catalog.now rule same_message desk c.args.self.now.bench shows;
      list = c.in_ok-carried.ensures.list ∙ ap (λ l. l ++ c.args.new.now) waits;
      carried = c.in_ok-carried.ensures.carried ∙ ap length waits;
      entries = ap (map (λ batch. map entry_of batch.items)) c.in_ok-push.ensures.items
          ∙ map-append (λ batch. map entry_of batch.items) c.args.self.now.entries.items _
          ∙ ap (λ e. settled_of c.args.self.now ++ e ∷ []) (c.in_ok-own.ensures rule same_message desk shows);
      given = c.none.ensures;
      site = c.in_ok-carried.ensures.site;
      shows = λ plan rule after. c.in_ok-carried.ensures.shows plan rule same_message after;
    }
