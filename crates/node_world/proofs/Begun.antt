-- Nodes before the first event, in code.
use Rattle.std.proofs.Common.{◌≡◌, ◌<◌, ◌≤◌, [], map, refl, ap, ◌∙◌}
use Rattle.aria_base.specs.Orders.{Database}
use Rattle.node_rules.specs.Worlds.{at_first}
use Rattle.node_batch.specs.Letters.{message_of}
use Rattle.node_seats.specs.Seats.{AreFirst}
use Rattle.node_world.specs.Worlds.{net_in, world_in, Keeps}
use Rattle.node_world.specs.declared.worlds.World.{World}
use Rattle.node_seats.proofs.Beginning.{world_first, kept_first}
use Rattle.node_world.proofs.Parts.{Parts, world_by, parts_in, kept_on, same_parts}

module _ (w : World) (db : Database) (started : w.started.items ≡ []) (sent : w.sent.items ≡ []) (given : w.given.items ≡ []) (requests : w.requests ≡ 0)
    (seats : AreFirst w.nodes db w.nodes w.seats.items) where
  abbrev first : Parts
  first = record {
    plan = w.catalog;
    rule = w.rule;
    nodes = w.nodes;
    started = [];
    requests = 0;
    sent = [];
    flags = [];
    seats = w.seats.items;
  }

  shown : parts_in w ≡ first
  shown = same_parts w first refl refl refl (ap (map (λ new. new.items)) started) requests (ap (map message_of) sent) given refl

  pub begun_kept : 0 < w.nodes → w.nodes ≤ 8 → Keeps db w
  begun_kept some few = kept_on w first shown db (kept_first w.catalog w.rule w.nodes db w.seats.items seats some few)

  pub begun_world : world_in db w ≡ at_first (net_in w) db
  begun_world = ap (world_by db) shown ∙ world_first w.catalog w.rule w.nodes db w.seats.items seats
