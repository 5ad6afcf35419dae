-- How many messages a batch has: those that its requests may cause, and what is left to do until all nodes are done.
use Rattle.std.specs.Prelude.{⊤, ℕ, ◌+◌, ◌-◌, List, [], ◌∷◌, ◌++◌, map, length, take, flat_map, Contains}
use Rattle.std.specs.declared.cmp.Ordering.{Ordering}
use Rattle.std.specs.FinMap as fin
use Rattle.std.specs.FinMap.{FinMap}
use Rattle.std.specs.List.{range_with_len, enumerate_from}
use Rattle.batch_rules.specs.Trees.{trace_of}
use Rattle.batch_rules.specs.Verdicts.{verdict_on}
use Rattle.node_rules.specs.Messages.{Ask, Told, Marks, Least, Fate, Message}
use Rattle.node_rules.specs.Nets.{Net, owner, all_nodes}
use Rattle.node_rules.specs.Dues.{by_sets, holders_on}
use Rattle.node_rules.specs.Worlds.{World}
use Rattle.node_rules.specs.Truths.{Course, course, on, there, visited}

-- no message is sent twice
abbrev pub NoneTwice : {X : Type 0} → List X → Type 0
NoneTwice [] = ⊤
NoneTwice (x ∷ xs) = (¬ Contains xs x) × NoneTwice xs

-- what is left of so many steps at each node
abbrev pub sum_over : (ℕ → ℕ) → List ℕ → ℕ
sum_over f [] = 0
sum_over f (n ∷ ns) = f n + sum_over f ns

module _ {K V Q A : Type 0} {R : K → K → Ordering} (net : Net R V Q A) where
  module _ (c : Course R V Q) (batch : ℕ) where
    -- the keys that a request touches, one for each access
    abbrev pub touched : Q → List K
    touched q = map visited (trace_of (net.tree q) c.rows)

    -- all messages that a request causes
    abbrev pub caused : ℕ × Q → List (Message K V)
    caused e =
        let mine = owner net e.0 in
        map (λ k. record { batch = batch; tid = e.0; sender = mine; addressee = net.home k; content = Ask k }) (touched e.1)
        ++ map (λ k. record { batch = batch; tid = e.0; sender = net.home k; addressee = mine; content = Told k (fin.get c.rows k) })
        (touched e.1)
        ++ map (λ n. record { batch = batch; tid = e.0; sender = mine; addressee = n; content = Marks (there net c.rows n e.1) })
        (all_nodes net)
        ++ map (λ n. record {
          batch = batch;
          tid = e.0;
          sender = n;
          addressee = mine;
          content = Least (holders_on (by_sets R) (map (there net c.rows n) (take (e.0 - 1) c.list)) (there net c.rows n e.1));
        }) (all_nodes net)
        ++ map (λ n. record {
          batch = batch;
          tid = e.0;
          sender = mine;
          addressee = n;
          content = Fate (verdict_on (on net c.rows) net.rule (take (e.0 - 1) c.list) e.1);
        }) (all_nodes net)

    abbrev pub messages : List (Message K V)
    messages = flat_map caused (enumerate_from 1 c.list)

  -- those of all batches
  abbrev pub all_messages : FinMap R V → List (List Q) → List (Message K V)
  all_messages start started = flat_map (λ d. messages (course net start started d) (d + 1)) (range_with_len 0 (length started))

  -- the messages that may still come, and the batches that are not completed, over all nodes
  abbrev pub left : FinMap R V → World R V Q A → ℕ
  left start w = (length (all_messages start w.started) - length w.sent)
      + sum_over (λ n. length w.started - (w.node n).done) (all_nodes net)
