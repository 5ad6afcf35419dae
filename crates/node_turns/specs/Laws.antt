-- The laws of a node's turn, as sentences over the definitions.
use Rattle.std.specs.Prelude.{◌++◌, ◌≡◌, ℕ, ◌+◌, ◌<◌, ◌≤◌, List, [], ◌∷◌, length, Some, true, false, Contains}
use Rattle.std.specs.declared.cmp.Ordering.{Ordering}
use Rattle.std.specs.FinMap.{FinMap}
use Rattle.node_rules.specs.Messages.{Message}
use Rattle.node_rules.specs.Nets.{Net, all_nodes}
use Rattle.node_rules.specs.Dues.{is_over}
use Rattle.node_rules.specs.Worlds.{World, with_node, is_in, desk_of, complete, turn, turn_all, is_current, deliver}
use Rattle.node_rules.specs.Newses.{news, first_news}
use Rattle.node_rules.specs.Laws.{IsReached}
use Rattle.node_turns.specs.Goings.{IsGoing, IsStarting}

module _ {K V Q A : Type 0} {R : K → K → Ordering} (net : Net R V Q A) (start : FinMap R V) where
  -- the node has completed less than was started
  abbrev pub behind : World R V Q A → ℕ → Type 0
  behind w n = (w.node n).done < length w.started

  -- these are sent
  abbrev pub with_sent : World R V Q A → List (Message K V) → World R V Q A
  with_sent w ms = record { started = w.started; sent = w.sent ++ ms; node = w.node }

  -- the message is given to its node, and its news are sent
  abbrev pub with_given : World R V Q A → Message K V → World R V Q A
  with_given w m = record {
    started = w.started;
    sent = w.sent ++ news net (desk_of net w m.addressee) m;
    node = with_node w.node m.addressee (record {
      rows = (w.node m.addressee).rows;
      carried = (w.node m.addressee).carried;
      done = (w.node m.addressee).done;
      entries = (w.node m.addressee).entries;
      given = (w.node m.addressee).given ++ m ∷ [];
    });
  }

  -- a message that is new to its node: behind its news the node's turn leads to what the delivery makes
  abbrev pub IsGivenFirst : World R V Q A → Message K V → Type 0
  IsGivenFirst w m = IsReached net start w → Contains w.sent m → is_current net w m ≡ true → is_in net (w.node m.addressee).given m ≡ false
      → IsGoing net start (deliver net w (Some m)) (with_given w m) m.addressee

  -- On its way to the end: a node whose batch is not over is there. Else it completes the batch, and sends the first runs of the next one
  -- where that was started.
  pub record GoesOn (end w : World R V Q A) (n : ℕ) : Type 0 where
    pub there : (behind w n → is_over net (desk_of net w n) ≡ false) → end ≡ w
    pub last : behind w n → is_over net (desk_of net w n) ≡ true → ((w.node n).done + 1 < length w.started → ⊥) → IsGoing net start end (complete net w n) n
    pub next : behind w n → is_over net (desk_of net w n) ≡ true → (w.node n).done + 1 < length w.started
        → IsGoing net start end (with_sent (complete net w n) (first_news net (desk_of net (complete net w n) n))) n

  -- where a batch starts: at first no node had its turn, then one after the other has, until all had
  abbrev pub StartsWith : World R V Q A → List Q → Type 0
  StartsWith w new = IsReached net start w
      → IsStarting net start (turn_all net (record { started = w.started ++ new ∷ []; sent = w.sent; node = w.node }) (all_nodes net))
      (record { started = w.started ++ new ∷ []; sent = w.sent; node = w.node }) 0 (length w.started)

  pub record StartsOn (end w : World R V Q A) (n old : ℕ) : Type 0 where
    pub next : n < net.nodes → IsStarting net start end (turn net w n) (n + 1) old
    pub all : net.nodes ≤ n → end ≡ w
