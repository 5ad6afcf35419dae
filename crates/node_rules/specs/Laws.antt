-- The laws of nodes, as sentences over the definitions.
use Rattle.std.specs.Prelude.{◌++◌, ◌≡◌, ℕ, zero, suc, ◌<◌, ◌≤◌, List, [], map, length, Option, Some, None, true, false, Contains}
use Rattle.std.specs.declared.cmp.Ordering.{Ordering}
use Rattle.std.specs.FinMap.{FinMap}
use Rattle.batch_rules.specs.declared.verdicts.Verdict.{Verdict}
use Rattle.batch_rules.specs.Touches.{is_among, keys_of}
use Rattle.batch_rules.specs.Batches.{batch, carried}
use Rattle.node_rules.specs.Nets.{Net}
use Rattle.node_rules.specs.Worlds.{World, is_in, with_all_new, desk_of, complete, is_current, deliver, pass, keep}
use Rattle.node_rules.specs.Messages.{Sets, Holders, Told, Marks, Least, Fate, Message}
use Rattle.node_rules.specs.Dues.{told, marks_of, holders_from, fate_of, due, is_over}
use Rattle.node_rules.specs.Newses.{desk_with, news, first_news}
use Rattle.node_rules.specs.Truths.{Between, next, entries_on, Holds, AllRest, Fated}
use Rattle.node_rules.specs.Counts.{NoneTwice, all_messages, left}

module _ {K V Q A : Type 0} {R : K → K → Ordering} (net : Net R V Q A) (start : FinMap R V) where
  -- Each node has what one database has after the batches that it completed, and each message that was ever sent is true of its batch.
  -- What is due was sent, once, and a fate to all nodes.
  pub record IsReached (w : World R V Q A) : Type 0 where
    pub holds : Holds net start w
    pub rests : AllRest net w
    pub fated : Fated net start w
    pub once : NoneTwice w.sent

  -- a node has not completed all that was started
  abbrev pub Behind : World R V Q A → Type 0
  Behind w = (n : ℕ) × (n < net.nodes) × ((w.node n).done < length w.started)

  -- a pass that begins with a node behind leaves less to do
  abbrev pub PassMoves : World R V Q A → Type 0
  PassMoves w = IsReached w → Behind w → left net start (pass net w) < left net start w

  -- no more messages are sent than the batches may cause
  abbrev pub IsBounded : World R V Q A → Type 0
  IsBounded w = IsReached w → length w.sent ≤ length (all_messages net start w.started)

  -- so many passes, each where a node is behind
  abbrev pub settled : ℕ → World R V Q A → World R V Q A
  settled zero w = w
  settled (suc passes) w = settled passes (pass net w)

module _ {K V Q A : Type 0} {R : K → K → Ordering} (net : Net R V Q A) where
  -- A batch of nodes is the batch of one database whose late fold never runs: what is left, what becomes of each request, what waits.
  pub record IsBatch (percent : ℕ) (new : List Q) (b : Between R V Q) : Type 0 where
    pub rows : (next net b new).rows ≡ (batch net.is_done net.tree net.rule percent b.rows (b.waiting ++ new)).map
    pub waiting : (next net b new).waiting
        ≡ map (λ e. e.judged.request) (carried (batch net.is_done net.tree net.rule percent b.rows (b.waiting ++ new)).entries)
    pub entries : entries_on net (record { rows = b.rows; list = b.waiting ++ new })
        ≡ (batch net.is_done net.tree net.rule percent b.rows (b.waiting ++ new)).entries

  -- Where a message is delivered, a node completes its batch exactly where the message is one of that batch, to this node, and it has
  -- the fates of all requests with it.
  pub record Completes (w : World R V Q A) (m : Message K V) : Type 0 where
    pub others : (i : ℕ) → (i ≡ m.addressee → ⊥) → (deliver net w (Some m)).node i ≡ w.node i
    pub not_yet : is_current net w m ≡ true → is_over net (desk_of net (keep net w m) m.addressee) ≡ false
        → ((deliver net w (Some m)).node m.addressee).done ≡ (w.node m.addressee).done
    pub now : is_current net w m ≡ true → is_over net (desk_of net (keep net w m) m.addressee) ≡ true
        → (w.node m.addressee).done < ((deliver net w (Some m)).node m.addressee).done

-- ---- what code need look at

module _ {K V Q A : Type 0} {R : K → K → Ordering} (net : Net R V Q A) (start : FinMap R V) where
  -- where a message that was sent is delivered: one of another batch, and one that was given before, change nothing; one that is new
  -- has the node send its news
  pub record IsDelivered (w : World R V Q A) (m : Message K V) : Type 0 where
    pub other : is_current net w m ≡ false → deliver net w (Some m) ≡ w
    pub again : is_current net w m ≡ true → is_in net (w.node m.addressee).given m ≡ true → deliver net w (Some m) ≡ w
    pub new : is_current net w m ≡ true → is_in net (w.node m.addressee).given m ≡ false
        → with_all_new net w.sent (due net (desk_with net (desk_of net w m.addressee) m)) ≡ w.sent
        ++ news net (desk_of net w m.addressee) m

  -- A message of its addressee's batch that was not given before: it is of a request of the list, and nothing that it tells was told
  -- before.
  pub record IsFirst (w : World R V Q A) (m : Message K V) : Type 0 where
    pub sender : m.sender < net.nodes
    pub addressee : m.addressee < net.nodes
    pub low : 1 ≤ m.tid
    pub high : m.tid ≤ length (desk_of net w m.addressee).list
    pub told : (k : K) (row : Option V) → m.content ≡ Told k row
        → is_among R (keys_of (told net (desk_of net w m.addressee) m.tid)) k ≡ false
    pub marks : (sets : Sets K V) → m.content ≡ Marks sets → marks_of net (desk_of net w m.addressee) m.tid ≡ None
    pub holders : (least : Holders) → m.content ≡ Least least → holders_from net (desk_of net w m.addressee) m.tid m.sender ≡ None
    pub fate : (verdict : Verdict) → m.content ≡ Fate verdict → fate_of net (desk_of net w m.addressee) m.tid ≡ None

  -- nothing was given of the node's batch, and the node sent nothing of it
  pub record Begins (w : World R V Q A) (n : ℕ) : Type 0 where
    pub nothing : (w.node n).given ≡ []
    pub unsent : (x : Message K V) → Contains w.sent x → x.sender ≡ n → x.batch ≤ (w.node n).done

  -- then it sends the first runs of its requests; and so it begins behind each batch that it completes
  pub record IsBegun (w : World R V Q A) (n : ℕ) : Type 0 where
    pub first : Begins w n → with_all_new net w.sent (due net (desk_of net w n)) ≡ w.sent ++ first_news net (desk_of net w n)
    pub behind : Holds net start w → Begins (complete net w n) n
