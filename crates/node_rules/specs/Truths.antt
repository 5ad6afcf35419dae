-- What each message says, by the database at the start of its batch; and what holds of the world after any events.
use Rattle.std.specs.Prelude.{◌≡◌, ◌⊎◌, ℕ, ◌+◌, ◌-◌, ◌<◌, ◌≤◌, List, [], ◌∷◌, ◌++◌, map, length, filter, take, slice_get, slice_index_or}
use Rattle.std.specs.Prelude.{Option, Some, None, Bool, true, false, ◌==◌, if◌then◌else◌, is_some, Contains, All}
use Rattle.std.specs.declared.cmp.Ordering.{Ordering}
use Rattle.std.specs.FinMap as fin
use Rattle.std.specs.FinMap.{FinMap}
use Rattle.batch_rules.specs.Trees.{Visit, Read, Write, trace_of}
use Rattle.batch_rules.specs.Touches.{keys_of, outside, is_among}
use Rattle.batch_rules.specs.Verdicts.{Dependencies, verdict_on}
use Rattle.batch_rules.specs.Batches.{Carrier, Judged, Entry, on_start, judged, touching, after_commit, waiting, settled}
use Rattle.node_rules.specs.Messages.{Sets, Content, Ask, Told, Marks, Least, Fate, Message, fate_in}
use Rattle.node_rules.specs.Nets.{Net, owner, is_at}
use Rattle.node_rules.specs.Dues.{Desk, both, by_sets, holders_on, part_at, sets_on, told, has_marks, has_holders, due, is_over}
use Rattle.node_rules.specs.Worlds.{Node, World, desk_for}

-- what stands between two batches
pub record Between {K : Type 0} (R : K → K → Ordering) (V Q : Type 0) : Type 0 where
  pub rows : FinMap R V
  pub waiting : List Q

-- a batch: the rows that it begins with, and its list
pub record Course {K : Type 0} (R : K → K → Ordering) (V Q : Type 0) : Type 0 where
  pub rows : FinMap R V
  pub list : List Q

abbrev pub visited : {K V : Type 0} → Visit K V → K
visited (Read k) = k
visited (Write k row) = k

module _ {K V Q A : Type 0} {R : K → K → Ordering} (net : Net R V Q A) where
  -- ---- the batches of one database, without a late fold

  abbrev pub carrier : FinMap R V → Carrier K V A Q
  carrier rows = on_start net.is_done net.tree rows

  abbrev pub on : FinMap R V → Dependencies Q
  on rows = touching (carrier rows) R

  abbrev pub judged_list : FinMap R V → List Q → List (Judged Q)
  judged_list rows list = judged (on rows) net.rule [] list

  abbrev pub next : Between R V Q → List Q → Between R V Q
  next b new =
      let ds = judged_list b.rows (b.waiting ++ new) in
      record { rows = after_commit (carrier b.rows) b.rows ds; waiting = map (λ d. d.request) (waiting ds) }

  abbrev pub after : Between R V Q → List (List Q) → Between R V Q
  after b [] = b
  after b (new ∷ more) = after (next b new) more

  -- after so many batches, and the batch that follows
  abbrev pub between : FinMap R V → List (List Q) → ℕ → Between R V Q
  between start started done = after (record { rows = start; waiting = [] }) (take done started)

  abbrev pub course : FinMap R V → List (List Q) → ℕ → Course R V Q
  course start started done =
      let b = between start started done in
      record { rows = b.rows; list = b.waiting ++ slice_index_or started done [] }

  -- what becomes of its requests
  abbrev pub entries_on : Course R V Q → List (Entry K Q A)
  entries_on c = settled (carrier c.rows) (judged_list c.rows c.list) []

  -- ---- messages

  -- a request's part of its sets at a node, in the run on the batch's start
  abbrev pub there : FinMap R V → ℕ → Q → Sets K V
  there rows node q = part_at net node (sets_on net rows q)

  -- a key that it touches
  abbrev pub touches : FinMap R V → Q → K → Bool
  touches rows q k = is_among R (map visited (trace_of (net.tree q) rows)) k

  module _ (c : Course R V Q) where
    -- what a message of this request says
    abbrev pub Says : ℕ → Q → ℕ → ℕ → Content K V → Type 0
    Says tid q from to (Ask k) = (from ≡ owner net tid) × (to ≡ net.home k) × (touches c.rows q k ≡ true)
    Says tid q from to (Told k row) =
        (from ≡ net.home k) × (to ≡ owner net tid) × (touches c.rows q k ≡ true) × (row ≡ fin.get c.rows k)
    Says tid q from to (Marks sets) = (from ≡ owner net tid) × (sets ≡ there c.rows to q)
    Says tid q from to (Least holders) =
        (to ≡ owner net tid) × (holders ≡ holders_on (by_sets R) (map (there c.rows from) (take (tid - 1) c.list)) (there c.rows from q))
    Says tid q from to (Fate verdict) = (from ≡ owner net tid) × (verdict ≡ verdict_on (on c.rows) net.rule (take (tid - 1) c.list) q)

    -- the message has its definition's value
    pub record IsTrue (m : Message K V) : Type 0 where
      pub sender : m.sender < net.nodes
      pub addressee : m.addressee < net.nodes
      pub tid : 1 ≤ m.tid
      pub request : Q
      pub stands : slice_get c.list (m.tid - 1) ≡ Some request
      pub says : Says m.tid request m.sender m.addressee m.content

  -- ---- what has to be so before a message is sent

  module _ (start : FinMap R V) (started : List (List Q)) (node : ℕ → Node R V Q A) where
    abbrev desk : ℕ → Desk R V Q
    desk n = desk_for net started n (node n)

    -- the node is past this batch, or at it and this holds
    abbrev pub Since : ℕ → ℕ → Type 0 → Type 0
    Since n batch P = (batch ≤ (node n).done) ⊎ (((node n).done + 1 ≡ batch) × P)

    -- it was told all that the request's run touches
    abbrev pub WasTold : FinMap R V → Q → ℕ → ℕ → ℕ → Type 0
    WasTold rows q tid n batch = Since n batch (outside R (both (keys_of (told net (desk n) tid))) (trace_of (net.tree q) rows) ≡ None)

    -- it was told the row of this key, or wants it next
    abbrev pub Wants : FinMap R V → Q → ℕ → K → ℕ → Type 0
    Wants rows q tid k n = (is_among R (keys_of (told net (desk n) tid)) k ≡ true)
        ⊎ (outside R (both (keys_of (told net (desk n) tid))) (trace_of (net.tree q) rows) ≡ Some k)

    -- it was given the marks of all requests
    abbrev pub WasMarked : ℕ → ℕ → Type 0
    WasMarked n batch = Since n batch (has_marks net (desk n) ≡ true)

    -- it was asked for the key
    abbrev pub asking : Message K V → K → Message K V
    asking m k = record { batch = m.batch; tid = m.tid; sender = m.addressee; addressee = m.sender; content = Ask k }

    abbrev pub Before : FinMap R V → Q → Message K V → Content K V → Type 0
    Before rows q m (Ask k) = Since m.sender m.batch (Wants rows q m.tid k m.sender)
    Before rows q m (Told k row) = Since m.sender m.batch (Contains (node m.sender).given (asking m k))
        × Since m.addressee m.batch (Wants rows q m.tid k m.addressee)
    Before rows q m (Marks sets) = WasTold rows q m.tid m.sender m.batch
    Before rows q m (Least holders) = WasMarked m.sender m.batch
    Before rows q m (Fate verdict) = ((n : ℕ) → n < net.nodes → WasMarked n m.batch)
        × Since m.sender m.batch (has_holders net (desk m.sender) m.tid ≡ true)

    pub record IsSent (m : Message K V) : Type 0 where
      pub low : 1 ≤ m.batch
      pub high : m.batch ≤ length started
      pub is : IsTrue (course start started (m.batch - 1)) m
      pub before : Before (course start started (m.batch - 1)).rows is.request m m.content

  -- ---- the invariant

  -- the row of a key at a node
  abbrev pub row_at : ℕ → FinMap R V → K → Option V
  row_at n rows k = if is_at net n k then fin.get rows k else None

  -- a message that a node keeps
  pub record IsGiven (sent : List (Message K V)) (n done : ℕ) (m : Message K V) : Type 0 where
    pub sent_once : Contains sent m
    pub addressee : m.addressee ≡ n
    pub batch : m.batch ≡ done + 1

  -- node n, which is x, has what one database has after the batches that the node completed
  pub record NodeHolds (start : FinMap R V) (started : List (List Q)) (sent : List (Message K V)) (n : ℕ)
      (x : Node R V Q A) : Type 0 where
    pub done : x.done ≤ length started
    pub rows : (k : K) → fin.get x.rows k ≡ row_at n (between start started x.done).rows k
    pub carried : x.carried ≡ (between start started x.done).waiting
    pub count : length x.entries ≡ x.done
    pub entries : (d : ℕ) → d < x.done → slice_index_or x.entries d []
        ≡ filter (λ e. owner net e.judged.tid == n) (entries_on (course start started d))
    pub given : All (IsGiven sent n x.done) x.given

  pub record Holds (start : FinMap R V) (w : World R V Q A) : Type 0 where
    pub nodes : (n : ℕ) → n < net.nodes → NodeHolds start w.started w.sent n (w.node n)
    pub sent : All (IsSent start w.started w.node) w.sent

  -- node n, which is x, has sent all that is due, and its batch is not over
  pub record Rests (started : List (List Q)) (sent : List (Message K V)) (n : ℕ) (x : Node R V Q A) : Type 0 where
    pub sent_all : x.done < length started → All (Contains sent) (due net (desk_for net started n x))
    pub not_over : x.done < length started → is_over net (desk_for net started n x) ≡ false

  abbrev pub AllRest : World R V Q A → Type 0
  AllRest w = (n : ℕ) → n < net.nodes → Rests w.started w.sent n (w.node n)

  -- ---- fates

  -- the same message to another node
  abbrev pub to_node : Message K V → ℕ → Message K V
  to_node m n = record { batch = m.batch; tid = m.tid; sender = m.sender; addressee = n; content = m.content }

  -- a fate of this request was sent to this node
  pub record WasFated (sent : List (Message K V)) (batch tid n : ℕ) : Type 0 where
    pub fate : Message K V
    pub among : Contains sent fate
    pub batch_is : fate.batch ≡ batch
    pub tid_is : fate.tid ≡ tid
    pub addressee : fate.addressee ≡ n
    pub is_fate : is_some (fate_in fate.content) ≡ true

  -- a fate goes to all nodes; and a node that completed a batch was sent the fate of each request of its list
  pub record Fated (start : FinMap R V) (w : World R V Q A) : Type 0 where
    pub spread : All (λ m. is_some (fate_in m.content) ≡ true → (n : ℕ) → n < net.nodes → Contains w.sent (to_node m n)) w.sent
    pub past : (n : ℕ) → n < net.nodes → (d : ℕ) → d < (w.node n).done → (tid : ℕ) → 1 ≤ tid
        → tid < 1 + length (course start w.started d).list
        → WasFated w.sent (d + 1) tid n
