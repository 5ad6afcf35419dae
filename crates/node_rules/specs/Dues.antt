-- Which messages are due at a node: a plain function of its rows, of the number and the list of its current batch, and of the messages
-- of that batch that were given to it.
use Rattle.std.specs.Prelude.{min, ℕ, ◌-◌, List, [], ◌∷◌, ◌++◌, map, filter, filter_map, flat_map, take, Option, Some, None}
use Rattle.std.specs.Prelude.{Bool, is_some, if◌then◌else◌, ◌==◌, unwrap_or}
use Rattle.std.specs.declared.cmp.Ordering.{Ordering}
use Rattle.std.specs.Option.{option_map}
use Rattle.std.specs.List.{enumerate_from, list_all}
use Rattle.std.specs.FinMap as fin
use Rattle.std.specs.FinMap.{FinMap}
use Rattle.batch_rules.specs.declared.verdicts.Verdict.{Verdict}
use Rattle.batch_rules.specs.Trees.{trace_of}
use Rattle.batch_rules.specs.Touches.{Declared, keys_of, reads_of, writes_of, outside, overwritten}
use Rattle.batch_rules.specs.Verdicts.{Dependencies, by_keys, least, verdict_by}
use Rattle.node_rules.specs.Messages.{Sets, Holders, Content, Ask, Told, Marks, Least, Fate, Message, pick, told_in, marks_in, least_in}
use Rattle.node_rules.specs.Messages.{fate_in, of_tid, of_node}
use Rattle.node_rules.specs.Nets.{Net, tids, all_nodes, owner, is_at}

-- a node at its current batch
pub record Desk {K : Type 0} (R : K → K → Ordering) (V Q : Type 0) : Type 0 where
  pub node : ℕ
  pub rows : FinMap R V
  pub batch : ℕ
  pub list : List Q
  pub given : List (Message K V)

-- the lesser of two least holders
abbrev pub lesser : Option ℕ → Option ℕ → Option ℕ
lesser None other = other
lesser (Some t) None = Some t
lesser (Some t) (Some u) = Some (min t u)

abbrev pub no_sets : {K V : Type 0} → Sets K V
no_sets = record { reads = []; rows = [] }

abbrev pub no_holders : Holders
no_holders = record { waw = None; raw = None; war = None }

-- the keys that a set of rows may be read and written at
abbrev pub both : {K : Type 0} → List K → Declared K
both keys = record { reads = keys; writes = keys }

-- who depends on whom by parts of their sets
abbrev pub by_sets : {K V : Type 0} (R : K → K → Ordering) → Dependencies (Sets K V)
by_sets R = by_keys R (λ s. s.reads) (λ s. keys_of s.rows)

-- the least of the earlier ones, for each kind of dependency
abbrev pub holders_on : {S : Type 0} → Dependencies S → List S → S → Holders
holders_on on earlier me = record {
  waw = least (on.waw me) earlier;
  raw = least (on.raw me) earlier;
  war = least (on.war me) earlier;
}

module _ {K V Q A : Type 0} {R : K → K → Ordering} (net : Net R V Q A) where
  -- the part of sets whose keys are at a node
  abbrev pub part_at : ℕ → Sets K V → Sets K V
  part_at node s = record { reads = filter (is_at net node) s.reads; rows = filter (λ row. is_at net node row.0) s.rows }

  -- the sets of a run on these rows
  abbrev pub sets_on : FinMap R V → Q → Sets K V
  sets_on rows q = record { reads = reads_of (net.tree q) rows; rows = writes_of net.is_done (net.tree q) rows }

  module _ (desk : Desk R V Q) where
    abbrev pub message : ℕ → ℕ → Content K V → Message K V
    message tid addressee content =
        record { batch = desk.batch; tid = tid; sender = desk.node; addressee = addressee; content = content }

    -- its own requests with their TIDs, and all
    abbrev pub all_requests : List (ℕ × Q)
    all_requests = enumerate_from 1 desk.list

    abbrev pub own_requests : List (ℕ × Q)
    own_requests = filter (λ e. owner net e.0 == desk.node) all_requests

    -- ---- runs on what was told

    abbrev pub told : ℕ → List (K × Option V)
    told tid = filter_map (of_tid told_in tid) desk.given

    abbrev pub told_rows : ℕ → FinMap R V
    told_rows tid = overwritten fin.empty (told tid)

    -- the key that a run has to be told next
    abbrev pub wanted : ℕ → Q → Option K
    wanted tid q = outside R (both (keys_of (told tid))) (trace_of (net.tree q) (told_rows tid))

    abbrev pub marks_due : ℕ → Q → List (Message K V)
    marks_due tid q = map (λ node. message tid node (Marks (part_at node (sets_on (told_rows tid) q)))) (all_nodes net)

    abbrev pub run_due : ℕ × Q → List (Message K V)
    run_due e = elim (wanted e.0 e.1) [ None ↦ marks_due e.0 e.1 | Some k ↦ message e.0 (net.home k) (Ask k) ∷ [] ]

    -- ---- rows that were asked for

    abbrev pub asked_in : Content K V → Option K
    asked_in (Ask k) = Some k
    asked_in (Told k row) = None
    asked_in (Marks sets) = None
    asked_in (Least holders) = None
    asked_in (Fate verdict) = None

    abbrev pub told_due : Message K V → Option (Message K V)
    told_due m = option_map (λ k. message m.tid (owner net m.tid) (Told k (fin.get desk.rows k))) (asked_in m.content)

    -- ---- the least holders here

    abbrev pub marks_of : ℕ → Option (Sets K V)
    marks_of tid = pick (of_tid marks_in tid) desk.given

    abbrev pub has_marks : Bool
    has_marks = list_all (λ tid. is_some (marks_of tid)) (tids desk.list)

    abbrev pub sets_of : ℕ → Sets K V
    sets_of tid = unwrap_or (marks_of tid) no_sets

    abbrev pub holders_here : ℕ → Holders
    holders_here tid = holders_on (by_sets R) (map sets_of (take (tid - 1) (tids desk.list))) (sets_of tid)

    abbrev pub least_due : ℕ → Message K V
    least_due tid = message tid (owner net tid) (Least (holders_here tid))

    -- ---- verdicts

    abbrev pub holders_from : ℕ → ℕ → Option Holders
    holders_from tid node = pick (of_node least_in tid node) desk.given

    abbrev pub has_holders : ℕ → Bool
    has_holders tid = list_all (λ node. is_some (holders_from tid node)) (all_nodes net)

    abbrev pub holders_of : ℕ → ℕ → Holders
    holders_of tid node = unwrap_or (holders_from tid node) no_holders

    -- the least of all nodes
    abbrev pub least_of : (Holders → Option ℕ) → ℕ → List ℕ → Option ℕ
    least_of side tid [] = None
    least_of side tid (node ∷ nodes) = lesser (side (holders_of tid node)) (least_of side tid nodes)

    abbrev pub verdict_here : ℕ → Verdict
    verdict_here tid = verdict_by net.rule (least_of (λ h. h.waw) tid (all_nodes net)) (least_of (λ h. h.raw) tid (all_nodes net))
        (least_of (λ h. h.war) tid (all_nodes net))

    abbrev pub fate_due : ℕ × Q → List (Message K V)
    fate_due e = if has_holders e.0 then map (λ node. message e.0 node (Fate (verdict_here e.0))) (all_nodes net) else []

    -- ---- all that is due, in order

    abbrev pub due : List (Message K V)
    due = flat_map run_due own_requests ++ filter_map told_due desk.given
        ++ (if has_marks then map least_due (tids desk.list) else []) ++ flat_map fate_due own_requests

    -- ---- the end of the batch

    abbrev pub fate_of : ℕ → Option Verdict
    fate_of tid = pick (of_tid fate_in tid) desk.given

    -- the fate of each request was given
    abbrev pub is_over : Bool
    is_over = list_all (λ tid. is_some (fate_of tid)) (tids desk.list)
