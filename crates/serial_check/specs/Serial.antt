-- What a report that holds tells: each of its answers is a serial run of its order from the batch's start.
use Rattle.std.specs.Prelude.{◌≡◌, ◌≤◌, ◌<◌, ⊤, ◌⊎◌, ℕ, zero, suc, ◌+◌, Bool, true, false, not}
use Rattle.std.specs.Prelude.{List, [], ◌∷◌, ◌++◌, length, map, Option, Some, None, decimal}
use Rattle.std.specs.List.{filter}
use Rattle.aria_base.specs.declared.calls.Call.{Call}
use Rattle.aria_base.specs.declared.calls.Request.{Request}
use Rattle.batch_core.specs.Serial.{is_named, request_numbered}
use Rattle.batch_rules.specs.Serials.{serial_ends, serial_map}
use Rattle.proc_lang.specs.Catalogs.{Plan, run_of}
use Rattle.proc_lang.specs.Meaning.{is_done}
use Rattle.proc_lang.specs.declared.ends.End.{End}
use Rattle.script_text.specs.Tokens.{spaced}
use Rattle.serial_check.specs.Lines.{batch_line, end_line, kept_line, ended_line, wait_front, state_line, end_state_line, order_word}
use Rattle.serial_check.specs.Reports.{list_of, row_lines}
use Rattle.serial_check.specs.Runs.{end_in}
use Rattle.serial_check.specs.declared.standings.Standing.{Standing}

-- the numbers of requests
abbrev pub numbers : List Request → List ℕ
numbers order = map (λ request. request.q) order

abbrev pub order_line : List Request → List ℕ
order_line order = order_word ++ spaced decimal (numbers order)

-- none of these requests has a number that one before it has, and none one of those named so far
abbrev pub AreApart : List Request → List Request → Type 0
AreApart named [] = ⊤
AreApart named (request ∷ more) = (is_named (numbers named) request ≡ false) × AreApart (named ++ request ∷ []) more

-- the line of a request that has ended so, or else waits for whatever cause
abbrev pub IsReply : ℕ → Option End → List ℕ → Type 0
IsReply q (Some end) line = line ≡ ended_line q end
IsReply q None line = (cause : List ℕ) × (line ≡ wait_front q ++ cause)

-- the lines of these requests, one for each
abbrev pub AreReplies : (ℕ → Option End) → List Request → List (List ℕ) → Type 0
AreReplies ends [] lines = lines ≡ []
AreReplies ends (request ∷ more) [] = ⊥
AreReplies ends (request ∷ more) (line ∷ lines) = IsReply request.q (ends request.q) line × AreReplies ends more lines

module _ (plan : Plan) where
  -- The lines are an answer to these calls behind those that are carried. Its order names requests of the list, none twice. One after
  -- the other from the batch's start these end as their lines say, and leave the next rows. The others of the list have lines that say
  -- that they wait, and are carried.
  pub record IsAnswer (standing : Standing) (calls : List Call) (lines : List (List ℕ)) (next : Standing) : Type 0 where
    pub order : List Request
    pub replies : List (List ℕ)
    pub as_lines : lines ≡ batch_line (standing.batches + 1) ∷ (replies ++ order_line order ∷ end_line (standing.batches + 1) ∷ [])
    pub found : map (request_numbered (list_of standing calls)) (numbers order) ≡ map Some order
    pub apart : AreApart [] order
    pub ends : map (λ request. end_in (run_of plan) standing.tables order request.q) order
        ≡ map Some (serial_ends is_done (run_of plan) standing.tables order)
    pub told : AreReplies (end_in (run_of plan) standing.tables order) (list_of standing calls) replies
    pub rows : next.tables ≡ serial_map is_done (run_of plan) standing.tables order
    pub rest : next.carried ≡ filter (λ request. not (is_named (numbers order) request)) (list_of standing calls)
    pub batches : next.batches ≡ standing.batches + 1
    pub requests : next.requests ≡ standing.requests + length calls

  abbrev pub listing_lines : Standing → List (List ℕ)
  listing_lines standing = state_line standing.batches ∷ (row_lines plan standing.tables ++ end_state_line ∷ [])

  -- the lines are a listing of the rows, or there are none
  abbrev pub IsListing : Bool → Standing → List (List ℕ) → Type 0
  IsListing true standing lines = lines ≡ listing_lines standing
  IsListing false standing lines = lines ≡ []

  -- an answer, behind it a listing or none, and behind that other lines
  pub record IsAnswered (standing : Standing) (calls : List Call) (lines : List (List ℕ)) (next : Standing) (listed : Bool)
      (behind : List (List ℕ)) : Type 0 where
    pub answer : List (List ℕ)
    pub listing : List (List ℕ)
    pub as_lines : lines ≡ answer ++ listing ++ behind
    pub is_answer : IsAnswer standing calls answer next
    pub is_listing : IsListing listed next listing

  -- so many answers to what is carried, and then a listing, where none stood last
  abbrev pub IsDrained : ℕ → Bool → Standing → List (List ℕ) → Type 0
  IsDrained zero listed standing lines = IsListing (not listed) standing lines
  IsDrained (suc n) listed standing lines = (0 < length standing.carried)
      × ((next : Standing) × (now : Bool) × (behind : List (List ℕ))
      × IsAnswered standing [] lines next now behind × IsDrained n now next behind)

  -- The lines are a report on these batches, behind what leaves this standing. A batch that was run before has a line of its own.
  abbrev pub IsReport : Bool → Standing → List (ℕ × List Call) → List (List ℕ) → Type 0
  IsReport listed standing [] lines = (n : ℕ) × IsDrained n listed standing lines
  IsReport listed standing (batch ∷ more) lines =
      ((batch.0 ≤ standing.batches) × ((behind : List (List ℕ))
      × (lines ≡ kept_line batch.0 ∷ behind) × IsReport false standing more behind))
      ⊎ ((standing.batches < batch.0) × ((next : Standing) × (now : Bool) × (behind : List (List ℕ))
      × IsAnswered standing batch.1 lines next now behind × IsReport now next more behind))
