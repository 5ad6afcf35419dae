-- A turn behind an answer is a turn before it, and a turn of a loop is one of its walk.
use Rattle.std.proofs.Common.{◌≡◌, ℕ, ◌+◌, ◌<◌, ◌≤◌, ℤ, pos, ◌+ℤ◌, Bool, true, false, Some, List, [], ◌∷◌, ◌∙◌, ap, sym, length, get_or, drop, if◌then◌else◌, arith}
use Rattle.std.specs.Prelude.{int_lt}
use Rattle.std.proofs.lemmas.List.{drop_more}
use Rattle.aria_base.specs.Orders.{Cells}
use Rattle.aria_base.specs.declared.keys.Key.{Key}
use Rattle.cat_builtin.specs.Warehouses as table
use Rattle.proc_lang.specs.declared.ends.Trap.TheVariants.{Absent}
use Rattle.range_rules.specs.declared.routines.Prefix.{Prefix}
use Rattle.range_rules.specs.declared.routines.Seen.{Seen}
use Rattle.range_rules.specs.declared.routines.Seen.TheVariants.{One, Many}
use Rattle.range_rules.specs.Walks.{Walk, Reads, Scans, follow}
use Rattle.tpcc_audit.specs.declared.facts.District.{District}
use Rattle.tpcc_routines.specs.Answers.{key_at, are_rows, is_customer}
use Rattle.tpcc_routines.specs.Routines.{traps, in_range, on_number, within, on_row, c_balance, with_balance, credited, line_dated, each_dated, quantity_of, counted}
use Rattle.tpcc_routines.specs.declared.turns.Turn.{Turn}
use Rattle.tpcc_routines.specs.declared.turns.Turn.TheVariants.{Asks, Goes}
use Rattle.tpcc_routines.specs.Turns.{Turns}

pub turned : (w v : Walk) (next : ℤ → Walk) (rest seen : List Seen) (turn : Turn) → follow w rest ≡ follow v seen → Turns w next rest turn
    → Turns v next seen turn
turned w v next rest seen (Asks action) same is = is ∙ same
turned w v next rest seen (Goes left value) same is = is ∙ same

-- the rows that were found, where the answers go on behind them
pub found_on : (p : Prefix) (columns : ℕ) (go : List (Key × Cells) → Walk) (rows : List (Key × Cells)) (rest seen : List Seen) → seen ≡ Many rows ∷ rest
    → are_rows p columns rows ≡ true
    → follow (go rows) rest ≡ follow (Scans p (λ rows. if are_rows p columns rows then go rows else traps Absent)) seen
found_on p columns go rows rest seen is right =
    sym (ap (follow (Scans p (λ rows. if are_rows p columns rows then go rows else traps Absent))) is
    ∙ ap (λ b. follow (if b then go rows else traps Absent) rest) right)

-- the row that was found, where the answers go on behind it
pub needed_on : (k : Key) (is_right : Cells → Bool) (go : Cells → Walk) (row : Cells) (rest seen : List Seen) → seen ≡ One (Some row) ∷ rest
    → is_right row ≡ true → follow (go row) rest ≡ follow (Reads k (on_row is_right go)) seen
needed_on k is_right go row rest seen is right =
    sym (ap (follow (Reads k (on_row is_right go))) is ∙ ap (λ b. follow (if b then go row else traps Absent) rest) right)

pub need_turned : (k : Key) (is_right : Cells → Bool) (go : Cells → Walk) (next : ℤ → Walk) (row : Cells) (rest seen : List Seen) (turn : Turn)
    → Turns (go row) next rest turn → seen ≡ One (Some row) ∷ rest → is_right row ≡ true → Turns (Reads k (on_row is_right go)) next seen turn
need_turned k is_right go next row rest seen turn done is right =
    turned (go row) (Reads k (on_row is_right go)) next rest seen turn (needed_on k is_right go row rest seen is right) done

-- a customer that was found, whose balance is raised to this one
pub credit_turned : (at : District) (o c amount : ℤ) (next : ℤ → Walk) (row : Cells) (rest seen : List Seen) (turn : Turn) (before balance : ℤ)
    → Turns (with_balance at o c row balance next) next rest turn → before ≡ c_balance row → in_range (before +ℤ amount) ≡ Some balance
    → seen ≡ One (Some row) ∷ rest → is_customer row ≡ true → Turns (credited at o c amount next) next seen turn
unfolding credited
credit_turned at o c amount next row rest seen turn before balance done was sum is right =
    let raised : Cells → ℤ → Walk = λ customer balance. with_balance at o c customer balance next in
    let go : Cells → Walk = λ customer. within (c_balance customer +ℤ amount) (raised customer) in
    let same : in_range (c_balance row +ℤ amount) ≡ Some balance = ap (λ n. in_range (n +ℤ amount)) (sym was) ∙ sum in
    turned (with_balance at o c row balance next) (credited at o c amount next) next rest seen turn
    (sym (ap (λ n. follow (on_number (raised row) n) rest) same)
    ∙ needed_on (key_at table.customers (at.w ∷ at.d ∷ c ∷ [])) is_customer go row rest seen is right) done

-- the first of the items that are left, and those behind it
pub front_of : {X : Type 0} (xs : List X) (i : ℕ) (x : X) → i < length xs → x ≡ get_or xs i x → drop i xs ≡ x ∷ drop (i + 1) xs
front_of xs i x below is = drop_more xs i x below ∙ ap (λ y. y ∷ drop (i + 1) xs) (sym is)

-- a line of those that are left
pub dated_on : (date sum : ℤ) (lines : List (Key × Cells)) (i : ℕ) (line : Key × Cells) (next : ℤ → Walk) → i < length lines
    → line ≡ get_or lines i line
    → each_dated date sum (drop i lines) next ≡ line_dated date sum line (λ sum. each_dated date sum (drop (i + 1) lines) next)
unfolding each_dated
dated_on date sum lines i line next below is = ap (λ rest. each_dated date sum rest next) (front_of lines i line below is)

-- an item of those that are left
pub counted_on : (at : District) (t : ℤ) (count : ℕ) (items : List ℤ) (i : ℕ) → i < length items
    → counted at t count (drop i items)
    ≡ quantity_of at (get_or items i (pos 0)) (λ quantity. counted at t (if int_lt quantity t then count + 1 else count) (drop (i + 1) items))
unfolding counted
counted_on at t count items i below = ap (counted at t count) (drop_more items i (pos 0) below)

-- one more at most
pub one_more : (b : Bool) (m n i : ℕ) → m ≡ (if b then n + 1 else n) → n ≤ i → m ≤ i + 1
one_more true m n i is below = omega arith
one_more false m n i is below = omega arith
