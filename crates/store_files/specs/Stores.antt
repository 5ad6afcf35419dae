-- What is known of the files of a store that is open, and when a call on them is refused.
use Rattle.std.specs.Prelude.{◌≡◌, ℕ, ◌+◌, ◌%◌, List, Option, None, Some}
use Rattle.aria_base.specs.Faults.{Rose}
use Rattle.batch_rules.specs.declared.verdicts.Rule.{Rule}
use Rattle.disk_model.specs.Histories.{History, current, EachImage}
use Rattle.input_log.specs.Layout.{Log, EndsAt}
use Rattle.checkpoint.specs.declared.heads.Head.{Head}
use Rattle.checkpoint.specs.Damage.{IsSound}
use Rattle.store_files.specs.Holdings.{Holds, IsSettled}
use Rattle.store_files.specs.declared.refusals.StoreRefused.{StoreRefused}
use Rattle.store_files.specs.declared.refusals.StoreRefused.TheVariants.{Memory, DiskFault, NoStore, Exists, Damaged, Closed}

pub record Stored : Type 0 where
  -- of the checkpoint that was taken or written last
  pub head : Head
  -- the offset of the log's first closed gate, and how many records stand before it
  pub at : ℕ
  pub batches : ℕ
  -- the disk's count of faults after the call that failed
  pub closed : Option ℕ

-- the slot that is taken: its log is that number above 2
abbrev pub slot_in : Stored → ℕ
slot_in store = store.head.generation % 2

-- the head of the next checkpoint, in format 2
abbrev pub next_head : Head → Rule → ℕ → ℕ → ℕ → Head
next_head h rule fallback batches requests = record {
  format = 2;
  rule = rule;
  fallback = fallback;
  generation = h.generation + 1;
  batches = batches;
  requests = requests;
}

-- The only image of each file is what a read gives, and the disk holds a checkpoint with this head and a log that ends
-- where it is known to end.
pub record Rests (disk : History) (store : Stored) : Type 0 where
  pub settled : IsSettled disk
  pub sound : IsSound (slot_in store) store.head
  pub body : List ℕ
  pub log : Log
  pub holds : Holds disk (slot_in store) store.head body log
  pub ends : EachImage (current disk (2 + slot_in store)) (λ image. EndsAt image store.at store.batches)

-- A call that writes: out of memory before the first device call, a fault of the disk, or one in an earlier call.
abbrev pub StoreCause : {D : Type 0} → (D → History) → D → D → Stored → Stored → StoreRefused → Type 0
StoreCause history old new was is Memory = (new ≡ old) × (is ≡ was) × (was.closed ≡ None)
StoreCause history old new was is DiskFault = Rose (history old).faults (history new).faults
    × (is ≡ record was { closed = Some (history new).faults }) × (was.closed ≡ None)
StoreCause history old new was is (Closed faults) = (new ≡ old) × (is ≡ was) × (was.closed ≡ Some faults)
StoreCause history old new was is NoStore = ⊥
StoreCause history old new was is Exists = ⊥
StoreCause history old new was is (Damaged file at) = ⊥
