-- What a store holds is the state of the database, batch by batch.
use Rattle.std.proofs.Common.{◌≡◌, ◌∙◌, ◌⊎◌, inl, inr, sym, ap, subst, refl, ℕ, ◌+◌, ◌<◌, ◌≤◌, nat_lt, Bool, true, false, if◌then◌else◌, List, [], ◌∷◌, ◌++◌, length, map, Option, Some, None, arith}
use Rattle.std.proofs.lemmas.Bool.Decides.{nat_tests}
use Rattle.aria_base.specs.declared.calls.Request.{Request}
use Rattle.aria_base.specs.declared.keys.Key.{Key}
use Rattle.aria_base.specs.declared.limits.TheConstants.{GREATEST_NUMBER, MOST_REQUESTS}
use Rattle.aria_base.specs.Orders.{Cells, Database}
use Rattle.batch_core.specs.Serial.{RiseWithin}
use Rattle.batch_core.specs.Steps.{State, Handed, step, run}
use Rattle.batch_engine.specs.Engines.{Between, IsReady, state_in}
use Rattle.batch_rules.specs.Trees.{Tree}
use Rattle.checkpoint.specs.declared.heads.Head.{Head}
use Rattle.dep_rules.specs.declared.configs.Config.{Config}
use Rattle.disk_model.specs.Histories.{History, LeavesAll, MayLeave}
use Rattle.disk_model.proofs.Spans.{leaves_more}
use Rattle.image_text.specs.Payloads.{Batch}
use Rattle.proc_lang.specs.Catalogs.{Plan, run_of}
use Rattle.proc_lang.specs.declared.ends.End.{End}
use Rattle.slot_images.specs.Images.{Checkpoint, MayCarry}
use Rattle.aria_store.specs.Records.{requests_after}
use Rattle.aria_store.specs.Reopens.{Reopens, Found}
use Rattle.aria_store.specs.Stands.{Kept, Stands, MayAdd, next_checkpoint}
use Rattle.aria_store.proofs.Founds.{found_now}
use Rattle.store_files.specs.Stores.{next_head}
use Rattle.serving.specs.Stored.{IsHeld, LeavesState, ReopensAs, ReopensBy, ReopensOnWay, ReopensTo, ReopensToEither, batch_of, crowded, crowded_from, handed_in, is_crowded, laid_behind, state_at, state_behind, told_by}

-- ---- batches behind a checkpoint

module _ (tree : Request → Tree Key Cells End) where
  pub batches_behind : (state : State) (later : List Batch) → (run tree state (map handed_in later)).batches ≡ state.batches + length later
  batches_behind state [] = omega arith
  batches_behind state (batch ∷ later) =
      let on = batches_behind (step tree state (handed_in batch)) later in
      omega (arith, on)

  requests_behind : (state : State) (later : List Batch) → (run tree state (map handed_in later)).requests ≡ requests_after state.requests later
  requests_behind state [] = refl
  requests_behind state (batch ∷ later) = requests_behind (step tree state (handed_in batch)) later

  run_added : (state : State) (later : List Batch) (batch : Batch)
      → run tree state (map handed_in (later ++ batch ∷ [])) ≡ step tree (run tree state (map handed_in later)) (handed_in batch)
  run_added state [] batch = refl
  run_added state (first ∷ later) batch = run_added (step tree state (handed_in first)) later batch

-- a batch that has room behind others that have
by_room : (full : Bool) (place : ℕ) (rest more : Option ℕ) → (rest ≡ None → more ≡ None) → (if full then Some place else rest) ≡ None
    → (if full then Some place else more) ≡ None
by_room true place rest more on none = absurd (cc none)
by_room false place rest more on none = on none

roomy_added : (plan : Plan) (place : ℕ) (state : State) (later : List Batch) (batch : Batch) → crowded_from plan place state later ≡ None
    → is_crowded (run (run_of plan) state (map handed_in later)) batch ≡ false → crowded_from plan place state (later ++ batch ∷ []) ≡ None
roomy_added plan place state [] batch none room = ap (λ (full : Bool). if full then Some place else None) room
roomy_added plan place state (first ∷ later) batch none room =
    let After : State = step (run_of plan) state (handed_in first) in
    by_room (is_crowded state first) place (crowded_from plan (place + 1) After later) (crowded_from plan (place + 1) After (later ++ batch ∷ []))
    (λ rest. roomy_added plan (place + 1) After later batch rest room) none

-- ---- what is held is what is found

-- files that are just that are the text of its state
pub as_state : (c : Checkpoint) (later : List Batch) (plan : Plan) (state : State) (images : ℕ → List ℕ) → ReopensAs c later plan state images
    → ReopensTo plan state images
as_state c later plan state images h =
    record { c = c; later = later; reopens = h.reopens; roomy = h.roomy; plan_is = h.plan_is; state_is = h.state_is }

pub by_state : (due : Bool) (c : Checkpoint) (later : List Batch) (plan : Plan) (state : State) (images : ℕ → List ℕ)
    → ReopensBy due c later plan state images → ReopensTo plan state images
by_state due c later plan state images (inl h) = as_state c later plan state images h
by_state due c later plan state images (inr h) = as_state (laid_behind c state) [] plan state images h.1

pub way_states : (due : Bool) (c : Checkpoint) (later more : List Batch) (plan : Plan) (before after : State) (images : ℕ → List ℕ)
    → ReopensOnWay due c later more plan before after images → ReopensToEither plan before after images
way_states due c later more plan before after images (inl h) = inl (as_state c later plan before images h)
way_states due c later more plan before after images (inr h) = inr (by_state due c more plan after images h)

module _ (disk : History) (plan : Plan) (state : State) (store : Kept) (c : Checkpoint) (later : List Batch) (h : IsHeld disk plan state store c later) where
  pub held_reopens : (images : ℕ → List ℕ) → Reopens images (Found c later) → ReopensAs c later plan state images
  held_reopens images found = record { reopens = found; roomy = h.roomy; plan_is = h.plan_is; state_is = h.state_is }

  pub held_left : (images : ℕ → List ℕ) → MayLeave disk disk.now images → ReopensAs c later plan state images
  held_left images left = held_reopens images (found_now disk store c later h.stands images left)

  pub held_leaves : LeavesState disk plan state
  held_leaves images left = as_state c later plan state images (held_left images left)

-- ---- a batch more

module _ (old : History) (plan : Plan) (state : State) (store : Kept) (handed : Handed) (c : Checkpoint) (later : List Batch)
    (h : IsHeld old plan (told_by (Some store) state) store c later) where
  abbrev After : State
  After = step (run_of plan) state handed

  pub may_add : length handed.calls ≤ MOST_REQUESTS → state.batches < GREATEST_NUMBER → state.requests + length handed.calls ≤ GREATEST_NUMBER
      → MayAdd plan (length handed.calls) c later
  may_add few batches requests =
      let ran : (state_behind c later).batches ≡ state.batches = ap (λ (s : State). s.batches) h.state_is in
      let given : (state_behind c later).requests ≡ state.requests = ap (λ (s : State). s.requests) h.state_is in
      let ran_by = batches_behind (run_of c.plan) (state_at c) later in
      let given_by = requests_behind (run_of c.plan) (state_at c) later in
      record {
        catalog = sym h.plan_is;
        within = record { few = few; batches = omega (arith, ran, ran_by, batches); requests = omega (arith, given, given_by, requests) };
      }

  added_state : state_behind c (later ++ batch_of handed ∷ []) ≡ After
  added_state = run_added (run_of c.plan) (state_at c) later (batch_of handed)
      ∙ ap (λ (s : State). step (run_of c.plan) s handed) h.state_is
      ∙ ap (λ (p : Plan). step (run_of p) state handed) h.plan_is

  abbrev Room : Type 0
  Room = length state.waiting + length handed.calls ≤ MOST_REQUESTS

  -- with room beside what waits it has room behind them
  added_roomy : Room → crowded c (later ++ batch_of handed ∷ []) ≡ None
  added_roomy room =
      let waits : (state_behind c later).waiting ≡ state.waiting = ap (λ (s : State). s.waiting) h.state_is in
      let here : nat_lt MOST_REQUESTS (length state.waiting + length handed.calls) ≡ false = grind (arith, nat_tests, room) in
      roomy_added c.plan 0 (state_at c) later (batch_of handed) h.roomy
      (subst (λ (l : List Request). nat_lt MOST_REQUESTS (length l + length handed.calls) ≡ false) (sym waits) here)

  pub log_held : Room → (new : History) (now : Kept) → Stands new now c (later ++ batch_of handed ∷ [])
      → IsHeld new plan After now c (later ++ batch_of handed ∷ [])
  log_held room new now stands = record { stands = stands; roomy = added_roomy room; plan_is = h.plan_is; state_is = added_state }

  abbrev Added : List Batch
  Added = later ++ batch_of handed ∷ []

  pub log_leaves : Room → (due : Bool) (new : History) → LeavesAll old new (λ images. Reopens images (Found c later) ⊎ Reopens images (Found c Added))
      → LeavesAll old new (ReopensOnWay due c later Added plan (told_by (Some store) state) After)
  log_leaves room due new all =
      leaves_more old new (λ images. Reopens images (Found c later) ⊎ Reopens images (Found c Added))
      (ReopensOnWay due c later Added plan (told_by (Some store) state) After) all (λ images either. elim either [
        | inl was ↦ inl (held_reopens old plan (told_by (Some store) state) store c later h images was)
        | inr is ↦ inr (inl (record { reopens = is; roomy = added_roomy room; plan_is = h.plan_is; state_is = added_state }))
      ])

-- ---- the next checkpoint

-- it may carry what the engine carries
pub carries : (head : Head) (engine : Between) (held : List Request) → held ≡ engine.carried → head.requests ≡ engine.requests
    → IsReady engine.plan engine.rows engine.carried engine.batches engine.requests → MayCarry head held
carries head engine held k q ready =
    let rise : RiseWithin (λ request. request.q) 0 held engine.requests =
    subst (λ (list : List Request). RiseWithin (λ request. request.q) 0 list engine.requests) (sym k) ready.numbered in
    record {
      numbered = subst (λ (n : ℕ). RiseWithin (λ request. request.q) 0 held n) (sym q) rise;
      few = subst (λ (list : List Request). length list ≤ MOST_REQUESTS) (sym k) ready.few;
    }

module _ (was : Kept) (engine : Between) (config : Config) (plan : Plan) (rows : Database) (held : List Request) (batches requests : ℕ)
    (p : plan ≡ engine.plan) (r : rows ≡ engine.rows) (k : held ≡ engine.carried) (b : batches ≡ engine.batches) (q : requests ≡ engine.requests) where
  abbrev Next : Checkpoint
  Next = next_checkpoint was config.rule config.fallback batches requests (plan, rows, held)

  next_state_is : state_behind Next [] ≡ state_in config engine
  next_state_is = λ i. record { rule = config.rule; percent = config.fallback; rows = r i; waiting = k i; batches = b i; requests = q i }

  pub rotate_held : (new : History) (now : Kept) → Stands new now Next [] → (d : Checkpoint) × IsHeld new engine.plan (state_in config engine) now d []
  rotate_held new now stands = (Next, record { stands = stands; roomy = refl; plan_is = p; state_is = next_state_is })

  next_is : (c : Checkpoint) → was.files.head ≡ c.head → c.plan ≡ engine.plan → Next ≡ laid_behind c (state_in config engine)
  next_is c head under = λ i. record {
    head = next_head (head i) config.rule config.fallback (b i) (q i);
    plan = (p ∙ sym under) i;
    rows = r i;
    held = k i;
  }

  pub rotate_leaves : (old new : History) (c : Checkpoint) (later : List Batch) → IsHeld old engine.plan (state_in config engine) was c later
      → LeavesAll old new (λ images. Reopens images (Found c later) ⊎ Reopens images (Found Next []))
      → LeavesAll old new (ReopensBy true c later engine.plan (state_in config engine))
  rotate_leaves old new c later h all =
      leaves_more old new (λ images. Reopens images (Found c later) ⊎ Reopens images (Found Next []))
      (ReopensBy true c later engine.plan (state_in config engine)) all
      (λ images either. elim either [
        | inl was_there ↦ inl (held_reopens old engine.plan (state_in config engine) was c later h images was_there)
        | inr is ↦ inr (
          refl,
          subst (λ (d : Checkpoint). ReopensAs d [] engine.plan (state_in config engine) images) (next_is c h.stands.known.head h.plan_is)
              (record { reopens = is; roomy = refl; plan_is = p; state_is = next_state_is }),
        )
      ])
