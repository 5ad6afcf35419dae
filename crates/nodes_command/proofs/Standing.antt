-- A script on nodes keeps what is true of it from line to line.
use Rattle.std.proofs.Common.{◌≡◌, ◌∙◌, sym, ap, subst, refl, ℕ, ◌+◌, ◌<◌, ◌≤◌, Bool, true, false, List, [], ◌∷◌, ◌++◌, length, arith}
use Rattle.std.specs.Prelude.{Ok}
use Rattle.std.proofs.lemmas.List.{length-append}
use Rattle.std.specs.FinMap as fin
use Rattle.aria_base.specs.Orders.{Cells}
use Rattle.aria_base.specs.declared.calls.Call.{Call}
use Rattle.aria_base.specs.declared.keys.Key.{Key}
use Rattle.aria_base.specs.declared.limits.TheConstants.{MOST_REQUESTS}
use Rattle.batch_core.specs.Steps.{step}
use Rattle.node_world.specs.declared.worlds.TheConstants.{MOST_NODES}
use Rattle.proc_lang.specs.Catalogs.{Plan, run_of}
use Rattle.script_places.proofs.Allowed.{follows}
use Rattle.script_places.specs.Follows.{Follows, HeadStays}
use Rattle.script_places.specs.Places.{is_check, plan_in}
use Rattle.script_places.specs.declared.deeds.Deed.{Deed}
use Rattle.script_places.specs.declared.deeds.Deed.TheVariants as deed
use Rattle.script_places.specs.declared.heads.ScriptCatalog.{ScriptCatalog}
use Rattle.script_places.specs.declared.heads.ScriptCatalog.TheVariants as head
use Rattle.script_places.specs.declared.places.ScriptPlace.{ScriptPlace}
use Rattle.part_nodes.specs.declared.nodes.Nodes.{Nodes}
use Rattle.run_commands.specs.Bases.{counts_of}
use Rattle.run_commands.specs.Onces.{behind_batch, text_of}
use Rattle.serving.specs.Lives.{batch_text, handed_at}
use Rattle.nodes_command.specs.Asks.{asked_among, is_call, is_set}
use Rattle.nodes_command.specs.Bases.{IsBegun, IsHead, IsUnder, put_in, requests_in, state_now, state_of}
use Rattle.nodes_command.specs.Batches.{IsNext}
use Rattle.nodes_command.specs.Standing.{HasEnded, Holds, IsOf, MayCall, MayClose, MayDo, MayPut, Stands, among_of, doing_of}
use Rattle.nodes_command.specs.declared.bases.Base.{Base}
use Rattle.nodes_command.specs.declared.bases.Base.TheVariants as base
use Rattle.nodes_command.specs.declared.works.Work.{Work}
use Rattle.nodes_command.proofs.Told.{allowed}

-- ---- the head goes on

of_ready : (b : Base) (h : ScriptCatalog) → IsHead b → IsOf h b
of_ready (base.Rows tables rule) head.Unnamed none = tt
of_ready (base.Rows tables rule) (head.Text text) none = tt
of_ready (base.Rows tables rule) (head.Ready plan) none = tt
of_ready (base.Runs n) h none = absurd none

pub of_head_on : (h next : ScriptCatalog) (b : Base) → HeadStays h next → IsOf h b → IsOf next b
of_head_on head.Unnamed next b on of = of_ready b next of
of_head_on (head.Text text) next b on of = of_ready b next of
of_head_on (head.Ready plan) next b on of = subst (λ (k : ScriptCatalog). IsOf k b) (sym on) of

under_head : (b : Base) (plan : Plan) → IsHead b → IsUnder plan b
under_head (base.Rows tables rule) plan none = tt
under_head (base.Runs n) plan none = absurd none

-- a database is under the catalogue of its head
pub under_plan : (h : ScriptCatalog) (b : Base) → IsOf h b → IsUnder (plan_in h) b
under_plan head.Unnamed b of = under_head b (plan_in head.Unnamed) of
under_plan (head.Text text) b of = under_head b (plan_in (head.Text text)) of
under_plan (head.Ready plan) b of = of

ended_on : (before after : Bool) (b : Base) → (before ≡ true → after ≡ true) → HasEnded before b → HasEnded after b
ended_on before after (base.Rows tables rule) on h = tt
ended_on before after (base.Runs n) on h = on h

before_batches : (rows : Bool) (b : Base) → rows ≡ false → HasEnded rows b → IsHead b
before_batches rows (base.Rows tables rule) e h = tt
before_batches rows (base.Runs n) e h = absurd (let both : true ≡ false = sym h ∙ e in cc)

no_rows : (a b : Bool) → a ≡ false → a ≡ true → b ≡ true
no_rows a b e f = absurd (let both : true ≡ false = sym f ∙ e in cc)

-- ---- what a line asks for may be done behind it

module _ (p q : ScriptPlace) (work : Work) (line : List ℕ) where
  holds_on : q.mode ≡ p.mode → q.reports ≡ false → HeadStays p.head q.head → (p.rows_ended ≡ true → q.rows_ended ≡ true) → Holds p work → Holds q work
  holds_on mode silent stays rows h = record {
    mode_kept = ap is_check mode ∙ h.mode_kept;
    silent = silent;
    of_head = of_head_on p.head q.head work.base stays h.of_head;
    ended = ended_on p.rows_ended q.rows_ended work.base rows h.ended;
    nodes = h.nodes;
    all_calls = h.all_calls;
    few_calls = h.few_calls;
  }

  may_by : (asks : Deed) → Stands p work → Follows p (counts_of (state_of work.base)) q asks → q.reports ≡ false → is_set asks ≡ false
      → (is_call asks ≡ true → work.called < MOST_REQUESTS) → MayDo q work asks
  may_by deed.Nothing s f silent unset room = record {
    holds = holds_on f.mode_stays silent f.head_stays f.allows.rows s.holds;
    counted = f.allows.calls ∙ s.counted;
  }
  may_by deed.Tell s f silent unset room = record {
    holds = holds_on f.mode_stays silent f.head_stays f.allows.rows s.holds;
    counted = f.allows.calls ∙ s.counted;
  }
  may_by (deed.Put key row) s f silent unset room = record {
    stands = record {
      holds = holds_on f.mode_stays silent f.head_stays (no_rows p.rows_ended q.rows_ended f.allows.rows) s.holds;
      counted = f.allows.calls ∙ s.counted;
    };
    before_all = before_batches p.rows_ended work.base f.allows.rows s.holds.ended;
  }
  may_by (deed.Call call) s f silent unset room = record {
    holds = holds_on f.mode_stays silent f.head_stays (λ e. f.allows.rows) s.holds;
    counted = f.allows.calls ∙ ap (λ n. n + 1) s.counted;
    room = room refl;
  }
  may_by (deed.Set rule percent) s f silent unset room = absurd cc
  may_by (deed.Keep number) s f silent unset room = record {
    holds = holds_on f.mode_stays silent f.head_stays (λ e. f.allows.rows) s.holds;
    counted = f.allows.calls;
  }
  may_by deed.Run s f silent unset room = record {
    may_close = record {
      holds = holds_on f.mode_stays silent f.head_stays (λ e. f.allows.rows) s.holds;
      counted = f.allows.calls;
    };
    rows = f.allows.rows;
    ready = f.allows.ready;
  }

  pub may_do : (asks : Deed) → Stands p work → asked_among work.called p (counts_of (state_of work.base)) line ≡ Ok (q, asks) → MayDo q work asks
  may_do asks s e =
      let a = allowed (counts_of (state_of work.base)) p s.holds.silent s.holds.mode_kept line work.called q asks e in
      may_by asks s (follows p (counts_of (state_of work.base)) line q asks a.same) a.silent a.unset a.room

-- ---- and then it stands again

pub put_state : (b : Base) (key : Key) (row : Cells) → IsHead b
    → state_of (put_in b key row) ≡ record (state_of b) { rows = fin.insert (state_of b).rows key row }
put_state (base.Rows tables rule) key row none = refl
put_state (base.Runs n) key row none = absurd none

put_head : (b : Base) (key : Key) (row : Cells) → IsHead b → IsHead (put_in b key row)
put_head (base.Rows tables rule) key row none = tt
put_head (base.Runs n) key row none = absurd none

put_requests : (b : Base) (key : Key) (row : Cells) → requests_in (put_in b key row) ≡ requests_in b
put_requests (base.Rows tables rule) key row = refl
put_requests (base.Runs n) key row = refl

head_ended : (rows : Bool) (b : Base) → IsHead b → HasEnded rows b
head_ended rows (base.Rows tables rule) none = tt
head_ended rows (base.Runs n) none = absurd none

module _ (place : ScriptPlace) (work next : Work) (nodes : next.nodes ≡ work.nodes) where
  few_nodes : Holds place work → (1 ≤ next.nodes) × (next.nodes ≤ MOST_NODES)
  few_nodes h = subst (λ n. (1 ≤ n) × (n ≤ MOST_NODES)) (sym nodes) h.nodes

  -- one row more
  pub put_stands : (key : Key) (row : Cells) → MayPut place work → next.base ≡ put_in work.base key row → next.calls.items ≡ work.calls.items
      → next.called ≡ work.called → Stands place next
  put_stands key row may b calls called =
      let h = may.stands.holds in
      let none = subst IsHead (sym b) (put_head work.base key row may.before_all) in
      let requests = ap requests_in b ∙ put_requests work.base key row in
      let many = ap length calls in
      let all = h.all_calls in
      let few = h.few_calls in
      record {
        holds = record {
          mode_kept = h.mode_kept;
          silent = h.silent;
          of_head = of_ready next.base place.head none;
          ended = head_ended place.rows_ended next.base none;
          nodes = few_nodes h;
          all_calls = omega arith;
          few_calls = omega arith;
        };
        counted = may.stands.counted ∙ sym many;
      }

  -- one call more
  pub call_stands : (call : Call) → MayCall place work → next.base ≡ work.base → next.calls.items ≡ work.calls.items ++ call ∷ []
      → next.called ≡ work.called + 1 → Stands place next
  call_stands call may b calls called =
      let h = may.holds in
      let requests = ap requests_in b in
      let many = ap length calls ∙ length-append work.calls.items (call ∷ []) in
      let all = h.all_calls in
      let room = may.room in
      record {
        holds = record {
          mode_kept = h.mode_kept;
          silent = h.silent;
          of_head = subst (IsOf place.head) (sym b) h.of_head;
          ended = subst (HasEnded place.rows_ended) (sym b) h.ended;
          nodes = few_nodes h;
          all_calls = omega arith;
          few_calls = omega arith;
        };
        counted = may.counted ∙ sym many;
      }

  -- without the open calls
  pub close_stands : MayClose place work → next.base ≡ work.base → next.calls.items ≡ [] → next.called ≡ work.called → Stands place next
  close_stands may b calls called =
      let h = may.holds in
      let requests = ap requests_in b in
      let many = ap length calls in
      let all = h.all_calls in
      let few = h.few_calls in
      record {
        holds = record {
          mode_kept = h.mode_kept;
          silent = h.silent;
          of_head = subst (IsOf place.head) (sym b) h.of_head;
          ended = subst (HasEnded place.rows_ended) (sym b) h.ended;
          nodes = few_nodes h;
          all_calls = omega arith;
          few_calls = omega arith;
        };
        counted = may.counted ∙ sym many;
      }

  -- behind the batch of the open calls
  module _ (plan : Plan) (head_is : place.head ≡ head.Ready plan) (n o : Nodes) (begun : IsBegun plan work.base n) (ran : IsNext n work.calls.items o)
      (b : next.base ≡ base.Runs o) (calls : next.calls.items ≡ []) (called : next.called ≡ work.called) where
    under_is : IsUnder plan (base.Runs o)
    under_is = (ran.done, ran.fixed.catalog ∙ begun.plan_is)

    plan_is : plan ≡ plan_in place.head
    plan_is = sym (ap plan_in head_is)

    pub ran_state : state_of next.base ≡ step (run_of (plan_in place.head)) (state_of work.base) (handed_at (state_of work.base) work.calls.items)
    ran_state =
        ap state_of b ∙ ran.state
        ∙ (λ i. step (run_of ((begun.plan_is ∙ plan_is) i)) (begun.state i) (handed_at (begun.state i) work.calls.items))

    pub ran_is : next.each ≡ work.each → among_of place next ≡ record { doing = behind_batch (doing_of place work); called = work.called }
    ran_is each = λ i. record { doing = record { place = place; calls = calls i; state = ran_state i; each = each i }; called = called i }

    pub ran_text : batch_text plan work.each (state_now n) (handed_at (state_now n) work.calls.items) ≡ text_of (doing_of place work)
    ran_text = λ i. batch_text (plan_is i) work.each (begun.state i) (handed_at (begun.state i) work.calls.items)
