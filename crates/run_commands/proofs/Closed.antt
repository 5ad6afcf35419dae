-- The end of a script, by the database that it leaves.
use Rattle.std.proofs.Common.{◌≡◌, ◌≢◌, ◌∙◌, sym, ap, subst, refl, ℕ, Bool, true, false, List, [], ◌∷◌, length, Option, None, arith}
use Rattle.std.proofs.lemmas.Bool.Decides.{nat_tests}
use Rattle.std.specs.Prelude.{if◌then◌else◌, Result, Ok, Err, ◌==◌}
use Rattle.aria_base.specs.declared.calls.Call.{Call}
use Rattle.aria_base.specs.Streams.{AppendsFront}
use Rattle.answer_text.specs.Refusals.{refusal_text}
use Rattle.aria_store.specs.Stands.{Kept}
use Rattle.disk_model.specs.Histories.{History, LeavesAll}
use Rattle.proc_lang.specs.Catalogs.{Plan}
use Rattle.cat_text.specs.Texts.{catalog_of}
use Rattle.script_places.specs.Follows.{HeadStays}
use Rattle.script_places.specs.Places.{closed_by, closing, next_line, plan_in, shut, without_head}
use Rattle.script_places.specs.declared.heads.ScriptCatalog.{ScriptCatalog}
use Rattle.script_places.specs.declared.heads.ScriptCatalog.TheVariants as head
use Rattle.script_places.specs.declared.places.ScriptPlace.{ScriptPlace}
use Rattle.script_text.specs.Fits.{and_then}
use Rattle.script_text.specs.Lines.{line_after}
use Rattle.script_text.specs.declared.refusals.RefusalKind.{RefusalKind}
use Rattle.script_text.specs.declared.refusals.RefusalKind.TheVariants as kind
use Rattle.script_text.specs.declared.refusals.Refusal.{Refusal}
use Rattle.serving.specs.Lives.{IsLike, plan_of, state_of}
use Rattle.serving.specs.Stored.{Holds, stored_state}
use Rattle.serving.specs.declared.lives.Live.{Live}
use Rattle.store_openings.specs.Saved.{Saved}
use Rattle.run_commands.specs.Bases.{IsListed, IsNamed, checkpoint_in, state_in, store_in}
use Rattle.run_commands.specs.Endings.{HoldsBase, HoldsLive, IsEnd, closing_turns, drains_of, held_in}
use Rattle.run_commands.specs.Keeps.{HoldsState, Keeps, LeavesLaid}
use Rattle.run_commands.specs.Onces.{Doing}
use Rattle.run_commands.specs.Passes.{PassesTurns, Turn, ending_of, held_behind}
use Rattle.run_commands.specs.Saves.{IsLeft, saved_behind}
use Rattle.run_commands.specs.Standing.{IsOf, doing_of}
use Rattle.run_commands.specs.declared.bases.Base.{Base}
use Rattle.run_commands.specs.declared.bases.Base.TheVariants as base
use Rattle.run_commands.specs.declared.works.Work.{Work}
use Rattle.run_commands.proofs.Closing.{close_keeps, close_laid, close_left, refused_keeps, refused_laid}
use Rattle.run_commands.proofs.Endings.{holds_laid, holds_leave}

-- ---- the place behind the end of the input

shut_by : (p q : ScriptPlace) (b : Bool) → (if b then Ok p else Err kind.Unfinished) ≡ Ok q → q.lines ≡ p.lines
shut_by p q true e = let same : p ≡ q = cc in ap (λ (x : ScriptPlace). x.lines) (sym same)
shut_by p q false e = absurd cc

text_by : (p q : ScriptPlace) (r : Result Plan RefusalKind) → and_then shut (and_then (λ plan. Ok (record p { head = head.Ready plan })) r) ≡ Ok q
    → q.lines ≡ p.lines
text_by p q (Ok plan) e = shut_by (record p { head = head.Ready plan }) q (p.open_calls == 0) e
text_by p q (Err why) e = absurd cc

line_by : (p q : ScriptPlace) (h : ScriptCatalog) → closed_by p h ≡ Ok q → q.lines ≡ p.lines
line_by p q head.Unnamed e = shut_by p q (p.open_calls == 0) e
line_by p q (head.Ready plan) e = shut_by p q (p.open_calls == 0) e
line_by p q (head.Text text) e = text_by (without_head p) q (catalog_of text) e

-- the end counts as a line
pub closing_line : (p q : ScriptPlace) → closing p ≡ Ok q → q.lines ≡ line_after p.lines
closing_line p q e = line_by (next_line p) q p.head e

-- no batch is open then
shut_calls : (p q : ScriptPlace) (b : Bool) → (if b then Ok p else Err kind.Unfinished) ≡ Ok q → b ≡ true
shut_calls p q true e = refl
shut_calls p q false e = absurd cc

text_calls : (p q : ScriptPlace) (r : Result Plan RefusalKind) → and_then shut (and_then (λ plan. Ok (record p { head = head.Ready plan })) r) ≡ Ok q
    → (p.open_calls == 0) ≡ true
text_calls p q (Ok plan) e = shut_calls (record p { head = head.Ready plan }) q (p.open_calls == 0) e
text_calls p q (Err why) e = absurd cc

closed_calls : (p q : ScriptPlace) (h : ScriptCatalog) → closed_by p h ≡ Ok q → (p.open_calls == 0) ≡ true
closed_calls p q head.Unnamed e = shut_calls p q (p.open_calls == 0) e
closed_calls p q (head.Ready plan) e = shut_calls p q (p.open_calls == 0) e
closed_calls p q (head.Text text) e = text_calls (without_head p) q (catalog_of text) e

none_open : (calls : List Call) (n : ℕ) → n ≡ length calls → (n == 0) ≡ true → calls ≡ []
none_open [] n counted shut = refl
none_open (call ∷ calls) n counted shut = absurd (grind (arith, nat_tests, counted, shut))

pub end_is : (p q : ScriptPlace) (work : Work) (line : ℕ) → p.open_calls ≡ length work.calls.items → closing p ≡ Ok q → line ≡ line_after p.lines
    → IsEnd (plan_in q.head) work.each line (state_in work.base) (doing_of q work)
end_is p q work line counted e same = record {
  plan_is = refl;
  each_is = refl;
  line_is = closing_line p q e ∙ sym same;
  state_is = refl;
  calls_none = none_open work.calls.items p.open_calls counted (closed_calls (next_line p) q p.head e);
}

-- a database with a store has a catalogue, and keeps it
pub plan_stays : (h next : ScriptCatalog) (calls : List Call) (b : Base) → HeadStays h next → IsOf h calls b → store_in b ≢ None → plan_in next ≡ plan_in h
plan_stays h next calls (base.Rows tables config) on of some = absurd (some refl)
plan_stays head.Unnamed next calls (base.Runs live) on of some = absurd of.1
plan_stays (head.Text text) next calls (base.Runs live) on of some = absurd of.1
plan_stays (head.Ready plan) next calls (base.Runs live) on of some = ap plan_in on

-- ---- a database that holds something runs

pub store_some : (first : ℕ) (saved : Saved) (disk : History) (plan : Plan) (b : Base) → HoldsBase first saved disk plan b → store_in b ≢ None
store_some first saved disk plan b h e = subst (λ (s : Option Kept). Holds disk plan (held_in b) s saved.c saved.later) e h.stands.holds

module _ (h : ScriptCatalog) (b : Base) (each : Bool) (live : Live) (is : b ≡ base.Runs live) (named : IsNamed h b) (listed : IsListed each b) where
  named_live : plan_of live ≡ plan_in h
  named_live = subst (λ (x : Base). IsNamed h x) is named

  listed_live : live.each ≡ each
  listed_live = subst (λ (x : Base). IsListed each x) is listed

  pub end_live : (line : ℕ) (d : Doing) → IsEnd (plan_in h) each line (state_in b) d → IsEnd (plan_of live) live.each line (state_of live) d
  end_live line d end = record {
    plan_is = end.plan_is ∙ sym named_live;
    each_is = end.each_is ∙ sym listed_live;
    line_is = end.line_is;
    state_is = end.state_is ∙ ap state_in is;
    calls_none = end.calls_none;
  }

  pub holds_live : (first : ℕ) (saved : Saved) (disk : History) → HoldsBase first saved disk (plan_in h) b → HoldsLive first saved disk live
  holds_live first saved disk held =
      subst (λ (p : Plan). HoldsState first saved live.checkpoint disk p (stored_state live) live.store) (sym named_live)
      (subst (λ (x : Base). HoldsBase first saved disk (plan_in h) x) is held)

  -- and what is said of it is said of the database
  to_base : (P : Plan → Base → Type 0) → P (plan_of live) (base.Runs live) → P (plan_in h) b
  to_base P p = subst (λ (x : Base). P (plan_in h) x) (sym is) (subst (λ (q : Plan). P q (base.Runs live)) named_live p)

  pub keeps_base : (d : Doing) (old new : History) (ga gb : Option (List ℕ))
      → Keeps (PassesTurns (drains_of (state_of live)) d (stored_state live)) (plan_of live) old new ga gb
      → Keeps (PassesTurns (drains_of (state_in b)) d (held_in b)) (plan_in h) old new ga gb
  keeps_base d old new ga gb k = to_base (λ plan x. Keeps (PassesTurns (drains_of (state_in x)) d (held_in x)) plan old new ga gb) k

  pub left_base : (saved : Saved) (d : Doing) (old new : History)
      → LeavesAll old new (IsLeft live.checkpoint (drains_of (state_of live)) d saved)
      → LeavesAll old new (IsLeft (checkpoint_in b) (drains_of (state_in b)) d saved)
  left_base saved d old new h = subst (λ (x : Base). LeavesAll old new (IsLeft (checkpoint_in x) (drains_of (state_in x)) d saved)) (sym is) h

  pub laid_base : (first : ℕ) (saved : Saved) (d : Doing) (disk : History)
      → LeavesLaid first (saved_behind live.checkpoint (drains_of (state_of live)) d saved) live.checkpoint disk (plan_of live)
      (held_behind (drains_of (state_of live)) d (stored_state live))
      → LeavesLaid first (saved_behind (checkpoint_in b) (drains_of (state_in b)) d saved) (checkpoint_in b) disk (plan_in h)
      (held_behind (drains_of (state_in b)) d (held_in b))
  laid_base first saved d disk laid =
      to_base (λ plan x. LeavesLaid first (saved_behind (checkpoint_in x) (drains_of (state_in x)) d saved) (checkpoint_in x) disk plan
      (held_behind (drains_of (state_in x)) d (held_in x))) laid

  pub holds_base : (first : ℕ) (saved : Saved) (d : Doing) (next : Live) (disk : History) → IsLike live next
      → HoldsLive first (saved_behind live.checkpoint (drains_of (state_of live)) d saved) disk next
      → HoldsBase first (saved_behind (checkpoint_in b) (drains_of (state_in b)) d saved) disk (plan_in h) (base.Runs next)
  holds_base first saved d next disk like held =
      subst (λ (p : Plan). HoldsState first (saved_behind (checkpoint_in b) (drains_of (state_in b)) d saved) next.checkpoint disk p
      (stored_state next) next.store)
      (like.plan ∙ named_live)
      (subst (λ (x : Base). HoldsLive first (saved_behind (checkpoint_in x) (drains_of (state_in x)) d saved) disk next) (sym is) held)

-- ---- the whole end, by the script before it

module _ (p q : ScriptPlace) (work : Work) (is : closing p ≡ Ok q) (stays : HeadStays p.head q.head) (of : IsOf p.head work.calls.items work.base)
    (drain : Bool)
    (first : ℕ) (saved : Saved) (old : History)
    (h : HoldsBase first saved old (plan_in p.head) work.base) where
  same_plan : plan_in q.head ≡ plan_in p.head
  same_plan = plan_stays p.head q.head work.calls.items work.base stays of (store_some first saved old (plan_in p.head) work.base h)

  pub closed_holds : HoldsBase first saved old (plan_in q.head) work.base
  closed_holds = subst (λ (plan : Plan). HoldsBase first saved old plan work.base) (sym same_plan) h

  holds_now : HoldsBase first saved old (plan_in p.head) work.base
  holds_now = h

  abbrev Rest : List Turn
  Rest = closing_turns drain (state_in work.base)

  pub closed_keeps : (new : History) (ga gb : Option (List ℕ))
      → Keeps (PassesTurns Rest (doing_of q work) (held_in work.base)) (plan_in q.head) old new ga gb
      → Keeps (PassesTurns (ending_of drain (doing_of p work)) (doing_of p work) (held_in work.base)) (plan_in p.head) old new ga gb
  closed_keeps new ga gb k =
      close_keeps (doing_of p work) (held_in work.base) Rest q is (plan_in p.head) old new ga gb
      (holds_leave first saved (checkpoint_in work.base) old (plan_in p.head) (held_in work.base) (store_in work.base) h)
      (subst (λ (plan : Plan). Keeps (PassesTurns Rest (doing_of q work) (held_in work.base)) plan old new ga gb) same_plan k)

  pub closed_left : (new : History) → LeavesAll old new (IsLeft (checkpoint_in work.base) Rest (doing_of q work) saved)
      → LeavesAll old new (IsLeft (checkpoint_in work.base) (ending_of drain (doing_of p work)) (doing_of p work) saved)
  closed_left new h =
      close_left (doing_of p work) Rest q is first saved (checkpoint_in work.base) old new (plan_in p.head) (held_in work.base) (store_in work.base) holds_now h

  pub closed_laid : (new : History)
      → LeavesLaid first (saved_behind (checkpoint_in work.base) Rest (doing_of q work) saved) (checkpoint_in work.base) new (plan_in q.head)
      (held_behind Rest (doing_of q work) (held_in work.base))
      → LeavesLaid first (saved_behind (checkpoint_in work.base) (ending_of drain (doing_of p work)) (doing_of p work) saved) (checkpoint_in work.base) new
      (plan_in p.head) (held_behind (ending_of drain (doing_of p work)) (doing_of p work) (held_in work.base))
  closed_laid new laid =
      close_laid (doing_of p work) (held_in work.base) Rest q is first saved (checkpoint_in work.base) new (plan_in p.head)
      (subst (λ (plan : Plan). LeavesLaid first (saved_behind (checkpoint_in work.base) Rest (doing_of q work) saved) (checkpoint_in work.base) new plan
      (held_behind Rest (doing_of q work) (held_in work.base))) same_plan laid)

-- where it is refused
module _ (p : ScriptPlace) (work : Work) (refusal : Refusal) (at : refusal.line ≡ line_after p.lines) (is : closing p ≡ Err refusal.kind) (drain : Bool)
    (first : ℕ)
    (saved : Saved) (disk : History)
    (h : HoldsBase first saved disk (plan_in p.head) work.base) where
  pub close_refused : (ga gb : Option (List ℕ)) → AppendsFront ga gb (refusal_text refusal)
      → Keeps (PassesTurns (ending_of drain (doing_of p work)) (doing_of p work) (held_in work.base)) (plan_in p.head) disk disk ga gb
  close_refused ga gb front =
      refused_keeps (doing_of p work) (held_in work.base) (closing_turns drain (state_in work.base)) refusal.kind is (plan_in p.head) disk ga gb
      (subst (λ (n : ℕ). AppendsFront ga gb (refusal_text (record { line = n; kind = refusal.kind }))) at front)
      (holds_leave first saved (checkpoint_in work.base) disk (plan_in p.head) (held_in work.base) (store_in work.base) h)

  pub close_refused_laid : LeavesLaid first (saved_behind (checkpoint_in work.base) (ending_of drain (doing_of p work)) (doing_of p work) saved)
      (checkpoint_in work.base) disk (plan_in p.head) (held_behind (ending_of drain (doing_of p work)) (doing_of p work) (held_in work.base))
  close_refused_laid =
      refused_laid (doing_of p work) (held_in work.base) (closing_turns drain (state_in work.base)) refusal.kind is first saved (checkpoint_in work.base) disk
      (plan_in p.head)
      (holds_laid first saved (checkpoint_in work.base) disk (plan_in p.head) (held_in work.base) (store_in work.base) h)
