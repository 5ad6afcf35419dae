-- A script keeps what is true of it from line to line.
use Rattle.std.proofs.Common.{◌≡◌, ◌∙◌, sym, ap, subst, ◌+◌, ◌<◌, ◌≤◌, Bool, true, false, List, [], length}
use Rattle.std.specs.List.{All}
use Rattle.std.proofs.lemmas.List.Elements.{All-nil}
use Rattle.aria_base.proofs.Fitting.{none_fit}
use Rattle.aria_base.specs.declared.calls.Call.{Call}
use Rattle.aria_base.specs.declared.limits.TheConstants.{GREATEST_NUMBER, MOST_REQUESTS}
use Rattle.proc_lang.specs.Catalogs.{Plan, takes}
use Rattle.script_places.specs.Follows.{Follows, HeadStays}
use Rattle.script_places.specs.Places.{is_check}
use Rattle.script_places.specs.declared.deeds.Deed.{Deed}
use Rattle.script_places.specs.declared.deeds.Deed.TheVariants as deed
use Rattle.script_places.specs.declared.heads.ScriptCatalog.{ScriptCatalog}
use Rattle.script_places.specs.declared.heads.ScriptCatalog.TheVariants as head
use Rattle.script_places.specs.declared.places.ScriptPlace.{ScriptPlace}
use Rattle.run_commands.specs.Bases.{IsBlank, IsHead, IsUnder, counts_of, state_in}
use Rattle.run_commands.specs.Standing.{HasEnded, Holds, IsOf, MayDo, Stands}
use Rattle.run_commands.specs.declared.bases.Base.{Base}
use Rattle.run_commands.specs.declared.bases.Base.TheVariants as base
use Rattle.run_commands.specs.declared.works.Work.{Work}

-- ---- rows of a catalogue

blank_under : (plan : Plan) (b : Base) → IsBlank b → IsUnder plan b
blank_under plan (base.Rows tables config) e = none_fit plan.tables tables e
blank_under plan (base.Runs live) e = absurd e

-- ---- the head goes on

of_ready : (b : Base) (h : ScriptCatalog) (calls : List Call) → calls ≡ [] → IsBlank b → IsOf h calls b
of_ready b head.Unnamed calls e blank = (e, blank)
of_ready b (head.Text text) calls e blank = (e, blank)
of_ready b (head.Ready plan) calls e blank =
    (subst (λ (l : List Call). All (λ call. takes plan call ≡ true) l) (sym e) (All-nil (λ (call : Call). takes plan call ≡ true)), blank_under plan b blank)

of_head_on : (h next : ScriptCatalog) (calls : List Call) (b : Base) → HeadStays h next → IsOf h calls b → IsOf next calls b
of_head_on head.Unnamed next calls b on of = of_ready b next calls of.0 of.1
of_head_on (head.Text text) next calls b on of = of_ready b next calls of.0 of.1
of_head_on (head.Ready plan) next calls b on of = subst (λ (k : ScriptCatalog). IsOf k calls b) (sym on) of

ended_on : (before after : Bool) (b : Base) → (before ≡ true → after ≡ true) → HasEnded before b → HasEnded after b
ended_on before after (base.Rows tables config) on h = tt
ended_on before after (base.Runs live) on h = on h

module _ (p q : ScriptPlace) (work : Work) where
  pub holds_on : q.mode ≡ p.mode → HeadStays p.head q.head → (p.rows_ended ≡ true → q.rows_ended ≡ true) → Holds p work → Holds q work
  holds_on mode stays rows h = record {
    mode_kept = ap is_check mode ∙ h.mode_kept;
    of_head = of_head_on p.head q.head work.calls.items work.base stays h.of_head;
    ended = ended_on p.rows_ended q.rows_ended work.base rows h.ended;
    bounded = h.bounded;
    listed = h.listed;
    engines = h.engines;
  }

  stands_on : q.mode ≡ p.mode → HeadStays p.head q.head → (p.rows_ended ≡ true → q.rows_ended ≡ true) → q.open_calls ≡ p.open_calls → Stands p work
      → Stands q work
  stands_on mode stays rows calls s = record { holds = holds_on mode stays rows s.holds; counted = calls ∙ s.counted; few = s.few }

before_batches : (rows : Bool) (b : Base) → rows ≡ false → HasEnded rows b → IsHead b
before_batches rows (base.Rows tables config) e h = tt
before_batches rows (base.Runs live) e h = absurd (let both : true ≡ false = sym h ∙ e in cc)

no_rows : (a b : Bool) → a ≡ false → a ≡ true → b ≡ true
no_rows a b e f = absurd (let both : true ≡ false = sym f ∙ e in cc)

-- what a line asks for may be done behind it
pub may_do : (p q : ScriptPlace) (work : Work) (asks : Deed) → Stands p work → Follows p (counts_of (state_in work.base)) q asks → MayDo q work asks
may_do p q work deed.Nothing s f = stands_on p q work f.mode_stays f.head_stays f.allows.rows f.allows.calls s
may_do p q work deed.Tell s f = stands_on p q work f.mode_stays f.head_stays f.allows.rows f.allows.calls s
may_do p q work (deed.Put key row) s f = record {
  stands = stands_on p q work f.mode_stays f.head_stays (no_rows p.rows_ended q.rows_ended f.allows.rows) f.allows.calls s;
  fits = f.allows.fits;
  before_all = before_batches p.rows_ended work.base f.allows.rows s.holds.ended;
}
may_do p q work (deed.Call call) s f = record {
  holds = holds_on p q work f.mode_stays f.head_stays (λ e. f.allows.rows) s.holds;
  counted = f.allows.calls ∙ ap (λ n. n + 1) s.counted;
  room = subst (λ n. n < MOST_REQUESTS) s.counted f.allows.room;
  fits = f.allows.fits;
}
may_do p q work (deed.Set rule percent) s f = record {
  stands = stands_on p q work f.mode_stays f.head_stays (λ e. f.allows.rows) f.allows.calls s;
  within = f.allows.within;
}
may_do p q work (deed.Keep number) s f = record {
  holds = holds_on p q work f.mode_stays f.head_stays (λ e. f.allows.rows) s.holds;
  counted = f.allows.calls;
}
may_do p q work deed.Run s f = record {
  holds = holds_on p q work f.mode_stays f.head_stays (λ e. f.allows.rows) s.holds;
  counted = f.allows.calls;
  rows = f.allows.rows;
  ready = f.allows.ready;
  room = subst (λ n. length (state_in work.base).waiting + n ≤ MOST_REQUESTS) s.counted (f.allows.room s.holds.mode_kept);
  batches = f.allows.batches;
  requests = subst (λ n. (state_in work.base).requests + n ≤ GREATEST_NUMBER) s.counted f.allows.requests;
}
