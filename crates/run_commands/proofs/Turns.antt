-- What a script holds from turn to turn.
use Rattle.std.proofs.Common.{◌≡◌, ◌≢◌, ◌⊎◌, inl, inr, ◌∙◌, sym, ap, subst, refl, ℕ, ◌≤◌, List, [], ◌∷◌, ◌++◌, length, map, drop, Option, Some, None, append-nil, append_assoc}
use Rattle.std.specs.Prelude.{Result, Ok, Err}
use Rattle.std.specs.Io.KnownBytes.{Appends}
use Rattle.std.proofs.KnownBytes.{Appends-nil}
use Rattle.std.proofs.lemmas.List.Elements.{All-drop, All-head}
use Rattle.std.specs.List.{All}
use Rattle.aria_base.specs.declared.limits.TheConstants.{LONGEST_LINE}
use Rattle.batch_core.specs.Steps.{State}
use Rattle.aria_store.specs.Stands.{Kept}
use Rattle.disk_model.specs.Histories.{History, LeavesAll}
use Rattle.disk_model.proofs.Spans.{leaves_more, leaves_still, leaves_then, still_none}
use Rattle.serving.specs.Stored.{batch_of}
use Rattle.proc_lang.specs.Catalogs.{Plan}
use Rattle.answer_text.specs.Refusals.{refusal_text}
use Rattle.script_course.specs.Courses.{Course, Goes, Stops, behind, with_fault, with_lines, with_scan}
use Rattle.script_course.specs.Served.{Serves, ServesCut}
use Rattle.script_course.specs.declared.stops.Stop.{Stop}
use Rattle.script_course.specs.declared.stops.Stop.TheVariants as stop
use Rattle.script_course.proofs.Turns.{behind-behind, behind_nothing, stopped_lines, with_lines-behind}
use Rattle.script_text.specs.Lines.{Scan}
use Rattle.script_text.specs.declared.refusals.Refusal.{Refusal}
use Rattle.run_commands.specs.Keeps.{HoldsState, Keeps, LeavesLaid, held_of}
use Rattle.run_commands.specs.Onces.{Doing, Running, doing_result, handed_in, on_line}
use Rattle.run_commands.specs.Passes.{Line, PassesTurns, Past, Turn, held_behind, held_by_step, held_over, held_then, on_turn, onward, over, past, turns}
use Rattle.store_openings.specs.Saved.{Saved}
use Rattle.run_commands.specs.Saves.{HasFront, HasLogged, IsLeft, ReadsAs, saved_behind, saved_then}
use Rattle.run_commands.specs.Turns.{HoldsScript, KeepsTurns, Stays, saved_over}
use Rattle.run_commands.proofs.Endings.{holds_laid, holds_leave, laid_as}
use Rattle.run_commands.proofs.Kept.{keeps_none, keeps_quiet}
use Rattle.run_commands.proofs.Overs.{keeps_append, keeps_front}
use Rattle.script_places.specs.Places.{plan_in}

-- ---- steps, and more of them

module _ {R : Type 0} where
  abbrev course_state : R → Course R → R
  course_state r (Goes bytes s) = s
  course_state r (Stops bytes) = r

  goes_state : (bytes more : List ℕ) (r s : R) → Goes bytes r ≡ Goes more s → r ≡ s
  goes_state bytes more r s e = ap (λ (c : Course R). course_state r c) e

  pub not_both : {X : Type 0} (bytes more : List ℕ) (r : R) → Stops bytes ≡ Goes more r → X
  not_both bytes more r e = absurd (let no : Stops bytes ≡ Goes more r = e in cc)

  -- a course behind others goes on only where it does itself
  goes_behind : (before bytes : List ℕ) (next : R) (c : Course R) → behind before c ≡ Goes bytes next → (more : List ℕ) × (c ≡ Goes more next)
  goes_behind before bytes next (Goes more s) e = (more, ap (λ (r : R). Goes more r) (goes_state (before ++ more) bytes s next e))
  goes_behind before bytes next (Stops more) e = not_both (before ++ more) bytes next e

  stops_behind : (before bytes : List ℕ) (c : Course R) → behind before c ≡ Stops bytes → (more : List ℕ) × (c ≡ Stops more)
  stops_behind before bytes (Goes more s) e = not_both bytes (before ++ more) s (sym e)
  stops_behind before bytes (Stops more) e = (more, refl)

  -- what a course was served by tells where it stands
  pub goes_to : (c : Course R) (next : R) (old new : Option (List ℕ)) → Serves c old new (Ok next)
      → (bytes : List ℕ) × (c ≡ Goes bytes next) × Appends old new bytes
  goes_to (Goes bytes s) next old new h = (bytes, ap (λ (r : R). Goes bytes r) (sym h.0), h.1)
  goes_to (Stops bytes) next old new h = absurd h

  pub stops_to : (c : Course R) (old new : Option (List ℕ)) → ServesCut c old new stop.Refused → (bytes : List ℕ) × (c ≡ Stops bytes)
  stops_to (Goes bytes s) old new h = absurd h
  stops_to (Stops bytes) old new h = (bytes, refl)

module _ {R X : Type 0} (on : R → X → Course R) where
  -- nothing follows
  pub onward_none : (c : Course R) → onward (over on []) c ≡ c
  onward_none (Goes bytes r) = ap (λ (l : List ℕ). Goes l r) (append-nil bytes)
  onward_none (Stops bytes) = refl

  onward_behind : (next : R → Course R) (before : List ℕ) (c : Course R) → onward next (behind before c) ≡ behind before (onward next c)
  onward_behind next before (Goes bytes r) = behind-behind before bytes (next r)
  onward_behind next before (Stops bytes) = refl

  over_step : (steps more : List X) (c : Course R) → ((r : R) → over on (steps ++ more) r ≡ onward (over on more) (over on steps r))
      → onward (over on (steps ++ more)) c ≡ onward (over on more) (onward (over on steps) c)
  over_step steps more (Goes bytes r) each = ap (λ (c : Course R). behind bytes c) (each r) ∙ sym (onward_behind (over on more) bytes (over on steps r))
  over_step steps more (Stops bytes) each = refl

  pub over_append : (steps more : List X) (r : R) → over on (steps ++ more) r ≡ onward (over on more) (over on steps r)
  over_append [] more r = sym (behind_nothing (over on more r))
  over_append (x ∷ steps) more r = over_step steps more (on r x) (over_append steps more)

module _ {H R X : Type 0} (on : R → X → Course R) (held_by : H → R → R → H) where
  -- ---- what is held behind them

  held_goes_by : (steps more : List X) (r : R) (held : H) (c : Course R) (bytes : List ℕ) (next : R) → onward (over on steps) c ≡ Goes bytes next
      → ((s : R) (kept : H) (b : List ℕ) → over on steps s ≡ Goes b next
      → held_over on held_by (steps ++ more) s kept ≡ held_over on held_by more next (held_over on held_by steps s kept))
      → held_by_step on held_by r held (held_over on held_by (steps ++ more)) c ≡ held_over on held_by more next
      (held_by_step on held_by r held (held_over on held_by steps) c)
  held_goes_by steps more r held (Stops first) bytes next e rest = not_both first bytes next e
  held_goes_by steps more r held (Goes first s) bytes next e rest =
      let g = goes_behind first bytes next (over on steps s) e in rest s (held_by held r s) g.0 g.1

  pub held_goes : (steps more : List X) (r : R) (held : H) (bytes : List ℕ) (next : R) → over on steps r ≡ Goes bytes next
      → held_over on held_by (steps ++ more) r held ≡ held_over on held_by more next (held_over on held_by steps r held)
  held_goes [] more r held bytes next e = ap (λ (s : R). held_over on held_by more s held) (goes_state [] bytes r next e)
  held_goes (x ∷ steps) more r held bytes next e = held_goes_by steps more r held (on r x) bytes next e (λ s kept b is. held_goes steps more s kept b next is)

  held_stops_by : (steps more : List X) (r : R) (held : H) (c : Course R) (bytes : List ℕ) → onward (over on steps) c ≡ Stops bytes
      → ((s : R) (kept : H) (b : List ℕ) → over on steps s ≡ Stops b → held_over on held_by (steps ++ more) s kept ≡ held_over on held_by steps s kept)
      → held_by_step on held_by r held (held_over on held_by (steps ++ more)) c ≡ held_by_step on held_by r held (held_over on held_by steps) c
  held_stops_by steps more r held (Stops first) bytes e rest = refl
  held_stops_by steps more r held (Goes first s) bytes e rest =
      let g = stops_behind first bytes (over on steps s) e in rest s (held_by held r s) g.0 g.1

  pub held_stops : (steps more : List X) (r : R) (held : H) (bytes : List ℕ) → over on steps r ≡ Stops bytes
      → held_over on held_by (steps ++ more) r held ≡ held_over on held_by steps r held
  held_stops [] more r held bytes e = not_both bytes [] r (sym e)
  held_stops (x ∷ steps) more r held bytes e = held_stops_by steps more r held (on r x) bytes e (λ s kept b is. held_stops steps more s kept b is)

  -- behind one step
  pub held_one : (x : X) (r next : R) (held : H) (bytes : List ℕ) → on r x ≡ Goes bytes next → held_over on held_by (x ∷ []) r held ≡ held_by held r next
  held_one x r next held bytes e = ap (λ (c : Course R). held_by_step on held_by r held (held_over on held_by []) c) e

  pub held_none : (x : X) (r : R) (held : H) (bytes : List ℕ) → on r x ≡ Stops bytes → held_over on held_by (x ∷ []) r held ≡ held
  held_none x r held bytes e = ap (λ (c : Course R). held_by_step on held_by r held (held_over on held_by []) c) e

-- ---- lines as turns

lines_by : (lines : List (List ℕ)) (c : Course Doing) → ((d : Doing) → with_lines on_line (Goes [] d) lines ≡ over on_turn (map Line lines) d)
    → with_lines on_line (behind [] c) lines ≡ onward (over on_turn (map Line lines)) c
lines_by lines (Goes bytes d) each =
    ap (λ (l : List ℕ). with_lines on_line (Goes l d) lines) (sym (append-nil bytes))
    ∙ with_lines-behind on_line bytes (Goes [] d) lines
    ∙ ap (λ (c : Course Doing). behind bytes c) (each d)
lines_by lines (Stops bytes) each = stopped_lines on_line bytes lines

pub lines_over : (lines : List (List ℕ)) (d : Doing) → with_lines on_line (Goes [] d) lines ≡ over on_turn (map Line lines) d
lines_over [] d = refl
lines_over (line ∷ lines) d = lines_by lines (on_line d line) (lines_over lines)

fault_over : (c : Course Doing) (fault : Option Refusal) → with_fault c fault ≡ onward (over on_turn (past fault)) c
fault_over (Goes bytes d) None = ap (λ (l : List ℕ). Goes l d) (sym (append-nil bytes))
fault_over (Stops bytes) None = refl
fault_over (Goes bytes d) (Some refusal) = refl
fault_over (Stops bytes) (Some refusal) = refl

pub fault_lines_over : (lines : List (List ℕ)) (fault : Option Refusal) (d : Doing)
    → with_fault (with_lines on_line (Goes [] d) lines) fault ≡ over on_turn (map Line lines ++ past fault) d
fault_lines_over lines fault d =
    ap (λ (c : Course Doing). with_fault c fault) (lines_over lines d)
    ∙ fault_over (over on_turn (map Line lines) d) fault
    ∙ sym (over_append on_turn (map Line lines) (past fault) d)

pub scan_over : (scan : Scan) (d : Doing) → with_scan on_line (Goes [] d) scan ≡ over on_turn (turns scan) d
scan_over scan d = fault_lines_over scan.lines scan.fault d

-- ---- what is left of turns

module _ (checkpoint : ℕ) where
  -- what is left of turns is left of them and more
  pub left_more : (steps more : List Turn) (d : Doing) (saved : Saved) (images : ℕ → List ℕ) → IsLeft checkpoint steps d saved images
      → IsLeft checkpoint (steps ++ more) d saved images
  left_more steps more d saved images l = record {
    front = l.front;
    rest = l.rest ++ more;
    are = ap (λ (s : List Turn). s ++ more) l.are ∙ append_assoc l.front l.rest more;
    reads = by l.reads;
  }
    where
      by : HasFront checkpoint l.front d saved images ⊎ HasLogged checkpoint l.front l.rest d saved images
          → HasFront checkpoint l.front d saved images ⊎ HasLogged checkpoint l.front (l.rest ++ more) d saved images
      by (inl h) = inl h
      by (inr h) = inr (record {
        turn = h.turn;
        more = h.more ++ more;
        rest_is = ap (λ (s : List Turn). s ++ more) h.rest_is;
        printed = h.printed;
        here = h.here;
        goes = h.goes;
        text = h.text;
        next = h.next;
        runs = h.runs;
        counted = h.counted;
        reads = h.reads;
      })

  module _ (steps more : List Turn) (d next : Doing) (saved : Saved) (bytes : List ℕ) (is : over on_turn steps d ≡ Goes bytes next) where
    saved_on : (front : List Turn) → saved_behind checkpoint (steps ++ front) d saved
        ≡ saved_behind checkpoint front next (saved_behind checkpoint steps d saved)
    saved_on front = held_goes on_turn (saved_then checkpoint) steps front d saved bytes next is

    goes_on : (front : List Turn) (printed : List ℕ) (here : Doing) → over on_turn front next ≡ Goes printed here
        → over on_turn (steps ++ front) d ≡ Goes (bytes ++ printed) here
    goes_on front printed here goes =
        over_append on_turn steps front d
        ∙ ap (λ (c : Course Doing). onward (over on_turn front) c) is
        ∙ ap (λ (c : Course Doing). behind bytes c) goes

    -- what is left of those behind turns that went on
    pub left_behind : (images : ℕ → List ℕ) → IsLeft checkpoint more next (saved_behind checkpoint steps d saved) images
        → IsLeft checkpoint (steps ++ more) d saved images
    left_behind images l = record {
      front = steps ++ l.front;
      rest = l.rest;
      are = ap (λ (s : List Turn). steps ++ s) l.are ∙ sym (append_assoc steps l.front l.rest);
      reads = by l.reads;
    }
      where
        by : HasFront checkpoint l.front next (saved_behind checkpoint steps d saved) images
            ⊎ HasLogged checkpoint l.front l.rest next (saved_behind checkpoint steps d saved) images
            → HasFront checkpoint (steps ++ l.front) d saved images ⊎ HasLogged checkpoint (steps ++ l.front) l.rest d saved images
        by (inl h) = inl (subst (λ (s : Saved). ReadsAs s.c s.later images) (sym (saved_on l.front)) h)
        by (inr h) = inr (record {
          turn = h.turn;
          more = h.more;
          rest_is = h.rest_is;
          printed = bytes ++ h.printed;
          here = h.here;
          goes = goes_on l.front h.printed h.here h.goes;
          text = h.text;
          next = h.next;
          runs = h.runs;
          counted = h.counted;
          reads = subst (λ (s : Saved). ReadsAs s.c (s.later ++ batch_of (handed_in h.here) ∷ []) images) (sym (saved_on l.front)) h.reads;
        })

    -- both parts
    pub left_both : (a b c : History) → LeavesAll a b (IsLeft checkpoint steps d saved)
        → LeavesAll b c (IsLeft checkpoint more next (saved_behind checkpoint steps d saved)) → LeavesAll a c (IsLeft checkpoint (steps ++ more) d saved)
    left_both a b c first second =
        leaves_then a b c (IsLeft checkpoint (steps ++ more) d saved)
        (leaves_more a b (IsLeft checkpoint steps d saved) (IsLeft checkpoint (steps ++ more) d saved) first (left_more steps more d saved))
        (leaves_more b c (IsLeft checkpoint more next (saved_behind checkpoint steps d saved)) (IsLeft checkpoint (steps ++ more) d saved) second left_behind)

  -- nothing was done
  pub left_still : (first : ℕ) (steps : List Turn) (d : Doing) (saved : Saved) (disk : History) (plan : Plan) (state : State) (store : Option Kept)
      → HoldsState first saved checkpoint disk plan state store → LeavesAll disk disk (IsLeft checkpoint steps d saved)
  left_still first steps d saved disk plan state store h =
      leaves_still disk disk (IsLeft checkpoint steps d saved) (still_none disk) (λ images left.
      let here = holds_laid first saved checkpoint disk plan state store h images left in
      record { front = []; rest = steps; are = refl; reads = inl (here.reopens, here.roomy) })

-- ---- what is kept, of one turn and of many

abbrev pub stop_in : Result Running Stop → Stop
stop_in (Ok next) = stop.NoMemory
stop_in (Err why) = why

module _ (first : ℕ) where
  pub stays_then : (saved here : Saved) (b c : History) (script next last : Running) → Stays first here b script next → Stays first saved c next last
      → Stays first saved c script last
  stays_then saved here b c script next last s t = record { plan = t.plan ∙ s.plan; checkpoint = t.checkpoint ∙ s.checkpoint; holds = t.holds }

  module _ (saved : Saved) where
    pub stays_here : (a : History) (script : Running) → HoldsScript first saved a script → Stays first saved a script script
    stays_here a script h = record { plan = refl; checkpoint = refl; holds = h }

    -- nothing was done
    pub still_kept : (script : Running) (a : History) (g : Option (List ℕ)) → HoldsScript first saved a script
        → KeepsTurns first saved [] script a a g g (Ok script)
    still_kept script a g h = record {
      keeps = keeps_none on_turn held_then (plan_in script.doing.place.head) [] script.doing (held_of script) a g (Appends-nil g)
          (holds_leave first saved script.checkpoint a (plan_in script.doing.place.head) (held_of script) script.store h);
      left = left_still script.checkpoint first [] script.doing saved a (plan_in script.doing.place.head) (held_of script) script.store h;
      stays = stays_here a script h;
      held = refl;
      refused = λ e. absurd cc;
    }

    -- nor where it stopped before any of these turns, and no line was refused
    pub none_kept : (steps : List Turn) (script : Running) (a : History) (g : Option (List ℕ)) (why : Stop) → why ≢ stop.Refused
        → HoldsScript first saved a script → KeepsTurns first saved steps script a a g g (Err why)
    none_kept steps script a g why other h = record {
      keeps = keeps_none on_turn held_then (plan_in script.doing.place.head) steps script.doing (held_of script) a g (Appends-nil g)
          (holds_leave first saved script.checkpoint a (plan_in script.doing.place.head) (held_of script) script.store h);
      left = left_still script.checkpoint first steps script.doing saved a (plan_in script.doing.place.head) (held_of script) script.store h;
      stays = tt;
      held = tt;
      refused = λ e. absurd (other (ap stop_in e));
    }

    -- a turn that is refused
    pub refused_kept : (turn : Turn) (script : Running) (bytes : List ℕ) (a : History) (ga gb : Option (List ℕ)) (why : Stop)
        → on_turn script.doing turn ≡ Stops bytes
        → Serves {R = Doing} (Stops bytes) ga gb (Err why) → HoldsScript first saved a script
        → KeepsTurns first saved (turn ∷ []) script a a ga gb (Err why)
    refused_kept turn script bytes a ga gb why is serves h =
        let plan = plan_in script.doing.place.head in
        let held = held_of script in
        record {
          keeps = keeps_quiet on_turn held_then plan turn script.doing held a ga gb (Err why)
              (λ more next e. not_both bytes more next (sym is ∙ e))
              (subst (λ (c : Course Doing). Serves c ga gb (Err why)) (sym is) serves)
              (holds_leave first saved script.checkpoint a plan held script.store h);
          left = left_still script.checkpoint first (turn ∷ []) script.doing saved a plan held script.store h;
          stays = tt;
          held = tt;
          refused = λ e. laid_as first script.checkpoint a plan saved (saved_over (turn ∷ []) script saved) held (held_behind (turn ∷ []) script.doing held)
              (sym (held_none on_turn (saved_then script.checkpoint) turn script.doing saved bytes is))
              (sym (held_none on_turn held_then turn script.doing held bytes is))
              (holds_laid first saved script.checkpoint a plan held script.store h);
        }

    module _ (steps more : List Turn) (script : Running) (a b : History) (ga gb : Option (List ℕ)) where
      abbrev Plan_in : Plan
      Plan_in = plan_in script.doing.place.head

      -- turns that were cut off, whatever follows
      pub kept_front : (why : Stop) → ServesCut (over on_turn steps script.doing) ga gb why → KeepsTurns first saved steps script a b ga gb (Err why)
          → KeepsTurns first saved (steps ++ more) script a b ga gb (Err why)
      kept_front why serves k = record {
        keeps = keeps_front on_turn held_then Plan_in steps more script.doing (held_of script) a b ga gb k.keeps;
        left = leaves_more a b (IsLeft script.checkpoint steps script.doing saved) (IsLeft script.checkpoint (steps ++ more) script.doing saved) k.left
            (left_more script.checkpoint steps more script.doing saved);
        stays = tt;
        held = tt;
        refused = λ e.
            let stopped = stops_to (over on_turn steps script.doing) ga gb
            (subst (λ (s : Stop). ServesCut (over on_turn steps script.doing) ga gb s) (ap stop_in e) serves) in
            laid_as first script.checkpoint b Plan_in (saved_over steps script saved) (saved_over (steps ++ more) script saved)
            (held_behind steps script.doing (held_of script)) (held_behind (steps ++ more) script.doing (held_of script))
            (sym (held_stops on_turn (saved_then script.checkpoint) steps more script.doing saved stopped.0 stopped.1))
            (sym (held_stops on_turn held_then steps more script.doing (held_of script) stopped.0 stopped.1)) (k.refused e);
      }

      module _ (next : Running) (c : History) (gc : Option (List ℕ)) (serves : Serves (over on_turn steps script.doing) ga gb (Ok next.doing))
          (k : KeepsTurns first saved steps script a b ga gb (Ok next)) where
        went : (bytes : List ℕ) × (over on_turn steps script.doing ≡ Goes bytes next.doing) × Appends ga gb bytes
        went = goes_to (over on_turn steps script.doing) next.doing ga gb serves

        behind_is : held_behind (steps ++ more) script.doing (held_of script) ≡ held_behind more next.doing (held_of next)
        behind_is =
            held_goes on_turn held_then steps more script.doing (held_of script) went.0 next.doing went.1
            ∙ ap (λ (s : State). held_behind more next.doing s) (sym k.held)

        abbrev Here : Saved
        Here = saved_over steps script saved

        saved_is : saved_over (steps ++ more) script saved ≡ saved_over more next Here
        saved_is =
            held_goes on_turn (saved_then script.checkpoint) steps more script.doing saved went.0 next.doing went.1
            ∙ ap (λ (n : ℕ). saved_behind n more next.doing Here) (sym k.stays.checkpoint)

        keeps_both : Keeps (PassesTurns more next.doing (held_of next)) (plan_in next.doing.place.head) b c gb gc
            → Keeps (PassesTurns (steps ++ more) script.doing (held_of script)) Plan_in a c ga gc
        keeps_both l =
            keeps_append on_turn held_then Plan_in steps more script.doing (held_of script) next.doing went.0 a b c ga gb gc went.1 went.2 k.keeps
            (subst (λ (s : State). Keeps (PassesTurns more next.doing s) Plan_in b c gb gc) k.held
            (subst (λ (p : Plan). Keeps (PassesTurns more next.doing (held_of next)) p b c gb gc) k.stays.plan l))

        laid_both : LeavesLaid first (saved_over more next Here) next.checkpoint c (plan_in next.doing.place.head) (held_behind more next.doing (held_of next))
            → LeavesLaid first (saved_over (steps ++ more) script saved) script.checkpoint c Plan_in (held_behind (steps ++ more) script.doing (held_of script))
        laid_both h =
            laid_as first script.checkpoint c Plan_in (saved_over more next Here) (saved_over (steps ++ more) script saved)
            (held_behind more next.doing (held_of next)) (held_behind (steps ++ more) script.doing (held_of script)) (sym saved_is) (sym behind_is)
            (subst (λ (p : Plan). LeavesLaid first (saved_over more next Here) script.checkpoint c p (held_behind more next.doing (held_of next))) k.stays.plan
            (subst (λ (n : ℕ). LeavesLaid first (saved_over more next Here) n c (plan_in next.doing.place.head) (held_behind more next.doing (held_of next)))
            k.stays.checkpoint h))

        left_all : LeavesAll b c (IsLeft next.checkpoint more next.doing Here) → LeavesAll a c (IsLeft script.checkpoint (steps ++ more) script.doing saved)
        left_all l =
            left_both script.checkpoint steps more script.doing next.doing saved went.0 went.1 a b c k.left
            (subst (λ (n : ℕ). LeavesAll b c (IsLeft n more next.doing Here)) k.stays.checkpoint l)

        -- turns that went on, and what follows
        pub kept_then : (result : Result Running Stop) → KeepsTurns first Here more next b c gb gc result
            → KeepsTurns first saved (steps ++ more) script a c ga gc result
        kept_then (Ok last) l = record {
          keeps = keeps_both l.keeps;
          left = left_all l.left;
          stays = subst (λ (x : Saved). Stays first x c script last) (sym saved_is)
              (stays_then (saved_over more next Here) Here b c script next last k.stays l.stays);
          held = l.held ∙ sym behind_is;
          refused = λ e. absurd cc;
        }
        kept_then (Err why) l = record {
          keeps = keeps_both l.keeps;
          left = left_all l.left;
          stays = tt;
          held = tt;
          refused = λ e. laid_both (l.refused e);
        }

-- ---- what the loop over lines needs

-- to keep the rest of these turns from here is to keep all of them from there
abbrev pub LeadsTurns : ℕ → Saved → List Turn → Running → History → Option (List ℕ) → Saved → List Turn → Running → History → Option (List ℕ) → Type 0
LeadsTurns first here rest script now given saved steps start old given_old =
    (new : History) (given_new : Option (List ℕ)) (result : Result Running Stop) → KeepsTurns first here rest script now new given given_new result
    → KeepsTurns first saved steps start old new given_old given_new result

one_over : (line : List ℕ) (d : Doing) (ga gb : Option (List ℕ)) (result : Result Doing Stop) → Serves (on_line d line) ga gb result
    → Serves (over on_turn (Line line ∷ []) d) ga gb result
one_over line d ga gb result h = subst (λ (c : Course Doing). Serves c ga gb result) (sym (onward_none on_turn (on_line d line))) h

module _ (first : ℕ) (saved : Saved) (line : List ℕ) (lines left : List (List ℕ)) (is : left ≡ line ∷ lines) (script : Running) (a b : History)
    (ga gb : Option (List ℕ)) where
  pub lead_line : (next : Running) → Serves (on_line script.doing line) ga gb (Ok next.doing)
      → KeepsTurns first saved (Line line ∷ []) script a b ga gb (Ok next)
      → LeadsTurns first (saved_over (Line line ∷ []) script saved) (map Line lines) next b gb saved (map Line left) script a ga
  lead_line next serves k = λ new given result rest.
      subst (λ (l : List (List ℕ)). KeepsTurns first saved (map Line l) script a new ga given result) (sym is)
      (kept_then first saved (Line line ∷ []) (map Line lines) script a b ga gb next new given (one_over line script.doing ga gb (Ok next.doing) serves) k
      result
      rest)

  pub cut_line : (why : Stop) → ServesCut (on_line script.doing line) ga gb why → KeepsTurns first saved (Line line ∷ []) script a b ga gb (Err why)
      → KeepsTurns first saved (map Line left) script a b ga gb (Err why)
  cut_line why serves k =
      subst (λ (l : List (List ℕ)). KeepsTurns first saved (map Line l) script a b ga gb (Err why)) (sym is)
      (kept_front first saved (Line line ∷ []) (map Line lines) script a b ga gb why (one_over line script.doing ga gb (Err why) serves) k)

module _ (first : ℕ) (saved : Saved) where
  pub lines_end : (script : Running) (left : List (List ℕ)) (a : History) (g : Option (List ℕ)) → left ≡ [] → HoldsScript first saved a script
      → KeepsTurns first saved (map Line left) script a a g g (Ok script)
  lines_end script left a g none h = subst (λ (l : List (List ℕ)). KeepsTurns first saved (map Line l) script a a g g (Ok script)) (sym none)
      (still_kept first saved script a g h)

  -- the same turns
  pub same_turns : (steps other : List Turn) (script : Running) (a b : History) (ga gb : Option (List ℕ)) (result : Result Running Stop) → steps ≡ other
      → KeepsTurns first saved other script a b ga gb result → KeepsTurns first saved steps script a b ga gb result
  same_turns steps other script a b ga gb result is k = subst (λ (l : List Turn). KeepsTurns first saved l script a b ga gb result) (sym is) k

  turn_refused : (turn : Turn) (script : Running) (bytes : List ℕ) (a : History) (ga gb : Option (List ℕ)) (result : Result Running Stop)
      → on_turn script.doing turn ≡ Stops bytes
      → Serves (Stops bytes) ga gb (doing_result result) → HoldsScript first saved a script → KeepsTurns first saved (turn ∷ []) script a a ga gb result
  turn_refused turn script bytes a ga gb (Ok next) is serves h = absurd serves
  turn_refused turn script bytes a ga gb (Err why) is serves h = refused_kept first saved turn script bytes a ga gb why is serves h

  -- a line that is refused
  pub line_refused : (line : List ℕ) (script : Running) (bytes : List ℕ) (a : History) (ga gb : Option (List ℕ)) (result : Result Running Stop)
      → on_line script.doing line ≡ Stops bytes
      → Serves (Stops bytes) ga gb (doing_result result) → HoldsScript first saved a script
      → KeepsTurns first saved (Line line ∷ []) script a a ga gb result
  line_refused line script bytes a ga gb result is serves h = turn_refused (Line line) script bytes a ga gb result is serves h

module _ (first : ℕ) (saved : Saved) (lines : List (List ℕ)) (refusal : Refusal) (script : Running) (a b : History) (ga gb : Option (List ℕ)) where
  as_over : (result : Result Doing Stop) → Serves (with_lines on_line (Goes [] script.doing) lines) ga gb result
      → Serves (over on_turn (map Line lines) script.doing) ga gb result
  as_over result h = subst (λ (c : Course Doing). Serves c ga gb result) (lines_over lines script.doing) h

  -- lines, and then one that passes a bound
  pub fault_kept : (next : Running) (gc : Option (List ℕ)) (result : Result Running Stop)
      → Serves (with_lines on_line (Goes [] script.doing) lines) ga gb (Ok next.doing)
      → Serves (Stops (refusal_text refusal)) gb gc (doing_result result) → KeepsTurns first saved (map Line lines) script a b ga gb (Ok next)
      → KeepsTurns first saved (map Line lines ++ past (Some refusal)) script a b ga gc result
  fault_kept next gc result serves refused k =
      kept_then first saved (map Line lines) (past (Some refusal)) script a b ga gb next b gc (as_over (Ok next.doing) serves) k result
      (turn_refused first (saved_over (map Line lines) script saved) (Past refusal) next (refusal_text refusal) b gb gc result refl refused k.stays.holds)

  pub fault_cut : (why : Stop) → ServesCut (with_lines on_line (Goes [] script.doing) lines) ga gb why
      → KeepsTurns first saved (map Line lines) script a b ga gb (Err why)
      → KeepsTurns first saved (map Line lines ++ past (Some refusal)) script a b ga gb (Err why)
  fault_cut why serves k = kept_front first saved (map Line lines) (past (Some refusal)) script a b ga gb why (as_over (Err why) serves) k

-- the next of lines that are all short is short
pub short_next : (lines : List (List ℕ)) (i : ℕ) (line : List ℕ) (rest : List (List ℕ)) → drop i lines ≡ line ∷ rest → All (λ l. length l ≤ LONGEST_LINE) lines
    → length line ≤ LONGEST_LINE
short_next lines i line rest is short =
    let P : List ℕ → Type 0 = λ l. length l ≤ LONGEST_LINE in
    All-head P line rest (subst (λ (l : List (List ℕ)). All P l) is (All-drop P i lines short))
