-- A script as a whole: what was read of it, and its end.
use Rattle.std.proofs.Common.{◌≡◌, ◌⊎◌, inl, inr, ◌∙◌, sym, ap, subst, refl, ℕ, Bool, List, ◌++◌, Option, Some, None}
use Rattle.std.specs.Prelude.{Result, Ok, Err, IfSome}
use Rattle.std.specs.Io.KnownBytes.{Appends}
use Rattle.batch_core.specs.Steps.{State}
use Rattle.disk_model.specs.Histories.{History, LeavesAll}
use Rattle.disk_model.proofs.Spans.{leaves_more}
use Rattle.proc_lang.specs.Catalogs.{Plan}
use Rattle.script_course.specs.Courses.{Course, Goes, Stops, behind, told_whole, with_last}
use Rattle.script_course.specs.Served.{IsGoing, IsStopped, Reaches}
use Rattle.script_course.specs.declared.statuses.TheConstants.{DONE}
use Rattle.script_course.specs.declared.stops.Stop.{Stop}
use Rattle.script_course.specs.declared.stops.Stop.TheVariants as stop
use Rattle.script_text.specs.Lines.{last_line, scan}
use Rattle.store_openings.specs.Saved.{Saved}
use Rattle.run_commands.specs.Keeps.{Keeps, LeavesLaid, held_of}
use Rattle.run_commands.specs.Onces.{Doing, Running, on_line}
use Rattle.run_commands.specs.Outs.{no_line, text_turns}
use Rattle.run_commands.specs.Passes.{PassesTurns, Turn, ending_behind, ending_of, held_behind, held_then, last, on_turn, onward, over, turns, turns_whole}
use Rattle.run_commands.specs.Saves.{IsLeft, saved_behind, saved_then}
use Rattle.run_commands.specs.Turns.{HoldsScript, KeepsTurns, saved_over}
use Rattle.run_commands.proofs.Endings.{laid_as}
use Rattle.run_commands.proofs.Overs.{keeps_append, keeps_front}
use Rattle.run_commands.proofs.Turns.{held_goes, held_stops, left_both, left_more, onward_none, over_append, scan_over}
use Rattle.script_places.specs.Places.{plan_in}

-- ---- a text as turns

last_over : (c : Course Doing) (o : Option (List ℕ)) → with_last on_line c o ≡ onward (over on_turn (last o)) c
last_over c None = sym (onward_none on_turn c)
last_over (Goes bytes d) (Some line) = ap (behind bytes) (sym (onward_none on_turn (on_line d line)))
last_over (Stops bytes) (Some line) = refl

pub whole_over : (d : Doing) (text : List ℕ) → told_whole on_line no_line d text ≡ over on_turn (turns_whole (scan no_line text)) d
whole_over d text =
    let s = scan no_line text in
    ap (λ (c : Course Doing). with_last on_line c (last_line s.feed)) (scan_over s d)
    ∙ last_over (over on_turn (turns s) d) (last_line s.feed)
    ∙ sym (over_append on_turn (turns s) (last (last_line s.feed)) d)

went : (c : Course Doing) (d : Doing) (ga gb : Option (List ℕ)) → IsGoing d c ga gb → (bytes : List ℕ) × (c ≡ Goes bytes d) × Appends ga gb bytes
went (Goes bytes s) d ga gb h = (bytes, ap (λ (x : Doing). Goes bytes x) (sym h.0), h.1)
went (Stops bytes) d ga gb h = absurd h

was_stopped : (c : Course Doing) (ga gb : Option (List ℕ)) → IsStopped c ga gb → (bytes : List ℕ) × (c ≡ Stops bytes)
was_stopped (Goes bytes d) ga gb h = absurd h
was_stopped (Stops bytes) ga gb h = (bytes, refl)

-- ---- over a store

module _ (drain : Bool) (first : ℕ) (saved : Saved) (start : Running) (a b : History) (ga gb : Option (List ℕ)) where
  abbrev Plan0 : Plan
  Plan0 = plan_in start.doing.place.head

  abbrev Steps : List ℕ → List Turn
  Steps text = turns_whole (scan no_line text)

  abbrev Told : List ℕ → Course Doing
  Told text = told_whole on_line no_line start.doing text

  -- what stands behind the text
  abbrev Here : List ℕ → Saved
  Here text = saved_over (Steps text) start saved

  -- the text was read to its end
  module _ (next : Running) (c : History) (gc : Option (List ℕ)) (text : List ℕ) (reaches : Reaches (Told text) ga gb (Ok next.doing))
      (k : KeepsTurns first saved (Steps text) start a b ga gb (Ok next)) where
    went_on : (bytes : List ℕ) × (Told text ≡ Goes bytes next.doing) × Appends ga gb bytes
    went_on = went (Told text) next.doing ga gb reaches

    turns_are : text_turns drain start.doing text ≡ Steps text ++ ending_of drain next.doing
    turns_are = ap (λ (t : Course Doing). Steps text ++ ending_behind drain t) went_on.1

    over_is : over on_turn (Steps text) start.doing ≡ Goes went_on.0 next.doing
    over_is = sym (whole_over start.doing text) ∙ went_on.1

    text_keeps : (HoldsScript first (Here text) b next → Keeps (PassesTurns (ending_of drain next.doing) next.doing (held_of next))
        (plan_in next.doing.place.head) b c gb gc)
        → Keeps (PassesTurns (text_turns drain start.doing text) start.doing (held_of start)) Plan0 a c ga gc
    text_keeps ends =
        let rest = subst (λ (p : Plan). Keeps (PassesTurns (ending_of drain next.doing) next.doing (held_of next)) p b c gb gc) k.stays.plan
        (ends k.stays.holds) in
        let behind_it = subst (λ (s : State). Keeps (PassesTurns (ending_of drain next.doing) next.doing s) Plan0 b c gb gc) k.held rest in
        subst (λ (t : List Turn). Keeps (PassesTurns t start.doing (held_of start)) Plan0 a c ga gc) (sym turns_are)
        (keeps_append on_turn held_then Plan0 (Steps text) (ending_of drain next.doing) start.doing (held_of start) next.doing went_on.0 a b c ga gb gc over_is
        went_on.2 k.keeps behind_it)

    saved_is : saved_over (text_turns drain start.doing text) start saved ≡ saved_over (ending_of drain next.doing) next (Here text)
    saved_is =
        ap (λ (t : List Turn). saved_over t start saved) turns_are
        ∙ held_goes on_turn (saved_then start.checkpoint) (Steps text) (ending_of drain next.doing) start.doing saved went_on.0 next.doing over_is
        ∙ ap (λ (n : ℕ). saved_behind n (ending_of drain next.doing) next.doing (Here text)) (sym k.stays.checkpoint)

    held_is : held_behind (text_turns drain start.doing text) start.doing (held_of start) ≡ held_behind (ending_of drain next.doing) next.doing (held_of next)
    held_is =
        ap (λ (t : List Turn). held_behind t start.doing (held_of start)) turns_are
        ∙ held_goes on_turn held_then (Steps text) (ending_of drain next.doing) start.doing (held_of start) went_on.0 next.doing over_is
        ∙ ap (λ (s : State). held_behind (ending_of drain next.doing) next.doing s) (sym k.held)

    text_laid : (HoldsScript first (Here text) b next → LeavesLaid first (saved_over (ending_of drain next.doing) next (Here text)) next.checkpoint c
        (plan_in next.doing.place.head) (held_behind (ending_of drain next.doing) next.doing (held_of next)))
        → LeavesLaid first (saved_over (text_turns drain start.doing text) start saved) start.checkpoint c Plan0
        (held_behind (text_turns drain start.doing text) start.doing (held_of start))
    text_laid ends =
        let after = saved_over (ending_of drain next.doing) next (Here text) in
        let held = held_behind (ending_of drain next.doing) next.doing (held_of next) in
        laid_as first start.checkpoint c Plan0 after (saved_over (text_turns drain start.doing text) start saved) held
        (held_behind (text_turns drain start.doing text) start.doing (held_of start)) (sym saved_is) (sym held_is)
        (subst (λ (n : ℕ). LeavesLaid first after n c Plan0 held) k.stays.checkpoint
        (subst (λ (p : Plan). LeavesLaid first after next.checkpoint c p held) k.stays.plan (ends k.stays.holds)))

    text_left : (HoldsScript first (Here text) b next → LeavesAll b c (IsLeft next.checkpoint (ending_of drain next.doing) next.doing (Here text)))
        → LeavesAll a c (IsLeft start.checkpoint (text_turns drain start.doing text) start.doing saved)
    text_left ends =
        subst (λ (t : List Turn). LeavesAll a c (IsLeft start.checkpoint t start.doing saved)) (sym turns_are)
        (left_both start.checkpoint (Steps text) (ending_of drain next.doing) start.doing next.doing saved went_on.0 over_is a b c k.left
        (subst (λ (n : ℕ). LeavesAll b c (IsLeft n (ending_of drain next.doing) next.doing (Here text))) k.stays.checkpoint (ends k.stays.holds)))

  pub left_on_end : (left : Option (List ℕ)) (next : Running) (c : History) (gc : Option (List ℕ))
      → IfSome left (λ text. Reaches (Told text) ga gb (Ok next.doing))
      → IfSome left (λ text. KeepsTurns first saved (Steps text) start a b ga gb (Ok next))
      → ((here : Saved) → HoldsScript first here b next → LeavesAll b c (IsLeft next.checkpoint (ending_of drain next.doing) next.doing here))
      → IfSome left (λ text. LeavesAll a c (IsLeft start.checkpoint (text_turns drain start.doing text) start.doing saved))
  left_on_end None next c gc reaches k ends = tt
  left_on_end (Some text) next c gc reaches k ends = text_left next c gc text reaches k (ends (Here text))

  pub keeps_on_end : (left : Option (List ℕ)) (next : Running) (c : History) (gc : Option (List ℕ))
      → IfSome left (λ text. Reaches (Told text) ga gb (Ok next.doing))
      → IfSome left (λ text. KeepsTurns first saved (Steps text) start a b ga gb (Ok next))
      → ((here : Saved) → HoldsScript first here b next
      → Keeps (PassesTurns (ending_of drain next.doing) next.doing (held_of next)) (plan_in next.doing.place.head) b c gb gc)
      → IfSome left (λ text. Keeps (PassesTurns (text_turns drain start.doing text) start.doing (held_of start)) Plan0 a c ga gc)
  keeps_on_end None next c gc reaches k ends = tt
  keeps_on_end (Some text) next c gc reaches k ends = text_keeps next c gc text reaches k (ends (Here text))

  pub laid_on_end : (left : Option (List ℕ)) (next : Running) (c : History) (gc : Option (List ℕ))
      → IfSome left (λ text. Reaches (Told text) ga gb (Ok next.doing))
      → IfSome left (λ text. KeepsTurns first saved (Steps text) start a b ga gb (Ok next))
      → ((here : Saved) → HoldsScript first here b next → LeavesLaid first (saved_over (ending_of drain next.doing) next here) next.checkpoint c
      (plan_in next.doing.place.head) (held_behind (ending_of drain next.doing) next.doing (held_of next)))
      → IfSome left (λ text. LeavesLaid first (saved_over (text_turns drain start.doing text) start saved) start.checkpoint c Plan0
      (held_behind (text_turns drain start.doing text) start.doing (held_of start)))
  laid_on_end None next c gc reaches k ends = tt
  laid_on_end (Some text) next c gc reaches k ends = text_laid next c gc text reaches k (ends (Here text))

  -- it was cut off
  pub keeps_on_cut : (left : Option (List ℕ)) (why : Stop) → IfSome left (λ text. KeepsTurns first saved (Steps text) start a b ga gb (Err why))
      → IfSome left (λ text. Keeps (PassesTurns (text_turns drain start.doing text) start.doing (held_of start)) Plan0 a b ga gb)
  keeps_on_cut None why k = tt
  keeps_on_cut (Some text) why k = keeps_front on_turn held_then Plan0 (Steps text) (ending_behind drain (Told text)) start.doing
      (held_of start) a b ga gb k.keeps

  pub left_on_cut : (left : Option (List ℕ)) (why : Stop) → IfSome left (λ text. KeepsTurns first saved (Steps text) start a b ga gb (Err why))
      → IfSome left (λ text. LeavesAll a b (IsLeft start.checkpoint (text_turns drain start.doing text) start.doing saved))
  left_on_cut None why k = tt
  left_on_cut (Some text) why k =
      let rest = ending_behind drain (Told text) in
      leaves_more a b (IsLeft start.checkpoint (Steps text) start.doing saved) (IsLeft start.checkpoint (Steps text ++ rest) start.doing saved) k.left
      (left_more start.checkpoint (Steps text) rest start.doing saved)

  laid_cut : (why : Stop) (text : List ℕ) → why ≡ stop.Refused → Reaches (Told text) ga gb (Err why)
      → KeepsTurns first saved (Steps text) start a b ga gb (Err why)
      → LeavesLaid first (saved_over (text_turns drain start.doing text) start saved) start.checkpoint b Plan0
      (held_behind (text_turns drain start.doing text) start.doing (held_of start))
  laid_cut why text is reaches k =
      let rest = ending_behind drain (Told text) in
      let stopped = was_stopped (Told text) ga gb (subst (λ (s : Stop). Reaches (Told text) ga gb (Err s)) is reaches) in
      let goes = sym (whole_over start.doing text) ∙ stopped.1 in
      laid_as first start.checkpoint b Plan0 (Here text) (saved_over (text_turns drain start.doing text) start saved)
      (held_behind (Steps text) start.doing (held_of start)) (held_behind (text_turns drain start.doing text) start.doing (held_of start))
      (sym (held_stops on_turn (saved_then start.checkpoint) (Steps text) rest start.doing saved stopped.0 goes))
      (sym (held_stops on_turn held_then (Steps text) rest start.doing (held_of start) stopped.0 goes)) (k.refused (ap (λ (s : Stop). Err s) is))

  pub laid_on_cut : (left : Option (List ℕ)) (why : Stop) → why ≡ stop.Refused → IfSome left (λ text. Reaches (Told text) ga gb (Err why))
      → IfSome left (λ text. KeepsTurns first saved (Steps text) start a b ga gb (Err why))
      → IfSome left (λ text. LeavesLaid first (saved_over (text_turns drain start.doing text) start saved) start.checkpoint b Plan0
      (held_behind (text_turns drain start.doing text) start.doing (held_of start)))
  laid_on_cut None why is reaches k = tt
  laid_on_cut (Some text) why is reaches k = laid_cut why text is reaches k

-- a command that was refused or came to its end
abbrev stop_in : Result ℕ Stop → Stop
stop_in (Ok status) = stop.NoMemory
stop_in (Err why) = why

abbrev HasEnded : Result ℕ Stop → Type 0
HasEnded result = (result ≡ Ok DONE) ⊎ (result ≡ Err stop.Refused)

pub cut_refused : (why : Stop) → HasEnded (Err why) → why ≡ stop.Refused
cut_refused why (inl e) = absurd cc
cut_refused why (inr e) = ap stop_in e
