-- What a script holds when its text comes in pieces.
use Rattle.std.proofs.Common.{◌≡◌, ◌∙◌, sym, ap, subst, refl, ℕ, List, [], ◌∷◌, ◌++◌, map, Option, Some, None, IfSome, append_assoc, append-nil}
use Rattle.std.specs.Prelude.{Result, Ok, Err}
use Rattle.std.specs.Io.KnownBytes.{Consumes, IsAtEnd}
use Rattle.disk_model.specs.Histories.{History}
use Rattle.script_course.specs.Courses.{Course, Goes, with_scan}
use Rattle.script_course.specs.Served.{Serves, ServesCut}
use Rattle.script_course.specs.declared.stops.Stop.{Stop}
use Rattle.script_text.proofs.Scans.{cut, scan-faulted}
use Rattle.script_text.specs.Laws.{lead}
use Rattle.script_text.specs.Lines.{Feed, Scan, last_line, scan}
use Rattle.script_text.specs.declared.refusals.Refusal.{Refusal}
use Rattle.run_commands.specs.Onces.{Doing, Running, on_line}
use Rattle.run_commands.specs.Passes.{Line, Turn, last, on_turn, over, past, turns, turns_whole}
use Rattle.store_openings.specs.Saved.{Saved}
use Rattle.run_commands.specs.Turns.{KeepsTurns, saved_over}
use Rattle.run_commands.proofs.Turns.{kept_front, kept_then, scan_over}

-- ---- the turns of a piece stand in front of those of the rest

lines_append : (xs ys : List (List ℕ)) → map Line (xs ++ ys) ≡ map Line xs ++ map Line ys
lines_append [] ys = refl
lines_append (x ∷ xs) ys = ap (λ (l : List Turn). Line x ∷ l) (lines_append xs ys)

regrouped : (a b c d : List Turn) → ((a ++ b) ++ c) ++ d ≡ (a ++ []) ++ ((b ++ c) ++ d)
regrouped a b c d =
    ap (λ (l : List Turn). l ++ d) (append_assoc a b c)
    ∙ append_assoc a (b ++ c) d
    ∙ ap (λ (l : List Turn). l ++ ((b ++ c) ++ d)) (sym (append-nil a))

lead_turns : (front : List (List ℕ)) (s : Scan) → turns_whole (lead front s) ≡ (map Line front ++ []) ++ turns_whole s
lead_turns front s =
    ap (λ (l : List Turn). (l ++ past s.fault) ++ last (last_line s.feed)) (lines_append front s.lines)
    ∙ regrouped (map Line front) (map Line s.lines) (past s.fault) (last (last_line s.feed))

turns_on : (feed : Feed) (piece text : List ℕ) → (scan feed piece).fault ≡ None
    → turns_whole (scan feed (piece ++ text)) ≡ turns (scan feed piece) ++ turns_whole (scan (scan feed piece).feed text)
turns_on feed piece text none =
    let s = scan feed piece in
    let t = scan s.feed text in
    ap turns_whole (cut feed piece text none)
    ∙ lead_turns s.lines t
    ∙ ap (λ (f : Option Refusal). (map Line s.lines ++ past f) ++ turns_whole t) (sym none)

turns_more : (feed : Feed) (piece text : List ℕ) (fault : Option Refusal) → (scan feed piece).fault ≡ fault
    → (more : List Turn) × (turns_whole (scan feed (piece ++ text)) ≡ turns (scan feed piece) ++ more)
turns_more feed piece text None none = (turns_whole (scan (scan feed piece).feed text), turns_on feed piece text none)
turns_more feed piece text (Some refusal) some = (
  last (last_line (scan feed piece).feed),
  ap turns_whole
      (scan-faulted [] feed piece text (λ none. let e : Some refusal ≡ None = sym some ∙ none in absurd cc)),
)

-- ---- what the loop over pieces needs

module _ (first : ℕ) where
  -- what is kept of the text that is left, where the source tells it
  abbrev pub KeepsText : Saved → Feed → Running → History → Option (List ℕ) → Option (List ℕ) → History → Option (List ℕ) → Result Running Stop → Type 0
  KeepsText saved feed script old left given_old new given_new result =
      IfSome left (λ text. KeepsTurns first saved (turns_whole (scan feed text)) script old new given_old given_new result)

  -- to keep the rest of a text from here is to keep the whole from there
  abbrev pub CarriesText : Saved → Feed → Running → History → Option (List ℕ) → Option (List ℕ)
      → Saved → Feed → Running → History → Option (List ℕ) → Option (List ℕ) → Type 0
  CarriesText here rest_feed rest now left_now given saved feed script old left given_old =
      (new : History) (given_new : Option (List ℕ)) (result : Result Running Stop)
      → KeepsText here rest_feed rest now left_now given new given_new result → KeepsText saved feed script old left given_old new given_new result

  module _ (saved : Saved) (feed : Feed) (script : Running) (a : History) (ga : Option (List ℕ)) where
    over_scan : (piece : List ℕ) (gb : Option (List ℕ)) (result : Result Doing Stop)
        → Serves (with_scan on_line (Goes [] script.doing) (scan feed piece)) ga gb result
        → Serves (over on_turn (turns (scan feed piece)) script.doing) ga gb result
    over_scan piece gb result h = subst (λ (c : Course Doing). Serves c ga gb result) (scan_over (scan feed piece) script.doing) h

    -- it goes on behind a piece
    pub piece_kept : (left mid : Option (List ℕ)) (piece : List ℕ) (after : Feed) (next : Running) (b c : History) (gb gc : Option (List ℕ))
        (result : Result Running Stop)
        → Consumes left mid piece → Serves (with_scan on_line (Goes [] script.doing) (scan feed piece)) ga gb (Ok next.doing) → (scan feed piece).fault ≡ None
        → (scan feed piece).feed ≡ after → KeepsTurns first saved (turns (scan feed piece)) script a b ga gb (Ok next)
        → KeepsText (saved_over (turns (scan feed piece)) script saved) after next b mid gb c gc result
        → KeepsText saved feed script a left ga c gc result
    piece_kept None mid piece after next b c gb gc result taken serves none same k l = tt
    piece_kept (Some all) None piece after next b c gb gc result taken serves none same k l = absurd taken
    piece_kept (Some all) (Some text) piece after next b c gb gc result taken serves none same k l =
        let here : KeepsTurns first (saved_over (turns (scan feed piece)) script saved) (turns_whole (scan (scan feed piece).feed text)) next b c gb gc result =
        subst (λ (f : Feed). KeepsTurns first (saved_over (turns (scan feed piece)) script saved) (turns_whole (scan f text)) next b c gb gc result)
        (sym same) l in
        let both = kept_then first saved (turns (scan feed piece)) (turns_whole (scan (scan feed piece).feed text)) script a b ga gb next c gc
        (over_scan piece gb (Ok next.doing) serves) k result here in
        subst (λ (t : List ℕ). KeepsTurns first saved (turns_whole (scan feed t)) script a c ga gc result) (sym taken)
        (subst (λ (steps : List Turn). KeepsTurns first saved steps script a c ga gc result) (sym (turns_on feed piece text none)) both)

    -- it was cut off in a piece
    pub cut_kept : (left rest : Option (List ℕ)) (piece : List ℕ) (b : History) (gb : Option (List ℕ)) (why : Stop) → Consumes left rest piece
        → ServesCut (with_scan on_line (Goes [] script.doing) (scan feed piece)) ga gb why
        → KeepsTurns first saved (turns (scan feed piece)) script a b ga gb (Err why)
        → KeepsText saved feed script a left ga b gb (Err why)
    cut_kept None rest piece b gb why taken serves k = tt
    cut_kept (Some all) None piece b gb why taken serves k = absurd taken
    cut_kept (Some all) (Some text) piece b gb why taken serves k =
        let more = turns_more feed piece text (scan feed piece).fault refl in
        subst (λ (t : List ℕ). KeepsTurns first saved (turns_whole (scan feed t)) script a b ga gb (Err why)) (sym taken)
        (subst (λ (steps : List Turn). KeepsTurns first saved steps script a b ga gb (Err why)) (sym more.1)
        (kept_front first saved (turns (scan feed piece)) more.0 script a b ga gb why (over_scan piece gb (Err why) serves) k))

    -- it came to the end
    pub end_kept : (left : Option (List ℕ)) (c : History) (gc : Option (List ℕ)) (result : Result Running Stop) → IsAtEnd left
        → KeepsTurns first saved (last (last_line feed)) script a c ga gc result → KeepsText saved feed script a left ga c gc result
    end_kept None c gc result end k = tt
    end_kept (Some text) c gc result end k = subst (λ (t : List ℕ). KeepsTurns first saved (turns_whole (scan feed t)) script a c ga gc result) (sym end) k

    -- nothing more was taken
    pub any_kept : (left : Option (List ℕ)) (c : History) (gc : Option (List ℕ)) (result : Result Running Stop)
        → ((steps : List Turn) → KeepsTurns first saved steps script a c ga gc result) → KeepsText saved feed script a left ga c gc result
    any_kept None c gc result k = tt
    any_kept (Some text) c gc result k = k (turns_whole (scan feed text))

-- ---- the turns of a piece, by what was read of it

-- no byte was past a bound
pub fed_turns : (s : Scan) (lines : List (List ℕ)) (feed : Feed) → s ≡ record { lines = lines; feed = feed; fault = None } → turns s ≡ map Line lines
fed_turns s lines feed is = ap turns is ∙ append-nil (map Line lines)

-- one was
pub fault_turns : (s : Scan) (lines : List (List ℕ)) (refusal : Refusal) → lines ≡ s.lines → s.fault ≡ Some refusal
    → turns s ≡ map Line lines ++ past (Some refusal)
fault_turns s lines refusal is fault =
    ap (λ (l : List (List ℕ)). map Line l ++ past s.fault) (sym is) ∙ ap (λ (f : Option Refusal). map Line lines ++ past f) fault
