-- A head as a whole: what was read of it, and its end.
use Rattle.std.proofs.Common.{◌≡◌, ◌≢◌, ◌⊎◌, inl, inr, subst, ap, sym, refl, ℕ, zero, suc, Bool, List, [], ◌∷◌, ◌++◌, Option, Some, None}
use Rattle.std.specs.Prelude.{Result, Ok, Err, IfErr, IfSome}
use Rattle.std.specs.Io.KnownBytes.{Appends}
use Rattle.std.specs.Option.{IsSomeAnd}
use Rattle.aria_base.specs.Orders.{Database}
use Rattle.aria_base.specs.Streams.{AppendsFront}
use Rattle.command_words.specs.declared.settings.Init.{Init}
use Rattle.disk_model.proofs.Spans.{still_none}
use Rattle.disk_model.specs.Histories.{History, Still}
use Rattle.proc_lang.specs.Catalogs.{Plan}
use Rattle.script_course.proofs.Ends.{completes_on, completes_cut}
use Rattle.script_course.specs.Causes.{IsCause}
use Rattle.script_course.specs.Courses.{Course, Goes, Stops, behind, ended, told, with_fault, with_last, with_line, with_lines}
use Rattle.script_course.specs.Served.{Comes, IsGoing, Reaches, ReachesCut}
use Rattle.script_course.specs.declared.stops.Stop.{Stop}
use Rattle.script_course.specs.declared.stops.Stop.TheVariants as stop
use Rattle.script_places.specs.Places.{Asked, asked, closing}
use Rattle.script_text.specs.Lines.{last_line, scan}
use Rattle.script_text.specs.declared.refusals.Refusal.{Refusal}
use Rattle.script_rows.specs.Drafts.{done_by, no_counts, no_line, on_line}
use Rattle.script_rows.specs.declared.drafts.Draft.{Draft}
use Rattle.store_commands.specs.Drafts.{read_of, said_by, start, told_of, values_by, values_of}
use Rattle.store_commands.specs.Inits.{Ends, Inits, IsMade, IsMadeOf, IsUngiven, on_end, out_of}
use Rattle.script_course.specs.declared.statuses.TheConstants.{DONE, REFUSED}
use Rattle.store_commands.proofs.Ended.{looked}

-- ---- nothing is printed before the end

-- what goes on has printed nothing so far
abbrev IsSilent : Course Draft → Type 0
IsSilent (Goes bytes d) = bytes ≡ []
IsSilent (Stops bytes) = Unit {0}

silent_by : (d : Draft) (bytes : List ℕ) (asked : Asked) → bytes ≡ [] → IsSilent (behind bytes (done_by d asked))
silent_by d bytes (Ok asked) none = ap (λ (l : List ℕ). l ++ []) none
silent_by d bytes (Err kind) none = tt

silent_line : (c : Course Draft) (line : List ℕ) → IsSilent c → IsSilent (with_line on_line c line)
silent_line (Goes bytes d) line none = silent_by d bytes (asked d.place no_counts line) none
silent_line (Stops bytes) line none = tt

silent_lines : (lines : List (List ℕ)) (c : Course Draft) → IsSilent c → IsSilent (with_lines on_line c lines)
silent_lines [] c none = none
silent_lines (line ∷ lines) c none = silent_lines lines (with_line on_line c line) (silent_line c line none)

silent_fault : (c : Course Draft) (fault : Option Refusal) → IsSilent c → IsSilent (with_fault c fault)
silent_fault c None none = none
silent_fault (Goes bytes d) (Some refusal) none = tt
silent_fault (Stops bytes) (Some refusal) none = tt

silent_last : (c : Course Draft) (last : Option (List ℕ)) → IsSilent c → IsSilent (with_last on_line c last)
silent_last c None none = none
silent_last c (Some line) none = silent_line c line none

silent : (text : List ℕ) → IsSilent (read_of text)
silent text =
    let scanned = scan no_line text in
    silent_last (told on_line no_line start text) (last_line scanned.feed)
    (silent_fault (with_lines on_line (Goes [] start) scanned.lines) scanned.fault (silent_lines scanned.lines (Goes [] start) refl))

none_given : (c : Course Draft) (last : Draft) (old mid : Option (List ℕ)) → IsSilent c → IsGoing last c old mid → Appends old mid []
none_given (Goes bytes d) last old mid none h = subst (λ (l : List ℕ). Appends old mid l) none h.1
none_given (Stops bytes) last old mid none h = absurd h

-- what a cut gave of it is nothing
no_front : (old new : Option (List ℕ)) → AppendsFront old new [] → Appends old new []
no_front old new (zero, h) = h
no_front old new (suc n, h) = h

front_silent : (old new : Option (List ℕ)) (bytes : List ℕ) → bytes ≡ [] → AppendsFront old new bytes → Appends old new []
front_silent old new bytes none h = no_front old new (subst (λ (l : List ℕ). AppendsFront old new l) none h)

cut_silent : (d : Draft) (bytes : List ℕ) (old new : Option (List ℕ)) (why : Stop) → bytes ≡ [] → ReachesCut (Goes bytes d) old new why → Appends old new []
cut_silent d bytes old new stop.Refused none h = absurd h
cut_silent d bytes old new stop.NoMemory none h = front_silent old new bytes none h
cut_silent d bytes old new stop.NoWrite none h = front_silent old new bytes none h
cut_silent d bytes old new stop.NoDisk none h = front_silent old new bytes none h
cut_silent d bytes old new stop.NoRead none h = front_silent old new bytes none h

-- ---- the end of it

module _ (settings : Init) (taken : Bool) (P : ℕ → Type 0) where
  status_on : (c : Course Draft) (last : Draft) (old mid : Option (List ℕ)) → IsGoing last c old mid → P (on_end settings taken last).status
      → P (ended (on_end settings taken) c).status
  status_on (Goes bytes d) last old mid h last_of = subst (λ (s : Draft). P (on_end settings taken s).status) h.0 last_of
  status_on (Stops bytes) last old mid h last_of = absurd h

  -- the status of the end is that of the whole text
  status_of_text : (left : Option (List ℕ)) (last : Draft) (old mid : Option (List ℕ)) → IfSome left (λ text. Reaches (read_of text) old mid (Ok last))
      → P (on_end settings taken last).status → IfSome left (λ text. P (out_of settings taken text).status)
  status_of_text None last old mid h last_of = tt
  status_of_text (Some text) last old mid h last_of = status_on (read_of text) last old mid h last_of

-- ---- a store is told of only where it was made

module _ (settings : Init) (taken : Bool) (X : Type 0) where
  -- of a head that was cut off nothing was given, unless a line of it was refused
  stored_in_cut : (c : Course Draft) (old new : Option (List ℕ)) (why : Stop) → IsSilent c → ReachesCut c old new why
      → (ended (on_end settings taken) c).status ≡ DONE → Appends old new [] ⊎ X
  stored_in_cut (Goes bytes d) old new why none h done = inl (cut_silent d bytes old new why none h)
  stored_in_cut (Stops bytes) old new why none h done = let wrong : REFUSED ≡ DONE = done in absurd (cc wrong)

  stored_cut : (left old new : Option (List ℕ)) (why : Stop) → IfSome left (λ text. ReachesCut (read_of text) old new why)
      → IfSome left (λ text. (out_of settings taken text).status ≡ DONE → Appends old new [] ⊎ X)
  stored_cut None old new why h = tt
  stored_cut (Some text) old new why h = stored_in_cut (read_of text) old new why (silent text) h

  -- behind a head that was read to its end nothing was given so far
  stored_in : (M : Type 0) (text : List ℕ) (last : Draft) (old mid new : Option (List ℕ)) → (M → X) → Reaches (read_of text) old mid (Ok last)
      → (new ≡ mid) ⊎ M → Appends old new [] ⊎ X
  stored_in M text last old mid new found h (inr made) = inr (found made)
  stored_in M text last old mid new found h (inl same) =
      inl (subst (λ (given : Option (List ℕ)). Appends old given []) (sym same) (none_given (read_of text) last old mid (silent text) h))

  stored_of : (M : Type 0) (left : Option (List ℕ)) (last : Draft) (old mid new : Option (List ℕ)) → (M → X)
      → IfSome left (λ text. Reaches (read_of text) old mid (Ok last)) → ((on_end settings taken last).status ≡ DONE → (new ≡ mid) ⊎ M)
      → IfSome left (λ text. (out_of settings taken text).status ≡ DONE → Appends old new [] ⊎ X)
  stored_of M None last old mid new found h ends = tt
  stored_of M (Some text) last old mid new found h ends =
      status_on settings taken (λ n. n ≡ DONE → Appends old new [] ⊎ X) (read_of text) last old mid h
      (λ done. stored_in M text last old mid new found h (ends done))

always : {P : List ℕ → Type 0} (left : Option (List ℕ)) → ((text : List ℕ) → P text) → IfSome left P
always None h = tt
always (Some text) h = h text

module _ (settings : Init) (was : History) (left rest old : Option (List ℕ)) where
  abbrev Read : Option (List ℕ) → Result Draft Stop → Type 0
  Read new result = Comes told_of read_of left rest old new result

  pub inits_cut : (new : Option (List ℕ)) (why : Stop) → Read new (Err why) → Inits settings was was left rest old new (Err why)
  inits_cut new why h =
      let l = looked was in
      record {
        taken = l.0;
        looked = l.1;
        completes = completes_cut (on_end settings l.0) told_of read_of left rest old new why h;
        unwritten = always left (λ text other. still_none was);
        stored = stored_cut settings l.0 (IsMade settings left was) left old new why h.0;
      }

  -- what was read is what the text says
  said_on : (c : Course Draft) (last : Draft) (mid : Option (List ℕ)) → IsGoing last c old mid → values_of c ≡ values_by last (closing last.place)
  said_on (Goes bytes d) last mid h = ap (λ (s : Draft). values_by s (closing s.place)) (sym h.0)
  said_on (Stops bytes) last mid h = absurd h

  said_of : (text : Option (List ℕ)) (last : Draft) (mid : Option (List ℕ)) → IfSome text (λ t. Reaches (read_of t) old mid (Ok last))
      → IfSome text (λ t. said_by t ≡ values_by last (closing last.place))
  said_of None last mid h = tt
  said_of (Some t) last mid h = said_on (read_of t) last mid h

  made_by : (is : History) (found : Option (Plan × Database)) → IfSome left (λ t. said_by t ≡ found) → IsSomeAnd found (λ values. IsMadeOf settings values is)
      → IsMade settings left is
  made_by is None said holds = absurd holds
  made_by is (Some values) said holds = record { values = values; said = said; holds = holds }

  pub is_made : (is : History) (mid : Option (List ℕ)) (last : Draft) → Read mid (Ok last)
      → IsSomeAnd (values_by last (closing last.place)) (λ values. IsMadeOf settings values is) → IsMade settings left is
  is_made is mid last h holds =
      made_by is (values_by last (closing last.place)) (said_of left last mid h.0) holds

  abbrev MadeBehind : Draft → History → Type 0
  MadeBehind last is = IsSomeAnd (values_by last (closing last.place)) (λ values. IsMadeOf settings values is)

  pub inits_on : (is : History) (mid new : Option (List ℕ)) (last : Draft) (result : Result ℕ Stop) → Read mid (Ok last) → result ≢ Err stop.NoRead
      → Ends (λ taken. on_end settings taken last) (MadeBehind last is) was is mid new result → Inits settings was is left rest old new result
  inits_on is mid new last result h read ends = record {
    taken = ends.taken;
    looked = ends.looked;
    completes = completes_on (on_end settings ends.taken) told_of read_of left rest old mid new last result h read ends.finishes;
    unwritten = status_of_text settings ends.taken (λ n. n ≢ DONE → Still was is) left last old mid h.0 ends.unwritten;
    stored = stored_of settings ends.taken (IsMade settings left is) (MadeBehind last is) left last old mid new (is_made is mid last h) h.0 ends.stored;
  }

-- where the disk failed behind a head that was read to its end, nothing was given
pub ungiven_on : (left old mid new : Option (List ℕ)) (last : Draft) (result : Result ℕ Stop) → IfSome left (λ text. Reaches (read_of text) old mid (Ok last))
    → IsUngiven mid new result → IfSome left (λ text. result ≡ Err stop.NoDisk → Appends old new [])
ungiven_on None old mid new last result h same = tt
ungiven_on (Some text) old mid new last result h same = λ failed.
    subst (λ (given : Option (List ℕ)). Appends old given []) (sym (same failed)) (none_given (read_of text) last old mid (silent text) h)

-- where the disk was not called, it did not fail
pub ungiven_never : (sink : Type 0) (old new : Option (List ℕ)) (result : Result ℕ Stop) → IfErr result (λ why. IsCause why sink ⊥) → IsUngiven old new result
ungiven_never sink old new result cause failed = absurd (subst (λ (r : Result ℕ Stop). IfErr r (λ why. IsCause why sink ⊥)) failed cause)
