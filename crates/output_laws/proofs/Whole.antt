-- What `once` prints of a text passes `check`.
use Rattle.std.proofs.Common.{◌≡◌, ◌∙◌, sym, ap, subst, refl, ℕ, Bool, true, false, List, [], ◌∷◌, ◌++◌, length, Ok, Err, inl, arith, append_assoc}
use Rattle.std.specs.Prelude.{Result, codes, if◌then◌else◌}
use Rattle.std.specs.FinMap as fin
use Rattle.std.specs.List.{AllByRecursion}
use Rattle.std.proofs.lemmas.Option.{none-some}
use Rattle.aria_base.specs.Orders.{Database, key_cmp}
use Rattle.aria_base.specs.declared.limits.TheConstants.{LONGEST_LINE}
use Rattle.batch_core.specs.Steps.{Handed, State, run}
use Rattle.batch_rules.specs.declared.verdicts.Rule.{Rule}
use Rattle.check_command.specs.Checks as check
use Rattle.check_command.specs.Outs as checked
use Rattle.check_command.specs.Texts.{holds_text}
use Rattle.command_words.specs.declared.settings.Once.{Once}
use Rattle.proc_lang.specs.Catalogs.{Plan, run_of}
use Rattle.report_laws.specs.Laws.{OpenReport, OwnReport, PrintedLines}
use Rattle.report_laws.specs.Printed.{fed, state_lines}
use Rattle.report_laws.specs.Scripts.{AreDrains, calls_of, drain_lines, ends_listed, fresh, left, report, script_lines}
use Rattle.run_commands.specs.Onces as once
use Rattle.run_commands.specs.Outs as outs
use Rattle.check_command.specs.declared.commands.TheConstants.{LONGEST_CHECKED}
use Rattle.script_course.specs.Courses.{Course, Goes, Stops, Out, behind, ended, out_behind, told_whole, with_lines}
use Rattle.script_course.specs.declared.readings.TheConstants.{MOST_BYTES}
use Rattle.script_course.specs.declared.statuses.TheConstants.{DONE, FAILS, REFUSED}
use Rattle.script_places.proofs.Allowed.{closes}
use Rattle.script_places.specs.Places.{asked, closing, plan_in}
use Rattle.script_places.specs.declared.deeds.Deed.TheVariants as deed
use Rattle.script_places.specs.declared.places.Mode.TheVariants as mode
use Rattle.script_places.specs.declared.places.ScriptPlace.{ScriptPlace}
use Rattle.script_text.specs.Laws.{lines_of}
use Rattle.script_text.specs.Lines.{line_after}
use Rattle.script_text.specs.declared.refusals.RefusalKind.{RefusalKind}
use Rattle.serial_check.specs.Lines.{end_state_line}
use Rattle.serial_check.specs.Reports as serial
use Rattle.serial_check.specs.declared.findings.Finding.{Finding}
use Rattle.serving.specs.Drains.{drains}
use Rattle.serving.specs.Lives.{listing}
use Rattle.output_laws.specs.Outputs.{EndsListed, FailsCheck, IsInput, PassesCheck, reported}
use Rattle.output_laws.specs.Outputs as outputs
use Rattle.output_laws.proofs.Asks.{as_mode}
use Rattle.output_laws.proofs.Closings.{Closes, closing_beside}
use Rattle.output_laws.proofs.Deeds.{Beside, LinesOn, lines_beside}
use Rattle.output_laws.proofs.Drains.{Drained, DrainedBy, drained_told, none_drained, same_drains, same_lines, same_listing}
use Rattle.output_laws.proofs.Heads.{named_plan, told_on}
use Rattle.output_laws.proofs.Joined.{ended_lines, goes_within, line_first, lines_append, whole_lines}
use Rattle.output_laws.proofs.Lines.{state_printed}
use Rattle.output_laws.proofs.Listed.{ends_listed_so, is_listed}
use Rattle.output_laws.proofs.Scripts.{IsTold, fed_more}
use Rattle.output_laws.proofs.Texts.{Printed, all_joined}
use Rattle.output_laws.proofs.Told.{passed, told_end, told_lines}

refused_is_not : {A : Type 0} → REFUSED ≡ DONE → A
refused_is_not e = absurd (omega (arith, e))

module _ (own : (plan : Plan) (rule : Rule) (percent : ℕ) (rows : Database) → OwnReport plan rule percent rows)
    (open_one : (plan : Plan) (rule : Rule) (percent : ℕ) (rows : Database) → OpenReport plan rule percent rows) (lines : PrintedLines) (settings : Once)
    (text : List ℕ) where
  abbrev each : Bool
  each = outs.is_each settings.listing

  abbrev start : once.Doing
  start = outs.start_of settings

  -- what `check` prints of this output behind the script, by whether its last line is one of a listing
  abbrev Judged : List ℕ → Out → Type 0
  Judged bytes out =
      ((each ≡ true → EndsListed bytes) → out ≡ record { bytes = holds_text; status = DONE })
      × (each ≡ true → (EndsListed bytes → ⊥) → out.status ≡ FAILS)

  abbrev Passes : Out → Type 0
  Passes out = out.status ≡ DONE → IsInput text out.bytes → Judged out.bytes (checked.out_of (reported text out.bytes))

  begun : Beside each settings.rule settings.fallback start check.start [] []
  begun = record {
    place = refl;
    mode_is = refl;
    quiet = refl;
    head = tt;
    each_is = refl;
    counted = refl;
    calls = refl;
    asks = tt;
    state = record { rows = λ key row e. absurd (none-some row (sym (fin.get-empty key_cmp key) ∙ e)); waiting = tt };
    told = record { state_is = refl; room = tt; bytes_are = refl; printed = tt };
    script_is = refl;
    ends = refl;
    requests = refl;
    report = refl;
    early = λ e. refl;
    ready = inl refl;
  }

  -- ---- the script was run to its end, and what waits was drained

  module _ (o : once.Doing) (bytes : List ℕ) (script : List (ℕ × Handed)) (c : check.Doing)
      (read : with_lines check.on_line (Goes [] check.start) (lines_of text) ≡ Goes [] c) (b : Beside each settings.rule settings.fallback o c script bytes)
      (q : ScriptPlace) (shut : closing o.place ≡ Ok q) where
    abbrev plan : Plan
    plan = plan_in q.head

    abbrev first : State
    first = fresh settings.rule settings.fallback c.rows

    abbrev after : State
    after = left plan first script

    closed : (asked (as_mode mode.Check o.place) (check.counts_of c) (codes "report") ≡ Ok (record (as_mode mode.Check q) { reports = true }, deed.Nothing))
        × Closes q
    closed = closing_beside (check.counts_of c) o.place b.mode_is b.quiet b.head q shut

    told : IsTold plan o.each settings.rule settings.fallback c.rows script o.state bytes
    told = told_on o.each settings.rule settings.fallback c.rows o.state bytes script o.place.head q.head (closes o.place q shut) b.ready b.told

    module _ (more : List ℕ) (last : State) (d : Drained lines plan o.each (named_plan q.head closed.1.head) o.state more last) where
      abbrev tail : List ℕ
      tail = if o.each then [] else listing plan last

      abbrev whole_report : List (List ℕ)
      whole_report = report plan o.each first script d.drains

      abbrev listed_behind : Bool → List (List ℕ)
      listed_behind e = if e then [] else state_lines plan (run (run_of plan) after d.drains)

      drained_lines : drain_lines plan o.each o.state d.drains ≡ drain_lines plan o.each after d.drains
      drained_lines = ap (λ (s : State). drain_lines plan o.each s d.drains) told.state_is ∙ same_lines plan o.state.rule o.state.percent after o.each d.drains

      last_lines : state_lines plan last ≡ state_lines plan (run (run_of plan) after d.drains)
      last_lines =
          ap (state_lines plan) (d.left ∙ ap (λ (s : State). run (run_of plan) s d.drains) told.state_is)
          ∙ same_listing plan o.state.rule o.state.percent after d.drains

      tail_is : (e : Bool) → (if e then [] else listing plan last) ≡ fed (listed_behind e)
      tail_is true = refl
      tail_is false = lines.listings plan last ∙ ap fed last_lines

      tail_printed : (e : Bool) → AllByRecursion Printed (listed_behind e)
      tail_printed true = tt
      tail_printed false = subst (AllByRecursion Printed) last_lines (state_printed plan last (named_plan q.head closed.1.head) d.last_is)

      bytes_are : bytes ++ (more ++ tail) ≡ fed whole_report
      bytes_are =
          (λ i. told.bytes_are i ++ ((d.bytes_are ∙ ap fed drained_lines) i ++ tail_is o.each i))
          ∙ sym (append_assoc (fed (script_lines plan o.each first script)) (fed (drain_lines plan o.each after d.drains)) (fed (listed_behind o.each)))
          ∙ ap (λ (l : List ℕ). l ++ fed (listed_behind o.each))
          (sym (fed_more (script_lines plan o.each first script) (drain_lines plan o.each after d.drains)))
          ∙ sym (fed_more (script_lines plan o.each first script ++ drain_lines plan o.each after d.drains) (listed_behind o.each))

      report_printed : AllByRecursion Printed whole_report
      report_printed =
          all_joined Printed (script_lines plan o.each first script ++ drain_lines plan o.each after d.drains) (listed_behind o.each)
          (all_joined Printed (script_lines plan o.each first script) (drain_lines plan o.each after d.drains) told.printed
          (subst (AllByRecursion Printed) drained_lines d.printed))
          (tail_printed o.each)

      printed_lines : lines_of (bytes ++ (more ++ tail)) ≡ whole_report
      printed_lines = ap lines_of bytes_are ∙ lines.again whole_report report_printed

      abbrev Bytes : List ℕ
      Bytes = bytes ++ (more ++ tail)

      drains_are : AreDrains plan after d.drains
      drains_are = same_drains plan o.state.rule o.state.percent after d.drains (subst (λ (s : State). AreDrains plan s d.drains) told.state_is d.are)

      found : serial.finding plan (c.report ++ whole_report) c.rows c.script ≡ serial.finding plan whole_report c.rows (calls_of script)
      found = λ i. serial.finding plan (b.report i ++ whole_report) c.rows (b.script_is i)

      -- the listing that each answer has stands last
      ends_so : (each ≡ true → EndsListed Bytes) → o.each ≡ true → ends_listed plan o.each first script d.drains ≡ true
      ends_so listed e =
          let seen = listed (sym b.each_is ∙ e) in
          let last_line : report plan true first script d.drains ≡ seen.0 ++ end_state_line ∷ []
          = ap (λ (x : Bool). report plan x first script d.drains) (sym e) ∙ sym printed_lines ∙ seen.1 in
          ap (λ (x : Bool). ends_listed plan x first script d.drains) e ∙ is_listed plan first script d.drains seen.0 last_line

      holds : (each ≡ true → EndsListed Bytes) → check.out_of_finding c.ends
          (serial.finding plan (c.report ++ whole_report) c.rows c.script) ≡ record { bytes = holds_text; status = DONE }
      holds listed =
          ap (check.out_of_finding c.ends) (found ∙ own plan settings.rule settings.fallback c.rows o.each script d.drains told.room drains_are
          (ends_so listed))

      -- or it does not
      ends_not : each ≡ true → (EndsListed Bytes → ⊥) → ends_listed plan true first script d.drains ≡ false
      ends_not e other = by (ends_listed plan true first script d.drains) refl
        where
          by : (x : Bool) → ends_listed plan true first script d.drains ≡ x → x ≡ false
          by false k = refl
          by true k =
              let last = ends_listed_so plan first script d.drains k in
              absurd (other (last.0, printed_lines ∙ ap (λ (x : Bool). report plan x first script d.drains) (b.each_is ∙ e) ∙ last.1))

      fails : each ≡ true → (EndsListed Bytes → ⊥)
          → (check.out_of_finding c.ends (serial.finding plan (c.report ++ whole_report) c.rows c.script)).status ≡ FAILS
      fails e other =
          ap (λ (f : Finding). (check.out_of_finding c.ends f).status)
          (found ∙ ap (λ (x : Bool). serial.finding plan (report plan x first script d.drains) c.rows (calls_of script)) (b.each_is ∙ e)
          ∙ open_one plan settings.rule settings.fallback c.rows script d.drains told.room drains_are (ends_not e other))

      -- the line behind which the report begins
      abbrev begins : check.Doing
      begins = record c { place = record (as_mode mode.Check q) { reports = true } }

      report_line : check.on_line c (codes "report") ≡ Goes [] begins
      report_line =
          ap (check.done_by c (codes "report")) ((λ i. asked (b.place i) (check.counts_of c) (codes "report")) ∙ closed.0)

      joint_lines : lines_of (reported text (bytes ++ (more ++ tail))) ≡ lines_of text ++ codes "report" ∷ whole_report
      joint_lines =
          ap lines_of (append_assoc (outputs.ended text) (codes "report\n") (bytes ++ (more ++ tail)))
          ∙ ended_lines text (codes "report\n" ++ (bytes ++ (more ++ tail)))
          ∙ ap (λ (l : List (List ℕ)). lines_of text ++ l) (line_first (codes "report") (bytes ++ (more ++ tail)) refl refl)
          ∙ ap (λ (l : List (List ℕ)). lines_of text ++ codes "report" ∷ l) printed_lines

      all_read : with_lines check.on_line (Goes [] check.start) (lines_of text ++ codes "report" ∷ whole_report)
          ≡ Goes [] (record begins { place = passed whole_report begins.place; report = c.report ++ whole_report })
      all_read =
          lines_append check.on_line (Goes [] check.start) (lines_of text) (codes "report" ∷ whole_report)
          ∙ ap (λ (k : Course check.Doing). with_lines check.on_line k (codes "report" ∷ whole_report)) read
          ∙ ap (λ (k : Course check.Doing). with_lines check.on_line (behind [] k) whole_report) report_line
          ∙ told_lines whole_report begins refl

      judged : IsInput text Bytes → checked.out_of (reported text Bytes) ≡ check.out_of_finding c.ends
          (serial.finding plan (c.report ++ whole_report) c.rows c.script)
      judged within =
          ap (ended check.on_end)
          (whole_lines check.on_line MOST_BYTES LONGEST_CHECKED check.start (reported text Bytes) within
          ∙ ap (with_lines check.on_line (Goes [] check.start)) joint_lines ∙ all_read)
          ∙ ap (out_behind []) (told_end begins whole_report closed.1.settled closed.1.calls)
          ∙ behind_none (check.out_of_finding c.ends (serial.finding plan (c.report ++ whole_report) c.rows c.script))
        where
          behind_none : (out : Out) → out_behind [] out ≡ out
          behind_none out = refl

      finish : Passes (record { bytes = Bytes; status = DONE })
      finish done within = ((λ listed. judged within ∙ holds listed), (λ e other. ap (λ (out : Out). out.status) (judged within) ∙ fails e other))

  -- ---- how it came to its end

  module _ (o : once.Doing) (bytes : List ℕ) (script : List (ℕ × Handed)) (c : check.Doing)
      (read : with_lines check.on_line (Goes [] check.start) (lines_of text) ≡ Goes [] c)
      (b : Beside each settings.rule settings.fallback o c script bytes) where
    by_drained : (q : ScriptPlace) (shut : closing o.place ≡ Ok q) (d : Course State)
        → DrainedBy lines (plan_in q.head) o.each (named_plan q.head (closed o bytes script c read b q shut).1.head) o.state d
        → Passes (out_behind bytes (ended (once.listed (plan_in q.head) o.each) d))
    by_drained q shut (Goes more last) d = finish o bytes script c read b q shut more last d
    by_drained q shut (Stops more) d = λ done. refused_is_not done

    by_closed : (r : Result ScriptPlace RefusalKind) → closing o.place ≡ r → Passes (out_behind bytes (once.closed_by settings.drain o r))
    by_closed (Err kind) e = λ done. refused_is_not done
    by_closed (Ok q) e = by settings.drain
      where
        by : (drain : Bool) → Passes (out_behind bytes (once.drained drain (plan_in q.head) o.each (line_after o.place.lines) o.state))
        by true = by_drained q e (drains (plan_in q.head) o.each (line_after o.place.lines) o.state)
            (drained_told lines (plan_in q.head) o.each (named_plan q.head (closed o bytes script c read b q e).1.head) (line_after o.place.lines)
            (length o.state.waiting) o.state b.state)
        by false = by_drained q e (Goes [] o.state) (none_drained lines (plan_in q.head) o.each (named_plan q.head (closed o bytes script c read b q e).1.head)
            o.state b.state)

  by_course : (course : Course once.Doing) → told_whole once.on_line outs.no_line start text ≡ course → Passes (ended (once.on_end settings.drain) course)
  by_course (Stops bytes) e = λ done. refused_is_not done
  by_course (Goes bytes o) e =
      let none = goes_within once.on_line outs.no_line start o text bytes e in
      let run_so : with_lines once.on_line (Goes [] start) (lines_of text) ≡ Goes bytes o =
      sym (whole_lines once.on_line MOST_BYTES LONGEST_LINE start text none) ∙ e in
      let beside = subst (λ (k : Course once.Doing). LinesOn lines each settings.rule settings.fallback k
      (with_lines check.on_line (Goes [] check.start) (lines_of text))) run_so
      (lines_beside lines each settings.rule settings.fallback (lines_of text) start check.start [] [] begun) in
      by_closed o bytes beside.1 beside.0 beside.2 beside.3 (closing o.place) refl

  pub passes_check : PassesCheck settings text
  passes_check done within listed = (by_course (told_whole once.on_line outs.no_line start text) refl done within).0 listed

  pub fails_check : FailsCheck settings text
  fails_check done within e other = (by_course (told_whole once.on_line outs.no_line start text) refl done within).1 e other
