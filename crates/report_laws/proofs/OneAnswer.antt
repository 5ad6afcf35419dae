-- The answer that a batch prints stands in a report.
use Rattle.std.proofs.Common.{◌≡◌, ℕ, suc, ◌+◌, ◌<◌, ◌^◌, List, [], ◌∷◌, ◌++◌, map, length, drop, true, false, not, Option, Some, Ok, ap, sym, ◌∙◌, subst, arith, append_assoc}
use Rattle.std.specs.Prelude.{◌==◌, is_some, IsSomeAnd}
use Rattle.std.specs.List.{AllByRecursion, filter, find, list_any}
use Rattle.std.specs.Option.{option_map}
use Rattle.std.proofs.Math.Seq.{drop-append_seam}
use Rattle.std.proofs.lemmas.List.{length-append, length-map}
use Rattle.std.proofs.lemmas.List.Elements.{recursion_from_All}
use Rattle.std.proofs.lemmas.Simd.{map-map}
use Rattle.aria_base.specs.declared.calls.Request.{Request}
use Rattle.aria_base.specs.declared.keys.Key.{Key}
use Rattle.batch_core.specs.Serial.{IsNumbered, IsSerial, RiseWithin, is_named, is_wait, named, printed}
use Rattle.batch_core.specs.Steps.{State, Handed, answer, line_of, list_of, outcome, step}
use Rattle.batch_core.specs.declared.answers.Line.{Line}
use Rattle.batch_core.specs.declared.answers.Reply.{Reply}
use Rattle.batch_core.proofs.Serial.{list-is, list-rises, serial_answer}
use Rattle.batch_rules.specs.Batches.{Entry}
use Rattle.proc_lang.specs.Catalogs.{Plan, run_of}
use Rattle.proc_lang.specs.declared.ends.End.{End}
use Rattle.serial_check.specs.Lines.{batch_line, end_line}
use Rattle.serial_check.specs.Orders.{order_of}
use Rattle.serial_check.specs.Reports as check
use Rattle.serial_check.specs.Reports.{◌>>=◌}
use Rattle.serial_check.specs.Runs.{end_in}
use Rattle.serial_check.specs.Serial.{numbers}
use Rattle.report_laws.specs.Printed.{answer_lines, numbers_line, reading_at, reply_line, standing_of}
use Rattle.report_laws.proofs.OrderNamed.{Small, all_small, each_weaker, numbers_are, once_each, order_is}
use Rattle.report_laws.proofs.Places.{behind, behind_all, got, stands_at}
use Rattle.report_laws.proofs.Told.{AreTold, IsShown, Tells, each_found, from_filter, is_shown, lines_rise, named_where, replies_stand, same_filter, tells, told}

module _ (plan : Plan) (state : State) (handed : Handed) (numbered : IsNumbered state) (few : state.requests + length handed.calls < 2 ^ 64) where
  -- in short: what the batch does
  abbrev list : List Request
  list = list_of state handed

  abbrev high : ℕ
  high = state.requests + length handed.calls

  abbrev order : List ℕ
  order = (answer (run_of plan) state handed).order

  abbrev lines : List Line
  lines = (answer (run_of plan) state handed).lines

  abbrev shown : ℕ → Option Reply
  shown = printed (answer (run_of plan) state handed)

  abbrev requests : List Request
  requests = named list order

  abbrev ends : ℕ → Option End
  ends = end_in (run_of plan) state.rows requests

  serial : IsSerial (run_of plan) state handed
  serial = serial_answer (run_of plan) state handed numbered

  rises : RiseWithin (λ (r : Request). r.q) 0 list high
  rises = list-rises state handed numbered

  small : AllByRecursion Small list
  small = all_small 0 list high rises few

  named_numbers : numbers requests ≡ order
  named_numbers = numbers_are list order requests small serial.found

  -- ---- lines

  lines_are : map (λ (line : Line). line.q) lines ≡ numbers list
  lines_are =
      let es = (outcome (run_of plan) state handed).entries in
      map-map (λ (line : Line). line.q) (line_of (λ request. request) list) es
      ∙ sym (map-map (λ (r : Request). r.q) (λ (e : Entry Key Request End). e.judged.request) es)
      ∙ ap (map (λ (r : Request). r.q)) (list-is (run_of plan) state handed)

  as_many : length lines ≡ length list
  as_many = sym (length-map lines (λ (line : Line). line.q)) ∙ ap length lines_are ∙ length-map list (λ (r : Request). r.q)

  own : AllByRecursion (λ (l : Line). shown l.q ≡ Some l.reply) lines
  own =
      each_weaker (λ (l : Line). (0 < l.q) × (find (λ (line : Line). line.q == l.q) lines ≡ Some l)) (λ (l : Line). shown l.q ≡ Some l.reply)
      (λ l h. ap (option_map (λ (line : Line). line.reply)) h.1) lines (each_found 0 lines high (lines_rise lines list 0 high lines_are rises))

  -- ---- ends

  tell : (q : ℕ) → Tells shown q (ends q) (list_any (λ n. n == q) order)
  tell q =
      subst (λ ns. Tells shown q (ends q) (list_any (λ n. n == q) ns)) named_numbers
      (tells (run_of plan) shown state.rows requests (ap (map shown) named_numbers ∙ serial.ends) q)

  abbrev Waits : Request → Type 0
  Waits r = IsSomeAnd (shown r.q) (λ reply. is_wait reply ≡ true)

  others : AllByRecursion (λ r. not (is_named order r) ≡ true → Waits r) list
  others =
      from_filter (λ r. not (is_named order r)) Waits list
      (subst (AllByRecursion Waits) serial.rest (recursion_from_All Waits (step (run_of plan) state handed).waiting serial.waits))

  told_each : AreTold ends list lines
  told_each =
      told shown ends list lines lines_are own
      (each_weaker (λ r. not (is_named order r) ≡ true → Waits r) (λ r. IsShown (ends r.q) (shown r.q))
      (λ r w. is_shown shown r.q (ends r.q) (is_named order r) (tell r.q) w) list others)

  left_is : filter (λ r. not (is_some (ends r.q))) list ≡ (step (run_of plan) state handed).waiting
  left_is =
      same_filter (λ r. not (is_some (ends r.q))) (λ r. not (is_named order r))
      (λ r. ap not (named_where shown r.q (ends r.q) (is_named order r) (tell r.q))) list
      ∙ sym serial.rest

  order_found : order_of list (numbers_line order) ≡ Some requests
  order_found =
      order_is list requests order small
      (once_each order (numbers (step (run_of plan) state handed).waiting) list high serial.once rises) serial.found

  -- ---- the answer

  pub answer_stands : (report more : List (List ℕ)) (at : ℕ)
      → drop at report ≡ answer_lines plan.tables (answer (run_of plan) state handed) ++ more
      → check.answer plan report (standing_of state) handed.calls at
      ≡ Ok (reading_at (at + length (answer_lines plan.tables (answer (run_of plan) state handed))) (step (run_of plan) state handed) false)
  answer_stands report more at h =
      let number = state.batches + 1 in
      let replies = map (reply_line plan.tables) lines in
      let middle = numbers_line order in
      let last = end_line number in
      let place = at + 1 + length list in
      let one : check.expect report (batch_line number) at ≡ Ok (at + 1) =
      stands_at report (batch_line number) at ((replies ++ middle ∷ last ∷ []) ++ more) h in
      let behind_first : drop (at + 1) report ≡ replies ++ (middle ∷ last ∷ more)
      = behind report at (batch_line number) ((replies ++ middle ∷ last ∷ []) ++ more) h ∙ append_assoc replies (middle ∷ last ∷ []) more in
      let many : length replies ≡ length list = length-map lines (reply_line plan.tables) ∙ as_many in
      let behind_replies : drop place report ≡ middle ∷ last ∷ more
      = ap (λ n. drop (at + 1 + n) report) (sym many) ∙ behind_all report replies (middle ∷ last ∷ more) (at + 1) behind_first in
      let behind_middle : drop (place + 1) report ≡ last ∷ more = behind report place middle (last ∷ more) behind_replies in
      let chosen : check.order_at report list place ≡ Ok requests
      = ap (λ o. check.or_failing report place (check.told_order list o)) (got report place middle (last ∷ more) behind_replies)
      ∙ ap (check.or_failing report place) order_found in
      let ran = check.run_from plan state.rows requests in
      let replied : check.replies report ends list (at + 1) ≡ Ok place =
      replies_stand report plan.tables ends list lines (middle ∷ last ∷ more) (at + 1) told_each behind_first in
      let lined : check.answer_lines report number ends list (at + 1) ≡ Ok (place + 1 + 1)
      = ap (λ r. r >>= (λ n. check.expect report (end_line number) (n + 1))) replied ∙ stands_at report last (place + 1) more behind_middle in
      let told_all : check.told_at plan report state.rows number list (at + 1) ≡ Ok (place + 1 + 1, ran)
      = ap (λ r. (r >>= (λ o. Ok (check.run_from plan state.rows o))) >>= (λ ran. check.answer_lines report number ran.0 list (at + 1) >>= (λ n. Ok (n, ran))))
      chosen
      ∙ ap (λ r. r >>= (λ n. Ok (n, ran))) lined in
      let sum : length (replies ++ middle ∷ last ∷ []) ≡ length replies + 2 = length-append replies (middle ∷ last ∷ []) in
      let there : place + 1 + 1 ≡ at + suc (length (replies ++ middle ∷ last ∷ [])) = omega (arith, sum, many) in
      ap (λ r. r >>= (λ n. check.told_at plan report state.rows number list n >>=
      (λ told. Ok (record (check.begun state.rows) { at = told.0; standing = check.after (standing_of state) handed.calls told.1; listed = false })))) one
      ∙ ap (λ r. r >>= (λ told. Ok (record (check.begun state.rows) {
        at = told.0;
        standing = check.after (standing_of state) handed.calls told.1;
        listed =
            false;
      }))) told_all
      ∙ ap (λ n. Ok (record (check.begun state.rows) { at = n; standing = check.after (standing_of state) handed.calls ran; listed = false })) there
      ∙ ap (λ waiting. Ok (record (check.begun state.rows) {
        at = at + suc (length (replies ++ middle ∷ last ∷ []));
        standing =
            record (check.after (standing_of state) handed.calls ran) { carried = waiting };
        listed = false;
      })) left_is
      ∙ ap (λ rows. Ok (record (check.begun state.rows) {
        at = at + suc (length (replies ++ middle ∷ last ∷ []));
        standing =
            record (check.after (standing_of state) handed.calls ran) { tables = rows; carried = (step (run_of plan) state handed).waiting };
        listed = false;
      }))
      (sym serial.rows)

  pub answer_within : (before more : List (List ℕ))
      → check.answer plan (before ++ answer_lines plan.tables (answer (run_of plan) state handed) ++ more) (standing_of state) handed.calls (length before)
      ≡ Ok (reading_at (length before + length (answer_lines plan.tables (answer (run_of plan) state handed))) (step (run_of plan) state handed) false)
  answer_within before more =
      let lines_of = answer_lines plan.tables (answer (run_of plan) state handed) in
      answer_stands (before ++ lines_of ++ more) more (length before)
      (ap (drop (length before)) (append_assoc before lines_of more) ∙ drop-append_seam before (lines_of ++ more))
