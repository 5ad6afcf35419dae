-- What the parts of a report tell, where they stand.
use Rattle.std.proofs.Common.{◌≡◌, ℕ, ◌+◌, List, [], ◌∷◌, ◌++◌, length, drop, map, Bool, true, false, cond, Option, Some, None, Result, Ok, refl, ap, sym, ◌∙◌, subst, add-one, append_assoc, append-nil}
use Rattle.std.specs.Prelude.{◌==◌, decimal, flat_map}
use Rattle.std.specs.List.{join_with_byte, slice_get, slice_split}
use Rattle.std.specs.Str.{bytes_eq}
use Rattle.std.proofs.lemmas.List.Splits.{join_with_byte-slice_split}
use Rattle.std.proofs.lemmas.Slice.Eq.{bytes_eq-Decides}
use Rattle.aria_base.specs.declared.calls.Call.{Call}
use Rattle.aria_base.specs.declared.calls.Request.{Request}
use Rattle.batch_core.specs.Serial.{request_numbered}
use Rattle.proc_lang.specs.Catalogs.{Plan, run_of}
use Rattle.script_text.specs.Tokens.{spaced}
use Rattle.serial_check.specs.Lines.{batch_line, end_line, state_line, end_state_line, order_word}
use Rattle.serial_check.specs.Orders.{named_after, order_by, order_of}
use Rattle.serial_check.specs.Reports.{◌>>=◌, Ran, after, answer, answer_lines, expect, expect_all, list_of, listing, or_failing, order_at, ran_at, replies, row_lines, run_from, told_at, told_order}
use Rattle.serial_check.specs.Serial.{AreApart, AreReplies, IsAnswer, listing_lines, numbers, order_line}
use Rattle.serial_check.specs.declared.findings.Flaw.{Flaw}
use Rattle.serial_check.specs.declared.standings.Standing.{Standing}
use Rattle.serial_check.specs.declared.standings.Reading.{Reading}
use Rattle.serial_check.proofs.EndsTold.{ends_told, not_ended}
use Rattle.serial_check.proofs.Naming.{IsNaming, naming}
use Rattle.serial_check.proofs.Places.{get_drop, both, stood, all_stood, all_replied}

-- ---- order lines

joined : (c : ℕ) (x : List ℕ) (xs : List (List ℕ)) → join_with_byte c (x ∷ xs) ≡ x ++ flat_map (λ y. c ∷ y) xs
joined c x [] = sym (append-nil x)
joined c x (y ∷ ys) = ap (λ l. x ++ (c ∷ l)) (joined c y ys)

spaced_numbers : (order : List Request) → flat_map (λ t. 32 ∷ t) (map (λ r. decimal r.q) order) ≡ spaced decimal (numbers order)
spaced_numbers [] = refl
spaced_numbers (r ∷ rs) = ap (λ l. (32 ∷ decimal r.q) ++ l) (spaced_numbers rs)

pub record IsOrder (list : List Request) (line : List ℕ) (order : List Request) : Type 0 where
  pub naming : IsNaming list [] (map (λ r. decimal r.q) order) order
  pub as_line : line ≡ order_line order

by_words : (list : List Request) (word : List ℕ) (tokens : List (List ℕ)) (order : List Request) → (b : Bool) → bytes_eq word order_word ≡ b
    → cond b (named_after list [] tokens) None ≡ Some order
    → (word ≡ order_word) × (named_after list [] tokens ≡ Some order)
by_words list word tokens order false e h = cc
by_words list word tokens order true e h = ((bytes_eq-Decides word order_word).0 e, h)

ordered : (list : List Request) (line : List ℕ) (order : List Request) (words : List (List ℕ)) → join_with_byte 32 words ≡ line
    → order_by list words ≡ Some order → IsOrder list line order
ordered list line order [] j h = cc
ordered list line order (word ∷ tokens) j h =
    let w = by_words list word tokens order (bytes_eq word order_word) refl h in
    let n = naming list [] tokens order w.1 in
    let written : tokens ≡ map (λ r. decimal r.q) order = n.written ∙ ap (λ o. map (λ r. decimal r.q) o) (sym n.together) in
    record {
      naming = subst (λ ts. IsNaming list [] ts order) written n;
      as_line = sym j ∙ joined 32 word tokens
          ∙ ap (λ w. w ++ flat_map (λ t. 32 ∷ t) tokens) w.0
          ∙ ap (λ ts. order_word ++ flat_map (λ t. 32 ∷ t) ts) written
          ∙ ap (λ l. order_word ++ l) (spaced_numbers order);
    }

pub is_order : (list : List Request) (line : List ℕ) (order : List Request) → order_of list line ≡ Some order → IsOrder list line order
is_order list line order h = ordered list line order (slice_split (λ b. b == 32) line) (join_with_byte-slice_split 32 line) h

pub record OrderStands (report : List (List ℕ)) (list : List Request) (at : ℕ) (order : List Request) : Type 0 where
  pub left : drop at report ≡ order_line order ∷ drop (at + 1) report
  pub found : IsOrder list (order_line order) order

order_got : (report : List (List ℕ)) (list : List Request) (at : ℕ) (order : List Request) (o : Option (List ℕ)) → slice_get report at ≡ o
    → (told : Option (List Request)) → told_order list o ≡ told → or_failing report at told ≡ Ok order → OrderStands report list at order
order_got report list at order None g None t h = cc
order_got report list at order None g (Some other) t h = cc
order_got report list at order (Some line) g None t h = cc
order_got report list at order (Some line) g (Some other) t h =
    let same : other ≡ order = cc in
    let o = is_order list line order (t ∙ ap (λ x. Some x) same) in
    record {
      left = get_drop report at line g ∙ ap (λ n. line ∷ drop n report) (sym (add-one at)) ∙ ap (λ l. l ∷ drop (at + 1) report) o.as_line;
      found = subst (λ l. IsOrder list l order) o.as_line o;
    }

order_stands : (report : List (List ℕ)) (list : List Request) (at : ℕ) (order : List Request) → order_at report list at ≡ Ok order
    → OrderStands report list at order
order_stands report list at order h = order_got report list at order (slice_get report at) refl (told_order list (slice_get report at)) refl h

-- ---- answers

module _ (plan : Plan) (report : List (List ℕ)) where
  pub record AnswerStands (standing : Standing) (calls : List Call) (at : ℕ) (reading : Reading) : Type 0 where
    pub lines : List (List ℕ)
    pub left : drop at report ≡ lines ++ drop reading.at report
    pub is_answer : IsAnswer plan standing calls lines reading.standing
    pub unlisted : reading.listed ≡ false

  -- what is read behind the parts of an answer
  abbrev behind_told : Standing → List Call → ℕ × Ran → Result Reading Flaw
  behind_told standing calls told = Ok (record { at = told.0; standing = after standing calls told.1; listed = false })

  abbrev behind_first : Standing → List Call → ℕ → Result Reading Flaw
  behind_first standing calls at =
      told_at plan report standing.tables (standing.batches + 1) (list_of standing calls) at >>= behind_told standing calls

  abbrev behind_ran : ℕ → ℕ → List Request → Ran → Result (ℕ × Ran) Flaw
  behind_ran first number list ran = answer_lines report number ran.0 list first >>= (λ at. Ok (at, ran))

  pub answer_stands : (standing : Standing) (calls : List Call) (at : ℕ) (reading : Reading) → answer plan report standing calls at ≡ Ok reading
      → AnswerStands standing calls at reading
  answer_stands standing calls at reading h =
      let list = list_of standing calls in
      let number = standing.batches + 1 in
      let one = both (expect report (batch_line number) at) (behind_first standing calls) reading h in
      let first = one.value in
      let rest = both (told_at plan report standing.tables number list first) (behind_told standing calls) reading one.second in
      let two = both (ran_at plan report standing.tables list (first + length list)) (behind_ran first number list) rest.value rest.first in
      let ran = two.value in
      let three = both (answer_lines report number ran.0 list first) (λ at. Ok (at, ran)) rest.value two.second in
      let chosen = both (order_at report list (first + length list)) (λ order. Ok (run_from plan standing.tables order)) ran two.first in
      let order = chosen.value in
      let runs : run_from plan standing.tables order ≡ ran = cc in
      let four = both (replies report ran.0 list first) (λ at. expect report (end_line number) (at + 1)) three.value three.first in
      let ordered = order_stands report list (first + length list) order chosen.first in
      let names = ordered.found.naming in
      let apart : AreApart [] order = subst (AreApart []) (sym names.together) names.apart in
      let replied = all_replied report ran.0 list first four.value four.first in
      let pair : (three.value, ran) ≡ rest.value = cc in
      let told : behind_told standing calls (three.value, ran) ≡ Ok reading = ap (behind_told standing calls) pair ∙ rest.second in
      let last : record { at = three.value; standing = after standing calls ran; listed = false } ≡ reading = cc in
      let behind_replies : drop four.value report ≡ order_line order ∷ drop (four.value + 1) report
      = subst (λ n. drop n report ≡ order_line order ∷ drop (n + 1) report) (sym replied.behind) ordered.left in
      let all : drop at report ≡ batch_line number ∷ (replied.lines ++ (order_line order ∷ (end_line number ∷ drop three.value report)))
      = stood report (batch_line number) at first one.first
      ∙ ap (λ l. batch_line number ∷ l) (replied.left ∙ ap (λ l. replied.lines ++ l) (behind_replies
      ∙ ap (λ l. order_line order ∷ l) (stood report (end_line number) (four.value + 1) three.value four.second))) in
      subst (λ reading. AnswerStands standing calls at reading) last (record {
        lines = batch_line number ∷ (replied.lines ++ order_line order ∷ end_line number ∷ []);
        left = all ∙ ap (λ l. batch_line number ∷ l) (sym (append_assoc replied.lines (order_line order ∷ end_line number ∷ []) (drop three.value report)));
        is_answer = subst (λ ran. IsAnswer plan standing calls (batch_line number ∷ (replied.lines ++ order_line order ∷ end_line number ∷ []))
            (after standing calls ran)) runs (record {
              order = order;
              replies = replied.lines;
              as_lines = refl;
              found = subst (λ o. map (request_numbered list) (numbers o) ≡ map Some o) (sym names.together) names.found;
              apart = apart;
              ends = ends_told (run_of plan) [] standing.tables order apart;
              told = subst (λ ends. AreReplies ends list replied.lines) (sym (ap (λ ran. ran.0) runs)) replied.are;
              rows = refl;
              rest = not_ended (run_of plan) standing.tables order list;
              batches = refl;
              requests = refl;
            });
        unlisted = refl;
      })

  -- ---- listings

  pub listing_stands : (standing : Standing) (at next : ℕ) → listing plan report standing at ≡ Ok next
      → drop at report ≡ listing_lines plan standing ++ drop next report
  listing_stands standing at next h =
      let one = both (expect report (state_line standing.batches) at)
      (λ at. expect_all report (row_lines plan standing.tables) at >>= expect report end_state_line) next h in
      let two = both (expect_all report (row_lines plan standing.tables) one.value) (expect report end_state_line) next one.second in
      stood report (state_line standing.batches) at one.value one.first
      ∙ ap (λ l. state_line standing.batches ∷ l) (all_stood report (row_lines plan standing.tables) one.value two.value two.first
      ∙ ap (λ l. row_lines plan standing.tables ++ l) (stood report end_state_line two.value next two.second)
      ∙ sym (append_assoc (row_lines plan standing.tables) (end_state_line ∷ []) (drop next report)))
