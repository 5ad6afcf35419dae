-- A batch of works is serialised by its order, by the numbers that it prints.
use Rattle.std.proofs.Common.{◌≡◌, ℕ, List, [], ◌∷◌, ◌++◌, map, true, false, Some, Option, not, refl, sym, ap, subst, ◌∙◌}
use Rattle.std.specs.Prelude.{slice_index_or, IsSomeAnd}
use Rattle.std.specs.List.{All, filter}
use Rattle.std.specs.List.Sorted.{IsPermutation}
use Rattle.std.specs.Option.{option_map}
use Rattle.std.proofs.lemmas.List.{map-append}
use Rattle.std.proofs.lemmas.List.Elements.{All-append, All-filter, All-map, filter_passes}
use Rattle.std.proofs.lemmas.List.Sorted.{IsPermutation-reverse, IsPermutation-map, All-permutation}
use Rattle.std.proofs.lemmas.Simd.{map-map}
use Rattle.aria_base.specs.Orders.{Cells, Database}
use Rattle.aria_base.specs.Schemas.{IsConsistent}
use Rattle.aria_base.specs.declared.keys.Key.{Key}
use Rattle.aria_base.specs.declared.calls.Request.{Request}
use Rattle.aria_base.specs.declared.schemas.Table.{Table}
use Rattle.proc_lang.specs.declared.ends.End.{End}
use Rattle.batch_rules.specs.declared.verdicts.Rule.{Rule}
use Rattle.batch_rules.specs.declared.verdicts.Verdict.{Verdict}
use Rattle.batch_rules.specs.declared.verdicts.Verdict.TheVariants.{Finish, Wait}
use Rattle.batch_rules.specs.Batches.{Judged, placed, waiting}
use Rattle.batch_rules.specs.Runs.{map_in_turn}
use Rattle.batch_rules.specs.Trees.{Tree}
use Rattle.batch_rules.specs.Verdicts.{through, goes_ahead, keeps_turn, waits}
use Rattle.batch_rules.proofs.Judges.{requests-judged}
use Rattle.batch_rules.proofs.Lists.{All-unmapped, filter-map, map_same}
use Rattle.std.proofs.lemmas.List.Elements.{All-head, All-tail}
use Rattle.batch_core.specs.declared.answers.Reply.{Reply}
use Rattle.batch_core.specs.declared.answers.Reply.TheVariants as reply
use Rattle.batch_core.specs.Serial.{RiseWithin, is_wait}
use Rattle.batch_core.specs.Steps.{reply_by}
use Rattle.batch_core.proofs.Numbers.{rise-unmapped, found, all_found, rest-is}
use Rattle.range_rules.specs.declared.routines.Action.{Action}
use Rattle.range_rules.specs.declared.routines.NumberedWork.{NumberedWork}
use Rattle.range_rules.specs.declared.routines.Ran.{Ran}
use Rattle.range_rules.specs.declared.routines.RoutineCall.{RoutineCall}
use Rattle.range_rules.specs.declared.routines.Seen.{Seen}
use Rattle.range_rules.specs.Batches.{Outcome, depends, judged_on, batch_of, line_of, number_at, fate_of}
use Rattle.range_rules.specs.Courses.{ran_on, left_on}
use Rattle.range_rules.specs.Laws.{IsSerialBatch, LeavesConsistent, StaysConsistent}
use Rattle.range_rules.specs.Serials.{works, numbered_as, named, is_named, printed, serial_ends, serial_rows}
use Rattle.range_rules.proofs.Parted.{parted}
use Rattle.range_rules.proofs.Serials.{in_turn}

-- ---- what a verdict says of a reply

module _ (ran : Ran) (number : ℕ → ℕ) where
  ahead_ends : (v : Verdict) → goes_ahead v ≡ true → reply_by number (fate_of ran v) ≡ reply.Ended ran.end
  ahead_ends (Finish raw) e = refl
  ahead_ends (Wait cause) e = cc

  turn_ends : (v : Verdict) → keeps_turn v ≡ true → reply_by number (fate_of ran v) ≡ reply.Ended ran.end
  turn_ends (Finish raw) e = refl
  turn_ends (Wait cause) e = cc

  waits_on : (v : Verdict) → waits v ≡ true → is_wait (reply_by number (fate_of ran v)) ≡ true
  waits_on (Finish raw) e = e
  waits_on (Wait cause) e = refl

ahead_goes : (v : Verdict) → goes_ahead v ≡ true → waits v ≡ false
ahead_goes (Finish raw) e = refl
ahead_goes (Wait cause) e = cc

turn_goes : (v : Verdict) → keeps_turn v ≡ true → waits v ≡ false
turn_goes (Finish raw) e = refl
turn_goes (Wait cause) e = cc

module _ (tree : Request → Tree Key Cells End) (act : ℕ → RoutineCall → List Seen → Action) (rule : Rule) (start : Database)
    (list : List NumberedWork) where
  abbrev ds : List (Judged NumberedWork)
  ds = judged_on tree act rule start list

  abbrev os : List (Judged NumberedWork)
  os = placed (λ d. d.verdict) ds

  pub same_list : map (λ d. d.request) ds ≡ list
  same_list = requests-judged (through (ran_on tree act start) depends) rule [] list

  -- what holds by the verdict of those that finish holds of what is placed
  placed_by : (P : Judged NumberedWork → Type 0) → ((d : Judged NumberedWork) → goes_ahead d.verdict ≡ true → P d)
      → ((d : Judged NumberedWork) → keeps_turn d.verdict ≡ true → P d) → All P os
  placed_by P ahead turn =
      let firsts = filter (λ d. goes_ahead d.verdict) ds in
      let seconds = filter (λ d. keeps_turn d.verdict) ds in
      All-append P _ _
      (All-permutation P firsts _ (IsPermutation-reverse firsts)
      (λ k d below. ahead (slice_index_or firsts k d) (filter_passes (λ d. goes_ahead d.verdict) ds k d below)))
      (λ k d below. turn (slice_index_or seconds k d) (filter_passes (λ d. keeps_turn d.verdict) ds k d below))

  -- what holds of all holds of those that are placed
  placed_all : (P : Judged NumberedWork → Type 0) → All P ds → All P os
  placed_all P a =
      let firsts = filter (λ d. goes_ahead d.verdict) ds in
      All-append P _ _ (All-permutation P firsts _ (IsPermutation-reverse firsts) (All-filter (λ d. goes_ahead d.verdict) P ds a))
      (All-filter (λ d. keeps_turn d.verdict) P ds a)

  -- ---- by request numbers

  module _ (batch high : ℕ) (rises : RiseWithin (λ w. w.q) 0 list high) where
    abbrev told : Outcome
    told = batch_of tree act rule start list

    abbrev number : Judged NumberedWork → ℕ
    number d = d.request.q

    abbrev reply_to : Judged NumberedWork → Reply
    reply_to d = (line_of tree act start list d).reply

    abbrev end_on : Judged NumberedWork → End
    end_on d = (ran_on tree act start d.request).end

    rise : RiseWithin number 0 ds high
    rise = rise-unmapped (λ d. d.request) (λ w. w.q) 0 ds high (subst (λ l. RiseWithin (λ w. w.q) 0 l high) (sym same_list) rises)

    asked : All (λ d. numbered_as list (number d) ≡ Some d.request) ds
    asked k d below = ap (λ l. numbered_as l (number (slice_index_or ds k d))) (sym same_list)
        ∙ found (λ d. d.request) (λ w. w.q) 0 ds high rise k d below

    replied : All (λ d. printed told.lines (number d) ≡ Some (reply_to d)) ds
    replied k d below = ap (option_map (λ line. line.reply)) (found (line_of tree act start list) (λ line. line.q) 0 ds high rise k d below)

    ended : All (λ d. reply_to d ≡ reply.Ended (end_on d)) os
    ended = placed_by (λ d. reply_to d ≡ reply.Ended (end_on d))
        (λ d e. ahead_ends (ran_on tree act start d.request) (number_at list) d.verdict e)
        (λ d e. turn_ends (ran_on tree act start d.request) (number_at list) d.verdict e)

    all_parted : IsPermutation (os ++ waiting ds) ds
    all_parted = parted (ran_on tree act start) (through (ran_on tree act start) depends) rule list

    rest : told.carried ≡ filter (λ w. not (is_named told.order w)) list
    rest = filter-map (λ d. d.request) (λ d. waits d.verdict) (λ w. not (is_named told.order w)) ds
        (rest-is number 0 ds high rise (λ d. waits d.verdict) os all_parted
        (placed_by (λ d. waits d.verdict ≡ false) (λ d e. ahead_goes d.verdict e) (λ d e. turn_goes d.verdict e)))
        ∙ ap (filter (λ w. not (is_named told.order w))) same_list

    abbrev IsPrintedToWait : NumberedWork → Type 0
    IsPrintedToWait w = IsSomeAnd (printed told.lines w.q) (λ reply. is_wait reply ≡ true)

    waits_printed : All IsPrintedToWait told.carried
    waits_printed = All-map IsPrintedToWait (λ d. d.request) (waiting ds) (λ k x below.
        let d = slice_index_or (waiting ds) k x in
        subst (λ reply. IsSomeAnd reply (λ reply. is_wait reply ≡ true))
        (sym (All-filter (λ d. waits d.verdict) (λ d. printed told.lines (number d) ≡ Some (reply_to d)) ds replied k x below))
        (waits_on (ran_on tree act start d.request) (number_at list) d.verdict (filter_passes (λ d. waits d.verdict) ds k x below)))

    once : IsPermutation (told.order ++ map (λ w. w.q) told.carried) (map (λ w. w.q) list)
    once =
        let q : NumberedWork → ℕ = λ w. w.q in
        let ws = waiting ds in
        let told_and_left : map number (os ++ ws) ≡ told.order ++ map q told.carried =
        map-append number os ws ∙ ap (λ ns. map number os ++ ns) (sym (map-map q (λ d. d.request) ws)) in
        let all : map number ds ≡ map q list = sym (map-map q (λ d. d.request) ds) ∙ ap (map q) same_list in
        subst (λ ns. IsPermutation ns (map q list)) told_and_left
        (subst (IsPermutation (map number (os ++ ws))) all (IsPermutation-map number (os ++ ws) ds all_parted))

    pub is_serial : IsSerialBatch tree act rule start list batch
    is_serial =
        let law = in_turn tree act rule start list in
        let asks = all_found (numbered_as list) number (λ d. d.request) os (placed_all (λ d. numbered_as list (number d) ≡ Some d.request) asked) in
        let replies = all_found (printed told.lines) number reply_to os
        (placed_all (λ d. printed told.lines (number d) ≡ Some (reply_to d)) replied) in
        let runs : map (λ d. d.request) os ≡ named list told.order = sym asks.1 in
        let final : End → Option Reply = λ end. Some (reply.Ended end) in record {
          found = asks.0 ∙ ap (map Some) runs;
          ends = replies.0 ∙ ap (map Some) (map_same reply_to (λ d. reply.Ended (end_on d)) os ended)
              ∙ map-map Some (λ d. reply.Ended (end_on d)) os ∙ sym (map-map final end_on os)
              ∙ sym (ap (map final) law.ends) ∙ ap (λ ws. map final (serial_ends tree act start ws)) runs;
          left = sym law.map ∙ ap (serial_rows tree act start) runs;
          rest = rest;
          waits = waits_printed;
          once = once;
        }

  -- ---- the rows

  module _ (schema : List Table) where
    abbrev Leaves : NumberedWork → Type 0
    Leaves = LeavesConsistent tree act schema

    serially : (db : Database) (ws : List NumberedWork) → All Leaves ws → IsConsistent schema db → IsConsistent schema (map_in_turn (works tree act) db ws)
    serially db [] a c = c
    serially db (w ∷ ws) a c = serially (left_on tree act db w) ws (All-tail Leaves w ws a) (All-head Leaves w ws a db c)

    pub stays_consistent : StaysConsistent schema tree act rule start list
    stays_consistent each before =
        let P : Judged NumberedWork → Type 0 = λ d. Leaves d.request in
        let all : All P ds = All-unmapped Leaves (λ d. d.request) ds (subst (All Leaves) (sym same_list) each) in
        subst (IsConsistent schema) (in_turn tree act rule start list).map
        (serially start (map (λ d. d.request) os) (All-map Leaves (λ d. d.request) os (placed_all P all)) before)
