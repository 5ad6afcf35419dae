-- The answer of a batch by the entries that nodes have, and the requests' order among them.
use Rattle.std.proofs.Common.{◌≡◌, ℕ, ◌-◌, List, [], ◌∷◌, ◌++◌, map, length, false, cond, Some, Option, refl, sym, ap, ◌∙◌}
use Rattle.std.specs.Prelude.{slice_get}
use Rattle.std.specs.Borrow.{Bor}
use Rattle.std.specs.List.{filter, range_with_len}
use Rattle.std.specs.Option.{option_map}
use Rattle.std.proofs.lemmas.List.{append-nil, length-map}
use Rattle.std.proofs.lemmas.Option.{slice_get-map}
use Rattle.std.proofs.lemmas.Simd.{map-map}
use Rattle.aria_base.specs.Orders.{key_cmp, Cells}
use Rattle.aria_base.specs.declared.keys.Key.{Key}
use Rattle.aria_base.specs.declared.calls.Request.{Request}
use Rattle.batch_rules.specs.declared.verdicts.Verdict.{Verdict}
use Rattle.batch_rules.specs.declared.verdicts.Verdict.TheVariants.{Finish, Wait}
use Rattle.batch_rules.specs.Batches.{Carrier, Judged, Entry, fate_after, is_late, placed, ordered}
use Rattle.batch_rules.proofs.Fates.{requests-settled}
use Rattle.batch_core.specs.Steps.{number_or, number_at, line_of, answer_by}
use Rattle.proc_lang.specs.declared.ends.End.{End}
use Rattle.reorder.specs.Orders.{placed_tids}
use Rattle.reorder.proofs.Places.{placed_names}
use Rattle.node_rules.specs.Nets.{Net}
use Rattle.node_rules.specs.Truths.{Course, carrier, on, judged_list, entries_on}
use Rattle.node_rules.proofs.Places.{settled-map, tids-judged}
use Rattle.node_batch.specs.Entries.{entry_of}
use Rattle.node_batch.specs.declared.entries.Entry.{Entry as Own}
use Rattle.node_answers.specs.Merges.{settled_in, list_in, answer_in}

late_one : {K V A O : Type 0} (by : Carrier K V A O) (d : Judged O) (v : Verdict)
    → is_late {K = K} {O = O} {A = A} (record {
      judged = record { tid = d.tid; request = d.request; verdict = v };
      fate =
          fate_after by d.request v [];
    }) ≡ false
late_one by d (Finish raw) = refl
late_one by d (Wait cause) = refl

module _ (net : Net key_cmp Cells Request End) (c : Course key_cmp Cells Request) where
  abbrev E : Type 0
  E = Entry Key Request End

  abbrev by : Carrier Key Cells End Request
  by = carrier net c.rows

  abbrev ds : List (Judged Request)
  ds = judged_list net c.rows c.list

  abbrev all : List E
  all = entries_on net c

  abbrev entry_at : Judged Request → E
  entry_at d = record { judged = d; fate = fate_after by d.request d.verdict [] }

  none_of : (ds : List (Judged Request)) → filter is_late (map entry_at ds) ≡ []
  none_of [] = refl
  none_of (d ∷ ds) = ap (λ b. cond b (entry_at d ∷ filter is_late (map entry_at ds)) (filter is_late (map entry_at ds))) (late_one by d d.verdict) ∙ none_of ds

  -- without a late fold nothing ends late
  none_late : filter is_late all ≡ []
  none_late = ap (filter is_late) (settled-map by ds) ∙ none_of ds

  requests_are : map (λ e. e.judged.request) all ≡ c.list
  requests_are = requests-settled by (on net c.rows) net.rule c.list []

  pub long : length all ≡ length c.list
  long = sym (length-map all (λ e. e.judged.request)) ∙ ap length requests_are

  pub tids_are : map (λ e. e.judged.tid) all ≡ range_with_len 1 (length all)
  tids_are = ap (map (λ (e : E). e.judged.tid)) (settled-map by ds)
      ∙ map-map (λ (e : E). e.judged.tid) entry_at ds
      ∙ tids-judged (on net c.rows) net.rule [] c.list ∙ ap (range_with_len 1) (sym long)

  abbrev number_of : Option E → ℕ
  number_of e = number_or (option_map (λ e. e.judged.request) e)

  order_is : map (number_at c.list) (placed_tids (map (λ e. e.judged.verdict) all)) ≡ map (λ e. e.judged.request.q) (ordered all)
  order_is =
      let tids = placed_tids (map (λ e. e.judged.verdict) all) in
      let named = placed (λ e. e.judged.verdict) all in
      ap (λ l. map (number_at l) tids) (sym requests_are)
      ∙ (λ i. map (λ tid. number_or (slice_get-map (λ (e : E). e.judged.request) all (tid - 1) i)) tids)
      ∙ sym (map-map number_of (λ tid. slice_get all (tid - 1)) tids)
      ∙ ap (map number_of) (placed_names (λ (e : E). e.judged.verdict) all).each
      ∙ map-map number_of (λ (e : E). Some e) named
      ∙ ap (map (λ (e : E). e.judged.request.q)) (sym (ap (λ l. named ++ l) none_late ∙ append-nil named))

  -- printed from what nodes have
  pub printed : (number : ℕ) (es : List (Bor Own)) → settled_in es ≡ all → answer_in number es ≡ answer_by (λ r. r) number c.list all
  printed number es same =
      let list : list_in es ≡ c.list
      = sym (map-map (λ (e : E). e.judged.request) (λ (e : Bor Own). entry_of e.now) es) ∙ ap (map (λ (e : E). e.judged.request)) same ∙ requests_are in
      (λ i. record {
        number = number;
        lines = map (line_of (λ r. r) (list i)) (same i);
        order = map (number_at (list i)) (placed_tids (map (λ e. e.judged.verdict) (same i)));
      })
      ∙ (λ i. record { number = number; lines = map (line_of (λ r. r) c.list) all; order = order_is i })
