-- A batch by what carries its requests is the batch of the requests.
use Rattle.std.proofs.Common.{◌≡◌, ap, ◌∙◌, ℕ, ◌+◌, List, map, length}
use Rattle.std.proofs.lemmas.Simd.{map-map}
use Rattle.aria_base.specs.Orders.{key_cmp, Cells}
use Rattle.aria_base.specs.declared.keys.Key.{Key}
use Rattle.aria_base.specs.declared.calls.Request.{Request}
use Rattle.proc_lang.specs.declared.ends.End.{End}
use Rattle.proc_lang.specs.Meaning.{is_done}
use Rattle.batch_rules.specs.Trees.{Tree}
use Rattle.batch_rules.specs.Batches.{Carrier, Entry, Batch, ordered, carried, batch_by, on_start, read_through, entry_through}
use Rattle.batch_rules.proofs.Carriers.{same_batch, ordered-through, carried-through}
use Rattle.batch_core.specs.Steps.{State, Handed, list_of, line_of, reply_of, answer_by, outcome}
use Rattle.batch_core.specs.Carriers.{StepsBy}

module _ {O : Type 0} (request_of : O → Request) (of : Request → O) (is : (q : Request) → request_of (of q) ≡ q) where
  answer-through : (number : ℕ) (list : List Request) (es : List (Entry Key Request End))
      → answer_by request_of number list (map (entry_through of) es) ≡ answer_by (λ q. q) number list es
  answer-through number list es =
      let lines = map-map (line_of request_of list) (entry_through of) es in
      let order = ap (map (λ e. (request_of e.judged.request).q)) (ordered-through of es)
      ∙ map-map (λ e. (request_of e.judged.request).q) (entry_through of) (ordered es) in
      (λ i. record { number = number; lines = lines i; order = order i })
      ∙ (λ i. record {
        number = number;
        lines = map (λ e. record { q = (is e.judged.request i).q; reply = reply_of list e.fate }) es;
        order = map (λ e. (is e.judged.request i).q) (ordered es);
      })

  waiting-through : (es : List (Entry Key Request End)) → map (λ e. request_of e.judged.request) (carried (map (entry_through of) es)) ≡ map
      (λ e. e.judged.request) (carried es)
  waiting-through es = ap (map (λ e. request_of e.judged.request)) (carried-through of es)
      ∙ map-map (λ e. request_of e.judged.request) (entry_through of) (carried es) ∙ (λ i. map (λ e. is e.judged.request i) (carried es))

module _ {O : Type 0} (tree : Request → Tree Key Cells End) (request_of : O → Request) (by : Carrier Key Cells End O) (of : Request → O) where
  pub steps_by : (state : State) (handed : Handed) → StepsBy tree request_of by of state handed
  steps_by state handed h =
      let list = list_of state handed in
      let same = same_batch {R = key_cmp} of by is_done (λ o. tree (request_of o)) handed.rule handed.percent state.rows list in
      let read : read_through of by ≡ on_start is_done tree state.rows =
      λ i. record { reads = λ q. h.reads q i; rows = λ q. h.rows q i; end = λ q. h.end q i } in
      let does : (λ q. tree (request_of (of q))) ≡ tree = λ i q. tree (h.request q i) in
      let one : batch_by (read_through of by) is_done (λ q. tree (request_of (of q))) handed.rule handed.percent state.rows list ≡ outcome tree state handed =
      λ i. batch_by (read i) is_done (does i) handed.rule handed.percent state.rows list in
      let entries = same.entries ∙ ap (λ (b : Batch key_cmp Cells Request End). map (entry_through of) b.entries) one in
      let left = same.left ∙ ap (λ (b : Batch key_cmp Cells Request End). b.map) one in
      let waiting = ap (λ es. map (λ e. request_of e.judged.request) (carried es)) entries
      ∙ waiting-through request_of of h.request (outcome tree state handed).entries in record {
        left = λ i. record {
          rule = handed.rule;
          percent = handed.percent;
          rows = left i;
          waiting = waiting i;
          batches = state.batches + 1;
          requests =
              state.requests + length handed.calls;
        };
        answer = ap (answer_by request_of (state.batches + 1) list) entries
            ∙ answer-through request_of of h.request (state.batches + 1) list (outcome tree state handed).entries;
      }
