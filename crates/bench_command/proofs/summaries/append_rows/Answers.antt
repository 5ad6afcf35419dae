use Rattle.std.proofs.Common.{◌≡◌, ℕ, ◌%◌, ◌^◌, ◌++◌, map, length, ap, sym, subst, rules, ◌∙◌}
use Rattle.std.specs.Prelude.{OnOk}
use Rattle.std.specs.FinMap.{entries}
use Rattle.std.specs.List.{sum_by}
use Rattle.std.specs.Map.Iter.{deref_pair}
use Rattle.std.proofs.lemmas.List.{length-map}
use Rattle.bench_command.specs.Summaries.{totals_text}
use Rattle.bench_command.specs.Tallies.{sum_of}
use Rattle.bench_command.proofs.Totals.{of_row, sum_by-map}
use Rattle.bench_command.proofs.summaries.append_rows.Goals as goal

pub returns : goal.returns
returns c =
    let rows = c.in_ok-rows.rows.items in
    let all : map deref_pair rows ≡ entries c.args.tables.now = c.in_ok-rows.ensures in
    let size : c.len.result ≡ length rows = search rules in
    let count : c.len.result ≡ length (entries c.args.tables.now) = size ∙ sym (length-map rows deref_pair) ∙ ap length all in
    let here : c.sum_rows.result ≡ sum_by (λ row. of_row (deref_pair row)) rows % 2 ^ 64 = search rules in
    let total : c.sum_rows.result ≡ sum_of c.args.tables.now =
    here ∙ ap (λ n. n % 2 ^ 64) (sym (sum_by-map of_row deref_pair rows) ∙ ap (sum_by of_row) all) in
    let old = c.args.out.now.items in
    let new = c.append_totals.new.out.items in
    subst (λ (n : ℕ). OnOk c.append_totals.result (new ≡ old ++ totals_text n (sum_of c.args.tables.now))) count
    (subst (λ (n : ℕ). OnOk c.append_totals.result (new ≡ old ++ totals_text c.len.result n)) total c.append_totals.ensures)
