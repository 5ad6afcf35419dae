use Rattle.std.proofs.Common.{◌≡◌, ◌≤◌, ap, sym, subst, ◌∙◌, map, arith}
use Rattle.std.specs.FinMap as fin
use Rattle.dep_rules.specs.Sheets.{Sheet}
use Rattle.key_numbering.specs.Numbers.{Keeps, number_in, with_sets}
use Rattle.key_numbering.proofs.Growing.{keeps_sets, one_to_one}
use Rattle.key_numbering.proofs.Settling.{is_settled, numbered_lists, all_reads_below, all_writes_below, as_many}
use Rattle.key_numbering.proofs.numbering.numbered.Goals as goal

pub settle_all-requires-clause-places : goal.settle_all-requires-clause-places
settle_all-requires-clause-places c = (is_settled _ _ _ c.requires.found).places

pub settle_all-requires-clause-count : goal.settle_all-requires-clause-count
settle_all-requires-clause-count c = let same = ap (λ p. fin.len p.0) (is_settled _ _ _ c.requires.found).is in let most = c.requires.room in omega arith

pub of-requires-clause-same : goal.of-requires-clause-same
of-requires-clause-same c =
    let final = with_sets c.args.kept c.args.sets.now in
    let whole = c.in_ok-reads.ensures ∙ (is_settled c.args.kept c.args.sets.now c.args.all.items c.requires.found).is in
    let reads = as_many c.in_ok-reads.reads.items (λ v. v.items) (λ s. map (number_in final) s.reads) c.args.sets.now (ap (λ p. p.1.0) whole) in
    let writes = as_many c.in_ok-reads.writes.items (λ v. v.items) (λ s. map (number_in final) s.writes) c.args.sets.now (ap (λ p. p.1.1) whole) in
    let r = c.in_ok-reads.reads.ok.0 in
    let w = c.in_ok-reads.writes.ok.0 in
    omega arith

pub of-requires-clause-count : goal.of-requires-clause-count
of-requires-clause-count c =
    let final = with_sets c.args.kept c.args.sets.now in
    let whole = c.in_ok-reads.ensures ∙ (is_settled c.args.kept c.args.sets.now c.args.all.items c.requires.found).is in
    let reads = as_many c.in_ok-reads.reads.items (λ v. v.items) (λ s. map (number_in final) s.reads) c.args.sets.now (ap (λ p. p.1.0) whole) in
    let r = c.in_ok-reads.reads.ok.0 in
    let most = c.requires.count in
    omega arith

pub of-requires-clause-reads : goal.of-requires-clause-reads
of-requires-clause-reads c =
    let whole = c.in_ok-reads.ensures ∙ (is_settled c.args.kept c.args.sets.now c.args.all.items c.requires.found).is in
    all_reads_below c.args.kept c.settle_all.new.kept c.args.sets.now (ap (λ p. p.0) whole) c.len-keys.result
    (map (λ v. v.items) c.in_ok-reads.reads.items) c.len-keys.ensures.numbers c.len-keys.ensures.len (ap (λ p. p.1.0) whole)

pub of-requires-clause-writes : goal.of-requires-clause-writes
of-requires-clause-writes c =
    let whole = c.in_ok-reads.ensures ∙ (is_settled c.args.kept c.args.sets.now c.args.all.items c.requires.found).is in
    all_writes_below c.args.kept c.settle_all.new.kept c.args.sets.now (ap (λ p. p.0) whole) c.len-keys.result
    (map (λ v. v.items) c.in_ok-reads.writes.items) c.len-keys.ensures.numbers c.len-keys.ensures.len (ap (λ p. p.1.1) whole)

pub returns-clause-kept : goal.returns-clause-kept
returns-clause-kept c = ap (λ p. p.0) (c.in_ok-reads.ensures ∙ (is_settled c.args.kept c.args.sets.now c.args.all.items c.requires.found).is)

pub returns-clause-lists : goal.returns-clause-lists
returns-clause-lists c =
    let whole = c.in_ok-reads.ensures ∙ (is_settled c.args.kept c.args.sets.now c.args.all.items c.requires.found).is in
    numbered_lists c.args.kept c.settle_all.new.kept c.args.sets.now (ap (λ p. p.0) whole) c.of.result (ap (λ (sheet : Sheet). sheet.reads) c.of.ensures
    ∙ ap (λ p. p.1.0) whole) (ap (λ (sheet : Sheet). sheet.writes) c.of.ensures ∙ ap (λ p. p.1.1) whole)

pub returns-clause-one_to_one : goal.returns-clause-one_to_one
returns-clause-one_to_one c = one_to_one c.settle_all.new.kept c.len-keys.ensures.numbers

pub returns-clause-keeps : goal.returns-clause-keeps
returns-clause-keeps c =
    subst (Keeps c.args.kept) (sym (ap (λ p. p.0) (c.in_ok-reads.ensures ∙ (is_settled c.args.kept c.args.sets.now c.args.all.items c.requires.found).is)))
    (keeps_sets c.args.kept c.args.sets.now)
