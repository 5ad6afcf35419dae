use Rattle.std.proofs.Common.{rules, ◌≡◌, refl, sym, ap, ◌∙◌, ◌+◌, ◌∷◌}
use Rattle.std.proofs.lemmas.List.{nil_from_length}
use Rattle.std.specs.Vec.Iter.{into_iter_items}
use Rattle.install_phase.specs.Installs.{after_changes}
use Rattle.install_phase.proofs.Installing.{first_put, none_put}
use Rattle.install_phase.proofs.puts.put_finishing.Goals as goal

pub loop-changes-init : goal.loop-changes-init
loop-changes-init g c = (tt, tt, (1, refl))

pub loop-changes-preserved : goal.loop-changes-preserved
loop-changes-preserved g c =
    let verdict = c.in-Some-split_first.verdict.now in
    let steps : into_iter_items c.loop-changes.changes-iterator ≡ c.in-Some.changes ∷ into_iter_items c.next.new.self = search rules in
    let behind : c.loop-changes.rest.now ≡ c.in-Some-split_first.verdict.now ∷ c.in-Some-split_first.later.now = search rules in
    let (next, all) = c.loop-changes.invariant.2 in (
      tt,
      tt,
      (next + 1, first_put next c.loop-changes.tables _ c.in-Some.changes _ _ verdict _ _ steps behind c.in_ok-put_if.ensures ∙ all),
    )

pub returns-in_default : goal.returns-in_default
returns-in_default g c =
    let whole : into_iter_items c.into_iter-changes-iterator.result ≡ c.args.list.items = search rules in
    let none = nil_from_length c.loop-changes.rest.now (search rules) in
    let (next, all) = c.loop-changes.invariant.2 in
    let items = into_iter_items c.loop-changes.changes-iterator in
    let tables = c.loop-changes.tables in
    sym (none_put next tables items) ∙ sym (ap (after_changes next tables items) none) ∙ all
    ∙ ap (λ os. after_changes 1 c.args.tables os c.args.verdicts.now) whole

pub returns : goal.returns
returns g c =
    let whole : into_iter_items c.into_iter-changes-iterator.result ≡ c.args.list.items = search rules in
    let none = nil_from_length (into_iter_items c.loop-changes.changes-iterator) (search rules) in
    let (next, all) = c.loop-changes.invariant.2 in
    sym (ap (λ os. after_changes next c.loop-changes.tables os c.loop-changes.rest.now) none) ∙ all
    ∙ ap (λ os. after_changes 1 c.args.tables os c.args.verdicts.now) whole
