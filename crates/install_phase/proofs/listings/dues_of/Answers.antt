use Rattle.std.proofs.Common.{rules, ◌≡◌, suc, ap, ◌∙◌, ◌+◌, ◌∷◌, ◌++◌, [], sym, drop, reverse, arith}
use Rattle.std.specs.Prelude.{if◌then◌else◌, slice_index_or}
use Rattle.std.proofs.Math.Seq.{drop-cons}
use Rattle.std.proofs.lemmas.List.{nil_from_length, drop_all}
use Rattle.batch_rules.specs.Verdicts.{finishes}
use Rattle.install_phase.specs.Dues.{shown}
use Rattle.install_phase.specs.Installs.{written}
use Rattle.install_phase.specs.Writes.{at_shards}
use Rattle.install_phase.proofs.Listing.{first_listed, all_listed, written_none}
use Rattle.install_phase.proofs.listings.dues_of.Goals as goal

pub loop-changes-init : goal.loop-changes-init
loop-changes-init c = (1, ap (λ dues. shown dues ++ at_shards c.args.shards.now (written 1 c.args.list.now c.args.verdicts.now)) c.in_ok-dues.ensures.items)

pub loop-changes-preserved : goal.loop-changes-preserved
loop-changes-preserved c =
    let shards = c.args.shards.now in
    let list = c.args.list.now in
    let at = c.loop-changes.changes-index in
    let item = c.changes-item.result in
    let verdict = c.in-Some.verdict.now in
    let later = c.in-Some.later.now in
    let done = shown c.loop-changes.dues.items in
    let (next, was) = c.loop-changes.invariant in
    let step : suc at ≡ at + 1 = omega arith in
    let first : drop at list ≡ item ∷ drop (at + 1) list =
    drop-cons list at item c.loop-changes-test.true ∙ ap (λ n. slice_index_or list at item ∷ drop n list) step ∙ ap (λ x. x ∷ drop (at + 1) list) (sym c.changes-item.is) in
    let behind : c.loop-changes.rest.now ≡ verdict ∷ later = search rules in
    let listed = c.in_ok-append_if.ensures ∙ ap (λ changes. done ++ at_shards shards (if finishes verdict then reverse changes else [])) c.as_slice.ensures in (
      next + 1,
      ap (λ ws. ws ++ at_shards shards (written (next + 1) (drop (at + 1) list) later)) listed
          ∙ first_listed shards next done item _ (drop (at + 1) list) (drop at list) verdict later c.loop-changes.rest.now first behind was,
    )

pub returns-in_default : goal.returns-in_default
returns-in_default c =
    let (next, was) = c.loop-changes.invariant in
    let left = drop c.loop-changes.changes-index c.args.list.now in
    let none = nil_from_length c.loop-changes.rest.now (search rules) in
    all_listed (shown c.loop-changes.dues.items) (at_shards c.args.shards.now (written next left c.loop-changes.rest.now)) _
    (ap (at_shards c.args.shards.now) (ap (written next left) none ∙ written_none next left)) was

pub returns : goal.returns
returns c =
    let (next, was) = c.loop-changes.invariant in
    let none = drop_all c.loop-changes.changes-index c.args.list.now (omega (arith, c.loop-changes-test.false)) in
    all_listed (shown c.loop-changes.dues.items) (at_shards c.args.shards.now (written next (drop c.loop-changes.changes-index c.args.list.now)
    c.loop-changes.rest.now)) _
    (ap (λ list. at_shards c.args.shards.now (written next list c.loop-changes.rest.now)) none) was
