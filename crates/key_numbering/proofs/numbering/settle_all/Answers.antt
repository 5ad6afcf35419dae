use Rattle.std.proofs.Common.{rules, ◌≡◌, ◌≤◌, [], ◌∷◌, ap, sym, subst, ◌∙◌, map, All, arith}
use Rattle.std.specs.FinMap as fin
use Rattle.std.specs.Vec.Iter.{into_iter_items}
use Rattle.std.proofs.lemmas.List.Elements.{All-head, All-rest}
use Rattle.key_numbering.specs.Lookups.{settled_all, HasBothPlaces}
use Rattle.key_numbering.proofs.Settling.{longer_first}
use Rattle.key_numbering.proofs.numbering.settle_all.Goals as goal

pub loop-found-init : goal.loop-found-init
loop-found-init c =
    let items : into_iter_items c.into_iter-found-iterator.result ≡ c.args.all.items = search rules in (
      tt,
      tt,
      subst (All HasBothPlaces) (sym items) c.requires.places,
      λ i. settled_all (c.args.kept.now, (map (λ v. v.items) (c.in_ok-reads.ensures.items i), map (λ v. v.items) (c.in_ok-writes.ensures.items i)))
          (into_iter_items c.into_iter-found-iterator.result),
    )

pub settle_both-requires-clause-places : goal.settle_both-requires-clause-places
settle_both-requires-clause-places c =
    let steps : into_iter_items c.loop-found.found-iterator ≡ c.in-Some.found ∷ into_iter_items c.next.new.self = search rules in
    All-head HasBothPlaces c.in-Some.found (into_iter_items c.next.new.self) (subst (All HasBothPlaces) steps c.loop-found.invariant.2)

pub settle_both-requires-clause-count : goal.settle_both-requires-clause-count
settle_both-requires-clause-count c =
    let items : into_iter_items c.into_iter-found-iterator.result ≡ c.args.all.items = search rules in
    let steps : into_iter_items c.loop-found.found-iterator ≡ c.in-Some.found ∷ into_iter_items c.next.new.self = search rules in
    let longer = longer_first c.loop-found.kept (map (λ v. v.items) c.loop-found.reads.items, map (λ v. v.items) c.loop-found.writes.items) c.in-Some.found
    (into_iter_items c.next.new.self) (into_iter_items c.loop-found.found-iterator) steps in
    let same = ap (λ p. fin.len p.0) c.loop-found.invariant.3 in
    let whole = ap (λ l. fin.len (settled_all (c.args.kept.now, ([], [])) l).0) items in
    let most = c.requires.count in
    omega arith

pub loop-found-preserved : goal.loop-found-preserved
loop-found-preserved c =
    let kept = c.loop-found.invariant in
    let steps : into_iter_items c.loop-found.found-iterator ≡ c.in-Some.found ∷ into_iter_items c.next.new.self = search rules in (
      tt,
      tt,
      All-rest HasBothPlaces c.in-Some.found (into_iter_items c.next.new.self) (into_iter_items c.loop-found.found-iterator) steps kept.2,
      ap (λ s. settled_all s (into_iter_items c.next.new.self)) c.in_ok-settle_both.ensures
          ∙ sym (ap (settled_all (c.loop-found.kept, (map (λ v. v.items) c.loop-found.reads.items, map (λ v. v.items) c.loop-found.writes.items))) steps)
          ∙ kept.3,
    )
