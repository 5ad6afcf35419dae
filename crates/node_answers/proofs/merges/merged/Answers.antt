use Rattle.std.proofs.Common.{◌≡◌, ◌/◌, [], ◌∙◌, map, sym, ap, subst, arith, length, Some, None, slice_get}
use Rattle.std.proofs.lemmas.List.{take_all}
use Rattle.std.proofs.Math.Nat.{mod-lt}
use Rattle.node_batch.specs.Entries.{entry_of}
use Rattle.node_batch.proofs.Kept.{mapped_at}
use Rattle.node_seats.proofs.Keeping.{stands}
use Rattle.node_answers.proofs.Founds.{found_at, none_at}
use Rattle.node_answers.proofs.Shares.{one_more, no_more}
use Rattle.node_answers.proofs.merges.merged.Goals as goal

pub index-own-requires : goal.index-own-requires
index-own-requires c =
    let seats = c.args.seats.now in
    let s = c.index-seats-place.result in
    let low = mod-lt c.loop-place.place c.requires.some in
    rw s.entries.ok.0 (c.requires.past _ s (stands seats _ s low c.index-seats-place.is))

pub loop-place-preserved : goal.loop-place-preserved
loop-place-preserved c = λ entries sh.
    let seats = c.args.seats.now in
    let n = c.loop-place.place in
    let s = c.index-seats-place.result in
    let low = mod-lt c.loop-place.place c.requires.some in
    let at = stands seats _ s low c.index-seats-place.is in
    let past = c.requires.past _ s at in
    let own = c.index-own.result.now in
    let is = mapped_at (λ batch. map entry_of batch.items) s.entries.items c.args.batch own [] past
    ∙ ap (λ b. map entry_of b.items) (sym c.index-own.ensures) in
    let hit = c.in-Some.ensures.lookup in
    let found = subst (λ l. Some c.in-Some.entry.now ≡ slice_get l (n / length seats)) c.deref.ensures.value
    (found_at c.deref.result.now (n / length seats) c.in-Some.entry.now hit.0 hit.1) in
    one_more seats c.args.batch entries sh c.requires.some n s at own.items is c.loop-place.all.items _ c.in-Some.entry
    (c.loop-place.invariant entries sh) found c.in_ok-push-in-Some.ensures.items

pub returns-in-None : goal.returns-in-None
returns-in-None c = λ entries sh.
    let seats = c.args.seats.now in
    let n = c.loop-place.place in
    let s = c.index-seats-place.result in
    let low = mod-lt c.loop-place.place c.requires.some in
    let at = stands seats _ s low c.index-seats-place.is in
    let past = c.requires.past _ s at in
    let own = c.index-own.result.now in
    let is = mapped_at (λ batch. map entry_of batch.items) s.entries.items c.args.batch own [] past
    ∙ ap (λ b. map entry_of b.items) (sym c.index-own.ensures) in
    let miss = c.in-None.ensures.lookup in
    let none = subst (λ l. None ≡ slice_get l (n / length seats)) c.deref.ensures.value
    (none_at c.deref.result.now (n / length seats) miss.0) in
    no_more seats c.args.batch entries sh c.requires.some n s at own.items is c.loop-place.all.items (c.loop-place.invariant entries sh) none

pub returns : goal.returns
returns c = λ entries sh. c.loop-place.invariant entries sh
    ∙ take_all c.loop-place.place entries (let few = sh.few in let low = c.loop-place-test.false in omega arith)
