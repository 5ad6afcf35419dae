use Rattle.std.proofs.Common.{◌≡◌, ◌≤◌, ◌+◌, not, length, arith, refl}
use Rattle.std.proofs.lemmas.Grind.{common_steps}
use Rattle.std.proofs.lemmas.List.Filters.{length-filter_both}
use Rattle.std.specs.Vec.{vec_capacity}
use Rattle.std.specs.List.{filter}
use Rattle.tbl_rows.specs.Pools.{is_moved}
use Rattle.tbl_rows.proofs.Edited.{from_entries-filter, apart-filter}
use Rattle.tbl_rows.proofs.more_rows.MoreRows.split.Goals as goal

pub invariant_of-result : goal.invariant_of-result
invariant_of-result c =
    let is : c.loop-entry.moved.items ≡ filter (λ e. is_moved c.args.level c.args.count e.0) c.self.inside.entries.items = grind (arith, common_steps) in
    rw is (apart-filter (is_moved c.args.level c.args.count) _ c.self.invariant)

pub invariant_of-self : goal.invariant_of-self
invariant_of-self c =
    let is : c.loop-entry.stay.items ≡ filter (λ e. not (is_moved c.args.level c.args.count e.0)) c.self.inside.entries.items = grind (arith, common_steps) in
    rw is (apart-filter (λ q. not (is_moved c.args.level c.args.count q)) _ c.self.invariant)

pub returns-clause-moved : goal.returns-clause-moved
returns-clause-moved c =
    let is : c.loop-entry.moved.items ≡ filter (λ e. is_moved c.args.level c.args.count e.0) c.self.inside.entries.items = grind (arith, common_steps) in
    rw (is, ← c.self.view_is) (from_entries-filter (is_moved c.args.level c.args.count) _)

pub returns-clause-stayed : goal.returns-clause-stayed
returns-clause-stayed c =
    let is : c.loop-entry.stay.items ≡ filter (λ e. not (is_moved c.args.level c.args.count e.0)) c.self.inside.entries.items = grind (arith, common_steps) in
    rw (is, ← c.self.view_is) (from_entries-filter (λ q. not (is_moved c.args.level c.args.count q)) _)

pub overflow_sub-len : goal.overflow_sub-len
overflow_sub-len c =
    let both : length (filter (λ e. is_moved c.args.level c.args.count e.0) c.self.inside.entries.items) + length
    (filter (λ e. not (is_moved c.args.level c.args.count e.0)) c.self.inside.entries.items) ≡ length c.self.inside.entries.items =
    length-filter_both (λ e. is_moved c.args.level c.args.count e.0) (λ e. not (is_moved c.args.level c.args.count e.0))
    (λ e. refl) c.self.inside.entries.items in
    let leaving : c.count_moved-leaving.result ≡ length (filter (λ e. is_moved c.args.level c.args.count e.0) c.self.inside.entries.items) =
    c.count_moved-leaving.ensures in
    omega (arith, both, leaving, c.len.ensures)

pub loop-entry-init : goal.loop-entry-init
loop-entry-init c =
    let both : length (filter (λ e. is_moved c.args.level c.args.count e.0) c.self.inside.entries.items) + length
    (filter (λ e. not (is_moved c.args.level c.args.count e.0)) c.self.inside.entries.items) ≡ length c.self.inside.entries.items =
    length-filter_both (λ e. is_moved c.args.level c.args.count e.0) (λ e. not (is_moved c.args.level c.args.count e.0))
    (λ e. refl) c.self.inside.entries.items in
    let leaving : c.count_moved-leaving.result ≡ length (filter (λ e. is_moved c.args.level c.args.count e.0) c.self.inside.entries.items) =
    c.count_moved-leaving.ensures in
    let stay : length (filter (λ e. not (is_moved c.args.level c.args.count e.0)) c.self.inside.entries.items) ≤ vec_capacity c.in_ok-stay.stay =
    omega (arith, both, leaving, c.len.ensures, c.in_ok-stay.ensures.exact) in
    let moved : length (filter (λ e. is_moved c.args.level c.args.count e.0) c.self.inside.entries.items) ≤ vec_capacity c.in_ok-moved.moved =
    omega (arith, leaving, c.in_ok-moved.ensures.exact) in
    (tt, tt, grind (arith, common_steps), grind (arith, common_steps), grind (arith, common_steps, moved), grind (arith, common_steps, stay))
