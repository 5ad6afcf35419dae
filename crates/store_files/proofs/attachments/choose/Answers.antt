use Rattle.std.proofs.Common.{rules, ◌≡◌, ◌≢◌, ◌-◌, ℕ, length, Option, sym, ◌∙◌, subst}
use Rattle.std.specs.Prelude.{IfSome}
use Rattle.disk_model.specs.Files.{File}
use Rattle.disk_model.specs.Histories.{current}
use Rattle.disk_model.proofs.Spans.{still_call, still_then, still_now}
use Rattle.store_files.proofs.Attaching.{picks, picks_none, chooses, empty_other}
use Rattle.store_files.proofs.attachments.choose.Goals as goal

pub returns-in_default-clause-refused : goal.returns-in_default-clause-refused
returns-in_default-clause-refused g c =
    picks_none (g.D.Disk.history c.args.disk.now) (g.D.Disk.history c.heads.new.disk) c.in_ok-first.first c.in_ok-first.second c.requires
    c.heads.ensures.still c.in_ok-first.ensures.heads (sym c.pick.ensures ∙ c.in_default.is)

pub returns-then-branch-eq0-clause-still : goal.returns-then-branch-eq0-clause-still
returns-then-branch-eq0-clause-still g c = still_then _ _ _ c.heads.ensures.still (still_call _ _ _ c.len.ensures.acts c.len.ensures.same)

pub returns-then-branch-eq0-clause-refused : goal.returns-then-branch-eq0-clause-refused
returns-then-branch-eq0-clause-refused g c =
    let a = g.D.Disk.history c.args.disk.now in
    let other : ℕ = 1 - c.in-Some.slot in
    let now = still_now a (g.D.Disk.history c.heads.new.disk) c.heads.ensures.still other in
    let size = subst (λ (t : Option File). IfSome t (λ f. c.in_ok-len.field-0 ≡ length f.seen)) now c.in_ok-len.ensures.length in
    let none : c.in_ok-len.field-0 ≡ 0 = search rules in
    empty_other a (g.D.Disk.history c.len.new.self) c.in-Some.slot c.in-Some.head c.requires (returns-then-branch-eq0-clause-still g c)
    (picks a c.in_ok-first.first c.in_ok-first.second c.in-Some.slot c.in-Some.head c.in_ok-first.ensures.heads (sym c.pick.ensures ∙ c.in-Some.is))
    (subst (λ (n : ℕ). IfSome (current a other) (λ f. n ≡ length f.seen)) none size)

pub returns-clause-still : goal.returns-clause-still
returns-clause-still g c = still_then _ _ _ c.heads.ensures.still (still_call _ _ _ c.len.ensures.acts c.len.ensures.same)

pub returns-clause-chosen : goal.returns-clause-chosen
returns-clause-chosen g c =
    let a = g.D.Disk.history c.args.disk.now in
    let other : ℕ = 1 - c.in-Some.slot in
    let now = still_now a (g.D.Disk.history c.heads.new.disk) c.heads.ensures.still other in
    let size = subst (λ (t : Option File). IfSome t (λ f. c.in_ok-len.field-0 ≡ length f.seen)) now c.in_ok-len.ensures.length in
    let some : c.in_ok-len.field-0 ≢ 0 = search rules in
    chooses a c.in-Some.slot c.in-Some.head c.in_ok-len.field-0 c.requires
    (picks a c.in_ok-first.first c.in_ok-first.second c.in-Some.slot c.in-Some.head c.in_ok-first.ensures.heads (sym c.pick.ensures ∙ c.in-Some.is))
    size some
