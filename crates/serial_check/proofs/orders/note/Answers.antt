use Rattle.std.proofs.Common.{ℕ, List, ap, sym, ◌∙◌}
use Rattle.std.specs.Prelude.{option_copied}
use Rattle.std.specs.BTreeMap as tree
use Rattle.std.specs.Cmp.Lexicographic.{slice_cmp}
use Rattle.std.specs.Ordering.{is_eq, nat_cmp}
use Rattle.serial_check.proofs.OrderSteps.{put_there, copied, is_some_copied}
use Rattle.serial_check.proofs.orders.note.Goals as goal

pub returns : goal.returns
returns c = λ token.
    let at = λ (t : List ℕ). option_copied (tree.get (slice_cmp nat_cmp) c.args.all.now t) in
    put_there at c.args.request.now c.args.written token (option_copied (tree.get (slice_cmp nat_cmp) c.insert.new.self token))
    (is_some_copied (tree.get (slice_cmp nat_cmp) c.args.all.now c.args.written) ∙ sym c.if-contains_key.ensures)
    (ap option_copied (c.in_ok-insert.ensures.updates.0 token)
    ∙ copied (is_eq (slice_cmp nat_cmp c.args.written token)) c.args.request (tree.get (slice_cmp nat_cmp) c.args.all.now token))
