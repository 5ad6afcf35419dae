use Rattle.std.proofs.Common.{◌≡◌, ℕ, List, ◌++◌, append_assoc}
use Rattle.std.specs.Prelude.{codes, decimal}
use Rattle.std.proofs.lemmas.Result.{on_ok_weaker}
use Rattle.answer_text.proofs.notices.append_damaged.Goals as goal

-- a word, a number, and what stands behind them
in_turn : (out word number space last feed worded numbered ended : List ℕ) → worded ≡ out ++ word → numbered ≡ worded ++ number
    → ended ≡ numbered ++ (space ++ last ++ feed)
    → ended ≡ out ++ (word ++ number ++ space ++ last ++ feed)
in_turn out word number space last feed worded numbered ended w n e = simp (e, n, w, append_assoc)

pub returns : goal.returns
returns c =
    on_ok_weaker c.append_counted.result
    (λ ended. in_turn c.args.out.now.items (codes "refused store ") (decimal c.args.file) (codes " ") (decimal c.args.at) (codes "\n")
    c.extend_from_slice.new.self.items c.append_number.new.out.items c.append_counted.new.out.items
    c.in_ok-extend_from_slice.ensures.items c.in_ok-append_number.ensures ended) c.append_counted.ensures
