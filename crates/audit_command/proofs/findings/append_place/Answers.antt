use Rattle.std.proofs.Common.{◌≡◌, ℕ, List, ◌++◌, append_assoc, ◌∙◌}
use Rattle.std.proofs.Math.Facts.{to_z-of_z}
use Rattle.std.specs.Prelude.{codes, decimal}
use Rattle.audit_command.specs.Findings.{district_text}
use Rattle.audit_command.proofs.findings.append_place.Goals as goal

-- a word, a number, and what stands behind them
in_turn : (out word number space last worded numbered spaced ended : List ℕ) → worded ≡ out ++ word → numbered ≡ worded ++ number
    → spaced ≡ numbered ++ space → ended ≡ spaced ++ last → ended ≡ out ++ (word ++ number ++ space ++ last)
in_turn out word number space last worded numbered spaced ended w n s e = simp (e, s, n, w, append_assoc)

pub returns : goal.returns
returns c =
    in_turn c.args.out.now.items (codes "audit fails ") (decimal c.args.condition) (codes " ") (district_text c.args.w c.args.d)
    c.extend_from_slice.new.self.items c.append_number.new.out.items c.push.new.self.items c.append_district.new.out.items
    c.in_ok-extend_from_slice.ensures.items c.in_ok-append_number.ensures c.in_ok-push.ensures.items
    (c.in_ok-append_district.ensures ∙ (λ i. c.push.new.self.items ++ district_text (to_z-of_z c.ranges.w i) (to_z-of_z c.ranges.d i)))
