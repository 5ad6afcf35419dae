-- The bounds of a line stay from piece to piece.
use Rattle.std.proofs.Common.{◌≡◌, ◌∙◌, sym, ap, ℕ, ◌≤◌, List, length, arith}
use Rattle.aria_base.specs.declared.limits.TheConstants.{LONGEST_LINE}
use Rattle.script_text.specs.Lines.{Feed, scan}
use Rattle.run_commands.proofs.Lengths.{scan_within}

module _ (feed after : Feed) (bs : List ℕ) (same : (scan feed bs).feed ≡ after) (begun : length feed.begun ≤ feed.longest) where
  pub taken_longest : feed.longest ≤ LONGEST_LINE → after.longest ≤ LONGEST_LINE
  taken_longest most =
      let longest : after.longest ≡ feed.longest = ap (λ (f : Feed). f.longest) (sym same) ∙ (scan_within feed bs begun).longest_is in
      omega (arith, longest, most)

  pub taken_begun : length after.begun ≤ after.longest
  taken_begun =
      let within = scan_within feed bs begun in
      let longest : after.longest ≡ feed.longest = ap (λ (f : Feed). f.longest) (sym same) ∙ within.longest_is in
      let first : length after.begun ≡ length (scan feed bs).feed.begun = ap (λ (f : Feed). length f.begun) (sym same) in
      omega (arith, longest, first, within.begun)
