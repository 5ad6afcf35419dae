use Rattle.std.proofs.Common.{rules, arith, ℕ, ap, sym, ◌∙◌, false}
use Rattle.aria_base.specs.Reserved.{number_under}
use Rattle.resv_words.specs.Seats.{Laid}
use Rattle.resv_words.proofs.Keeps.{marks_key}
use Rattle.resv_words.proofs.words.Words.mark_read.Goals as goal

pub fetch_min-requires : goal.fetch_min-requires
fetch_min-requires c = (
  search rules,
  search rules,
  marks_key _ _ _ _ _ c.args.tid c.args.key false _ _ (search rules) (search rules) (omega arith)
      (c.number_of-number.ensures ∙ ap (λ (tag : ℕ). number_under tag c.args.tid) (sym (c.self.invariant.same_tag ∙ ap (λ (w : Laid). w.tag) c.self.view_is))),
)
