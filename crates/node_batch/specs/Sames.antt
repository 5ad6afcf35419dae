-- Whether two messages are one. No code asks: none is sent twice.
use Rattle.std.specs.Prelude.{ℕ, List, Option, Some, None, Bool, true, false, not, ◌&&◌, eqb, if◌then◌else◌}
use Rattle.std.specs.Ordering.{eq_by_cmp, int_cmp}
use Rattle.std.specs.Option.{option_eq}
use Rattle.std.specs.Cmp.Lexicographic.{pointwise}
use Rattle.aria_base.specs.Orders.{key_cmp, Cells}
use Rattle.aria_base.specs.declared.keys.Key.{Key}
use Rattle.aria_base.specs.declared.values.Value.{Value}
use Rattle.aria_base.specs.declared.values.Value.TheVariants as value
use Rattle.batch_rules.specs.declared.verdicts.Cause.{Cause}
use Rattle.batch_rules.specs.declared.verdicts.Cause.TheVariants as cause
use Rattle.batch_rules.specs.declared.verdicts.Verdict.{Verdict}
use Rattle.batch_rules.specs.declared.verdicts.Verdict.TheVariants.{Finish, Wait}
use Rattle.node_rules.specs.Messages.{Sets, Holders, Content, Ask, Told, Marks, Least, Fate, Message, told_in, marks_in, least_in}
use Rattle.node_rules.specs.Messages.{fate_in}

abbrev pub same_key : Key → Key → Bool
same_key k l = eq_by_cmp key_cmp k l

abbrev pub same_value : Value → Value → Bool
same_value (value.Int x) (value.Int y) = eq_by_cmp int_cmp x y
same_value (value.Int x) (value.Text t) = false
same_value (value.Text s) (value.Int y) = false
same_value (value.Text s) (value.Text t) = pointwise eqb s t

abbrev pub same_change : Key × Option Cells → Key × Option Cells → Bool
same_change w x = same_key w.0 x.0 && option_eq (pointwise same_value) w.1 x.1

abbrev pub same_sets : Sets Key Cells → Sets Key Cells → Bool
same_sets s t = pointwise same_key s.reads t.reads && pointwise same_change s.rows t.rows

abbrev pub same_holders : Holders → Holders → Bool
same_holders g h = option_eq eqb g.waw h.waw && (option_eq eqb g.raw h.raw && option_eq eqb g.war h.war)

abbrev pub same_cause : Cause → Cause → Bool
same_cause (cause.Waw a) (cause.Waw b) = eqb a b
same_cause (cause.Waw a) (cause.Raw b) = false
same_cause (cause.Waw a) (cause.Both b c) = false
same_cause (cause.Raw a) (cause.Waw b) = false
same_cause (cause.Raw a) (cause.Raw b) = eqb a b
same_cause (cause.Raw a) (cause.Both b c) = false
same_cause (cause.Both a d) (cause.Waw b) = false
same_cause (cause.Both a d) (cause.Raw b) = false
same_cause (cause.Both a d) (cause.Both b c) = eqb a b && eqb d c

abbrev pub same_verdict : Verdict → Verdict → Bool
same_verdict (Finish a) (Finish b) = if a then b else not b
same_verdict (Finish a) (Wait c) = false
same_verdict (Wait c) (Finish b) = false
same_verdict (Wait c) (Wait d) = same_cause c d

-- the key that is wanted
abbrev pub asks_in : Content Key Cells → Option Key
asks_in (Ask k) = Some k
asks_in (Told k row) = None
asks_in (Marks sets) = None
asks_in (Least holders) = None
asks_in (Fate verdict) = None

-- the same in each thing that a message may say
abbrev pub same_content : Content Key Cells → Content Key Cells → Bool
same_content x y = option_eq same_key (asks_in x) (asks_in y) && (option_eq same_change (told_in x) (told_in y)
    && (option_eq same_sets (marks_in x) (marks_in y) && (option_eq same_holders (least_in x) (least_in y)
    && option_eq same_verdict (fate_in x) (fate_in y))))

abbrev pub same_message : Message Key Cells → Message Key Cells → Bool
same_message m n = eqb m.batch n.batch && (eqb m.tid n.tid && (eqb m.sender n.sender && (eqb m.addressee n.addressee
    && same_content m.content n.content)))
