-- The test of messages decides whether they are equal; and what is fixed for nodes in code is a net.
use Rattle.std.proofs.Common.{◌≡◌, ℕ, ◌+◌, ◌<◌, List, Bool, true, false, Some, None, Option, refl, sym, ap, ◌∙◌, subst, arith}
use Rattle.std.specs.Prelude.{◌&&◌, ◌%◌, not, eqb}
use Rattle.std.specs.Ordering.{eq_by_cmp, int_cmp}
use Rattle.std.specs.Option.{option_eq}
use Rattle.std.specs.Cmp.{IsTotalOrder, eq_by_cmp_equiv}
use Rattle.std.specs.Cmp.Lexicographic.{pointwise, pointwise_decides}
use Rattle.std.specs.declared.cmp.Ordering.{Ordering}
use Rattle.std.specs.FinMap.{IsAntisymmetric, int_cmp-IsAntisymmetric}
use Rattle.std.proofs.lemmas.Bool.{and_parts, eqb-true, eq-eqb}
use Rattle.std.proofs.lemmas.Cmp.{int_cmp_total}
use Rattle.aria_base.specs.Orders.{key_cmp, Cells}
use Rattle.aria_base.proofs.Orders.{key_cmp_total, key_cmp-IsAntisymmetric}
use Rattle.aria_base.specs.declared.keys.Key.{Key}
use Rattle.aria_base.specs.declared.values.Value.{Value}
use Rattle.aria_base.specs.declared.values.Value.TheVariants as value
use Rattle.batch_rules.specs.declared.verdicts.Cause.{Cause}
use Rattle.batch_rules.specs.declared.verdicts.Cause.TheVariants as cause
use Rattle.batch_rules.specs.declared.verdicts.Rule.{Rule}
use Rattle.batch_rules.specs.declared.verdicts.Verdict.{Verdict}
use Rattle.batch_rules.specs.declared.verdicts.Verdict.TheVariants.{Finish, Wait}
use Rattle.batch_rules.proofs.Maps.{same_key as keys_one}
use Rattle.proc_lang.specs.Catalogs.{Plan}
use Rattle.tbl_rows.specs.Shards.{home}
use Rattle.node_rules.specs.Messages.{Sets, Holders, Content, Ask, Told, Marks, Least, Fate, told_in, marks_in, least_in, fate_in}
use Rattle.node_rules.specs.Nets.{IsNet}
use Rattle.node_batch.specs.Letters.{net_of}
use Rattle.node_batch.specs.Sames.{same_key, same_value, same_change, same_sets, same_holders, same_cause, same_verdict, asks_in, same_content}
use Rattle.node_batch.specs.Sames.{same_message}

-- where the test holds the two are equal, and where they are equal the test holds
abbrev DecidesAll : {X : Type 0} → (X → X → Bool) → Type 0
DecidesAll {X = X} E = (x y : X) → (E x y ≡ true → x ≡ y) × (x ≡ y → E x y ≡ true)

-- it is enough that the test holds of a value and itself
by_itself : {X : Type 0} (E : X → X → Bool) → ((x y : X) → E x y ≡ true → x ≡ y) → ((x : X) → E x x ≡ true) → DecidesAll E
by_itself E one own x y = (one x y, λ e. subst (λ z. E x z ≡ true) e (own x))

by_order : {X : Type 0} (R : X → X → Ordering) → IsTotalOrder R → IsAntisymmetric R → DecidesAll (eq_by_cmp R)
by_order R total anti = by_itself (eq_by_cmp R) (keys_one anti) (eq_by_cmp_equiv total).refl

numbers : DecidesAll eqb
numbers x y = (eqb-true x y, eq-eqb x y)

both : {a b : Bool} → a ≡ true → b ≡ true → (a && b) ≡ true
both {b = b} p q = ap (λ a. a && b) p ∙ q

module _ {X : Type 0} (E : X → X → Bool) (d : DecidesAll E) where
  options : DecidesAll (option_eq E)
  options None None = (λ e. refl, λ e. refl)
  options None (Some y) = (λ e. cc, λ e. cc)
  options (Some x) None = (λ e. cc, λ e. cc)
  options (Some x) (Some y) = (λ e. ap Some ((d x y).0 e), λ e. (d x y).1 (let same : x ≡ y = cc in same))

keys : DecidesAll same_key
keys = by_order key_cmp key_cmp_total key_cmp-IsAntisymmetric

values : DecidesAll same_value
values (value.Int x) (value.Int y) =
    let d = by_order int_cmp int_cmp_total int_cmp-IsAntisymmetric x y in
    (λ e. ap value.Int (d.0 e), λ e. d.1 (let same : x ≡ y = cc in same))
values (value.Int x) (value.Text t) = (λ e. cc, λ e. cc)
values (value.Text s) (value.Int y) = (λ e. cc, λ e. cc)
values (value.Text s) (value.Text t) =
    let d = pointwise_decides numbers s t in
    (λ e. ap value.Text (d.0 e), λ e. d.1 (let same : s ≡ t = cc in same))

rows : DecidesAll (option_eq (pointwise same_value))
rows = options (pointwise same_value) (pointwise_decides values)

changes : DecidesAll same_change
changes w x = (
  λ e. let p = and_parts _ _ e in λ i. ((keys w.0 x.0).0 p.0 i, (rows w.1 x.1).0 p.1 i),
  λ e. both ((keys w.0 x.0).1 (λ i. (e i).0)) ((rows w.1 x.1).1 (λ i. (e i).1)),
)

sets : DecidesAll same_sets
sets s t = (
  λ e.
      let p = and_parts _ _ e in
      λ i. record { reads = (pointwise_decides keys s.reads t.reads).0 p.0 i; rows = (pointwise_decides changes s.rows t.rows).0 p.1 i },
  λ e. both ((pointwise_decides keys s.reads t.reads).1 (λ i. (e i).reads)) ((pointwise_decides changes s.rows t.rows).1 (λ i. (e i).rows)),
)

holders : DecidesAll same_holders
holders g h =
    let n = options eqb numbers in (
      λ e.
          let p = and_parts _ _ e in
          let q = and_parts _ _ p.1 in
          λ i. record { waw = (n g.waw h.waw).0 p.0 i; raw = (n g.raw h.raw).0 q.0 i; war = (n g.war h.war).0 q.1 i },
      λ e. both ((n g.waw h.waw).1 (λ i. (e i).waw)) (both ((n g.raw h.raw).1 (λ i. (e i).raw)) ((n g.war h.war).1 (λ i. (e i).war))),
    )

causes : DecidesAll same_cause
causes (cause.Waw a) (cause.Waw b) = (λ e. ap cause.Waw (eqb-true a b e), λ e. eq-eqb a b (let same : a ≡ b = cc in same))
causes (cause.Waw a) (cause.Raw b) = (λ e. cc, λ e. cc)
causes (cause.Waw a) (cause.Both b c) = (λ e. cc, λ e. cc)
causes (cause.Raw a) (cause.Waw b) = (λ e. cc, λ e. cc)
causes (cause.Raw a) (cause.Raw b) = (λ e. ap cause.Raw (eqb-true a b e), λ e. eq-eqb a b (let same : a ≡ b = cc in same))
causes (cause.Raw a) (cause.Both b c) = (λ e. cc, λ e. cc)
causes (cause.Both a d) (cause.Waw b) = (λ e. cc, λ e. cc)
causes (cause.Both a d) (cause.Raw b) = (λ e. cc, λ e. cc)
causes (cause.Both a d) (cause.Both b c) = (
  λ e. let p = and_parts _ _ e in λ i. cause.Both (eqb-true a b p.0 i) (eqb-true d c p.1 i),
  λ e. both (eq-eqb a b (let same : a ≡ b = cc in same)) (eq-eqb d c (let same : d ≡ c = cc in same)),
)

verdicts : DecidesAll same_verdict
verdicts (Finish true) (Finish true) = (λ e. refl, λ e. refl)
verdicts (Finish true) (Finish false) = (λ e. cc, λ e. cc)
verdicts (Finish false) (Finish true) = (λ e. cc, λ e. cc)
verdicts (Finish false) (Finish false) = (λ e. refl, λ e. refl)
verdicts (Finish a) (Wait c) = (λ e. cc, λ e. cc)
verdicts (Wait c) (Finish b) = (λ e. cc, λ e. cc)
verdicts (Wait c) (Wait d) = (λ e. ap Wait ((causes c d).0 e), λ e. (causes c d).1 (let same : c ≡ d = cc in same))

-- ---- contents, by all that they may say

rebuilt : Option Key → Option (Key × Option Cells) → Option (Sets Key Cells) → Option Holders → Option Verdict → Content Key Cells
rebuilt (Some k) told marks least fate = Ask k
rebuilt None (Some w) marks least fate = Told w.0 w.1
rebuilt None None (Some s) least fate = Marks s
rebuilt None None None (Some h) fate = Least h
rebuilt None None None None (Some v) = Fate v
rebuilt None None None None None = Fate (Finish false)

whole : (x : Content Key Cells) → rebuilt (asks_in x) (told_in x) (marks_in x) (least_in x) (fate_in x) ≡ x
unfolding rebuilt
whole (Ask k) = refl
whole (Told k row) = refl
whole (Marks sets) = refl
whole (Least holders) = refl
whole (Fate verdict) = refl

contents : DecidesAll same_content
contents x y =
    let a = options same_key keys (asks_in x) (asks_in y) in
    let t = options same_change changes (told_in x) (told_in y) in
    let m = options same_sets sets (marks_in x) (marks_in y) in
    let l = options same_holders holders (least_in x) (least_in y) in
    let f = options same_verdict verdicts (fate_in x) (fate_in y) in (
      λ e.
          let p = and_parts _ _ e in
          let q = and_parts _ _ p.1 in
          let r = and_parts _ _ q.1 in
          let s = and_parts _ _ r.1 in
          sym (whole x) ∙ (λ i. rebuilt (a.0 p.0 i) (t.0 q.0 i) (m.0 r.0 i) (l.0 s.0 i) (f.0 s.1 i)) ∙ whole y,
      λ e. both (a.1 (ap asks_in e)) (both (t.1 (ap told_in e)) (both (m.1 (ap marks_in e)) (both (l.1 (ap least_in e)) (f.1 (ap fate_in e))))),
    )

pub messages : DecidesAll same_message
messages m n = (
  λ e.
      let p = and_parts _ _ e in
      let q = and_parts _ _ p.1 in
      let r = and_parts _ _ q.1 in
      let s = and_parts _ _ r.1 in
      λ i. record {
        batch = eqb-true m.batch n.batch p.0 i;
        tid = eqb-true m.tid n.tid q.0 i;
        sender = eqb-true m.sender n.sender r.0 i;
        addressee = eqb-true m.addressee n.addressee s.0 i;
        content = (contents m.content n.content).0 s.1 i;
      },
  λ e. both (eq-eqb m.batch n.batch (λ i. (e i).batch)) (both (eq-eqb m.tid n.tid (λ i. (e i).tid))
      (both (eq-eqb m.sender n.sender (λ i. (e i).sender)) (both (eq-eqb m.addressee n.addressee (λ i. (e i).addressee))
      ((contents m.content n.content).1 (λ i. (e i).content))))),
)

-- ---- nets

pub is_net : (plan : Plan) (rule : Rule) (nodes : ℕ) → 0 < nodes → IsNet (net_of plan rule nodes same_message)
is_net plan rule nodes some = record {
  total = key_cmp_total;
  antisymmetric = key_cmp-IsAntisymmetric;
  some_node = some;
  home = λ k. below (home k) nodes some;
  same = messages;
}
  where
    below : (a n : ℕ) → 0 < n → a % n < n
    below a n lt = omega arith
