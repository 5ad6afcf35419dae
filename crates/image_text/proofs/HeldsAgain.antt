-- The line of a carried request is read exactly.
use Rattle.std.proofs.Common.{◌≡◌, ℕ, pos, ◌+◌, ◌<◌, ◌≤◌, ◌^◌, List, [], ◌∷◌, ◌++◌, Option, Some, None, Bool, true, false, cond, refl, ap, sym, ◌∙◌, arith}
use Rattle.std.specs.Prelude.{◌==◌, not, codes, decimal, option_map, option_and_then, Result, Ok}
use Rattle.std.specs.List.{list_all}
use Rattle.std.specs.Char.{is_ascii_digit}
use Rattle.std.proofs.lemmas.Bool.{and_parts, and_from}
use Rattle.std.proofs.lemmas.List.{append_assoc}
use Rattle.std.proofs.lemmas.Int.{ints}
use Rattle.std.proofs.lemmas.Grind.{common_steps}
use Rattle.aria_base.specs.declared.calls.Call.{Call}
use Rattle.aria_base.specs.declared.calls.Request.{Request}
use Rattle.proc_lang.specs.Catalogs.{Plan, IsCatalog, takes}
use Rattle.script_text.specs.declared.refusals.RefusalKind.{RefusalKind}
use Rattle.script_text.specs.Cuts.{Lacks}
use Rattle.script_text.specs.Fits.{call_said}
use Rattle.script_text.specs.Numbers.{is_i64}
use Rattle.script_text.specs.Tokens.{arg_token, spaced}
use Rattle.script_text.specs.Written.{proc_name}
use Rattle.script_text.proofs.NumbersAgain.{number_again, are_digits}
use Rattle.image_text.specs.Exactly.{found}
use Rattle.image_text.specs.Helds.{line_of_held, with_call, with_q, natural, natural_of, with_parts, parts_of, held_said, exact_held, IsHeldOf}
use Rattle.image_text.proofs.CutsFound.{cut_again}
use Rattle.image_text.proofs.Exactness.{exactly_again, exactly_read, call_says, call_takes, call_lacks}
use Rattle.image_text.proofs.NoFeeds.{joined, decimal_lacks}

-- what stands behind the number
abbrev tail_of : Plan → Request → List ℕ
tail_of plan r = proc_name plan.procs r.call.proc ++ spaced arg_token r.call.args

digit_is : (b : ℕ) → is_ascii_digit b ≡ true → not (b == 32) ≡ true
digit_is b h = grind (arith, common_steps, h)

digits_lack : (ds : List ℕ) → list_all is_ascii_digit ds ≡ true → Lacks 32 ds
digits_lack [] h = refl
digits_lack (d ∷ ds) h =
    let parts = and_parts (is_ascii_digit d) (list_all is_ascii_digit ds) h in
    and_from _ _ (digit_is d parts.0) (digits_lack ds parts.1)

whole : (plan : Plan) (r : Request) → line_of_held plan r ≡ codes "held" ++ 32 ∷ (decimal r.q ++ 32 ∷ tail_of plan r)
whole plan r = simp append_assoc refl

parts_again : (plan : Plan) (r : Request) → r.q < 2 ^ 63 → parts_of (line_of_held plan r) ≡ Some (decimal r.q, tail_of plan r)
parts_again plan r few =
    ap parts_of (whole plan r) ∙ cut_again 32 (decimal r.q) (tail_of plan r) (digits_lack (decimal r.q) (are_digits r.q (omega arith)))

in_range : (n : ℕ) → n < 2 ^ 63 → is_i64 (pos n) ≡ true
in_range n h = grind (arith, common_steps, ints, h)

number_back : (n : ℕ) → n < 2 ^ 63 → natural_of (decimal n) ≡ Some n
number_back n h = ap (option_and_then natural) (number_again (pos n) (in_range n h))

said_again : (plan : Plan) (r : Request) → IsCatalog plan → IsHeldOf plan r → held_said plan (line_of_held plan r) ≡ Some r
said_again plan r is h =
    ap (option_and_then (with_parts plan)) (parts_again plan r h.number)
    ∙ ap (option_and_then (with_q plan (tail_of plan r))) (number_back r.q h.number)
    ∙ ap (λ (o : Result Call RefusalKind). option_map (with_call r.q) (found o)) (call_says plan r.call is h.call)

pub held_written : (plan : Plan) (r : Request) → IsCatalog plan → IsHeldOf plan r → exact_held plan (line_of_held plan r) ≡ Some r
held_written plan r is h = exactly_again (line_of_held plan) (line_of_held plan r) (held_said plan (line_of_held plan r)) r (said_again plan r is h) refl

pub held_lacks : (plan : Plan) (r : Request) → IsCatalog plan → IsHeldOf plan r → Lacks 10 (line_of_held plan r)
held_lacks plan r is h =
    let tail : Lacks 10 (tail_of plan r) = call_lacks plan r.call is h.call in
    ap (list_all (λ c. not (c == 10))) (whole plan r) ∙ joined (decimal r.q) (32 ∷ tail_of plan r) (decimal_lacks r.q) tail

-- what is said is taken by the catalogue
q_takes : (plan : Plan) (tail : List ℕ) (q : ℕ) (r : Request) → with_q plan tail q ≡ Some r → takes plan r.call ≡ true
q_takes plan tail q r e = by (found (call_said plan (codes "tx " ++ tail))) refl e
  where
    by : (o : Option Call) → found (call_said plan (codes "tx " ++ tail)) ≡ o → option_map (with_call q) o ≡ Some r → takes plan r.call ≡ true
    by None w k = cc
    by (Some call) w k =
        let same : with_call q call ≡ r = cc in
        ap (λ (s : Request). takes plan s.call) (sym same) ∙ call_takes plan (codes "tx " ++ tail) call w

said_takes : (plan : Plan) (r : Request) (parts : Option (List ℕ × List ℕ)) → option_and_then (with_parts plan) parts ≡ Some r → takes plan r.call ≡ true
said_takes plan r None e = cc
said_takes plan r (Some parts) e = by (natural_of parts.0) e
  where
    by : (o : Option ℕ) → option_and_then (with_q plan parts.1) o ≡ Some r → takes plan r.call ≡ true
    by None k = cc
    by (Some q) k = q_takes plan parts.1 q r k

pub held_read : (plan : Plan) (line : List ℕ) (r : Request) → exact_held plan line ≡ Some r → (line ≡ line_of_held plan r) × (takes plan r.call ≡ true)
held_read plan line r e =
    let k = exactly_read (line_of_held plan) line (held_said plan line) r e in
    (k.0, said_takes plan r (parts_of line) k.1)
