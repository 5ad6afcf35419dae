-- Lines that stand at places, as parts of the report from there on.
use Rattle.std.proofs.Common.{◌≡◌, ℕ, zero, suc, ◌+◌, List, [], ◌∷◌, ◌++◌, length, take, drop, Bool, true, false, cond, Option, Some, None, Result, Ok, Err, refl, ap, sym, ◌∙◌, add-one, arith}
use Rattle.std.specs.Prelude.{nat_eq}
use Rattle.std.specs.List.{slice_get, starts_with}
use Rattle.std.specs.Str.{bytes_eq}
use Rattle.std.proofs.lemmas.List.{take-append-drop}
use Rattle.std.proofs.lemmas.Slice.Eq.{bytes_eq-Decides}
use Rattle.aria_base.specs.declared.calls.Request.{Request}
use Rattle.proc_lang.specs.declared.ends.End.{End}
use Rattle.serial_check.specs.Lines.{ended_line, wait_line, wait_front}
use Rattle.serial_check.specs.Reports.{◌>>=◌, passes, pass, expect, expect_all, failing, reply, replies}
use Rattle.serial_check.specs.Serial.{IsReply, AreReplies}
use Rattle.serial_check.specs.declared.findings.Flaw.{Flaw}

pub get_drop : (xs : List (List ℕ)) (at : ℕ) (x : List ℕ) → slice_get xs at ≡ Some x → drop at xs ≡ x ∷ drop (suc at) xs
get_drop [] at x h = cc
get_drop (y ∷ ys) zero x h = let same : y ≡ x = cc in ap (λ z. z ∷ ys) same
get_drop (y ∷ ys) (suc at) x h = get_drop ys at x h

-- a line that passes stands at the front of what is left
pub record Passes (report : List (List ℕ)) (test : List ℕ → Bool) (at next : ℕ) : Type 0 where
  pub line : List ℕ
  pub left : drop at report ≡ line ∷ drop next report
  pub passed : test line ≡ true
  pub behind : next ≡ at + 1

passed_line : (report : List (List ℕ)) (test : List ℕ → Bool) (at next : ℕ) (found : Flaw) (line : List ℕ) → slice_get report at ≡ Some line
    → (b : Bool) → test line ≡ b → cond b (Ok (at + 1)) (Err found) ≡ Ok next → Passes report test at next
passed_line report test at next found line g false e h = cc
passed_line report test at next found line g true e h =
    let same : at + 1 ≡ next = cc in
    record { line = line; left = get_drop report at line g ∙ ap (λ n. line ∷ drop n report) (sym (add-one at) ∙ same); passed = e; behind = sym same }

passed_by : (report : List (List ℕ)) (test : List ℕ → Bool) (at next : ℕ) (found : Flaw) (o : Option (List ℕ)) → slice_get report at ≡ o
    → cond (passes test o) (Ok (at + 1)) (Err found) ≡ Ok next → Passes report test at next
passed_by report test at next found None g h = cc
passed_by report test at next found (Some line) g h = passed_line report test at next found line g (test line) refl h

pub passed : (report : List (List ℕ)) (test : List ℕ → Bool) (wanted : List ℕ) (at next : ℕ) → pass report test wanted at ≡ Ok next → Passes report test at next
passed report test wanted at next h = passed_by report test at next (failing report at wanted) (slice_get report at) refl h

pub stood : (report : List (List ℕ)) (wanted : List ℕ) (at next : ℕ) → expect report wanted at ≡ Ok next → drop at report ≡ wanted ∷ drop next report
stood report wanted at next h =
    let p = passed report (λ line. bytes_eq line wanted) wanted at next h in
    p.left ∙ ap (λ line. line ∷ drop next report) ((bytes_eq-Decides p.line wanted).0 p.passed)

-- what comes first went well, where all did
pub record Both {A B : Type 0} (r : Result A Flaw) (go : A → Result B Flaw) (y : B) : Type 0 where
  pub value : A
  pub first : r ≡ Ok value
  pub second : go value ≡ Ok y

pub both : {A B : Type 0} (r : Result A Flaw) (go : A → Result B Flaw) (y : B) → r >>= go ≡ Ok y → Both r go y
both (Ok x) go y h = record { value = x; first = refl; second = h }
both (Err f) go y h = cc

pub all_stood : (report wanted : List (List ℕ)) (at next : ℕ) → expect_all report wanted at ≡ Ok next → drop at report ≡ wanted ++ drop next report
all_stood report [] at next h = let same : at ≡ next = cc in ap (λ n. drop n report) same
all_stood report (w ∷ ws) at next h =
    let b = both (expect report w at) (expect_all report ws) next h in
    stood report w at b.value b.first ∙ ap (λ more. w ∷ more) (all_stood report ws b.value next b.second)

nothing_on : (at next : ℕ) → at ≡ next → next ≡ at + 0
nothing_on at next e = omega arith

counted_on : (at first next n : ℕ) → first ≡ at + 1 → next ≡ first + n → next ≡ at + suc n
counted_on at first next n e f = omega arith

-- ---- the lines of requests

pub record Replied (report : List (List ℕ)) (q : ℕ) (end : Option End) (at next : ℕ) : Type 0 where
  pub line : List ℕ
  pub left : drop at report ≡ line ∷ drop next report
  pub is : IsReply q end line
  pub behind : next ≡ at + 1

replied : (report : List (List ℕ)) (q : ℕ) (end : Option End) (at next : ℕ) → reply report q end at ≡ Ok next → Replied report q end at next
replied report q (Some end) at next h = record {
  line = ended_line q end;
  left = stood report (ended_line q end) at next h;
  is = refl;
  behind = (passed report (λ line. bytes_eq line (ended_line q end)) (ended_line q end) at next h).behind;
}
replied report q None at next h =
    let p = passed report (λ line. starts_with nat_eq line (wait_front q)) (wait_line q) at next h in
    let front : wait_front q ≡ take (length (wait_front q)) p.line = (bytes_eq-Decides (wait_front q) (take (length (wait_front q)) p.line)).0 p.passed in
    record {
      line = p.line;
      left = p.left;
      is = (
        drop (length (wait_front q)) p.line,
        sym (take-append-drop (length (wait_front q)) p.line) ∙ ap (λ f. f ++ drop (length (wait_front q)) p.line) (sym front),
      );
      behind = p.behind;
    }

pub record AllReplied (report : List (List ℕ)) (ends : ℕ → Option End) (list : List Request) (at next : ℕ) : Type 0 where
  pub lines : List (List ℕ)
  pub left : drop at report ≡ lines ++ drop next report
  pub are : AreReplies ends list lines
  pub behind : next ≡ at + length list

pub all_replied : (report : List (List ℕ)) (ends : ℕ → Option End) (list : List Request) (at next : ℕ) → replies report ends list at ≡ Ok next
    → AllReplied report ends list at next
all_replied report ends [] at next h =
    let same : at ≡ next = cc in
    record { lines = []; left = ap (λ n. drop n report) same; are = refl; behind = nothing_on at next same }
all_replied report ends (r ∷ rs) at next h =
    let b = both (reply report r.q (ends r.q) at) (replies report ends rs) next h in
    let here = replied report r.q (ends r.q) at b.value b.first in
    let more = all_replied report ends rs b.value next b.second in
    let first : b.value ≡ at + 1 = here.behind in
    let last : next ≡ b.value + length rs = more.behind in
    record {
      lines = here.line ∷ more.lines;
      left = here.left ∙ ap (λ ls. here.line ∷ ls) more.left;
      are = (here.is, more.are);
      behind = counted_on at b.value next (length rs) first last;
    }
