-- Lines that stand where they are wanted, by what is left of the report from there on.
use Rattle.std.proofs.Common.{◌≡◌, ℕ, zero, suc, ◌+◌, List, [], ◌∷◌, ◌++◌, length, drop, Bool, true, cond, Some, None, Ok, Err, refl, ap, sym, ◌∙◌, add-one, arith}
use Rattle.std.specs.List.{slice_get}
use Rattle.std.specs.Str.{bytes_eq}
use Rattle.std.proofs.lemmas.Slice.Eq.{bytes_eq-Decides}
use Rattle.serial_check.specs.Reports.{◌>>=◌, passes, pass, expect, expect_all, failing}

pub got : (report : List (List ℕ)) (at : ℕ) (x : List ℕ) (more : List (List ℕ)) → drop at report ≡ x ∷ more → slice_get report at ≡ Some x
got [] zero x more h = cc
got [] (suc at) x more h = cc
got (y ∷ ys) zero x more h = let same : y ≡ x = cc in ap (λ z. Some z) same
got (y ∷ ys) (suc at) x more h = got ys at x more h

pub none_got : (report : List (List ℕ)) (at : ℕ) → drop at report ≡ [] → slice_get report at ≡ None
none_got [] at h = refl
none_got (y ∷ ys) zero h = cc
none_got (y ∷ ys) (suc at) h = none_got ys at h

past : (report : List (List ℕ)) (at : ℕ) (x : List ℕ) (more : List (List ℕ)) → drop at report ≡ x ∷ more → drop (suc at) report ≡ more
past [] zero x more h = cc
past [] (suc at) x more h = cc
past (y ∷ ys) zero x more h = cc
past (y ∷ ys) (suc at) x more h = past ys at x more h

pub behind : (report : List (List ℕ)) (at : ℕ) (x : List ℕ) (more : List (List ℕ)) → drop at report ≡ x ∷ more → drop (at + 1) report ≡ more
behind report at x more h = ap (λ n. drop n report) (add-one at) ∙ past report at x more h

pub counted : (at n : ℕ) → at + 1 + n ≡ at + suc n
counted at n = omega arith

pub nothing_on : (at : ℕ) → at ≡ at + 0
nothing_on at = omega arith

pub behind_all : (report lines more : List (List ℕ)) (at : ℕ) → drop at report ≡ lines ++ more → drop (at + length lines) report ≡ more
behind_all report [] more at h = ap (λ n. drop n report) (sym (nothing_on at)) ∙ h
behind_all report (x ∷ lines) more at h =
    ap (λ n. drop n report) (sym (counted at (length lines))) ∙ behind_all report lines more (at + 1) (behind report at x (lines ++ more) h)

pub itself : (line : List ℕ) → bytes_eq line line ≡ true
itself line = (bytes_eq-Decides line line).1 refl

pub passes_at : (report : List (List ℕ)) (test : List ℕ → Bool) (wanted : List ℕ) (at : ℕ) (line : List ℕ) (more : List (List ℕ))
    → drop at report ≡ line ∷ more → test line ≡ true → pass report test wanted at ≡ Ok (at + 1)
passes_at report test wanted at line more h t =
    ap (λ o. cond (passes test o) (Ok (at + 1)) (Err (failing report at wanted))) (got report at line more h)
    ∙ ap (λ b. cond b (Ok (at + 1)) (Err (failing report at wanted))) t

pub stands_at : (report : List (List ℕ)) (wanted : List ℕ) (at : ℕ) (more : List (List ℕ)) → drop at report ≡ wanted ∷ more
    → expect report wanted at ≡ Ok (at + 1)
stands_at report wanted at more h = passes_at report (λ line. bytes_eq line wanted) wanted at wanted more h (itself wanted)

pub all_stand : (report lines more : List (List ℕ)) (at : ℕ) → drop at report ≡ lines ++ more → expect_all report lines at ≡ Ok (at + length lines)
all_stand report [] more at h = ap (λ n. Ok n) (nothing_on at)
all_stand report (w ∷ ws) more at h =
    ap (λ r. r >>= expect_all report ws) (stands_at report w at (ws ++ more) h)
    ∙ all_stand report ws more (at + 1) (behind report at w (ws ++ more) h)
    ∙ ap (λ n. Ok n) (counted at (length ws))
