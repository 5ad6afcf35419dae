-- What an answer prints of each request is how it ends in the serial run, or that it waits.
use Rattle.std.proofs.Common.{◌≡◌, ℕ, ◌+◌, ◌<◌, List, [], ◌∷◌, ◌++◌, map, length, take, drop, Bool, true, false, not, cond, Option, Some, None, Ok, refl, ap, sym, ◌∙◌, subst, arith, append_assoc}
use Rattle.std.specs.Prelude.{⊤, ◌==◌, ◌||◌, nat_eq, decimal, codes, is_some, IsSomeAnd, if◌then◌else◌}
use Rattle.std.specs.List.{AllByRecursion, filter, find, list_any, starts_with}
use Rattle.std.specs.Option.{option_or}
use Rattle.std.proofs.Math.Seq.{take-append_seam}
use Rattle.std.proofs.lemmas.Bool.{eq-eqb, eqb-true, ne_eqb}
use Rattle.std.proofs.lemmas.Slice.Eq.{bytes_eq-Decides}
use Rattle.aria_base.specs.Orders.{Cells, Database}
use Rattle.aria_base.specs.declared.keys.Key.{Key}
use Rattle.aria_base.specs.declared.calls.Request.{Request}
use Rattle.aria_base.specs.declared.schemas.Table.{Table}
use Rattle.answer_text.specs.Answers.{reply_text, wait_text}
use Rattle.batch_core.specs.Serial.{RiseWithin, is_wait}
use Rattle.batch_core.specs.declared.answers.Line.{Line}
use Rattle.batch_core.specs.declared.answers.Reply.{Reply}
use Rattle.batch_core.specs.declared.answers.Reply.TheVariants.{Ended, Waits}
use Rattle.batch_rules.specs.Serials.{serial_ends}
use Rattle.batch_rules.specs.Touches.{map_after}
use Rattle.batch_rules.specs.Trees.{Tree, end_of}
use Rattle.proc_lang.specs.declared.ends.End.{End}
use Rattle.proc_lang.specs.Meaning.{is_done}
use Rattle.serial_check.specs.Lines.{ended_line, wait_front}
use Rattle.serial_check.specs.Reports.{◌>>=◌, reply, replies}
use Rattle.serial_check.specs.Runs.{end_in}
use Rattle.serial_check.specs.Serial.{numbers}
use Rattle.report_laws.specs.Printed.{reply_line}
use Rattle.report_laws.proofs.OrderNamed.{each_weaker}
use Rattle.report_laws.proofs.Places.{behind, counted, nothing_on, passes_at, stands_at}

-- ---- the serial run

-- what the run tells of a number, where the order's requests are shown to end as they do; `named` tells whether one of them has it
abbrev pub Tells : (ℕ → Option Reply) → ℕ → Option End → Bool → Type 0
Tells shown q None named = named ≡ false
Tells shown q (Some end) named = (named ≡ true) × (shown q ≡ Some (Ended end))

module _ (tree : Request → Tree Key Cells End) where
  pub tells : (shown : ℕ → Option Reply) (db : Database) (rs : List Request)
      → map shown (numbers rs) ≡ map (λ end. Some (Ended end)) (serial_ends is_done tree db rs)
      → (q : ℕ) → Tells shown q (end_in tree db rs q) (list_any (λ n. n == q) (numbers rs))
  tells shown db [] e q = refl
  tells shown db (r ∷ rs) e q =
      let first : shown r.q ≡ Some (Ended (end_of (tree r) db)) = cc in
      let rest : map shown (numbers rs) ≡ map (λ end. Some (Ended end)) (serial_ends is_done tree (map_after is_done (tree r) db) rs) = cc in
      by first (r.q == q) refl (end_in tree (map_after is_done (tree r) db) rs q) (list_any (λ n. n == q) (numbers rs))
      (tells shown (map_after is_done (tree r) db) rs rest q)
    where
      by : shown r.q ≡ Some (Ended (end_of (tree r) db)) → (b : Bool) → (r.q == q) ≡ b → (o : Option End) (named : Bool) → Tells shown q o named
          → Tells shown q (option_or o (if b then Some (end_of (tree r) db) else None)) (b || named)
      by first true e None named h = (refl, subst (λ n. shown n ≡ Some (Ended (end_of (tree r) db))) (eqb-true r.q q e) first)
      by first false e None named h = h
      by first true e (Some end) named h = (refl, h.1)
      by first false e (Some end) named h = h

pub named_where : (shown : ℕ → Option Reply) (q : ℕ) (o : Option End) (named : Bool) → Tells shown q o named → is_some o ≡ named
named_where shown q None named h = sym h
named_where shown q (Some end) named h = sym h.0

pub same_filter : (p q : Request → Bool) → ((r : Request) → p r ≡ q r) → (rs : List Request) → filter p rs ≡ filter q rs
same_filter p q e [] = refl
same_filter p q e (r ∷ rs) = ap (λ b. cond b (r ∷ filter p rs) (filter p rs)) (e r) ∙ ap (λ l. cond (q r) (r ∷ l) l) (same_filter p q e rs)

-- ---- each request

-- where it ends in the run, that is shown, and else a wait
abbrev pub IsShown : Option End → Option Reply → Type 0
IsShown None shown = IsSomeAnd shown (λ reply. is_wait reply ≡ true)
IsShown (Some end) shown = shown ≡ Some (Ended end)

pub is_shown : (shown : ℕ → Option Reply) (q : ℕ) (o : Option End) (named : Bool) → Tells shown q o named
    → (not named ≡ true → IsSomeAnd (shown q) (λ reply. is_wait reply ≡ true)) → IsShown o (shown q)
is_shown shown q None named h w = w (ap not h)
is_shown shown q (Some end) named h w = h.1

pub from_filter : (p : Request → Bool) (P : Request → Type 0) (rs : List Request) → AllByRecursion P (filter p rs)
    → AllByRecursion (λ r. p r ≡ true → P r) rs
from_filter p P [] a = tt
from_filter p P (r ∷ rs) a = by (λ k. from_filter p P rs k) (p r) refl a
  where
    by : (AllByRecursion P (filter p rs) → AllByRecursion (λ r. p r ≡ true → P r) rs) → (b : Bool) → p r ≡ b
        → AllByRecursion P (cond b (r ∷ filter p rs) (filter p rs)) → AllByRecursion (λ r. p r ≡ true → P r) (r ∷ rs)
    by again true e a = ((λ h. a.0), again a.1)
    by again false e a = ((λ h. let clash : true ≡ false = sym h ∙ e in cc), again a)

-- ---- lines by their numbers

pub lines_rise : (ls : List Line) (rs : List Request) (low high : ℕ) → map (λ (line : Line). line.q) ls ≡ numbers rs
    → RiseWithin (λ (r : Request). r.q) low rs high → RiseWithin (λ (line : Line). line.q) low ls high
lines_rise [] [] low high e r = r
lines_rise [] (x ∷ rs) low high e r = cc
lines_rise (l ∷ ls) [] low high e r = cc
lines_rise (l ∷ ls) (x ∷ rs) low high e r =
    let same : l.q ≡ x.q = cc in
    let rest : map (λ (line : Line). line.q) ls ≡ numbers rs = cc in
    (subst (λ n. low < n) (sym same) r.0, subst (λ n. RiseWithin (λ (line : Line). line.q) n ls high) (sym same) (lines_rise ls rs x.q high rest r.1))

abbrev line_of : List Line → ℕ → Option Line
line_of ls q = find (λ (line : Line). line.q == q) ls

pub each_found : (low : ℕ) (ls : List Line) (high : ℕ) → RiseWithin (λ (line : Line). line.q) low ls high
    → AllByRecursion (λ (l : Line). (low < l.q) × (line_of ls l.q ≡ Some l)) ls
each_found low [] high r = tt
each_found low (l ∷ ls) high r = (
  (r.0, ap (λ b. cond b (Some l) (line_of ls l.q)) (eq-eqb l.q l.q refl)),
  each_weaker (λ (x : Line). (l.q < x.q) × (line_of ls x.q ≡ Some x)) (λ (x : Line). (low < x.q) × (line_of (l ∷ ls) x.q ≡ Some x))
      (λ x h. let own = r.0 in let above = h.0 in
      (omega (arith, own, above), ap (λ b. cond b (Some l) (line_of ls x.q)) (ne_eqb l.q x.q (λ e. omega (arith, above, e))) ∙ h.1))
      ls (each_found l.q ls high r.1),
)

-- ---- the lines of a list

abbrev Fits : Option End → Reply → Type 0
Fits None reply = is_wait reply ≡ true
Fits (Some end) reply = reply ≡ Ended end

abbrev pub AreTold : (ℕ → Option End) → List Request → List Line → Type 0
AreTold ends [] [] = ⊤
AreTold ends [] (l ∷ ls) = ⊥
AreTold ends (r ∷ rs) [] = ⊥
AreTold ends (r ∷ rs) (l ∷ ls) = (l.q ≡ r.q) × Fits (ends r.q) l.reply × AreTold ends rs ls

fits : (o : Option End) (reply : Reply) → IsShown o (Some reply) → Fits o reply
fits None reply h = h
fits (Some end) reply h = cc

pub told : (shown : ℕ → Option Reply) (ends : ℕ → Option End) (rs : List Request) (ls : List Line) → map (λ (line : Line). line.q) ls ≡ numbers rs
    → AllByRecursion (λ (l : Line). shown l.q ≡ Some l.reply) ls → AllByRecursion (λ r. IsShown (ends r.q) (shown r.q)) rs → AreTold ends rs ls
told shown ends [] [] e a b = tt
told shown ends [] (l ∷ ls) e a b = cc
told shown ends (r ∷ rs) [] e a b = cc
told shown ends (r ∷ rs) (l ∷ ls) e a b =
    let same : l.q ≡ r.q = cc in
    let rest : map (λ (line : Line). line.q) ls ≡ numbers rs = cc in
    let here : shown r.q ≡ Some l.reply = subst (λ n. shown n ≡ Some l.reply) same a.0 in
    (same, fits (ends r.q) l.reply (subst (IsShown (ends r.q)) here b.0), told shown ends rs ls rest a.1 b.1)

module _ (report : List (List ℕ)) (tables : List Table) where
  begins : (front more : List ℕ) → starts_with nat_eq (front ++ more) front ≡ true
  begins front more = (bytes_eq-Decides front (take (length front) (front ++ more))).1 (sym (take-append_seam front more))

  waits : (q : ℕ) (reply : Reply) → is_wait reply ≡ true → starts_with nat_eq (decimal q ++ reply_text tables reply) (wait_front q) ≡ true
  waits q (Ended end) h = cc
  waits q (Waits wait) h =
      let same : decimal q ++ reply_text tables (Waits wait) ≡ wait_front q ++ wait_text tables wait
      = sym (append_assoc (decimal q ++ codes " wait") (codes " ") (wait_text tables wait)
      ∙ append_assoc (decimal q) (codes " wait") (codes " " ++ wait_text tables wait)) in
      ap (λ line. starts_with nat_eq line (wait_front q)) same ∙ begins (wait_front q) (wait_text tables wait)

  reply_stands : (q : ℕ) (o : Option End) (l : Line) (at : ℕ) (more : List (List ℕ)) → l.q ≡ q → Fits o l.reply
      → drop at report ≡ reply_line tables l ∷ more → reply report q o at ≡ Ok (at + 1)
  reply_stands q None l at more same f h =
      passes_at report (λ line. starts_with nat_eq line (wait_front q)) _ at (reply_line tables l) more h
      (ap (λ n. starts_with nat_eq (decimal n ++ reply_text tables l.reply) (wait_front q)) same ∙ waits q l.reply f)
  reply_stands q (Some end) l at more same f h =
      let line : reply_line tables l ≡ ended_line q end
      = ap (λ n. decimal n ++ reply_text tables l.reply) same ∙ ap (λ r. decimal q ++ reply_text tables r) f in
      stands_at report (ended_line q end) at more (h ∙ ap (λ x. x ∷ more) line)

  pub replies_stand : (ends : ℕ → Option End) (rs : List Request) (ls : List Line) (more : List (List ℕ)) (at : ℕ) → AreTold ends rs ls
      → drop at report ≡ map (reply_line tables) ls ++ more → replies report ends rs at ≡ Ok (at + length rs)
  replies_stand ends [] [] more at t h = ap (λ n. Ok n) (nothing_on at)
  replies_stand ends [] (l ∷ ls) more at t h = absurd t
  replies_stand ends (r ∷ rs) [] more at t h = absurd t
  replies_stand ends (r ∷ rs) (l ∷ ls) more at t h =
      let rest = map (reply_line tables) ls ++ more in
      ap (λ o. o >>= replies report ends rs) (reply_stands r.q (ends r.q) l at rest t.0 t.1 h)
      ∙ replies_stand ends rs ls more (at + 1) t.2 (behind report at (reply_line tables l) rest h)
      ∙ ap (λ n. Ok n) (counted at (length rs))
