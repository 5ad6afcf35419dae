-- A text is taken exactly where it is the text of items that the automaton takes.
use Rattle.std.proofs.Common.{◌≡◌, ℕ, zero, suc, ◌+◌, ◌<◌, List, [], ◌∷◌, ◌++◌, length, map, Option, Some, None, Bool, true, false, cond, refl, ap, subst, sym, ◌∙◌, arith}
use Rattle.std.specs.Prelude.{All, option_and_then, ◌==◌, not}
use Rattle.std.specs.List.{list_all}
use Rattle.std.proofs.lemmas.Bool.{and_parts, eqb-true, ne_eqb}
use Rattle.std.proofs.lemmas.List.{append_assoc, append-nil}
use Rattle.std.proofs.lemmas.List.Elements.{All-head, All-tail, All-nil}
use Rattle.std.proofs.lemmas.Grind.{common_steps}
use Rattle.script_text.specs.Cuts.{Lacks}
use Rattle.image_text.specs.Lines.{lines_text, written, taken_from, lines_taken, taking, pushes}

pub is_false : (b : Bool) → not b ≡ true → b ≡ false
is_false true e = cc
is_false false e = refl

pub written_is : {X : Type 0} (write : X → List ℕ) (xs : List X) → written write xs ≡ lines_text (map write xs)
written_is write [] = refl
written_is write (x ∷ xs) = ap (λ (l : List ℕ). (write x ++ 10 ∷ []) ++ l) (written_is write xs)

module _ {S : Type 0} (take : S → List ℕ → Option S) where
  -- a byte that ends no line
  step : (begun : List ℕ) (s : S) (b : ℕ) (bs : List ℕ) → not (b == 10) ≡ true → taken_from take begun s (b ∷ bs) ≡ taken_from take (begun ++ b ∷ []) s bs
  step begun s b bs h = let e = is_false (b == 10) h in rw e refl

  begun_taken : (begun line : List ℕ) (s : S) (rest : List ℕ) → Lacks 10 line
      → taken_from take begun s (line ++ 10 ∷ rest) ≡ option_and_then (λ t. lines_taken take t rest) (take s (begun ++ line))
  begun_taken begun [] s rest h = ap (λ (l : List ℕ). option_and_then (λ t. lines_taken take t rest) (take s l)) (sym (append-nil begun))
  begun_taken begun (b ∷ line) s rest h =
      let parts = and_parts (not (b == 10)) (list_all (λ c. not (c == 10)) line) h in
      step begun s b (line ++ 10 ∷ rest) parts.0 ∙ begun_taken (begun ++ b ∷ []) line s rest parts.1
      ∙ ap (λ (l : List ℕ). option_and_then (λ t. lines_taken take t rest) (take s l)) (append_assoc begun (b ∷ []) line)

  pub line_taken : (line : List ℕ) (s : S) (rest : List ℕ) → Lacks 10 line
      → lines_taken take s (line ++ 10 ∷ rest) ≡ option_and_then (λ t. lines_taken take t rest) (take s line)
  line_taken line s rest h = begun_taken [] line s rest h

  pub unended : (begun bytes : List ℕ) (s : S) → Lacks 10 bytes → 0 < length begun + length bytes → taken_from take begun s bytes ≡ None
  unended [] [] s h some = absurd (omega arith)
  unended (c ∷ cs) [] s h some = let e = ne_eqb (length (c ∷ cs)) 0 (omega arith) in rw e refl
  unended begun (b ∷ bs) s h some =
      let parts = and_parts (not (b == 10)) (list_all (λ c. not (c == 10)) bs) h in
      step begun s b bs parts.0 ∙ unended (begun ++ b ∷ []) bs s parts.1 (grind (arith, common_steps))

  pub none_left : (bytes : List ℕ) (s : S) → length bytes ≡ 0 → lines_taken take s bytes ≡ Some s
  none_left [] s e = refl
  none_left (b ∷ bytes) s e = absurd (omega arith)

module _ {X S : Type 0} (write : X → List ℕ) (read : List ℕ → Option X) (push : S → X → Option S) where
  module _ (Is : X → Type 0) (again : (x : X) → Is x → read (write x) ≡ Some x) (one : (x : X) → Is x → Lacks 10 (write x)) where
    -- items that are written, and that the automaton takes, are taken from their text
    pub items_again : (xs : List X) (s end : S) → All Is xs → pushes read push s xs ≡ Some end
        → lines_taken (taking read push) s (lines_text (map write xs)) ≡ Some end
    items_again [] s end all e = e
    items_again (x ∷ xs) s end all e =
        ap (lines_taken (taking read push) s) (append_assoc (write x) (10 ∷ []) (lines_text (map write xs)))
        ∙ line_taken (taking read push) (write x) s (lines_text (map write xs)) (one x (All-head Is x xs all))
        ∙ ap (λ (o : Option X). option_and_then (λ t. lines_taken (taking read push) t (lines_text (map write xs))) (option_and_then (push s) o))
        (again x (All-head Is x xs all))
        ∙ by (λ t k. items_again xs t end (All-tail Is x xs all) k) (push s x) e
      where
        by : ((t : S) → pushes read push t xs ≡ Some end → lines_taken (taking read push) t (lines_text (map write xs)) ≡ Some end) → (o : Option S)
            → option_and_then (λ t. pushes read push t xs) o ≡ Some end
            → option_and_then (λ t. lines_taken (taking read push) t (lines_text (map write xs))) o ≡ Some end
        by rest None k = cc
        by rest (Some t) k = rest t k

  module _ (Is : X → Type 0) (exact : (line : List ℕ) (x : X) → read line ≡ Some x → (line ≡ write x) × Is x) where
    pub record IsText (bytes : List ℕ) (s end : S) : Type 0 where
      pub items : List X
      pub text : bytes ≡ lines_text (map write items)
      pub each : All Is items
      pub pushed : pushes read push s items ≡ Some end

    none : (bytes : List ℕ) (s end : S) → bytes ≡ [] → s ≡ end → IsText bytes s end
    none bytes s end e k = record { items = []; text = e; each = All-nil Is; pushed = ap Some k }

    all_more : (x : X) (xs : List X) → Is x → All Is xs → All Is (x ∷ xs)
    all_more x xs h all zero d below = h
    all_more x xs h all (suc i) d below = all i d (omega arith)

    more : (line rest : List ℕ) (s t end : S) (x : X) → read line ≡ Some x → push s x ≡ Some t → IsText rest t end → IsText (line ++ 10 ∷ rest) s end
    more line rest s t end x r p h =
        let k = exact line x r in
        record {
          items = x ∷ h.items;
          text = ap (λ (l : List ℕ). line ++ 10 ∷ l) h.text ∙ ap (λ (l : List ℕ). l ++ 10 ∷ lines_text (map write h.items)) k.0
              ∙ sym (append_assoc (write x) (10 ∷ []) (lines_text (map write h.items)));
          each = all_more x h.items k.1 h.each;
          pushed = ap (option_and_then (λ t. pushes read push t h.items)) p ∙ h.pushed;
        }

    text_from : (begun bytes : List ℕ) (s end : S) → taken_from (taking read push) begun s bytes ≡ Some end → IsText (begun ++ bytes) s end
    text_from [] [] s end e = none [] s end refl cc
    text_from (c ∷ cs) [] s end e = absurd (grind (arith, common_steps, e))
    text_from begun (b ∷ bs) s end e = by_byte (λ t k. text_from [] bs t end k) (λ k. text_from (begun ++ b ∷ []) bs s end k) (b == 10) refl e
      where
        by_step : ((t : S) → lines_taken (taking read push) t bs ≡ Some end → IsText bs t end) → (x : X) → read begun ≡ Some x → (o : Option S) → push s x ≡ o
            → option_and_then (λ t. lines_taken (taking read push) t bs) o ≡ Some end → IsText (begun ++ 10 ∷ bs) s end
        by_step again x r None p k = cc
        by_step again x r (Some t) p k = more begun bs s t end x r p (again t k)

        by_read : ((t : S) → lines_taken (taking read push) t bs ≡ Some end → IsText bs t end) → (o : Option X) → read begun ≡ o
            → option_and_then (λ t. lines_taken (taking read push) t bs) (option_and_then (push s) o) ≡ Some end → IsText (begun ++ 10 ∷ bs) s end
        by_read again None r k = cc
        by_read again (Some x) r k = by_step again x r (push s x) refl k

        by_byte : ((t : S) → lines_taken (taking read push) t bs ≡ Some end → IsText bs t end)
            → (taken_from (taking read push) (begun ++ b ∷ []) s bs ≡ Some end → IsText ((begun ++ b ∷ []) ++ bs) s end)
            → (ends : Bool) → (b == 10) ≡ ends
            → cond ends (option_and_then (λ t. lines_taken (taking read push) t bs) (taking read push s begun))
            (taken_from (taking read push) (begun ++ b ∷ []) s bs) ≡ Some end
            → IsText (begun ++ b ∷ bs) s end
        by_byte ended goes true w k = subst (λ (c : ℕ). IsText (begun ++ c ∷ bs) s end) (sym (eqb-true b 10 w)) (by_read ended (read begun) refl k)
        by_byte ended goes false w k = subst (λ (l : List ℕ). IsText l s end) (append_assoc begun (b ∷ []) bs) (goes k)

    -- what is taken is the text of such items
    pub items_read : (bytes : List ℕ) (s end : S) → lines_taken (taking read push) s bytes ≡ Some end → IsText bytes s end
    items_read bytes s end e = text_from [] bytes s end e
