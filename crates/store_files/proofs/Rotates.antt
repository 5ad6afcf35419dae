-- The steps of a rotation.
use Rattle.std.proofs.Common.{◌≡◌, ◌≢◌, ◌⊎◌, ℕ, ◌+◌, ◌-◌, ◌^◌, ◌<◌, List, [], length, sym, ◌∙◌, subst, ap, arith, inl, inr, Option, option_map}
use Rattle.std.specs.Prelude.{IfSome}
use Rattle.std.proofs.lemmas.Bool.{cases_eq}
use Rattle.disk_model.specs.Files.{File, IsImage, untouched}
use Rattle.disk_model.specs.Histories.{History, current, EachImage, HasImage, IsStable, Within, Leaves, LeavesAll}
use Rattle.disk_model.proofs.Spans.{from_each, each_more, stable_untouched, other_stays, leaves_then, leaves_more, leaves_file}
use Rattle.input_log.specs.Layout.{Log, Ends, log_of, EndsAt}
use Rattle.checkpoint.specs.declared.heads.Head.{Head}
use Rattle.checkpoint.specs.Damage.{IsSound}
use Rattle.checkpoint.specs.Slots.{Shown, slot_of, opened, laid}
use Rattle.checkpoint.specs.Gates.{IsShut, IsShutOrSame, IsShutOrOpened}
use Rattle.store_files.specs.Openings.{Taken, opened_of}
use Rattle.store_files.specs.Holdings.{IsBehind, Holds, IsSettled}
use Rattle.store_files.proofs.Whole.{
  opens,
  shut_behind,
  other_slot,
  other_slot_holds,
  other_log,
  other_log_holds,
  shut_or_same,
  shown_behind,
  empty_log,
}
use Rattle.store_files.proofs.Whole.{begins_laid, shown_laid}

module _ (slot : ℕ) (is : slot < 2) (head : Head) (body : List ℕ) where
  abbrev pub Either : Head → List ℕ → Log → (ℕ → List ℕ) → Type 0
  Either h b log images = (opened_of images ≡ Taken slot h b log) ⊎ (opened_of images ≡ Taken (1 - slot) head body (Ends [] 0))

  module _ (h : Head) (b : List ℕ) (log : Log) (lower : h.generation < head.generation) where
    -- the other gate is shut
    pub shutting : (a s : History) → Holds a slot h b log → Leaves a s (1 - slot) (IsShutOrSame (current a (1 - slot)))
        → LeavesAll a s (Either h b log) × Holds s slot h b log
    shutting a s holds all = (
      leaves_more a s _ (Either h b log)
          (other_slot slot h b log is a s _ holds all
          (λ image own. shut_or_same (current a (1 - slot)) (1 - slot) h.generation image holds.behind own)) (λ images same. inl same),
      other_slot_holds slot h b log is a s _ holds all
          (λ image own. shut_or_same (current a (1 - slot)) (1 - slot) h.generation image holds.behind own),
    )

    -- the other slot is written behind its shut gate
    laying : (a s : History) → Holds a slot h b log → Leaves a s (1 - slot) IsShut → LeavesAll a s (Either h b log) × Holds s slot h b log
    laying a s holds all = (
      leaves_more a s _ (Either h b log)
          (other_slot slot h b log is a s _ holds all (λ image own. shut_behind (1 - slot) h.generation image own))
          (λ images same. inl same),
      other_slot_holds slot h b log is a s _ holds all (λ image own. shut_behind (1 - slot) h.generation image own),
    )

    -- the other log is written
    emptying : (a s : History) (P : List ℕ → Type 0) → Holds a slot h b log → Leaves a s (2 + (1 - slot)) P
        → LeavesAll a s (Either h b log) × Holds s slot h b log
    emptying a s P holds all = (
      leaves_more a s _ (Either h b log) (other_log slot h b log is a s P holds all) (λ images same. inl same),
      other_log_holds slot h b log is a s P holds all,
    )

    pub to_laid : (a s t : History) → Holds a slot h b log → Leaves a s (1 - slot) (IsShutOrSame (current a (1 - slot)))
        → Leaves s t (1 - slot) IsShut → LeavesAll a t (Either h b log) × Holds t slot h b log
    to_laid a s t holds shuts lays =
        let one = shutting a s holds shuts in
        let two = laying s t one.1 lays in
        (leaves_then a s t (Either h b log) one.0 two.0, two.1)

    pub to_emptied : (a s t u : History) (P : List ℕ → Type 0) → Holds a slot h b log
        → Leaves a s (1 - slot) (IsShutOrSame (current a (1 - slot))) → Leaves s t (1 - slot) IsShut → Leaves t u (2 + (1 - slot)) P
        → LeavesAll a u (Either h b log) × Holds u slot h b log
    to_emptied a s t u P holds shuts lays empties =
        let two = to_laid a s t holds shuts lays in
        let three = emptying t u P two.1 empties in
        (leaves_then a t u (Either h b log) two.0 three.0, three.1)

    module _ (a : History) (holds : Holds a slot h b log) (sound : IsSound (1 - slot) head)
        (small : length body < 256 ^ 8) (was : Option File) (reads : IfSome was (λ f. IsImage f f.seen)) (shut : EachImage was IsShut)
        (laid_is : current a (1 - slot) ≡ option_map (λ f. untouched (laid head body f.seen)) was)
        (ends : EachImage (current a (2 + (1 - slot))) (λ image. EndsAt image 0 0)) where
      -- the other gate is opened
      pub showing : (s : History) → Leaves a s (1 - slot) (IsShutOrOpened (current a (1 - slot))) → LeavesAll a s (Either h b log)
      showing s all = leaves_file a s (1 - slot) _ (Either h b log) (omega (arith, is)) all (λ images own others. go images own others)
        where
          go : (images : ℕ → List ℕ) → IsShutOrOpened (current a (1 - slot)) (images (1 - slot))
              → ((other : ℕ) → other < 4 → other ≢ 1 - slot → HasImage (current a other) (images other)) → Either h b log images
          go images own others =
              let shown : slot_of slot (images slot) ≡ Shown h b =
              from_each (current a slot) _ (images slot) holds.shown
              (others slot (omega (arith, is)) (λ e. absurd (omega (arith, e, is)))) in
              elim own [
                | inl closed ↦ inl (opens slot h b log images is shown (shut_behind (1 - slot) h.generation (images (1 - slot)) closed)
                    (from_each (current a (2 + slot)) _ (images (2 + slot)) holds.records
                    (others (2 + slot) (omega (arith, is)) (λ e. absurd (omega (arith, e, is))))))
                | inr begins ↦
                    let back : 1 - (1 - slot) ≡ slot = omega (arith, is) in
                    let old : IsBehind slot head.generation (images slot) =
                    shown_behind slot head.generation (images slot) h b shown lower in
                    inr (opens (1 - slot) head body (Ends [] 0) images (omega (arith, is))
                    (begins_laid (1 - slot) head body sound small was reads shut begins.0 (images (1 - slot))
                    (subst (λ (t : Option File). HasImage t begins.0) laid_is begins.1) begins.2)
                    (subst (λ (n : ℕ). IsBehind n head.generation (images n)) (sym back) old)
                    (empty_log (images (2 + (1 - slot)))
                    (from_each (current a (2 + (1 - slot))) _ (images (2 + (1 - slot))) ends
                    (others (2 + (1 - slot)) (omega (arith, is)) (λ e. absurd (omega (arith, e, is)))))))
              ]

      -- and afterwards
      pub shown_holds : (s : History) (P : Option File → Type 0) → Within a s (1 - slot) P
          → current s (1 - slot) ≡ option_map (λ f. untouched (opened f.seen)) (current a (1 - slot))
          → Holds s (1 - slot) head body (Ends [] 0)
      shown_holds s P all now = record {
        shown = subst (λ (t : Option File). EachImage t (λ image. slot_of (1 - slot) image ≡ Shown head body))
            (sym (now ∙ ap (λ (t : Option File). option_map (λ f. untouched (opened f.seen)) t) laid_is))
            (shown_laid (1 - slot) head body sound small was reads shut);
        behind =
            let back : 1 - (1 - slot) ≡ slot = omega (arith, is) in
            subst (λ (n : ℕ). EachImage (current s n) (IsBehind n head.generation)) (sym back)
            (subst (λ (t : Option File). EachImage t (IsBehind slot head.generation))
            (sym (other_stays a s (1 - slot) P all slot (λ e. absurd (omega (arith, e, is)))))
            (each_more (current a slot) _ _ (λ image e. shown_behind slot head.generation image h b e lower) holds.shown));
        records =
            subst (λ (t : Option File). EachImage t (λ image. log_of image ≡ Ends [] 0))
            (sym (other_stays a s (1 - slot) P all (2 + (1 - slot)) (λ e. absurd (omega (arith, e, is)))))
            (each_more (current a (2 + (1 - slot))) _ _ (λ image e. empty_log image e) ends);
      }

    pub to_shown : (a s t u v : History) (P : List ℕ → Type 0) → Holds a slot h b log
        → Leaves a s (1 - slot) (IsShutOrSame (current a (1 - slot))) → Leaves s t (1 - slot) IsShut → Leaves t u (2 + (1 - slot)) P
        → Leaves u v (1 - slot) (IsShutOrOpened (current u (1 - slot)))
        → IsSound (1 - slot) head → length body < 256 ^ 8 → IfSome (current s (1 - slot)) (λ f. IsImage f f.seen)
        → EachImage (current s (1 - slot)) IsShut
        → current t (1 - slot) ≡ option_map (λ f. untouched (laid head body f.seen)) (current s (1 - slot))
        → EachImage (current u (2 + (1 - slot))) (λ image. EndsAt image 0 0)
        → LeavesAll a v (Either h b log)
        × (current v (1 - slot) ≡ option_map (λ f. untouched (opened f.seen)) (current u (1 - slot))
        → Holds v (1 - slot) head body (Ends [] 0))
    to_shown a s t u v P holds shuts lays empties shows sound small reads shut laid_is ends =
        let three = to_emptied a s t u P holds shuts lays empties in
        let laid_still = other_stays t u (2 + (1 - slot)) _ empties (1 - slot) (λ e. absurd (omega (arith, e, is))) ∙ laid_is in (
          leaves_then a u v (Either h b log) three.0
              (showing u three.1 sound small (current s (1 - slot)) reads shut laid_still ends v shows),
          λ now. shown_holds u three.1 sound small (current s (1 - slot)) reads shut laid_still ends v _ shows now,
        )

-- every file is settled afterwards
pub settled_after : (slot : ℕ) (a s t u v : History) (P Q R S : Option File → Type 0) (laid opens : File → List ℕ)
    → slot < 2 → IsSettled a → Within a s (1 - slot) P → Within s t (1 - slot) Q → Within t u (2 + (1 - slot)) R → Within u v (1 - slot) S
    → IsStable (current u (2 + (1 - slot))) → current v (1 - slot) ≡ option_map (λ f. untouched (opens f))
    (current u (1 - slot)) → IsSettled v
settled_after slot a s t u v P Q R S laid opens is settled one two three four fresh now file low = elim (cases_eq file (1 - slot)) [
  | inl next ↦ subst (λ (n : ℕ). IsStable (current v n)) (sym next)
      (subst IsStable (sym now) (stable_untouched (current u (1 - slot)) opens))
  | inr apart ↦ elim (cases_eq file (2 + (1 - slot))) [
    | inl own ↦ subst (λ (n : ℕ). IsStable (current v n)) (sym own)
        (subst IsStable (sym (other_stays u v (1 - slot) S four (2 + (1 - slot)) (λ e. absurd (omega (arith, e, is))))) fresh)
    | inr other ↦
        let same : current v file ≡ current a file =
        other_stays u v (1 - slot) S four file apart ∙ other_stays t u
        (2 + (1 - slot)) R three file other ∙ other_stays s t (1 - slot) Q two file apart ∙ other_stays a s
        (1 - slot) P one file apart in
        subst IsStable (sym same) (settled file low)
  ]
]
