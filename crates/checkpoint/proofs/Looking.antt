-- What a look at a slot finds.
use Rattle.std.proofs.Common.{◌≡◌, ℕ, ◌-◌, ◌<◌, ◌≤◌, length, take, drop, Bool, true, false, sym, ◌∙◌, ap, arith, Option, None, Some}
use Rattle.std.specs.Prelude.{IfSome, nat_lt, if◌then◌else◌}
use Rattle.std.proofs.lemmas.Bool.Decides.{nat_tests}
use Rattle.disk_model.specs.Files.{File}
use Rattle.checkpoint.specs.declared.heads.Head.{Head}
use Rattle.checkpoint.specs.declared.heads.Fields.{Fields}
use Rattle.checkpoint.specs.Heads.{fields_of, head_in}
use Rattle.checkpoint.specs.Damage.{faults, first_fault}
use Rattle.checkpoint.specs.Slots.{Shut, Shown, Bad, is_open, by_fault, behind_head, open_slot, slot_of, IsLooked}

module _ (slot : ℕ) (told : Option File) where
  pub looks_shut : (gate : Bool) → gate ≡ false → IfSome told (λ f. gate ≡ is_open f.seen) → IfSome told (λ f. slot_of slot f.seen ≡ Shut)
  looks_shut gate shut is = go told is
    where
      go : (t : Option File) → IfSome t (λ f. gate ≡ is_open f.seen) → IfSome t (λ f. slot_of slot f.seen ≡ Shut)
      go None i = tt
      go (Some f) i = ap (λ (b : Bool). if b then open_slot slot f.seen else Shut) (sym i ∙ shut)

  module _ (gate : Bool) (opens : gate ≡ true) (is : IfSome told (λ f. gate ≡ is_open f.seen)) (len : ℕ) (size : IfSome told (λ f. len ≡ length f.seen)) where
    opened : (f : File) → gate ≡ is_open f.seen → slot_of slot f.seen ≡ open_slot slot f.seen
    opened f i = ap (λ (b : Bool). if b then open_slot slot f.seen else Shut) (sym i ∙ opens)

    pub looks_short : len < 40 → IfSome told (λ f. slot_of slot f.seen ≡ Bad len)
    looks_short short = go told is size
      where
        go : (t : Option File) → IfSome t (λ f. gate ≡ is_open f.seen) → IfSome t (λ f. len ≡ length f.seen) → IfSome t (λ f. slot_of slot f.seen ≡ Bad len)
        go None i s = tt
        go (Some f) i s =
            let yes : nat_lt (length f.seen) 40 ≡ true = grind (arith, nat_tests, s, short) in
            opened f i ∙ ap (λ (b : Bool). if b then Bad (length f.seen) else by_fault (first_fault (faults slot (fields_of (take 40 f.seen))))
            (behind_head (fields_of (take 40 f.seen)) f.seen)) yes ∙ ap (λ (n : ℕ). Bad n) (sym s)

    module _ (long : 40 ≤ len) (fields : Fields) (read : IfSome told (λ f. fields ≡ fields_of (take 40 f.seen))) where
      pub room : IfSome told (λ f. 40 ≤ length f.seen)
      room = go told size
        where
          go : (t : Option File) → IfSome t (λ f. len ≡ length f.seen) → IfSome t (λ f. 40 ≤ length f.seen)
          go None s = tt
          go (Some f) s = omega (arith, s, long)

      behind : (f : File) → gate ≡ is_open f.seen → len ≡ length f.seen → fields ≡ fields_of (take 40 f.seen)
          → slot_of slot f.seen ≡ by_fault (first_fault (faults slot fields)) (behind_head fields f.seen)
      behind f i s r =
          let no : nat_lt (length f.seen) 40 ≡ false = grind (arith, nat_tests, s, long) in
          opened f i ∙ ap (λ (b : Bool). if b then Bad (length f.seen) else by_fault (first_fault (faults slot (fields_of (take 40 f.seen))))
          (behind_head (fields_of (take 40 f.seen)) f.seen)) no
          ∙ ap (λ (x : Fields). by_fault (first_fault (faults slot x)) (behind_head x f.seen)) (sym r)

      pub looks_wrong : (at : ℕ) → first_fault (faults slot fields) ≡ Some at → IfSome told (λ f. slot_of slot f.seen ≡ Bad at)
      looks_wrong at wrong = go told is size read
        where
          go : (t : Option File) → IfSome t (λ f. gate ≡ is_open f.seen) → IfSome t (λ f. len ≡ length f.seen)
              → IfSome t (λ f. fields ≡ fields_of (take 40 f.seen)) → IfSome t (λ f. slot_of slot f.seen ≡ Bad at)
          go None i s r = tt
          go (Some f) i s r = behind f i s r ∙ ap (λ (o : Option ℕ). by_fault o (behind_head fields f.seen)) wrong

      pub looks_cut : first_fault (faults slot fields) ≡ None → len - 40 < fields.body → IfSome told (λ f. slot_of slot f.seen ≡ Bad 32)
      looks_cut sound cut = go told is size read
        where
          go : (t : Option File) → IfSome t (λ f. gate ≡ is_open f.seen) → IfSome t (λ f. len ≡ length f.seen)
              → IfSome t (λ f. fields ≡ fields_of (take 40 f.seen)) → IfSome t (λ f. slot_of slot f.seen ≡ Bad 32)
          go None i s r = tt
          go (Some f) i s r =
              let yes : nat_lt (length f.seen - 40) fields.body ≡ true = grind (arith, nat_tests, s, cut) in
              behind f i s r ∙ ap (λ (o : Option ℕ). by_fault o (behind_head fields f.seen)) sound
              ∙ ap (λ (b : Bool). if b then Bad 32 else Shown (head_in fields) (take fields.body (drop 40 f.seen))) yes

      pub looks_shown : first_fault (faults slot fields) ≡ None → fields.body ≤ len - 40 → (h : Head) (n : ℕ) → h ≡ head_in fields → n ≡ fields.body
          → IfSome told (λ f. IsLooked (Some (h, n)) slot f.seen)
      looks_shown sound fits h n h_is n_is = go told is size read
        where
          go : (t : Option File) → IfSome t (λ f. gate ≡ is_open f.seen) → IfSome t (λ f. len ≡ length f.seen)
              → IfSome t (λ f. fields ≡ fields_of (take 40 f.seen)) → IfSome t (λ f. IsLooked (Some (h, n)) slot f.seen)
          go None i s r = tt
          go (Some f) i s r =
              let no : nat_lt (length f.seen - 40) fields.body ≡ false = grind (arith, nat_tests, s, fits) in (
                behind f i s r ∙ ap (λ (o : Option ℕ). by_fault o (behind_head fields f.seen)) sound
                    ∙ ap (λ (b : Bool). if b then Bad 32 else Shown (head_in fields) (take fields.body (drop 40 f.seen))) no
                    ∙ ap (λ (x : Head). Shown x (take fields.body (drop 40 f.seen))) (sym h_is) ∙ ap (λ (k : ℕ). Shown h (take k (drop 40 f.seen))) (sym n_is),
                omega (arith, s, fits, long, n_is),
              )
