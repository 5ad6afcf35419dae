-- What calls make of a file's bytes and ranges.
use Rattle.std.proofs.Common.{◌≡◌, ℕ, zero, suc, ◌≤◌, List, [], ◌∷◌, length, take, drop, reverse, refl, sym, ◌∙◌, ap, arith, length-drop}
use Rattle.std.proofs.lemmas.Bool.Decides.{nat_tests}
use Rattle.std.proofs.lemmas.Grind.{common_steps}
use Rattle.disk_model.specs.declared.tapes.Entry.{Entry}
use Rattle.disk_model.specs.declared.tapes.Entry.TheVariants as kept
use Rattle.disk_model.specs.Files.{File, untouched}
use Rattle.disk_model.specs.Steps.{Step, Idle, Wrote, Missed, Synced, effect, after}
use Rattle.disk_model.specs.Tapes.{entry_bytes, all_bytes, step_of, steps_of, Shows, Makes}

-- the same to a read, with the same ranges
abbrev pub Alike : File → File → Type 0
Alike f g = (f.seen ≡ g.seen) × (f.loose ≡ g.loose)

effect_alike : (step : Step) (file : ℕ) (f g : File) → Alike f g → Alike (effect step file f) (effect step file g)
effect_alike Idle file f g same = same
effect_alike (Wrote of at bytes) file f g same = grind (arith, nat_tests)
effect_alike (Missed of at len) file f g same = grind (arith, nat_tests)
effect_alike (Synced of) file f g same = grind (arith, nat_tests)

pub after_alike : (steps : List Step) (file : ℕ) (f g : File) → Alike f g → Alike (after steps file f) (after steps file g)
after_alike [] file f g same = same
after_alike (step ∷ steps) file f g same = after_alike steps file (effect step file f) (effect step file g) (effect_alike step file f g same)

pub steps_of_take : (n : ℕ) (entries : List Entry) (bytes : List ℕ) → steps_of (take n entries) bytes ≡ take n (steps_of entries bytes)
steps_of_take zero es bytes = refl
steps_of_take (suc n) [] bytes = refl
steps_of_take (suc n) (e ∷ es) bytes = ap (λ (l : List Step). step_of e bytes ∷ l) (steps_of_take n es (drop (entry_bytes e) bytes))

pub all_bytes_take : (n : ℕ) (entries : List Entry) → all_bytes (take n entries) ≤ all_bytes entries
all_bytes_take zero es = omega arith
all_bytes_take (suc n) [] = omega arith
all_bytes_take (suc n) (e ∷ es) = omega (arith, all_bytes_take n es)

step_of_front : (e : Entry) (bytes : List ℕ) → step_of e (take (entry_bytes e) bytes) ≡ step_of e bytes
step_of_front kept.Idle bytes = refl
step_of_front (kept.Wrote file at len) bytes = grind (arith, common_steps)
step_of_front (kept.Missed file at len) bytes = refl
step_of_front (kept.Synced file) bytes = refl

-- what is still to come leads to the target
pub record LeadsTo (entries : List Entry) (rest : List ℕ) (file : ℕ) (bytes : List ℕ) (ranges : List (ℕ × ℕ)) (target : File) : Type 0 where
  pub fits : all_bytes entries ≤ length rest
  pub leads : (f : File) → Shows f bytes ranges → Alike (after (steps_of entries rest) file f) target

pub leads_start : (entries : List Entry) (rest : List ℕ) (file : ℕ) (start bytes : List ℕ) (ranges : List (ℕ × ℕ)) → all_bytes entries ≤ length rest
    → bytes ≡ start → ranges ≡ []
    → LeadsTo entries rest file bytes ranges (after (steps_of entries rest) file (untouched start))
leads_start entries rest file start bytes ranges fits same none =
    record {
      fits = fits;
      leads = λ f shows. after_alike (steps_of entries rest) file f (untouched start) (
        shows.0 ∙ same,
        shows.1
            ∙ ap (λ (r : List (ℕ × ℕ)). reverse r) none,
      );
    }

-- the step of an entry, whose bytes come first
pub leads_more : (e : Entry) (entries : List Entry) (rest : List ℕ) (file : ℕ) (bytes new_bytes : List ℕ) (ranges new_ranges : List (ℕ × ℕ)) (target : File)
    → LeadsTo (e ∷ entries) rest file bytes ranges target → Makes (step_of e (take (entry_bytes e) rest)) file bytes ranges new_bytes new_ranges
    → LeadsTo entries (drop (entry_bytes e) rest) file new_bytes new_ranges target
leads_more e entries rest file bytes new_bytes ranges new_ranges target so_far makes =
    let g : File = record { seen = bytes; synced = []; loose = reverse ranges } in
    let now = so_far.leads g (refl, refl) in
    let own : step_of e (take (entry_bytes e) rest) ≡ step_of e rest = step_of_front e rest in
    let made : Shows (effect (step_of e rest) file g) new_bytes new_ranges = rw own at (makes g (refl, refl)) in
    record {
      fits = omega (arith, so_far.fits, length-drop (entry_bytes e) rest);
      leads = λ f shows.
          let same = after_alike (steps_of entries (drop (entry_bytes e) rest)) file f (effect (step_of e rest) file g) (
            shows.0 ∙ sym made.0,
            shows.1
                ∙ sym made.1,
          ) in
          (same.0 ∙ now.0, same.1 ∙ now.1);
    }

pub leads_all : (rest : List ℕ) (file : ℕ) (bytes : List ℕ) (ranges : List (ℕ × ℕ)) (target : File) → LeadsTo [] rest file bytes ranges target
    → Shows target bytes ranges
leads_all rest file bytes ranges target so_far =
    let now = so_far.leads (record { seen = bytes; synced = []; loose = reverse ranges }) (refl, refl) in
    (sym now.0, sym now.1)
