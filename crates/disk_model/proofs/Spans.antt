-- How calls follow one another, on one file and on all four, for the layers above.
use Rattle.std.proofs.Common.{◌≡◌, ◌≢◌, ℕ, ◌<◌, ◌≤◌, List, Option, None, Some, option_map, refl, sym, ◌∙◌, subst, ap, arith, inl, inr}
use Rattle.std.proofs.lemmas.Bool.{cases_lt, cases_eq}
use Rattle.disk_model.specs.Files.{File, untouched}
use Rattle.disk_model.specs.Histories.{History, current, EachImage, HasImage, IsStable, MayLeave, Acts, Within, Leaves, Still, LeavesAll}
use Rattle.disk_model.proofs.Images.{untouched_image}

-- ---- the images of one file

pub from_each : (told : Option File) (P : List ℕ → Type 0) (image : List ℕ) → EachImage told P → HasImage told image → P image
from_each None P image each has = absurd has
from_each (Some f) P image each has = each image has

pub each_more : (told : Option File) (P Q : List ℕ → Type 0) → ((image : List ℕ) → P image → Q image) → EachImage told P → EachImage told Q
each_more None P Q more each = tt
each_more (Some f) P Q more each = λ image is. more image (each image is)

pub stable_untouched : (told : Option File) (bytes : File → List ℕ) → IsStable (option_map (λ f. untouched (bytes f)) told)
stable_untouched None bytes = tt
stable_untouched (Some f) bytes = untouched_image (bytes f)

-- ---- one call

module _ (a b : History) (file : ℕ) (acts : Acts a b file) where
  -- each of its moments is the one before it or the one after it
  at_moment : (P : Option File → Type 0) (moment other : ℕ) → a.now ≤ moment → moment ≤ b.now → P (current a other) → P (current b other)
      → P (b.file_at moment other)
  at_moment P moment other from to before after = elim (cases_eq moment a.now) [
    | inl then ↦ subst P (sym (acts.past moment other (omega arith) ∙ ap (λ (m : ℕ). a.file_at m other) then)) before
    | inr later ↦ let now : moment ≡ b.now = omega (arith, acts.soon) in subst P (sym (ap (λ (m : ℕ). b.file_at m other) now)) after
  ]

  pub within_call : (P : Option File → Type 0) → P (current a file) → P (current b file) → Within a b file P
  within_call P before after = record {
    later = acts.later;
    past = acts.past;
    others = λ moment other from to apart. at_moment (λ told. told ≡ current a other) moment other from to refl (acts.others other apart);
    each = λ moment from to. at_moment P moment file from to before after;
    faults = acts.faults;
  }

  -- one after which the file is as before
  pub still_call : current b file ≡ current a file → Still a b
  still_call same = record {
    later = acts.later;
    past = acts.past;
    same = λ moment other from to. at_moment (λ told. told ≡ current a other) moment other from to refl (elim (cases_eq other file) [
      | inl own ↦ subst (λ (n : ℕ). current b n ≡ current a n) (sym own) same
      | inr apart ↦ acts.others other apart
    ]);
    faults = acts.faults;
  }

-- ---- calls on one file

-- one calls after another
pub within_then : (a b c : History) (file : ℕ) (P Q R : Option File → Type 0) → Within a b file P → Within b c file Q
    → ((told : Option File) → P told → R told) → ((told : Option File) → Q told → R told)
    → Within a c file R
within_then a b c file P Q R first second from_p from_q = record {
  later = omega (arith, first.later, second.later);
  past = λ moment other le. second.past moment other (omega (arith, first.later)) ∙ first.past moment other le;
  others = λ moment other from to apart. elim (cases_lt b.now moment) [
    | inl after ↦ second.others moment other (omega arith) to apart ∙ first.others b.now other first.later (omega arith) apart
    | inr until ↦ second.past moment other until ∙ first.others moment other from until apart
  ];
  each = λ moment from to. elim (cases_lt b.now moment) [
    | inl after ↦ from_q (c.file_at moment file) (second.each moment (omega arith) to)
    | inr until ↦ subst R (sym (second.past moment file until)) (from_p (b.file_at moment file) (first.each moment from until))
  ];
  faults = omega (arith, first.faults, second.faults);
}

-- less is known of the same calls
pub within_more : (a b : History) (file : ℕ) (P Q : Option File → Type 0) → Within a b file P → ((told : Option File) → P told → Q told) → Within a b file Q
within_more a b file P Q calls more = record {
  later = calls.later;
  past = calls.past;
  others = calls.others;
  each = λ moment from to. more (b.file_at moment file) (calls.each moment from to);
  faults = calls.faults;
}

-- another file is as before
pub other_stays : (a b : History) (file : ℕ) (P : Option File → Type 0) → Within a b file P → (other : ℕ) → other ≢ file → current b other ≡ current a other
other_stays a b file P calls other apart = calls.others b.now other calls.later (omega arith) apart

-- What a stop at any moment since the first may leave: of the file what has P, of the others an image from before.
pub left_since : (a b : History) (file : ℕ) (P : List ℕ → Type 0) (moment : ℕ) (images : ℕ → List ℕ) → file < 4 → Leaves a b file P → a.now ≤ moment
    → moment ≤ b.now → MayLeave b moment images
    → P (images file) × ((other : ℕ) → other < 4 → other ≢ file → HasImage (current a other) (images other))
left_since a b file P moment images own all from to left = (
  from_each (b.file_at moment file) P (images file) (all.each moment from to) (left file own),
  λ other is apart. subst (λ told. HasImage told (images other)) (all.others moment other from to apart) (left other is),
)

-- ---- calls that change nothing

pub still_none : (a : History) → Still a a
still_none a = record {
  later = omega arith;
  past = λ moment file le. refl;
  same = λ moment file from to. let now : moment ≡ a.now = omega arith in ap (λ (m : ℕ). a.file_at m file) now;
  faults = omega arith;
}

pub still_now : (a b : History) → Still a b → (file : ℕ) → current b file ≡ current a file
still_now a b still file = still.same b.now file still.later (omega arith)

pub still_then : (a b c : History) → Still a b → Still b c → Still a c
still_then a b c first second = record {
  later = omega (arith, first.later, second.later);
  past = λ moment file le. second.past moment file (omega (arith, first.later)) ∙ first.past moment file le;
  same = λ moment file from to. elim (cases_lt b.now moment) [
    | inl after ↦ second.same moment file (omega arith) to ∙ still_now a b first file
    | inr until ↦ second.past moment file until ∙ first.same moment file from until
  ];
  faults = omega (arith, first.faults, second.faults);
}

-- ---- calls on all files

pub leaves_then : (a b c : History) (Q : (ℕ → List ℕ) → Type 0) → LeavesAll a b Q → LeavesAll b c Q → LeavesAll a c Q
leaves_then a b c Q first second = record {
  later = omega (arith, first.later, second.later);
  past = λ moment file le. second.past moment file (omega (arith, first.later)) ∙ first.past moment file le;
  each = λ moment from to images left. elim (cases_lt b.now moment) [
    | inl after ↦ second.each moment (omega arith) to images left
    | inr until ↦ first.each moment from until images (λ file is. subst (λ told. HasImage told (images file)) (second.past moment file until) (left file is))
  ];
  faults = omega (arith, first.faults, second.faults);
}

pub leaves_more : (a b : History) (P Q : (ℕ → List ℕ) → Type 0) → LeavesAll a b P → ((images : ℕ → List ℕ) → P images → Q images) → LeavesAll a b Q
leaves_more a b P Q all more = record {
  later = all.later;
  past = all.past;
  each =
      λ moment from to images left. more images (all.each moment from to images left);
  faults = all.faults;
}

-- what calls on one file leave of all
pub leaves_file : (a b : History) (file : ℕ) (P : List ℕ → Type 0) (Q : (ℕ → List ℕ) → Type 0) → file < 4 → Leaves a b file P
    → ((images : ℕ → List ℕ) → P (images file) → ((other : ℕ) → other < 4 → other ≢ file → HasImage (current a other) (images other)) → Q images)
    → LeavesAll a b Q
leaves_file a b file P Q own all lifts = record {
  later = all.later;
  past = all.past;
  each = λ moment from to images left. let since = left_since a b file P moment images own all from to left in lifts images since.0 since.1;
  faults = all.faults;
}

-- where no file changes, a stop leaves what it could have left before
pub leaves_still : (a b : History) (Q : (ℕ → List ℕ) → Type 0) → Still a b → ((images : ℕ → List ℕ) → MayLeave a a.now images → Q images) → LeavesAll a b Q
leaves_still a b Q still lifts = record {
  later = still.later;
  past = still.past;
  each = λ moment from to images left. lifts images (λ file is. subst (λ told. HasImage told (images file)) (still.same moment file from to) (left file is));
  faults = still.faults;
}
