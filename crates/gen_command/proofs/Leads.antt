-- What a sink was given of a text, piece by piece.
use Rattle.std.proofs.Common.{◌≡◌, ℕ, suc, ◌+◌, ◌-◌, ◌<◌, List, [], ◌++◌, map, flat_map, Option, refl, sym, ap, ◌∙◌, arith, subst}
use Rattle.std.specs.Prelude.{Result, Ok, Err}
use Rattle.std.specs.Io.KnownBytes.{Appends}
use Rattle.std.proofs.KnownBytes.{Appends-trans, Appends-nil}
use Rattle.std.proofs.lemmas.Grind.{flat_map-append}
use Rattle.std.proofs.lemmas.List.{map-append}
use Rattle.rand_pcg.specs.Lcg.{Lcg}
use Rattle.aria_base.specs.Streams.{AppendsFront, Gives}
use Rattle.script_course.proofs.Turns.{front_longer, front_behind}
use Rattle.gen_command.specs.Pieces.{LeadsTo}
use Rattle.gen_command.specs.Scripts.{batch_text, batches_text, calls_from}
use Rattle.load_gen.specs.Draws.{times}
use Rattle.workloads.specs.Generators.{plan_of, request_of}
use Rattle.gen_command.specs.declared.cuts.Cut.TheVariants as cut
use Rattle.workloads.specs.declared.generators.Generator.{Generator}

-- a text behind one that was given whole
pub gives_behind : {T E : Type 0} (old mid new : Option (List ℕ)) (result : Result T E) (xs ys : List ℕ) → Appends old mid xs → Gives mid new result ys
    → Gives old new result (xs ++ ys)
gives_behind old mid new (Ok r) xs ys first rest = Appends-trans old mid new xs ys first rest
gives_behind old mid new (Err e) xs ys first rest = front_behind old mid new xs ys first rest

module _ (piece later rest whole : List ℕ) (old now mid : Option (List ℕ)) (parts : rest ≡ piece ++ later) (leads : LeadsTo rest now whole old) where
  -- behind the next piece
  pub leads_on : Appends now mid piece → LeadsTo later mid whole old
  leads_on first new result h = leads new result (rw parts (gives_behind now mid new result piece later first h))

  -- the next piece was cut off
  pub leads_cut : AppendsFront now mid piece → AppendsFront old mid whole
  leads_cut h = leads mid (Err cut.NoMemory) (rw parts (front_longer now mid piece later h))

-- nothing was given yet
pub leads_same : (rest whole : List ℕ) (now : Option (List ℕ)) → rest ≡ whole → LeadsTo rest now whole now
leads_same rest whole now same new result h =
    let GivenIt : List ℕ → Type 0 = λ text. Gives now new result text in
    subst GivenIt same h

-- nothing is left
pub leads_end : (rest whole : List ℕ) (old now : Option (List ℕ)) → rest ≡ [] → LeadsTo rest now whole old → Appends old now whole
leads_end rest whole old now none leads =
    let GivenIt : List ℕ → Type 0 = λ text. Appends now now text in
    leads now (Ok tt) (subst GivenIt (sym none) (Appends-nil now))

-- ---- rows

pub rows_cut : {X Y : Type 0} (text : Y → List ℕ) (f : X → Y) (rows piece later : List X) → rows ≡ piece ++ later
    → flat_map text (map f rows) ≡ flat_map text (map f piece) ++ flat_map text (map f later)
rows_cut text f rows piece later parts =
    ap (λ l. flat_map text (map f l)) parts
    ∙ ap (flat_map text) (map-append f piece later)
    ∙ flat_map-append text (map f piece) (map f later)

-- ---- batches

-- what is given of the batches from this number on
abbrev pub from : Generator → ℕ → ℕ → ℕ → Lcg → List ℕ
from g size number n d = batches_text (plan_of g).procs number (calls_from g size number n d).0

pub from_none : (g : Generator) (size number : ℕ) (d : Lcg) → from g size number 0 d ≡ []
unfolding calls_from
from_none g size number d = refl

from_next : (g : Generator) (size number n : ℕ) (d : Lcg)
    → from g size number (suc n) d ≡ batch_text (plan_of g).procs number (times size (request_of g number) d).0
    ++ from g size (number + 1) n (times size (request_of g number) d).1
unfolding calls_from
from_next g size number n d = refl

-- the batch behind so many, and those behind it
pub from_cut : (g : Generator) (size count past : ℕ) (d : Lcg) → past < count
    → from g size (past + 1) (count - past) d ≡ batch_text (plan_of g).procs (past + 1) (times size (request_of g (past + 1)) d).0
    ++ from g size (past + 1 + 1) (count - (past + 1)) (times size (request_of g (past + 1)) d).1
from_cut g size count past d within =
    let one : count - past ≡ suc (count - (past + 1)) = omega (arith, within) in
    ap (λ n. from g size (past + 1) n d) one ∙ from_next g size (past + 1) (count - (past + 1)) d
