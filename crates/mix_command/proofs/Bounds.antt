-- What stays within its bounds: how many works a batch has, and how many lines.
use Rattle.std.proofs.Common.{◌≡◌, ℕ, zero, suc, ◌+◌, ◌-◌, ◌*◌, ◌<◌, ◌≤◌, List, [], ◌∷◌, length, min, Bool, true, refl, sym, ap, ◌∙◌, arith}
use Rattle.std.specs.Prelude.{Result, Ok, Err, IfOk, count_by}
use Rattle.std.specs.List.{All}
use Rattle.std.proofs.lemmas.List.{length-append, length-map}
use Rattle.std.proofs.lemmas.List.Sums.{count_by-le-length}
use Rattle.batch_core.specs.Serial.{is_wait}
use Rattle.batch_core.specs.declared.answers.Line.{Line}
use Rattle.batch_rules.proofs.Judges.{length-judged}
use Rattle.batch_rules.specs.Verdicts.{through}
use Rattle.batch_rules.specs.declared.verdicts.Rule.{Rule}
use Rattle.bench_command.specs.Tallies.{HasRoom, is_back, is_ok, is_trap, of_line, with_lines}
use Rattle.bench_command.specs.declared.tallies.Tally.{Tally}
use Rattle.cat_builtin.specs.Tpcc.{tpcc}
use Rattle.load_gen.specs.Draws.{Drawn, times}
use Rattle.proc_lang.specs.Catalogs.{run_of}
use Rattle.rand_pcg.specs.Lcg.{Lcg}
use Rattle.range_resv.specs.Engines.{Between, batch_from, list_from}
use Rattle.range_rules.specs.Batches.{depends, line_of, numbered}
use Rattle.range_rules.specs.Courses.{ran_on}
use Rattle.range_rules.specs.declared.routines.Work.{Work}
use Rattle.range_rules.specs.declared.routines.TheConstants.{MOST_WORKS}
use Rattle.range_suits.specs.Suits.{is_taken}
use Rattle.tpcc_load.specs.declared.settings.Tpcc.{Tpcc}
use Rattle.tpcc_routines.specs.Mixes.{request}
use Rattle.tpcc_routines.specs.Routines.{is_more}
use Rattle.tpcc_sound.specs.Laws.{act}
use Rattle.mix_command.specs.Courses.{Stage, behind, first_stage, new_works, stage_after, works_at}
use Rattle.mix_command.specs.Turns.{IsEarly, MayRun}
use Rattle.mix_command.specs.declared.turns.TheConstants.{MOST_BATCHES}

pub length-times : {A : Type 0} (n : ℕ) (d : Drawn A) (g : Lcg) → length (times n d g).0 ≡ n
unfolding times
length-times zero d g = refl
length-times (suc n) d g =
    let earlier = length-times n d g in
    let all = length-append (times n d g).0 ((d (times n d g).1).0 ∷ []) in
    omega (arith, earlier, all)

length-numbered : (n : ℕ) (works : List Work) → length (numbered n works) ≡ length works
length-numbered n [] = refl
length-numbered n (work ∷ works) = ap suc (length-numbered (n + 1) works)

-- a line for each work of the list
lines-are : (rule : Rule) (mix : Between) (works : List Work)
    → length (batch_from act rule mix works).lines ≡ length mix.carried + length works
lines-are rule mix works =
    length-map _ (line_of (run_of mix.plan) act mix.rows (list_from mix works))
    ∙ length-judged (through (ran_on (run_of mix.plan) act mix.rows) depends) rule [] (list_from mix works)
    ∙ length-append mix.carried (numbered mix.requests works)
    ∙ ap (λ n. length mix.carried + n) (length-numbered mix.requests works)

pub few-works : (size carried count : ℕ) → count ≡ min size (MOST_WORKS - carried) → carried ≤ MOST_WORKS → carried + count ≤ MOST_WORKS
few-works size carried count as_many few = omega (arith, as_many, few)

-- there is room for the lines in the tally
pub has-room : (rule : Rule) (stage : Stage) (works : List Work) → IsEarly stage → stage.mix.batches < MOST_BATCHES
    → length stage.mix.carried + length works ≤ MOST_WORKS → HasRoom stage.tally (length (batch_from act rule stage.mix works).lines)
has-room rule stage works early batches room =
    let many = lines-are rule stage.mix works in
    record {
      ok = omega (arith, many, room, early.ok, batches);
      back = omega (arith, many, room, early.back, batches);
      trap = omega (arith, many, room, early.trap, batches);
      waits = omega (arith, many, room, early.waits, batches);
    }

counted : (p : Line → Bool) (lines : List Line) (now batches : ℕ) → length lines ≤ MOST_WORKS → now ≤ MOST_WORKS * batches
    → now + count_by p lines ≤ MOST_WORKS * (batches + 1)
counted p lines now batches few within = let some = count_by-le-length p lines in omega (arith, some, few, within)

-- and behind the batch it is early still
pub still-early : (rule : Rule) (stage : Stage) (drawn : List Work × Lcg) → IsEarly stage
    → length stage.mix.carried + length drawn.0 ≤ MOST_WORKS → IsEarly (behind rule stage drawn)
still-early rule stage drawn early room =
    let lines = (batch_from act rule stage.mix drawn.0).lines in
    let few : length lines ≤ MOST_WORKS = let many = lines-are rule stage.mix drawn.0 in omega (arith, many, room) in
    record {
      requests = omega (arith, early.requests, room);
      ok = counted (of_line is_ok) lines stage.tally.ok stage.mix.batches few early.ok;
      back = counted (of_line is_back) lines stage.tally.back stage.mix.batches few early.back;
      trap = counted (of_line is_trap) lines stage.tally.trap stage.mix.batches few early.trap;
      waits = counted (of_line is_wait) lines stage.tally.waits stage.mix.batches few early.waits;
    }

-- ---- the works of the next batch

pub may-run : {V E : Type 0} (items : V → List Work) (result : Result V E) (mix : Between) (size count number : ℕ) (s : Tpcc) (draws : Lcg)
    → IfOk result (λ v. items v ≡ (times count (request s number) draws).0)
    → IfOk result (λ v. All (λ work. is_taken tpcc is_more work ≡ true) (items v)) → count ≡ new_works size mix → length mix.carried ≤ MOST_WORKS
    → mix.requests ≤ MOST_WORKS * mix.batches → mix.batches < MOST_BATCHES → IfOk result (λ v. MayRun mix (items v))
may-run items (Ok v) mix size count number s draws drawn taken as_many few within early =
    let len : length (items v) ≡ count = ap length drawn ∙ length-times count (request s number) draws in
    let room = few-works size (length mix.carried) count as_many few in
    record {
      taken = taken;
      room = omega (arith, len, room);
      batches = omega (arith, early);
      requests = omega (arith, len, room, within, early);
    }
may-run items (Err e) mix size count number s draws drawn taken as_many few within early = tt

-- ---- behind the next batch

pub behind-is : (rule : Rule) (stage : Stage) (drawn : List Work × Lcg) (after : Between) (draws : Lcg) (tally : Tally) (works : List Work)
    → works ≡ drawn.0 → draws ≡ drawn.1 → after.plan ≡ stage.mix.plan
    → (after.batches ≡ stage.mix.batches + 1) × (after.requests ≡ stage.mix.requests + length works)
    → after.rows ≡ (batch_from act rule stage.mix works).rows → after.carried ≡ (batch_from act rule stage.mix works).carried
    → tally ≡ with_lines stage.tally (batch_from act rule stage.mix works).lines
    → ◌≡◌ {A = Stage} (record { mix = after; draws = draws; tally = tally }) (behind rule stage drawn)
behind-is rule stage drawn after draws tally works same past plan counts rows carried told =
    (λ i. record {
      mix = record { plan = plan i; rows = rows i; carried = carried i; batches = counts.0 i; requests = counts.1 i };
      draws = past i;
      tally = told i;
    }) ∙ ap (λ (ws : List Work). behind rule stage (ws, drawn.1)) same

-- ---- so many batches

pub stage-none : (s : Tpcc) (rule : Rule) (size : ℕ) → stage_after s rule size 0 ≡ first_stage s
unfolding stage_after
stage-none s rule size = refl

stage-suc : (s : Tpcc) (rule : Rule) (size n : ℕ)
    → stage_after s rule size (suc n) ≡ behind rule (stage_after s rule size n) (works_at s size (stage_after s rule size n))
unfolding stage_after
stage-suc s rule size n = refl

pub stage-more : (s : Tpcc) (rule : Rule) (size n : ℕ)
    → stage_after s rule size (n + 1) ≡ behind rule (stage_after s rule size n) (works_at s size (stage_after s rule size n))
stage-more s rule size n = let next : n + 1 ≡ suc n = omega arith in ap (stage_after s rule size) next ∙ stage-suc s rule size n

pub batches-are : (s : Tpcc) (rule : Rule) (size n : ℕ) → (stage_after s rule size n).mix.batches ≡ n
unfolding stage_after
batches-are s rule size zero = refl
batches-are s rule size (suc n) = let before = batches-are s rule size n in omega (arith, before)
