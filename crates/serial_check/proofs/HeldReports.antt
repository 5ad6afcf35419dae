-- A report that holds is one.
use Rattle.std.proofs.Common.{◌≡◌, ℕ, zero, suc, ◌+◌, ◌<◌, ◌≤◌, inl, inr, List, [], ◌∷◌, ◌++◌, length, drop, Bool, true, false, not, cond, Result, Ok, Err, refl, ap, sym, ◌∙◌, subst, append_assoc, append-nil, ltb-true, ltb-false, leb-true, leb-false, ◌&&◌}
use Rattle.std.specs.Prelude.{nat_lt, nat_le}
use Rattle.std.proofs.lemmas.List.{drop_all}
use Rattle.aria_base.specs.Orders.{Database}
use Rattle.aria_base.specs.declared.calls.Call.{Call}
use Rattle.aria_base.specs.declared.limits.TheConstants.{MOST_REQUESTS}
use Rattle.proc_lang.specs.Catalogs.{Plan}
use Rattle.serial_check.specs.Lines.{batch_line, kept_line, state_line}
use Rattle.serial_check.specs.Reports.{◌>>=◌, answer, answered, batch, batches, begun, closed, drained, ended, expect, expect_end, failing, finding, finding_of, is_drained, is_line, kept, listing, may_list, run, whole}
use Rattle.serial_check.specs.Serial.{IsAnswer, IsAnswered, IsDrained, IsListing, IsReport, listing_lines}
use Rattle.serial_check.specs.declared.findings.Flaw.{Flaw}
use Rattle.serial_check.specs.declared.findings.Finding.TheVariants.{Holds}
use Rattle.serial_check.specs.declared.findings.Flaw.TheVariants as flawed
use Rattle.serial_check.specs.declared.standings.Reading.{Reading}
use Rattle.serial_check.proofs.Places.{both, stood}
use Rattle.serial_check.proofs.Told.{answer_stands, listing_stands}

module _ (plan : Plan) (report : List (List ℕ)) where
  -- what is left of the report
  abbrev left : ℕ → List (List ℕ)
  left at = drop at report

  abbrev listed_at : Reading → ℕ → Result Reading Flaw
  listed_at reading at = Ok (record reading { at = at; listed = true })

  -- ---- an answer and its listing

  pub record Lists (reading next : Reading) : Type 0 where
    pub lines : List (List ℕ)
    pub together : left reading.at ≡ lines ++ left next.at
    pub standing : next.standing ≡ reading.standing
    pub is : IsListing plan next.listed next.standing lines

  lists_by : (reading next : Reading) → reading.listed ≡ false → (b : Bool)
      → cond b (listing plan report reading.standing reading.at >>= listed_at reading) (Ok reading) ≡ Ok next → Lists reading next
  lists_by reading next l false h =
      let same : reading ≡ next = cc in
      subst (Lists reading) same (record { lines = []; together = refl; standing = refl; is = subst (λ b. IsListing plan b reading.standing []) (sym l) refl })
  lists_by reading next l true h =
      let b = both (listing plan report reading.standing reading.at) (listed_at reading) next h in
      let same : record reading { at = b.value; listed = true } ≡ next = cc in
      subst (Lists reading) same (record {
        lines = listing_lines plan reading.standing;
        together = listing_stands plan report reading.standing reading.at b.value b.first;
        standing = refl;
        is = refl;
      })

  answered_from : (reading next : Reading) (calls : List Call) → answered plan report reading calls ≡ Ok next
      → IsAnswered plan reading.standing calls (left reading.at) next.standing next.listed (left next.at)
  answered_from reading next calls h =
      let b = both (answer plan report reading.standing calls reading.at) (may_list plan report) next h in
      let a = answer_stands plan report reading.standing calls reading.at b.value b.first in
      let l = lists_by b.value next a.unlisted (is_line report (state_line b.value.standing.batches) b.value.at) b.second in
      record {
        answer = a.lines;
        listing = l.lines;
        as_lines = a.left ∙ ap (λ more. a.lines ++ more) l.together ∙ sym (append_assoc a.lines l.lines (left next.at));
        is_answer = subst (IsAnswer plan reading.standing calls a.lines) (sym l.standing) a.is_answer;
        is_listing = l.is;
      }

  -- ---- the end

  ended_here : (at end : ℕ) → (b : Bool) → nat_lt at (length report) ≡ b → cond b (Err (failing report at [])) (Ok at) ≡ Ok end → left at ≡ []
  ended_here at end true e h = cc
  ended_here at end false e h = drop_all at report (ltb-false at (length report) e)

  nothing_left : (at end : ℕ) → expect_end report at ≡ Ok end → left at ≡ []
  nothing_left at end h = ended_here at end (nat_lt at (length report)) refl h

  closed_by : (reading : Reading) (end : ℕ) (b : Bool)
      → cond b (expect_end report reading.at) (listing plan report reading.standing reading.at >>= expect_end report) ≡ Ok end
      → IsListing plan (not b) reading.standing (left reading.at)
  closed_by reading end true h = nothing_left reading.at end h
  closed_by reading end false h =
      let b = both (listing plan report reading.standing reading.at) (expect_end report) end h in
      listing_stands plan report reading.standing reading.at b.value b.first
      ∙ ap (λ l. listing_lines plan reading.standing ++ l) (nothing_left b.value end b.second)
      ∙ append-nil (listing_lines plan reading.standing)

  some_carried : (a b : Bool) → (a && b) ≡ true → a ≡ true
  some_carried true b h = refl
  some_carried false b h = cc

  drained_by : (n : ℕ) (reading last : Reading) (end : ℕ)
      → ((next : Reading) → drained plan report n next ≡ Ok last → (m : ℕ) × IsDrained plan m next.listed next.standing (left next.at))
      → (b : Bool) → is_drained report reading ≡ b → cond b (answered plan report reading [] >>= drained plan report n) (Ok reading) ≡ Ok last
      → closed plan report last ≡ Ok end
      → (m : ℕ) × IsDrained plan m reading.listed reading.standing (left reading.at)
  drained_by n reading last end more false e h c =
      let same : reading ≡ last = cc in
      (0, subst (λ r. IsListing plan (not r.listed) r.standing (left r.at)) (sym same) (closed_by last end last.listed c))
  drained_by n reading last end more true e h c =
      let b = both (answered plan report reading []) (drained plan report n) last h in
      let rest = more b.value b.second in
      let test = some_carried (nat_lt 0 (length reading.standing.carried)) (is_line report (batch_line (reading.standing.batches + 1)) reading.at) e in
      let some : 0 < length reading.standing.carried = ltb-true 0 (length reading.standing.carried) test in
      (suc rest.0, (some, (b.value.standing, b.value.listed, left b.value.at, answered_from reading b.value [] b.first, rest.1)))

  drained_from : (n : ℕ) (reading last : Reading) (end : ℕ) → drained plan report n reading ≡ Ok last → closed plan report last ≡ Ok end
      → (m : ℕ) × IsDrained plan m reading.listed reading.standing (left reading.at)
  drained_from zero reading last end h c =
      let same : reading ≡ last = cc in
      (0, subst (λ r. IsListing plan (not r.listed) r.standing (left r.at)) (sym same) (closed_by last end last.listed c))
  drained_from (suc n) reading last end h c =
      drained_by n reading last end (λ next k. drained_from n next last end k c) (is_drained report reading) refl h c

  -- ---- batches

  ran_from : (reading next : Reading) (calls : List Call) (b : Bool)
      → cond b (Err (flawed.Crowded (reading.standing.batches + 1))) (answered plan report reading calls) ≡ Ok next
      → answered plan report reading calls ≡ Ok next
  ran_from reading next calls false h = h
  ran_from reading next calls true h = cc

  batch_from : (next : ℕ × List Call) (more : List (ℕ × List Call)) (reading behind : Reading)
      → IsReport plan behind.listed behind.standing more (left behind.at)
      → (b : Bool) → nat_le next.0 reading.standing.batches ≡ b
      → cond b (kept report reading next.0) (run plan report reading next.1) ≡ Ok behind
      → IsReport plan reading.listed reading.standing (next ∷ more) (left reading.at)
  batch_from next more reading behind rest true e h =
      let b = both (expect report (kept_line next.0) reading.at) (λ at. Ok (record reading { at = at; listed = false })) behind h in
      let same : behind ≡ record reading { at = b.value; listed = false } = cc in
      let before : next.0 ≤ reading.standing.batches = leb-true next.0 reading.standing.batches e in
      inl (
        before,
        (
          left b.value,
          stood report (kept_line next.0) reading.at b.value b.first,
          subst (λ r. IsReport plan r.listed r.standing more (left r.at)) same rest,
        ),
      )
  batch_from next more reading behind rest false e h =
      let above : reading.standing.batches < next.0 = leb-false next.0 reading.standing.batches e in
      let a = ran_from reading behind next.1 (nat_lt MOST_REQUESTS (length reading.standing.carried + length next.1)) h in
      inr (above, (behind.standing, behind.listed, left behind.at, answered_from reading behind next.1 a, rest))

  report_from : (script : List (ℕ × List Call)) (reading last : Reading) (end : ℕ) → batches plan report reading script ≡ Ok last
      → ended plan report last ≡ Ok end → IsReport plan reading.listed reading.standing script (left reading.at)
  report_from [] reading last end h e =
      let same : reading ≡ last = cc in
      let b = both (drained plan report (length report) last) (closed plan report) end e in
      subst (λ r. (m : ℕ) × IsDrained plan m r.listed r.standing (left r.at)) (sym same) (drained_from (length report) last b.value end b.first b.second)
  report_from (next ∷ more) reading last end h e =
      let b = both (batch plan report reading next) (λ reading. batches plan report reading more) last h in
      batch_from next more reading b.value (report_from more b.value last end b.second e) (nat_le next.0 reading.standing.batches) refl b.first

  whole_from : (rows : Database) (script : List (ℕ × List Call)) (end : ℕ) → whole plan report rows script ≡ Ok end
      → IsReport plan false (begun rows).standing script report
  whole_from rows script end h =
      let b = both (batches plan report (begun rows) script) (ended plan report) end h in
      report_from script (begun rows) b.value end b.first b.second

  held_by : (rows : Database) (script : List (ℕ × List Call)) (r : Result ℕ Flaw) → whole plan report rows script ≡ r → finding_of r ≡ Holds
      → IsReport plan false (begun rows).standing script report
  held_by rows script (Ok end) e h = whole_from rows script end e
  held_by rows script (Err (flawed.Fails line wanted found)) e h = cc
  held_by rows script (Err (flawed.Crowded number)) e h = cc

  pub held : (rows : Database) (script : List (ℕ × List Call)) → finding plan report rows script ≡ Holds
      → IsReport plan false (begun rows).standing script report
  held rows script h = held_by rows script (whole plan report rows script) refl h
