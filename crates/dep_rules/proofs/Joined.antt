-- Numbers of all requests in one list are below what all of the list are below.
use Rattle.std.proofs.Common.{◌≡◌, ◌≤◌, ◌<◌, ◌-◌, ℕ, List, [], length, map, take, drop, All, get_or, subst, sym, ◌∙◌, arith}
use Rattle.std.specs.Prelude.{slice_index_or}
use Rattle.std.proofs.lemmas.List.{length-map}
use Rattle.std.proofs.lemmas.List.Elements.{All-get_or, All-map, All-take, All-drop}
use Rattle.aria_base.specs.declared.limits.TheConstants.{MOST_REQUESTS}
use Rattle.dep_rules.specs.declared.numberings.Stretch.{Stretch}
use Rattle.dep_rules.specs.Joined.{reads_in, writes_in}
use Rattle.dep_rules.specs.Sheets.{IsSheet, AllBelow}

-- a list among lists below a number is below it
pub at_below : (keys : ℕ) (lists : List (List ℕ)) (place : ℕ) (list : List ℕ) → place < length lists → AllBelow keys lists
    → list ≡ slice_index_or lists place [] → All (λ k. k < keys) list
at_below keys lists place list within all is = subst (All (λ k. k < keys)) (sym is)
    (All-get_or (λ (l : List ℕ). All (λ k. k < keys) l) lists place [] within all)

ranges_below : (keys : ℕ) (numbers : List ℕ) (from to : Stretch → ℕ) (stretches : List Stretch) → All (λ k. k < keys) numbers
    → AllBelow keys (map (λ s. take (to s - from s) (drop (from s) numbers)) stretches)
ranges_below keys numbers from to stretches all = All-map (λ list. All (λ k. k < keys) list) (λ s. take (to s - from s) (drop (from s) numbers)) stretches
    (λ i d lt. All-take (λ k. k < keys) (to (get_or stretches i d) - from (get_or stretches i d)) (drop (from (get_or stretches i d)) numbers)
    (All-drop (λ k. k < keys) (from (get_or stretches i d)) numbers all))

pub joined_sheet : (numbers : List ℕ) (stretches : List Stretch) (keys : ℕ) → length stretches ≤ MOST_REQUESTS → All (λ k. k < keys) numbers
    → IsSheet (record { reads = map (reads_in numbers) stretches; writes = map (writes_in numbers) stretches; keys = keys })
joined_sheet numbers stretches keys few below = record {
  same = length-map stretches (reads_in numbers) ∙ sym (length-map stretches (writes_in numbers));
  count = let long = length-map stretches (reads_in numbers) in omega (arith, long, few);
  reads_below = ranges_below keys numbers (λ s. s.start) (λ s. s.middle) stretches below;
  writes_below = ranges_below keys numbers (λ s. s.middle) (λ s. s.end) stretches below;
}
