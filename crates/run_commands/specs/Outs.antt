-- The output of `once`.
use Rattle.std.specs.Prelude.{◌≡◌, ◌≤◌, ℕ, Bool, true, false, List, [], ◌++◌}
use Rattle.std.specs.FinMap as fin
use Rattle.aria_base.specs.declared.limits.TheConstants.{LONGEST_LINE, MOST_PERCENT, MOST_REPLICAS, MOST_WORKERS}
use Rattle.batch_rules.specs.declared.verdicts.Rule.{Rule}
use Rattle.command_words.specs.declared.settings.Listing.{Listing}
use Rattle.command_words.specs.declared.settings.Listing.TheVariants.{Each, Last}
use Rattle.command_words.specs.declared.settings.Once.{Once}
use Rattle.script_course.specs.Courses.{Course, Out, told, told_whole, whole}
use Rattle.script_course.specs.declared.readings.TheConstants.{MOST_BYTES}
use Rattle.script_places.specs.Places.{start}
use Rattle.script_places.specs.declared.places.Mode.TheVariants as mode
use Rattle.script_text.specs.Lines.{Feed, blank, scan}
use Rattle.run_commands.specs.Onces.{Doing, on_line, on_end}
use Rattle.run_commands.specs.Passes.{Turn, ending_behind, turns_whole}

abbrev pub is_each : Listing → Bool
is_each Each = true
is_each Last = false

-- before the first line: no rows, no batches, and these settings
abbrev pub start_by : Rule → ℕ → Bool → Doing
start_by rule percent each = record {
  place = start mode.Once;
  calls = [];
  state = record { rule = rule; percent = percent; rows = fin.empty; waiting = []; batches = 0; requests = 0 };
  each = each;
}

abbrev pub start_of : Once → Doing
start_of settings = start_by settings.rule settings.fallback (is_each settings.listing)

-- no byte was read
abbrev pub no_line : Feed
no_line = blank MOST_BYTES LONGEST_LINE

-- what a text brings, and its end
abbrev pub text_turns : Bool → Doing → List ℕ → List Turn
text_turns drain d text = turns_whole (scan no_line text) ++ ending_behind drain (told_whole on_line no_line d text)

-- what is told of a text as far as it goes, and all that is printed of a whole text. Neither depends on workers and replicas
abbrev pub told_of : Once → List ℕ → Course Doing
told_of settings text = told on_line no_line (start_of settings) text

abbrev pub out_of : Once → List ℕ → Out
out_of settings text = whole on_line (on_end settings.drain) no_line (start_of settings) text

-- the settings are within their bounds
pub record IsInRange (settings : Once) : Type 0 where
  pub workers : (1 ≤ settings.workers) × (settings.workers ≤ MOST_WORKERS)
  pub replicas : (1 ≤ settings.replicas) × (settings.replicas ≤ MOST_REPLICAS)
  pub fallback : settings.fallback ≤ MOST_PERCENT

-- settings that differ in workers, replicas and batons alone
pub record IsAlike (first second : Once) : Type 0 where
  pub rules : first.rule ≡ second.rule
  pub fallbacks : first.fallback ≡ second.fallback
  pub listings : first.listing ≡ second.listing
  pub drains : first.drain ≡ second.drain

-- they tell the same and print the same
abbrev pub AreOne : Once → Once → List ℕ → Type 0
AreOne first second text = (told_of first text ≡ told_of second text) × (out_of first text ≡ out_of second text)
