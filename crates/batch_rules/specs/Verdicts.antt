-- Who waits for whom in the commit phase. S is whatever tells of two requests which dependencies the one has on the other: the request
-- itself, a value that holds its sets, a number by which its sets are found. The numbers are places in the batch's list, from 1.
use Rattle.std.specs.Prelude.{ℕ, List, Option, Some, None, Bool, true, false, not}
use Rattle.std.specs.declared.cmp.Ordering.{Ordering}
use Rattle.std.specs.List.{list_any, position_from}
use Rattle.batch_rules.specs.declared.verdicts.Rule.{Rule}
use Rattle.batch_rules.specs.declared.verdicts.Rule.TheVariants.{Plain, Reorder}
use Rattle.batch_rules.specs.declared.verdicts.Cause.TheVariants.{Waw, Raw, Both}
use Rattle.batch_rules.specs.declared.verdicts.Verdict.{Verdict}
use Rattle.batch_rules.specs.declared.verdicts.Verdict.TheVariants.{Finish, Wait}
use Rattle.batch_rules.specs.Touches.{is_among}

abbrev pub finishes : Verdict → Bool
finishes (Finish raw) = true
finishes (Wait cause) = false

abbrev pub waits : Verdict → Bool
waits v = not (finishes v)

-- it finishes, and read what an earlier request writes
abbrev pub goes_ahead : Verdict → Bool
goes_ahead (Finish raw) = raw
goes_ahead (Wait cause) = false

-- it finishes, and read nothing that an earlier request writes
abbrev pub keeps_turn : Verdict → Bool
keeps_turn (Finish raw) = not raw
keeps_turn (Wait cause) = false

-- the verdict by the least requests on which there is a dependency of each kind
abbrev pub verdict_by : Rule → Option ℕ → Option ℕ → Option ℕ → Verdict
verdict_by rule (Some waw) raw war = Wait (Waw waw)
verdict_by Plain None (Some raw) war = Wait (Raw raw)
verdict_by Reorder None (Some raw) (Some war) = Wait (Both raw war)
verdict_by Reorder None (Some raw) None = Finish true
verdict_by rule None None war = Finish false

-- the least number of a request of the list, counted from 1, of which this holds
abbrev pub least : {S : Type 0} → (S → Bool) → List S → Option ℕ
least holds requests = position_from holds 1 requests

-- the dependencies of a request, which stands first, on an earlier one
pub record Dependencies (S : Type 0) : Type 0 where
  -- both write a common key
  pub waw : S → S → Bool
  -- it reads what the earlier one writes
  pub raw : S → S → Bool
  -- it writes what the earlier one reads
  pub war : S → S → Bool

-- the verdict of `me` after all earlier requests, those that wait included
abbrev pub verdict_on : {S : Type 0} → Dependencies S → Rule → List S → S → Verdict
verdict_on on rule earlier me = verdict_by rule (least (on.waw me) earlier) (least (on.raw me) earlier) (least (on.war me) earlier)

-- the same dependencies of values that these are made of
abbrev pub through : {S Z : Type 0} → (Z → S) → Dependencies S → Dependencies Z
through of on = record {
  waw = λ me other. on.waw (of me) (of other);
  raw = λ me other. on.raw (of me) (of other);
  war = λ me other. on.war (of me) (of other);
}

-- whether two lists have a common key
abbrev pub meets : {K : Type 0} (R : K → K → Ordering) → List K → List K → Bool
meets R xs ys = list_any (is_among R ys) xs

module _ {K S : Type 0} (R : K → K → Ordering) (reads writes : S → List K) where
  -- the dependencies by the keys that each reads and writes
  abbrev pub by_keys : Dependencies S
  by_keys = record {
    waw = λ me other. meets R (writes me) (writes other);
    raw = λ me other. meets R (reads me) (writes other);
    war = λ me other. meets R (writes me) (reads other);
  }

  -- and the verdict by them
  abbrev pub verdict : Rule → List S → S → Verdict
  verdict rule earlier me = verdict_on by_keys rule earlier me
