-- What was read from the closed table tells of all marks.
use Rattle.std.proofs.Common.{◌≡◌, ℕ, ◌+◌, ◌*◌, ◌<◌, List, length, get_or, subst, sym, ◌∙◌, arith, All}
use mathlib.Core.Option.{some}
use lib.ListN.{get_elem?}
use Rattle.atomic_table.specs.Table.{Final, Seen}
use Rattle.aria_base.proofs.Shares.{get_or-get_elem}
use Rattle.aria_base.proofs.Reserved.{StandFor-AreWords, AreWords-same, StandFor-same, AreAbove-words}
use Rattle.aria_base.specs.declared.limits.TheConstants.{TAGS}
use Rattle.aria_base.specs.declared.marks.Mark.{Mark}
use Rattle.aria_base.specs.Reserved.{AreAbove, AreWords, HasTid}
use Rattle.resv_words.specs.declared.rules.View.{View}
use Rattle.aria_base.specs.Shares.{all_shares}
use Rattle.resv_words.specs.Rule.{Kept}
use Rattle.resv_words.specs.Seats.{Laid, Marker, ClosedWords, closed_of, Tells}
use Rattle.resv_words.proofs.Keeps.{closes}

tells : (closed : ClosedWords) (words : List ℕ) → closed.tag < TAGS → AreAbove closed.tag closed.old → All HasTid closed.marks
    → AreWords closed.old closed.tag closed.keys closed.marks words → Tells closed words
tells closed words small above tids are =
    let stand = StandFor-AreWords closed.old closed.tag closed.keys closed.marks words small above tids are in
    record {
      words_are = are;
      stand = stand;
      as_set = λ marks same. (
        AreWords-same closed.old closed.tag closed.keys closed.marks marks words same are,
        StandFor-same closed.tag closed.keys closed.marks marks words same stand,
      );
      later = AreAbove-words closed.old closed.tag closed.keys closed.marks words small above are;
    }

-- `row` is what the table held, its last word being no key's
pub closing : (laid : Laid) (seat : Marker) (key_tag id : ℕ) (v : View) (row : List ℕ) (slots : List (Unit {0})) (words : List ℕ)
    → key_tag ≡ laid.tag → laid.tag < TAGS → AreAbove laid.tag laid.old → All HasTid v.marks → v.share ≡ all_shares → v.marks ≡ seat.marks
    → Final (Seen (Kept laid.old key_tag) id v) row slots → length row ≡ 2 * laid.keys + 1 → length words ≡ 2 * laid.keys
    → ((k : ℕ) → k < 2 * laid.keys → get_elem? row k ≡ some (get_or words k 0))
    → Tells (closed_of laid seat) words
closing laid seat key_tag id v row slots words same_tag small above tids whole same_marks final row_length words_length read =
    let final' = subst (λ (tag : ℕ). Final (Seen (Kept laid.old tag) id v) row slots) same_tag final in
    let are : AreWords laid.old laid.tag laid.keys v.marks words = record {
      two_a_key = words_length;
      each = λ place lt. sym (get_or-get_elem row place (get_or words place 0) (read place lt))
          ∙ closes laid.old laid.tag id v row slots whole small above tids final' place (omega arith);
    } in
    subst (λ (marks : List Mark). Tells (closed_of laid record seat { marks = marks }) words) same_marks
    (tells (closed_of laid record seat { marks = v.marks }) words small above tids are)
