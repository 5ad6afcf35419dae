use Rattle.std.proofs.Common.{◌≡◌, ap, ◌∙◌, subst, ℕ, List}
use Rattle.aria_base.specs.Reserved.{StandFor}
use Rattle.dep_rules.specs.Sheets.{AreMarksOf}
use Rattle.dep_rules.specs.Words.{Tell}
use Rattle.resv_words.specs.Seats.{Laid}
use Rattle.resv_phase.proofs.Marked.{none_marked, marked_all, as_closed, as_told}
use Rattle.resv_phase.proofs.reservations.reserve.Goals as goal

pub carry_out-requires-clause-fresh : goal.carry_out-requires-clause-fresh
carry_out-requires-clause-fresh g c κs within = none_marked _ _ _ c.in_ok-words.ensures.seat

pub close-requires : goal.close-requires
close-requires g c = record { own = c.in_ok-seat.ensures.2.same_table; whole = c.in_ok-seat.ensures.2.same_share }

pub returns-clause-marks : goal.returns-clause-marks
returns-clause-marks g c =
    as_closed (λ tag keys marks. AreMarksOf c.args.numbered.now marks) c.in_ok-words.words c.in_ok-seat.seat c.close.result
    (marked_all _ _ _ c.in_ok-seat.ensures) c.close.ensures

pub returns-clause-decides : goal.returns-clause-decides
returns-clause-decides g c =
    let sheet = c.args.numbered.now in
    let marks = c.in_ok-seat.seat.marks in
    let keys : c.in_ok-words.words.keys ≡ sheet.keys = ap (λ (l : Laid). l.keys) c.in_ok-words.ensures.words ∙ c.keys.ensures in
    let tag : c.in_ok-words.words.tag ≡ c.args.tag = ap (λ (l : Laid). l.tag) c.in_ok-words.ensures.words in
    as_told (Tell sheet c.args.tag) c.close.result
    (as_closed (λ t k ms. (words : List ℕ) → StandFor t k ms words → Tell sheet c.args.tag words) c.in_ok-words.words c.in_ok-seat.seat c.close.result
    (λ words stand. c.marks_tell.ensures sheet c.args.tag words marks c.len-count.ensures.sheet (marked_all _ _ _ c.in_ok-seat.ensures)
    (subst (λ k. StandFor c.args.tag k marks words) keys (subst (λ t. StandFor t c.in_ok-words.words.keys marks words) tag stand)))
    c.close.ensures)
