-- Lines do not depend on how their text was cut, and are what stands between its line feeds.
use Rattle.std.proofs.Common.{◌≡◌, ℕ, ◌<◌, List, [], ◌∷◌, ◌++◌, Bool, true, false, cond, ◌==◌, None, refl, sym, ap, ◌∙◌, append_assoc, length, map, not, arith}
use Rattle.script_text.specs.Lines.{Feed, Scan, blank, last_line, scan, scan_after, stopped, is_past_line, is_past_limit, with_feed, with_byte, unreturned}
use Rattle.std.specs.Prelude.{option_to_list}
use Rattle.std.specs.List.{slice_split}
use Rattle.std.proofs.lemmas.Bool.{and_from}
use Rattle.std.proofs.lemmas.List.{append-nil}
use Rattle.std.proofs.lemmas.List.Splits.{slice_split_none, slice_split_at, length-slice_split}
use Rattle.std.proofs.lemmas.Option.{none-some}
use Rattle.script_text.proofs.Places.{all_joined}
use Rattle.script_text.proofs.Splits.{lacks_all}
use Rattle.script_text.specs.Cuts.{Lacks}
use Rattle.script_text.specs.Laws.{filled, lines_of, all_lines, lead}
use Rattle.script_text.specs.declared.refusals.RefusalKind.TheVariants.{Long, Size}

-- one byte, where those behind it were looked at already
step : (done : List (List ℕ)) (feed : Feed) (long size feeds : Bool) (next other next' other' : Scan) (b : List ℕ)
    → (next.fault ≡ None → next' ≡ scan_after next.lines next.feed b) → (other.fault ≡ None → other' ≡ scan_after other.lines other.feed b)
    → (cond long (stopped done feed Long) (cond size (stopped done feed Size) (cond feeds next other))).fault ≡ None
    → cond long (stopped done feed Long) (cond size (stopped done feed Size) (cond feeds next' other'))
    ≡ scan_after (cond long (stopped done feed Long) (cond size (stopped done feed Size) (cond feeds next other))).lines
    (cond long (stopped done feed Long) (cond size (stopped done feed Size) (cond feeds next other))).feed b
step done feed true size feeds next other next' other' b h k e = absurd (none-some _ (sym e))
step done feed false true feeds next other next' other' b h k e = absurd (none-some _ (sym e))
step done feed false false true next other next' other' b h k e = h e
step done feed false false false next other next' other' b h k e = k e

pub scan-append : (done : List (List ℕ)) (feed : Feed) (a b : List ℕ) → (scan_after done feed a).fault ≡ None
    → scan_after done feed (a ++ b) ≡ scan_after (scan_after done feed a).lines (scan_after done feed a).feed b
scan-append done feed [] b e = refl
scan-append done feed (x ∷ a) b e =
    step done feed (is_past_line feed x) (is_past_limit feed) (x == 10)
    (scan_after (done ++ unreturned feed.begun ∷ []) (with_feed feed) a) (scan_after done (with_byte feed x) a)
    (scan_after (done ++ unreturned feed.begun ∷ []) (with_feed feed) (a ++ b)) (scan_after done (with_byte feed x) (a ++ b)) b
    (scan-append (done ++ unreturned feed.begun ∷ []) (with_feed feed) a b) (scan-append done (with_byte feed x) a b) e

-- where a byte was past a bound, what follows on it is not looked at
stays : (long size feeds : Bool) (s t next other next' other' : Scan) → ((next.fault ≡ None → ⊥) → next' ≡ next) → ((other.fault ≡ None → ⊥) → other' ≡ other)
    → ((cond long s (cond size t (cond feeds next other))).fault ≡ None → ⊥)
    → cond long s (cond size t (cond feeds next' other')) ≡ cond long s (cond size t (cond feeds next other))
stays true size feeds s t next other next' other' h k e = refl
stays false true feeds s t next other next' other' h k e = refl
stays false false true s t next other next' other' h k e = h e
stays false false false s t next other next' other' h k e = k e

pub scan-faulted : (done : List (List ℕ)) (feed : Feed) (a b : List ℕ) → ((scan_after done feed a).fault ≡ None → ⊥)
    → scan_after done feed (a ++ b) ≡ scan_after done feed a
scan-faulted done feed [] b e = absurd (e refl)
scan-faulted done feed (x ∷ a) b e =
    stays (is_past_line feed x) (is_past_limit feed) (x == 10) (stopped done feed Long) (stopped done feed Size)
    (scan_after (done ++ unreturned feed.begun ∷ []) (with_feed feed) a) (scan_after done (with_byte feed x) a)
    (scan_after (done ++ unreturned feed.begun ∷ []) (with_feed feed) (a ++ b)) (scan_after done (with_byte feed x) (a ++ b))
    (scan-faulted (done ++ unreturned feed.begun ∷ []) (with_feed feed) a b) (scan-faulted done (with_byte feed x) a b) e

-- lines that were there before stand in front
leads : (front done : List (List ℕ)) (feed : Feed) (long size feeds : Bool) (next other next' other' : Scan) → next' ≡ lead front next
    → other' ≡ lead front other
    → cond long (stopped (front ++ done) feed Long) (cond size (stopped (front ++ done) feed Size) (cond feeds next' other'))
    ≡ lead front (cond long (stopped done feed Long) (cond size (stopped done feed Size) (cond feeds next other)))
leads front done feed true size feeds next other next' other' h k = refl
leads front done feed false true feeds next other next' other' h k = refl
leads front done feed false false true next other next' other' h k = h
leads front done feed false false false next other next' other' h k = k

pub scan-lead : (front done : List (List ℕ)) (feed : Feed) (bs : List ℕ) → scan_after (front ++ done) feed bs ≡ lead front (scan_after done feed bs)
scan-lead front done feed [] = refl
scan-lead front done feed (x ∷ bs) =
    let line = unreturned feed.begun in
    leads front done feed (is_past_line feed x) (is_past_limit feed) (x == 10)
    (scan_after (done ++ line ∷ []) (with_feed feed) bs) (scan_after done (with_byte feed x) bs)
    (scan_after ((front ++ done) ++ line ∷ []) (with_feed feed) bs) (scan_after (front ++ done) (with_byte feed x) bs)
    (ap (λ (l : List (List ℕ)). scan_after l (with_feed feed) bs) (append_assoc front done (line ∷ []))
    ∙ scan-lead front (done ++ line ∷ []) (with_feed feed) bs)
    (scan-lead front done (with_byte feed x) bs)

pub cut : (feed : Feed) (a b : List ℕ) → (scan feed a).fault ≡ None → scan feed (a ++ b) ≡ lead (scan feed a).lines (scan (scan feed a).feed b)
cut feed a b none =
    scan-append [] feed a b none
    ∙ ap (λ (l : List (List ℕ)). scan_after l (scan feed a).feed b) (sym (append-nil (scan feed a).lines))
    ∙ scan-lead (scan feed a).lines [] (scan feed a).feed b

-- ---- by line feeds alone

filled_more : (line : List ℕ) (parts : List (List ℕ)) → 0 < length parts → filled (line ∷ parts) ≡ line ∷ filled parts
filled_more line [] some = absurd (omega arith)
filled_more line (p ∷ parts) some = refl

some_parts : (bs : List ℕ) → 0 < length (slice_split (λ b. b == 10) bs)
some_parts bs = omega (arith, length-slice_split (λ b. b == 10) bs)

-- what is there at the end of a text, whatever was begun
ended : (feed : Feed) → Lacks 10 feed.begun → option_to_list (last_line feed) ≡ map unreturned (filled (slice_split (λ b. b == 10) feed.begun))
ended feed lacks = by (length feed.begun == 0) refl
    ∙ sym (ap (λ (parts : List (List ℕ)). map unreturned (filled parts)) (slice_split_none (λ b. b == 10) feed.begun (lacks_all 10 feed.begun lacks)))
  where
    by : (none : Bool) → (length feed.begun == 0) ≡ none → option_to_list (last_line feed) ≡ map unreturned (filled (feed.begun ∷ []))
    by true h = rw h refl
    by false h = rw h refl

-- one byte, where those behind it were looked at already
line : (done : List (List ℕ)) (feed : Feed) (long size feeds : Bool) (next other : Scan) (lines : List (List ℕ))
    → (next.fault ≡ None → feeds ≡ true → all_lines next ≡ lines) → (other.fault ≡ None → feeds ≡ false → all_lines other ≡ lines)
    → (cond long (stopped done feed Long) (cond size (stopped done feed Size) (cond feeds next other))).fault ≡ None
    → all_lines (cond long (stopped done feed Long) (cond size (stopped done feed Size) (cond feeds next other))) ≡ lines
line done feed true size feeds next other lines h k e = absurd (none-some _ (sym e))
line done feed false true feeds next other lines h k e = absurd (none-some _ (sym e))
line done feed false false true next other lines h k e = h e refl
line done feed false false false next other lines h k e = k e refl

by_feeds : (done : List (List ℕ)) (feed : Feed) (bs : List ℕ) → Lacks 10 feed.begun → (scan_after done feed bs).fault ≡ None
    → all_lines (scan_after done feed bs) ≡ done ++ map unreturned (filled (slice_split (λ b. b == 10) (feed.begun ++ bs)))
by_feeds done feed [] lacks none =
    let whole = append-nil feed.begun in
    ap (λ (l : List (List ℕ)). done ++ l) (rw whole (ended feed lacks))
by_feeds done feed (x ∷ bs) lacks none =
    line done feed (is_past_line feed x) (is_past_limit feed) (x == 10)
    (scan_after (done ++ unreturned feed.begun ∷ []) (with_feed feed) bs) (scan_after done (with_byte feed x) bs)
    (done ++ map unreturned (filled (slice_split (λ b. b == 10) (feed.begun ++ x ∷ bs))))
    (λ e at. by_feeds (done ++ unreturned feed.begun ∷ []) (with_feed feed) bs refl e
    ∙ append_assoc done (unreturned feed.begun ∷ []) (map unreturned (filled (slice_split (λ b. b == 10) bs)))
    ∙ ap (λ (parts : List (List ℕ)). done ++ map unreturned parts) (sym (filled_more feed.begun (slice_split (λ b. b == 10) bs) (some_parts bs)))
    ∙ ap (λ (parts : List (List ℕ)). done ++ map unreturned (filled parts))
    (sym (slice_split_at (λ b. b == 10) feed.begun x bs (lacks_all 10 feed.begun lacks) at)))
    (λ e other. by_feeds done (with_byte feed x) bs (all_joined (λ b. not (b == 10)) feed.begun (x ∷ []) lacks
    (and_from (not (x == 10)) true (rw other refl) refl)) e
    ∙ ap (λ (l : List ℕ). done ++ map unreturned (filled (slice_split (λ b. b == 10) l))) (append_assoc feed.begun (x ∷ []) bs)) none

pub whole : (limit longest : ℕ) (text : List ℕ) → (scan (blank limit longest) text).fault ≡ None → all_lines (scan (blank limit longest) text) ≡ lines_of text
whole limit longest text none = by_feeds [] (blank limit longest) text refl none
