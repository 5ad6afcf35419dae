-- How far a text is taken by a piece.
use Rattle.std.proofs.Common.{◌≡◌, ℕ, ◌+◌, ◌≤◌, List, [], ◌∷◌, ◌++◌, length, Bool, true, false, cond, ◌==◌, None, refl, sym, ap, ◌∙◌, arith}
use Rattle.std.proofs.lemmas.Bool.{leb-false}
use Rattle.std.proofs.lemmas.Option.{none-some}
use Rattle.script_text.specs.Lines.{Feed, Scan, scan, scan_after, stopped, is_past_line, is_past_limit, with_feed, with_byte, unreturned}
use Rattle.script_text.specs.declared.refusals.RefusalKind.TheVariants.{Long, Size}

-- each byte that is not past a bound was taken
counts : (done : List (List ℕ)) (feed : Feed) (n : ℕ) (long size feeds : Bool) (next other : Scan)
    → (next.fault ≡ None → next.feed.taken ≡ feed.taken + 1 + n) → (other.fault ≡ None → other.feed.taken ≡ feed.taken + 1 + n)
    → (cond long (stopped done feed Long) (cond size (stopped done feed Size) (cond feeds next other))).fault ≡ None
    → (cond long (stopped done feed Long) (cond size (stopped done feed Size) (cond feeds next other))).feed.taken ≡ feed.taken + 1 + n
counts done feed n true size feeds next other h k e = absurd (none-some _ (sym e))
counts done feed n false true feeds next other h k e = absurd (none-some _ (sym e))
counts done feed n false false true next other h k e = h e
counts done feed n false false false next other h k e = k e

pub scan-taken : (done : List (List ℕ)) (feed : Feed) (bs : List ℕ) → (scan_after done feed bs).fault ≡ None
    → (scan_after done feed bs).feed.taken ≡ feed.taken + length bs
scan-taken done feed [] e = omega arith
scan-taken done feed (x ∷ bs) e =
    let one = counts done feed (length bs) (is_past_line feed x) (is_past_limit feed) (x == 10)
    (scan_after (done ++ unreturned feed.begun ∷ []) (with_feed feed) bs) (scan_after done (with_byte feed x) bs)
    (scan-taken (done ++ unreturned feed.begun ∷ []) (with_feed feed) bs) (scan-taken done (with_byte feed x) bs) e in
    omega (arith, one)

-- the limit stays
keeps : (done : List (List ℕ)) (feed : Feed) (long size feeds : Bool) (next other : Scan) → next.feed.limit ≡ feed.limit → other.feed.limit ≡ feed.limit
    → (cond long (stopped done feed Long) (cond size (stopped done feed Size) (cond feeds next other))).feed.limit ≡ feed.limit
keeps done feed true size feeds next other h k = refl
keeps done feed false true feeds next other h k = refl
keeps done feed false false true next other h k = h
keeps done feed false false false next other h k = k

pub scan-limit : (done : List (List ℕ)) (feed : Feed) (bs : List ℕ) → (scan_after done feed bs).feed.limit ≡ feed.limit
scan-limit done feed [] = refl
scan-limit done feed (x ∷ bs) =
    keeps done feed (is_past_line feed x) (is_past_limit feed) (x == 10) (scan_after (done ++ unreturned feed.begun ∷ []) (with_feed feed) bs)
    (scan_after done (with_byte feed x) bs)
    (scan-limit (done ++ unreturned feed.begun ∷ []) (with_feed feed) bs) (scan-limit done (with_byte feed x) bs)

-- and no more bytes are taken than may be
fits : (done : List (List ℕ)) (feed : Feed) (long size feeds : Bool) (next other : Scan) → (size ≡ false → next.fault ≡ None → next.feed.taken ≤ feed.limit)
    → (size ≡ false → other.fault ≡ None → other.feed.taken ≤ feed.limit)
    → (cond long (stopped done feed Long) (cond size (stopped done feed Size) (cond feeds next other))).fault ≡ None
    → (cond long (stopped done feed Long) (cond size (stopped done feed Size) (cond feeds next other))).feed.taken ≤ feed.limit
fits done feed true size feeds next other h k e = absurd (none-some _ (sym e))
fits done feed false true feeds next other h k e = absurd (none-some _ (sym e))
fits done feed false false true next other h k e = h refl e
fits done feed false false false next other h k e = k refl e

pub scan-within : (done : List (List ℕ)) (feed : Feed) (bs : List ℕ) → feed.taken ≤ feed.limit → (scan_after done feed bs).fault ≡ None
    → (scan_after done feed bs).feed.taken ≤ feed.limit
scan-within done feed [] within e = within
scan-within done feed (x ∷ bs) within e =
    fits done feed (is_past_line feed x) (is_past_limit feed) (x == 10) (scan_after (done ++ unreturned feed.begun ∷ []) (with_feed feed) bs)
    (scan_after done (with_byte feed x) bs)
    (λ small. scan-within (done ++ unreturned feed.begun ∷ []) (with_feed feed) bs (omega (arith, leb-false feed.limit feed.taken small)))
    (λ small. scan-within done (with_byte feed x) bs (omega (arith, leb-false feed.limit feed.taken small))) e

-- what the loop asks of a piece
pub gone : (feed after : Feed) (bs : List ℕ) → feed.taken ≤ feed.limit → (scan feed bs).fault ≡ None → (scan feed bs).feed ≡ after
    → (after.taken ≡ feed.taken + length bs) × (after.limit ≡ feed.limit) × (after.taken ≤ after.limit)
gone feed after bs within none same =
    let taken : after.taken ≡ feed.taken + length bs = ap (λ f. f.taken) (sym same) ∙ scan-taken [] feed bs none in
    let limit : after.limit ≡ feed.limit = ap (λ f. f.limit) (sym same) ∙ scan-limit [] feed bs in
    let most : (scan feed bs).feed.taken ≤ feed.limit = scan-within [] feed bs within none in
    let here : after.taken ≡ (scan feed bs).feed.taken = ap (λ f. f.taken) (sym same) in
    (taken, limit, omega (arith, here, most, limit))
