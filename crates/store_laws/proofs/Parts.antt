-- A text whose last line is complete, and one behind it, in lines: those of the first one and then those of the second one.
use Rattle.std.proofs.Common.{◌≡◌, ◌⊎◌, inl, inr, ◌∙◌, sym, ap, subst, refl, ℕ, ◌+◌, ◌≤◌, ◌==◌, nat_le, Bool, true, false, cond, not, ◌&&◌, List, [], ◌∷◌, ◌++◌, length, Option, Some, None, append_assoc, length-append, suc, arith}
use Rattle.std.specs.Prelude.{if◌then◌else◌, option_to_list}
use Rattle.std.proofs.lemmas.Option.{none-some}
use Rattle.script_course.proofs.Measures.{scan-taken}
use Rattle.script_text.proofs.Scans.{cut, scan-faulted}
use Rattle.script_text.specs.Laws.{all_lines}
use Rattle.script_text.specs.Lines.{Feed, Scan, blank, is_past_limit, is_past_line, last_line, scan, scan_after, stopped, unreturned, with_byte, with_feed}
use Rattle.script_text.specs.declared.refusals.RefusalKind.TheVariants.{Long, Size}
use Rattle.script_text.specs.declared.refusals.Refusal.{Refusal}
use Rattle.store_laws.specs.Texts.{EndsLine}

-- one byte, where those behind it were looked at already
abbrev next_by : List (List ℕ) → Feed → Bool → Bool → Bool → Scan → Scan → Scan
next_by done feed long size feeds next other = cond long (stopped done feed Long) (cond size (stopped done feed Size) (cond feeds next other))

-- ---- what all bytes keep

module _ (P : Scan → Type 0) (done : List (List ℕ)) (feed : Feed) where
  kept_by : (long size feeds : Bool) (next other : Scan) → (next.fault ≡ None → P next) → (other.fault ≡ None → P other)
      → (next_by done feed long size feeds next other).fault ≡ None → P (next_by done feed long size feeds next other)
  kept_by true size feeds next other h k e = absurd (none-some _ (sym e))
  kept_by false true feeds next other h k e = absurd (none-some _ (sym e))
  kept_by false false true next other h k e = h e
  kept_by false false false next other h k e = k e

-- the bounds stay
abbrev HasBounds : ℕ → ℕ → Scan → Type 0
HasBounds limit longest s = (s.feed.limit ≡ limit) × (s.feed.longest ≡ longest)

bounds : (done : List (List ℕ)) (feed : Feed) (bs : List ℕ) → (scan_after done feed bs).fault ≡ None
    → HasBounds feed.limit feed.longest (scan_after done feed bs)
bounds done feed [] e = (refl, refl)
bounds done feed (x ∷ bs) e =
    kept_by (HasBounds feed.limit feed.longest) done feed (is_past_line feed x) (is_past_limit feed) (x == 10)
    (scan_after (done ++ unreturned feed.begun ∷ []) (with_feed feed) bs) (scan_after done (with_byte feed x) bs)
    (bounds (done ++ unreturned feed.begun ∷ []) (with_feed feed) bs) (bounds done (with_byte feed x) bs) e

-- behind a line feed no line is begun
abbrev IsFresh : Scan → Type 0
IsFresh s = s.feed.begun ≡ []

fresh : (done : List (List ℕ)) (feed : Feed) (front : List ℕ) → (scan_after done feed (front ++ 10 ∷ [])).fault ≡ None
    → IsFresh (scan_after done feed (front ++ 10 ∷ []))
fresh done feed [] e =
    kept_by IsFresh done feed (is_past_line feed 10) (is_past_limit feed) true
    (scan_after (done ++ unreturned feed.begun ∷ []) (with_feed feed) []) (scan_after (done ++ unreturned feed.begun ∷ []) (with_feed feed) []) (λ h. refl)
    (λ h. refl) e
fresh done feed (x ∷ front) e =
    kept_by IsFresh done feed (is_past_line feed x) (is_past_limit feed) (x == 10)
    (scan_after (done ++ unreturned feed.begun ∷ []) (with_feed feed) (front ++ 10 ∷ [])) (scan_after done (with_byte feed x) (front ++ 10 ∷ []))
    (fresh (done ++ unreturned feed.begun ∷ []) (with_feed feed) front) (fresh done (with_byte feed x) front) e

-- ---- a text comes to the same lines wherever it stands, where there is room for it

-- the same line was begun, and there is room for so many bytes: as much as there was, or enough for all
record IsLike (f g : Feed) (more : ℕ) : Type 0 where
  pub limit : g.limit ≡ f.limit
  pub longest : g.longest ≡ f.longest
  pub begun : g.begun ≡ f.begun
  pub room : (g.taken ≤ f.taken) ⊎ (g.taken + more ≤ g.limit)

record Alike (s t : Scan) : Type 0 where
  pub right : t.fault ≡ None
  pub lines : t.lines ≡ s.lines
  pub begun : t.feed.begun ≡ s.feed.begun

-- behind one byte more
room_on : (f g : Feed) (more : ℕ) → (g.taken ≤ f.taken) ⊎ (g.taken + suc more ≤ g.limit) → (g.taken + 1 ≤ f.taken + 1) ⊎ (g.taken + 1 + more ≤ g.limit)
room_on f g more (inl h) = inl (omega (arith, h))
room_on f g more (inr h) = inr (omega (arith, h))

module _ (done : List (List ℕ)) (f g : Feed) where
  alike_by : (long past size full feeds : Bool) (next other next' other' : Scan) → past ≡ long → (size ≡ false → full ≡ false)
      → (next.fault ≡ None → Alike next next') → (other.fault ≡ None → Alike other other')
      → (next_by done f long size feeds next other).fault ≡ None
      → Alike (next_by done f long size feeds next other) (next_by done g past full feeds next' other')
  alike_by true past size full feeds next other next' other' same room h k e = absurd (none-some _ (sym e))
  alike_by false true size full feeds next other next' other' same room h k e = absurd cc
  alike_by false false true full feeds next other next' other' same room h k e = absurd (none-some _ (sym e))
  alike_by false false false true feeds next other next' other' same room h k e = absurd (let no : true ≡ false = room refl in cc)
  alike_by false false false false true next other next' other' same room h k e = h e
  alike_by false false false false false next other next' other' same room h k e = k e

  same_line : (x more : ℕ) → IsLike f g more → is_past_line g x ≡ is_past_line f x
  same_line x more like = λ i. not (x == 10) && nat_le (like.longest i) (length (like.begun i))

  has_room : (more : ℕ) → g.limit ≡ f.limit → (g.taken ≤ f.taken) ⊎ (g.taken + suc more ≤ g.limit) → is_past_limit f ≡ false → is_past_limit g ≡ false
  has_room more same (inl h) e = grind (arith, same, h, e)
  has_room more same (inr h) e = grind (arith, h)

alike : (done : List (List ℕ)) (f g : Feed) (bs : List ℕ) → IsLike f g (length bs) → (scan_after done f bs).fault ≡ None
    → Alike (scan_after done f bs) (scan_after done g bs)
alike done f g [] like e = record { right = refl; lines = refl; begun = like.begun }
alike done f g (x ∷ bs) like e =
    let room = room_on f g (length bs) like.room in
    let here : IsLike (with_feed f) (with_feed g) (length bs) = record { limit = like.limit; longest = like.longest; begun = refl; room = room } in
    let on : IsLike (with_byte f x) (with_byte g x) (length bs) =
    record { limit = like.limit; longest = like.longest; begun = ap (λ (l : List ℕ). l ++ x ∷ []) like.begun; room = room } in
    alike_by done f g (is_past_line f x) (is_past_line g x) (is_past_limit f) (is_past_limit g) (x == 10)
    (scan_after (done ++ unreturned f.begun ∷ []) (with_feed f) bs) (scan_after done (with_byte f x) bs)
    (scan_after (done ++ unreturned g.begun ∷ []) (with_feed g) bs) (scan_after done (with_byte g x) bs) (same_line done f g x (length (x ∷ bs)) like)
    (has_room done f g (length bs) like.limit like.room)
    (λ right. subst (λ (l : List ℕ). Alike (scan_after (done ++ unreturned f.begun ∷ []) (with_feed f) bs)
    (scan_after (done ++ unreturned l ∷ []) (with_feed g) bs)) (sym like.begun)
    (alike (done ++ unreturned f.begun ∷ []) (with_feed f) (with_feed g) bs here right))
    (λ right. alike done (with_byte f x) (with_byte g x) bs on right) e

-- ---- two texts

right_front : (feed : Feed) (a b : List ℕ) (fault : Option Refusal) → (scan feed a).fault ≡ fault → (scan feed (a ++ b)).fault ≡ None
    → (scan feed a).fault ≡ None
right_front feed a b None is e = is
right_front feed a b (Some refusal) is e =
    let stays = scan-faulted [] feed a b (λ none. let no : Some refusal ≡ None = sym is ∙ none in absurd cc) in
    ap (λ (s : Scan). s.fault) (sym stays) ∙ e

module _ (limit longest : ℕ) where
  abbrev Of : List ℕ → Scan
  Of text = scan (blank limit longest) text

  ends_fresh : (head : List ℕ) → EndsLine head → (Of head).fault ≡ None → (Of head).feed.begun ≡ []
  ends_fresh head (inl none) right = ap (λ (text : List ℕ). (Of text).feed.begun) none
  ends_fresh head (inr (front, is)) right =
      let IsRight : List ℕ → Type 0 = λ text. (Of text).fault ≡ None in
      ap (λ (text : List ℕ). (Of text).feed.begun) is ∙ fresh [] (blank limit longest) front (subst IsRight is right)

  pub record Parts (head script : List ℕ) : Type 0 where
    pub head_right : (Of head).fault ≡ None
    pub head_ends : (Of head).feed.begun ≡ []
    pub script_right : (Of script).fault ≡ None
    pub lines : all_lines (Of (head ++ script)) ≡ (Of head).lines ++ all_lines (Of script)

  pub parts : (head script : List ℕ) → EndsLine head → (Of (head ++ script)).fault ≡ None → Parts head script
  parts head script ends right =
      let front = right_front (blank limit longest) head script (Of head).fault refl right in
      let none = ends_fresh head ends front in
      let has = bounds [] (blank limit longest) head front in
      let rest = (Of head).feed in
      let whole = cut (blank limit longest) head script front in
      let rest_right : (scan rest script).fault ≡ None = ap (λ (s : Scan). s.fault) (sym whole) ∙ right in
      let same = alike [] rest (blank limit longest) script (record { limit = sym has.0; longest = sym has.1; begun = sym none; room = inl (omega arith) })
      rest_right in
      record {
        head_right = front;
        head_ends = none;
        script_right = same.right;
        lines =
            ap all_lines whole
            ∙ append_assoc (Of head).lines (scan rest script).lines (option_to_list (last_line (scan rest script).feed))
            ∙ (λ i. (Of head).lines ++ (sym same.lines i ++ option_to_list
            (if length (sym same.begun i) == 0 then None else Some (unreturned (sym same.begun i)))));
      }

  -- both are right, and there is room for both
  pub joined : (head script : List ℕ) → EndsLine head → (Of head).fault ≡ None → (Of script).fault ≡ None → length (head ++ script) ≤ limit
      → (Of (head ++ script)).fault ≡ None
  joined head script ends front back few =
      let none = ends_fresh head ends front in
      let has = bounds [] (blank limit longest) head front in
      let rest = (Of head).feed in
      let taken = scan-taken [] (blank limit longest) head front in
      let all = length-append head script in
      let limit_is = has.0 in
      let room : rest.taken + length script ≤ rest.limit = omega (arith, taken, all, few, limit_is) in
      let same = alike [] (blank limit longest) rest script (record { limit = has.0; longest = has.1; begun = none; room = inr room }) back in
      ap (λ (s : Scan). s.fault) (cut (blank limit longest) head script front) ∙ same.right
