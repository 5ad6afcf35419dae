-- The catalogue that a body begins with is read exactly.
use Rattle.std.proofs.Common.{◌≡◌, ℕ, zero, suc, ◌+◌, ◌-◌, ◌<◌, ◌≤◌, ◌≢◌, List, [], ◌∷◌, ◌++◌, length, map, take, drop, Option, Some, None, Bool, true, false, cond, refl, ap, subst, sym, ◌∙◌, arith, length-take}
use Rattle.std.specs.Prelude.{All, option_map, option_and_then, ◌==◌, not, bytes_eq, Ok}
use Rattle.std.specs.List.{list_all, concat}
use Rattle.std.proofs.lemmas.Bool.{and_parts, and_from, eq-eqb, eqb-true, ne_eqb}
use Rattle.std.proofs.Math.Seq.{take-append_seam, drop-append_seam}
use Rattle.std.proofs.lemmas.List.{append_assoc, append-nil, take-append-drop}
use Rattle.std.proofs.lemmas.List.Elements.{All-head, All-tail, All-nil}
use Rattle.std.proofs.lemmas.Slice.Eq.{bytes_eq-Decides}
use Rattle.std.proofs.lemmas.Grind.{common_steps}
use Rattle.proc_lang.specs.Catalogs.{Plan, IsCatalog}
use Rattle.cat_forms.specs.Texts.{Tells}
use Rattle.cat_forms.specs.Written.{data_of}
use Rattle.cat_text.specs.Texts.{catalog_of}
use Rattle.cat_text.proofs.Said.{tells}
use Rattle.script_text.specs.Cuts.{Lacks, IsCutAt}
use Rattle.image_text.specs.declared.fronts.TheConstants.{PIECE}
use Rattle.image_text.specs.Lines.{lines_text}
use Rattle.image_text.specs.Exactly.{found}
use Rattle.image_text.specs.Fronts.{catalog_text, pieces_from, pieces, piece_line, pieces_text, title, front_text, behind, joined_from, joined, with_plan, front_of, IsNoPiece}
use Rattle.image_text.proofs.LinesTaken.{is_false}
use Rattle.image_text.proofs.NoFeeds.{text_lacks, joined as joined_lacks}

-- ---- bytes in front

pub behind_again : (front rest : List ℕ) → behind front (front ++ rest) ≡ Some rest
behind_again front rest =
    let t : take (length front) (front ++ rest) ≡ front = take-append_seam front rest in
    let d : drop (length front) (front ++ rest) ≡ rest = drop-append_seam front rest in
    let same : bytes_eq (take (length front) (front ++ rest)) front ≡ true = (bytes_eq-Decides (take (length front) (front ++ rest)) front).1 t in
    ap (λ (b : Bool). cond b (Some (drop (length front) (front ++ rest))) None) same ∙ ap Some d

pub behind_read : (front bytes rest : List ℕ) → behind front bytes ≡ Some rest → bytes ≡ front ++ rest
behind_read front bytes rest e = by (bytes_eq (take (length front) bytes) front) refl e
  where
    by : (b : Bool) → bytes_eq (take (length front) bytes) front ≡ b → cond b (Some (drop (length front) bytes)) None ≡ Some rest → bytes ≡ front ++ rest
    by false w k = cc
    by true w k =
        let t : take (length front) bytes ≡ front = (bytes_eq-Decides (take (length front) bytes) front).0 w in
        let d : drop (length front) bytes ≡ rest = cc in
        sym (take-append-drop (length front) bytes) ∙ ap (λ (l : List ℕ). l ++ drop (length front) bytes) t ∙ ap (λ (l : List ℕ). front ++ l) d

-- ---- pieces

whole_from : (begun front rest : List ℕ) → length begun + length front ≡ PIECE → 0 < length front
    → pieces_from begun (front ++ rest) ≡ (begun ++ front) ∷ pieces_from [] rest
whole_from begun [] rest n some = absurd (omega arith)
whole_from begun (b ∷ []) rest n some = let e = eq-eqb (length begun + 1) PIECE (grind (arith, common_steps, n)) in rw e refl
whole_from begun (b ∷ c ∷ front) rest n some =
    let e : (length begun + 1 == PIECE) ≡ false = ne_eqb (length begun + 1) PIECE (grind (arith, common_steps, n)) in
    rw e (whole_from (begun ++ b ∷ []) (c ∷ front) rest (grind (arith, common_steps, n)) (grind (arith, common_steps))
    ∙ ap (λ (l : List ℕ). l ∷ pieces_from [] rest) (append_assoc begun (b ∷ []) (c ∷ front)))

some_left : (b : ℕ) (begun : List ℕ) → pieces_from (b ∷ begun) [] ≡ (b ∷ begun) ∷ []
some_left b begun = let e = ne_eqb (length (b ∷ begun)) 0 (omega arith) in rw e refl

short_from : (begun bytes : List ℕ) → length begun + length bytes < PIECE → 0 < length begun + length bytes → pieces_from begun bytes ≡ (begun ++ bytes) ∷ []
short_from [] [] n some = absurd (omega arith)
short_from (b ∷ begun) [] n some = some_left b begun ∙ ap (λ (l : List ℕ). l ∷ []) (sym (append-nil (b ∷ begun)))
short_from begun (b ∷ bytes) n some =
    let e : (length begun + 1 == PIECE) ≡ false = ne_eqb (length begun + 1) PIECE (grind (arith, common_steps, n)) in
    rw e (short_from (begun ++ b ∷ []) bytes (grind (arith, common_steps, n)) (grind (arith, common_steps))
    ∙ ap (λ (l : List ℕ). l ∷ []) (append_assoc begun (b ∷ []) bytes))

first_piece : (text : List ℕ) → PIECE < length text → pieces text ≡ take PIECE text ∷ pieces (drop PIECE text)
first_piece text h =
    let n : length (take PIECE text) ≡ PIECE = omega (arith, length-take PIECE text) in
    ap pieces (sym (take-append-drop PIECE text)) ∙ whole_from [] (take PIECE text) (drop PIECE text) (omega (arith, n)) (omega (arith, n))

last_piece : (text : List ℕ) → 0 < length text → length text ≤ PIECE → pieces text ≡ text ∷ []
last_piece text some few = by (length text == PIECE) refl
  where
    by : (b : Bool) → (length text == PIECE) ≡ b → pieces text ≡ text ∷ []
    by true e =
        let n : length text ≡ PIECE = grind (arith, common_steps, e) in
        ap pieces (sym (append-nil text)) ∙ whole_from [] text [] (omega (arith, n)) some
    by false e = short_from [] text (grind (arith, common_steps, e)) (omega (arith, some))

first_text : (text piece rest : List ℕ) → PIECE < length text → piece ≡ take PIECE text → rest ≡ drop PIECE text
    → pieces_text text ≡ (piece_line piece ++ 10 ∷ []) ++ pieces_text rest
first_text text piece rest h p r =
    ap (λ (ps : List (List ℕ)). lines_text (map piece_line ps)) (first_piece text h)
    ∙ ap (λ (l : List ℕ). (piece_line l ++ 10 ∷ []) ++ pieces_text (drop PIECE text)) (sym p)
    ∙ ap (λ (l : List ℕ). (piece_line piece ++ 10 ∷ []) ++ pieces_text l) (sym r)

last_text : (text : List ℕ) → 0 < length text → length text ≤ PIECE → pieces_text text ≡ piece_line text ++ 10 ∷ []
last_text text some few = ap (λ (ps : List (List ℕ)). lines_text (map piece_line ps)) (last_piece text some few) ∙ append-nil (piece_line text ++ 10 ∷ [])

pub no_text : (text : List ℕ) → length text ≡ 0 → pieces_text text ≡ []
no_text [] e = refl
no_text (b ∷ text) e = absurd (omega arith)

pub first_written : (out before text piece rest : List ℕ) → PIECE < length text → piece ≡ take PIECE text → rest ≡ drop PIECE text
    → out ≡ before ++ piece_line piece ++ 10 ∷ []
    → out ++ pieces_text rest ≡ before ++ pieces_text text
first_written out before text piece rest h p r e =
    ap (λ (l : List ℕ). l ++ pieces_text rest) (e ∙ append_assoc before (piece_line piece) (10 ∷ []))
    ∙ append_assoc before (piece_line piece ++ 10 ∷ []) (pieces_text rest)
    ∙ ap (λ (l : List ℕ). before ++ l) (sym (first_text text piece rest h p r))

pub last_written : (out before text : List ℕ) → 0 < length text → length text ≤ PIECE → out ≡ before ++ piece_line text ++ 10 ∷ []
    → out ≡ before ++ pieces_text text
last_written out before text some few e = e ∙ append_assoc before (piece_line text) (10 ∷ []) ∙ ap (λ (l : List ℕ). before ++ l) (sym (last_text text some few))

concat_from : (begun bytes : List ℕ) → concat (pieces_from begun bytes) ≡ begun ++ bytes
concat_from [] [] = refl
concat_from (b ∷ begun) [] = ap concat (some_left b begun)
concat_from begun (b ∷ bytes) = by (concat_from [] bytes) (concat_from (begun ++ b ∷ []) bytes) (length begun + 1 == PIECE)
  where
    by : concat (pieces_from [] bytes) ≡ bytes → concat (pieces_from (begun ++ b ∷ []) bytes) ≡ (begun ++ b ∷ []) ++ bytes → (full : Bool)
        → concat (cond full ((begun ++ b ∷ []) ∷ pieces_from [] bytes) (pieces_from (begun ++ b ∷ []) bytes)) ≡ begun ++ b ∷ bytes
    by new old true = ap (λ (l : List ℕ). (begun ++ b ∷ []) ++ l) new ∙ append_assoc begun (b ∷ []) bytes
    by new old false = old ∙ append_assoc begun (b ∷ []) bytes

all_more : {X : Type 0} (P : X → Type 0) (x : X) (xs : List X) → P x → All P xs → All P (x ∷ xs)
all_more P x xs h all zero d below = h
all_more P x xs h all (suc i) d below = all i d (omega arith)

lack_from : (begun bytes : List ℕ) → Lacks 10 begun → Lacks 10 bytes → All (Lacks 10) (pieces_from begun bytes)
lack_from [] [] h k = All-nil (Lacks 10)
lack_from (b ∷ begun) [] h k = subst (All (Lacks 10)) (sym (some_left b begun)) (all_more (Lacks 10) (b ∷ begun) [] h (All-nil (Lacks 10)))
lack_from begun (b ∷ bytes) h k =
    let parts = and_parts (not (b == 10)) (list_all (λ c. not (c == 10)) bytes) k in
    let longer : Lacks 10 (begun ++ b ∷ []) = joined_lacks begun (b ∷ []) h (and_from _ _ parts.0 refl) in
    by longer (lack_from [] bytes refl parts.1) (lack_from (begun ++ b ∷ []) bytes longer parts.1) (length begun + 1 == PIECE)
  where
    by : Lacks 10 (begun ++ b ∷ []) → All (Lacks 10) (pieces_from [] bytes) → All (Lacks 10) (pieces_from (begun ++ b ∷ []) bytes) → (full : Bool)
        → All (Lacks 10) (cond full ((begun ++ b ∷ []) ∷ pieces_from [] bytes) (pieces_from (begun ++ b ∷ []) bytes))
    by longer new old true = all_more (Lacks 10) (begun ++ b ∷ []) (pieces_from [] bytes) longer new
    by longer new old false = old

-- ---- pieces joined

inside : (text line rest : List ℕ) → Lacks 10 line → joined_from text true (line ++ 10 ∷ rest) ≡ joined_from (text ++ line) false rest
inside text [] rest h = ap (λ (l : List ℕ). joined_from l false rest) (sym (append-nil text))
inside text (b ∷ line) rest h =
    let parts = and_parts (not (b == 10)) (list_all (λ c. not (c == 10)) line) h in
    let e = is_false (b == 10) parts.0 in
    rw e (inside (text ++ b ∷ []) line rest parts.1 ∙ ap (λ (l : List ℕ). joined_from l false rest) (append_assoc text (b ∷ []) line))

piece_joined : (text line rest : List ℕ) → Lacks 10 line → joined_from text false (58 ∷ (line ++ 10 ∷ rest)) ≡ joined_from (text ++ line) false rest
piece_joined text line rest h = inside text line rest h

open_inside : (text line : List ℕ) → Lacks 10 line → joined_from text true line ≡ None
open_inside text [] h = refl
open_inside text (b ∷ line) h =
    let parts = and_parts (not (b == 10)) (list_all (λ c. not (c == 10)) line) h in
    let e = is_false (b == 10) parts.0 in
    rw e (open_inside (text ++ b ∷ []) line parts.1)

unended : (text line : List ℕ) → Lacks 10 line → joined_from text false (58 ∷ line) ≡ None
unended text line h = open_inside text line h

no_piece : (text rest : List ℕ) → IsNoPiece rest → joined_from text false rest ≡ Some text
no_piece text [] h = refl
no_piece text (b ∷ rest) h = let e = ne_eqb b 58 h in rw e refl

pub no_colon : (text rest : List ℕ) → None ≡ behind (58 ∷ []) rest → Some text ≡ joined_from text false rest
no_colon text [] h = refl
no_colon text (b ∷ rest) h = by (b == 58) refl
  where
    by : (is : Bool) → (b == 58) ≡ is → Some text ≡ cond is (joined_from text true rest) (Some text)
    by true w = let e = h ∙ ap (λ (c : ℕ). behind (58 ∷ []) (c ∷ rest)) (eqb-true b 58 w) ∙ behind_again (58 ∷ []) rest in cc
    by false w = refl

pub no_feed : (text rest line : List ℕ) → Some line ≡ behind (58 ∷ []) rest → Lacks 10 line → None ≡ joined_from text false rest
no_feed text rest line h k = sym (ap (joined_from text false) (behind_read (58 ∷ []) rest line (sym h)) ∙ unended text line k)

pub next_piece : (text rest line piece after : List ℕ) → Some line ≡ behind (58 ∷ []) rest → IsCutAt 10 line (Some (piece, after))
    → joined_from (text ++ piece) false after ≡ joined_from text false rest
next_piece text rest line piece after h k =
    sym (ap (joined_from text false) (behind_read (58 ∷ []) rest line (sym h) ∙ ap (λ (l : List ℕ). 58 ∷ l) k.1) ∙ piece_joined text piece after k.0)

pub shorter : (rest line piece after : List ℕ) → Some line ≡ behind (58 ∷ []) rest → IsCutAt 10 line (Some (piece, after)) → length after < length rest
shorter rest line piece after h k =
    let n = ap (λ (l : List ℕ). length l) (behind_read (58 ∷ []) rest line (sym h)) in
    omega (arith, n, k.2)

joined_again : (ps : List (List ℕ)) (text rest : List ℕ) → All (Lacks 10) ps → IsNoPiece rest
    → joined_from text false (lines_text (map piece_line ps) ++ rest) ≡ Some (text ++ concat ps)
joined_again [] text rest all h = no_piece text rest h ∙ ap Some (sym (append-nil text))
joined_again (p ∷ ps) text rest all h =
    let line : lines_text (map piece_line (p ∷ ps)) ++ rest ≡ 58 ∷ (p ++ 10 ∷ (lines_text (map piece_line ps) ++ rest)) = simp append_assoc refl in
    ap (joined_from text false) line ∙ piece_joined text p (lines_text (map piece_line ps) ++ rest) (All-head (Lacks 10) p ps all)
    ∙ joined_again ps (text ++ p) rest (All-tail (Lacks 10) p ps all) h ∙ ap Some (append_assoc text p (concat ps))

-- ---- the catalogue

pub front_again : (plan : Plan) (rest : List ℕ) → IsCatalog plan → Tells (catalog_text plan) plan → IsNoPiece rest
    → front_of (front_text plan ++ rest) ≡ Some (plan, rest)
front_again plan rest is told h =
    let text = catalog_text plan in
    let bytes = front_text plan ++ rest in
    let titled : behind title bytes ≡ Some (lines_text (map piece_line (pieces text)) ++ rest) =
    ap (behind title) (append_assoc title (lines_text (map piece_line (pieces text))) rest)
    ∙ behind_again title (lines_text (map piece_line (pieces text)) ++ rest) in
    let back : joined (lines_text (map piece_line (pieces text)) ++ rest) ≡ Some text =
    joined_again (pieces text) [] rest (lack_from [] text refl (text_lacks (data_of plan))) h ∙ ap Some (concat_from [] text) in
    let says : found (catalog_of text) ≡ Some plan = ap found (tells text plan told is) in
    let again : with_plan bytes plan ≡ Some (plan, rest) = ap (option_map (λ r. (plan, r))) (behind_again (front_text plan) rest) in
    ap (option_and_then (λ ps. option_and_then (λ t. option_and_then (with_plan bytes) (found (catalog_of t))) (joined ps))) titled
    ∙ ap (option_and_then (λ t. option_and_then (with_plan bytes) (found (catalog_of t)))) back
    ∙ ap (option_and_then (with_plan bytes)) says
    ∙ again

pub front_written : (out titled before : List ℕ) (plan : Plan) → titled ≡ before ++ title → out ≡ titled ++ pieces_text (catalog_text plan)
    → out ≡ before ++ front_text plan
front_written out titled before plan t e = e ∙ ap (λ (l : List ℕ). l ++ pieces_text (catalog_text plan)) t
    ∙ append_assoc before title (pieces_text (catalog_text plan))

plan_read : (bytes : List ℕ) (plan : Plan) (front : Plan × List ℕ) → with_plan bytes plan ≡ Some front → bytes ≡ front_text front.0 ++ front.1
plan_read bytes plan front e = by (behind (front_text plan) bytes) refl e
  where
    by : (o : Option (List ℕ)) → behind (front_text plan) bytes ≡ o → option_map (λ r. (plan, r)) o ≡ Some front → bytes ≡ front_text front.0 ++ front.1
    by None w k = cc
    by (Some r) w k =
        let same : (plan, r) ≡ front = cc in
        behind_read (front_text plan) bytes r w ∙ ap (λ (f : Plan × List ℕ). front_text f.0 ++ f.1) same

pub front_read : (bytes : List ℕ) (front : Plan × List ℕ) → front_of bytes ≡ Some front → bytes ≡ front_text front.0 ++ front.1
front_read bytes front e = by_title (behind title bytes) e
  where
    by_plan : (o : Option Plan) → option_and_then (with_plan bytes) o ≡ Some front → bytes ≡ front_text front.0 ++ front.1
    by_plan None k = cc
    by_plan (Some plan) k = plan_read bytes plan front k

    by_text : (o : Option (List ℕ)) → option_and_then (λ t. option_and_then (with_plan bytes) (found (catalog_of t))) o ≡ Some front
        → bytes ≡ front_text front.0 ++ front.1
    by_text None k = cc
    by_text (Some t) k = by_plan (found (catalog_of t)) k

    by_title : (o : Option (List ℕ)) → option_and_then (λ ps. option_and_then (λ t. option_and_then (with_plan bytes) (found (catalog_of t))) (joined ps))
        o ≡ Some front → bytes ≡ front_text front.0 ++ front.1
    by_title None k = cc
    by_title (Some ps) k = by_text (joined ps) k
