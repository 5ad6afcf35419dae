-- The catalogue that a body begins with: the line `catalog text`, and the catalogue's text in pieces.
use Rattle.std.specs.Prelude.{◌≡◌, ℕ, ◌+◌, ◌≢◌, Bool, true, false, ◌==◌, if◌then◌else◌, List, [], ◌∷◌, ◌++◌, length, map, take}
use Rattle.std.specs.Prelude.{drop, slice_index, Option, Some, None, option_map, option_and_then, codes, bytes_eq}
use Rattle.proc_lang.specs.Catalogs.{Plan}
use Rattle.serde_json.specs.Written.{compact_text}
use Rattle.cat_forms.specs.Written.{data_of}
use Rattle.cat_text.specs.Texts.{catalog_of}
use Rattle.image_text.specs.declared.fronts.TheConstants.{PIECE}
use Rattle.image_text.specs.Lines.{lines_text}
use Rattle.image_text.specs.Exactly.{found}

abbrev pub catalog_text : Plan → List ℕ
catalog_text plan = compact_text (data_of plan)

-- pieces of `PIECE` bytes, the last one shorter or equal, where these bytes of the first are begun
abbrev pub pieces_from : List ℕ → List ℕ → List (List ℕ)
pieces_from begun [] = if length begun == 0 then [] else begun ∷ []
pieces_from begun (b ∷ bs) =
    if length begun + 1 == PIECE then (begun ++ b ∷ []) ∷ pieces_from [] bs
    else pieces_from (begun ++ b ∷ []) bs

abbrev pub pieces : List ℕ → List (List ℕ)
pieces text = pieces_from [] text

-- a piece stands behind a colon (58)
abbrev pub piece_line : List ℕ → List ℕ
piece_line piece = 58 ∷ piece

abbrev pub pieces_text : List ℕ → List ℕ
pieces_text text = lines_text (map piece_line (pieces text))

abbrev pub title : List ℕ
title = codes "catalog text" ++ 10 ∷ []

abbrev pub front_text : Plan → List ℕ
front_text plan = title ++ pieces_text (catalog_text plan)

-- ---- how it is read

-- what stands behind these bytes
abbrev pub behind : List ℕ → List ℕ → Option (List ℕ)
behind front bytes = if bytes_eq (take (length front) bytes) front then Some (drop (length front) bytes) else None

-- the pieces at the beginning, joined behind `text`; `inside` a piece or not
abbrev pub joined_from : List ℕ → Bool → List ℕ → Option (List ℕ)
joined_from text true [] = None
joined_from text false [] = Some text
joined_from text true (b ∷ bs) = if b == 10 then joined_from text false bs else joined_from (text ++ b ∷ []) true bs
joined_from text false (b ∷ bs) = if b == 58 then joined_from text true bs else Some text

abbrev pub joined : List ℕ → Option (List ℕ)
joined bytes = joined_from [] false bytes

-- the catalogue, and what stands behind it, where its text is written again as it stands there
abbrev pub with_plan : List ℕ → Plan → Option (Plan × List ℕ)
with_plan bytes plan = option_map (λ rest. (plan, rest)) (behind (front_text plan) bytes)

abbrev pub front_of : List ℕ → Option (Plan × List ℕ)
front_of bytes =
    option_and_then (λ pieces. option_and_then (λ text. option_and_then (with_plan bytes) (found (catalog_of text))) (joined pieces))
    (behind title bytes)

-- what stands behind the catalogue begins no piece
abbrev pub IsNoPiece : List ℕ → Type 0
IsNoPiece rest = slice_index rest 0 ≢ 58
