-- What an order line says of a batch's list.
use Rattle.std.specs.Prelude.{ℕ, ◌==◌, Bool, if◌then◌else◌, List, [], ◌∷◌, ◌++◌, Option, Some, None, option_and_then, decimal}
use Rattle.std.specs.List.{find, list_any, slice_split}
use Rattle.std.specs.Str.{bytes_eq}
use Rattle.aria_base.specs.declared.calls.Request.{Request}
use Rattle.serial_check.specs.Lines.{order_word}

-- whether this is how the request's number is written
abbrev pub is_written : List ℕ → Request → Bool
is_written token request = bytes_eq (decimal request.q) token

-- the request of the list whose number is written so, where none that was named before it is
abbrev pub unnamed : List Request → List Request → List ℕ → Option Request
unnamed list named token = if list_any (is_written token) named then None else find (is_written token) list

-- The requests that the tokens name, behind those that are named: each is one of the list, and none is named twice. None where a token
-- names no such request.
abbrev pub named_after : List Request → List Request → List (List ℕ) → Option (List Request)
named_after list named [] = Some named
named_after list named (token ∷ tokens) =
    option_and_then (λ request. named_after list (named ++ request ∷ []) tokens) (unnamed list named token)

abbrev pub order_by : List Request → List (List ℕ) → Option (List Request)
order_by list [] = None
order_by list (word ∷ tokens) = if bytes_eq word order_word then named_after list [] tokens else None

-- The requests that the line names, in its order: the word and behind it the tokens, each behind one space (32). None where it is no
-- order line of this list.
abbrev pub order_of : List Request → List ℕ → Option (List Request)
order_of list line = order_by list (slice_split (λ b. b == 32) line)
