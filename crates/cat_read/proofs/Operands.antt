-- Few values as the items of an array, from their number and each of them; and how large the rest of them is.
use Rattle.std.proofs.Common.{◌≡◌, ◌<◌, ◌≤◌, List, [], ◌∷◌, length, get_or, arith}
use denote.Param.Weighed.{most}
use Rattle.serde_json.proofs.value.Value.TheLaws.{the_size}
use Rattle.serde_json.specs.declared.value.Value.{Value}
use Rattle.serde_json.specs.Data.{no_items, item}
use Rattle.serde_json.specs.View.{view, items_view}

pub one_item : (vs : List Value) (x : Value) → 1 ≤ length vs → length vs < 2 → x ≡ get_or vs 0 x → items_view vs ≡ item (view x) no_items
one_item [] x low high a = absurd (omega arith)
one_item (v ∷ []) x low high a = cc
one_item (v ∷ w ∷ vs) x low high a = absurd (omega arith)

pub two_items : (vs : List Value) (x y : Value) → 2 ≤ length vs → length vs < 3 → x ≡ get_or vs 0 x → y ≡ get_or vs 1 y
    → items_view vs ≡ item (view x) (item (view y) no_items)
two_items [] x y low high a b = absurd (omega arith)
two_items (u ∷ []) x y low high a b = absurd (omega arith)
two_items (u ∷ v ∷ []) x y low high a b = cc
two_items (u ∷ v ∷ w ∷ vs) x y low high a b = absurd (omega arith)

pub three_items : (vs : List Value) (x y z : Value) → 3 ≤ length vs → length vs < 4 → x ≡ get_or vs 0 x → y ≡ get_or vs 1 y → z ≡ get_or vs 2 z
    → items_view vs ≡ item (view x) (item (view y) (item (view z) no_items))
three_items [] x y z low high a b c = absurd (omega arith)
three_items (t ∷ []) x y z low high a b c = absurd (omega arith)
three_items (t ∷ u ∷ []) x y z low high a b c = absurd (omega arith)
three_items (t ∷ u ∷ v ∷ []) x y z low high a b c = cc
three_items (t ∷ u ∷ v ∷ w ∷ vs) x y z low high a b c = absurd (omega arith)

pub four_items : (vs : List Value) (w x y z : Value) → 4 ≤ length vs → length vs < 5 → w ≡ get_or vs 0 w → x ≡ get_or vs 1 x → y ≡ get_or vs 2 y
    → z ≡ get_or vs 3 z → items_view vs ≡ item (view w) (item (view x) (item (view y) (item (view z) no_items)))
four_items [] w x y z low high a b c d = absurd (omega arith)
four_items (r ∷ []) w x y z low high a b c d = absurd (omega arith)
four_items (r ∷ s ∷ []) w x y z low high a b c d = absurd (omega arith)
four_items (r ∷ s ∷ t ∷ []) w x y z low high a b c d = absurd (omega arith)
four_items (r ∷ s ∷ t ∷ u ∷ []) w x y z low high a b c d = cc
four_items (r ∷ s ∷ t ∷ u ∷ v ∷ vs) w x y z low high a b c d = absurd (omega arith)

pub most_rest : (v : Value) (vs : List Value) → most the_size vs ≤ most the_size (v ∷ vs)
most_rest v vs = omega arith
