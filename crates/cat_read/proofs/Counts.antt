-- How many items and members the data of a value has.
use Rattle.std.proofs.Common.{◌≡◌, List, length, String}
use Rattle.std.specs.declared.alloc.Global.{Global}
use Rattle.serde_json.specs.declared.value.Value.{Value}
use Rattle.serde_json.specs.View.{items_view, members_view}
use Rattle.serde_json.specs.Events.{items_len, members_len}
use Rattle.serde_json.proofs.Views.{items_len-items_view, members_len-members_view}

pub items_counted : (vs : List Value) → items_len (items_view vs) ≡ length vs
items_counted vs = items_len-items_view vs

pub members_counted : (es : List (String Global × Value)) → members_len (members_view es) ≡ length es
members_counted es = members_len-members_view es
