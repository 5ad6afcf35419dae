-- Nodes on their way within an event.
use Rattle.std.specs.Prelude.{◌≡◌, ℕ, ◌+◌, ◌-◌, ◌<◌, ◌≤◌, length}
use Rattle.std.specs.List.{range_with_len}
use Rattle.std.specs.declared.cmp.Ordering.{Ordering}
use Rattle.std.specs.FinMap.{FinMap}
use Rattle.node_rules.specs.Nets.{Net}
use Rattle.node_rules.specs.Dues.{due}
use Rattle.node_rules.specs.Worlds.{World, with_all_new, desk_of, turn, turn_all}
use Rattle.node_rules.specs.Truths.{Holds, Rests}
use Rattle.node_rules.specs.Laws.{Begins}

module _ {K V Q A : Type 0} {R : K → K → Ordering} (net : Net R V Q A) (start : FinMap R V) where
  -- The node sent what is due, and its turn leads from here to this end.
  pub record IsGoing (end w : World R V Q A) (n : ℕ) : Type 0 where
    pub below : n < net.nodes
    pub holds : Holds net start w
    pub sent : (w.node n).done < length w.started → with_all_new net w.sent (due net (desk_of net w n)) ≡ w.sent
    pub to : end ≡ turn net w n

  -- The nodes from this one on have not had their turns: those that were behind rest, and for the others the new batch begins.
  pub record IsStarting (end w : World R V Q A) (n old : ℕ) : Type 0 where
    pub long : length w.started ≡ old + 1
    pub holds : Holds net start w
    pub rests : (i : ℕ) → n ≤ i → i < net.nodes → (w.node i).done < old → Rests net w.started w.sent i (w.node i)
    pub begins : (i : ℕ) → n ≤ i → i < net.nodes → (w.node i).done ≡ old → Begins net start w i
    pub reach : (i : ℕ) → n ≤ i → i < net.nodes → (w.node i).done ≤ old
    pub to : end ≡ turn_all net w (range_with_len n (net.nodes - n))
