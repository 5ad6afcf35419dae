-- Only the start of a batch changes what was started.
use Rattle.std.proofs.Common.{◌≡◌, ◌∙◌, refl, ℕ, zero, suc, List, [], ◌∷◌, ◌++◌, length, ◌-◌, Bool, true, false, Option, Some, None}
use Rattle.std.specs.Prelude.{if◌then◌else◌, slice_get}
use Rattle.std.specs.declared.cmp.Ordering.{Ordering}
use Rattle.std.specs.FinMap.{FinMap}
use Rattle.std.specs.List.{range_with_len}
use Rattle.node_rules.specs.Dues.{is_over}
use Rattle.node_rules.specs.Laws.{settled}
use Rattle.node_rules.specs.Messages.{Message}
use Rattle.node_rules.specs.Nets.{Net, all_nodes}
use Rattle.node_rules.specs.Worlds.{World, Deliver, Start, complete, deliver, deliver_each, desk_of, keep, pass, send, step, turn, turn_all, turns}

module _ {K V Q A : Type 0} {R : K → K → Ordering} (net : Net R V Q A) where
  abbrev W : Type 0
  W = World R V Q A

  either : (b : Bool) (x y w : W) → x.started ≡ w.started → y.started ≡ w.started → (if b then x else y).started ≡ w.started
  either true x y w h k = h
  either false x y w h k = k

  turns_started : (most : ℕ) (w : W) (n : ℕ) → (turns net most w n).started ≡ w.started
  turns_started zero w n = refl
  turns_started (suc most) w n = either (is_over net (desk_of net w n)) (turns net most (complete net (send net w n) n) n) (send net w n) w
      (turns_started most (complete net (send net w n) n) n) refl

  all_started : (w : W) (ns : List ℕ) → (turn_all net w ns).started ≡ w.started
  all_started w [] = refl
  all_started w (n ∷ ns) = all_started (turn net w n) ns ∙ turns_started (length w.started - (w.node n).done) w n

  deliver_started : (w : W) (m : Option (Message K V)) → (deliver net w m).started ≡ w.started
  deliver_started w None = refl
  deliver_started w (Some m) = turns_started (length w.started - ((keep net w m).node m.addressee).done) (keep net w m) m.addressee

  each_started : (w : W) (ks : List ℕ) → (deliver_each net w ks).started ≡ w.started
  each_started w [] = refl
  each_started w (k ∷ ks) = each_started (step net w (Deliver k)) ks ∙ deliver_started w (slice_get w.sent k)

  pub settled_started : (start : FinMap R V) (passes : ℕ) (w : W) → (settled net start passes w).started ≡ w.started
  settled_started start zero w = refl
  settled_started start (suc passes) w = settled_started start passes (pass net w) ∙ each_started w (range_with_len 0 (length w.sent))

  pub start_started : (w : W) (new : List Q) → (step net w (Start new)).started ≡ w.started ++ new ∷ []
  start_started w new = all_started (record { started = w.started ++ new ∷ []; sent = w.sent; node = w.node }) (all_nodes net)
