-- The keys of a shard belong to it, whatever is put and deleted.
use Rattle.std.proofs.Common.{◌≡◌, ℕ, Some, None, cond, true, false, refl, ap, subst, ◌∙◌}
use Rattle.std.specs.Option.{IsSome}
use Rattle.std.specs.Ordering.{eq_by_cmp}
use Rattle.std.specs.FinMap as fin
use Rattle.aria_base.specs.Orders.{key_cmp, Cells}
use Rattle.aria_base.specs.declared.keys.Key.{Key}
use Rattle.aria_base.proofs.Orders.{key_cmp_total, same_key}
use Rattle.tbl_rows.specs.Shards.{home, Piece, IsOwn, with_row, without_row, bare}

pub IsOwn-bare : (number : ℕ) → IsOwn (bare number)
IsOwn-bare number q some = let there : IsSome {T = Cells} None = subst IsSome (fin.get-empty key_cmp q) some in cc

pub IsOwn-with_row : (p : Piece) (k : Key) (row : Cells) → home k ≡ p.number → IsOwn p → IsOwn (with_row p k row)
IsOwn-with_row p k row at own q some =
    elim (eq_by_cmp key_cmp q k) as (λ b. eq_by_cmp key_cmp q k ≡ b → IsSome (cond b (Some row) (fin.get p.rows q)) → home q ≡ p.number) [
      | true ↦ λ tied _. ap home (same_key q k tied) ∙ at
      | false ↦ λ _ there. own q there
    ] refl (subst IsSome (fin.get-insert key_cmp_total p.rows k row q) some)

pub IsOwn-without_row : (p : Piece) (k : Key) → IsOwn p → IsOwn (without_row p k)
IsOwn-without_row p k own q some =
    elim (eq_by_cmp key_cmp q k) as (λ b. IsSome (cond b None (fin.get p.rows q)) → home q ≡ p.number) [
      | true ↦ λ there. cc
      | false ↦ λ there. own q there
    ] (subst IsSome (fin.get-remove key_cmp_total p.rows k q) some)
