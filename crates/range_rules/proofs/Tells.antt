-- Where there is no dependency, the one run saw nothing that the other writes.
use Rattle.std.proofs.Common.{◌≡◌, List, [], ◌∷◌, Bool, true, false, refl, ap, ◌∙◌}
use Rattle.std.specs.Prelude.{◌||◌}
use Rattle.std.specs.List.{list_any}
use Rattle.std.specs.Ordering.{eq_by_cmp}
use Rattle.std.proofs.lemmas.Bool.{or_parts}
use Rattle.aria_base.specs.Orders.{key_cmp}
use Rattle.aria_base.specs.declared.keys.Key.{Key}
use Rattle.aria_base.proofs.Orders.{key_cmp_total, key_cmp-IsAntisymmetric}
use Rattle.batch_rules.specs.Touches.{is_among}
use Rattle.batch_rules.specs.Runs.{TellsApart}
use Rattle.batch_rules.proofs.Maps.{same_key}
use Rattle.batch_rules.proofs.Meets.{apart_at, meets_turned}
use Rattle.range_rules.specs.declared.routines.Prefix.{Prefix}
use Rattle.range_rules.specs.Scans.{is_under, is_under_any, covers_any}
use Rattle.range_rules.specs.Batches.{written, depends}
use Rattle.range_rules.specs.Serials.{saw}

neither : (a b : Bool) → a ≡ false → b ≡ false → (a || b) ≡ false
neither a b p q i = p i || q i

-- a test that no key passes fails at each of them
module _ (test : Key → Bool) where
  fails_at : (keys : List Key) (k : Key) → list_any test keys ≡ false → is_among key_cmp keys k ≡ true → test k ≡ false
  fails_at [] k none within = cc
  fails_at (x ∷ xs) k none within = elim (eq_by_cmp key_cmp k x) as (λ b. eq_by_cmp key_cmp k x ≡ b → (b || is_among key_cmp xs k) ≡ true → test k ≡ false) [
    | true ↦ λ e _. ap test (same_key key_cmp-IsAntisymmetric k x e) ∙ (or_parts _ _ none).0
    | false ↦ λ e rest. fails_at xs k (or_parts _ _ none).1 rest
  ] refl within

pub uncovered : (prefixes : List Prefix) (keys : List Key) (k : Key) → covers_any prefixes keys ≡ false → is_among key_cmp keys k ≡ true
    → is_under_any prefixes k ≡ false
uncovered [] keys k none within = refl
uncovered (p ∷ ps) keys k none within = neither (is_under p k) (is_under_any ps k) (fails_at (is_under p) keys k (or_parts _ _ none).0 within)
    (uncovered ps keys k (or_parts _ _ none).1 within)

pub depends_tell : TellsApart key_cmp depends saw written
depends_tell = record {
  waw = λ d x e. e;
  raw = λ d x e k within. neither (is_among key_cmp d.reads k) (is_under_any d.scans k)
      (apart_at key_cmp_total key_cmp-IsAntisymmetric (written x) d.reads k
      (meets_turned key_cmp_total key_cmp-IsAntisymmetric d.reads (written x) (or_parts _ _ e).0) within)
      (uncovered d.scans (written x) k (or_parts _ _ e).1 within);
  war = λ d x e k within. neither (is_among key_cmp x.reads k) (is_under_any x.scans k)
      (apart_at key_cmp_total key_cmp-IsAntisymmetric (written d) x.reads k (or_parts _ _ e).0 within)
      (uncovered x.scans (written d) k (or_parts _ _ e).1 within);
}
