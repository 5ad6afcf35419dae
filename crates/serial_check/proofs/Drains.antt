-- One answer more to no calls, or none.
use Rattle.std.proofs.Common.{◌≡◌, ℕ, suc, List, [], cond, true, false, Ok, ap}
use Rattle.proc_lang.specs.Catalogs.{Plan}
use Rattle.serial_check.specs.Reports.{◌>>=◌, answered, drained, is_drained}
use Rattle.serial_check.specs.declared.standings.Reading.{Reading}

module _ (plan : Plan) (report : List (List ℕ)) (n : ℕ) (reading : Reading) where
  pub stops : is_drained report reading ≡ false → drained plan report (suc n) reading ≡ Ok reading
  stops h = ap (λ b. cond b (answered plan report reading [] >>= drained plan report n) (Ok reading)) h

  pub goes : is_drained report reading ≡ true → drained plan report (suc n) reading ≡ (answered plan report reading [] >>= drained plan report n)
  goes h = ap (λ b. cond b (answered plan report reading [] >>= drained plan report n) (Ok reading)) h
