-- Arguments of another number than the kinds do not fit them.
use Rattle.std.proofs.Common.{◌≡◌, List, [], ◌∷◌, length, false, refl, sym, ap, suc}
use Rattle.std.proofs.Math.Bool.{and-false}
use Rattle.aria_base.specs.declared.calls.Arg.{Arg}
use Rattle.proc_lang.specs.declared.procs.ArgKind.{ArgKind}
use Rattle.proc_lang.specs.Catalogs.{arg_fits, args_fit}

pub other_count : (kinds : List ArgKind) (given : List Arg) → ¬ (length kinds ≡ length given) → false ≡ args_fit kinds given
other_count [] [] other = absurd (other refl)
other_count [] (a ∷ more) other = refl
other_count (k ∷ ks) [] other = refl
other_count (k ∷ ks) (a ∷ more) other = rw (← other_count ks more (λ same. other (ap suc same))) (sym (and-false (arg_fits k a)))
