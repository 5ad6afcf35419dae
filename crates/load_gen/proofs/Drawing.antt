-- What is drawn of a request, and that it fits its catalogue.
use Rattle.std.proofs.Common.{◌≡◌, refl, ap, ◌∙◌, ℕ, ◌&&◌, ℤ, pos, [], ◌∷◌, true, ◌==◌, length}
use Rattle.std.specs.List.{All}
use Rattle.std.proofs.lemmas.List.Sums.{AllPass-from_list_all}
use Rattle.rand_pcg.specs.Lcg.{Lcg}
use Rattle.aria_base.specs.declared.calls.Arg.TheVariants as arg
use Rattle.proc_lang.specs.declared.procs.ArgKind.TheVariants as kind
use Rattle.proc_lang.specs.Catalogs.{takes, args_fit}
use Rattle.cat_builtin.specs.Ycsb.{ycsb}
use Rattle.load_gen.specs.declared.settings.Ycsb.{Ycsb}
use Rattle.load_gen.specs.Draws.{random, times}
use Rattle.load_gen.specs.Ycsb.{place, op_of, access, request}
use Rattle.load_gen.proofs.Times.{times-all}

-- an access is its key and its share
pub access_is : (s : Ycsb) (g after behind : Lcg) (key share : ℕ) → (key, after) ≡ place s g → (share, behind) ≡ random 0 99 after
    → (pos key ∷ pos (op_of s share) ∷ [], behind) ≡ access s g
access_is s g after behind key share p q = λ i.
    let r = q ∙ ap (λ x. random 0 99 x.1) p in
    (pos (p i).0 ∷ pos (op_of s (r i).0) ∷ [], (r i).1)

pub accesses_fit : (s : Ycsb) (n : ℕ) (g : Lcg) (v : ℤ)
    → args_fit (kind.List 2 ∷ kind.Int ∷ []) (arg.List (times n (access s) g).0 ∷ arg.Int v ∷ []) ≡ true
accesses_fit s n g v = ap (λ b. b && true) (times-all (λ t. length t == 2) n (access s) (λ g. refl) g)

pub request_fits : (s : Ycsb) (g : Lcg) → takes ycsb (request s g).0 ≡ true
request_fits s g = accesses_fit s s.ops (random 1 100 g).1 (pos (random 1 100 g).0)

pub requests_fit : (s : Ycsb) (n : ℕ) (g : Lcg) → All (λ call. takes ycsb call ≡ true) (times n (request s) g).0
requests_fit s n g = AllPass-from_list_all (takes ycsb) (times n (request s) g).0 (times-all (takes ycsb) n (request s) (request_fits s) g)
