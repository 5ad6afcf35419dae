use Rattle.std.proofs.Common.{◌≡◌, ap, ◌∙◌, rules, pos, [], ◌∷◌}
use Rattle.aria_base.specs.declared.calls.Arg.TheVariants as arg
use Rattle.proc_lang.specs.declared.procs.ArgKind.TheVariants as kind
use Rattle.proc_lang.specs.Catalogs.{args_fit}
use Rattle.load_gen.specs.Draws.{times}
use Rattle.load_gen.specs.Ycsb.{access}
use Rattle.load_gen.proofs.Advances.{past-trans}
use Rattle.load_gen.proofs.Drawing.{accesses_fit}
use Rattle.load_gen.proofs.requests.request.Goals as goal

pub returns-in_err-accesses-clause-further : goal.returns-in_err-accesses-clause-further
returns-in_err-accesses-clause-further c =
    past-trans c.args.draws.now c.random-value.new.draws _ (1, ap (λ x. x.1) c.random-value.ensures.drawn) c.in_err-accesses.ensures.further

pub returns-in_err-args-clause-further : goal.returns-in_err-args-clause-further
returns-in_err-args-clause-further c =
    past-trans c.args.draws.now c.random-value.new.draws _ (1, ap (λ x. x.1) c.random-value.ensures.drawn) c.in_ok-accesses.ensures.further

pub returns-clause-further : goal.returns-clause-further
returns-clause-further c =
    past-trans c.args.draws.now c.random-value.new.draws _ (1, ap (λ x. x.1) c.random-value.ensures.drawn) c.in_ok-accesses.ensures.further

pub returns-clause-fits : goal.returns-clause-fits
returns-clause-fits c =
    let s = c.args.settings.now in
    let given : c.from_vec.result ≡ arg.List (times s.ops (access s) c.random-value.new.draws).0 ∷ arg.Int (pos c.random-value.result) ∷ [] = search rules in
    ap (args_fit (kind.List 2 ∷ kind.Int ∷ [])) given ∙ accesses_fit s s.ops c.random-value.new.draws (pos c.random-value.result)
