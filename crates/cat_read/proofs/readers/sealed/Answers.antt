use Rattle.std.proofs.Common.{◌≡◌, List, [], ◌∷◌, ◌++◌, append_assoc, length-append, sym, subst, ◌∙◌, arith, rules}
use Rattle.std.specs.List.{All}
use Rattle.std.specs.Vec.Iter.{into_iter_items}
use Rattle.std.proofs.lemmas.List.Elements.{All-push}
use Rattle.proc_lang.specs.declared.procs.Proc.{Proc}
use Rattle.proc_lang.specs.Typing.{IsWellTyped}
use Rattle.cat_read.proofs.Sealings.{wrong_from-typed, rest_fit}
use Rattle.cat_read.proofs.readers.sealed.Goals as goal

pub loop-proc-preserved : goal.loop-proc-preserved
loop-proc-preserved c =
    let i = c.loop-proc.invariant in
    let done = c.loop-proc.done.items in
    let rest = into_iter_items c.next.new.self in
    let step : into_iter_items c.loop-proc.proc-iterator ≡ c.in-Some.proc ∷ rest = search rules in
    let same : c.in_ok-verify.field-0 ≡ c.in-Some.proc = search rules in
    let pushed : c.push.new.self.items ≡ done ++ c.in-Some.proc ∷ [] = search rules in
    let typed : IsWellTyped c.args.schema.now c.in-Some.proc = search rules in (
      tt,
      tt,
      rw (pushed, append_assoc) (rw step at i.2),
      rw pushed (omega (arith, i.3, length-append done (c.in-Some.proc ∷ []))),
      rest_fit c.in-Some.proc rest (rw step at i.4),
      subst (λ (ps : List Proc). All (IsWellTyped c.args.schema.now) ps) (sym pushed) (All-push (IsWellTyped c.args.schema.now) done c.in-Some.proc i.5 typed),
      sym (wrong_from-typed c.args.schema.now c.loop-proc.number c.in-Some.proc rest typed) ∙ rw step at i.6,
      i.7,
    )
