use Rattle.std.proofs.Common.{◌≡◌, ◌∙◌, ap, sym, refl, length, Some}
use Rattle.std.specs.Prelude.{slice_get, slice_index_or}
use Rattle.std.specs.Option.{option_map}
use Rattle.std.proofs.lemmas.Option.{slice_get_read}
use Rattle.std.proofs.lemmas.Result.{IfOk-weaker}
use Rattle.proc_lang.specs.Catalogs.{run_of}
use Rattle.fallback_locks.specs.Reruns.{done_at}
use Rattle.fallback_locks.proofs.rounds.RoundTask.run.Goals as goal

pub returns : goal.returns
returns c =
    let round = c.args.self.now in
    let place = slice_index_or round.places.now c.args.index 0 in
    let is_one = c.index-self-place.is in
    let found : slice_get round.waiting.now place ≡ Some c.index-self-place.result =
    slice_get_read round.waiting.now (length round.waiting.now) place c.index-self-place.result refl (round.within c.args.index 0 c.requires) is_one in
    IfOk-weaker c.run_again.result _ _ (λ done is. ap Some (is ∙ (λ i. done_at (run_of round.catalog.now) (c.copy.ensures i) place (sym is_one i)))
    ∙ sym (ap (option_map (done_at (run_of round.catalog.now) round.snapshot place)) found)) c.run_again.ensures
