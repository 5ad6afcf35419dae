use Rattle.std.proofs.Common.{refl, ap, ◌∙◌, map, None}
use Rattle.std.specs.List.{list_any}
use Rattle.std.specs.BTreeMap.{is_at}
use Rattle.core_machine.proofs.Came.{event_cmp}
use Rattle.core_machine.proofs.Taking.{begins}
use Rattle.core_machine.proofs.cores.Core.begin.Goals as goal

pub returns : goal.returns
returns c = begins _ refl (λ e. ap (list_any (is_at (event_cmp e))) c.new.ensures.empty) (c.in_ok-outcomes.ensures
    ∙ ap (map (λ request. None)) c.deref.ensures.value) c.new-2.ensures c.new-3.ensures
