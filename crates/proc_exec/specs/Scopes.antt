-- The meaning at the place where code stands: for the request that is run, and for the tuple around whose turn it is.
use Rattle.std.specs.Prelude.{List}
use Rattle.aria_base.specs.declared.values.Value.{Value}
use Rattle.proc_lang.specs.Terms.{Term}
use Rattle.proc_lang.specs.Steps.{Step, Steps}
use Rattle.proc_lang.specs.Values.{Got}
use Rattle.proc_lang.specs.Meaning.{Next, value_of, values_of, step_run, steps_run}
use Rattle.proc_exec.specs.declared.scopes.RunScope.{RunScope}

abbrev pub value_in : RunScope → List Value → Term → Got Value
value_in scope regs t = value_of scope.request.now scope.item.now regs t

abbrev pub values_in : RunScope → List Value → List Term → Got (List Value)
values_in scope regs ts = values_of scope.request.now scope.item.now regs ts

abbrev pub step_in : RunScope → Step → Next → Next
step_in scope s = step_run scope.request.now s scope.item.now

abbrev pub steps_in : RunScope → Steps → Next → Next
steps_in scope ss = steps_run scope.request.now ss scope.item.now
