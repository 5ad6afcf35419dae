-- What the definition of typing knows of a scope.
use Rattle.proc_lang.specs.Typing.{Scope}
use Rattle.proc_verify.specs.declared.scopes.CheckScope.{CheckScope as Around}

abbrev pub seen : Around → Scope
seen a = record { tables = a.schema.now; args = a.proc.now.args; regs = a.proc.now.regs; tuple = a.tuple; blocks = a.blocks }
