-- What the members of a catalogue's objects are called.
use Rattle.std.specs.Prelude.{ℕ, List, codes}
use Rattle.cat_forms.specs.declared.members.Member.{Member}
use Rattle.cat_forms.specs.declared.members.Member.TheVariants.{Tables, Procs, Name, Key, Cols, Args, Regs, Body}

abbrev pub member_name : Member → List ℕ
member_name Tables = codes "tables"
member_name Procs = codes "procs"
member_name Name = codes "name"
member_name Key = codes "key"
member_name Cols = codes "cols"
member_name Args = codes "args"
member_name Regs = codes "regs"
member_name Body = codes "body"
