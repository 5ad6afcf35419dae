-- What is printed of a procedure that is not well typed.
use Rattle.std.specs.Prelude.{ℕ, List, ◌++◌, codes, decimal}
use Rattle.proc_lang.specs.declared.flaws.Wrong.{Wrong}

abbrev pub wrong_text : Wrong → List ℕ
wrong_text w = codes "procedure " ++ decimal w.proc ++ codes " fails at statement " ++ decimal w.place
    ++ codes ", cause " ++ decimal w.cause
