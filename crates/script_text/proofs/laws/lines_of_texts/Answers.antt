use Rattle.script_text.proofs.Scans.{cut, scan-faulted, whole}
use Rattle.std.proofs.Common.{[]}
use Rattle.script_text.proofs.laws.lines_of_texts.Goals as goal

pub returns : goal.returns
returns c = record { cut = cut; ends = scan-faulted []; whole = whole }
