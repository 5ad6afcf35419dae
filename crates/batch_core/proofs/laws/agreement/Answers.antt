use Rattle.aria_base.proofs.Orders.{key_cmp_total, key_cmp-IsAntisymmetric}
use Rattle.batch_rules.proofs.Agree.{agreement}
use Rattle.proc_lang.specs.Meaning.{is_done}
use Rattle.batch_core.proofs.laws.agreement.Goals as goal

pub returns : goal.returns
returns c tree request first second = agreement key_cmp_total key_cmp-IsAntisymmetric is_done (tree request) first second
