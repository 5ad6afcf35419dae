use Rattle.std.proofs.Common.{◌≡◌, rules}
use Rattle.cat_builtin.specs.Bank.{bank}
use Rattle.cat_builtin.specs.Ycsb.{ycsb}
use Rattle.cat_builtin.specs.Tpcc.{tpcc}
use Rattle.cat_builtin.proofs.Texts.{bank_told, ycsb_told, tpcc_told}
use Rattle.cat_builtin.proofs.builtin.Goals as goal

pub told-requires : goal.told-requires
told-requires c = (bank, bank_told)

pub returns-then-eq : goal.returns-then-eq
returns-then-eq c = let same : c.in_ok-told.field-0 ≡ bank = c.in_ok-told.ensures bank bank_told in search rules

pub told-requires-then-eq-2 : goal.told-requires-then-eq-2
told-requires-then-eq-2 c = (ycsb, ycsb_told)

pub returns-then-eq-2 : goal.returns-then-eq-2
returns-then-eq-2 c = let same : c.in_ok-told-2.field-0 ≡ ycsb = c.in_ok-told-2.ensures ycsb ycsb_told in search rules

pub told-requires-then-eq-3 : goal.told-requires-then-eq-3
told-requires-then-eq-3 c = (tpcc, tpcc_told)

pub returns-then-eq-3 : goal.returns-then-eq-3
returns-then-eq-3 c = let same : c.in_ok-told-3.field-0 ≡ tpcc = c.in_ok-told-3.ensures tpcc tpcc_told in search rules
