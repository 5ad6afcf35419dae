-- The texts tell the catalogues: each is read here, and what it says is typed.
use Rattle.std.proofs.Common.{ℕ, List, refl}
use Rattle.std.specs.Prelude.{unwrap_or}
use Rattle.serde_json.specs.Data.{Data, null}
use Rattle.serde_json.specs.Read.{read, number_of}
use Rattle.fast_float.specs.Text.{scan}
use Rattle.json.specs.Json.{items, members, value}
use Rattle.json.specs.Lex.{lex, punctuate}
use Rattle.json.specs.Text.{content}
use Rattle.json.specs.Word.{after_number, word}
use Rattle.cat_builtin.specs.declared.bank.TheConstants.{BANK}
use Rattle.cat_builtin.specs.declared.ycsb.TheConstants.{YCSB}
use Rattle.cat_builtin.specs.declared.tpcc.TheConstants.{TPCC}
use Rattle.cat_builtin.specs.Bank.{bank}
use Rattle.cat_builtin.specs.Ycsb.{ycsb}
use Rattle.cat_builtin.specs.Tpcc.{tpcc}
use Rattle.cat_builtin.specs.Told.{IsTold}

abbrev json_of : List ℕ → Data
json_of text = unwrap_or (read text) null

pub bank_told : IsTold BANK.now bank
unfolding number_of scan items members value lex punctuate content after_number word
bank_told = record { json = json_of BANK.now; says = refl; tells = refl; typed = refl }

pub ycsb_told : IsTold YCSB.now ycsb
unfolding number_of scan items members value lex punctuate content after_number word
ycsb_told = record { json = json_of YCSB.now; says = refl; tells = refl; typed = refl }

pub tpcc_told : IsTold TPCC.now tpcc
unfolding number_of scan items members value lex punctuate content after_number word
tpcc_told = record { json = json_of TPCC.now; says = refl; tells = refl; typed = refl }
