-- What is read of a line, by its cases.
use Rattle.std.proofs.Common.{◌≡◌, ◌∙◌, ℕ, List, Option, Some, None, refl, sym, ap}
use Rattle.std.specs.Prelude.{option_and_then, option_map, unwrap_or}
use Rattle.clap.specs.Words.{subcommand_rows_of}
use Rattle.clap.specs.Matches.{subcommand_name_of}
use Rattle.clap.specs.declared.parser.matches.ArgMatches.TheViews.{out-ArgMatches}
use Rattle.clap.specs.declared.parser.matches.ArgMatches.{ArgMatches}
use Rattle.command_words.specs.Lines.{Line}
use Rattle.command_words.specs.Rows.{IsRead, IsReadOf}

pub read_some : {X : Type 0} (f : Line → Option X) (o : Option Line) (m : ArgMatches) (r : Option X) → IsReadOf o (Some m)
    → ((l : Line) → IsRead l m → r ≡ f l) → r ≡ option_and_then f o
read_some f None m r is each = absurd is
read_some f (Some l) m r is each = each l is

pub read_none : {X : Type 0} (f : Line → Option X) (o : Option Line) → IsReadOf o None → None ≡ option_and_then f o
read_none f None is = refl
read_none f (Some l) is = absurd is

-- the first of what each option maps to
fused : {X Y Z : Type 0} (f : X → Y) (g : Y → Z) (o : Option X) → option_map g (option_map f o) ≡ option_map (λ x. g (f x)) o
fused f g None = refl
fused f g (Some x) = refl

name_agrees : (m : ArgMatches) → option_map (λ p. p.0) (subcommand_rows_of m) ≡ subcommand_name_of m
name_agrees m = fused _ (λ p. p.0) (out-ArgMatches m).subcommand

-- the name that the matches give is the line's
pub name_is : (m : ArgMatches) (l : Line) (name : List ℕ) → IsRead l m → Some name ≡ subcommand_name_of m → name ≡ l.cmd.name
name_is m l name is found = ap (λ o. unwrap_or o name) (found ∙ sym (name_agrees m) ∙ is.0)
