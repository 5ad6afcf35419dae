-- A line of tokens says what these stand for.
use Rattle.std.proofs.Common.{◌≡◌, ℕ, zero, suc, ◌<◌, ◌≤◌, List, [], ◌∷◌, ◌++◌, length, map, Option, Some, Bool, true, cond, refl, ap, sym, ◌∙◌, arith}
use Rattle.std.specs.Prelude.{All, ◌&&◌, nat_le, codes, ok_or, Ok, Err}
use Rattle.std.specs.List.{list_all}
use Rattle.std.proofs.lemmas.Bool.{le-leb}
use Rattle.std.proofs.lemmas.List.{append_assoc, append-nil}
use Rattle.std.proofs.lemmas.List.Concat.{flat_map-append}
use Rattle.std.proofs.lemmas.List.Elements.{All-head, All-tail, All-append}
use Rattle.std.proofs.lemmas.Grind.{common_steps}
use Rattle.aria_base.specs.Texts.{is_word, is_in_word}
use Rattle.aria_base.specs.declared.keys.Part.{Part}
use Rattle.aria_base.specs.declared.values.Value.{Value}
use Rattle.aria_base.specs.declared.calls.Arg.{Arg}
use Rattle.script_text.specs.declared.items.Item.{Item}
use Rattle.script_text.specs.declared.items.Item.TheVariants as item
use Rattle.script_text.specs.declared.refusals.RefusalKind.TheVariants.{Byte, Word}
use Rattle.script_text.specs.Cuts.{tokens}
use Rattle.script_text.specs.Tokens.{part_token, value_token, arg_token, spaced, all_of, value_of, arg_of}
use Rattle.script_text.specs.Forms.{is_printed, item_of, row_after, with_row, said, line_item}
use Rattle.script_text.specs.Written.{IsPart, IsValue}
use Rattle.script_text.proofs.Places.{all_weaker, all_joined}
use Rattle.script_text.proofs.TokensAgain.{IsToken, is_plain, plain_token, tokens_again, printed_again}
use Rattle.script_text.proofs.TokensRead.{IsWhole, all_of_again, all_mapped, part_again, value_again, arg_again, part_is_token, value_is_token, arg_is_token, part_no_sign}

some_word : (bytes : List ℕ) → is_word bytes ≡ true → 0 < length bytes
some_word [] h = grind (arith, common_steps)
some_word (b ∷ bs) h = omega arith

pub word_token : (name : List ℕ) → is_word name ≡ true → IsToken name
word_token name h =
    let inside : list_all is_in_word name ≡ true = grind (arith, common_steps, h) in
    plain_token name (some_word name h) (all_weaker is_in_word is_plain (λ b k. grind (arith, common_steps, k)) name inside)

pub all_more : {A : Type 0} (P : A → Type 0) (x : A) (xs : List A) → P x → All P xs → All P (x ∷ xs)
all_more P x xs p all zero d below = p
all_more P x xs p all (suc k) d below = all k d (omega arith)

pub spaced_map : {A : Type 0} (f : A → List ℕ) (xs : List A) → spaced f xs ≡ spaced (λ t. t) (map f xs)
spaced_map f [] = refl
spaced_map f (x ∷ xs) = ap (λ (l : List ℕ). 32 ∷ f x ++ l) (spaced_map f xs)

-- a line of a kind and more tokens, that is printed and says what its chunks say
line_again : (kind : List ℕ) (ts : List (List ℕ)) (line : List ℕ) (found : Item) → IsToken kind → All IsToken ts → line ≡ kind ++ spaced (λ t. t) ts
    → line_item line ≡ item_of (tokens line) → item_of (kind ∷ ts) ≡ Some found → said line ≡ Ok found
line_again kind ts line found k all e opens says =
    let printed : is_printed line ≡ true = ap is_printed e ∙ all_joined (λ b. nat_le 32 b && nat_le b 126) kind (spaced (λ t. t) ts) k.printed
    (printed_again ts all) in
    let cut : tokens line ≡ kind ∷ ts = ap tokens e ∙ tokens_again kind ts k all in
    ap (λ (b : Bool). cond b (ok_or (line_item line) Word) (Err Byte)) printed ∙ ap (λ (o : Option Item). ok_or o Word) (opens ∙ ap item_of cut ∙ says)

row_after_again : (table : List ℕ) (vs : List (List ℕ)) (done parts : List Part) → All IsPart parts
    → row_after table done (map part_token parts ++ codes "=" ∷ vs) ≡ with_row table (done ++ parts) (all_of value_of vs)
row_after_again table vs done [] p = ap (λ (ps : List Part). with_row table ps (all_of value_of vs)) (sym (append-nil done))
row_after_again table vs done (x ∷ parts) p =
    let is = All-head IsPart x parts p in
    let other = part_no_sign x is in
    let e = part_again x is in
    rw (other, e) (row_after_again table vs (done ++ x ∷ []) parts (All-tail IsPart x parts p)
    ∙ ap (λ (ps : List Part). with_row table ps (all_of value_of vs)) (append_assoc done (x ∷ []) parts))

module _ (table : List ℕ) (parts : List Part) (values : List Value) (w : is_word table ≡ true) (low : 1 ≤ length parts) (high : length parts ≤ 5)
    (few : length values ≤ 16) (p : All IsPart parts) (v : All IsValue values) where
  pub row_said_again : said (codes "row " ++ (table ++ spaced part_token parts) ++ codes " =" ++ spaced value_token values) ≡ Ok (item.Row table parts values)
  row_said_again =
      let ps = map part_token parts in
      let vs = map value_token values in
      let after = row_after_again table vs [] parts p in
      let ev = all_of_again value_of value_token IsValue value_again values v in
      let l = le-leb 1 (length parts) low in
      let h = le-leb (length parts) 5 high in
      let f = le-leb (length values) 16 few in
      let says : item_of (codes "row" ∷ table ∷ (ps ++ codes "=" ∷ vs)) ≡ Some (item.Row table parts values) = rw (w, after, ev, l, h, f) in
      let joins : spaced part_token parts ++ 32 ∷ 61 ∷ spaced value_token values ≡ spaced (λ t. t) (ps ++ codes "=" ∷ vs) =
      rw (spaced_map part_token parts, spaced_map value_token values) (sym (flat_map-append (λ x. 32 ∷ x) ps (codes "=" ∷ vs))) in
      line_again (codes "row") (table ∷ (ps ++ codes "=" ∷ vs)) (codes "row " ++ (table ++ spaced part_token parts) ++ codes " =" ++ spaced value_token values)
      (item.Row table parts values) (word_token (codes "row") refl)
      (all_more IsToken table (ps ++ codes "=" ∷ vs) (word_token table w)
      (All-append IsToken ps (codes "=" ∷ vs) (all_mapped IsPart IsToken part_token part_is_token parts p)
      (all_more IsToken (codes "=") vs (plain_token (codes "=") (omega arith) refl) (all_mapped IsValue IsToken value_token value_is_token values v))))
      (simp append_assoc (ap (λ (l : List ℕ). 114 ∷ 111 ∷ 119 ∷ 32 ∷ (table ++ l)) joins)) refl says

module _ (proc : List ℕ) (args : List Arg) (w : is_word proc ≡ true) (few : length args ≤ 16) (a : All IsWhole args) where
  pub call_said_again : said (codes "tx " ++ proc ++ spaced arg_token args) ≡ Ok (item.Tx proc args)
  call_said_again =
      let ea = all_of_again arg_of arg_token IsWhole arg_again args a in
      let f = le-leb (length args) 16 few in
      let says : item_of (codes "tx" ∷ proc ∷ map arg_token args) ≡ Some (item.Tx proc args) = rw (w, ea, f) in
      line_again (codes "tx") (proc ∷ map arg_token args) (codes "tx " ++ proc ++ spaced arg_token args) (item.Tx proc args) (word_token (codes "tx") refl)
      (all_more IsToken proc (map arg_token args) (word_token proc w) (all_mapped IsWhole IsToken arg_token arg_is_token args a))
      (ap (λ (l : List ℕ). 116 ∷ 120 ∷ 32 ∷ (proc ++ l)) (spaced_map arg_token args)) refl says
