-- A head, line by line: `once` puts the rows that `init` puts, and nothing is printed.
use Rattle.std.proofs.Common.{◌≡◌, ◌∙◌, sym, ap, subst, refl, ℕ, ◌==◌, Bool, true, false, List, [], ◌∷◌, ◌++◌, map, length, Option, Some, None, arith}
use Rattle.std.specs.Prelude.{if◌then◌else◌, Result, Ok, Err}
use Rattle.aria_base.specs.Orders.{Database}
use Rattle.batch_rules.specs.declared.verdicts.Rule.{Rule}
use Rattle.cat_text.specs.Texts.{catalog_of}
use Rattle.proc_lang.specs.Catalogs.{Plan}
use Rattle.script_course.proofs.Turns.{behind_nothing, stopped_lines}
use Rattle.script_course.specs.Courses.{Course, Goes, Stops, behind, with_fault, with_last, with_lines}
use Rattle.script_places.specs.Places.{Asked, asked, closed_by, closing, next_line, plan_in, shut, without_head}
use Rattle.script_places.specs.declared.deeds.Deed.{Deed}
use Rattle.script_places.specs.declared.deeds.Deed.TheVariants as deed
use Rattle.script_places.specs.declared.heads.ScriptCatalog.{ScriptCatalog}
use Rattle.script_places.specs.declared.heads.ScriptCatalog.TheVariants as head
use Rattle.script_places.specs.declared.places.ScriptPlace.{ScriptPlace}
use Rattle.script_text.specs.Fits.{and_then}
use Rattle.script_text.specs.Lines.{last_line, scan, unreturned}
use Rattle.script_text.specs.declared.refusals.RefusalKind.{RefusalKind}
use Rattle.script_text.specs.declared.refusals.RefusalKind.TheVariants as kind
use Rattle.script_text.specs.declared.refusals.Refusal.{Refusal}
use Rattle.serving.specs.Lives.{no_plan}
use Rattle.run_commands.proofs.Turns.{not_both}
use Rattle.run_commands.specs.Onces.{Doing}
use Rattle.run_commands.specs.Onces as onces
use Rattle.run_commands.specs.Outs.{no_line}
use Rattle.run_commands.specs.Passes.{Line, Turn, on_turn, onward, over}
use Rattle.resume_laws.specs.Resumptions.{answers, answers_by}
use Rattle.script_rows.specs.Drafts.{done, done_by, no_counts, on_line}
use Rattle.script_rows.specs.declared.drafts.Draft.{Draft}
use Rattle.store_commands.specs.Drafts.{read_of, said_by, start, values_by, values_of}
use Rattle.store_laws.proofs.Heads.{IsOfHead, as_once, head_asked, in_head}
use Rattle.store_laws.proofs.Behind.{Gives}

abbrev draft_or : Draft → Course Draft → Draft
draft_or e (Goes bytes next) = next
draft_or e (Stops bytes) = e

same_draft : (bytes printed : List ℕ) (e next : Draft) → Goes bytes e ≡ Goes printed next → e ≡ next
same_draft bytes printed e next is = ap (λ (c : Course Draft). draft_or e c) is

-- ---- what `once` has of a head, before its first batch

module _ (rule : Rule) (percent : ℕ) (each : Bool) where
  abbrev pub Begun : Draft → Doing
  Begun e = record {
    place = as_once e.place;
    calls = [];
    state = record { rule = rule; percent = percent; rows = e.tables; waiting = []; batches = 0; requests = 0 };
    each = each;
  }

  done_both : (e : Draft) (after : ScriptPlace) (asks : Deed) → IsOfHead asks
      → onces.done (record (Begun e) { place = as_once after }) asks ≡ Goes [] (Begun (done (record e { place = after }) asks))
  done_both e after deed.Nothing h = refl
  done_both e after (deed.Put key row) h = refl
  done_both e after (deed.Call call) h = absurd h
  done_both e after (deed.Set rule percent) h = absurd h
  done_both e after (deed.Keep number) h = absurd h
  done_both e after deed.Run h = absurd h
  done_both e after deed.Tell h = absurd h

  done_place : (e : Draft) (after : ScriptPlace) (asks : Deed) → (done (record e { place = after }) asks).place ≡ after
  done_place e after deed.Nothing = refl
  done_place e after (deed.Put key row) = refl
  done_place e after (deed.Call call) = refl
  done_place e after (deed.Set rule percent) = refl
  done_place e after (deed.Keep number) = refl
  done_place e after deed.Run = refl
  done_place e after deed.Tell = refl

  -- a line
  record IsPut (e next : Draft) (line : List ℕ) : Type 0 where
    pub goes : onces.on_line (Begun e) line ≡ Goes [] (Begun next)
    pub place_is : next.place ≡ in_head next.place

  put_by : (e next : Draft) (line bytes : List ℕ) (a : Asked) → e.place ≡ in_head e.place → asked e.place no_counts line ≡ a → done_by e a ≡ Goes bytes next
      → IsPut e next line
  put_by e next line bytes (Err why) at is goes = not_both _ bytes next goes
  put_by e next line bytes (Ok r) at is goes =
      let h = head_asked e.place r.0 no_counts line r.1 at is in
      let next_is : done (record e { place = r.0 }) r.1 ≡ next = same_draft [] bytes (done (record e { place = r.0 }) r.1) next goes in
      let place_is : next.place ≡ r.0 = sym (ap (λ (x : Draft). x.place) next_is) ∙ done_place e r.0 r.1 in
      record {
        goes = ap (λ (x : Asked). onces.done_by (Begun e) x) h.asked_once ∙ done_both e r.0 r.1 h.of_head ∙ ap (λ (x : Draft). Goes [] (Begun x)) next_is;
        place_is = place_is ∙ h.place_is ∙ ap in_head (sym place_is);
      }

  put_line : (e next : Draft) (line bytes : List ℕ) → e.place ≡ in_head e.place → on_line e line ≡ Goes bytes next → IsPut e next line
  put_line e next line bytes at goes = put_by e next line bytes (asked e.place no_counts line) at refl goes

  -- lines, and whatever follows
  pub record ArePut (lines : List (List ℕ)) (e last : Draft) : Type 0 where
    pub place_is : last.place ≡ in_head last.place
    pub turns : (more : List Turn) → over on_turn (map Line lines ++ more) (Begun e) ≡ over on_turn more (Begun last)
    pub answered : (more : List Turn) → answers (map Line lines ++ more) (Begun e) ≡ answers more (Begun last)

  put_then : (line : List ℕ) (lines : List (List ℕ)) (e next last : Draft) → IsPut e next line → ArePut lines next last → ArePut (line ∷ lines) e last
  put_then line lines e next last first rest = record {
    place_is = rest.place_is;
    turns = λ more.
        ap (λ (c : Course Doing). onward (over on_turn (map Line lines ++ more)) c) first.goes
        ∙ behind_nothing (over on_turn (map Line lines ++ more) (Begun next))
        ∙ rest.turns more;
    answered = λ more. ap (λ (c : Course Doing). answers_by (Begun e) (answers (map Line lines ++ more)) c) first.goes ∙ rest.answered more;
  }

  puts_by : (line : List ℕ) (lines : List (List ℕ)) (bytes printed : List ℕ) (e last : Draft) (c : Course Draft)
      → ((before : List ℕ) (next : Draft) → next.place ≡ in_head next.place → with_lines on_line (Goes before next) lines ≡ Goes printed last
      → ArePut lines next last)
      → e.place ≡ in_head e.place → on_line e line ≡ c → with_lines on_line (behind bytes c) lines ≡ Goes printed last → ArePut (line ∷ lines) e last
  puts_by line lines bytes printed e last (Stops more) rest at is goes =
      not_both (bytes ++ more) printed last (sym (stopped_lines on_line (bytes ++ more) lines) ∙ goes)
  puts_by line lines bytes printed e last (Goes more next) rest at is goes =
      let first = put_line e next line more at is in
      put_then line lines e next last first (rest (bytes ++ more) next first.place_is goes)

  pub puts : (lines : List (List ℕ)) (bytes printed : List ℕ) (e last : Draft) → e.place ≡ in_head e.place
      → with_lines on_line (Goes bytes e) lines ≡ Goes printed last → ArePut lines e last
  puts [] bytes printed e last at goes =
      let same = same_draft bytes printed e last goes in
      record {
        place_is = subst (λ (x : Draft). x.place ≡ in_head x.place) same at;
        turns = λ more. ap (λ (x : Draft). over on_turn more (Begun x)) same;
        answered = λ more. ap (λ (x : Draft). answers more (Begun x)) same;
      }
  puts (line ∷ lines) bytes printed e last at goes =
      puts_by line lines bytes printed e last (on_line e line) (λ before next here goes. puts lines before printed next last here goes) at refl goes

-- ---- the end of a head

abbrev values_or : Plan × Database → Option (Plan × Database) → Plan × Database
values_or values None = values
values_or values (Some found) = found

-- a place that is shut has no open call
record IsShut (e : Draft) (q : ScriptPlace) (values : Plan × Database) : Type 0 where
  pub plan_is : plan_in q.head ≡ values.0
  pub rows_are : e.tables ≡ values.1
  pub none_open : q.open_calls ≡ 0

shut_by : (e : Draft) (q : ScriptPlace) (values : Plan × Database) (b : Bool) → (q.open_calls == 0) ≡ b
    → values_by e (if b then Ok q else Err kind.Unfinished) ≡ Some values → IsShut e q values
shut_by e q values false none is = absurd cc
shut_by e q values true none is =
    let same = ap (λ (o : Option (Plan × Database)). values_or values o) is in
    record { plan_is = ap (λ (v : Plan × Database). v.0) same; rows_are = ap (λ (v : Plan × Database). v.1) same; none_open = grind (arith, none) }

shuts : (e : Draft) (q : ScriptPlace) (values : Plan × Database) → values_by e (shut q) ≡ Some values → IsShut e q values
shuts e q values is = shut_by e q values (q.open_calls == 0) refl is

pub record IsClosed (e : Draft) (values : Plan × Database) : Type 0 where
  pub gives : Gives no_plan e.place.head values.0
  pub rows_are : e.tables ≡ values.1
  pub none_open : e.place.open_calls ≡ 0

read_gives : (e : Draft) (values : Plan × Database) (read : Result Plan RefusalKind)
    → values_by e (and_then shut (and_then (λ plan. Ok (record (without_head (next_line e.place)) { head = head.Ready plan })) read)) ≡ Some values
    → (read ≡ Ok values.0) × (e.tables ≡ values.1) × (e.place.open_calls ≡ 0)
read_gives e values (Err why) is = absurd cc
read_gives e values (Ok plan) is =
    let s = shuts e (record (without_head (next_line e.place)) { head = head.Ready plan }) values is in
    (ap (λ (p : Plan). Ok p) s.plan_is, s.rows_are, s.none_open)

closed_gives : (e : Draft) (values : Plan × Database) (h : ScriptCatalog) → e.place.head ≡ h → values_by e (closed_by (next_line e.place) h) ≡ Some values
    → Gives no_plan h values.0 × (e.tables ≡ values.1) × (e.place.open_calls ≡ 0)
closed_gives e values head.Unnamed at is =
    let s = shuts e (next_line e.place) values is in (sym s.plan_is ∙ ap plan_in at, s.rows_are, s.none_open)
closed_gives e values (head.Ready plan) at is =
    let s = shuts e (next_line e.place) values is in (ap plan_in (sym at) ∙ s.plan_is, s.rows_are, s.none_open)
closed_gives e values (head.Text text) at is = read_gives e values (catalog_of text) is

closes : (e : Draft) (values : Plan × Database) → values_by e (closing e.place) ≡ Some values → IsClosed e values
closes e values is = let c = closed_gives e values e.place.head refl is in record { gives = c.0; rows_are = c.1; none_open = c.2 }

-- ---- a whole head

pub record IsRead (head : List ℕ) (values : Plan × Database) : Type 0 where
  pub last : Draft
  pub printed : List ℕ
  pub goes : with_lines on_line (Goes [] start) (scan no_line head).lines ≡ Goes printed last
  pub closed : IsClosed last values

read_by : (head : List ℕ) (values : Plan × Database) (c : Course Draft) → with_lines on_line (Goes [] start) (scan no_line head).lines ≡ c
    → values_of c ≡ Some values → IsRead head values
read_by head values (Stops bytes) goes is = absurd cc
read_by head values (Goes bytes last) goes is = record { last = last; printed = bytes; goes = goes; closed = closes last values is }

pub head_read : (head : List ℕ) (values : Plan × Database) → (scan no_line head).fault ≡ None → (scan no_line head).feed.begun ≡ []
    → said_by head ≡ Some values → IsRead head values
head_read head values right ends is =
    let s = scan no_line head in
    let c = with_lines on_line (Goes [] start) s.lines in
    let whole : read_of head ≡ c =
    ap (λ (f : Option Refusal). with_last on_line (with_fault c f) (last_line s.feed)) right
    ∙ ap (λ (l : List ℕ). with_last on_line c (if length l == 0 then None else Some (unreturned l))) ends in
    read_by head values c refl (ap values_of (sym whole) ∙ is)
