-- A line of a head: where `init` takes it, `once` takes it, and it asks for the same.
use Rattle.std.proofs.Common.{◌≡◌, sym, subst, refl, ℕ, ◌+◌, nat_lt, Bool, true, false, not, ◌&&◌, List, [], ◌++◌, length}
use Rattle.std.specs.Prelude.{if◌then◌else◌, Option, Some, None, Result, Ok, Err, codes, bytes_eq}
use Rattle.aria_base.specs.Orders.{Cells}
use Rattle.aria_base.specs.declared.keys.Part.{Part}
use Rattle.cat_builtin.specs.Builtins.{builtin_named}
use Rattle.cat_text.specs.Texts.{catalog_of}
use Rattle.proc_lang.specs.Catalogs.{Plan}
use Rattle.script_places.specs.Places.{Asked, asked, at_catalog, at_item, at_piece, at_row, behind_text, by_head, found, goes_on, has_catalog, in_text, is_audit, is_byte, is_unnamed, next_line, puts, read_text, refused_in_text, under, within_text, without_head}
use Rattle.script_places.specs.declared.deeds.Deed.{Deed}
use Rattle.script_places.specs.declared.deeds.Deed.TheVariants as deed
use Rattle.script_places.specs.declared.heads.ScriptCatalog.{ScriptCatalog}
use Rattle.script_places.specs.declared.heads.ScriptCatalog.TheVariants as head
use Rattle.script_places.specs.declared.limits.TheConstants.{MOST_CATALOG}
use Rattle.script_places.specs.declared.places.Counts.{Counts}
use Rattle.script_places.specs.declared.places.Mode.TheVariants as mode
use Rattle.script_places.specs.declared.places.ScriptPlace.{ScriptPlace}
use Rattle.script_text.specs.Fits.{and_then, placed_row}
use Rattle.script_text.specs.Forms.{said}
use Rattle.script_text.specs.declared.items.Item.{Item}
use Rattle.script_text.specs.declared.items.Item.TheVariants as item
use Rattle.script_text.specs.declared.refusals.CatFault.TheVariants as fault
use Rattle.script_text.specs.declared.refusals.RefusalKind.{RefusalKind}
use Rattle.script_text.specs.declared.refusals.RefusalKind.TheVariants as kind

-- a place that `init` comes to, and the same one of `once`
abbrev pub in_head : ScriptPlace → ScriptPlace
in_head p = record p { mode = mode.Init; reports = false }

abbrev pub as_once : ScriptPlace → ScriptPlace
as_once p = record p { mode = mode.Once }

-- nothing is asked for, or a row
abbrev pub IsOfHead : Deed → Type 0
IsOfHead deed.Nothing = Unit {0}
IsOfHead (deed.Put key row) = Unit {0}
IsOfHead (deed.Call call) = ⊥
IsOfHead (deed.Set rule percent) = ⊥
IsOfHead (deed.Keep number) = ⊥
IsOfHead deed.Run = ⊥
IsOfHead deed.Tell = ⊥

-- what the one takes the other takes
record Taken (r : ScriptPlace × Deed) (other : Asked) : Type 0 where
  pub asked_once : other ≡ Ok (as_once r.0, r.1)
  pub of_head : IsOfHead r.1
  pub place_is : r.0 ≡ in_head r.0

abbrev Takes : Asked → Asked → Type 0
Takes (Ok r) other = Taken r other
Takes (Err why) other = Unit {0}

takes_if : (b : Bool) (x y x' y' : Asked) → Takes x x' → Takes y y' → Takes (if b then x else y) (if b then x' else y')
takes_if true x y x' y' h k = h
takes_if false x y x' y' h k = k

takes_then : {T : Type 0} (f g : T → Asked) (r : Result T RefusalKind) → ((t : T) → Takes (f t) (g t)) → Takes (and_then f r) (and_then g r)
takes_then f g (Ok t) h = h t
takes_then f g (Err why) h = tt

takes_under : (h : ScriptCatalog) (f g : Plan → Asked) → ((plan : Plan) → Takes (f plan) (g plan)) → Takes (under h f) (under h g)
takes_under head.Unnamed f g n = tt
takes_under (head.Text text) f g n = tt
takes_under (head.Ready plan) f g n = n plan

-- where nothing is asked for at a place that `init` comes to
quiet : (p : ScriptPlace) → Takes (Ok (in_head p, deed.Nothing)) (Ok (as_once (in_head p), deed.Nothing))
quiet p = record { asked_once = refl; of_head = tt; place_is = refl }

module _ (c : Counts) (p : ScriptPlace) where
  abbrev I : ScriptPlace
  I = in_head p

  abbrev O : ScriptPlace
  O = as_once (in_head p)

  takes_found : (o : Option Plan) → Takes (found I o) (found O o)
  takes_found None = tt
  takes_found (Some plan) = quiet (record p { head = head.Ready plan })

  -- What is found under the name stands apart: the catalogues that every database has are large terms, which are compared but once here.
  abbrev Named : ScriptPlace → List ℕ → Option Plan → Asked
  Named q name o =
      if not (has_catalog q.mode && is_unnamed q.head) then Err kind.Site
      else (if is_audit q.mode && not (bytes_eq name (codes "tpcc")) then Err kind.Name
      else (if bytes_eq name (codes "text") then Ok (record q { head = head.Text [] }, deed.Nothing)
      else found q o))

  takes_named : (name : List ℕ) (o : Option Plan) → Takes (Named I name o) (Named O name o)
  takes_named name o =
      takes_if (not (true && is_unnamed p.head)) (Err kind.Site)
      (if bytes_eq name (codes "text") then Ok (record I { head = head.Text [] }, deed.Nothing) else found I o)
      (Err kind.Site) (if bytes_eq name (codes "text") then Ok (record O { head = head.Text [] }, deed.Nothing) else found O o) tt
      (takes_if (bytes_eq name (codes "text")) (Ok (record I { head = head.Text [] }, deed.Nothing)) (found I o)
      (Ok (record O { head = head.Text [] }, deed.Nothing)) (found O o)
      (quiet (record p { head = head.Text [] })) (takes_found o))

  takes_catalog : (name : List ℕ) → Takes (at_catalog I name) (at_catalog O name)
  takes_catalog name = takes_named name (builtin_named name)

  takes_row : (table : List ℕ) (parts : List Part) (row : Cells) → Takes (at_row I table parts row) (at_row O table parts row)
  takes_row table parts row =
      takes_under p.head (λ plan. if p.rows_ended then Err kind.Site else and_then (puts I) (placed_row plan table parts row))
      (λ plan. if p.rows_ended then Err kind.Site else and_then (puts O) (placed_row plan table parts row))
      (λ plan. takes_if p.rows_ended (Err kind.Site) (and_then (puts I) (placed_row plan table parts row)) (Err kind.Site)
      (and_then (puts O) (placed_row plan table parts row)) tt
      (takes_then (puts I) (puts O) (placed_row plan table parts row) (λ r. record { asked_once = refl; of_head = tt; place_is = refl })))

  -- no call, no end and no settings may stand in a head
  takes_none : (other : Asked) → Takes (under p.head (λ plan. Err kind.Site)) other
  takes_none other = none p.head
    where
      none : (h : ScriptCatalog) → Takes (under h (λ plan. Err kind.Site)) other
      none head.Unnamed = tt
      none (head.Text text) = tt
      none (head.Ready plan) = tt

  takes_item : (i : Item) → Takes (at_item I c i) (at_item O c i)
  takes_item item.Skip = quiet p
  takes_item (item.Catalog name) = takes_catalog name
  takes_item (item.Piece piece) = tt
  takes_item (item.Row table parts row) = takes_row table parts row
  takes_item (item.Tx proc args) = takes_none (at_item O c (item.Tx proc args))
  takes_item (item.End n) = takes_none (at_item O c (item.End n))
  takes_item item.Report = tt
  takes_item (item.Settings name percent) = takes_none (at_item O c (item.Settings name percent))

-- while the text of a catalogue comes
module _ (c : Counts) (p : ScriptPlace) where
  abbrev J : ScriptPlace
  J = without_head (in_head p)

  abbrev Q : ScriptPlace
  Q = without_head (as_once (in_head p))

  takes_piece : (text piece : List ℕ) → Takes (at_piece J text piece) (at_piece Q text piece)
  takes_piece text piece =
      takes_if (nat_lt MOST_CATALOG (length text + length piece)) (Err (kind.Catalog fault.Long))
      (Ok (record J { head = head.Text (text ++ piece) }, deed.Nothing))
      (Err (kind.Catalog fault.Long)) (Ok (record Q { head = head.Text (text ++ piece) }, deed.Nothing)) tt
      (quiet (record p { head = head.Text (text ++ piece) }))

  takes_within : (text : List ℕ) (i : Item) → Takes (within_text J text i) (within_text Q text i)
  takes_within text item.Skip = quiet (record p { head = head.Text text })
  takes_within text (item.Catalog name) = quiet (record p { head = head.Text text })
  takes_within text (item.Piece piece) = takes_piece text piece
  takes_within text (item.Row table parts row) = quiet (record p { head = head.Text text })
  takes_within text (item.Tx proc args) = quiet (record p { head = head.Text text })
  takes_within text (item.End n) = quiet (record p { head = head.Text text })
  takes_within text item.Report = quiet (record p { head = head.Text text })
  takes_within text (item.Settings name percent) = quiet (record p { head = head.Text text })

  takes_read : (i : Item) (read : Result Plan RefusalKind)
      → Takes (and_then (λ ready. at_item ready c i) (and_then (λ plan. Ok (record J { head = head.Ready plan })) read))
      (and_then (λ ready. at_item ready c i) (and_then (λ plan. Ok (record Q { head = head.Ready plan })) read))
  takes_read i (Ok plan) = takes_item c (record p { head = head.Ready plan }) i
  takes_read i (Err why) = tt

  takes_behind : (text : List ℕ) (i : Item) → Takes (behind_text J c text i) (behind_text Q c text i)
  takes_behind text i = takes_read i (catalog_of text)

  never : (r : Result ScriptPlace RefusalKind) (why : RefusalKind) (other : Asked) → Takes (and_then (λ ready. Err why) r) other
  never (Ok ready) why other = tt
  never (Err first) why other = tt

  takes_refused : (text : List ℕ) (why : RefusalKind) → Takes (refused_in_text J text why) (refused_in_text Q text why)
  takes_refused text why =
      takes_if (is_byte why) (Err why) (and_then (λ ready. Err why) (read_text J text)) (Err why) (and_then (λ ready. Err why) (read_text Q text)) tt
      (never (read_text J text) why (and_then (λ ready. Err why) (read_text Q text)))

  takes_text : (text : List ℕ) (line : Result Item RefusalKind) → Takes (in_text J c text line) (in_text Q c text line)
  takes_text text (Ok i) = takes_if (goes_on i) (within_text J text i) (behind_text J c text i) (within_text Q text i) (behind_text Q c text i)
      (takes_within text i) (takes_behind text i)
  takes_text text (Err why) = takes_refused text why

takes_head : (c : Counts) (p : ScriptPlace) (h : ScriptCatalog) (line : Result Item RefusalKind)
    → Takes (by_head (in_head p) c h line) (by_head (as_once (in_head p)) c h line)
takes_head c p (head.Text text) line = takes_text c p text line
takes_head c p head.Unnamed line = takes_then (at_item (in_head p) c) (at_item (as_once (in_head p)) c) line (λ i. takes_item c p i)
takes_head c p (head.Ready plan) line = takes_then (at_item (in_head p) c) (at_item (as_once (in_head p)) c) line (λ i. takes_item c p i)

takes_line : (c : Counts) (p : ScriptPlace) (line : List ℕ) → Takes (asked (in_head p) c line) (asked (as_once (in_head p)) c line)
takes_line c p line = takes_head c (next_line p) p.head (said line)

-- what `once` is asked for by a line that `init` takes
pub record IsAsked (p : ScriptPlace) (c : Counts) (line : List ℕ) (after : ScriptPlace) (asks : Deed) : Type 0 where
  pub asked_once : asked (as_once p) c line ≡ Ok (as_once after, asks)
  pub of_head : IsOfHead asks
  pub place_is : after ≡ in_head after

is_asked : (p after : ScriptPlace) (c : Counts) (line : List ℕ) (asks : Deed) (given : Asked) → given ≡ Ok (after, asks)
    → Takes given (asked (as_once p) c line)
    → IsAsked p c line after asks
is_asked p after c line asks given is t =
    let taken : Taken (after, asks) (asked (as_once p) c line) = subst (λ (a : Asked). Takes a (asked (as_once p) c line)) is t in
    record { asked_once = taken.asked_once; of_head = taken.of_head; place_is = taken.place_is }

pub head_asked : (p after : ScriptPlace) (c : Counts) (line : List ℕ) (asks : Deed) → p ≡ in_head p → asked p c line ≡ Ok (after, asks)
    → IsAsked p c line after asks
head_asked p after c line asks at is =
    is_asked p after c line asks (asked p c line) is
    (subst (λ (q : ScriptPlace). Takes (asked q c line) (asked (as_once q) c line)) (sym at) (takes_line c p line))
