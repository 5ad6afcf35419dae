-- Where `once` comes to the end of a script, `check` comes to the line behind which its report begins.
use Rattle.std.proofs.Common.{◌≡◌, ◌∙◌, sym, ap, subst, refl, Bool, true, false, cond, ◌==◌, Ok, Err, IfOk}
use Rattle.std.specs.Prelude.{⊤, Result, codes}
use Rattle.cat_text.specs.Texts.{catalog_of}
use Rattle.proc_lang.specs.Catalogs.{Plan}
use Rattle.script_places.specs.Places.{Asked, asked, asked_at, at_report, by_head, calls, closing, next_line, shut, without_head}
use Rattle.script_places.specs.Places as places
use Rattle.script_places.specs.declared.deeds.Deed.TheVariants as deed
use Rattle.script_places.specs.declared.heads.ScriptCatalog.{ScriptCatalog}
use Rattle.script_places.specs.declared.heads.ScriptCatalog.TheVariants as head
use Rattle.script_places.specs.declared.places.Counts.{Counts}
use Rattle.script_places.specs.declared.places.Mode.TheVariants as mode
use Rattle.script_places.specs.declared.places.ScriptPlace.{ScriptPlace}
use Rattle.script_text.specs.Fits.{and_then}
use Rattle.script_text.specs.Forms.{said}
use Rattle.script_text.specs.declared.items.Item.TheVariants as item
use Rattle.script_text.specs.declared.refusals.RefusalKind.{RefusalKind}
use Rattle.script_text.specs.declared.refusals.RefusalKind.TheVariants as kind
use Rattle.output_laws.proofs.Plans.{catalog_printed}
use Rattle.output_laws.proofs.Runs.{PrintedPlan}
use Rattle.output_laws.proofs.Asks.{PrintedHead, as_mode}

pub says_report : said (codes "report") ≡ Ok item.Report
says_report = refl

-- the catalogue is there, or none was named
abbrev pub IsSettled : ScriptCatalog → Type 0
IsSettled head.Unnamed = ⊤
IsSettled (head.Text text) = ⊥
IsSettled (head.Ready plan) = ⊤

pub record Closes (q : ScriptPlace) : Type 0 where
  pub quiet : q.reports ≡ false
  pub head : PrintedHead q.head
  pub settled : IsSettled q.head
  pub calls : (q.open_calls == 0) ≡ true

abbrev CloseBeside : Result ScriptPlace RefusalKind → Asked → Type 0
CloseBeside (Ok q) other = (other ≡ Ok (record (as_mode mode.Check q) { reports = true }, deed.Nothing)) × Closes q
CloseBeside (Err why) other = ⊤

module _ (c : Counts) where
  shut_beside : (p : ScriptPlace) → p.reports ≡ false → PrintedHead p.head → IsSettled p.head
      → CloseBeside (shut (as_mode mode.Once p)) (at_report (as_mode mode.Check p))
  shut_beside p quiet named settled = by (p.open_calls == 0) refl
    where
      by : (b : Bool) → (p.open_calls == 0) ≡ b
          → CloseBeside (cond b (Ok (as_mode mode.Once p)) (Err kind.Unfinished))
          (cond b (Ok (record (as_mode mode.Check p) { reports = true }, deed.Nothing)) (Err kind.Site))
      by true e = (refl, record { quiet = quiet; head = named; settled = settled; calls = e })
      by false e = tt

  text_beside : (p : ScriptPlace) → p.reports ≡ false → (r : Result Plan RefusalKind) → IfOk r PrintedPlan
      → CloseBeside (and_then shut (and_then (λ plan. Ok (record (as_mode mode.Once p) { head = head.Ready plan })) r))
      (and_then (λ ready. at_report ready) (and_then (λ plan. Ok (record (as_mode mode.Check p) { head = head.Ready plan })) r))
  text_beside p quiet (Ok plan) is = shut_beside (record p { head = head.Ready plan }) quiet is tt
  text_beside p quiet (Err why) is = tt

  close_by : (p : ScriptPlace) → p.reports ≡ false → PrintedHead p.head → (h : ScriptCatalog) → p.head ≡ h
      → CloseBeside (places.closed_by (as_mode mode.Once p) h) (by_head (as_mode mode.Check p) c h (Ok item.Report))
  close_by p quiet named head.Unnamed is = shut_beside p quiet named (subst IsSettled (sym is) tt)
  close_by p quiet named (head.Ready plan) is = shut_beside p quiet named (subst IsSettled (sym is) tt)
  close_by p quiet named (head.Text text) is = text_beside (without_head p) quiet (catalog_of text) (catalog_printed text)

  close_at : (p : ScriptPlace) → p.reports ≡ false → PrintedHead p.head
      → CloseBeside (places.closed_by (as_mode mode.Once p) p.head) (asked_at (as_mode mode.Check p) c (codes "report"))
  close_at p quiet named =
      let at : by_head (as_mode mode.Check p) c p.head (Ok item.Report) ≡ asked_at (as_mode mode.Check p) c (codes "report") = by p.reports quiet in
      subst (λ (a : Asked). CloseBeside (places.closed_by (as_mode mode.Once p) p.head) a) at (close_by p quiet named p.head refl)
    where
      by : (b : Bool) → b ≡ false
          → by_head (as_mode mode.Check p) c p.head (Ok item.Report) ≡ cond b (Ok (as_mode mode.Check p, deed.Tell))
          (by_head (as_mode mode.Check p) c p.head (said (codes "report")))
      by true e = cc
      by false e = ap (by_head (as_mode mode.Check p) c p.head) (sym says_report)

  close_of : (r : Result ScriptPlace RefusalKind) (other : Asked) (q : ScriptPlace) → r ≡ Ok q → CloseBeside r other
      → (other ≡ Ok (record (as_mode mode.Check q) { reports = true }, deed.Nothing)) × Closes q
  close_of r other q e h = subst (λ (x : Result ScriptPlace RefusalKind). CloseBeside x other) e h

  pub closing_beside : (p : ScriptPlace) → p.mode ≡ mode.Once → p.reports ≡ false → PrintedHead p.head → (q : ScriptPlace) → closing p ≡ Ok q
      → (asked (as_mode mode.Check p) c (codes "report") ≡ Ok (record (as_mode mode.Check q) { reports = true }, deed.Nothing)) × Closes q
  closing_beside p is quiet named q e =
      let same : closing p ≡ closing (as_mode mode.Once p) = λ i. closing (record p { mode = is i }) in
      close_of (closing (as_mode mode.Once p)) (asked (as_mode mode.Check p) c (codes "report")) q (sym same ∙ e) (close_at (next_line p) quiet named)
