-- A draft keeps what is true of it from line to line.
use Rattle.std.proofs.Common.{◌≡◌, refl, sym, subst, true, []}
use Rattle.std.specs.FinMap as fin
use Rattle.aria_base.proofs.Fitting.{fit_with, none_fit}
use Rattle.aria_base.specs.Orders.{Cells, Database}
use Rattle.aria_base.specs.Schemas.{Fits, IsConsistent}
use Rattle.aria_base.specs.declared.keys.Key.{Key}
use Rattle.script_places.specs.Follows.{Follows, HeadStays, IsReadyWith}
use Rattle.script_places.specs.Places.{plan_in}
use Rattle.script_places.specs.declared.deeds.Deed.{Deed}
use Rattle.script_places.specs.declared.deeds.Deed.TheVariants as deed
use Rattle.script_places.specs.declared.heads.ScriptCatalog.{ScriptCatalog}
use Rattle.script_places.specs.declared.heads.ScriptCatalog.TheVariants as head
use Rattle.script_places.specs.declared.places.Counts.{Counts}
use Rattle.script_places.specs.declared.places.ScriptPlace.{ScriptPlace}
use Rattle.script_rows.specs.Drafts.{AreUnder, IsFitting, done}

-- ---- under a catalogue

of_empty : (h : ScriptCatalog) (rows : Database) → rows ≡ fin.empty → AreUnder h rows
of_empty head.Unnamed rows e = e
of_empty (head.Text text) rows e = e
of_empty (head.Ready plan) rows e = none_fit plan.tables rows e

head_on : (h next : ScriptCatalog) (rows : Database) → HeadStays h next → AreUnder h rows → AreUnder next rows
head_on head.Unnamed next rows on under = of_empty next rows under
head_on (head.Text text) next rows on under = of_empty next rows under
head_on (head.Ready plan) next rows on under = subst (λ (k : ScriptCatalog). AreUnder k rows) (sym on) under

plan_under : (h : ScriptCatalog) (rows : Database) → AreUnder h rows → IsConsistent (plan_in h).tables rows
plan_under head.Unnamed rows e = none_fit [] rows e
plan_under (head.Text text) rows e = none_fit [] rows e
plan_under (head.Ready plan) rows under = under

-- the rows fit the catalogue at the end
pub closed_under : (before after : ScriptCatalog) (rows : Database) → AreUnder before rows → HeadStays before after → IsConsistent (plan_in after).tables rows
closed_under before after rows under stays = plan_under after rows (head_on before after rows stays under)

-- ---- a line

put_under : (h : ScriptCatalog) (rows : Database) (key : Key) (row : Cells) → AreUnder h rows → IsReadyWith h (λ plan. Fits plan.tables key row)
    → AreUnder h (fin.insert rows key row)
put_under head.Unnamed rows key row under fits = absurd fits
put_under (head.Text text) rows key row under fits = absurd fits
put_under (head.Ready plan) rows key row under fits = fit_with plan.tables rows (fin.insert rows key row) key row under fits refl

-- what a line asks for leaves rows that fit
pub next_fits : (before after : ScriptPlace) (rows : Database) (counts : Counts) (asks : Deed) → AreUnder before.head rows → Follows before counts after asks
    → IsFitting (done (record { place = after; tables = rows }) asks)
next_fits before after rows counts (deed.Put key row) under f =
    put_under after.head rows key row (head_on before.head after.head rows f.head_stays under) f.allows.fits
next_fits before after rows counts deed.Nothing under f = head_on before.head after.head rows f.head_stays under
next_fits before after rows counts (deed.Call call) under f = head_on before.head after.head rows f.head_stays under
next_fits before after rows counts (deed.Set rule percent) under f = head_on before.head after.head rows f.head_stays under
next_fits before after rows counts (deed.Keep number) under f = head_on before.head after.head rows f.head_stays under
next_fits before after rows counts deed.Run under f = head_on before.head after.head rows f.head_stays under
next_fits before after rows counts deed.Tell under f = head_on before.head after.head rows f.head_stays under
