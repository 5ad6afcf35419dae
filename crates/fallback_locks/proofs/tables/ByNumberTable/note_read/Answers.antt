use Rattle.std.proofs.Common.{ap, ◌∙◌, refl, true}
use Rattle.std.specs.Prelude.{set}
use Rattle.fallback_locks.specs.LastWaves.{last_at, with_reader}
use Rattle.fallback_locks.proofs.NumberTables.{noted_at}
use Rattle.fallback_locks.proofs.tables.ByNumberTable.note_read.Goals as goal

pub returns-clause-noted : goal.returns-clause-noted
returns-clause-noted c = λ q.
    let lasts = c.args.self.now.lasts.items in
    let number = c.args.number.now in
    ap (λ next. last_at (set lasts number next) q) (c.read_in-next.ensures ∙ ap (with_reader c.args.wave true) c.last_of.ensures)
    ∙ noted_at (with_reader c.args.wave) (λ last. refl) lasts number q c.requires
