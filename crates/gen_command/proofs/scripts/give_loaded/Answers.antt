use Rattle.std.proofs.Common.{◌≡◌, ℕ, List, flat_map, ap, ◌∙◌, subst}
use Rattle.std.proofs.lemmas.Result.{err_from_is_err_and}
use Rattle.std.specs.FinMap.{entries}
use Rattle.aria_base.specs.Orders.{Database}
use Rattle.aria_base.specs.Streams.{Gives}
use Rattle.answer_text.specs.States.{row_text}
use Rattle.proc_lang.specs.Catalogs.{Plan}
use Rattle.script_course.proofs.Turns.{front_longer}
use Rattle.workloads.specs.Generators.{plan_of}
use Rattle.gen_command.specs.Scripts.{catalog_text, rows_text}
use Rattle.gen_command.proofs.Leads.{gives_behind}
use Rattle.gen_command.proofs.scripts.give_loaded.Goals as goal

pub returns-in_err-give_catalog-clause-gives : goal.returns-in_err-give_catalog-clause-gives
returns-in_err-give_catalog-clause-gives g c =
    let it = c.args.generator.now in
    let p = err_from_is_err_and c.from_residual.result c.from_residual.ensures.1 in
    rw p.1 (front_longer (g.K.Sink.given c.args.out.now) (g.K.Sink.given c.give_catalog.new.out) (catalog_text it)
    (rows_text it) c.in_err-give_catalog.ensures.gives)

pub returns-clause-gives : goal.returns-clause-gives
returns-clause-gives g c =
    let it = c.args.generator.now in
    let mid = g.K.Sink.given c.give_catalog.new.out in
    let new = g.K.Sink.given c.give_tables.new.out in
    let text : flat_map (row_text c.args.catalog.now.tables) (entries c.args.tables.now) ≡ rows_text it =
    ap (λ (plan : Plan). flat_map (row_text plan.tables) (entries c.args.tables.now)) c.requires.plan
    ∙ ap (λ (rows : Database). flat_map (row_text (plan_of it).tables) (entries rows)) c.requires.rows in
    gives_behind (g.K.Sink.given c.args.out.now) mid new c.give_tables.result (catalog_text it) (rows_text it) c.in_ok-give_catalog.ensures.gives
    (subst (λ (t : List ℕ). Gives mid new c.give_tables.result t) text c.give_tables.ensures.gives)
