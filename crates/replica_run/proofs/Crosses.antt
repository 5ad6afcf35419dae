-- Engines may be sent to other threads, with calls and with answers: they hold nothing but memory of their own.
use denote.Param.Send.{IsSend, sendable}
use Rattle.std.proofs.Crossing.{crosses}
use Rattle.aria_base.proofs.calls.Call.TheSendSync as call
use Rattle.aria_base.proofs.calls.Request.TheSendSync as request
use Rattle.aria_base.proofs.lists.Items.TheSendSync as items
use Rattle.aria_base.proofs.schemas.Table.TheSendSync as table
use Rattle.aria_base.proofs.texts.Txt.TheSendSync as txt
use Rattle.aria_base.proofs.values.Kind.TheSendSync as kind
use Rattle.batch_core.proofs.answers.Line.TheSendSync as line
use Rattle.batch_engine.specs.contracts.engines.Engine as Engine
use Rattle.batch_engine.specs.contracts.marks.Marked as Marked
use Rattle.dep_rules.specs.contracts.numberings.Numbered as Numbered
use Rattle.proc_lang.proofs.expressions.Expr.TheLaws.TheKnot as expr_knot
use Rattle.proc_lang.proofs.procs.ArgKind.TheSendSync as arg_kind
use Rattle.proc_lang.proofs.statements.Block.TheLaws.TheKnot as block_knot
use Rattle.proc_lang.specs.contracts.catalogs.Catalog as Catalog
use Rattle.proc_lang.specs.contracts.expressions.Expr as Expr
use Rattle.proc_lang.specs.contracts.expressions.Exprs as Exprs
use Rattle.proc_lang.specs.contracts.statements.Block as Block
use Rattle.replica_run.specs.contracts.jobs.Job as Job
use Rattle.replica_run.specs.contracts.jobs.Ran as Ran
use Rattle.resv_words.specs.contracts.words.Closed as Closed
use Rattle.tbl_rows.proofs.tables.Tables.TheSendSync as tables

expr_send : IsSend Expr.the_row
expr_send = search (expr_knot.send-Expr, txt.the_send, crosses, sendable) depth 30

exprs_send : IsSend Exprs.the_row
exprs_send = search (expr_send, crosses, sendable) depth 30

block_send : IsSend Block.the_row
block_send = search (block_knot.send-Block, expr_send, exprs_send, items.the_send, crosses, sendable) depth 30

catalog_send : IsSend Catalog.the_row
catalog_send = search (block_send, table.the_send, txt.the_send, kind.the_send, arg_kind.the_send, items.the_send, crosses, sendable) depth 30

closed_send : IsSend Closed.the_row
closed_send = search (crosses, sendable) depth 30

numbered_send : IsSend Numbered.the_row
numbered_send = search (crosses, sendable) depth 30

marked_send : IsSend Marked.the_row
marked_send = search (closed_send, numbered_send, crosses, sendable) depth 30

engine_send : IsSend Engine.the_row
engine_send = search (catalog_send, tables.the_send, items.the_send, request.the_send, marked_send, crosses, sendable) depth 30

pub job_send : IsSend Job.the_row
job_send = search (engine_send, items.the_send, call.the_send, crosses, sendable) depth 30

pub ran_send : IsSend Ran.the_row
ran_send = search (engine_send, items.the_send, line.the_send, crosses, sendable) depth 40
