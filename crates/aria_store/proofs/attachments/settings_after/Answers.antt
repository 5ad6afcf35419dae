use Rattle.std.proofs.Common.{sym, ◌∙◌, ap}
use Rattle.std.specs.Prelude.{option_copied}
use Rattle.aria_store.proofs.Batches.{settings_last, settings_none}
use Rattle.aria_store.proofs.attachments.settings_after.Goals as goal

pub returns-in-Some-clause-rule : goal.returns-in-Some-clause-rule
returns-in-Some-clause-rule c =
    sym (settings_last c.args.later.now c.in-Some.logged.now (sym c.last.ensures.value ∙ ap option_copied c.in-Some.is) c.args.image.now.rule
    c.args.image.now.fallback).0

pub returns-in-Some-clause-fallback : goal.returns-in-Some-clause-fallback
returns-in-Some-clause-fallback c =
    sym (settings_last c.args.later.now c.in-Some.logged.now (sym c.last.ensures.value ∙ ap option_copied c.in-Some.is) c.args.image.now.rule
    c.args.image.now.fallback).1

pub returns-in-None-clause-rule : goal.returns-in-None-clause-rule
returns-in-None-clause-rule c =
    sym (settings_none c.args.later.now (sym c.last.ensures.value ∙ ap option_copied c.in-None.is) c.args.image.now.rule c.args.image.now.fallback).0

pub returns-in-None-clause-fallback : goal.returns-in-None-clause-fallback
returns-in-None-clause-fallback c =
    sym (settings_none c.args.later.now (sym c.last.ensures.value ∙ ap option_copied c.in-None.is) c.args.image.now.rule c.args.image.now.fallback).1
