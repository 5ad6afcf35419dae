use Rattle.std.proofs.Common.{sym, ◌∙◌}
use Rattle.serde_json.proofs.Views.{view-Object}
use Rattle.cat_read.proofs.Counts.{members_counted}
use Rattle.cat_read.proofs.objects.member_count.Goals as goal

pub returns-in-Object : goal.returns-in-Object
returns-in-Object c = rw (c.in-Object.is, view-Object c.in-Object.members) (c.len.ensures.len ∙ sym (members_counted c.in-Object.members.entries))
