use Rattle.std.proofs.Common.{rules, ◌≡◌, ap, ◌∙◌, true}
use Rattle.std.proofs.lemmas.List.{map-append}
use Rattle.tbl_rows.specs.Shards.{home}
use Rattle.install_phase.specs.Dues.{shown}
use Rattle.install_phase.specs.Writes.{is_one}
use Rattle.install_phase.proofs.Listing.{own_listed}
use Rattle.install_phase.proofs.listings.append_if_own.Goals as goal

pub returns : goal.returns
returns c =
    let own : is_one c.args.shards.now (home c.args.write.now.0) ≡ true = search rules in
    own_listed c.args.shards.now (shown c.args.dues.now.items) (shown c.push.new.self.items) c.args.write.now own
    (ap shown c.in_ok-push.ensures.items ∙ map-append (λ due. due.write.now) c.args.dues.now.items _)
