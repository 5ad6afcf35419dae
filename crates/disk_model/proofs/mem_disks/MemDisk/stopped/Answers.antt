use Rattle.disk_model.proofs.Images.{left_images}
use Rattle.disk_model.proofs.mem_disks.MemDisk.stopped.Goals as goal

pub returns-in_err-left-clause-image : goal.returns-in_err-left-clause-image
returns-in_err-left-clause-image c = left_images c.args.kept c.args.fill c.args.calls c.args.self.now

pub returns-in_err-left-2-clause-image : goal.returns-in_err-left-2-clause-image
returns-in_err-left-2-clause-image c = left_images c.args.kept c.args.fill c.args.calls c.args.self.now

pub returns-in_err-left-3-clause-image : goal.returns-in_err-left-3-clause-image
returns-in_err-left-3-clause-image c = left_images c.args.kept c.args.fill c.args.calls c.args.self.now

pub returns-in_err-left-4-clause-image : goal.returns-in_err-left-4-clause-image
returns-in_err-left-4-clause-image c = left_images c.args.kept c.args.fill c.args.calls c.args.self.now

pub returns-clause-image : goal.returns-clause-image
returns-clause-image c = left_images c.args.kept c.args.fill c.args.calls c.args.self.now
