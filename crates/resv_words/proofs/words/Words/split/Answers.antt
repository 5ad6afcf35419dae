use Rattle.std.proofs.Common.{rules}
use Rattle.resv_words.proofs.Keeps.{splits}
use Rattle.resv_words.proofs.words.Words.split.Goals as goal

pub split_seat-other-requires : goal.split_seat-other-requires
split_seat-other-requires c = (search rules, search rules, splits _ _ _ _ (search rules))
