use Rattle.workloads.proofs.Asked.{gen_asked, bench_asked, mix_asked}
use Rattle.workloads.proofs.laws.words_are_within.Goals as goal

pub returns : goal.returns
returns c = record { gen = gen_asked; bench = bench_asked; mix = mix_asked }
