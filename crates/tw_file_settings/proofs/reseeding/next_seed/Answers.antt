use Rattle.std.proofs.Common.{◌∙◌, ap, arith}
use Rattle.rand_core.specs.Steps.{stream_of}
use Rattle.rand_core.specs.Stream.{next_u64}
use Rattle.rand_xoshiro.specs.SplitMix64.{mix_u64}
use Rattle.tw_file_settings.proofs.Seeds.{seed_behind}
use Rattle.tw_file_settings.proofs.reseeding.next_seed.Goals as goal

pub returns : goal.returns
unfolding next_u64 stream_of
returns c =
    let less = c.in-Some.ensures in
    seed_behind c.args.replication c.in-Some.behind c.args.seed c.next_u64.result (omega (arith, less.0, less.1))
    (ap (λ p. p.0) c.next_u64.ensures ∙ ap (λ x. (mix_u64 x).0) c.seed_from_u64.ensures.same)
