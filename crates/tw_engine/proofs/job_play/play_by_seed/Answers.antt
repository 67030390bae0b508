use Rattle.std.proofs.Common.{refl}
use Rattle.tw_texts.specs.Refusals.{not_written_refusal}
use Rattle.tw_engine.specs.Ends.{failed_of}
use Rattle.tw_engine.specs.Plays.{IsSeeded}
use Rattle.tw_engine.proofs.Driven.{seed_drawn, seed_short}
use Rattle.tw_engine.proofs.Passing.{on_err}
use Rattle.tw_engine.proofs.job_play.play_by_seed.Goals as goal

pub returns : goal.returns
returns g c =
    seed_drawn c.args.bytes.now c.in_ok-network.network c.in_ok-network.ensures.ok c.args.start.until c.args.start.cancel c.in_ok-player.player c.play_seed.new.player c.in_ok-player.ensures.ok
    c.into_executive.result c.into_executive.ensures (g.W.Write.contents c.args.out.now) (g.W.Write.contents c.play_seed.new.out) (g.W.Write.contents c.write_committed.new.out)
    c.args.seed c.args.steps c.in_ok-play_seed.ensures.played c.write_committed.result c.write_committed.ensures

pub returns-in_err-play_seed : goal.returns-in_err-play_seed
returns-in_err-play_seed g c =
    let old = g.W.Write.contents c.args.out.now in
    let new = g.W.Write.contents c.play_seed.new.out in
    let why = c.in_err-play_seed.field-0.0 in
    on_err (λ end. IsSeeded c.args.bytes.now c.args.seed c.args.steps c.args.start.until c.args.start.cancel end old new) c.from_residual-in_err-play_seed.result (failed_of (not_written_refusal why)) c.from_residual-in_err-play_seed.ensures.1
    (seed_short c.args.bytes.now c.in_ok-network.network c.in_ok-network.ensures.ok c.args.start.until c.args.start.cancel c.in_ok-player.player c.play_seed.new.player c.in_ok-player.ensures.ok
    c.play_seed.new.player.executive refl old new new c.args.seed c.args.steps why c.in_err-play_seed.ensures.wanting)
