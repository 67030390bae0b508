use Rattle.std.proofs.Common.{string_bytes}
use Rattle.tw_play.proofs.OneMore.{IsDrawing}
use Rattle.tw_seeded.specs.Schedules.{seeded}
use Rattle.tw_play.proofs.telling.play_seed.Given as goal

abbrev pub invariant-loop : goal.invariant-loop
invariant-loop g l =
    IsDrawing g.M.Atomic.meaning (seeded l.fn.seed) l.counter l.fn.player l.player l.schedule (g.W.Write.contents l.fn.out) (g.W.Write.contents l.out) (string_bytes l.replies)
