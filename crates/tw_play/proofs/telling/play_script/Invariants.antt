use Rattle.std.proofs.Common.{take, string_bytes}
use Rattle.tw_play.proofs.OneMore.{IsUnderWay}
use Rattle.tw_play.proofs.telling.play_script.Given as goal

abbrev pub invariant-loop-command : goal.invariant-loop-command
invariant-loop-command g l =
    IsUnderWay g.M.Atomic.meaning (take l.command-index l.commands) l.fn.player l.player (g.W.Write.contents l.fn.out) (g.W.Write.contents l.out) (string_bytes l.replies)
