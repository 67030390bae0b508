use Rattle.std.proofs.Common.{[]}
use Rattle.tw_play.proofs.OneMore.{failed_only, nothing_moved, on_ok, passed_on, way_done, way_more, way_short}
use Rattle.tw_play.specs.Playing.{nothing}
use Rattle.tw_play.proofs.telling.play_script.Goals as goal

pub loop-command-init : goal.loop-command-init
loop-command-init g c = record {
  text = [];
  played = nothing c.args.player.now;
  moved = nothing_moved (g.W.Write.contents c.args.out.now) _ c.new-replies.ensures.bytes;
}

pub loop-command-preserved : goal.loop-command-preserved
loop-command-preserved g c =
    way_more c.args.commands.now c.loop-command.command-index c.command-item.result c.loop-command.player c.obey-answer.new.self c.obey-answer.result _ _ _ _
    c.loop-command-test.true c.command-item.is c.loop-command.invariant c.obey-answer.ensures c.in_ok-tell.ensures.enough c.in_ok-tell.ensures.told

pub returns-in_err-tell-clause-wanting : goal.returns-in_err-tell-clause-wanting
returns-in_err-tell-clause-wanting g c =
    passed_on c.from_residual.result c.in_err-tell.field-0.0 _ c.from_residual.ensures.1
    (λ e. way_short c.args.commands.now c.loop-command.command-index c.command-item.result c.loop-command.player c.obey-answer.new.self c.obey-answer.result _ _ _
    c.loop-command-test.true c.command-item.is c.loop-command.invariant c.obey-answer.ensures (c.in_err-tell.ensures.wanting e))

pub returns-clause-played : goal.returns-clause-played
returns-clause-played g c =
    on_ok c.write_out.result _ _ (way_done c.args.commands.now c.loop-command.command-index c.loop-command.player _ _ _ c.loop-command-test.false c.loop-command.invariant) c.write_out.ensures.ok

pub returns-clause-wanting : goal.returns-clause-wanting
returns-clause-wanting g c = failed_only c.write_out.result _ c.write_out.ensures.err
