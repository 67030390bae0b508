use Rattle.std.proofs.Common.{refl}
use Rattle.tw_texts.specs.Refusals.{not_written_refusal}
use Rattle.tw_engine.proofs.Drawn.{kept_whole, script_unbegun, script_undone, script_undrawn}
use Rattle.tw_engine.proofs.Passing.{on_err}
use Rattle.tw_engine.specs.Drawings.{IsScriptDrawn}
use Rattle.tw_engine.specs.Ends.{failed_of}
use Rattle.tw_engine.proofs.job_draw.draw_lines.Goals as goal

pub returns-in_err-commands : goal.returns-in_err-commands
returns-in_err-commands g c = λ bytes means.
    let old = g.W.Write.contents c.args.out.now in
    let why = c.in_err-commands.field-0.0 in
    on_err (λ end. IsScriptDrawn bytes c.args.script.now c.args.warp.start.until end old old) c.from_residual.result why c.from_residual.ensures.1
    (script_undrawn bytes c.args.network means c.args.warp.start.until c.args.script.now why old c.in_err-commands.ensures.err)

pub returns-in_err-player : goal.returns-in_err-player
returns-in_err-player g c = λ bytes means.
    let old = g.W.Write.contents c.args.out.now in
    let why = c.in_err-player.field-0.0 in
    on_err (λ end. IsScriptDrawn bytes c.args.script.now c.args.warp.start.until end old old) c.from_residual-in_err-player.result why c.from_residual-in_err-player.ensures.1
    (script_unbegun bytes c.args.script.now c.args.warp.start.until why old c.in_err-player.ensures.err)

pub returns-in_err-draw_script : goal.returns-in_err-draw_script
returns-in_err-draw_script g c = λ bytes means.
    let old = g.W.Write.contents c.args.out.now in
    let new = g.W.Write.contents c.draw_script.new.out in
    let why = c.in_err-draw_script.field-0.0 in
    on_err (λ end. IsScriptDrawn bytes c.args.script.now c.args.warp.start.until end old new) c.from_residual-in_err-draw_script.result (failed_of (not_written_refusal why)) c.from_residual-in_err-draw_script.ensures.1
    (script_undone bytes c.args.script.now c.args.warp.start.until why old new (kept_whole g.W.Write.contents why c.args.out.now c.draw_script.new.out c.in_err-draw_script.ensures.unwritten))

pub returns : goal.returns
returns g c = λ bytes means. (refl, (c.args.network, means, (c.in_ok-commands.commands.items, c.in_ok-commands.ensures.ok)))
