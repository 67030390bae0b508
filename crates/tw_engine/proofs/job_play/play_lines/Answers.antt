use Rattle.std.proofs.Common.{◌≡◌, refl, subst}
use Rattle.tw_any_model.specs.AnyModel.{any_meaning}
use Rattle.tw_play.specs.Telling.{IsCutShort, IsPlayed}
use Rattle.tw_texts.specs.Refusals.{not_written_refusal}
use Rattle.tw_texts.specs.declared.traces.NotWritten.TheVariants.{OutOfMemory}
use Rattle.tw_engine.specs.Ends.{failed_of}
use Rattle.tw_engine.specs.Plays.{IsScripted}
use Rattle.tw_engine.proofs.Driven.{script_refused, script_short, script_unbegun, scripted}
use Rattle.tw_engine.proofs.Passing.{on_err}
use Rattle.tw_engine.proofs.job_play.play_lines.Goals as goal

pub returns : goal.returns
returns g c = λ bytes means.
    let player = c.in_ok-player.player in
    let old = g.W.Write.contents c.args.out.now in
    let mid = g.W.Write.contents c.play_script.new.out in
    scripted bytes c.args.network means c.args.start.until c.args.start.cancel player c.play_script.new.player c.in_ok-player.ensures.ok
    c.into_executive.result c.into_executive.ensures old mid (g.W.Write.contents c.write_committed.new.out)
    c.args.script.now c.in_ok-commands.commands.items c.in_ok-commands.ensures.ok
    (subst (λ cs. IsPlayed any_meaning cs player c.play_script.new.player old mid) c.as_slice.ensures.value c.in_ok-play_script.ensures.played)
    c.write_committed.result c.write_committed.ensures

pub returns-in_err-commands : goal.returns-in_err-commands
returns-in_err-commands g c = λ bytes means.
    let old = g.W.Write.contents c.args.out.now in
    let why = c.in_err-commands.field-0.0 in
    on_err (λ end. IsScripted bytes c.args.script.now c.args.start.until c.args.start.cancel end old old) c.from_residual.result why c.from_residual.ensures.1
    (script_refused bytes c.args.network means c.args.start.until c.args.start.cancel c.args.script.now why old c.in_err-commands.ensures.err)

pub returns-in_err-player : goal.returns-in_err-player
returns-in_err-player g c = λ bytes means.
    let old = g.W.Write.contents c.args.out.now in
    let why = c.in_err-player.field-0.0 in
    on_err (λ end. IsScripted bytes c.args.script.now c.args.start.until c.args.start.cancel end old old) c.from_residual-in_err-player.result why c.from_residual-in_err-player.ensures.1
    (script_unbegun bytes c.args.script.now c.args.start.until c.args.start.cancel why old c.in_err-player.ensures.err)

pub returns-in_err-play_script : goal.returns-in_err-play_script
returns-in_err-play_script g c = λ bytes means.
    let player = c.in_ok-player.player in
    let old = g.W.Write.contents c.args.out.now in
    let new = g.W.Write.contents c.play_script.new.out in
    let why = c.in_err-play_script.field-0.0 in
    let short = subst (λ cs. why ≡ OutOfMemory → IsCutShort any_meaning cs player old new) c.as_slice.ensures.value c.in_err-play_script.ensures.wanting in
    on_err (λ end. IsScripted bytes c.args.script.now c.args.start.until c.args.start.cancel end old new) c.from_residual-in_err-play_script.result (failed_of (not_written_refusal why)) c.from_residual-in_err-play_script.ensures.1
    (script_short bytes c.args.network means c.args.start.until c.args.start.cancel player c.play_script.new.player c.in_ok-player.ensures.ok
    c.play_script.new.player.executive refl old new new c.args.script.now c.in_ok-commands.commands.items c.in_ok-commands.ensures.ok why short)
