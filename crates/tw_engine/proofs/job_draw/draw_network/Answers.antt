use Rattle.std.proofs.Common.{◌∙◌, ap, length, subst, sym}
use Rattle.std.proofs.lemmas.List.{length-map}
use Rattle.std.specs.Prelude.{Err}
use Rattle.std.specs.Io.KnownBytes.{Keeps}
use Rattle.serde_json.specs.View.{view}
use Rattle.tw_figures.specs.Labelled.{label}
use Rattle.tw_engine.proofs.Drawn.{view_refused}
use Rattle.tw_engine.proofs.Driven.{keeps_all}
use Rattle.tw_engine.proofs.Viewed.{as_many}
use Rattle.tw_engine.specs.Drawings.{IsViewDrawnOf}
use Rattle.tw_engine.specs.Ends.{failed_of}
use Rattle.tw_engine.proofs.job_draw.draw_network.Goals as goal

pub draw_run-requires : goal.draw_run-requires
draw_run-requires g c =
    ap length c.as_slice.ensures.value ∙ sym (length-map c.in_ok-labels.labels.items label)
    ∙ ap length c.in_ok-labels.ensures ∙ as_many (view c.args.file.now) c.args.run.now.network.now.models

pub returns : goal.returns
returns g c =
    let old = g.W.Write.contents c.args.out.now in
    subst (λ why. IsViewDrawnOf c.args.run.now.network.now c.args.run.now.until (Err why) old (g.W.Write.contents c.draw_run.new.out))
    (sym (c.from-in-Err.ensures ∙ ap failed_of c.from.ensures))
    (view_refused c.args.run.now.network.now c.args.run.now.until c.in-Err.why old (g.W.Write.contents c.draw_run.new.out) (λ e. c.in-Err.ensures.bad_tick.0 (ap Err e))
    (λ other. subst (λ out. Keeps old (g.W.Write.contents out)) (sym (c.in-Err.ensures.unwritten other)) (keeps_all old)))
