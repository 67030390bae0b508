use Rattle.std.proofs.Common.{◌≡◌, None, Some, sym, ◌∙◌}
use Rattle.std.specs.Prelude.{slice_get, Err}
use Rattle.std.proofs.lemmas.Bool.{eqb-true, not-false}
use Rattle.tw_exec.specs.Actions.{reason}
use Rattle.tw_exec.specs.Running.{answer}
use Rattle.tw_theory.specs.Contents.{next}
use Rattle.tw_theory.specs.Executive.{OverLimit, Step}
use Rattle.tw_exchange.specs.States.{limit_at}
use Rattle.tw_exchange.proofs.Drawing.{for_there, if_there}
use Rattle.tw_exchange.proofs.Standing.{limit_here}
use Rattle.tw_exchange.proofs.Trying.{its_limit, no_limit, restored}
use Rattle.tw_exchange.proofs.states.find_limit.Goals as goal

pub returns-in-Ok-clause-limit : goal.returns-in-Ok-clause-limit
returns-in-Ok-clause-limit g c =
    let m = g.M.Atomic.meaning in
    let e = c.args.executive.now in
    let p = c.contents.result.now.process in
    let here : next p ≡ e.world.gvt = sym c.next.ensures ∙ eqb-true _ _ (not-false _ (sym c.if-ne.ensures)) ∙ c.gvt-gvt.ensures in
    for_there (λ p. None ≡ limit_at m e c.args.component p) (slice_get e.world.processes c.args.component) p c.contents.ensures.process
    (sym (limit_here m e c.args.component p here ∙ no_limit m e c.facts.ensures c.args.component p c.contents.ensures.process here c.requires.before c.requires.odd c.in-Ok.field-0 c.in-Ok.ensures.acted.answer))

pub returns-in-Ok-clause-stays : goal.returns-in-Ok-clause-stays
returns-in-Ok-clause-stays g c =
    let m = g.M.Atomic.meaning in
    let e = c.args.executive.now in
    let p = c.contents.result.now.process in
    let here : next p ≡ e.world.gvt = sym c.next.ensures ∙ eqb-true _ _ (not-false _ (sym c.if-ne.ensures)) ∙ c.gvt-gvt.ensures in
    restored m e c.facts.ensures c.args.component p c.contents.ensures.process here c.requires.before c.requires.odd c.in-Ok.field-0 c.in-Ok.ensures.acted.answer
    c.act.new.self c.act-in-Ok.new.self c.act-in-Ok.result c.in-Ok.ensures.acted.done c.gvt-gvt.result c.gvt-gvt.ensures c.act-in-Ok.ensures.acted.done c.act-in-Ok.ensures.acted.refused c.act-in-Ok.ensures.memory

pub returns-in-Some-clause-limit : goal.returns-in-Some-clause-limit
returns-in-Some-clause-limit g c =
    let m = g.M.Atomic.meaning in
    let e = c.args.executive.now in
    let p = c.contents.result.now.process in
    let here : next p ≡ e.world.gvt = sym c.next.ensures ∙ eqb-true _ _ (not-false _ (sym c.if-ne.ensures)) ∙ c.gvt-gvt.ensures in
    let refused = if_there (λ r. answer m (Step c.args.component) e ≡ Err r) (reason c.in-Err.refused) (OverLimit c.in-Some.limit) c.in-Some.ensures c.in-Err.ensures.acted.refused in
    for_there (λ p. Some c.in-Some.limit ≡ limit_at m e c.args.component p) (slice_get e.world.processes c.args.component) p c.contents.ensures.process
    (sym (limit_here m e c.args.component p here ∙ its_limit m e c.facts.ensures c.args.component p c.contents.ensures.process here c.requires.before c.requires.odd c.in-Some.limit refused))
