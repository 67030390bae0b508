use Rattle.std.proofs.Common.{ap, sym, ◌∙◌, arith, length}
use Rattle.std.proofs.lemmas.Option.{slice_get_within}
use Rattle.tw_vtime.proofs.Comparing.{lt_from_is_lt}
use Rattle.tw_exchange.proofs.PassByPass.{process_count}
use Rattle.tw_laws.proofs.Ending.{all_past_is}
use Rattle.tw_exchange.proofs.Standing.{past_not}
use Rattle.tw_exchange.proofs.states.all_past.Goals as goal

pub returns-then-lt : goal.returns-then-lt
returns-then-lt g c =
    let p = c.contents.result.now.process in
    sym (past_not c.args.end c.args.executive.now.world.processes c.loop-component.component p c.contents.ensures.process (omega (arith, lt_from_is_lt c.line.result c.args.end (sym c.if-lt.ensures), c.line.ensures)))

pub returns : goal.returns
returns g c = sym (all_past_is c.args.end c.args.executive.now.world.processes (λ d p at. c.loop-component.invariant d p (omega (arith, slice_get_within c.args.executive.now.world.processes d p at, c.loop-component-test.false, c.len-component-end.ensures, ap (λ x. length x.models) (c.deref.ensures ∙ c.network.ensures), process_count g.M.Atomic.meaning c.args.executive.now c.facts.ensures)) at))
