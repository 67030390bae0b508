use Rattle.std.proofs.Common.{◌∙◌, ◌+◌, ◌≤◌, max, ap, sym, subst}
use Rattle.tw_vtime.specs.Stamps.{micro_of, tick_of}
use Rattle.tw_figures.proofs.Gathering.{counted_more}
use Rattle.tw_figures.proofs.gatherer.Gatherer.count.Goals as goal

pub returns-clause-counted : goal.returns-clause-counted
returns-clause-counted c rs r at h =
    let old = c.args.self.now in
    let micro = ap (λ n. max old.microsteps (n + 1)) (c.from.ensures ∙ c.micro.ensures.micro ∙ ap micro_of (sym at)) in
    let l : old.from ≤ tick_of r.stamp = subst (λ n. old.from ≤ n) (c.tick.ensures.tick ∙ ap tick_of (sym at)) c.if-tick-self.false in
    counted_more old.from rs r old (record old { records = c.in_ok-self.field-0; microsteps = c.max-self.result }) h l c.in_ok-self.ensures (c.max-self.ensures ∙ micro)
