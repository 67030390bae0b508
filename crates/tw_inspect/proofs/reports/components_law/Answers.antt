use Rattle.std.proofs.Common.{◌∙◌}
use Rattle.tw_inspect.proofs.Presence.{each_is_there}
use Rattle.tw_inspect.proofs.reports.components_law.Goals as goal

pub returns : goal.returns
returns g c =
    each_is_there g.M.Atomic.meaning c.args.executive.now c.deref.result.now (c.deref.ensures ∙ c.network.ensures) c.facts-2.ensures.all_named c.facts.ensures.sound.processes
