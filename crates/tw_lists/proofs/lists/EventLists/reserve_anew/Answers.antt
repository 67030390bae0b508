use Rattle.std.proofs.Common.{ap, arith}
use Rattle.tw_lists.specs.Lists.{node_count}
use Rattle.tw_lists.proofs.Owing.{anew_within}
use Rattle.tw_lists.proofs.lists.EventLists.reserve_anew.Goals as goal

pub returns-in-Ok-clause-room : goal.returns-in-Ok-clause-room
returns-in-Ok-clause-room c =
    let within = anew_within c.args.self.now.owed c.args.messages.now in
    omega (arith, within, c.in-Ok.ensures.room)

pub returns-in-Ok-clause-limit : goal.returns-in-Ok-clause-limit
returns-in-Ok-clause-limit c =
    let within = anew_within c.args.self.now.owed c.args.messages.now in
    (λ many. c.in-Ok.ensures.limit.0 (omega (arith, within, many, ap node_count c.self.view_is)), λ full. absurd (cc full))
