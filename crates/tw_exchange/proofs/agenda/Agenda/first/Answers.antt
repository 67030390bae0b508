use Rattle.tw_exchange.proofs.Indexing.{early, late, least_is}
use Rattle.tw_exchange.proofs.agenda.Agenda.first.Goals as goal

pub returns-clause-least : goal.returns-clause-least
returns-clause-least c = least_is c.self.inside.stamps.items c.args.self.now c.self.inside.times.times c.first.result c.self.view_is c.self.invariant c.first.ensures.first

pub returns-clause-none : goal.returns-clause-none
returns-clause-none c = λ none. late c.self.inside.stamps.items c.args.self.now c.self.inside.times.times c.self.view_is c.self.invariant (c.first.ensures.none none)

pub returns-clause-before_end : goal.returns-clause-before_end
returns-clause-before_end c = early c.self.inside.times.times c.first.result c.first.ensures.first
