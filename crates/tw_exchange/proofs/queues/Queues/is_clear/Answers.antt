use Rattle.std.proofs.Common.{◌≡◌, None, rules}
use Rattle.tw_exchange.proofs.Indexing.{no_first}
use Rattle.tw_exchange.proofs.queues.Queues.is_clear.Goals as goal

pub returns-then-is_none-clause-some : goal.returns-then-is_none-clause-some
returns-then-is_none-clause-some c = λ posting delivering.
    let none : c.first-then-is_none.result ≡ None = no_first c.args.self.now.delivering c.first-then-is_none.result delivering c.first-then-is_none.ensures.least c.first-then-is_none.ensures.before_end in
    search rules

pub returns-else-is_none-clause-some : goal.returns-else-is_none-clause-some
returns-else-is_none-clause-some c = λ posting delivering.
    let none : c.first.result ≡ None = no_first c.args.self.now.posting c.first.result posting c.first.ensures.least c.first.ensures.before_end in
    search rules
