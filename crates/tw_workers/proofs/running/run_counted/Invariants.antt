use Rattle.std.proofs.Common.{◌≡◌}
use Rattle.tw_exchange.specs.Further.{reached}
use Rattle.tw_workers.proofs.running.run_counted.Given as goal

abbrev pub ghosts-run_given : goal.ghosts-run_given
ghosts-run_given g a = record { is_given = λ n until board. (n ≡ a.exchange.executive.network) × (until ≡ a.exchange.executive.until) × (board ≡ a.exchange.publisher.board); is_begun = λ from. from ≡ reached a.exchange.executive.world; cell = a.cell.now.id }
