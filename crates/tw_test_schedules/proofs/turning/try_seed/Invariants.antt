-- The exchange is of this network, until this tick.
use Rattle.tw_test_schedules.proofs.turning.try_seed.Given as goal

abbrev pub ghosts-share : goal.ghosts-share
ghosts-share a = record { network = a.exchange.executive.network; until = a.exchange.executive.until }
