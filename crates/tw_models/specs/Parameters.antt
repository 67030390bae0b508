-- The parameters of the models, and their ranges. Times are in ticks; the greatest tick is 1,099,511,627,774.
use Rattle.std.specs.Int.{w64}
use Rattle.std.specs.Prelude.{ℕ, ℤ, ◌<◌, ◌≤◌, FitsSigned}

-- a generator: the time between two outputs, and the value that it sends
pub record GenParameters : Type 0 where
  pub period : ℕ
  pub value : ℤ

-- a relay: the time that it holds what comes
pub record RelayParameters : Type 0 where
  pub delay : ℕ

-- a queue: the time that each job takes
pub record QueueParameters : Type 0 where
  pub service : ℕ

-- a hop: the number that it starts with, on how many ports it sends, and how many waiting times there are
pub record HopParameters : Type 0 where
  pub seed : ℕ
  pub ports : ℕ
  pub spread : ℕ

-- a period is 1 to the greatest tick
pub record FitsGen (g : GenParameters) : Type 0 where
  pub period_some : 1 ≤ g.period
  pub period_fits : g.period ≤ 1099511627774
  pub value_fits : FitsSigned w64 g.value

-- a delay is 0 to the greatest tick
pub record FitsRelay (r : RelayParameters) : Type 0 where
  pub delay_fits : r.delay ≤ 1099511627774

-- a service is 0 to the greatest tick
pub record FitsQueue (q : QueueParameters) : Type 0 where
  pub service_fits : q.service ≤ 1099511627774

-- a seed has 64 bits, there are 1 to 16 ports and 1 to 1,048,576 waiting times
pub record FitsHop (h : HopParameters) : Type 0 where
  pub seed_fits : h.seed < 18446744073709551616
  pub ports_some : 1 ≤ h.ports
  pub ports_fit : h.ports ≤ 16
  pub spread_some : 1 ≤ h.spread
  pub spread_fits : h.spread ≤ 1048576
