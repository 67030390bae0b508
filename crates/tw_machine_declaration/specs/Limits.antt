-- The limits of timers and of what is sent at any time, by name.
use Rattle.std.specs.Prelude.{ℕ}

-- the most timers, of which one with a count counts each
abbrev pub max_timers : ℕ
max_timers = 64

-- the most entries of the member `timers`
abbrev pub max_timer_names : ℕ
max_timer_names = 16

-- how many items are kept to be sent
abbrev pub outbox : ℕ
outbox = 64
