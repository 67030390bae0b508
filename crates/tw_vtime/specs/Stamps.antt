-- Stamps, each as the number that it packs into.
--     stamp t m p      of tick t, microstep m and phase p: 0 for the output of that time, 1 for the transition
--     never      after every other stamp
--     tick_of s, micro_of s, phase_of s      the parts of a stamp
--     is_overdue s next      whether what is sent for the transition at s was sent before `next`
use Rattle.std.specs.Prelude.{◌≡◌, ◌==◌, ◌+◌, ◌-◌, ◌*◌, ◌/◌, ◌%◌, ◌<◌, ◌≤◌, ◌⊎◌, ◌++◌, ℕ, List, Bool, nat_lt, if◌then◌else◌, codes}
use Rattle.std.specs.Fmt.{decimal}

-- the greatest tick, 2^40 - 2
abbrev pub max_tick : ℕ
max_tick = 1099511627774

-- the greatest microstep, 2^23 - 1
abbrev pub max_microstep : ℕ
max_microstep = 8388607

-- a tick takes 2^24 numbers: two, one for each phase, for each of its microsteps
abbrev pub stamp : ℕ → ℕ → ℕ → ℕ
stamp tick micro phase = tick * 16777216 + micro * 2 + phase

-- the end, 2^64 - 1
abbrev pub never : ℕ
never = 18446744073709551615

abbrev pub tick_of : ℕ → ℕ
tick_of s = s / 16777216

abbrev pub micro_of : ℕ → ℕ
micro_of s = s % 16777216 / 2

abbrev pub phase_of : ℕ → ℕ
phase_of s = s % 2

-- the numbers that are stamps: those of a tick in range, and the end
abbrev pub IsStamp : ℕ → Type 0
IsStamp s = (tick_of s ≤ max_tick) ⊎ (s ≡ never)

-- whether the output of a transition's time stands before a stamp: it is the number before the transition's
abbrev pub is_overdue : ℕ → ℕ → Bool
is_overdue s next = nat_lt (s - 1) next

-- the text of a stamp
abbrev pub stamp_text : ℕ → List ℕ
stamp_text s =
    if s == never then codes "end"
    else (decimal (tick_of s) ++ codes "." ++ decimal (micro_of s) ++ codes "." ++ decimal (phase_of s))

-- ---- what the numbers mean

-- a moment of virtual time: tick, microstep and phase
pub record Parts : Type 0 where
  pub tick : ℕ
  pub micro : ℕ
  pub phase : ℕ

abbrev pub IsInRange : Parts → Type 0
IsInRange a = (a.tick ≤ max_tick) × (a.micro ≤ max_microstep) × (a.phase ≤ 1)

abbrev pub number_of : Parts → ℕ
number_of a = stamp a.tick a.micro a.phase

abbrev pub parts_of : ℕ → Parts
parts_of s = record { tick = tick_of s; micro = micro_of s; phase = phase_of s }

-- by tick, then microstep, then phase
abbrev pub ComesBefore : Parts → Parts → Type 0
ComesBefore a b =
    (a.tick < b.tick) ⊎ ((a.tick ≡ b.tick) × ((a.micro < b.micro) ⊎ ((a.micro ≡ b.micro) × (a.phase < b.phase))))
