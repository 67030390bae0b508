-- Random numbers.
--     split_mix seed      the first of them
--     drawn x      the one behind another
--     output_xsh_rr x      the 32 bits that a program sees of one, of the kit's PCG
use Rattle.std.specs.Prelude.{◌≡◌, ℕ, ◌+◌, ◌-◌, ◌*◌, ◌/◌, ◌%◌, ◌^◌, ◌<◌, bit_xor, refl}
use Rattle.std.specs.Int.{w32, rotate_right}
use Rattle.std.proofs.Common.{arith, lt_of_le_of_lt}
use Rattle.std.proofs.Math.Nat.{div-le_self, mod-lt}
use Rattle.std.proofs.lemmas.Nat.{or_lt, xor_lt}
use Rattle.rand_pcg.specs.Pcg.{output_xsh_rr}

-- a number, and its bits so many places lower, one over the other
abbrev pub folded : ℕ → ℕ → ℕ
folded by z = bit_xor z (z / 2 ^ by)

-- the number that SplitMix64 makes of a seed (Steele, Lea and Flood 2014, "Fast splittable pseudorandom number generators")
abbrev pub split_mix : ℕ → ℕ
split_mix seed =
    let a = (seed + 0x9E3779B97F4A7C15) % 2 ^ 64 in
    let b = folded 30 a * 0xBF58476D1CE4E5B9 % 2 ^ 64 in
    let c = folded 27 b * 0x94D049BB133111EB % 2 ^ 64 in
    folded 31 c

-- the next random number
abbrev pub drawn : ℕ → ℕ
drawn x = (6364136223846793005 * x + 1442695040888963407) % 18446744073709551616

-- SplitMix64's own first numbers of the seeds 0 and 1234567
split_mix-0 : split_mix 0 ≡ 0xE220A8397B1DCDAF
split_mix-0 = refl

split_mix-1234567 : split_mix 1234567 ≡ 6457827717110365317
split_mix-1234567 = refl

-- what a program sees of the first three random numbers of the seed 0
seen-0 : output_xsh_rr (split_mix 0) ≡ 1092706980
seen-0 = refl

seen-1 : output_xsh_rr (drawn (split_mix 0)) ≡ 278790474
seen-1 = refl

seen-2 : output_xsh_rr (drawn (drawn (split_mix 0))) ≡ 1039822109
seen-2 = refl

-- PCG's own first number of the state 42 and the stream 54
output-42 : output_xsh_rr 1753877967969059832 ≡ 0xA15C02B7
output-42 = refl

pub folded-fits : (by z : ℕ) → z < 2 ^ 64 → folded by z < 2 ^ 64
folded-fits by z fits = xor_lt 64 z (z / 2 ^ by) fits (lt_of_le_of_lt (div-le_self z (2 ^ by)) fits)

pub split_mix-fits : (seed : ℕ) → split_mix seed < 2 ^ 64
split_mix-fits seed = folded-fits 31 _ (omega arith)

rotate_right-fits : (n by : ℕ) → n < 2 ^ 32 → rotate_right w32 n by < 2 ^ 32
rotate_right-fits n by fits =
    or_lt 32 (n / 2 ^ (by % 32)) (n * 2 ^ ((32 - by % 32) % 32) % 2 ^ 32) (lt_of_le_of_lt (div-le_self n (2 ^ (by % 32))) fits) (mod-lt (n * 2 ^ ((32 - by % 32) % 32)) (omega arith))

pub output-fits : (x : ℕ) → output_xsh_rr x < 2 ^ 32
output-fits x = rotate_right-fits (bit_xor (x / 2 ^ 18) x / 2 ^ 27 % 2 ^ 32) (x / 2 ^ 59) (omega arith)
