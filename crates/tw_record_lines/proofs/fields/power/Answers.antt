use Rattle.std.proofs.Common.{◌≡◌, ◌∙◌, ◌*◌, ◌^◌, ◌%◌, ◌<◌, ◌≤◌, ℕ, ap, arith, pos, rules, subst, sym, w64}
use Rattle.std.proofs.lemmas.Int.{to_z_pos}
use Rattle.std.proofs.lemmas.Nat.{one_shl, pow_below}
use Rattle.tw_record_lines.proofs.fields.power.Goals as goal

-- no bit is lost
shifted : (k : ℕ) → k ≤ 62 → 1 * 2 ^ k % 18446744073709551616 ≡ 2 ^ k
shifted k few = one_shl k 64 (omega arith)

below : (k : ℕ) → k ≤ 62 → 1 * 2 ^ k % 18446744073709551616 < 9223372036854775808
below k few = subst (λ n. n < 9223372036854775808) (sym (shifted k few)) (pow_below k 63 (omega arith))

pub overflow_cast-result-2 : goal.overflow_cast-result-2
overflow_cast-result-2 c =
    let small = below c.min.result (omega arith) in
    search rules

pub returns : goal.returns
returns c =
    let few : c.min.result ≤ 62 = omega arith in
    to_z_pos w64 _ (below c.min.result few) ∙ ap pos (shifted c.min.result few ∙ ap (λ k. 2 ^ k) c.min.ensures)
