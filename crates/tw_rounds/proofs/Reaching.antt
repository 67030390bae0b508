-- The rounds still to be made complete the run whose inputs are given in order.
use Rattle.std.proofs.Common.{◌≡◌, ℕ, zero, suc, ◌+◌, ◌<◌, ◌≤◌, Some, None, refl, sym, ap, ◌∙◌, ⊎_elim, arith}
use Rattle.tw_atomic.specs.Atomic.{Meaning}
use Rattle.tw_network.specs.Contents.{Contents, network_of}
use Rattle.tw_rounds.specs.InOrder.{start_in_order, rounds_in_order}
use Rattle.tw_rounds.specs.Invariant.{IsUnderway}
use Rattle.tw_theory.specs.Simulator.{Fault, Run, round, round_time, rounds_from}
use Rattle.tw_theory.proofs.Rounds.{from_round, from_rest, from_fault}
use Rattle.tw_vtime.specs.Stamps.{max_tick, stamp, tick_of, phase_of}
use Rattle.tw_rounds.specs.Parts.{Reaching}
use Rattle.tw_rounds.proofs.RoundsKept.{next_round, underway_at}

pub reaching_start : {M S : Type 0} (valid : M → S → Type 0) (meaning : M → Meaning S) (contents : Contents M) (bound : ℕ) (run : Run S) → run ≡ start_in_order (network_of meaning contents) → IsUnderway valid meaning contents 0 run → Reaching valid meaning contents bound run
unfolding rounds_in_order
reaching_start valid meaning contents bound run e h = record {
  from = 0;
  left = bound;
  underway = h;
  same = ap (λ r. rounds_from (network_of meaning contents) bound bound r None) e;
  enough = omega arith;
  top = omega arith;
}

-- no round is left
pub reaching_end : {M S : Type 0} (valid : M → S → Type 0) (meaning : M → Meaning S) (contents : Contents M) (until : ℕ) (run : Run S) → Reaching valid meaning contents (stamp until 0 0) run → stamp until 0 0 ≤ round_time run.at → run ≡ rounds_in_order (network_of meaning contents) (stamp until 0 0)
reaching_end valid meaning contents until run h l = sym (from_rest (network_of meaning contents) (stamp until 0 0) h.left run l) ∙ h.same

-- the time of the next round
pub record NextTime {M S : Type 0} (valid : M → S → Type 0) (meaning : M → Meaning S) (contents : Contents M) (run : Run S) (t : ℕ) : Type 0 where
  pub small : tick_of t < max_tick
  pub underway : IsUnderway valid meaning contents t run

pub next_time : {M S : Type 0} (valid : M → S → Type 0) (meaning : M → Meaning S) (contents : Contents M) (until : ℕ) (run : Run S) (t : ℕ) → until ≤ max_tick → Reaching valid meaning contents (stamp until 0 0) run → t ≡ round_time run.at → t < stamp until 0 0 → NextTime valid meaning contents run t
next_time valid meaning contents until run t m h e l =
    let next = next_round valid meaning contents h.from run h.top h.underway in
    let low : h.from ≤ t = (let a = next.0 in omega (arith, a, e)) in
    let even : phase_of t ≡ 0 = ⊎_elim (λ p. omega (arith, p, e)) (λ n. absurd (omega (arith, n, e, l, m))) next.1 in
    record { small = omega (arith, l, m); underway = underway_at valid meaning contents h.from t run low (omega (arith, e)) even h.underway }

module _ {M S : Type 0} (valid : M → S → Type 0) (meaning : M → Meaning S) (contents : Contents M) (until : ℕ) (run : Run S) (t : ℕ) (m : until ≤ max_tick) (h : Reaching valid meaning contents (stamp until 0 0) run) (e : t ≡ round_time run.at) (l : t < stamp until 0 0) where
  -- one round more, and then those that are left
  one_more : (n : ℕ) → h.left ≡ n → (k : ℕ) × (n ≡ suc k) × (rounds_from (network_of meaning contents) (stamp until 0 0) k (round (network_of meaning contents) run t) (round (network_of meaning contents) run t).fault ≡ rounds_in_order (network_of meaning contents) (stamp until 0 0))
  one_more zero z =
      let low = (next_round valid meaning contents h.from run h.top h.underway).0 in
      let enough = h.enough in
      absurd (omega (arith, z, enough, low, e, l))
  one_more (suc k) z =
      let net = network_of meaning contents in
      let here : rounds_from net (stamp until 0 0) (suc k) run None ≡ rounds_from net (stamp until 0 0) k (round net run t) (round net run t).fault =
      from_round net (stamp until 0 0) k run (omega (arith, e, l)) ∙ ap (λ s. rounds_from net (stamp until 0 0) k (round net run s) (round net run s).fault) (sym e) in
      (k, refl, sym here ∙ ap (λ n. rounds_from net (stamp until 0 0) n run None) (sym z) ∙ h.same)

  pub reaching_fault : (f : Fault) → (round (network_of meaning contents) run t).fault ≡ Some f → round (network_of meaning contents) run t ≡ rounds_in_order (network_of meaning contents) (stamp until 0 0)
  reaching_fault f q =
      let net = network_of meaning contents in
      let more = one_more h.left refl in
      sym (ap (rounds_from net (stamp until 0 0) more.0 (round net run t)) q ∙ from_fault net (stamp until 0 0) more.0 (round net run t) f) ∙ more.2

  pub reaching_on : (next : Run S) → next ≡ round (network_of meaning contents) run t → next.fault ≡ None → IsUnderway valid meaning contents (t + 2) next → Reaching valid meaning contents (stamp until 0 0) next
  reaching_on next q none under =
      let net = network_of meaning contents in
      let more = one_more h.left refl in
      let low = (next_round valid meaning contents h.from run h.top h.underway).0 in
      let enough = h.enough in
      let k = more.1 in
      record {
        from = t + 2;
        left = more.0;
        underway = under;
        same = (λ i. rounds_from net (stamp until 0 0) more.0 (q i) (sym none i)) ∙ ap (rounds_from net (stamp until 0 0) more.0 (round net run t)) (ap (λ r. r.fault) q) ∙ more.2;
        enough = omega (arith, enough, low, e, k);
        top = omega (arith, l, m);
      }

  -- the time rises
  pub time_rises : (next : Run S) → IsUnderway valid meaning contents (t + 2) next → t < round_time next.at
  time_rises next under = let low = (next_round valid meaning contents (t + 2) next (omega (arith, l, m)) under).0 in omega (arith, low)
