-- How a run stands, looked at component by component.
use Rattle.std.proofs.Common.{◌≡◌, ◌≢◌, ◌⊎◌, ℕ, zero, suc, ◌<◌, ◌≤◌, min, Bool, true, false, List, [], ◌∷◌, length, not, cond, Option, None, Some, refl, sym, ap, ◌∙◌, inl, inr, arith}
use Rattle.std.specs.Prelude.{◌&&◌, ◌==◌, nat_le, nat_lt, slice_get}
use Rattle.std.proofs.lemmas.Bool.{and_from, and_left, and_right, cases_eq, cases_lt, eq-eqb, le-ltb, lt-leb, lt-ltb, ne_eqb}
use Rattle.std.proofs.lemmas.List.{drop_all}
use Rattle.std.proofs.lemmas.Option.{none-some, same_Some}
use Rattle.tw_atomic.specs.Atomic.{Meaning}
use Rattle.tw_exec.specs.Running.{Running}
use Rattle.tw_msgs.specs.declared.message.Message.{Message}
use Rattle.tw_network.specs.Contents.{network_of}
use Rattle.tw_theory.proofs.Elements.{drop_here}
use Rattle.tw_theory.specs.Bundles.{least_owed}
use Rattle.tw_theory.specs.Contents.{Process, next}
use Rattle.tw_theory.specs.Exchange.{all_empty}
use Rattle.tw_theory.specs.LocalRun.{local_step}
use Rattle.tw_theory.specs.Outcomes.{Complete, Going, all_past, all_quiet, fault_at, first_fault, limit_of, none_at, state}
use Rattle.tw_vtime.specs.Stamps.{never, phase_of, stamp}
use Rattle.tw_vtime.specs.declared.limits.Limit.{Limit}
use Rattle.tw_exchange.specs.States.{fault_from, is_quiet, limit_at, state_of}

-- ## Whether all of them

pub past_not : {S : Type 0} (end : ℕ) (ps : List (Process S)) (d : ℕ) (p : Process S) → slice_get ps d ≡ Some p → p.line < end → all_past end ps ≡ false
past_not end [] d p at early = absurd (none-some p at)
past_not end (q ∷ ps) zero p at early = and_left (nat_le end q.line) (all_past end ps) (lt-leb end q.line (omega (arith, ap (λ x. x.line) (same_Some q p at), early)))
past_not end (q ∷ ps) (suc d) p at early = and_right (nat_le end q.line) (all_past end ps) (past_not end ps d p at early)

pub quiet_all : {S : Type 0} (g : ℕ) (ps : List (Process S)) → ((d : ℕ) (p : Process S) → slice_get ps d ≡ Some p → is_quiet g p ≡ true) → all_quiet g ps ≡ true
quiet_all g [] all = refl
quiet_all g (p ∷ ps) all = and_from (is_quiet g p) (all_quiet g ps) (all 0 p refl) (quiet_all g ps (λ d q at. all (suc d) q at))

pub quiet_not : {S : Type 0} (g : ℕ) (ps : List (Process S)) (d : ℕ) (p : Process S) → slice_get ps d ≡ Some p → is_quiet g p ≡ false → all_quiet g ps ≡ false
quiet_not g [] d p at loud = absurd (none-some p at)
quiet_not g (q ∷ ps) zero p at loud = and_left (is_quiet g q) (all_quiet g ps) (ap (is_quiet g) (same_Some q p at) ∙ loud)
quiet_not g (q ∷ ps) (suc d) p at loud = and_right (is_quiet g q) (all_quiet g ps) (quiet_not g ps d p at loud)

-- where nothing owed is before a stamp, the least tells whether one is at it
pub none_owed_at : (g : ℕ) (ms : List Message) → g < never → g ≤ least_owed ms → none_at g ms ≡ not (least_owed ms == g)
none_owed_at g [] before from = ap not (sym (ne_eqb never g (λ e. absurd (omega (arith, before, e)))))
none_owed_at g (m ∷ ms) before from = elim (cases_eq m.stamp g) [
  | inl same ↦
      ap (λ b. not b && none_at g ms) (eq-eqb m.stamp g same)
      ∙ ap not (sym (eq-eqb (min m.stamp (least_owed ms)) g (omega (arith, same, from))))
  | inr apart ↦
      ap (λ b. not b && none_at g ms) (ne_eqb m.stamp g apart) ∙ none_owed_at g ms before (omega (arith, from)) ∙ rest (cases_eq (least_owed ms) g) (more m.stamp apart)
]
  where
    more : (s : ℕ) → s ≢ g → s ≡ m.stamp → g < m.stamp
    more s apart is = elim (cases_lt g m.stamp) [
      | inl less ↦ less
      | inr at_most ↦ absurd (apart (omega (arith, is, at_most, from)))
    ]

    rest : (least_owed ms ≡ g) ⊎ (least_owed ms ≡ g → ⊥) → (m.stamp ≡ m.stamp → g < m.stamp) → not (least_owed ms == g) ≡ not (min m.stamp (least_owed ms) == g)
    rest (inl same) later = let less = later refl in ap not (eq-eqb (least_owed ms) g same ∙ sym (eq-eqb (min m.stamp (least_owed ms)) g (omega (arith, same, less))))
    rest (inr apart) later =
        let less = later refl in
        ap not (ne_eqb (least_owed ms) g apart ∙ sym (ne_eqb (min m.stamp (least_owed ms)) g (λ e. apart (omega (arith, e, less)))))

-- ## The first fault

module _ {M S : Type 0} (meaning : M → Meaning S) (e : Running M S) where
  pub fault_here : (c : ℕ) (p : Process S) (limit : Option Limit) → slice_get e.world.processes c ≡ Some p → limit ≡ limit_at meaning e c p
      → fault_from meaning c e ≡ fault_at c e.world.gvt limit (fault_from meaning (suc c) e)
  fault_here c p limit at is =
      ap (first_fault (network_of meaning e.network) e.world.gvt c) (drop_here e.world.processes c p at)
      ∙ ap (λ l. fault_at c e.world.gvt l (fault_from meaning (suc c) e)) (sym is)

  pub no_fault : (c : ℕ) → length e.world.processes ≤ c → fault_from meaning c e ≡ Going
  no_fault c past = ap (first_fault (network_of meaning e.network) e.world.gvt c) (drop_all c e.world.processes past)

  -- the next step of a component is at gvt, or elsewhere
  pub limit_here : (c : ℕ) (p : Process S) → next p ≡ e.world.gvt → limit_at meaning e c p ≡ limit_of (local_step (network_of meaning e.network) c p.now p.pending)
  limit_here c p here = ap (λ b. cond b (limit_of (local_step (network_of meaning e.network) c p.now p.pending)) None) (eq-eqb (next p) e.world.gvt here)

  -- ## The state

  pub complete : all_past (stamp e.until 0 0) e.world.processes ≡ true → state_of meaning e ≡ Complete
  unfolding state
  complete past = ap (λ b. cond b Complete (cond (all_quiet e.world.gvt e.world.processes && all_empty e.world.mail && nat_lt e.world.gvt (stamp e.until 0 0) && (phase_of e.world.gvt == 1)) (fault_from meaning 0 e) Going)) past

  abbrev MayFault : Bool
  MayFault = all_quiet e.world.gvt e.world.processes && all_empty e.world.mail && nat_lt e.world.gvt (stamp e.until 0 0) && (phase_of e.world.gvt == 1)

  otherwise : all_past (stamp e.until 0 0) e.world.processes ≡ false → state_of meaning e ≡ cond MayFault (fault_from meaning 0 e) Going
  unfolding state
  otherwise past = ap (λ b. cond b Complete (cond MayFault (fault_from meaning 0 e) Going)) past

  pub going : all_past (stamp e.until 0 0) e.world.processes ≡ false → MayFault ≡ false → state_of meaning e ≡ Going
  going past may_not = otherwise past ∙ ap (λ b. cond b (fault_from meaning 0 e) Going) may_not

  pub faulting : all_past (stamp e.until 0 0) e.world.processes ≡ false → MayFault ≡ true → state_of meaning e ≡ fault_from meaning 0 e
  faulting past may_be = otherwise past ∙ ap (λ b. cond b (fault_from meaning 0 e) Going) may_be

  pub not_before : stamp e.until 0 0 ≤ e.world.gvt → MayFault ≡ false
  not_before late = and_left (all_quiet e.world.gvt e.world.processes && all_empty e.world.mail && nat_lt e.world.gvt (stamp e.until 0 0)) (phase_of e.world.gvt == 1)
      (and_right (all_quiet e.world.gvt e.world.processes && all_empty e.world.mail) (nat_lt e.world.gvt (stamp e.until 0 0)) (le-ltb e.world.gvt (stamp e.until 0 0) late))

  pub not_odd : phase_of e.world.gvt ≡ 0 → MayFault ≡ false
  not_odd even = and_right (all_quiet e.world.gvt e.world.processes && all_empty e.world.mail && nat_lt e.world.gvt (stamp e.until 0 0)) (phase_of e.world.gvt == 1) (ne_eqb (phase_of e.world.gvt) 1 (λ odd. omega (arith, even, odd)))

  pub not_quiet : all_quiet e.world.gvt e.world.processes ≡ false → MayFault ≡ false
  not_quiet loud = ap (λ b. b && all_empty e.world.mail && nat_lt e.world.gvt (stamp e.until 0 0) && (phase_of e.world.gvt == 1)) loud

  pub not_empty : all_empty e.world.mail ≡ false → MayFault ≡ false
  not_empty full = ap (λ b. b && nat_lt e.world.gvt (stamp e.until 0 0) && (phase_of e.world.gvt == 1)) (and_right (all_quiet e.world.gvt e.world.processes) (all_empty e.world.mail) full)

  pub may : all_quiet e.world.gvt e.world.processes ≡ true → all_empty e.world.mail ≡ true → e.world.gvt < stamp e.until 0 0 → phase_of e.world.gvt ≡ 1 → MayFault ≡ true
  may quiet empty before odd =
      and_from (all_quiet e.world.gvt e.world.processes && all_empty e.world.mail && nat_lt e.world.gvt (stamp e.until 0 0)) (phase_of e.world.gvt == 1)
      (and_from (all_quiet e.world.gvt e.world.processes && all_empty e.world.mail) (nat_lt e.world.gvt (stamp e.until 0 0)) (and_from (all_quiet e.world.gvt e.world.processes) (all_empty e.world.mail) quiet empty) (lt-ltb e.world.gvt (stamp e.until 0 0) before))
      (eq-eqb (phase_of e.world.gvt) 1 odd)
