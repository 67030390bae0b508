-- A run whose records are handed over after each round.
use Rattle.std.proofs.Common.{◌≡◌, ℕ, zero, suc, ◌+◌, ◌-◌, ◌<◌, ◌≤◌, List, [], ◌++◌, Bool, true, false, cond, Option, Some, None, nat_lt, refl, sym, ap, ◌∙◌, arith, append_assoc, append-nil}
use Rattle.tw_atomic.specs.Atomic.{Meaning}
use Rattle.tw_msgs.specs.declared.record.Record.{Record}
use Rattle.tw_network.specs.Contents.{Contents, network_of}
use Rattle.tw_rounds.specs.InOrder.{start_in_order}
use Rattle.tw_rounds.specs.Invariant.{IsUnderway}
use Rattle.tw_rounds.specs.Parts.{IsPart, IsEnd, after}
use Rattle.tw_theory.specs.Network.{Network}
use Rattle.tw_theory.specs.Simulator.{Fault, Run, RoundTurn, round, round_end, round_time, rounds_from, sequential, outputs, all_sent, with_stamp, past_stamp, turns, first_stop, turn_records, turned_moments}
use Rattle.tw_vtime.specs.Stamps.{max_tick, stamp, tick_of}
use Rattle.tw_vtime.specs.declared.limits.Limit.{Limit}
use Rattle.tw_rounds.proofs.InputOrder.{in_order_records, in_order_fault}
use Rattle.tw_rounds.proofs.Reaching.{reaching_end, reaching_fault, reaching_on, reaching_start, next_time, time_rises}

-- ---- a round does not read the records before it

end_after : {S : Type 0} (done : List Record) (run : Run S) (e : run.records ≡ []) (t : ℕ) (outs : List Record) (ts : List (RoundTurn S)) (stop : Option (ℕ × Limit))
    → round_end (after done run) t outs ts stop ≡ after (done ++ (round_end run t outs ts stop).records) (round_end run t outs ts stop)
end_after done run e t outs ts None = λ i. record {
  at = record { moments = turned_moments run.at.moments ts; inputs = past_stamp (t + 1) run.at.inputs };
  records = done ++ (sym e i ++ (outs ++ turn_records ts));
  fault = None;
}
end_after done run e t outs ts (Some stop) = λ i. record { at = run.at; records = done ++ (sym e i ++ outs); fault = Some (record { component = stop.0; stamp = t + 1; limit = stop.1 }) }

pub round_after : {S : Type 0} (net : Network S) (done : List Record) (run : Run S) (t : ℕ) → run.records ≡ [] → round net (after done run) t ≡ after (done ++ (round net run t).records) (round net run t)
unfolding round
round_after net done run t e =
    let outs = outputs net t 0 run.at.moments in
    let all = turns net t (all_sent net outs ++ with_stamp (t + 1) run.at.inputs) 0 run.at.moments in
    end_after done run e t outs all (first_stop 0 all)

-- ---- the records so far are a beginning of all

end_grows : {S : Type 0} (run : Run S) (t : ℕ) (outs : List Record) (ts : List (RoundTurn S)) (stop : Option (ℕ × Limit)) → (more : List Record) × (run.records ++ more ≡ (round_end run t outs ts stop).records)
end_grows run t outs ts None = (outs ++ turn_records ts, refl)
end_grows run t outs ts (Some stop) = (outs, refl)

round_grows : {S : Type 0} (net : Network S) (run : Run S) (t : ℕ) → (more : List Record) × (run.records ++ more ≡ (round net run t).records)
unfolding round
round_grows net run t =
    let outs = outputs net t 0 run.at.moments in
    let all = turns net t (all_sent net outs ++ with_stamp (t + 1) run.at.inputs) 0 run.at.moments in
    end_grows run t outs all (first_stop 0 all)

rounds_grow : {S : Type 0} (net : Network S) (bound n : ℕ) (run : Run S) (fault : Option Fault) → (more : List Record) × (run.records ++ more ≡ (rounds_from net bound n run fault).records)
rounds_grow net bound zero run fault = ([], append-nil run.records)
rounds_grow net bound (suc n) run (Some fault) = ([], append-nil run.records)
rounds_grow net bound (suc n) run None = go (nat_lt (round_time run.at) bound) (rounds_grow net bound n (round net run (round_time run.at)) (round net run (round_time run.at)).fault)
  where
    go : (b : Bool) → (more : List Record) × ((round net run (round_time run.at)).records ++ more ≡ (rounds_from net bound n (round net run (round_time run.at)) (round net run (round_time run.at)).fault).records)
        → (more : List Record) × (run.records ++ more ≡ (cond b (rounds_from net bound n (round net run (round_time run.at)) (round net run (round_time run.at)).fault) run).records)
    go true rest =
        let first = round_grows net run (round_time run.at) in
        (first.0 ++ rest.0, sym (append_assoc run.records first.0 rest.0) ∙ ap (λ l. l ++ rest.0) first.1 ∙ rest.1)
    go false rest = ([], append-nil run.records)

pub part_begins : {M S : Type 0} (valid : M → S → Type 0) (meaning : M → Meaning S) (contents : Contents M) (until : ℕ) (done : List Record) (run : Run S) → IsPart valid meaning contents until done run
    → (more : List Record) × (done ++ more ≡ (sequential (network_of meaning contents) until).records)
part_begins valid meaning contents until done run h =
    let net = network_of meaning contents in
    let grows = rounds_grow net (stamp until 0 0) h.reaching.left (after done run) None in
    (grows.0, grows.1 ∙ ap (λ r. r.records) h.reaching.same ∙ in_order_records net until)

-- ---- a step

module _ {M S : Type 0} (valid : M → S → Type 0) (meaning : M → Meaning S) (contents : Contents M) (until : ℕ) (done : List Record) (run : Run S) (h : IsPart valid meaning contents until done run) where
  -- no round is left
  pub part_end : (more : List Record) → more ≡ [] → stamp until 0 0 ≤ round_time run.at → IsEnd meaning contents until (done ++ more) None
  part_end more none over =
      let all = reaching_end valid meaning contents until (after done run) h.reaching over in
      record {
        records = ap (λ l. done ++ l) none ∙ append-nil done ∙ ap (λ r. r.records) all ∙ in_order_records (network_of meaning contents) until;
        fault = sym h.going ∙ ap (λ r. r.fault) all ∙ in_order_fault (network_of meaning contents) until;
      }

  module _ (t : ℕ) (e : t ≡ round_time run.at) (l : t < stamp until 0 0) where
    pub part_small : tick_of t < max_tick
    part_small = (next_time valid meaning contents until (after done run) t h.small h.reaching e l).small

    pub part_underway : IsUnderway valid meaning contents t run
    part_underway =
        let next = (next_time valid meaning contents until (after done run) t h.small h.reaching e l).underway in
        record { even = next.even; moments = next.moments; inputs = next.inputs; order = next.order }

    -- a round that ends in a fault ends the run
    pub part_fault : (more : List Record) (f : Fault) → more ≡ (round (network_of meaning contents) run t).records → (round (network_of meaning contents) run t).fault ≡ Some f → IsEnd meaning contents until (done ++ more) (Some f)
    part_fault more f is met =
        let net = network_of meaning contents in
        let same = round_after net done run t h.empty in
        let all = reaching_fault valid meaning contents until (after done run) t h.small h.reaching e l f (ap (λ r. r.fault) same ∙ met) in
        record {
          records = ap (λ l. done ++ l) is ∙ sym (ap (λ r. r.records) same) ∙ ap (λ r. r.records) all ∙ in_order_records net until;
          fault = sym met ∙ sym (ap (λ r. r.fault) same) ∙ ap (λ r. r.fault) all ∙ in_order_fault net until;
        }

    -- a round more, whose records are handed over
    module _ (new : Run S) (goes : new ≡ after [] (round (network_of meaning contents) run t)) (under : IsUnderway valid meaning contents (t + 2) new) where
      pub part_on : (more : List Record) → (round (network_of meaning contents) run t).fault ≡ None → more ≡ (round (network_of meaning contents) run t).records → IsPart valid meaning contents until (done ++ more) new
      part_on more none is =
          let net = network_of meaning contents in
          let same = round_after net done run t h.empty in
          let handed : after (done ++ more) new ≡ after (done ++ (round net run t).records) (round net run t) = λ i. record { at = (goes i).at; records = done ++ is i; fault = (goes i).fault } in
          let going : new.fault ≡ None = ap (λ r. r.fault) goes ∙ none in
          let there : IsUnderway valid meaning contents (t + 2) (after (done ++ more) new) =
          record { even = under.even; moments = under.moments; inputs = under.inputs; order = under.order } in
          record {
            reaching = reaching_on valid meaning contents until (after done run) t h.small h.reaching e l (after (done ++ more) new) (handed ∙ sym same) going there;
            small = h.small;
            going = going;
            empty = ap (λ r. r.records) goes;
          }

      pub part_sooner : stamp until 0 0 - round_time new.at < stamp until 0 0 - round_time run.at
      part_sooner =
          let rises = time_rises valid meaning contents until (after done run) t h.small h.reaching e l new under in
          omega (arith, rises, e, l)

-- ---- before the first round

pub part_begun : {M S : Type 0} (valid : M → S → Type 0) (meaning : M → Meaning S) (contents : Contents M) (until : ℕ) (run : Run S) → until ≤ max_tick → run ≡ start_in_order (network_of meaning contents) → IsUnderway valid meaning contents 0 run → IsPart valid meaning contents until [] run
part_begun valid meaning contents until run small e h =
    let same : after [] run ≡ start_in_order (network_of meaning contents) = ap (λ r. after [] r) e in
    record {
      reaching = reaching_start valid meaning contents (stamp until 0 0) (after [] run) same (record { even = h.even; moments = h.moments; inputs = h.inputs; order = h.order });
      small = small;
      going = ap (λ r. r.fault) e;
      empty = ap (λ r. r.records) e;
    }
