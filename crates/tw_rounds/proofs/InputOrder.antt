-- Inputs given in order give the same records and the same fault.
use Rattle.std.proofs.Common.{◌≡◌, ℕ, zero, suc, ◌+◌, ◌-◌, ◌==◌, min, List, [], ◌∷◌, ◌++◌, Bool, true, false, cond, Option, Some, None, nat_lt, refl, sym, ap, ◌∙◌, subst, arith}
use Rattle.std.specs.Prelude.{filter, map}
use Rattle.std.specs.List.Sorted.{IsPermutation}
use Rattle.std.proofs.lemmas.List.Sorted.{IsPermutation-refl, IsPermutation-cons, IsPermutation-append_left, IsPermutation-append_right, IsPermutation-append_comm, IsPermutation-trans, IsPermutation-map}
use Rattle.tw_msgs.specs.Bags.{sorted_bag}
use Rattle.tw_msgs.specs.declared.message.Message.{Message}
use Rattle.tw_msgs.specs.declared.record.Record.{Record}
use Rattle.tw_msgs.proofs.Bags.{sorted_bag-permutation}
use Rattle.tw_msgs.proofs.Messages.{sorted_messages-IsPermutation}
use Rattle.tw_rounds.specs.InOrder.{start_in_order, rounds_in_order}
use Rattle.tw_theory.proofs.Reordered.{along_permutation}
use Rattle.tw_theory.specs.Bundles.{items_of, addressed}
use Rattle.tw_theory.specs.Transitions.{Moment}
use Rattle.tw_theory.specs.Network.{Network}
use Rattle.tw_theory.specs.Simulator.{Fault, Run, RoundTurn, round, round_end, round_time, rounds_from, rounds, start_run, sequential, turns, take_turn, after_output, first_stop, turn_records, turned_moments, outputs, all_sent, with_stamp, least_due, least_input}
use Rattle.tw_vtime.specs.Stamps.{stamp}
use Rattle.tw_vtime.specs.declared.limits.Limit.{Limit}

least_permuted : (xs ys : List Message) → IsPermutation xs ys → least_input xs ≡ least_input ys
least_permuted = along_permutation (λ xs ys. least_input xs ≡ least_input ys) (λ xs. refl) (λ x xs ys e. ap (min (x.stamp - 1)) e)
    (λ x y xs. omega arith) (λ xs ys zs e f. e ∙ f)

module _ {X : Type 0} (p : X → Bool) where
  kept_first : (b : Bool) (x : X) (xs ys : List X) → IsPermutation xs ys → IsPermutation (cond b (x ∷ xs) xs) (cond b (x ∷ ys) ys)
  kept_first true x xs ys h = IsPermutation-cons x xs ys h
  kept_first false x xs ys h = h

  kept_two : (b d : Bool) (x y : X) (xs : List X) → IsPermutation (cond b (x ∷ cond d (y ∷ xs) xs) (cond d (y ∷ xs) xs)) (cond d (y ∷ cond b (x ∷ xs) xs) (cond b (x ∷ xs) xs))
  kept_two true true x y xs = IsPermutation-append_left xs (x ∷ y ∷ []) (y ∷ x ∷ []) (IsPermutation-append_comm (x ∷ []) (y ∷ []))
  kept_two true false x y xs = IsPermutation-refl _
  kept_two false true x y xs = IsPermutation-refl _
  kept_two false false x y xs = IsPermutation-refl _

  filter_permuted : (xs ys : List X) → IsPermutation xs ys → IsPermutation (filter p xs) (filter p ys)
  filter_permuted = along_permutation (λ xs ys. IsPermutation (filter p xs) (filter p ys)) (λ xs. IsPermutation-refl _)
      (λ x xs ys h. kept_first (p x) x (filter p xs) (filter p ys) h)
      (λ x y xs. kept_two (p x) (p y) x y (filter p xs))
      (λ xs ys zs. IsPermutation-trans _ _ _)

brought-filter : (c : ℕ) (ms : List Message) → items_of (addressed c ms) ≡ map (λ m. (m.port, m.value)) (filter (λ m. m.to == c) ms)
brought-filter c [] = refl
brought-filter c (m ∷ ms) = go (m.to == c) (brought-filter c ms)
  where
    go : (b : Bool) → items_of (addressed c ms) ≡ map (λ x. (x.port, x.value)) (filter (λ x. x.to == c) ms) → items_of (cond b (m ∷ addressed c ms) (addressed c ms)) ≡ map (λ x. (x.port, x.value)) (cond b (m ∷ filter (λ x. x.to == c) ms) (filter (λ x. x.to == c) ms))
    go true e = ap (λ l. (m.port, m.value) ∷ l) e
    go false e = e

-- a component's bag does not tell in which order its items came
bag_permuted : (c : ℕ) (xs ys : List Message) → IsPermutation xs ys → sorted_bag (items_of (addressed c xs)) ≡ sorted_bag (items_of (addressed c ys))
bag_permuted c xs ys h =
    ap sorted_bag (brought-filter c xs)
    ∙ sorted_bag-permutation _ _ (IsPermutation-map (λ m. (m.port, m.value)) _ _ (filter_permuted (λ m. m.to == c) xs ys h))
    ∙ ap sorted_bag (sym (brought-filter c ys))

turns_permuted : {S : Type 0} (net : Network S) (t c : ℕ) (xs ys : List Message) (moments : List (Moment S)) → IsPermutation xs ys → turns net t xs c moments ≡ turns net t ys c moments
turns_permuted net t c xs ys [] h = refl
turns_permuted net t c xs ys (now ∷ moments) h =
    λ i. take_turn net c (after_output net c now t) (t + 1) (now.due == t) (bag_permuted c xs ys h i) ∷ turns_permuted net t (suc c) xs ys moments h i

-- ---- runs that differ in the order of their inputs

record SameRun {S : Type 0} (run other : Run S) : Type 0 where
  moments : run.at.moments ≡ other.at.moments
  inputs : IsPermutation run.at.inputs other.at.inputs
  records : run.records ≡ other.records
  fault : run.fault ≡ other.fault

same_end : {S : Type 0} (run other : Run S) (t : ℕ) (outs : List Record) (ts : List (RoundTurn S)) (stop : Option (ℕ × Limit)) → SameRun run other → SameRun (round_end run t outs ts stop) (round_end other t outs ts stop)
same_end run other t outs ts None h = record {
  moments = ap (λ ms. turned_moments ms ts) h.moments;
  inputs = filter_permuted (λ m. nat_lt (t + 1) m.stamp) run.at.inputs other.at.inputs h.inputs;
  records = ap (λ rs. rs ++ (outs ++ turn_records ts)) h.records;
  fault = refl;
}
same_end run other t outs ts (Some stop) h = record { moments = h.moments; inputs = h.inputs; records = ap (λ rs. rs ++ outs) h.records; fault = refl }

same_round : {S : Type 0} (net : Network S) (t : ℕ) (run other : Run S) → SameRun run other → SameRun (round net run t) (round net other t)
unfolding round
same_round net t run other h =
    let outs = outputs net t 0 run.at.moments in
    let ms = all_sent net outs ++ with_stamp (t + 1) run.at.inputs in
    let all = turns net t ms 0 run.at.moments in
    let outs_same : outs ≡ outputs net t 0 other.at.moments = ap (outputs net t 0) h.moments in
    let given : IsPermutation ms (all_sent net outs ++ with_stamp (t + 1) other.at.inputs) =
    IsPermutation-append_right (all_sent net outs) _ _ (filter_permuted (λ m. m.stamp == t + 1) run.at.inputs other.at.inputs h.inputs) in
    let all_same : all ≡ turns net t (all_sent net (outputs net t 0 other.at.moments) ++ with_stamp (t + 1) other.at.inputs) 0 other.at.moments =
    turns_permuted net t 0 ms (all_sent net outs ++ with_stamp (t + 1) other.at.inputs) run.at.moments given
    ∙ (λ i. turns net t (all_sent net (outs_same i) ++ with_stamp (t + 1) other.at.inputs) 0 (h.moments i)) in
    subst (SameRun (round_end run t outs all (first_stop 0 all))) (λ i. round_end other t (outs_same i) (all_same i) (first_stop 0 (all_same i)))
    (same_end run other t outs all (first_stop 0 all) h)

same_time : {S : Type 0} (run other : Run S) → SameRun run other → round_time run.at ≡ round_time other.at
same_time run other h = λ i. min (least_due (h.moments i)) (least_permuted run.at.inputs other.at.inputs h.inputs i)

same_rounds : {S : Type 0} (net : Network S) (bound n : ℕ) (run other : Run S) (fault : Option Fault) → SameRun run other → SameRun (rounds_from net bound n run fault) (rounds_from net bound n other fault)
same_rounds net bound zero run other fault h = h
same_rounds net bound (suc n) run other (Some fault) h = h
same_rounds {S} net bound (suc n) run other None h =
    let time = round_time run.at in
    let next = same_round net time run other h in
    subst (λ t. SameRun (rounds_from net bound (suc n) run None) (cond (nat_lt t bound) (rounds_from net bound n (round net other t) (round net other t).fault) other)) (same_time run other h)
    (go (nat_lt time bound)
    (subst (λ f. SameRun (rounds_from net bound n (round net run time) (round net run time).fault) (rounds_from net bound n (round net other time) f)) next.fault
    (same_rounds net bound n (round net run time) (round net other time) (round net run time).fault next)))
  where
    go : (b : Bool) → SameRun (rounds_from net bound n (round net run (round_time run.at)) (round net run (round_time run.at)).fault) (rounds_from net bound n (round net other (round_time run.at)) (round net other (round_time run.at)).fault)
        → SameRun (cond b (rounds_from net bound n (round net run (round_time run.at)) (round net run (round_time run.at)).fault) run) (cond b (rounds_from net bound n (round net other (round_time run.at)) (round net other (round_time run.at)).fault) other)
    go true rest = rest
    go false rest = h

same_in_order : {S : Type 0} (net : Network S) (until : ℕ) → SameRun (sequential net until) (rounds_in_order net (stamp until 0 0))
unfolding rounds sequential rounds_in_order
same_in_order net until =
    same_rounds net (stamp until 0 0) (stamp until 0 0) (start_run net) (start_in_order net) None
    (record { moments = refl; inputs = sorted_messages-IsPermutation net.inputs; records = refl; fault = refl })

pub in_order_records : {S : Type 0} (net : Network S) (until : ℕ) → (rounds_in_order net (stamp until 0 0)).records ≡ (sequential net until).records
in_order_records net until = sym (same_in_order net until).records

pub in_order_fault : {S : Type 0} (net : Network S) (until : ℕ) → (rounds_in_order net (stamp until 0 0)).fault ≡ (sequential net until).fault
in_order_fault net until = sym (same_in_order net until).fault
