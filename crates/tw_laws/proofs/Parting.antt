-- What a cut of a sound process takes back: in its history steps stand in the order of their stamps.
use Rattle.std.proofs.Common.{◌≡◌, ℕ, ◌≤◌, List, [], ◌∷◌, ◌++◌, take, drop, sym, ap, ◌∙◌, subst, arith, append_assoc, take-append-drop}
use Rattle.std.specs.List.{AllByRecursion as Each}
use Rattle.tw_laws.proofs.Cutting.{AllFrom, dropped_not_before, leads_from}
use Rattle.tw_laws.proofs.Inverse.{NotBefore}
use Rattle.tw_laws.proofs.Runs.{in_order, leads_split}
use Rattle.tw_laws.proofs.Stepping.{all_odd, inputs_ascending}
use Rattle.tw_laws.specs.Rewinding.{CutsPart, IsParted}
use Rattle.tw_msgs.specs.declared.message.Item.{Item}
use Rattle.tw_msgs.specs.declared.message.Message.{Message}
use Rattle.tw_msgs.specs.declared.record.Record.{Record}
use Rattle.tw_theory.proofs.Elements.{each_parts}
use Rattle.tw_theory.proofs.Histories.{kept_before}
use Rattle.tw_theory.proofs.Steps.{local_step_follows}
use Rattle.tw_theory.proofs.TakingBack.{consumed_by-append}
use Rattle.tw_theory.specs.Bundles.{Ascending}
use Rattle.tw_theory.specs.Contents.{Process, back_to_first, consumed_by, inputs, steps_before}
use Rattle.tw_theory.specs.LocalRun.{Leads, Step}
use Rattle.tw_theory.specs.Network.{IsNetwork, Network}
use Rattle.tw_theory.specs.Soundness.{IsSoundProcess}
use Rattle.tw_theory.specs.Transitions.{Moment}
use Rattle.tw_vtime.specs.Stamps.{phase_of}

each_from : {S : Type 0} (s : ℕ) (steps : List (Step S)) → AllFrom s steps → Each (λ (step : Step S). s ≤ step.entry.stamp) steps
each_from s [] h = tt
each_from s (x ∷ steps) h = (h.0, each_from s steps h.1)

module _ {S : Type 0} (net : Network S) (ok : IsNetwork net) where
  -- a run whose first step is not before s has none before s
  late : (c s : ℕ) (from : Moment S) (all : List Message) (steps : List (Step S)) (now : Moment S) (pending : List Message) → Leads net c from all steps now pending
      → Ascending all → Each (λ m. phase_of m.stamp ≡ 1) all → NotBefore s steps → AllFrom s steps
  late c s from all [] now pending h up odd first = tt
  late c s from all (x ∷ steps) now pending h up odd first =
      let at = ap (λ step. step.entry.stamp) (sym h.2) ∙ (local_step_follows net c from all h.0 h.1).stamp_is in
      leads_from net ok c s from all (x ∷ steps) now pending h up odd (omega (arith, at, first))

  parted : (until gvt c : ℕ) (column : List Record) (mail : List Item) (p : Process S) (s : ℕ) → IsSoundProcess net until gvt c column mail p → IsParted s p
  unfolding back_to_first
  parted until gvt c column mail p s h =
      let xs = take (steps_before s p.history) p.history in
      let ys = drop (steps_before s p.history) p.history in
      let whole : xs ++ ys ≡ p.history = take-append-drop (steps_before s p.history) p.history in
      let split = leads_split net c h.from (inputs p) xs ys p.now p.pending (subst (λ steps. Leads net c h.from (inputs p) steps p.now p.pending) (sym whole) h.stands) in
      let same : inputs p ≡ consumed_by xs ++ (consumed_by ys ++ p.pending) =
      ap (λ steps. consumed_by steps ++ p.pending) (sym whole) ∙ ap (λ ms. ms ++ p.pending) (consumed_by-append xs ys) ∙ append_assoc (consumed_by xs) (consumed_by ys) p.pending in
      let odd = all_odd net c (inputs p) h.for_inputs in
      let order = in_order net c h.from (inputs p) xs _ _ split.0 (inputs_ascending net c (inputs p) h.for_inputs h.sorted) odd in
      let odd_left = (each_parts (λ m. phase_of m.stamp ≡ 1) (consumed_by xs) (consumed_by ys ++ p.pending) (subst (Each (λ m. phase_of m.stamp ≡ 1)) same odd)).1 in
      record {
        taken = ys;
        history = sym whole;
        keeps = kept_before s p.history;
        takes = each_from s ys (late c s _ _ ys p.now p.pending split.1 order.ascending odd_left (dropped_not_before s p.history));
      }

pub cuts_part : {S : Type 0} → CutsPart S
cuts_part net until w c s p ok h at = parted net ok until w.gvt c _ _ p s (h.each c p at)
