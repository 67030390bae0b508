-- A cut keeps a process sound.
use Rattle.std.proofs.Common.{◌≡◌, ℕ, suc, ◌+◌, ◌<◌, ◌≤◌, List, [], ◌∷◌, ◌++◌, take, drop, Bool, true, false, cond, refl, sym, ap, ◌∙◌, subst, arith, append_assoc, take-append-drop}
use Rattle.std.specs.Prelude.{nat_lt}
use Rattle.std.specs.List.{AllByRecursion as Each}
use Rattle.std.proofs.lemmas.Bool.{ltb-false}
use Rattle.std.proofs.lemmas.List.{take_all}
use Rattle.tw_msgs.specs.Counting.{total}
use Rattle.tw_msgs.specs.Messages.{has, Sorted}
use Rattle.tw_msgs.specs.declared.message.Item.{Item}
use Rattle.tw_msgs.specs.declared.message.Message.{Message}
use Rattle.tw_msgs.specs.declared.record.Record.{Record}
use Rattle.tw_msgs.proofs.Totals.{total-append}
use Rattle.tw_vtime.specs.Stamps.{stamp, never, max_tick, phase_of}
use Rattle.tw_theory.specs.Balance.{issued, held}
use Rattle.tw_theory.specs.Bundles.{least_stamp, least_owed, Ascending}
use Rattle.tw_theory.specs.Contents.{Process, next, inputs, consumed_by, sent_by, unsent_by, before_all, back_to_first, steps_before, steps_from, cut}
use Rattle.tw_theory.specs.LocalRun.{Step, next_of, Leads}
use Rattle.tw_theory.specs.Network.{Network, Fits, IsNetwork}
use Rattle.tw_theory.specs.Soundness.{AllBefore, IsFor, IsSoundProcess}
use Rattle.tw_theory.specs.Transitions.{Moment}
use Rattle.tw_theory.proofs.Elements.{each_parts, each_weaker}
use Rattle.tw_theory.proofs.Histories.{kept_before}
use Rattle.tw_theory.proofs.Owing.{each-undone, each-unsent, anti-undone, positive-undone, total-unsent, each_from_owed, owed_from_each}
use Rattle.tw_theory.proofs.Steps.{local_step_follows}
use Rattle.tw_theory.proofs.TakingBack.{consumed_by-append, sent_by-append}
use Rattle.tw_laws.proofs.Changing.{each_from_least, least_from_each}
use Rattle.tw_laws.proofs.Inverse.{NotBefore}
use Rattle.tw_laws.proofs.Runs.{leads_split, in_order, step_in_order}
use Rattle.tw_laws.proofs.Sends.{IsSentAt, local_step_sends}
use Rattle.tw_laws.proofs.Stepping.{all_odd, inputs_ascending}

-- ---- the steps before a stamp

pub dropped_not_before : {S : Type 0} (s : ℕ) (steps : List (Step S)) → NotBefore s (drop (steps_before s steps) steps)
dropped_not_before s [] = tt
dropped_not_before s (x ∷ steps) = go (nat_lt x.entry.stamp s) refl (dropped_not_before s steps)
  where
    go : (b : Bool) → nat_lt x.entry.stamp s ≡ b → NotBefore s (drop (steps_before s steps) steps)
        → NotBefore s (drop (cond b (suc (steps_before s steps)) 0) (x ∷ steps))
    go true e h = h
    go false e h = ltb-false x.entry.stamp s e

pub all_before_parts : {S : Type 0} (s : ℕ) (xs ys : List (Step S)) → AllBefore s (xs ++ ys) → AllBefore s xs × AllBefore s ys
all_before_parts s [] ys h = (tt, h)
all_before_parts s (x ∷ xs) ys h = let rest = all_before_parts s xs ys h.1 in ((h.0, rest.0), rest.1)

pub none_from : {S : Type 0} (s : ℕ) (p : Process S) → steps_from s p ≡ 0 → AllBefore s p.history
none_from s p e = subst (AllBefore s) (take_all (steps_before s p.history) p.history (omega arith)) (kept_before s p.history)

-- each step stands at or after s
abbrev pub AllFrom : {S : Type 0} → ℕ → List (Step S) → Type 0
AllFrom s [] = Unit {0}
AllFrom s (step ∷ steps) = (s ≤ step.entry.stamp) × AllFrom s steps

module _ {S : Type 0} (net : Network S) (ok : IsNetwork net) (c : ℕ) where
  -- what each step of a run consumed and sent
  pub leads_sends : (from : Moment S) (all : List Message) (steps : List (Step S)) (now : Moment S) (pending : List Message)
      → Leads net c from all steps now pending → Each (λ step. Each (IsSentAt net step.entry.stamp) step.sent) steps
  leads_sends from all [] now pending h = tt
  leads_sends from all (x ∷ steps) now pending h =
      let f = local_step_follows net c from all h.0 h.1 in
      let here = subst (λ s. Each (IsSentAt net s) h.0.step.sent) (sym f.stamp_is) (local_step_sends net ok c from all h.0 h.1) in
      (subst (λ step. Each (IsSentAt net step.entry.stamp) step.sent) h.2 here, leads_sends h.0.after h.0.left steps now pending h.3)

  pub leads_from : (g : ℕ) (from : Moment S) (all : List Message) (steps : List (Step S)) (now : Moment S) (pending : List Message)
      → Leads net c from all steps now pending → Ascending all → Each (λ m. phase_of m.stamp ≡ 1) all → g ≤ next_of from all → AllFrom g steps
  leads_from g from all [] now pending h up odd l = tt
  leads_from g from all (x ∷ steps) now pending h up odd l =
      let one = step_in_order net c from all h.0 h.1 up odd in
      let at : x.entry.stamp ≡ next_of from all = ap (λ step. step.entry.stamp) (sym h.2) ∙ one.follows.stamp_is in
      (omega (arith, at), leads_from g h.0.after h.0.left steps now pending h.3 one.ascending one.odd (omega (arith, one.strict, one.follows.later)))

  -- the next stamp before a run, where its first step is at or after s
  pub leads_next : (g s : ℕ) (from : Moment S) (all : List Message) (steps : List (Step S)) (now : Moment S) (pending : List Message)
      → Leads net c from all steps now pending → NotBefore s steps → g ≤ s → g ≤ next_of now pending → g ≤ next_of from all
  leads_next g s from all [] now pending h late l k = subst (λ x. g ≤ next_of x all) (sym h.0) (subst (λ ms. g ≤ next_of now ms) (sym h.1) k)
  leads_next g s from all (x ∷ steps) now pending h late l k =
      let f = local_step_follows net c from all h.0 h.1 in
      let at : x.entry.stamp ≡ next_of from all = ap (λ step. step.entry.stamp) (sym h.2) ∙ f.stamp_is in
      omega (arith, at, late)

fits_of_sent : {S : Type 0} (net : Network S) (bound : ℕ) → bound < never → (steps : List (Step S)) → AllBefore bound steps
    → Each (λ step. Each (IsSentAt net step.entry.stamp) step.sent) steps → Each (λ step. Each (Fits net) step.sent) steps
fits_of_sent net bound top [] early h = tt
fits_of_sent net bound top (x ∷ steps) early h = (
  each_weaker (IsSentAt net x.entry.stamp) (Fits net)
      (λ m a. let at = a.stamp in let even = a.even in let e = early.0 in record { to = a.to; phase = omega arith; stamp = omega arith })
      x.sent h.0,
  fits_of_sent net bound top steps early.1 h.1,
)

late_sent : {S : Type 0} (net : Network S) (g : ℕ) (steps : List (Step S)) → AllFrom g steps
    → Each (λ step. Each (IsSentAt net step.entry.stamp) step.sent) steps → Each (λ step. Each (λ m. g ≤ m.stamp) step.sent) steps
late_sent net g [] late h = tt
late_sent net g (x ∷ steps) late h =
    (each_weaker (IsSentAt net x.entry.stamp) (λ m. g ≤ m.stamp) (λ m a. let at = a.stamp in let l = late.0 in omega arith) x.sent h.0, late_sent net g steps late.1 h.1)

-- what a process is after a change that leaves its inputs and its waiting list
pub record IsCutOf {S : Type 0} (net : Network S) (until gvt c : ℕ) (column : List Record) (mail : List Item) (p q : Process S) (s : ℕ) : Type 0 where
  pub sound : IsSoundProcess net until gvt c column mail q
  pub balance : (weight : Message → ℕ) → issued weight q + held weight p ≡ issued weight p + held weight q
  pub next : gvt ≤ next q
  pub outgoing : gvt ≤ least_stamp q.outgoing
  pub owed : gvt ≤ least_owed q.owed
  pub before : AllBefore s q.history
  pub waiting : q.waiting ≡ p.waiting
  pub inputs : inputs q ≡ inputs p

module _ {S : Type 0} (net : Network S) (until : ℕ) (ok : IsNetwork net) (bound : until ≤ max_tick) (gvt c : ℕ) (column : List Record) (mail : List Item) where
  pub cut_sound : (p : Process S) (s : ℕ) → IsSoundProcess net until gvt c column mail p → gvt ≤ s → gvt ≤ next p → gvt ≤ never
      → gvt ≤ least_stamp p.outgoing → gvt ≤ least_owed p.owed → IsCutOf net until gvt c column mail p (cut s p) s
  unfolding back_to_first
  cut_sound p s h l n top out owe =
      let xs = take (steps_before s p.history) p.history in
      let ys = drop (steps_before s p.history) p.history in
      let whole : xs ++ ys ≡ p.history = take-append-drop (steps_before s p.history) p.history in
      let split = leads_split net c h.from (inputs p) xs ys p.now p.pending (subst (λ steps. Leads net c h.from (inputs p) steps p.now p.pending) (sym whole) h.stands) in
      let same : inputs p ≡ consumed_by xs ++ (consumed_by ys ++ p.pending) =
      ap (λ steps. consumed_by steps ++ p.pending) (sym whole) ∙ ap (λ ms. ms ++ p.pending) (consumed_by-append xs ys) ∙ append_assoc (consumed_by xs) (consumed_by ys) p.pending in
      let odd = all_odd net c (inputs p) h.for_inputs in
      let order = in_order net c h.from (inputs p) xs _ _ split.0 (inputs_ascending net c (inputs p) h.for_inputs h.sorted) odd in
      let odd_left = (each_parts (λ m. phase_of m.stamp ≡ 1) (consumed_by xs) (consumed_by ys ++ p.pending) (subst (Each (λ m. phase_of m.stamp ≡ 1)) same odd)).1 in
      let next' = leads_next net ok c gvt s _ _ ys p.now p.pending split.1 (dropped_not_before s p.history) l n in
      let late = leads_from net ok c gvt _ _ ys p.now p.pending split.1 order.ascending odd_left next' in
      let sends = leads_sends net ok c _ _ ys p.now p.pending split.1 in
      let early = all_before_parts (stamp until 0 0) xs ys (subst (AllBefore (stamp until 0 0)) (sym whole) h.within) in
      let unsent = unsent_by ys in
      let fit = each-undone (Fits net) p.cancel p.outgoing p.owed unsent h.fit_outgoing h.fit_owed (each-unsent (Fits net) ys (fits_of_sent net (stamp until 0 0) (omega arith) ys early.1 sends)) in
      let stamps = each-undone (λ m. gvt ≤ m.stamp) p.cancel p.outgoing p.owed unsent (each_from_least gvt p.outgoing out) (each_from_owed gvt p.owed owe) (each-unsent (λ m. gvt ≤ m.stamp) ys (late_sent net gvt ys late sends)) in
      record {
        sound = record {
          column_is = h.column_is;
          from = h.from;
          from_is = h.from_is;
          stands = subst (λ all. Leads net c h.from all xs (before_all ys p.now) (consumed_by ys ++ p.pending)) same split.0;
          sorted = subst Sorted same h.sorted;
          within = early.0;
          apart = λ m waits is_input. h.apart m waits (ap (has m) same ∙ is_input);
          for_inputs = subst (Each (IsFor net c)) same h.for_inputs;
          for_waiting = h.for_waiting;
          for_mail = h.for_mail;
          fit_outgoing = fit.0;
          fit_owed = fit.1;
          line_le = h.line_le;
          line_le_fault = h.line_le_fault;
        };
        balance = λ weight.
            omega (
              arith,
              ap (λ steps. total weight (sent_by steps)) (sym whole) ∙ ap (total weight) (sent_by-append xs ys) ∙ total-append weight (sent_by xs) (sent_by ys),
              ap (total weight) same,
              anti-undone weight p.cancel p.outgoing p.owed unsent,
              positive-undone weight p.cancel p.outgoing unsent,
              total-unsent weight ys,
            );
        next = next';
        outgoing = least_from_each gvt _ top stamps.0;
        owed = owed_from_each gvt _ top stamps.1;
        before = kept_before s p.history;
        waiting = refl;
        inputs = sym same;
      }
