-- Where anti-messages are made at once.
use Rattle.std.proofs.Common.{◌≡◌, ℕ, ◌≤◌, min, List, [], ◌∷◌, ◌++◌, take, drop, ap, ◌∙◌, arith}
use Rattle.tw_vtime.specs.Stamps.{never}
use Rattle.tw_theory.specs.Bundles.{positives, antis, least_stamp, least_owed}
use Rattle.tw_theory.specs.Contents.{Process, Aggressive, next, with_step, sent_out, owed_after, outgoing_undone, owed_undone, before_all, consumed_by, unsent_by, back_to_first, settled_as}
use Rattle.tw_theory.specs.Executive.{least_next}
use Rattle.tw_theory.specs.Laws.{AggressiveLaw}
use Rattle.tw_theory.specs.LocalRun.{Made}
use Rattle.tw_theory.proofs.Leasts.{least_next_top}

module _ {S : Type 0} where
  step_is : (p : Process S) (made : Made S) → p.cancel ≡ Aggressive
      → with_step p made ≡ record p { now = made.after; pending = made.left; history = p.history ++ made.step ∷ []; outgoing = p.outgoing ++ positives made.step.sent }
  step_is p made k =
      let sent = made.step.sent in
      let out = ap (λ c. p.outgoing ++ positives (sent_out c p.owed sent)) k in
      let owed = ap (λ c. owed_after c p.owed sent) k in
      λ i. record p { now = made.after; pending = made.left; history = p.history ++ made.step ∷ []; outgoing = out i; owed = owed i }

  back_is : (n : ℕ) (p : Process S) → p.cancel ≡ Aggressive
      → back_to_first n p
      ≡ record p { now = before_all (drop n p.history) p.now; pending = consumed_by (drop n p.history) ++ p.pending; history = take n p.history; outgoing = p.outgoing ++ antis (unsent_by (drop n p.history)) }
  unfolding back_to_first
  back_is n p k =
      let unsent = unsent_by (drop n p.history) in
      let out = ap (λ c. outgoing_undone c p.outgoing unsent) k in
      let owed = ap (λ c. owed_undone c p.owed unsent) k in
      λ i. record p { now = before_all (drop n p.history) p.now; pending = consumed_by (drop n p.history) ++ p.pending; history = take n p.history; outgoing = out i; owed = owed i }

  least_is : (p : Process S) (ps : List (Process S)) → p.owed ≡ [] → least_next (p ∷ ps) ≡ min (min (next p) (least_stamp p.outgoing)) (least_next ps)
  least_is p ps none = ap (λ l. min (min (min (next p) (least_stamp p.outgoing)) (least_owed l)) (least_next ps)) none ∙ dropped (next p) (least_stamp p.outgoing) (least_next ps) (least_next_top ps)
    where
      dropped : (a b c : ℕ) → c ≤ never → min (min (min a b) never) c ≡ min (min a b) c
      dropped a b c l = omega arith

  pub aggressive_law : AggressiveLaw S
  aggressive_law = record {
    step = step_is;
    back = back_is;
    post = λ p k. ap (λ c. settled_as c p) k;
    least = least_is;
  }
