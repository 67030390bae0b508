-- What a rewind puts in transit, and what it leaves owed.
use Rattle.std.proofs.Common.{◌≡◌, ℕ, ◌+◌, List, [], ◌∷◌, ◌++◌, drop, refl, ap, ap₂, ◌∙◌, arith}
use Rattle.tw_msgs.specs.Counting.{total, when_positive, when_anti}
use Rattle.tw_msgs.specs.declared.message.Item.{Item}
use Rattle.tw_msgs.specs.declared.message.Message.{Message}
use Rattle.tw_msgs.proofs.Totals.{total-append}
use Rattle.tw_theory.specs.Balance.{all_outgoing}
use Rattle.tw_theory.specs.Bundles.{antis}
use Rattle.tw_theory.specs.Contents.{Process, Aggressive, Lazy, sent_by, unsent_by, outgoing_undone, owed_undone, back_to_first, steps_before, cut}
use Rattle.tw_theory.specs.LocalRun.{Step}
use Rattle.tw_theory.specs.Marks.{rewound}
use Rattle.tw_theory.proofs.Owing.{positive-undone, total-unsent}
use Rattle.tw_theory.proofs.Totals.{anti-antis}
use Rattle.tw_laws.specs.Rewinding.{taken_back, all_owed, AllCancel}
use Rattle.tw_laws.proofs.TransitWeights.{RewoundTransit}

-- what is outgoing and owed after a cut
module _ {S : Type 0} (s : ℕ) (p : Process S) where
  abbrev pub dropped : List (Step S)
  dropped = drop (steps_before s p.history) p.history

  pub cut_outgoing : (cut s p).outgoing ≡ outgoing_undone p.cancel p.outgoing (unsent_by dropped)
  unfolding back_to_first
  cut_outgoing = refl

  pub cut_owed : (cut s p).owed ≡ owed_undone p.cancel p.owed (unsent_by dropped)
  unfolding back_to_first
  cut_owed = refl

  pub cut_positive : (weight : Message → ℕ) → total (when_positive weight) (cut s p).outgoing ≡ total (when_positive weight) p.outgoing
  cut_positive weight = ap (total (when_positive weight)) cut_outgoing ∙ positive-undone weight p.cancel p.outgoing (unsent_by dropped)

  pub cut_anti : (weight : Message → ℕ) → p.cancel ≡ Aggressive
      → total (when_anti weight) (cut s p).outgoing ≡ total (when_anti weight) p.outgoing + total weight (sent_by dropped)
  cut_anti weight k =
      omega (
        arith,
        ap (total (when_anti weight)) (cut_outgoing ∙ ap (λ c. outgoing_undone c p.outgoing (unsent_by dropped)) k),
        total-append (when_anti weight) p.outgoing (antis (unsent_by dropped)),
        anti-antis weight (unsent_by dropped),
        total-unsent weight dropped,
      )

  pub cut_no_owed : p.cancel ≡ Aggressive → (cut s p).owed ≡ p.owed
  cut_no_owed k = cut_owed ∙ ap (λ c. owed_undone c p.owed (unsent_by dropped)) k

  pub cut_no_anti : p.cancel ≡ Lazy → (cut s p).outgoing ≡ p.outgoing
  cut_no_anti k = cut_outgoing ∙ ap (λ c. outgoing_undone c p.outgoing (unsent_by dropped)) k

  pub cut_more_owed : (weight : Message → ℕ) → p.cancel ≡ Lazy → total weight (cut s p).owed ≡ total weight p.owed + total weight (sent_by dropped)
  cut_more_owed weight k =
      omega (arith, ap (total weight) (cut_owed ∙ ap (λ c. owed_undone c p.owed (unsent_by dropped)) k), total-append weight p.owed (unsent_by dropped), total-unsent weight dropped)

module _ {S : Type 0} (weight : Message → ℕ) where
  rewound_positive : (ss : List ℕ) (ps : List (Process S))
      → total (when_positive weight) (all_outgoing (rewound ss ps)) ≡ total (when_positive weight) (all_outgoing ps)
  rewound_positive [] ps = refl
  rewound_positive (s ∷ ss) [] = refl
  rewound_positive (s ∷ ss) (p ∷ ps) =
      omega (
        arith,
        total-append (when_positive weight) (cut s p).outgoing (all_outgoing (rewound ss ps)),
        total-append (when_positive weight) p.outgoing (all_outgoing ps),
        cut_positive s p weight,
        rewound_positive ss ps,
      )

  rewound_aggressive : (ss : List ℕ) (ps : List (Process S)) → AllCancel Aggressive ps
      → (total (when_anti weight) (all_outgoing (rewound ss ps)) ≡ total (when_anti weight) (all_outgoing ps) + total weight (taken_back ss ps)) × (all_owed (rewound ss ps) ≡ all_owed ps)
  rewound_aggressive [] ps k = (omega arith, refl)
  rewound_aggressive (s ∷ ss) [] k = (refl, refl)
  rewound_aggressive (s ∷ ss) (p ∷ ps) k =
      let rest = rewound_aggressive ss ps k.1 in (
        omega (
          arith,
          total-append (when_anti weight) (cut s p).outgoing (all_outgoing (rewound ss ps)),
          total-append (when_anti weight) p.outgoing (all_outgoing ps),
          total-append weight (sent_by (drop (steps_before s p.history) p.history)) (taken_back ss ps),
          cut_anti s p weight k.0,
          rest.0,
        ),
        ap₂ (λ (a b : List Message). a ++ b) (cut_no_owed s p k.0) rest.1,
      )

  rewound_lazy : (ss : List ℕ) (ps : List (Process S)) → AllCancel Lazy ps
      → (all_outgoing (rewound ss ps) ≡ all_outgoing ps) × (total weight (all_owed (rewound ss ps)) ≡ total weight (all_owed ps) + total weight (taken_back ss ps))
  rewound_lazy [] ps k = (refl, omega arith)
  rewound_lazy (s ∷ ss) [] k = (refl, refl)
  rewound_lazy (s ∷ ss) (p ∷ ps) k =
      let rest = rewound_lazy ss ps k.1 in (
        ap₂ (λ (a b : List Item). a ++ b) (cut_no_anti s p k.0) rest.0,
        omega (
          arith,
          total-append weight (cut s p).owed (all_owed (rewound ss ps)),
          total-append weight p.owed (all_owed ps),
          total-append weight (sent_by (drop (steps_before s p.history) p.history)) (taken_back ss ps),
          cut_more_owed s p weight k.0,
          rest.1,
        ),
      )

pub rewound_transit : {S : Type 0} → RewoundTransit S
rewound_transit = record {
  positive = λ weight ss ps. rewound_positive weight ss ps;
  aggressive = λ weight ss ps k. rewound_aggressive weight ss ps k;
  lazy = λ weight ss ps k. rewound_lazy weight ss ps k;
}
