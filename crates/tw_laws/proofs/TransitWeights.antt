-- What a rewind puts in transit, for any weight of messages.
use Rattle.std.specs.Prelude.{ℕ, ◌+◌, ◌≡◌, List}
use Rattle.tw_msgs.specs.Counting.{total, when_positive, when_anti}
use Rattle.tw_msgs.specs.declared.message.Message.{Message}
use Rattle.tw_theory.specs.Balance.{all_outgoing}
use Rattle.tw_theory.specs.Contents.{Process, Aggressive, Lazy}
use Rattle.tw_theory.specs.Marks.{rewound}
use Rattle.tw_laws.specs.Rewinding.{taken_back, all_owed, AllCancel}

-- A rewind puts no positive message in transit. For each message that the steps taken back sent, one anti-message is in transit then (Aggressive), or one message is owed (Lazy)
pub record RewoundTransit (S : Type 0) : Type 0 where
  pub positive : (weight : Message → ℕ) (ss : List ℕ) (ps : List (Process S))
      → total (when_positive weight) (all_outgoing (rewound ss ps)) ≡ total (when_positive weight) (all_outgoing ps)
  pub aggressive : (weight : Message → ℕ) (ss : List ℕ) (ps : List (Process S)) → AllCancel Aggressive ps
      → (total (when_anti weight) (all_outgoing (rewound ss ps)) ≡ total (when_anti weight) (all_outgoing ps) + total weight (taken_back ss ps)) × (all_owed (rewound ss ps) ≡ all_owed ps)
  pub lazy : (weight : Message → ℕ) (ss : List ℕ) (ps : List (Process S)) → AllCancel Lazy ps
      → (all_outgoing (rewound ss ps) ≡ all_outgoing ps) × (total weight (all_owed (rewound ss ps)) ≡ total weight (all_owed ps) + total weight (taken_back ss ps))
