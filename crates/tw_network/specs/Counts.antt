-- How many parts and couplings a tree has, counted on from what was counted before.
--     FitsAfter room before parts links      these have no more levels than room, and with what was counted before they are not too many
--     ModelFits room before nested, IsModelCounted before after nested      the same of a coupled model's parts and couplings
--     IsCounted before after parts links      after is what was counted with these
use Rattle.std.specs.Prelude.{ℕ, ◌≡◌, ◌≤◌, ◌+◌, length}
use Rattle.tw_nested.specs.declared.tree.Nested.{Nested}
use Rattle.tw_nested.specs.Tree.{Parts, coupled_count, levels, link_count, links_of, models_in, tree_of}
use Rattle.tw_network.specs.declared.counts.Counts.{Counts}

-- no more than a tree may have
pub record AreFewCounts (c : Counts) : Type 0 where
  pub atoms : c.atoms ≤ 1024
  pub coupled : c.coupled ≤ 1024
  pub couplings : c.couplings ≤ 8192

pub record FitsAfter {M : Type 0} (room : ℕ) (before : Counts) (parts : Parts M) (links : ℕ) : Type 0 where
  pub levels : levels parts ≤ room
  pub atoms : before.atoms + length (models_in parts) ≤ 1024
  pub coupled : before.coupled + coupled_count parts ≤ 1024
  pub couplings : before.couplings + (links + link_count parts) ≤ 8192

pub record IsCounted {M : Type 0} (before after : Counts) (parts : Parts M) (links : ℕ) : Type 0 where
  pub atoms : after.atoms ≡ before.atoms + length (models_in parts)
  pub coupled : after.coupled ≡ before.coupled + coupled_count parts
  pub couplings : after.couplings ≡ before.couplings + (links + link_count parts)

abbrev pub ModelFits : {M : Type 0} → ℕ → Counts → Nested M → Type 0
ModelFits {M} room before nested = FitsAfter room before (tree_of {M = M} nested) (length (links_of {M = M} nested))

abbrev pub IsModelCounted : {M : Type 0} → Counts → Counts → Nested M → Type 0
IsModelCounted {M} before after nested = IsCounted before after (tree_of {M = M} nested) (length (links_of {M = M} nested))
