-- Nodes whose stamps fall, or stay, from each to the next. No public clause cites this module.
--     AreUpTo s nodes, IsFalling nodes      no stamp is above s; none is above one before it
--     FallIf b nodes      they fall, where b is true
--     AreOverdue s nodes, IsLastTimely s nodes      all were sent before s; the last, if there is one, was not
--     NoneBefore s at nodes      before the node of this index, or where there is none before the end, none was sent before s
use Rattle.std.specs.Prelude.{ℕ, ◌≡◌, ◌≤◌, Bool, true, false, [], ◌∷◌, ◌++◌, Option, IsTrue}
use Rattle.tw_pool.specs.Lists.{first_of}
use Rattle.tw_vtime.specs.Stamps.{is_overdue}
use Rattle.tw_lists.specs.Lists.{Nodes}
use Rattle.tw_lists.specs.Nodes.{overdue_nodes}

abbrev pub AreUpTo : ℕ → Nodes → Type 0
AreUpTo s [] = Unit {0}
AreUpTo s (node ∷ nodes) = (node.1.message.stamp ≤ s) × AreUpTo s nodes

abbrev pub IsFalling : Nodes → Type 0
IsFalling [] = Unit {0}
IsFalling (node ∷ nodes) = AreUpTo node.1.message.stamp nodes × IsFalling nodes

abbrev pub FallIf : Bool → Nodes → Type 0
FallIf b nodes = IsTrue b → IsFalling nodes

abbrev pub AreOverdue : ℕ → Nodes → Type 0
AreOverdue s [] = Unit {0}
AreOverdue s (node ∷ nodes) = (is_overdue node.1.message.stamp s ≡ true) × AreOverdue s nodes

abbrev pub IsLastTimely : ℕ → Nodes → Type 0
IsLastTimely s [] = Unit {0}
IsLastTimely s (node ∷ []) = is_overdue node.1.message.stamp s ≡ false
IsLastTimely s (node ∷ next ∷ nodes) = IsLastTimely s (next ∷ nodes)

pub record NoneBefore (s : ℕ) (at : Option ℕ) (nodes : Nodes) : Type 0 where
  pub seen : Nodes
  pub rest : Nodes
  pub split : nodes ≡ seen ++ rest
  pub at_is : at ≡ first_of rest
  pub none : overdue_nodes s seen ≡ []
