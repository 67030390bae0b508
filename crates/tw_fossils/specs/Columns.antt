-- Columns of records: of which component they are, and in which order.
use Rattle.std.specs.Prelude.{ℕ, suc, ◌<◌, ◌≡◌, List, [], ◌∷◌, ⊤}
use Rattle.std.specs.List.{AllByRecursion as Each}
use Rattle.tw_msgs.specs.declared.record.Record.{Record}

-- each record stands before all later ones
abbrev pub IsRising : List Record → Type 0
IsRising [] = ⊤
IsRising (x ∷ xs) = Each (λ y. x.stamp < y.stamp) xs × IsRising xs

-- the records of component c
pub record IsColumn (c : ℕ) (rs : List Record) : Type 0 where
  pub own : Each (λ r. r.component ≡ c) rs
  pub rising : IsRising rs

-- those of the components from c on
abbrev pub AreColumns : ℕ → List (List Record) → Type 0
AreColumns c [] = ⊤
AreColumns c (column ∷ columns) = IsColumn c column × AreColumns (suc c) columns
