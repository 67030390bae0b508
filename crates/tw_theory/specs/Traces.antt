-- The order of a trace: by stamp, then component.
--     IsTrace rs      these records stand in it
--     of_component c rs, before g rs      those of component c; those before stamp g
--     IsMerged g w trace      a trace that has of each component what its column has before g
--     least_line ps      the least commit line, before which all columns are whole
use Rattle.std.specs.Prelude.{ℕ, ◌<◌, ◌≡◌, ◌⊎◌, ◌==◌, min, List, [], ◌∷◌, filter, nat_lt, ⊤}
use Rattle.std.specs.List.{AllByRecursion as Each}
use Rattle.tw_msgs.specs.declared.record.Record.{Record}
use Rattle.tw_vtime.specs.Stamps.{never}
use Rattle.tw_theory.specs.Contents.{Process}
use Rattle.tw_theory.specs.Executive.{World, column_of}

-- x stands before y
abbrev pub Precedes : Record → Record → Type 0
Precedes x y = (x.stamp < y.stamp) ⊎ ((x.stamp ≡ y.stamp) × (x.component < y.component))

abbrev pub IsTrace : List Record → Type 0
IsTrace [] = ⊤
IsTrace (x ∷ xs) = Each (Precedes x) xs × IsTrace xs

abbrev pub of_component : ℕ → List Record → List Record
of_component c rs = filter (λ r. r.component == c) rs

abbrev pub before : ℕ → List Record → List Record
before g rs = filter (λ r. nat_lt r.stamp g) rs

pub record IsMerged {S : Type 0} (g : ℕ) (w : World S) (trace : List Record) : Type 0 where
  pub ordered : IsTrace trace
  pub parts : (c : ℕ) → of_component c trace ≡ before g (column_of w.columns c)

-- without processes there is none before the end
abbrev pub least_line : {S : Type 0} → List (Process S) → ℕ
least_line [] = never
least_line (p ∷ ps) = min p.line (least_line ps)
