-- Warnings by hand: of a machine that is wrong in six ways, and of one that is right.
use Rattle.std.specs.Prelude.{◌≡◌, ◌∷◌, [], ℕ, List, pos, false, Some, None, codes}
use Rattle.tw_machine_text.specs.Letters.{own}
use Rattle.tw_machine_text.specs.Tree.{Block, Number, Indexed, RandomBelow, Empty, Then, Wait, Draw}
use Rattle.tw_machine_declaration.specs.Seen.{Declaration, Name, register, table, whole}
use Rattle.tw_machine_declaration.specs.declared.declaration.Constant.TheVariants as c
use Rattle.tw_machine_warnings.specs.Machines.{entry_place, machine_warnings}
use Rattle.tw_machine_warnings.specs.Warning.{Warning, line_of}
use Rattle.tw_machine_warnings.specs.declared.warning.Kind.{Kind}
use Rattle.tw_machine_warnings.specs.declared.warning.Kind.TheVariants as k

abbrev pub declared : List Name → Block → ℕ → Declaration
declared names internal port = record {
  names = names;
  random = c.Number (pos 0);
  first = Some (c.Number (pos 1));
  longest = None;
  timers = None;
  internal = internal;
  external = Empty;
  outputs = record { port = whole (pos port); sent = whole (pos 1); when = None; each = None } ∷ [];
  words = whole (pos 0) ∷ [];
}

abbrev pub gap : Name
gap = (codes "gap", table (pos 1 ∷ pos 2 ∷ pos 3 ∷ []))

-- a register that nothing reads, and wait gap[random(4)] wait gap[3], to port 16
abbrev pub wrong : Declaration
wrong = declared ((codes "idle", register (c.Number (pos 0))) ∷ gap ∷ [])
    (Then (Then Empty (Wait (Indexed (own 1) (RandomBelow (Number 4)))) false) (Wait (Indexed (own 1) (Number 3))) false) 16

abbrev pub said : List ℕ → Kind → Warning
said place kind = record { at = place; kind = kind }

abbrev pub six_ways : Type 0
six_ways = machine_warnings (codes "m") wrong
    ≡ (said (codes "m, \"idle\"") k.NotRead ∷ said (codes "m: internal") k.NeverDraws ∷ said (codes "m: internal") k.TwoWaits
    ∷ said (codes "m: internal, \"gap\"") k.IndexPast ∷ said (codes "m: internal, \"gap\"") k.RandomIndex ∷ said (entry_place (codes "m: output") 0) k.PortPast ∷ [])

-- wait gap[random(3)] draw, to port 15
abbrev pub no_way : Type 0
no_way = machine_warnings (codes "m") (declared (gap ∷ []) (Then (Then Empty (Wait (Indexed (own 0) (RandomBelow (Number 3)))) false) Draw false) 15) ≡ []

abbrev pub one_line : Type 0
one_line = line_of (said (codes "m") k.NotRead) ≡ codes "warning: m: it is nowhere read\n"
