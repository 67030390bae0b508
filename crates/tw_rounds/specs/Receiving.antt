-- What a receiver has got.
--     record_of component stamp kind bag words      the record that a part is
--     Receives takes old records new      from `old` on it took these records, one after another, and stands at `new`
use Rattle.std.specs.Prelude.{◌≡◌, ℕ, ℤ, List, [], ◌∷◌}
use Rattle.tw_msgs.specs.Bags.{Bag}
use Rattle.tw_msgs.specs.declared.record.Record.{Record}
use Rattle.tw_msgs.specs.declared.record_kind.RecordKind.{RecordKind}

abbrev pub record_of : ℕ → ℕ → RecordKind → Bag → List ℤ → Record
record_of component stamp kind bag words = record { component = component; stamp = stamp; kind = kind; bag = bag; words = words }

abbrev pub Receives : {R : Type 0} → (R → Record → R → Type 0) → R → List Record → R → Type 0
Receives takes old [] new = old ≡ new
Receives {R} takes old (r ∷ rs) new = (next : R) × takes old r next × Receives takes next rs new
