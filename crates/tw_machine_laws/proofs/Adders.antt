-- The adder stands for the tally.
use Rattle.std.proofs.Common.{◌≡◌, ℕ, ℤ, ◌∷◌, [], List, refl, ap, arith, ◌∙◌}
use Rattle.std.specs.Prelude.{pos, slice_index_or}
use Rattle.std.specs.Int.{w64, cast_signed, cast_unsigned, int_wrapping_add}
use Rattle.tw_atomic.specs.Atomic.{Bag}
use Rattle.tw_machine.specs.declared.memory.State.{State}
use Rattle.tw_machine.specs.Machine.{item_input, machine_ext, machine_int, machine_meaning, minus, moved, run_all, time, time_left, later}
use Rattle.tw_machine.specs.Running.{run}
use Rattle.tw_models.specs.Tally.{tally_all, tally_meaning, tally_one}
use Rattle.tw_models.specs.declared.tally.TallyState.{TallyState}
use Rattle.tw_machine_laws.specs.Adder.{TallyStands, adder, adds}
use Rattle.tw_machine_laws.specs.Bisimulation.{IsBisimulation}
use Rattle.tw_machine_laws.proofs.Counts.{more, shown}

abbrev with_cells : State → List ℤ → State
with_cells u cells = record { memory = record { cells = cells; queues = u.memory.queues; random = u.memory.random }; time = u.time; left = u.left }

added : (c a b : ℤ) (u : State) (e l k : ℤ) (item : ℕ × ℤ) → u.memory.cells ≡ c ∷ a ∷ b ∷ []
    → (run adds [] (item_input e l k item) u).memory.cells ≡ int_wrapping_add w64 c (pos 1) ∷ int_wrapping_add w64 a item.1 ∷ item.1 ∷ []
added c a b u e l k item is = ap (λ (cells : List ℤ). (run adds [] (item_input e l k item) (with_cells u cells)).memory.cells) is

one-stands : (s : TallyState) (u : State) (e l k : ℤ) (item : ℕ × ℤ) → TallyStands s u → TallyStands (tally_one s item) (run adds [] (item_input e l k item) u)
one-stands s u e l k item r =
    record {
      cells = added (cast_signed w64 s.count) s.sum s.last u e l k item r.cells ∙ ap (λ (c : ℤ). c ∷ int_wrapping_add w64 s.sum item.1 ∷ item.1 ∷ []) (more s.count 1 r.count);
      left = r.left;
      count = omega arith;
    }

all-stands : (bag : Bag) (s : TallyState) (u : State) (e l k : ℤ) → TallyStands s u → TallyStands (tally_all s bag) (run_all adds [] e l k bag u)
all-stands [] s u e l k r = r
all-stands (item ∷ items) s u e l k r = all-stands items (tally_one s item) (run adds [] (item_input e l k item) u) (pos 0) l k (one-stands s u e l k item r)

ext-stands : (s : TallyState) (t : State) (elapsed : ℕ) (bag : Bag) → TallyStands s t → TallyStands (tally_all s bag) (machine_ext adder t elapsed bag)
ext-stands s t elapsed bag r =
    let rest = minus t.left elapsed in
    let all = all-stands bag s (moved t elapsed rest) (time elapsed) (time_left rest) (time (later t.time elapsed))
    (record { cells = r.cells; left = ap (λ left. minus left elapsed) r.left; count = r.count }) in
    record { cells = all.cells; left = all.left; count = all.count }

int-stands : (s : TallyState) (t : State) → TallyStands s t → TallyStands s (machine_int adder t)
int-stands s t r = record { cells = r.cells; left = refl; count = r.count }

shows-same : (s : TallyState) (t : State) → TallyStands s t
    → cast_unsigned w64 (slice_index_or t.memory.cells 0 (pos 0)) ∷ cast_unsigned w64 (slice_index_or t.memory.cells 1 (pos 0)) ∷ cast_unsigned w64 (slice_index_or t.memory.cells 2 (pos 0)) ∷ []
    ≡ s.count ∷ cast_unsigned w64 s.sum ∷ cast_unsigned w64 s.last ∷ []
shows-same s t r =
    ap (λ (cells : List ℤ). cast_unsigned w64 (slice_index_or cells 0 (pos 0)) ∷ cast_unsigned w64 (slice_index_or cells 1 (pos 0)) ∷ cast_unsigned w64 (slice_index_or cells 2 (pos 0)) ∷ []) r.cells
    ∙ ap (λ (n : ℕ). n ∷ cast_unsigned w64 s.sum ∷ cast_unsigned w64 s.last ∷ []) (shown s.count r.count)

pub tally_stands : IsBisimulation TallyStands tally_meaning (machine_meaning adder)
tally_stands =
    record {
      start = record { cells = refl; left = refl; count = omega arith };
      waits = λ s t r. r.left;
      sends = λ s t r elapsed due. refl;
      shows = shows-same;
      int = int-stands;
      ext = λ s t r elapsed bag some. ext-stands s t elapsed bag r;
      con = λ s t r elapsed bag some. ext-stands s (machine_int adder t) 0 bag (int-stands s t r);
    }
