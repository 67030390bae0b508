-- The maker stands for the generator.
use Rattle.std.proofs.Common.{◌≡◌, ℕ, ℤ, ◌∷◌, [], List, refl, ap, arith, ◌∙◌}
use Rattle.std.specs.Prelude.{pos, slice_index_or, slice_set}
use Rattle.std.specs.Int.{w64, cast_unsigned, int_wrapping_add}
use Rattle.tw_atomic.specs.Atomic.{Bag}
use Rattle.tw_machine.specs.declared.memory.State.{State}
use Rattle.tw_machine.specs.declared.language.Statement.TheVariants.{Skip}
use Rattle.tw_machine.specs.Machine.{machine_ext, machine_int, machine_meaning, minus, moved, run_all, time, time_left, later}
use Rattle.tw_models.specs.Gen.{gen_ext, gen_int, gen_meaning}
use Rattle.tw_models.specs.Parameters.{GenParameters}
use Rattle.tw_models.specs.declared.generator.GenState.{GenState}
use Rattle.tw_machine_laws.specs.Bisimulation.{IsBisimulation}
use Rattle.tw_machine_laws.specs.Maker.{GenStands, maker}
use Rattle.tw_machine_laws.proofs.Counts.{more, same-minus, shown}

-- an item that does nothing
skipped : (numbers : List ℤ) (e l k : ℤ) (bag : Bag) (u : State) → run_all Skip numbers e l k bag u ≡ u
skipped numbers e l k [] u = refl
skipped numbers e l k (item ∷ items) u = skipped numbers (pos 0) l k items u

int-stands : (g : GenParameters) (s : GenState) (t : State) → GenStands s t → GenStands (gen_int g s) (machine_int (maker g) t)
int-stands g s t r =
    record {
      cells = ap (λ (cells : List ℤ). slice_set cells 0 (int_wrapping_add w64 (slice_index_or cells 0 (pos 0)) (pos 1))) r.cells ∙ ap (λ (c : ℤ). c ∷ []) (more s.count 1 r.count);
      left = refl;
      count = omega arith;
    }

ext-stands : (g : GenParameters) (s : GenState) (t : State) (elapsed : ℕ) (bag : Bag) → GenStands s t → GenStands (gen_ext s elapsed) (machine_ext (maker g) t elapsed bag)
ext-stands g s t elapsed bag r =
    let rest = minus t.left elapsed in
    let same = skipped [] (time elapsed) (time_left rest) (time (later t.time elapsed)) bag (moved t elapsed rest) in
    record {
      cells = ap (λ (u : State). u.memory.cells) same ∙ r.cells;
      left = ap (λ (u : State). u.left) same ∙ ap (λ left. minus left elapsed) r.left ∙ same-minus s.left elapsed;
      count = r.count;
    }

shows-same : (s : GenState) (t : State) → GenStands s t → cast_unsigned w64 (slice_index_or t.memory.cells 0 (pos 0)) ∷ [] ≡ s.count ∷ []
shows-same s t r = ap (λ (cells : List ℤ). cast_unsigned w64 (slice_index_or cells 0 (pos 0)) ∷ []) r.cells ∙ ap (λ (n : ℕ). n ∷ []) (shown s.count r.count)

pub gen_stands : (g : GenParameters) → IsBisimulation GenStands (gen_meaning g) (machine_meaning (maker g))
gen_stands g =
    record {
      start = record { cells = refl; left = refl; count = omega arith };
      waits = λ s t r. r.left;
      sends = λ s t r elapsed due. refl;
      shows = shows-same;
      int = int-stands g;
      ext = λ s t r elapsed bag some. ext-stands g s t elapsed bag r;
      con = λ s t r elapsed bag some. ext-stands g (gen_int g s) (machine_int (maker g) t) 0 bag (int-stands g s t r);
    }
