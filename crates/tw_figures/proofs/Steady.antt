-- The records of a run follow one another in time.
use Rattle.std.proofs.Common.{◌∙◌, ℕ, ◌<◌, ◌≤◌, List, [], ◌∷◌, ◌++◌, sym, ap, subst, arith, append_assoc, ⊎_elim}
use Rattle.std.specs.List.{AllByRecursion as Each}
use Rattle.tw_msgs.specs.declared.record.Record.{Record}
use Rattle.tw_atomic.specs.Atomic.{Meaning}
use Rattle.tw_network.specs.Contents.{Contents, network_of}
use Rattle.tw_rounds.specs.Parts.{IsSimulating, Stage}
use Rattle.tw_rounds.proofs.Parted.{part_begins}
use Rattle.tw_laws.proofs.Traces.{sequential_trace}
use Rattle.tw_theory.specs.Network.{IsNetwork, Network}
use Rattle.tw_theory.specs.Simulator.{sequential}
use Rattle.tw_theory.specs.Traces.{IsTrace, Precedes}
use Rattle.tw_vtime.specs.Stamps.{max_tick, never, stamp}
use Rattle.tw_figures.specs.Figures.{IsNext, IsSteady}

each_at : (P : Record → Type 0) (front back : List Record) (r : Record) → Each P (front ++ r ∷ back) → P r
each_at P [] back r h = h.0
each_at P (x ∷ front) back r h = each_at P front back r h.1

trace_next : (front back : List Record) (r : Record) → IsTrace (front ++ r ∷ back) → IsNext front r
trace_next [] back r h = tt
trace_next (x ∷ front) back r h = (
  ⊎_elim (λ earlier. omega (arith, earlier)) (λ same. let e = same.0 in omega (arith, e)) (each_at (Precedes x) front back r h.0),
  trace_next front back r h.1,
)

pub trace_steady : (rs : List Record) (bound : ℕ) → IsTrace rs → bound ≤ never → Each (λ r. r.stamp < bound) rs → IsSteady rs
trace_steady rs bound trace top below = record {
  each = λ front back r is. (
    trace_next front back r (subst IsTrace is trace),
    (λ e. let under = each_at (λ x. x.stamp < bound) front back r (subst (Each (λ x. x.stamp < bound)) is below) in absurd (omega (arith, under, e, top))),
  );
}

-- a beginning of such a list is one too
pub steady_front : (xs ys : List Record) → IsSteady (xs ++ ys) → IsSteady xs
steady_front xs ys h = record { each = λ front back r is. h.each front (back ++ ys) r (ap (λ l. l ++ ys) is ∙ append_assoc front (r ∷ back) ys) }

-- the records that a run has made so far, and those of a whole run
pub made_steady : {M S : Type 0} (valid : M → S → Type 0) (meaning : M → Meaning S) (contents : Contents M) (done : List Record) (stage : Stage S) → IsNetwork (network_of meaning contents)
    → IsSimulating valid meaning contents done stage → IsSteady done
made_steady valid meaning contents done stage ok h =
    let net = network_of meaning contents in
    let more = part_begins valid meaning contents stage.until done stage.run h.part in
    let small = h.part.small in
    let whole = sequential_trace net stage.until ok small in
    steady_front done more.0 (subst IsSteady (sym more.1) (trace_steady (sequential net stage.until).records (stamp stage.until 0 0) whole.0 (omega (arith, small)) whole.1))

pub run_steady : {S : Type 0} (net : Network S) (until : ℕ) → IsNetwork net → until ≤ max_tick → IsSteady (sequential net until).records
run_steady net until ok small =
    let whole = sequential_trace net until ok small in
    trace_steady (sequential net until).records (stamp until 0 0) whole.0 (omega (arith, small)) whole.1
