-- The parts of the round are the definition's parts.
use Rattle.std.proofs.Common.{◌≡◌, ◌+◌, ◌<◌, ◌≤◌, ◌∙◌, ◌++◌, ℕ, [], slice_get, refl, ap, sym, subst, arith, drop, length, replicate, ⊎_elim}
use Rattle.std.specs.List.{All, Contains, AllByRecursion as Each}
use Rattle.std.specs.List.Sorted.{IsStrictlyIncreasing}
use Rattle.std.proofs.lemmas.List.Elements.{All-contains}
use Rattle.std.proofs.lemmas.Option.{slice_get_within}
use Rattle.tw_atomic.specs.Atomic.{FitsBag}
use Rattle.tw_network.specs.Contents.{network_of}
use Rattle.tw_rounds.specs.Agenda.{dues, IsDueAt}
use Rattle.tw_rounds.specs.Invariant.{AllStand, IsToCome}
use Rattle.tw_rounds.specs.Parts.{after}
use Rattle.tw_rounds.specs.Receiving.{Receives}
use Rattle.tw_rounds.specs.Turning.{turns_with, all_turns}
use Rattle.tw_theory.specs.Bundles.{Ascending}
use Rattle.tw_theory.specs.Simulator.{outputs, first_stop, turn_records, turned_moments, past_stamp}
use Rattle.tw_theory.proofs.Elements.{each_weaker}
use Rattle.tw_rounds.proofs.Dealt.{length-dealt}
use Rattle.tw_rounds.proofs.Dues.{due_at}
use Rattle.tw_rounds.proofs.Imminent.{numbers_rising, imminent_due, imminent_all}
use Rattle.tw_tournament.specs.Times.{numbers_at}
use Rattle.tw_rounds.proofs.InputsGiven.{past_ascending}
use Rattle.tw_rounds.proofs.RoundOutputs.{transition_of}
use Rattle.tw_rounds.proofs.Places.{all_written}
use Rattle.tw_rounds.proofs.RoundsKept.{turns_here, bags_fit, round_goes, past_to_come, not_before, empty_size, none_reached}
use Rattle.tw_rounds.proofs.rounds.make_round.Goals as goal
use Rattle.tw_rounds.proofs.rounds.make_round.Goals.{In_ok-collect, After-deref-3, After-deref-4, After-make_turns}

pub collect-requires-clause-first : goal.collect-requires-clause-first
collect-requires-clause-first g c d s e =
    not_before g.M.Atomic.valid g.M.Atomic.meaning c.args.round.now.network.now.models c.args.round.now.time c.args.run.now.at.moments s d c.requires.underway.moments
    (due_at c.args.run.now.at.moments d s (ap (λ ts. slice_get ts d) (sym c.requires.agenda) ∙ e))

pub collect-requires-clause-before_end : goal.collect-requires-clause-before_end
collect-requires-clause-before_end g c = let small = c.requires.time in omega (arith, small)

-- the components that are listed are those that are imminent
listed : (g : _) (c : In_ok-collect g) → c.collect.new.numbers.items ≡ numbers_at c.args.round.now.time 0 (dues c.args.run.now.at.moments)
listed g c = c.in_ok-collect.ensures ∙ (λ i. c.clear-2.ensures.items i ++ numbers_at c.args.round.now.time 0 (c.requires.agenda i))

taken_due : (g : _) (c : In_ok-collect g) → All (λ d. IsDueAt c.args.run.now.at.moments d c.args.round.now.time) c.collect.new.numbers.items
taken_due g c = subst (All (λ d. IsDueAt c.args.run.now.at.moments d c.args.round.now.time)) (sym (listed g c)) (imminent_due c.args.run.now.at.moments c.args.round.now.time)

taken_all : (g : _) (c : In_ok-collect g) (d : ℕ) → IsDueAt c.args.run.now.at.moments d c.args.round.now.time → Contains c.collect.new.numbers.items d
taken_all g c d at = subst (λ xs. Contains xs d) (sym (listed g c)) (imminent_all c.args.run.now.at.moments c.args.round.now.time d at)

pub make_outputs-requires-clause-time : goal.make_outputs-requires-clause-time
make_outputs-requires-clause-time g c = c.requires.time

pub make_outputs-requires-clause-even : goal.make_outputs-requires-clause-even
make_outputs-requires-clause-even g c = c.requires.underway.even

pub make_outputs-requires-clause-moments : goal.make_outputs-requires-clause-moments
make_outputs-requires-clause-moments g c =
    subst (AllStand g.M.Atomic.valid g.M.Atomic.meaning c.args.round.now.network.now.models c.args.round.now.time) (sym (c.deref.ensures.value ∙ ap (λ r. r.at.moments) c.run.view_is)) c.requires.underway.moments

pub make_outputs-requires-clause-bags : goal.make_outputs-requires-clause-bags
make_outputs-requires-clause-bags g c = empty_size (length c.args.run.now.at.moments) c.args.bench.now.arrivals.bags.items c.requires.bags ∙ c.requires.underway.moments.size

pub make_outputs-requires-clause-rising : goal.make_outputs-requires-clause-rising
make_outputs-requires-clause-rising g c =
    subst IsStrictlyIncreasing (sym (c.deref-2.ensures.value ∙ listed g (goal.at.make_outputs-requires-clause-rising g c).In_ok-collect)) (numbers_rising c.args.round.now.time 0 (dues c.args.run.now.at.moments))

pub make_outputs-requires-clause-each : goal.make_outputs-requires-clause-each
make_outputs-requires-clause-each g c =
    let moments = c.deref.ensures.value ∙ ap (λ r. r.at.moments) c.run.view_is in
    subst (λ ms. All (λ d. IsDueAt ms d c.args.round.now.time) c.deref-2.result.now) (sym moments)
    (subst (All (λ d. IsDueAt c.args.run.now.at.moments d c.args.round.now.time)) (sym c.deref-2.ensures.value) (taken_due g (goal.at.make_outputs-requires-clause-each g c).In_ok-collect))

pub make_outputs-requires-clause-all : goal.make_outputs-requires-clause-all
make_outputs-requires-clause-all g c d at =
    let moments = c.deref.ensures.value ∙ ap (λ r. r.at.moments) c.run.view_is in
    subst (λ xs. Contains xs d) (sym c.deref-2.ensures.value)
    (taken_all g (goal.at.make_outputs-requires-clause-all g c).In_ok-collect d (subst (λ ms. IsDueAt ms d c.args.round.now.time) moments at))

pub make_outputs-requires-clause-awake : goal.make_outputs-requires-clause-awake
make_outputs-requires-clause-awake g c = none_reached (length c.args.run.now.at.moments) c.args.bench.now.arrivals.bags.items c.clear.new.self.items c.requires.bags c.clear.ensures.items

-- the inputs to come
inputs_are : (g : _) (c : After-deref-3 g) → drop c.run.inside.given c.deref-3.result.now ≡ c.args.run.now.at.inputs
inputs_are g c = ap (drop c.run.inside.given) c.deref-3.ensures.value ∙ ap (λ r. r.at.inputs) c.run.view_is

-- as many bags as components
first_size : (g : _) (c : After-deref-3 g) → length c.make_outputs.new.arrivals.bags.items ≡ length c.args.round.now.network.now.models
first_size g c =
    ap length c.in_ok-make_outputs.ensures.bags ∙ length-dealt 0 c.args.bench.now.arrivals.bags.items _
    ∙ empty_size (length c.args.run.now.at.moments) c.args.bench.now.arrivals.bags.items c.requires.bags ∙ c.requires.underway.moments.size

pub deliver_inputs-requires-clause-to : goal.deliver_inputs-requires-clause-to
deliver_inputs-requires-clause-to g c =
    let n = length c.args.round.now.network.now.models in
    let before = (goal.at.deliver_inputs-requires-clause-to g c).After-deref-3 in
    let size = first_size g before in
    subst (Each (λ m. m.to < length c.make_outputs.new.arrivals.bags.items)) (sym (inputs_are g before))
    (each_weaker (IsToCome n c.args.round.now.time) (λ m. m.to < length c.make_outputs.new.arrivals.bags.items) (λ m h. let to = h.to in omega (arith, to, size)) c.args.run.now.at.inputs c.requires.underway.inputs)

pub deliver_inputs-requires-clause-order : goal.deliver_inputs-requires-clause-order
deliver_inputs-requires-clause-order g c = subst Ascending (sym (inputs_are g (goal.at.deliver_inputs-requires-clause-order g c).After-deref-3)) c.requires.underway.order

pub deliver_inputs-requires-clause-awake : goal.deliver_inputs-requires-clause-awake
deliver_inputs-requires-clause-awake g c = c.in_ok-make_outputs.ensures.awake

pub deliver_inputs-requires-clause-from : goal.deliver_inputs-requires-clause-from
deliver_inputs-requires-clause-from g c =
    let n = length c.args.round.now.network.now.models in
    let s = c.transition-at.ensures ∙ transition_of c.args.round.now.time c.requires.underway.even in
    subst (Each (λ m. c.transition-at.result ≤ m.stamp)) (sym (inputs_are g (goal.at.deliver_inputs-requires-clause-from g c).After-deref-3))
    (each_weaker (IsToCome n c.args.round.now.time) (λ m. c.transition-at.result ≤ m.stamp) (λ m h. let after = h.after in omega (arith, after, s)) c.args.run.now.at.inputs c.requires.underway.inputs)

second_size : (g : _) (c : After-deref-4 g) → length c.deliver_inputs.new.self.bags.items ≡ length c.args.round.now.network.now.models
second_size g c = ap length c.in_ok-given.ensures.bags ∙ length-dealt 0 c.make_outputs.new.arrivals.bags.items _ ∙ first_size g (goal.at.wake-requires-clause-imminent g c).After-deref-3

pub wake-requires-clause-imminent : goal.wake-requires-clause-imminent
wake-requires-clause-imminent g c =
    let within : All (λ d. d < length c.deliver_inputs.new.self.bags.items) c.collect.new.numbers.items = λ k d l.
    let at = taken_due g (goal.at.wake-requires-clause-imminent g c).In_ok-collect k d l in
    let m = slice_get_within c.args.run.now.at.moments _ at.0 at.1 in
    let size = second_size g c in
    let whole = c.requires.underway.moments.size in
    omega (arith, m, size, whole) in
    subst (All (λ d. d < length c.deliver_inputs.new.self.bags.items)) (sym c.deref-4.ensures.value) within

pub wake-requires-clause-awake : goal.wake-requires-clause-awake
wake-requires-clause-awake g c = c.in_ok-given.ensures.awake

pub make_turns-requires-clause-time : goal.make_turns-requires-clause-time
make_turns-requires-clause-time g c = c.requires.time

pub make_turns-requires-clause-even : goal.make_turns-requires-clause-even
make_turns-requires-clause-even g c = c.requires.underway.even

pub make_turns-requires-clause-moments : goal.make_turns-requires-clause-moments
make_turns-requires-clause-moments g c =
    subst (AllStand g.M.Atomic.valid g.M.Atomic.meaning c.args.round.now.network.now.models c.args.round.now.time) (sym (c.deref_mut.ensures.value ∙ ap (λ r. r.at.moments) c.run.view_is)) c.requires.underway.moments

pub make_turns-requires-clause-bags : goal.make_turns-requires-clause-bags
make_turns-requires-clause-bags g c = ap length c.in_ok-wake.ensures.bags ∙ second_size g (goal.at.make_turns-requires-clause-bags g c).After-deref-4

pub make_turns-requires-clause-fits : goal.make_turns-requires-clause-fits
make_turns-requires-clause-fits g c =
    subst (Each FitsBag) (sym c.in_ok-wake.ensures.bags)
    (bags_fit g.M.Atomic.valid g.M.Atomic.meaning c.args.round.now.network.now c.args.round.now.time c.transition-at.result c.args.run.now c.deref.result.now (drop c.run.inside.given c.deref-3.result.now) c.args.bench.now.arrivals.bags.items c.make_outputs.new.arrivals.bags.items c.deliver_inputs.new.self.bags.items
    (λ model s v. (g.met.M.Atomic.output_fits model s v).1) c.facts.ensures.couplings c.requires.underway
    (c.deref.ensures.value ∙ ap (λ r. r.at.moments) c.run.view_is)
    (inputs_are g (goal.at.make_turns-requires-clause-fits g c).After-deref-3)
    c.requires.bags c.in_ok-make_outputs.ensures.bags c.in_ok-given.ensures.bags)

pub make_turns-requires-clause-awake : goal.make_turns-requires-clause-awake
make_turns-requires-clause-awake g c =
    let moments = c.deref_mut.ensures.value ∙ ap (λ r. r.at.moments) c.run.view_is in
    let awake = c.wake.new.self.awake.items in
    let imminent : All (Contains awake) c.collect.new.numbers.items = subst (All (Contains awake)) c.deref-4.ensures.value c.in_ok-wake.ensures.imminent in
    record {
      rising = c.in_ok-wake.ensures.rising;
      each = c.in_ok-wake.ensures.awake.each;
      all = λ d h. ⊎_elim
          (λ at. All-contains (Contains awake) c.collect.new.numbers.items d imminent (taken_all g (goal.at.make_turns-requires-clause-awake g c).In_ok-collect d (subst (λ ms. IsDueAt ms d c.args.round.now.time) moments at)))
          (λ r. c.in_ok-wake.ensures.awake.all d r)
          h;
    }

pub make_turns-requires-clause-agenda : goal.make_turns-requires-clause-agenda
make_turns-requires-clause-agenda g c = c.requires.agenda ∙ ap dues (sym (c.deref_mut.ensures.value ∙ ap (λ r. r.at.moments) c.run.view_is))

-- the turns of the code are the definition's
turns_here_are : (g : _) (c : After-make_turns g) → turns_with (network_of g.M.Atomic.meaning c.args.round.now.network.now) c.args.round.now.time 0 c.deref_mut.result.now c.wake.new.self.bags.items ≡ all_turns (network_of g.M.Atomic.meaning c.args.round.now.network.now) c.args.round.now.time c.args.run.now
turns_here_are g c =
    let net = network_of g.M.Atomic.meaning c.args.round.now.network.now in
    ap (turns_with net c.args.round.now.time 0 c.deref_mut.result.now) c.in_ok-wake.ensures.bags
    ∙ turns_here net c.args.round.now.time c.transition-at.result c.args.run.now c.deref.result.now c.deref_mut.result.now (drop c.run.inside.given c.deref-3.result.now) c.args.bench.now.arrivals.bags.items c.make_outputs.new.arrivals.bags.items c.deliver_inputs.new.self.bags.items
    (c.deref.ensures.value ∙ ap (λ r. r.at.moments) c.run.view_is)
    (c.deref_mut.ensures.value ∙ ap (λ r. r.at.moments) c.run.view_is)
    (ap (drop c.run.inside.given) c.deref-3.ensures.value ∙ ap (λ r. r.at.inputs) c.run.view_is)
    (c.transition-at.ensures ∙ transition_of c.args.round.now.time c.requires.underway.even)
    c.requires.bags c.in_ok-make_outputs.ensures.bags c.in_ok-given.ensures.bags

-- the inputs past the stamp are left
inputs_left : (g : _) (c : After-make_turns g) → drop c.in_ok-given.given c.run.inside.inputs.items ≡ past_stamp (c.args.round.now.time + 1) c.args.run.now.at.inputs
inputs_left g c =
    let s = c.transition-at.ensures ∙ transition_of c.args.round.now.time c.requires.underway.even in
    let inputs = ap (drop c.run.inside.given) c.deref-3.ensures.value ∙ ap (λ r. r.at.inputs) c.run.view_is in
    ap (drop c.in_ok-given.given) (sym c.deref-3.ensures.value) ∙ c.in_ok-given.ensures.given ∙ (λ i. past_stamp (s i) (inputs i))

pub returns-clause-outputs : goal.returns-clause-outputs
returns-clause-outputs g c =
    let net = network_of g.M.Atomic.meaning c.args.round.now.network.now in
    let moments = c.deref.ensures.value ∙ ap (λ r. r.at.moments) c.run.view_is in
    subst (λ ms. Receives g.R.Receiver.takes c.args.outputs.now (outputs net c.args.round.now.time 0 ms) c.make_outputs.new.receiver) moments c.in_ok-make_outputs.ensures.received

pub returns-clause-transitions : goal.returns-clause-transitions
returns-clause-transitions g c none =
    let all = turns_here_are g (goal.at.returns-clause-transitions g c).After-make_turns in
    subst (λ ts. Receives g.R.Receiver.takes c.args.transitions.now (turn_records ts) c.make_turns.new.receiver) all (c.in_ok-stop.ensures.received none)

pub returns-clause-stop : goal.returns-clause-stop
returns-clause-stop g c = c.in_ok-stop.ensures.stop ∙ ap (first_stop 0) (turns_here_are g (goal.at.returns-clause-stop g c).After-make_turns)

pub returns-clause-going : goal.returns-clause-going
returns-clause-going g c none =
    let net = network_of g.M.Atomic.meaning c.args.round.now.network.now in
    let run = c.args.run.now in
    let before = (goal.at.returns-clause-going g c).After-make_turns in
    let all = turns_here_are g before in
    let found = c.in_ok-stop.ensures.stop ∙ ap (first_stop 0) all in
    let moments = c.deref_mut.ensures.value ∙ ap (λ r. r.at.moments) c.run.view_is in
    let written = all_written c.run.inside.moments c.make_turns.new.moments (c.make_turns.auto.moments ∙ ap length c.deref_mut.ensures.value) in
    ap (after [])
    (round_goes net c.args.round.now.time run c.in_ok-stop.stop found _ _ _ none
    (written ∙ c.in_ok-stop.ensures.moments none ∙ (λ i. turned_moments (moments i) (all i)))
    (inputs_left g before) refl)

pub returns-clause-underway : goal.returns-clause-underway
returns-clause-underway g c none =
    let n = length c.args.round.now.network.now.models in
    let even = c.requires.underway.even in
    let written = all_written c.run.inside.moments c.make_turns.new.moments (c.make_turns.auto.moments ∙ ap length c.deref_mut.ensures.value) in
    let left = inputs_left g (goal.at.returns-clause-underway g c).After-make_turns in
    record {
      even = omega (arith, even);
      moments = subst (AllStand g.M.Atomic.valid g.M.Atomic.meaning c.args.round.now.network.now.models (c.args.round.now.time + 2)) (sym written) (c.in_ok-stop.ensures.standing none);
      inputs = subst (Each (IsToCome n (c.args.round.now.time + 2))) (sym left) (past_to_come n c.args.round.now.time c.args.run.now.at.inputs c.requires.underway.even c.requires.underway.inputs);
      order = subst Ascending (sym left) (past_ascending (c.args.round.now.time + 1) c.args.run.now.at.inputs c.requires.underway.order);
    }

pub returns-clause-agenda : goal.returns-clause-agenda
returns-clause-agenda g c none =
    let written = all_written c.run.inside.moments c.make_turns.new.moments (c.make_turns.auto.moments ∙ ap length c.deref_mut.ensures.value) in
    c.in_ok-stop.ensures.agenda none ∙ ap dues (sym written)

pub returns-clause-bags : goal.returns-clause-bags
returns-clause-bags g c none =
    let written = all_written c.run.inside.moments c.make_turns.new.moments (c.make_turns.auto.moments ∙ ap length c.deref_mut.ensures.value) in
    let stand = c.in_ok-stop.ensures.standing none in
    c.in_ok-stop.ensures.bags none ∙ ap (λ n. replicate n []) (sym (ap length written ∙ stand.size))
