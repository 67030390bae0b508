-- One component after another.
use Rattle.std.proofs.Common.{◌≡◌, ◌+◌, ◌*◌, ◌<◌, ◌∙◌, ◌++◌, ◌∷◌, [], ℕ, refl, ap, sym, subst, arith, length, take, drop, slice_set, slice_index, slice_index_or, Some, append-nil, replicate}
use Rattle.std.specs.List.{AllByRecursion as Each}
use Rattle.std.proofs.lemmas.List.{take_all, drop_all, set-get_or}
use Rattle.std.proofs.lemmas.Nat.{mul-le}
use Rattle.std.proofs.lemmas.Option.{none-some, slice_get-get_or, slice_get_within}
use Rattle.std.proofs.lemmas.Result.{IfOk-from_err}
use Rattle.tw_atomic.specs.Atomic.{FitsBag}
use Rattle.tw_msgs.specs.declared.record.Record.{Record}
use Rattle.tw_network.specs.Contents.{network_of}
use Rattle.tw_rounds.specs.Agenda.{dues}
use Rattle.tw_rounds.specs.Receiving.{Receives}
use Rattle.tw_rounds.specs.Turning.{Part, CanGoOn, part_of, turns_with}
use Rattle.tw_theory.specs.Simulator.{turn_records, turned_moments, first_stop}
use Rattle.tw_rounds.proofs.Dues.{dues_set, dues_size}
use Rattle.tw_rounds.proofs.Places.{each_at, all_written}
use Rattle.tw_rounds.proofs.Received.{received_more}
use Rattle.tw_rounds.proofs.RoundOutputs.{transition_of}
use Rattle.tw_rounds.proofs.Sweeping.{onward, onward_more}
use Rattle.tw_rounds.proofs.TurnsSwept.{entries, goes_on, idle_stays, swept_start, same_here, stop_found, Swept, swept_turn, at_turn, at_end, turn_within, listed_as, all_empty}
use Rattle.tw_rounds.proofs.turns.make_turns.Goals as goal
use Rattle.tw_rounds.proofs.turns.make_turns.Goals.{in-Stays, in-Moves+in_ok-take-in-Moves, After-loop-component, In_ok-take_turn, In-loop-component}

-- a place in a list is one in each that is as long
as_long : (i n m : ℕ) → i < n → m ≡ n → i < m
as_long i n m l e = subst (λ k. i < k) (sym e) l

-- where the elements of a list of this size lie is a small number
offset_small : (i n size : ℕ) → i < n → n * size < 9223372036854775808 → i * size < 18446744073709551616
offset_small i n size l small = let near = mul-le i size n size (omega arith) (omega arith) in omega arith

-- the component in turn, and where the sweep stands before it
module _ (g : _) (c : In-loop-component g) where
  here_within : slice_index c.deref-component-items.result.now c.loop-component.component-index < length c.args.moments.now
  here_within =
      turn_within g.M.Atomic.valid g.M.Atomic.meaning c.args.round.now.network.now c.args.round.now.time c.args.moments.now c.as_mut_slice-bags.result.now [] c.loop-component.moments c.loop-component.bags c.loop-component.invariant.told c.deref-component-items.result.now
      (listed_as c.args.round.now.time c.args.moments.now _ _ _ _ c.as_mut_slice-bags.ensures.value c.deref-component-items.ensures.value c.requires.awake)
      c.loop-component.auto.moments c.loop-component.auto.bags (ap length c.as_mut_slice-bags.ensures.value ∙ c.requires.bags ∙ sym c.requires.moments.size)
      c.requires.moments c.requires.even c.requires.time c.loop-component.component-index c.loop-component-test.true

  here_swept : Swept g.M.Atomic.valid g.M.Atomic.meaning c.args.round.now.network.now c.args.round.now.time c.args.moments.now c.as_mut_slice-bags.result.now [] (slice_index c.deref-component-items.result.now c.loop-component.component-index) c.loop-component.moments c.loop-component.bags c.loop-component.invariant.told
  here_swept =
      at_turn g.M.Atomic.valid g.M.Atomic.meaning c.args.round.now.network.now c.args.round.now.time c.args.moments.now c.as_mut_slice-bags.result.now [] c.loop-component.moments c.loop-component.bags c.loop-component.invariant.told c.deref-component-items.result.now
      (listed_as c.args.round.now.time c.args.moments.now _ _ _ _ c.as_mut_slice-bags.ensures.value c.deref-component-items.ensures.value c.requires.awake)
      c.loop-component.auto.moments c.loop-component.auto.bags (ap length c.as_mut_slice-bags.ensures.value ∙ c.requires.bags ∙ sym c.requires.moments.size)
      c.requires.moments c.requires.even c.requires.time c.loop-component.component-index c.loop-component-test.true c.loop-component.invariant.swept

  -- it has a bag, a place among the moments and a time on the agenda
  bag_within : slice_index c.deref-component-items.result.now c.loop-component.component-index < length c.loop-component.bags
  bag_within = as_long _ _ _ here_within (c.loop-component.auto.bags ∙ ap length c.as_mut_slice-bags.ensures.value ∙ c.requires.bags ∙ sym c.requires.moments.size)

  moment_within : slice_index c.deref-component-items.result.now c.loop-component.component-index < length c.loop-component.moments
  moment_within = as_long _ _ _ here_within c.loop-component.auto.moments

  time_within : slice_index c.deref-component-items.result.now c.loop-component.component-index < length c.loop-component.agenda.times
  time_within = as_long _ _ _ moment_within (ap length c.loop-component.invariant.agenda ∙ dues_size c.loop-component.moments)

pub loop-component-init : goal.loop-component-init
loop-component-init g c = record {
  told = [];
  received = refl;
  swept = swept_start g.M.Atomic.valid g.M.Atomic.meaning c.args.round.now.network.now c.args.round.now.time c.args.moments.now c.as_mut_slice-bags.result.now;
  agenda = c.requires.agenda;
}

pub bounds-bags-component : goal.bounds-bags-component
bounds-bags-component g c = bag_within g (goal.at.bounds-bags-component g c).In-loop-component

pub bounds-moments-component : goal.bounds-moments-component
bounds-moments-component g c = moment_within g (goal.at.bounds-moments-component g c).In-loop-component

pub take_turn-requires-clause-component : goal.take_turn-requires-clause-component
take_turn-requires-clause-component g c = as_long _ _ _ (here_within g (goal.at.take_turn-requires-clause-component g c).In-loop-component) (sym c.requires.moments.size)

pub set-requires : goal.set-requires
set-requires g c = time_within g (goal.at.set-requires g c).In-loop-component

pub take_turn-requires-clause-fits : goal.take_turn-requires-clause-fits
take_turn-requires-clause-fits g c =
    let before = (goal.at.take_turn-requires-clause-fits g c).In-loop-component in
    let i = slice_index c.deref-component-items.result.now c.loop-component.component-index in
    let bags0 = c.as_mut_slice-bags.result.now in
    let bags = c.loop-component.bags in
    let b = c.index-bags-component.result in
    let l0 = here_within g before in
    let whole : length bags0 ≡ length c.args.moments.now = ap length c.as_mut_slice-bags.ensures.value ∙ c.requires.bags ∙ sym c.requires.moments.size in
    let size = c.loop-component.auto.bags in
    let m0 : i < length bags0 = omega (arith, l0, whole) in
    let same = same_here bags bags0 i b (here_swept g before).to_come (omega (arith, m0, size)) m0 in
    subst FitsBag (sym same) (each_at FitsBag bags0 i b m0 (subst (Each FitsBag) (sym c.as_mut_slice-bags.ensures.value) c.requires.fits))

pub take_turn-requires-clause-standing : goal.take_turn-requires-clause-standing
take_turn-requires-clause-standing g c model found =
    let before = (goal.at.take_turn-requires-clause-standing g c).In-loop-component in
    let i = slice_index c.deref-component-items.result.now c.loop-component.component-index in
    let old = c.args.moments.now in
    let d = c.index-moments-component.result in
    let size = c.loop-component.auto.moments in
    let l0 = here_within g before in
    let l : i < length c.loop-component.moments = omega (arith, size, l0) in
    let here = same_here c.loop-component.moments old i d (here_swept g before).later l l0 in
    c.requires.moments.each i model (slice_index_or c.loop-component.moments i d) found (slice_get-get_or old i d l0 ∙ ap Some (sym here))

-- what the component in turn did, with its record
abbrev what_is : (g : _) → In_ok-take_turn g → Part
what_is g c = part_of (slice_index c.deref-component-items.result.now c.loop-component.component-index) (c.args.round.now.time + 1) c.take_turn.new.bag c.take_turn.new.words.items c.in_ok-take_turn.field-0

pub returns-in-Stops-clause-stop : goal.returns-in-Stops-clause-stop
returns-in-Stops-clause-stop g c =
    let before = (goal.at.returns-in-Stops-clause-stop g c).In-loop-component in
    let net = network_of g.M.Atomic.meaning c.args.round.now.network.now in
    let t = c.args.round.now.time in
    let i = slice_index c.deref-component-items.result.now c.loop-component.component-index in
    let old = c.args.moments.now in
    let moments = c.loop-component.moments in
    let bags0 = c.as_mut_slice-bags.result.now in
    let bags = c.loop-component.bags in
    let d = c.index-moments-component.result in
    let b = c.index-bags-component.result in
    let what = what_is g (goal.at.returns-in-Stops-clause-stop g c).In_ok-take_turn in
    let size = c.loop-component.auto.moments in
    let size' = c.loop-component.auto.bags in
    let whole : length bags0 ≡ length old = ap length c.as_mut_slice-bags.ensures.value ∙ c.requires.bags ∙ sym c.requires.moments.size in
    let l0 = here_within g before in
    let m0 : i < length bags0 = omega (arith, l0, whole) in
    let sw = here_swept g before in
    let turn = c.in_ok-take_turn.ensures.turn in
    stop_found net t i old moments bags0 bags d b what c.take_turn.new.now sw.later sw.to_come (omega (arith, size, l0)) l0 (omega (arith, size', m0)) m0 turn c.in-Stops.limit (ap (part_of i (t + 1) c.take_turn.new.bag c.take_turn.new.words.items) c.in-Stops.is) _ sw.stop
    ∙ ap (λ bs. first_stop 0 (turns_with net t 0 old bs)) c.as_mut_slice-bags.ensures.value

pub loop-component-preserved : goal.loop-component-preserved
loop-component-preserved g c =
    let before = (goal.at.loop-component-preserved g c).In-loop-component in
    let valid = g.M.Atomic.valid in
    let meaning = g.M.Atomic.meaning in
    let contents = c.args.round.now.network.now in
    let net = network_of meaning contents in
    let t = c.args.round.now.time in
    let items = c.deref-component-items.result.now in
    let k = c.loop-component.component-index in
    let i = slice_index items k in
    let old = c.args.moments.now in
    let moments = c.loop-component.moments in
    let bags0 = c.as_mut_slice-bags.result.now in
    let bags = c.loop-component.bags in
    let told = c.loop-component.invariant.told in
    let d = c.index-moments-component.result in
    let b = c.index-bags-component.result in
    let field = c.in_ok-take_turn.field-0 in
    let what = what_is g (goal.at.loop-component-preserved g c).In_ok-take_turn in
    let new = c.take_turn.new.now in
    let inv = c.loop-component.invariant in
    let size = c.loop-component.auto.moments in
    let size' = c.loop-component.auto.bags in
    let whole : length bags0 ≡ length old = ap length c.as_mut_slice-bags.ensures.value ∙ c.requires.bags ∙ sym c.requires.moments.size in
    let l0 = here_within g before in
    let m0 : i < length bags0 = omega (arith, l0, whole) in
    let l : i < length moments = omega (arith, size, l0) in
    let m : i < length bags = omega (arith, size', m0) in
    let sw = here_swept g before in
    let turn = c.in_ok-take_turn.ensures.turn in
    let emptied : slice_set bags i c.clear.new.self ≡ slice_set bags i [] = ap (slice_set bags i) c.clear.ensures in
    let step : CanGoOn field → Swept valid meaning contents t old bags0 [] (onward items (k + 1)) (slice_set moments i new) (slice_set bags i c.clear.new.self) (told ++ entries what) =
    λ on. subst (λ n. Swept valid meaning contents t old bags0 [] n (slice_set moments i new) (slice_set bags i c.clear.new.self) (told ++ entries what)) (sym (onward_more items k))
    (subst (λ bs. Swept valid meaning contents t old bags0 [] (i + 1) (slice_set moments i new) bs (told ++ entries what)) (sym emptied)
    (swept_turn valid meaning contents t old bags0 [] i moments bags told sw l0 m0 l m d b what new turn (goes_on i (t + 1) c.take_turn.new.bag c.take_turn.new.words.items field on) (λ idle. c.in_ok-take_turn.ensures.kept (idle_stays i (t + 1) c.take_turn.new.bag c.take_turn.new.words.items field idle)) (c.in_ok-take_turn.ensures.standing on))) in
    elim c.match-branch-2.branch [
      | in-Stays w ↦
          let is = w.in-Stays.is in
          let on : CanGoOn field = subst CanGoOn (sym is) tt in
          let same : told ++ entries what ≡ told = ap (λ f. told ++ entries (part_of i (t + 1) c.take_turn.new.bag c.take_turn.new.words.items f)) is ∙ append-nil told in
          record {
            told = told;
            received = subst (λ r. Receives g.R.Receiver.takes c.args.receiver.now told r) (sym w.receiver-is) inv.received;
            swept = subst (λ ms. Swept valid meaning contents t old bags0 [] (onward items (k + 1)) ms (slice_set bags i c.clear.new.self) told) (sym w.moments-is)
                (subst (Swept valid meaning contents t old bags0 [] (onward items (k + 1)) (slice_set moments i new) (slice_set bags i c.clear.new.self)) same (step on));
            agenda = ap (λ a. a.times) w.agenda-is ∙ inv.agenda ∙ ap dues (sym (w.moments-is ∙ ap (slice_set moments i) (c.in_ok-take_turn.ensures.kept is) ∙ set-get_or moments i d));
          }
      | in-Moves+in_ok-take-in-Moves w ↦
          let is = w.in-Moves.is in
          let on : CanGoOn field = subst CanGoOn (sym is) tt in
          let entry : Record = record { component = i; stamp = t + 1; kind = w.in-Moves.kind; bag = c.take_turn.new.bag; words = c.take_turn.new.words.items } in
          let same : told ++ entries what ≡ told ++ entry ∷ [] = ap (λ f. told ++ entries (part_of i (t + 1) c.take_turn.new.bag c.take_turn.new.words.items f)) is in
          let at = c.transition-at.ensures ∙ transition_of t c.requires.even in
          let is_now : c.now.inside.due ≡ new.due = ap (λ x. x.due) c.now.view_is in
          record {
            told = told ++ entry ∷ [];
            received = subst (λ r. Receives g.R.Receiver.takes c.args.receiver.now (told ++ entry ∷ []) r) (sym w.receiver-is)
                (received_more g.R.Receiver.takes c.args.receiver.now told c.loop-component.receiver w.take.new.self entry inv.received
                (subst (λ e. g.R.Receiver.takes c.loop-component.receiver e w.take.new.self)
                (λ n. record { component = i; stamp = at n; kind = w.in-Moves.kind; bag = c.take_turn.new.bag; words = w.deref.ensures.value n })
                w.in_ok-take-in-Moves.ensures));
            swept = subst (λ ms. Swept valid meaning contents t old bags0 [] (onward items (k + 1)) ms (slice_set bags i c.clear.new.self) (told ++ entry ∷ [])) (sym w.moments-is)
                (subst (Swept valid meaning contents t old bags0 [] (onward items (k + 1)) (slice_set moments i new) (slice_set bags i c.clear.new.self)) same (step on));
            agenda = ap (λ a. a.times) w.agenda-is ∙ w.set.ensures ∙ (λ n. slice_set (inv.agenda n) i (is_now n)) ∙ sym (dues_set moments i new) ∙ ap dues (sym w.moments-is);
          }
    ]

-- all have taken their turns
final : (g : _) (c : After-loop-component g) → Swept g.M.Atomic.valid g.M.Atomic.meaning c.args.round.now.network.now c.args.round.now.time c.args.moments.now c.as_mut_slice-bags.result.now [] (length c.args.moments.now) c.loop-component.moments c.loop-component.bags c.loop-component.invariant.told
final g c =
    at_end g.M.Atomic.valid g.M.Atomic.meaning c.args.round.now.network.now c.args.round.now.time c.args.moments.now c.as_mut_slice-bags.result.now [] c.loop-component.moments c.loop-component.bags c.loop-component.invariant.told c.deref-component-items.result.now
    (listed_as c.args.round.now.time c.args.moments.now _ _ _ _ c.as_mut_slice-bags.ensures.value c.deref-component-items.ensures.value c.requires.awake)
    c.loop-component.auto.moments c.loop-component.auto.bags (ap length c.as_mut_slice-bags.ensures.value ∙ c.requires.bags ∙ sym c.requires.moments.size)
    c.requires.moments c.requires.even c.requires.time c.loop-component.component-index c.loop-component-test.false c.loop-component.auto.component-index-end c.loop-component.invariant.swept

pub returns-clause-stop : goal.returns-clause-stop
returns-clause-stop g c =
    let net = network_of g.M.Atomic.meaning c.args.round.now.network.now in
    let old = c.args.moments.now in
    let n = length old in
    let bags0 = c.as_mut_slice-bags.result.now in
    sym (ap (λ ms. first_stop n (turns_with net c.args.round.now.time n ms (drop n bags0))) (drop_all n old (omega arith)))
    ∙ (final g (goal.at.returns-clause-stop g c).After-loop-component).stop
    ∙ ap (λ bs. first_stop 0 (turns_with net c.args.round.now.time 0 old bs)) c.as_mut_slice-bags.ensures.value

pub returns-clause-received : goal.returns-clause-received
returns-clause-received g c none =
    let net = network_of g.M.Atomic.meaning c.args.round.now.network.now in
    let old = c.args.moments.now in
    let n = length old in
    let bags0 = c.as_mut_slice-bags.result.now in
    let told = c.loop-component.invariant.told in
    subst (λ rs. Receives g.R.Receiver.takes c.args.receiver.now rs c.loop-component.receiver)
    (sym (append-nil told)
    ∙ sym (ap (λ ms. told ++ turn_records (turns_with net c.args.round.now.time n ms (drop n bags0))) (drop_all n old (omega arith)))
    ∙ (final g (goal.at.returns-clause-received g c).After-loop-component).recorded
    ∙ ap (λ bs. turn_records (turns_with net c.args.round.now.time 0 old bs)) c.as_mut_slice-bags.ensures.value)
    c.loop-component.invariant.received

pub returns-clause-moments : goal.returns-clause-moments
returns-clause-moments g c _ =
    let net = network_of g.M.Atomic.meaning c.args.round.now.network.now in
    let old = c.args.moments.now in
    let n = length old in
    let bags0 = c.as_mut_slice-bags.result.now in
    let moments = c.loop-component.moments in
    let size = c.loop-component.auto.moments in
    sym (append-nil moments)
    ∙ ap (λ ms. ms ++ []) (sym (take_all n moments (omega (arith, size))))
    ∙ sym (ap (λ ms. take n moments ++ turned_moments ms (turns_with net c.args.round.now.time n ms (drop n bags0))) (drop_all n old (omega arith)))
    ∙ (final g (goal.at.returns-clause-moments g c).After-loop-component).moved
    ∙ ap (λ bs. turned_moments old (turns_with net c.args.round.now.time 0 old bs)) c.as_mut_slice-bags.ensures.value

pub returns-clause-standing : goal.returns-clause-standing
returns-clause-standing g c _ =
    let all = final g (goal.at.returns-clause-standing g c).After-loop-component in
    let size = c.loop-component.auto.moments in
    record {
      size = c.loop-component.auto.moments ∙ c.requires.moments.size;
      each = λ d model now found e. all.standing d model now (let l = slice_get_within c.loop-component.moments d now e in omega (arith, l, size)) found e;
    }

pub returns-clause-bags : goal.returns-clause-bags
returns-clause-bags g c _ =
    let all = final g (goal.at.returns-clause-bags g c).After-loop-component in
    let bags = c.loop-component.bags in
    let size = c.loop-component.auto.bags in
    let whole : length c.as_mut_slice-bags.result.now ≡ length c.args.moments.now = ap length c.as_mut_slice-bags.ensures.value ∙ c.requires.bags ∙ sym c.requires.moments.size in
    all_written c.args.bench.now.arrivals.bags bags (size ∙ ap length c.as_mut_slice-bags.ensures.value)
    ∙ all_empty bags (λ d bag e. all.empty d bag (let l = slice_get_within bags d bag e in omega (arith, l, size, whole)) e)
    ∙ ap (λ n. replicate n []) (size ∙ ap length c.as_mut_slice-bags.ensures.value ∙ c.requires.bags)

-- a call that failed
pub returns-in_err-take_turn-clause-stop : goal.returns-in_err-take_turn-clause-stop
returns-in_err-take_turn-clause-stop g c = IfOk-from_err _ _ c.from_residual.ensures.0

pub returns-in_err-take_turn-clause-received : goal.returns-in_err-take_turn-clause-received
returns-in_err-take_turn-clause-received g c = IfOk-from_err _ _ c.from_residual.ensures.0

pub returns-in_err-take_turn-clause-moments : goal.returns-in_err-take_turn-clause-moments
returns-in_err-take_turn-clause-moments g c = IfOk-from_err _ _ c.from_residual.ensures.0

pub returns-in_err-take_turn-clause-standing : goal.returns-in_err-take_turn-clause-standing
returns-in_err-take_turn-clause-standing g c = IfOk-from_err _ _ c.from_residual.ensures.0

pub returns-in_err-take_turn-clause-bags : goal.returns-in_err-take_turn-clause-bags
returns-in_err-take_turn-clause-bags g c = IfOk-from_err _ _ c.from_residual.ensures.0

pub returns-in_err-take_turn-clause-agenda : goal.returns-in_err-take_turn-clause-agenda
returns-in_err-take_turn-clause-agenda g c = IfOk-from_err _ _ c.from_residual.ensures.0

pub returns-in_err-take-in-Moves-clause-stop : goal.returns-in_err-take-in-Moves-clause-stop
returns-in_err-take-in-Moves-clause-stop g c = IfOk-from_err _ _ c.from_residual-in_err-take-in-Moves.ensures.0

pub returns-in_err-take-in-Moves-clause-received : goal.returns-in_err-take-in-Moves-clause-received
returns-in_err-take-in-Moves-clause-received g c = IfOk-from_err _ _ c.from_residual-in_err-take-in-Moves.ensures.0

pub returns-in_err-take-in-Moves-clause-moments : goal.returns-in_err-take-in-Moves-clause-moments
returns-in_err-take-in-Moves-clause-moments g c = IfOk-from_err _ _ c.from_residual-in_err-take-in-Moves.ensures.0

pub returns-in_err-take-in-Moves-clause-standing : goal.returns-in_err-take-in-Moves-clause-standing
returns-in_err-take-in-Moves-clause-standing g c = IfOk-from_err _ _ c.from_residual-in_err-take-in-Moves.ensures.0

pub returns-in_err-take-in-Moves-clause-bags : goal.returns-in_err-take-in-Moves-clause-bags
returns-in_err-take-in-Moves-clause-bags g c = IfOk-from_err _ _ c.from_residual-in_err-take-in-Moves.ensures.0

pub returns-in_err-take-in-Moves-clause-agenda : goal.returns-in_err-take-in-Moves-clause-agenda
returns-in_err-take-in-Moves-clause-agenda g c = IfOk-from_err _ _ c.from_residual-in_err-take-in-Moves.ensures.0

-- nothing more is said where a limit was met
pub returns-in-Stops-clause-received : goal.returns-in-Stops-clause-received
returns-in-Stops-clause-received g c some = absurd (none-some _ (sym some))

pub returns-in-Stops-clause-moments : goal.returns-in-Stops-clause-moments
returns-in-Stops-clause-moments g c some = absurd (none-some _ (sym some))

pub returns-in-Stops-clause-standing : goal.returns-in-Stops-clause-standing
returns-in-Stops-clause-standing g c some = absurd (none-some _ (sym some))

pub returns-in-Stops-clause-bags : goal.returns-in-Stops-clause-bags
returns-in-Stops-clause-bags g c some = absurd (none-some _ (sym some))

pub returns-in-Stops-clause-agenda : goal.returns-in-Stops-clause-agenda
returns-in-Stops-clause-agenda g c some = absurd (none-some _ (sym some))

pub take_turn-requires-clause-time : goal.take_turn-requires-clause-time
take_turn-requires-clause-time g c = c.requires.time

pub take_turn-requires-clause-even : goal.take_turn-requires-clause-even
take_turn-requires-clause-even g c = c.requires.even

pub returns-clause-agenda : goal.returns-clause-agenda
returns-clause-agenda g c _ = c.loop-component.invariant.agenda

pub offset_bounds-bags-component : goal.offset_bounds-bags-component
offset_bounds-bags-component g c = let within = bag_within g (goal.at.offset_bounds-bags-component g c).In-loop-component in omega (arith, within)

pub offset_bounds-moments-component : goal.offset_bounds-moments-component
offset_bounds-moments-component g c = record { fits = offset_small _ _ _ (here_within g (goal.at.offset_bounds-moments-component g c).In-loop-component) c.well_formed.1.1.0.1 }
