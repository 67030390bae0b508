-- The code's parts are the definition's.
use Rattle.std.proofs.Common.{◌≡◌, ◌+◌, ◌<◌, ◌==◌, ◌∙◌, ◌++◌, [], ap, sym, refl, subst, arith, false}
use Rattle.std.specs.Prelude.{IsOk, ◌≢◌}
use Rattle.std.proofs.lemmas.Bool.{eq-eqb}
use Rattle.std.proofs.lemmas.Option.{same_Some}
use Rattle.tw_atomic.specs.Atomic.{FitsBag, IsSorted}
use Rattle.tw_msgs.proofs.Bags.{sorted_bag-sorted}
use Rattle.tw_msgs.specs.Bags.{sorted_bag}
use Rattle.tw_network.specs.Contents.{network_of}
use Rattle.tw_rounds.specs.Invariant.{IsBetween}
use Rattle.tw_rounds.specs.Turning.{past_output}
use Rattle.tw_step.specs.Steps.{CanMove, IsPassedAs}
use Rattle.tw_theory.specs.Simulator.{Moves, take_turn, after_output}
use Rattle.tw_vtime.specs.Stamps.{never}
use Rattle.tw_rounds.proofs.SortedBags.{sorted_bag-FitsBag}
use Rattle.tw_rounds.proofs.Between.{stays_between}
use Rattle.tw_rounds.proofs.RoundOutputs.{transition_of}
use Rattle.tw_rounds.proofs.TurnsMade.{can_move, moves_turn, passed_between, past_idle, past_last, stays_turn, stops_turn}
use Rattle.tw_rounds.proofs.turns.take_turn.Given.{Over}
use Rattle.tw_rounds.proofs.turns.take_turn.Goals.{After-micro_limit, in-Ok+in_ok-words-in-Ok, in-Err}
use Rattle.tw_rounds.proofs.turns.take_turn.Goals as goal

pub returns-then-not-has_turn-clause-standing : goal.returns-then-not-has_turn-clause-standing
returns-then-not-has_turn-clause-standing g c u model found =
    let t = c.args.round.now.time in
    let now = c.args.now.now in
    let valid = g.M.Atomic.valid model in
    let meaning = g.M.Atomic.meaning model in
    let idle : (now.due == t) ≡ false = sym c.pass_output-imminent.ensures.imminent ∙ (c.if-not-has_turn.ensures.none refl).0 in
    let same = c.pass_output-imminent.ensures.now ∙ past_idle t now idle in
    subst (IsBetween valid meaning (t + 2)) (sym same)
    (stays_between valid meaning t now (c.requires.standing model found) (λ e. let b = eq-eqb now.due t e in cc (sym idle ∙ b)) c.requires.even c.requires.time)

-- the parts of the turn, in the definition's words
module _ (g : Over) (c : After-micro_limit g) where
  stamp_is : c.transition-at.result ≡ c.args.round.now.time + 1
  stamp_is = c.transition-at.ensures ∙ transition_of c.args.round.now.time c.requires.even

  some : (c.args.now.now.due == c.args.round.now.time) ≡ false → c.sort.new.self ≢ []
  some e none =
      let reached = c.if-not-has_turn.ensures.some refl (c.pass_output-imminent.ensures.imminent ∙ e) in
      cc (sym (c.is_empty.ensures.1 none) ∙ reached)

  stands : IsBetween (g.M.Atomic.valid c.model-model.result.now) (g.M.Atomic.meaning c.model-model.result.now) c.args.round.now.time c.args.now.now
  stands = c.requires.standing c.model-model.result.now c.model-model.ensures

pub pass_turn-requires-clause-last : goal.pass_turn-requires-clause-last
pass_turn-requires-clause-last g c =
    let at = (goal.at.pass_turn-requires-clause-last g c).After-micro_limit in
    let last = (stands g at).stands.last_is in
    let same = past_last c.args.round.now.time c.args.now.now in
    subst (λ m. m.last < never) (sym c.pass_output-imminent.ensures.now) (omega (arith, last, same))

pub pass_turn-requires-clause-can_move : goal.pass_turn-requires-clause-can_move
pass_turn-requires-clause-can_move g c =
    let at = (goal.at.pass_turn-requires-clause-can_move g c).After-micro_limit in
    let valid = g.M.Atomic.valid c.model-model.result.now in
    let meaning = g.M.Atomic.meaning c.model-model.result.now in
    let sorted = subst IsSorted (sym c.sort.ensures.sorted) (sorted_bag-sorted c.args.bag.now) in
    let fits = subst FitsBag (sym c.sort.ensures.sorted) (sorted_bag-FitsBag c.args.bag.now c.requires.fits) in
    subst (λ (x : Type 0). x) (λ i. CanMove valid meaning (sym c.pass_output-imminent.ensures.now i) (sym (stamp_is g at) i) (sym c.as_slice.ensures i))
    (can_move valid meaning c.args.round.now.time c.args.now.now (stands g at) c.requires.even c.requires.time c.sort.new.self (some g at) sorted fits)

pub returns-clause-turn : goal.returns-clause-turn
returns-clause-turn g c =
    let at = (goal.at.returns-clause-turn g c).After-micro_limit in
    let mean = g.M.Atomic.meaning in
    let model = c.model-model.result.now in
    let contents = c.args.round.now.network.now in
    let net = network_of mean contents in
    let k = c.args.component in
    let t = c.args.round.now.time in
    let now = c.args.now.now in
    let bag = c.sort.new.self in
    let after = c.pass_turn.new.now in
    let passed = subst (λ (x : Type 0). x) (λ i. IsPassedAs (mean model) (c.micro_limit.ensures i) (c.pass_output-imminent.ensures.now i) (stamp_is g at i) (c.as_slice.ensures i) after c.in_ok-kind.field-0) c.in_ok-kind.ensures.passed in
    let sorted = ap (take_turn net k (after_output net k now t) (t + 1) (now.due == t)) c.sort.ensures.sorted in
    elim c.match-branch-2.branch [
      | in-Ok+in_ok-words-in-Ok w ↦
          let told = w.in_ok-words-in-Ok.ensures.ok ∙ ap (λ l. l ++ (mean model).words c.now.inside.state) w.clear.ensures.items ∙ ap (λ m. (mean model).words m.state) c.now.view_is in
          rw (w.result-is, w.words-is)
          ((λ i. Moves (record { entry = record { component = k; stamp = t + 1; kind = w.in-Ok.kind; bag = bag; words = told i }; after = after }))
          ∙ moves_turn mean contents k t model now bag c.model-model.ensures (some g at) after w.in-Ok.kind (subst (IsPassedAs (mean model) contents.micro_limit (past_output t now) (t + 1) bag after) w.in-Ok.is passed)
          ∙ sorted)
      | in-Err w ↦
          rw w.result-is
          (stops_turn mean contents k t model now bag c.model-model.ensures (some g at) after w.in-Err.limit (subst (IsPassedAs (mean model) contents.micro_limit (past_output t now) (t + 1) bag after) w.in-Err.is passed)
          ∙ sorted)
    ]

pub returns-then-not-has_turn-clause-turn : goal.returns-then-not-has_turn-clause-turn
returns-then-not-has_turn-clause-turn g c =
    let net = network_of g.M.Atomic.meaning c.args.round.now.network.now in
    let k = c.args.component in
    let t = c.args.round.now.time in
    let now = c.args.now.now in
    let none = c.if-not-has_turn.ensures.none refl in
    sym (stays_turn net k (t + 1) (after_output net k now t) (now.due == t) (sorted_bag c.args.bag.now) (sym c.pass_output-imminent.ensures.imminent ∙ none.0) (sym c.sort.ensures.sorted ∙ c.is_empty.ensures.0 none.1))

pub returns-clause-standing : goal.returns-clause-standing
returns-clause-standing g c =
    let at = (goal.at.returns-clause-standing g c).After-micro_limit in
    let valid = g.M.Atomic.valid in
    let mean = g.M.Atomic.meaning in
    let model = c.model-model.result.now in
    let contents = c.args.round.now.network.now in
    let t = c.args.round.now.time in
    let now = c.args.now.now in
    let bag = c.sort.new.self in
    let after = c.pass_turn.new.now in
    let passed = subst (λ (x : Type 0). x) (λ i. IsPassedAs (mean model) (c.micro_limit.ensures i) (c.pass_output-imminent.ensures.now i) (stamp_is g at i) (c.as_slice.ensures i) after c.in_ok-kind.field-0) c.in_ok-kind.ensures.passed in
    elim c.match-branch-2.branch [
      | in-Ok+in_ok-words-in-Ok w ↦
          let moved = subst (IsPassedAs (mean model) contents.micro_limit (past_output t now) (t + 1) bag after) w.in-Ok.is passed in
          rw w.result-is (λ _ other found. subst (λ m. IsBetween (valid m) (mean m) (t + 2) after) (same_Some model other (sym c.model-model.ensures ∙ found))
          (passed_between (valid model) (mean model) t now (stands g at) c.requires.even c.requires.time contents.micro_limit bag after c.facts.ensures.microsteps moved.0 (c.in_ok-kind.ensures.valid (subst IsOk (sym w.in-Ok.is) refl))))
      | in-Err w ↦ rw w.result-is (λ stops. absurd stops)
    ]
