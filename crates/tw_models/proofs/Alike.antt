-- Models of one meaning take back alike: the start state tells the kind, and models of one kind take back alike, whatever their parameters.
use Rattle.std.specs.Prelude.{◌≡◌, pos, refl}
use Rattle.std.proofs.Common.{ap, sym, ◌∙◌}
use Rattle.tw_atomic.specs.Atomic.{Meaning}
use Rattle.tw_models.specs.Model.{model_meaning, model_undone}
use Rattle.tw_models.specs.declared.model.Model.{Model}
use Rattle.tw_models.specs.declared.model.Model.TheVariants.{Gen, Tally, Relay, Queue, Hop}
use Rattle.tw_models.specs.declared.model.State.{State}
use Rattle.tw_models.specs.declared.model.State.TheVariants.{OfGen, OfTally, OfRelay, OfQueue, OfHop}

-- a model of the kind that has such a state
of_kind : State → Model
of_kind (OfGen s) = Gen (record { period = 1; value = pos 0 })
of_kind (OfTally s) = Tally
of_kind (OfRelay s) = Relay (record { delay = 0 })
of_kind (OfQueue s) = Queue (record { service = 0 })
of_kind (OfHop s) = Hop (record { seed = 0; ports = 1; spread = 1 })

by_kind : (m : Model) → model_undone m ≡ model_undone (of_kind (model_meaning m).start)
unfolding of_kind
by_kind (Gen g) = refl
by_kind Tally = refl
by_kind (Relay r) = refl
by_kind (Queue q) = refl
by_kind (Hop h) = refl

pub take_back_alike : (m n : Model) → model_meaning m ≡ model_meaning n → model_undone m ≡ model_undone n
take_back_alike m n same = by_kind m ∙ ap (λ (x : Meaning State). model_undone (of_kind x.start)) same ∙ sym (by_kind n)
