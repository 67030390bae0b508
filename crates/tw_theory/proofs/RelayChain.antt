-- The chain's steps, and what is made of it, by computing them.
use Rattle.std.proofs.Common.{refl, sym, ap, ◌≡◌, Some, arith, inr, subst}
use Rattle.std.specs.Prelude.{slice_get, ◌++◌, [], ◌∷◌, pos}
use Rattle.tw_vtime.specs.Stamps.{stamp}
use Rattle.tw_theory.specs.Contents.{back_to_first}
use Rattle.tw_theory.specs.ExampleChains.{ChainOfRelay, eight, holding, from_start, step, relayed, relay_after, generates}
use Rattle.tw_theory.specs.ExampleModels.{State, relay}
use Rattle.tw_theory.specs.ExampleTraces.{ext, int, item}
use Rattle.tw_theory.specs.Executive.{act, Step as StepAction, Deliver}
use Rattle.tw_theory.specs.Installing.{IsFresh}
use Rattle.tw_theory.specs.LocalRun.{Step, step_at, local_step}
use Rattle.tw_theory.specs.Transitions.{start_moment, output, moved, transition}

first_stamp_is : (x : Step State) → slice_get relayed.steps 0 ≡ Some x → stamp 4 0 1 ≡ x.entry.stamp
first_stamp_is x e = let same : step (ext 4 0 1 (item 8) (pos 0 ∷ pos 8 ∷ [])) (start_moment (relay 2)) (eight ∷ []) ≡ x = cc e in ap (λ (y : Step State). y.entry.stamp) same

pub chain_of_relay : ChainOfRelay
unfolding act local_step step_at output moved transition back_to_first
chain_of_relay = record {
  run = record { leads = (_, refl, refl, (_, refl, refl, (_, refl, refl, (refl, refl)))); within = omega arith; before = (omega arith, (omega arith, (omega arith, tt))) };
  ends = inr (omega arith);
  fresh = record {
    within = omega arith;
    takes = (
      record { begins = λ z. refl; agrees = record { stamp = refl; bag = λ odd. refl } },
      (
        _,
        refl,
        (
          record { begins = λ z. absurd (omega (arith, z)); agrees = record { stamp = refl; bag = λ odd. absurd (omega (arith, odd)) } },
          (
            _,
            refl,
            (
              record { begins = λ z. absurd (omega (arith, z)); agrees = record { stamp = refl; bag = λ odd. refl } },
              (_, refl, refl),
            ),
          ),
        ),
      ),
    );
    all = λ e. refl;
    stops = λ step e. absurd (cc e);
  };
  other_bag = record {
    within = omega arith;
    takes = (
      record { begins = λ z. refl; agrees = record { stamp = refl; bag = λ odd. refl } },
      (
        _,
        refl,
        (
          record { begins = λ z. absurd (omega (arith, z)); agrees = record { stamp = refl; bag = λ odd. absurd (omega (arith, odd)) } },
          (_, refl, refl),
        ),
      ),
    );
    all = λ e. absurd (omega (arith, e));
    stops = λ x e fresh.
        let same : step (int 6 0 1 (pos 0 ∷ [])) (holding (stamp 4 0 0) (stamp 6 0 1)) [] ≡ x = cc e in
        let third = subst (λ (y : Step State). IsFresh from_start 2 (relay_after (generates ++ Deliver 1 1 ∷ StepAction 1 ∷ StepAction 1 ∷ [])) y) (sym same) fresh in
        let bag : (0, pos 5) ∷ [] ≡ [] = third.agrees.bag refl in
        absurd (cc bag);
  };
  overtaken = record {
    within = omega arith;
    takes = refl;
    all = λ e. absurd (omega (arith, e));
    stops = λ x e fresh.
        let same : stamp 4 0 1 ≡ x.entry.stamp = first_stamp_is x e in
        let stamps : stamp 3 0 1 ≡ x.entry.stamp = fresh.agrees.stamp in
        absurd (omega (arith, same, stamps));
  };
  moved = record {
    within = omega arith;
    takes = refl;
    all = λ e. absurd (omega (arith, e));
    stops = λ x e fresh.
        let same : stamp 4 0 1 ≡ x.entry.stamp = first_stamp_is x e in
        let stamps : stamp 6 0 0 ≡ x.entry.stamp = fresh.agrees.stamp in
        absurd (omega (arith, same, stamps));
  };
}
