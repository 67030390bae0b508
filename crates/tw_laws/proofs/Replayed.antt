-- Lists of actions of which some are left undone, and the board.
use Rattle.std.proofs.Common.{◌≡◌, ℕ, ◌+◌, ◌≤◌, inl, inr, List, [], ◌∷◌, ◌++◌, refl, sym, ap, ◌∙◌, subst, arith, ⊎_elim, max}
use Rattle.tw_msgs.specs.Counting.{total}
use Rattle.tw_theory.specs.Board.{Numbers, AtMost, posted_after, IsBoard}
use Rattle.tw_theory.specs.Executive.{World, Action, act, replay, answers}
use Rattle.tw_theory.specs.Memory.{TakesMemory, TakenOf, one_if_taken}
use Rattle.tw_theory.specs.Network.{Network}
use Rattle.tw_theory.specs.Soundness.{IsSound}
use Rattle.tw_theory.proofs.Board.{at_most_trans}
use Rattle.tw_laws.specs.Board.{BoardLaw}
use Rattle.tw_laws.specs.Committed.{HasCommitted, Grow}
use Rattle.tw_laws.specs.Memory.{ReplayLaw}
use Rattle.tw_laws.proofs.Growing.{replay_grows, count_grows}
use Rattle.tw_laws.proofs.Harvesting.{replay_sound, committed_law}
use Rattle.tw_laws.proofs.Lines.{gvt_rises_by}

-- ---- one action more

taken_more : (taken actions : List Action) (action : Action) → TakenOf taken actions → TakenOf (taken ++ action ∷ []) (actions ++ action ∷ [])
taken_more [] [] action h = inl (refl, tt)
taken_more [] (x ∷ actions) action h = inr (h.0, taken_more [] actions action h.1)
taken_more (y ∷ taken) [] action h = absurd h
taken_more (y ∷ taken) (x ∷ actions) action h = ⊎_elim (λ k. inl (k.0, taken_more taken actions action k.1)) (λ k. inr (k.0, taken_more (y ∷ taken) actions action k.1)) h

left_more : (taken actions : List Action) (action : Action) → TakesMemory action → TakenOf taken actions → TakenOf taken (actions ++ action ∷ [])
left_more [] [] action m h = (m, tt)
left_more [] (x ∷ actions) action m h = (h.0, left_more [] actions action m h.1)
left_more (y ∷ taken) [] action m h = absurd h
left_more (y ∷ taken) (x ∷ actions) action m h = ⊎_elim (λ k. inl (k.0, left_more taken actions action m k.1)) (λ k. inr (k.0, left_more (y ∷ taken) actions action m k.1)) h

module _ {S : Type 0} (net : Network S) (until : ℕ) where
  replay_more : (w : World S) (taken : List Action) (action : Action) → replay net until w (taken ++ action ∷ []) ≡ (act net until (replay net until w taken) action).1
  replay_more w [] action = refl
  replay_more w (x ∷ taken) action = replay_more (act net until w x).1 taken action

  count_more : (w : World S) (taken : List Action) (action : Action)
      → total one_if_taken (answers net until w (taken ++ action ∷ [])) ≡ total one_if_taken (answers net until w taken) + one_if_taken (act net until (replay net until w taken) action).0
  count_more w [] action = omega arith
  count_more w (x ∷ taken) action = omega (arith, count_more (act net until w x).1 taken action)

pub replay_law : {S : Type 0} → ReplayLaw S
replay_law {S} = record {
  none = λ net until w. record { taken = []; are = tt; world = refl; number = refl };
  taken = λ net until w actions n w' action h. record {
    taken = h.taken ++ action ∷ [];
    are = taken_more h.taken actions action h.are;
    world = ap (λ (x : World S). (act net until x action).1) h.world ∙ sym (replay_more net until w h.taken action);
    number = (let one = ap (λ (x : World S). one_if_taken (act net until x action).0) h.world in omega (arith, one, h.number, count_more net until w h.taken action));
  };
  left_out = λ net until w actions n w' action h m. record { taken = h.taken; are = left_more h.taken actions action m h.are; world = h.world; number = h.number };
  sound = λ net until w actions n w' ok bound sound h.
      subst (λ (x : World S). IsSound net until x × (w.gvt ≤ x.gvt) × Grow w.columns x.columns) (sym h.world)
      (replay_sound net until w h.taken ok bound sound, gvt_rises_by net until w ok bound sound h.taken, replay_grows net until w h.taken);
  committed = λ net cancel until actions n w' ok bound h. subst (HasCommitted net until) (sym h.world) (committed_law net cancel until h.taken ok bound);
}

-- ---- the board

posted_is : (a b : Numbers) → AtMost a b → posted_after a b ≡ b
posted_is (a, b) (c, d) h = let h0 = h.0 in let h1 = h.1 in let x : max a c ≡ c = omega (arith, h0) in let y : max b d ≡ d = omega (arith, h1) in λ i. (x i, y i)

posted_rises : (a b : Numbers) → AtMost a (posted_after a b)
posted_rises (a, b) (c, d) = (omega arith, omega arith)

board_stays : (a b : Numbers) (seen : List Numbers) → IsBoard a seen → IsBoard (posted_after a b) seen
board_stays a b [] h = tt
board_stays a b (x ∷ seen) h = (at_most_trans x a (posted_after a b) h.0 (posted_rises a b), board_stays a b seen h.1)

pub board_law : {S : Type 0} → BoardLaw S
board_law = record {
  rises = λ net until w actions ok bound h. (gvt_rises_by net until w ok bound h actions, count_grows w.columns (replay net until w actions).columns (replay_grows net until w actions));
  nothing = λ w. (omega arith, omega arith);
  posts = λ w posted h. posted_is posted _ h;
  keeps = λ posted numbers seen h. (posted_rises posted numbers, board_stays posted numbers seen h);
  sees = λ w posted before now h is. at_most_trans now posted _ is.within h;
  meets = λ w posted before now h is. is.is ∙ posted_is posted _ h;
}
