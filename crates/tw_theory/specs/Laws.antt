-- Laws of the definitions themselves: what follows from them alone, for every network and every process.
use Rattle.std.specs.Prelude.{ℕ, ◌≤◌, ◌≡◌, min, List, [], ◌∷◌, ◌++◌, take, drop, Ok}
use Rattle.tw_msgs.specs.declared.message.Message.{Message}
use Rattle.tw_theory.specs.Balance.{Balance, BalancesAt}
use Rattle.tw_theory.specs.Bundles.{positives, antis, sent_anew, still_owed, least_stamp}
use Rattle.tw_theory.specs.Contents.{Process, Aggressive, Lazy, next, inputs, with_step, with_lists, with_outgoing, undo_last, before_all, consumed_by, unsent_by, back_to_first, cut, settle}
use Rattle.tw_theory.specs.Executive.{World, least_next}
use Rattle.tw_theory.specs.LocalRun.{Made, local_step}
use Rattle.tw_theory.specs.Network.{Network}
use Rattle.tw_theory.specs.Soundness.{AllBefore}

-- A step and its undoing leave the contents as they were, but for two lists
pub record UndoLaw (S : Type 0) : Type 0 where
  -- behind the old outgoing list stand the positives that were sent, and then their anti-messages
  pub aggressive : (net : Network S) (c : ℕ) (p : Process S) (made : Made S) → local_step net c p.now p.pending ≡ Ok made → p.cancel ≡ Aggressive
      → undo_last (with_step p made) ≡ with_outgoing p ((p.outgoing ++ positives made.step.sent) ++ antis made.step.sent)
  -- behind the old outgoing list stand the positives that were sent; what is owed is what was still owed after the step, and then all its messages
  pub lazy : (net : Network S) (c : ℕ) (p : Process S) (made : Made S) → local_step net c p.now p.pending ≡ Ok made → p.cancel ≡ Lazy
      → undo_last (with_step p made) ≡ with_lists p (p.outgoing ++ positives (sent_anew p.owed made.step.sent)) (still_owed p.owed made.step.sent ++ made.step.sent)

-- How cuts compose, and what they keep
pub record CutLaw (S : Type 0) : Type 0 where
  -- a cut at a stamp after every step changes nothing
  pub after_all : (s : ℕ) (p : Process S) → AllBefore s p.history → cut s p ≡ p
  -- two cuts are the cut at the lesser stamp
  pub twice : (s t : ℕ) (p : Process S) → cut s (cut t p) ≡ cut (min s t) p
  -- steps taken back in two goes
  pub in_two_goes : (k n : ℕ) (p : Process S) → k ≤ n → back_to_first k (back_to_first n p) ≡ back_to_first k p
  -- no message is lost or doubled
  pub inputs_stay : (s : ℕ) (p : Process S) → inputs (cut s p) ≡ inputs p

-- Where anti-messages are made at once, every definition is what it would be if nothing could be owed
pub record AggressiveLaw (S : Type 0) : Type 0 where
  -- a step sends all its messages, whatever is owed
  pub step : (p : Process S) (made : Made S) → p.cancel ≡ Aggressive
      → with_step p made ≡ record p { now = made.after; pending = made.left; history = p.history ++ made.step ∷ []; outgoing = p.outgoing ++ positives made.step.sent }
  -- steps taken back make their anti-messages, whatever is owed
  pub back : (n : ℕ) (p : Process S) → p.cancel ≡ Aggressive
      → back_to_first n p
      ≡ record p { now = before_all (drop n p.history) p.now; pending = consumed_by (drop n p.history) ++ p.pending; history = take n p.history; outgoing = p.outgoing ++ antis (unsent_by (drop n p.history)) }
  -- a post makes none, whatever is owed
  pub post : (p : Process S) → p.cancel ≡ Aggressive → settle p ≡ p
  -- and where nothing is owed, the least stamp is that of what is next and outgoing
  pub least : (p : Process S) (ps : List (Process S)) → p.owed ≡ [] → least_next (p ∷ ps) ≡ min (min (next p) (least_stamp p.outgoing)) (least_next ps)

-- What balances for every weight balances for each message
abbrev pub BalanceLaw : Type 0 → Type 0
BalanceLaw S = (net : Network S) (w : World S) → Balance net w → (m : Message) → BalancesAt net w m
