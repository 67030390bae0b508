-- The steps of a chain on lists, one more at the end.
use Rattle.std.proofs.Common.{◌≡◌, ℕ, List, [], ◌∷◌, ◌++◌, length, refl, ap}
use Rattle.tw_step.specs.declared.step.Step.{Step as KeptStep}
use Rattle.tw_lists.specs.Lists.{Lists, with_room}
use Rattle.tw_actions.specs.declared.chain.Stop.{Stop}
use Rattle.tw_actions.specs.declared.chain.Stop.TheVariants.{Ended, Stale, OutOfMemory, Full}
use Rattle.tw_theory.specs.Chains.{sent_at}
use Rattle.tw_theory.specs.Contents.{Cancel}
use Rattle.tw_theory.specs.Network.{Network}
use Rattle.tw_process.specs.Installing.{after_record, after_steps, IsNext, AreNext, WhyNot, sent_counts}

module _ {S R : Type 0} (net : Network S) (c : ℕ) (way : Cancel) where
  pub after-push : (es : List (KeptStep S R)) (e : KeptStep S R) (lists : Lists) → after_steps net c way (es ++ e ∷ []) lists ≡ after_record net c way e.done (after_steps net c way es lists)
  after-push [] e lists = refl
  after-push (x ∷ es) e lists = after-push es e (after_record net c way x.done lists)

  pub next-push : (es : List (KeptStep S R)) (e : KeptStep S R) (lists : Lists) → AreNext net c way es lists → IsNext e (after_steps net c way es lists) → AreNext net c way (es ++ e ∷ []) lists
  next-push [] e lists are is = (is, tt)
  next-push (x ∷ es) e lists are is = (are.0, next-push es e (after_record net c way x.done lists) are.1 is)

pub counts-push : {S R : Type 0} (net : Network S) (c : ℕ) (es : List (KeptStep S R)) (e : KeptStep S R) → sent_counts net c (es ++ e ∷ []) ≡ sent_counts net c es ++ length (sent_at net c e.done) ∷ []
counts-push net c [] e = refl
counts-push net c (x ∷ es) e = ap (λ l. length (sent_at net c x.done) ∷ l) (counts-push net c es e)

-- with other room it is not made for the same reason
pub why-room : {S R : Type 0} (net : Network S) (c : ℕ) (way : Cancel) (e : KeptStep S R) (lists : Lists) (room spare : ℕ) (stop : Stop) → WhyNot net c way e lists stop → WhyNot net c way e (with_room room spare lists) stop
why-room net c way e lists room spare (Ended cause) h = h
why-room net c way e lists room spare Stale h = h
why-room net c way e lists room spare OutOfMemory h = h
why-room net c way e lists room spare Full h = h
