-- What messages carry fits, and so do the bags that they make.
use Rattle.std.proofs.Common.{◌≡◌, ℕ, ℤ, zero, suc, ◌+◌, ◌<◌, ◌==◌, List, [], ◌∷◌, ◌++◌, Some, replicate, slice_get, refl, subst, arith}
use Rattle.std.specs.List.{AllByRecursion as Each}
use Rattle.std.proofs.lemmas.Bool.{cond_both}
use Rattle.tw_atomic.specs.Atomic.{FitsItem, FitsBag}
use Rattle.tw_msgs.specs.Bags.{Bag}
use Rattle.tw_msgs.specs.declared.message.Message.{Message}
use Rattle.tw_rounds.specs.Dealing.{dealt, Carried}
use Rattle.tw_theory.specs.Bundles.{items_of, addressed}
use Rattle.tw_theory.specs.Transitions.{Moment, output}
use Rattle.tw_theory.specs.Network.{Network, Destination, routes, copies, routed}
use Rattle.tw_theory.specs.Simulator.{outputs, all_sent, sent_in}
use Rattle.tw_theory.proofs.Elements.{each-append}
use Rattle.tw_theory.proofs.Routes.{each-places}

FitsBag-append : (one other : Bag) → FitsBag one → FitsBag other → FitsBag (one ++ other)
FitsBag-append [] other f h = h
FitsBag-append (x ∷ xs) other f h = (f.0, FitsBag-append xs other f.1 h)

brought_fits : (c : ℕ) (ms : List Message) → Each Carried ms → FitsBag (items_of (addressed c ms))
brought_fits c [] h = tt
brought_fits c (m ∷ ms) h = let rest = brought_fits c ms h.1 in cond_both (m.to == c) (m ∷ addressed c ms) (addressed c ms) (λ l. FitsBag (items_of l)) (λ e. (h.0, rest)) (λ e. rest)

pub dealt_fits : (c : ℕ) (bags : List Bag) (ms : List Message) → Each FitsBag bags → Each Carried ms → Each FitsBag (dealt c bags ms)
dealt_fits c [] ms f h = tt
dealt_fits c (bag ∷ bags) ms f h = (FitsBag-append bag (items_of (addressed c ms)) f.0 (brought_fits c ms h), dealt_fits (suc c) bags ms f.1 h)

pub none_fits : (n : ℕ) → Each FitsBag (replicate n [])
none_fits zero = tt
none_fits (suc n) = (tt, none_fits n)

-- ---- what outputs send

copies_carried : (s : ℕ) (item : ℕ × ℤ) (ps : List Destination) → FitsItem item → Each (λ place. place.1 < 256) ps → Each Carried (copies s item.1 ps)
copies_carried s item [] f h = tt
copies_carried s item (place ∷ ps) f h = ((h.0, f.1), copies_carried s item ps f h.1)

module _ {S : Type 0} (net : Network S) (ports : Each (λ k. k.3 < 256) net.couplings) where
  pub routed_carried : (c s : ℕ) (bag : Bag) → FitsBag bag → Each Carried (routed net c s bag)
  routed_carried c s [] f = tt
  routed_carried c s (item ∷ items) f =
      each-append Carried (copies s item.1 (routes net c item.0)) (routed net c s items)
      (copies_carried s item (routes net c item.0) f.0 (each-places (λ place. place.1 < 256) c item.0 net.couplings ports))
      (routed_carried c s items f.1)

  entry_carried : (c t : ℕ) (now : Moment S) → FitsBag (output net c now t).entry.bag → Each Carried (sent_in net (output net c now t).entry)
  unfolding output
  entry_carried c t now f = routed_carried c (t + 1) (output net c now t).entry.bag f

  pub sent_carried : (t c : ℕ) (moments : List (Moment S)) → ((i : ℕ) (now : Moment S) → slice_get moments i ≡ Some now → FitsBag (output net (c + i) now t).entry.bag) → Each Carried (all_sent net (outputs net t c moments))
  sent_carried t c [] h = tt
  sent_carried t c (now ∷ moments) h =
      let z : c + 0 ≡ c = omega arith in
      let first : FitsBag (output net c now t).entry.bag = subst (λ n. FitsBag (output net n now t).entry.bag) z (h 0 now refl) in
      let rest : Each Carried (all_sent net (outputs net t (suc c) moments)) = sent_carried t (suc c) moments (λ i x e. let z : c + suc i ≡ suc c + i = omega arith in subst (λ n. FitsBag (output net n x t).entry.bag) z (h (suc i) x e)) in
      cond_both (now.due == t) ((output net c now t).entry ∷ outputs net t (suc c) moments) (outputs net t (suc c) moments) (λ rs. Each Carried (all_sent net rs))
      (λ e. each-append Carried (sent_in net (output net c now t).entry) (all_sent net (outputs net t (suc c) moments)) (entry_carried c t now first) rest)
      (λ e. rest)
