-- Where couplings lead.
use Rattle.std.proofs.Common.{ℕ, ◌<◌, List, [], ◌∷◌}
use Rattle.std.specs.Prelude.{◌==◌, ◌&&◌}
use Rattle.std.specs.List.{AllByRecursion as Each}
use Rattle.std.proofs.lemmas.Bool.{cond_both}
use Rattle.tw_theory.specs.Network.{Network, Coupling, Destination, destination_at_or_before, insert_destination, destinations, routes, count_of, IsNetwork}

module _ (P : Destination → Type 0) where
  -- what holds of a place and of each among others
  pub each-insert_place : (x : Destination) (ys : List Destination) → P x → Each P ys → Each P (insert_destination x ys)
  each-insert_place x [] p h = (p, tt)
  each-insert_place x (y ∷ ys) p h = cond_both (destination_at_or_before x y) (x ∷ y ∷ ys) (y ∷ insert_destination x ys) (Each P) (λ e. (p, h)) (λ e. (h.0, each-insert_place x ys p h.1))

  -- and of each to which a coupling leads
  pub each-places : (c port : ℕ) (ks : List Coupling) → Each (λ k. P (k.2, k.3)) ks → Each P (destinations c port ks)
  each-places c port [] h = tt
  each-places c port (k ∷ ks) h =
      let rest = each-places c port ks h.1 in
      cond_both ((k.0 == c) && (k.1 == port)) (insert_destination (k.2, k.3) (destinations c port ks)) (destinations c port ks) (Each P) (λ e. each-insert_place (k.2, k.3) (destinations c port ks) h.0 rest) (λ e. rest)

-- all routes of a network lead to its components
pub routes_lead : {S : Type 0} (net : Network S) → IsNetwork net → (c port : ℕ) → Each (λ place. place.0 < count_of net) (routes net c port)
routes_lead net ok c port = each-places (λ place. place.0 < count_of net) c port net.couplings ok.couplings
