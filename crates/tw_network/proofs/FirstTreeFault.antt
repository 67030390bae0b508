-- The first fault of a tree, from what each check answers, in the order of the checks.
use Rattle.std.proofs.Common.{◌≡◌, ◌≢◌, ℕ, ◌≤◌, List, length, refl, subst, sym, ◌∙◌, true, nat_le, Option, None, Some, Result, Ok, Err}
use Rattle.std.specs.Result.{IfErr, IfOk, IsErrAnd}
use Rattle.tw_atomic.specs.Atomic.{Meaning}
use Rattle.tw_nested.specs.Tree.{Parts, Link, models_in}
use Rattle.tw_nested.specs.Whole.{AreCouplings, AreTooMany}
use Rattle.tw_nested.specs.declared.collect.FlatRefused.{FlatRefused}
use Rattle.tw_nested.specs.declared.collect.FlatRefused.TheVariants as flat
use Rattle.tw_network.specs.Contents.{Input}
use Rattle.tw_network.specs.Faults.{inputs_fault, limit_fault}
use Rattle.tw_network.specs.Refused.{flat_fault}
use Rattle.tw_network.specs.TreeFaults.{IsTreeFault, in_couplings, in_inputs, is_few, models_fault, tree_count_fault, tree_fault}
use Rattle.tw_network.specs.declared.refused.NetworkRefused.{NetworkRefused}
use Rattle.tw_network.specs.declared.refused.NetworkRefused.TheVariants.{OutOfMemory}
use Rattle.tw_network.proofs.FirstFault.{after_none, at_some}
use Rattle.tw_network.proofs.NoFaults.{holds, neither}
use Rattle.std.proofs.lemmas.Bool.{and_parts, leb-true}
use Rattle.tw_theory.specs.Network.{Coupling}

-- an error that is passed on
pub error_on : {A : Type 0} (P : NetworkRefused → Type 0) (r : Result A NetworkRefused) (f : NetworkRefused) → IsErrAnd r (λ e. e ≡ f) → (f ≢ OutOfMemory → P f) → IfErr r (λ e. e ≢ OutOfMemory → P e)
error_on P (Ok x) f is at = tt
error_on P (Err e) f is at = λ ne. subst P (sym is) (at (λ same. ne (is ∙ same)))

-- want of memory that is passed on
pub no_memory : {A : Type 0} (P : NetworkRefused → Type 0) (r : Result A NetworkRefused) → IsErrAnd r (λ e. e ≡ OutOfMemory) → IfErr r (λ e. e ≢ OutOfMemory → P e)
no_memory P (Ok x) is = tt
no_memory P (Err e) is = λ ne. absurd (ne is)

-- what is none is no fault
pub no_such : {A : Type 0} (o : Option NetworkRefused) (f : NetworkRefused) → None ≡ o → o ≡ Some f → A
no_such o f none some = absurd cc

pub counts_few : {M : Type 0} (parts : Parts M) (links : List Link) (inputs : ℕ) → None ≡ tree_count_fault parts links inputs → (is_few parts links ≡ true) × (inputs ≤ 65536)
counts_few parts links inputs e =
    let p = and_parts (is_few parts links) (nat_le inputs 65536) (holds _ _ (sym e)) in
    (p.0, leb-true inputs 65536 p.1)

module _ {M S : Type 0} (meaning : M → Meaning S) (parts : Parts M) (links : List Link) (inputs : List Input) (limit : ℕ) where
  pub tree_fault_of_counts : (f : NetworkRefused) → Some f ≡ tree_count_fault parts links (length inputs) → tree_fault meaning parts links inputs limit ≡ Some f
  tree_fault_of_counts f e = at_some _ _ f (sym e)

  module _ (counts : None ≡ tree_count_fault parts links (length inputs)) where
    pub tree_fault_of_limit : (f : NetworkRefused) → Some f ≡ limit_fault limit → tree_fault meaning parts links inputs limit ≡ Some f
    tree_fault_of_limit f e = after_none _ _ counts ∙ at_some _ _ f (sym e)

    module _ (limits : None ≡ limit_fault limit) where
      pub tree_fault_of_models : (o : Option NetworkRefused) → models_fault meaning parts links ≡ o → tree_fault meaning parts links inputs limit ≡ o
      tree_fault_of_models o e = after_none _ _ counts ∙ after_none _ _ limits ∙ e

  module _ (sound : tree_fault meaning parts links inputs limit ≡ None) where
    -- neither the counts, nor the greatest microstep, nor a model
    pub sound_tree : (None ≡ tree_count_fault parts links (length inputs)) × (None ≡ limit_fault limit) × (models_fault meaning parts links ≡ None)
    sound_tree =
        let p = neither (tree_count_fault parts links (length inputs)) _ sound in
        let q = neither (limit_fault limit) (models_fault meaning parts links) p.1 in
        (sym p.0, sym q.0, q.1)

    pub tree_fault_of_couplings : (f : FlatRefused) → (f ≢ flat.OutOfMemory → AreTooMany parts links) → flat_fault f ≢ OutOfMemory → IsTreeFault meaning parts links inputs limit (flat_fault f)
    tree_fault_of_couplings flat.OutOfMemory many ne = absurd (ne refl)
    tree_fault_of_couplings flat.TooMany many ne = in_couplings sound (many (λ same. absurd cc))

    pub tree_fault_of_inputs : (flat : List Coupling) (f : NetworkRefused) → AreCouplings parts links flat → inputs_fault (length (models_in parts)) inputs ≡ Some f → IsTreeFault meaning parts links inputs limit f
    tree_fault_of_inputs flat f are e = in_inputs flat f sound are e

-- ---- what is answered is passed on

pub if_ok : {A : Type 0} (r : Result A NetworkRefused) {P Q : A → Type 0} → ((x : A) → P x → Q x) → IfOk r P → IfOk r Q
if_ok (Ok x) f at = f x at
if_ok (Err e) f at = tt
