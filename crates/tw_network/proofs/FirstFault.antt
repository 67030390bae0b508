-- The first fault of what is handed in, from what each check answers, in the order of the checks.
use Rattle.std.proofs.Common.{◌≡◌, ◌≢◌, ℕ, List, length, sym, ap, ◌∙◌, Option, None, Some, Result, Ok, Err}
use Rattle.std.proofs.lemmas.List.{length-map}
use Rattle.std.specs.Option.{option_or}
use Rattle.std.specs.Result.{IfErr, IsErrAnd}
use Rattle.tw_atomic.specs.Atomic.{Meaning}
use Rattle.tw_network.specs.Contents.{Input, models_of}
use Rattle.tw_network.specs.Faults.{first_fault, count_fault, limit_fault, components_fault, couplings_fault, inputs_fault}
use Rattle.tw_network.specs.declared.refused.NetworkRefused.{NetworkRefused}
use Rattle.tw_network.specs.declared.refused.NetworkRefused.TheVariants.{OutOfMemory}
use Rattle.tw_theory.specs.Network.{Coupling}

-- ---- an error that is passed on

pub passed_on : {A : Type 0} (r : Result A NetworkRefused) (f : NetworkRefused) (o : Option NetworkRefused) → IsErrAnd r (λ e. e ≡ f) → (f ≢ OutOfMemory → o ≡ Some f) → IfErr r (λ e. e ≢ OutOfMemory → o ≡ Some e)
passed_on (Ok x) f o is at = tt
passed_on (Err e) f o is at = λ ne. at (λ same. ne (is ∙ same)) ∙ ap (λ (y : NetworkRefused). Some y) (sym is)

pub passed_on-no_memory : {A : Type 0} (r : Result A NetworkRefused) (o : Option NetworkRefused) → IsErrAnd r (λ e. e ≡ OutOfMemory) → IfErr r (λ e. e ≢ OutOfMemory → o ≡ Some e)
passed_on-no_memory (Ok x) o is = tt
passed_on-no_memory (Err e) o is = λ ne. absurd (ne is)

-- ---- the first of two

-- where the first is none
pub after_none : (a b : Option NetworkRefused) → None ≡ a → option_or a b ≡ b
after_none a b e = ap (λ o. option_or o b) (sym e)

pub at_some : (a b : Option NetworkRefused) (f : NetworkRefused) → a ≡ Some f → option_or a b ≡ Some f
at_some a b f e = ap (λ o. option_or o b) e

-- ---- the first fault, after these checks

module _ {M S : Type 0} (meaning : M → Meaning S) (components : List (List ℕ × M)) (couplings : List Coupling) (inputs : List Input) (limit : ℕ) where
  pub fault_of_counts : (f : NetworkRefused) → count_fault (length components) (length couplings) (length inputs) ≡ Some f → first_fault meaning components couplings inputs limit ≡ Some f
  fault_of_counts f e = at_some _ _ f e

  module _ (counts : None ≡ count_fault (length components) (length couplings) (length inputs)) where
    pub fault_of_limit : (f : NetworkRefused) → limit_fault limit ≡ Some f → first_fault meaning components couplings inputs limit ≡ Some f
    fault_of_limit f e = after_none _ _ counts ∙ at_some _ _ f e

    module _ (limits : None ≡ limit_fault limit) where
      pub fault_of_components : (f : NetworkRefused) → components_fault meaning components ≡ Some f → first_fault meaning components couplings inputs limit ≡ Some f
      fault_of_components f e = after_none _ _ counts ∙ after_none _ _ limits ∙ at_some _ _ f e

      module _ (sound : components_fault meaning components ≡ None) where
        pub fault_of_rest : (o : Option NetworkRefused) → option_or (couplings_fault (length components) couplings) (inputs_fault (length components) inputs) ≡ o → first_fault meaning components couplings inputs limit ≡ o
        fault_of_rest o e = after_none _ _ counts ∙ after_none _ _ limits ∙ after_none _ _ (sym sound) ∙ e

-- ---- what the checks are handed, in the place of what it is

pub count_fault_of : (a b n : ℕ) (o : Option NetworkRefused) {x y z : ℕ} → a ≡ x → b ≡ y → n ≡ z → o ≡ count_fault a b n → o ≡ count_fault x y z
count_fault_of a b n o p q r e = e ∙ (λ i. count_fault (p i) (q i) (r i))

pub rest_fault_of : (n : ℕ) (slice : List Coupling) (ins : List Input) (o : Option NetworkRefused) {count : ℕ} {couplings : List Coupling} {inputs : List Input} → n ≡ count → slice ≡ couplings → ins ≡ inputs → option_or (couplings_fault n slice) (inputs_fault n ins) ≡ o → option_or (couplings_fault count couplings) (inputs_fault count inputs) ≡ o
rest_fault_of n slice ins o p q r e = sym (λ i. option_or (couplings_fault (p i) (q i)) (inputs_fault (p i) (r i))) ∙ e

pub inputs_fault_of : (n : ℕ) (slice : List Input) (o : Option NetworkRefused) {count : ℕ} {inputs : List Input} → n ≡ count → slice ≡ inputs → o ≡ inputs_fault n slice → inputs_fault count inputs ≡ o
inputs_fault_of n slice o p q e = sym (e ∙ (λ i. inputs_fault (p i) (q i)))

pub length-models_of : {M : Type 0} (models : List M) (components : List (List ℕ × M)) → models ≡ models_of components → length models ≡ length components
length-models_of models components e = ap length e ∙ length-map components (λ c. c.1)
