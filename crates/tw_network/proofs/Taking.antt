-- Components that are taken one by one.
use Rattle.std.proofs.Common.{◌≡◌, ℕ, List, [], ◌∷◌, ◌++◌, length, map, refl, sym, ap, arith, ◌∙◌, subst, append_assoc, String, string_bytes, Option, None, Some}
use Rattle.std.specs.Global.{Global}
use Rattle.std.specs.Option.{option_or}
use Rattle.std.proofs.lemmas.List.{append-nil, map-append}
use Rattle.tw_atomic.specs.Atomic.{Meaning}
use Rattle.tw_network.specs.Contents.{named, names_of, models_of}
use Rattle.tw_network.specs.Faults.{first_of, component_fault, components_fault}
use Rattle.tw_network.specs.declared.refused.NetworkRefused.{NetworkRefused}

-- of components, those before rest are taken, by these names and models
pub record AreTaken {M S : Type 0} (meaning : M → Meaning S) (components taken rest : List (String Global × M)) (keys : List (String Global)) (made : List M) : Type 0 where
  pub all : components ≡ taken ++ rest
  pub names : map string_bytes keys ≡ names_of (named taken)
  pub models : made ≡ models_of (named taken)
  pub fault : components_fault meaning (named components) ≡ first_of (λ before c. component_fault meaning (names_of before) c) (named taken) (named rest)

empty : {A : Type 0} (xs : List A) → length xs ≡ 0 → xs ≡ []
empty [] e = refl
empty (x ∷ xs) e = absurd (omega (arith, e))

module _ {M S : Type 0} (meaning : M → Meaning S) (components taken rest : List (String Global × M)) (keys : List (String Global)) (models : List M) where
  module _ (x : String Global × M) (t : AreTaken meaning components taken (x ∷ rest) keys models) where
    -- the fault of the next, and then of the rest
    from_next : (o : Option NetworkRefused) → component_fault meaning (map string_bytes keys) (string_bytes x.0, x.1) ≡ o
        → components_fault meaning (named components) ≡ option_or o (first_of (λ before c. component_fault meaning (names_of before) c) (named taken ++ (string_bytes x.0, x.1) ∷ []) (named rest))
    from_next o e =
        t.fault ∙ ap (λ p. option_or p (first_of (λ before c. component_fault meaning (names_of before) c) (named taken ++ (string_bytes x.0, x.1) ∷ []) (named rest)))
        (subst (λ ns. component_fault meaning ns (string_bytes x.0, x.1) ≡ o) t.names e)

    pub taken_stop : (f : NetworkRefused) → component_fault meaning (map string_bytes keys) (string_bytes x.0, x.1) ≡ Some f → components_fault meaning (named components) ≡ Some f
    taken_stop f e = from_next (Some f) e

    pub taken_on : (new_keys : List (String Global)) (new_models : List M) → new_keys ≡ keys ++ x.0 ∷ [] → new_models ≡ models ++ x.1 ∷ [] → component_fault meaning (map string_bytes keys) (string_bytes x.0, x.1) ≡ None
        → AreTaken meaning components (taken ++ x ∷ []) rest new_keys new_models
    taken_on new_keys new_models is_keys is_models none =
        let more = map-append (λ (c : String Global × M). (string_bytes c.0, c.1)) taken (x ∷ []) in
        record {
          all = t.all ∙ sym (append_assoc taken (x ∷ []) rest);
          names =
              ap (map string_bytes) is_keys ∙ map-append string_bytes keys (x.0 ∷ []) ∙ ap (λ ns. ns ++ string_bytes x.0 ∷ []) t.names
              ∙ sym (ap names_of more ∙ map-append (λ (c : List ℕ × M). c.0) (named taken) ((string_bytes x.0, x.1) ∷ []));
          models =
              is_models ∙ ap (λ ms. ms ++ x.1 ∷ []) t.models
              ∙ sym (ap models_of more ∙ map-append (λ (c : List ℕ × M). c.1) (named taken) ((string_bytes x.0, x.1) ∷ []));
          fault = from_next None none ∙ ap (λ before. first_of (λ before c. component_fault meaning (names_of before) c) before (named rest)) (sym more);
        }

  -- where none is left, all are taken
  module _ (left : length rest ≡ 0) (t : AreTaken meaning components taken rest keys models) where
    none : rest ≡ []
    none = empty rest left

    all_taken : taken ≡ components
    all_taken = sym (t.all ∙ ap (λ r. taken ++ r) none ∙ append-nil taken)

    pub names_taken : map string_bytes keys ≡ names_of (named components)
    names_taken = t.names ∙ ap (λ cs. names_of (named cs)) all_taken

    pub models_taken : models ≡ models_of (named components)
    models_taken = t.models ∙ ap (λ cs. models_of (named cs)) all_taken

    pub none_at_fault : components_fault meaning (named components) ≡ None
    none_at_fault = t.fault ∙ ap (λ r. first_of (λ before c. component_fault meaning (names_of before) c) (named taken) (named r)) none
