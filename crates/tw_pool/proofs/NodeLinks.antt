-- The links of a pool's nodes: chains that are split, joined and changed at an end.
use Rattle.std.proofs.Common.{◌≡◌, ◌≢◌, ℕ, List, [], ◌∷◌, ◌++◌, Option, Some, None, refl, sym, ap, subst, ◌∙◌, inl, inr}
use Rattle.std.proofs.lemmas.Bool.{cases_eq}
use Rattle.slab.specs.Slab.{Slab, get, with_value}
use Rattle.slab.proofs.SlabLemmas.{Updates-with_value}
use Rattle.tw_pool.specs.declared.links.Node.{Node}
use Rattle.tw_pool.specs.Lists.{Lacks}
use Rattle.tw_pool.specs.Links.{first_or, last_or, IsChain, HasDistinct, edited, with_next, with_prev, joined_nodes, IsThere}

module _ {T : Type 0} where
  -- ## One node changed

  pub edited_at : (f : Node T → Node T) (s : Slab (Node T)) (at : ℕ) (node : Node T) → get s at ≡ Some node → get (edited f s at) at ≡ Some (f node)
  edited_at f s at node found = rw (found, edited) ((Updates-with_value s at (f node) (rw found refl)).changed)

  pub edited_other : (f : Node T → Node T) (s : Slab (Node T)) (at other : ℕ) → other ≢ at → get (edited f s at) other ≡ get s other
  edited_other f s at other differs =
      elim (get s at) as (λ slot. get s at ≡ slot → get (elim slot as (λ _. Slab (Node T)) [ None ↦ s | Some node ↦ with_value s at (f node) ]) other ≡ get s other) [
        | None ↦ λ _. refl
        | Some node ↦ λ found. (Updates-with_value s at (f node) (rw found refl)).others other differs
      ] refl

  -- ## Chains

  pub first_or-append : (a b : List (ℕ × T)) (next : Option ℕ) → first_or (a ++ b) next ≡ first_or a (first_or b next)
  first_or-append [] b next = refl
  first_or-append (e ∷ a) b next = refl

  pub last_or-append : (prev : Option ℕ) (a b : List (ℕ × T)) → last_or prev (a ++ b) ≡ last_or (last_or prev a) b
  last_or-append prev [] b = refl
  last_or-append prev (e ∷ a) b = last_or-append (Some e.0) a b

  pub chain_left : (s : Slab (Node T)) (number : ℕ) (prev : Option ℕ) (a b : List (ℕ × T)) (next : Option ℕ) → IsChain s number prev (a ++ b) next → IsChain s number prev a (first_or b next)
  chain_left s number prev [] b next chain = tt
  chain_left s number prev (e ∷ a) b next chain = (rw (← first_or-append a b next) chain.0, chain_left s number (Some e.0) a b next chain.1)

  pub chain_right : (s : Slab (Node T)) (number : ℕ) (prev : Option ℕ) (a b : List (ℕ × T)) (next : Option ℕ) → IsChain s number prev (a ++ b) next → IsChain s number (last_or prev a) b next
  chain_right s number prev [] b next chain = chain
  chain_right s number prev (e ∷ a) b next chain = chain_right s number (Some e.0) a b next chain.1

  pub chain_append : (s : Slab (Node T)) (number : ℕ) (prev : Option ℕ) (a b : List (ℕ × T)) (next : Option ℕ) → IsChain s number prev a (first_or b next) → IsChain s number (last_or prev a) b next → IsChain s number prev (a ++ b) next
  chain_append s number prev [] b next left right = right
  chain_append s number prev (e ∷ a) b next left right = (rw (first_or-append a b next) left.0, chain_append s number (Some e.0) a b next left.1 right)

  -- the nodes of a list stay as they are
  abbrev pub Keeps : Slab (Node T) → Slab (Node T) → List (ℕ × T) → Type 0
  Keeps s t [] = Unit {0}
  Keeps s t (e ∷ l) = (get t e.0 ≡ get s e.0) × Keeps s t l

  pub chain_kept : (s t : Slab (Node T)) (number : ℕ) (prev : Option ℕ) (l : List (ℕ × T)) (next : Option ℕ) → Keeps s t l → IsChain s number prev l next → IsChain t number prev l next
  chain_kept s t number prev [] next kept chain = tt
  chain_kept s t number prev (e ∷ l) next kept chain = (kept.0 ∙ chain.0, chain_kept s t number (Some e.0) l next kept.1 chain.1)

  pub keeps_edited : (f : Node T → Node T) (s : Slab (Node T)) (at : ℕ) (l : List (ℕ × T)) → Lacks (Some at) l → Keeps s (edited f s at) l
  keeps_edited f s at [] lacks = tt
  keeps_edited f s at (e ∷ l) lacks = (edited_other f s at e.0 (λ same. lacks.0 (ap Some same)), keeps_edited f s at l lacks.1)

  pub keeps_next : (s : Slab (Node T)) (at to : Option ℕ) (l : List (ℕ × T)) → Lacks at l → Keeps s (with_next s at to) l
  keeps_next s None to [] lacks = tt
  keeps_next s None to (e ∷ l) lacks = (refl, keeps_next s None to l lacks.1)
  keeps_next s (Some at) to l lacks = keeps_edited _ s at l lacks

  pub keeps_prev : (s : Slab (Node T)) (at to : Option ℕ) (l : List (ℕ × T)) → Lacks at l → Keeps s (with_prev s at to) l
  keeps_prev s None to [] lacks = tt
  keeps_prev s None to (e ∷ l) lacks = (refl, keeps_prev s None to l lacks.1)
  keeps_prev s (Some at) to l lacks = keeps_edited _ s at l lacks

  lacks_last : (e : ℕ × T) (l : List (ℕ × T)) (index : ℕ) → Lacks (Some index) (e ∷ l) → Some index ≢ last_or (Some e.0) l
  lacks_last e [] index lacks = λ same. lacks.0 (sym same)
  lacks_last e (e' ∷ l) index lacks = lacks_last e' l index lacks.1

  -- the last node of a list gets another next one
  pub chain_next : (s : Slab (Node T)) (number : ℕ) (prev : Option ℕ) (l : List (ℕ × T)) (next to : Option ℕ) → HasDistinct l → IsChain s number prev l next → IsChain (with_next s (last_or prev l) to) number prev l to
  chain_next s number prev [] next to distinct chain = tt
  chain_next s number prev (e ∷ []) next to distinct chain = (edited_at _ s e.0 _ chain.0, tt)
  chain_next s number prev (e ∷ e' ∷ l) next to distinct chain = (
    kept_at (last_or (Some e'.0) l) (lacks_last e' l e.0 distinct.0) ∙ chain.0,
    chain_next s number (Some e.0) (e' ∷ l) next to distinct.1 chain.1,
  )
    where
      kept_at : (at : Option ℕ) → Some e.0 ≢ at → get (with_next s at to) e.0 ≡ get s e.0
      kept_at None differs = refl
      kept_at (Some at) differs = edited_other _ s at e.0 (λ same. differs (ap Some same))

  -- the first node of a list gets another one before it
  pub chain_prev : (s : Slab (Node T)) (number : ℕ) (prev : Option ℕ) (l : List (ℕ × T)) (next to : Option ℕ) → HasDistinct l → IsChain s number prev l next → IsChain (with_prev s (first_or l next) to) number to l next
  chain_prev s number prev [] next to distinct chain = tt
  chain_prev s number prev (e ∷ l) next to distinct chain =
      (edited_at _ s e.0 _ chain.0, chain_kept s (with_prev s (Some e.0) to) number (Some e.0) l next (keeps_edited _ s e.0 l distinct.0) chain.1)

  -- two parts of a list are joined
  pub chain_joined : (s : Slab (Node T)) (number : ℕ) (prev : Option ℕ) (a : List (ℕ × T)) (was_next was_prev : Option ℕ) (b : List (ℕ × T)) (next : Option ℕ) → HasDistinct a → HasDistinct b → Lacks (last_or prev a) b → Lacks (first_or b next) a → IsChain s number prev a was_next → IsChain s number was_prev b next → IsChain (joined_nodes s (last_or prev a) (first_or b next)) number prev (a ++ b) next
  chain_joined s number prev a was_next was_prev b next distinct_a distinct_b left right chain_a chain_b =
      let mid = with_next s (last_or prev a) (first_or b next) in
      let end = with_prev mid (first_or b next) (last_or prev a) in
      let linked_a = chain_next s number prev a was_next (first_or b next) distinct_a chain_a in
      let kept_b = chain_kept s mid number was_prev b next (keeps_next s (last_or prev a) (first_or b next) b left) chain_b in
      chain_append end number prev a b next
      (chain_kept mid end number prev a (first_or b next) (keeps_prev mid (first_or b next) (last_or prev a) a right) linked_a)
      (chain_prev mid number was_prev b next (last_or prev a) distinct_b kept_b)

  pub IsThere-edited : (f : Node T → Node T) (s : Slab (Node T)) (at : ℕ) (other : Option ℕ) → IsThere s other → IsThere (edited f s at) other
  IsThere-edited f s at None there = tt
  IsThere-edited f s at (Some other) there =
      elim (cases_eq other at) [
        | inl same ↦ (f there.0, ap (get (edited f s at)) same ∙ edited_at f s at there.0 (rw same at there.1))
        | inr differs ↦ (there.0, edited_other f s at other differs ∙ there.1)
      ]

  pub IsThere-next : (s : Slab (Node T)) (at to other : Option ℕ) → IsThere s other → IsThere (with_next s at to) other
  IsThere-next s None to other there = there
  IsThere-next s (Some at) to other there = IsThere-edited _ s at other there

  pub IsThere-prev : (s : Slab (Node T)) (at to other : Option ℕ) → IsThere s other → IsThere (with_prev s at to) other
  IsThere-prev s None to other there = there
  IsThere-prev s (Some at) to other there = IsThere-edited _ s at other there

  pub IsThere-joined : (s : Slab (Node T)) (left right other : Option ℕ) → IsThere s other → IsThere (joined_nodes s left right) other
  IsThere-joined s left right other there =
      IsThere-prev (with_next s left right) right left other (IsThere-next s left right other there)

  pub IsThere-by : (s t : Slab (Node T)) (left right other : Option ℕ) → t ≡ joined_nodes s left right → IsThere s other → IsThere t other
  IsThere-by s t left right other is there = subst (λ u. IsThere u other) (sym is) (IsThere-joined s left right other there)
