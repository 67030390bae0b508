-- Which component is given out.
use Rattle.std.proofs.Common.{◌≡◌, ℕ, ◌<◌, ◌≤◌, List, Option, None, Some, true, false, refl, sym, ap, subst, ◌∙◌, inl, inr, arith}
use Rattle.std.specs.Option.{option_map}
use Rattle.std.specs.Prelude.{IfSome, IsSomeAnd, slice_get}
use Rattle.std.proofs.lemmas.Bool.{true≢false}
use Rattle.std.proofs.lemmas.Option.{none-some, same_Some, slice_get-map, slice_get_within, slice_get_cases}
use Rattle.tw_laws.proofs.Drawn.{draw_law}
use Rattle.tw_theory.specs.Contents.{Process, next}
use Rattle.tw_theory.specs.Exchange.{IsDrawn, bound_of}
use Rattle.tw_vtime.specs.Stamps.{max_tick}
use Rattle.tw_exchange.specs.Agenda.{AllLate, IsLeast}
use Rattle.tw_exchange.specs.Exchanged.{IsExact, busy_in, is_out}

-- a component that is not given out has a stamp
pub stamp_of_free : (stamps : List (Option ℕ)) (c : ℕ) → slice_get (busy_in stamps) c ≡ Some false → (s : ℕ) × (slice_get stamps c ≡ Some (Some s))
stamp_of_free stamps c free = go (slice_get stamps c) refl (sym (slice_get-map is_out stamps c) ∙ free)
  where
    go : (o : Option (Option ℕ)) → slice_get stamps c ≡ o → option_map is_out o ≡ Some false → (s : ℕ) × (slice_get stamps c ≡ Some (Some s))
    go None at is = absurd (none-some false is)
    go (Some None) at is = absurd (true≢false (same_Some true false is))
    go (Some (Some s)) at is = (s, at)

pub free_of_stamp : (stamps : List (Option ℕ)) (c s : ℕ) → slice_get stamps c ≡ Some (Some s) → slice_get (busy_in stamps) c ≡ Some false
free_of_stamp stamps c s at = slice_get-map is_out stamps c ∙ ap (option_map is_out) at

module _ {S : Type 0} (until gvt window : ℕ) (within : until ≤ max_tick) (stamps : List (Option ℕ)) (ps : List (Process S)) (exact : IsExact stamps ps) where
  pub none_free : AllLate stamps → (c : ℕ) → IsDrawn until gvt window (busy_in stamps) ps c → ⊥
  none_free late c drawn =
      let s = stamp_of_free stamps c drawn.free in
      let next_is : s.0 ≡ next drawn.process = exact.next_is c s.0 drawn.process s.1 drawn.at in
      absurd (omega (arith, late c s.0 s.1, next_is, drawn.may.0, within))

  -- the least one stands too late
  pub none_early : (s c : ℕ) → IsLeast stamps s c → bound_of until gvt window ≤ s → (d : ℕ) → IsDrawn until gvt window (busy_in stamps) ps d → ⊥
  none_early s c least late d drawn =
      let t = stamp_of_free stamps d drawn.free in
      let next_is : t.0 ≡ next drawn.process = exact.next_is d t.0 drawn.process t.1 drawn.at in
      let early : next drawn.process < bound_of until gvt window = draw_law.bound until gvt window drawn.process within drawn.may in
      elim (least.least d t.0 t.1) [
        | inl less ↦ omega (arith, less, late, next_is, early)
        | inr tied ↦ omega (arith, tied.0, late, next_is, early)
      ]

  pub there : (c s : ℕ) → slice_get stamps c ≡ Some (Some s) → (p : Process S) × (slice_get ps c ≡ Some p)
  there c s at = let near = slice_get_within stamps c (Some s) at in elim (slice_get_cases ps c).1 [
    | inl is ↦ (is.0, is.2)
    | inr past ↦ absurd (omega (arith, near, past.0, exact.count))
  ]

  pub drawn_is : (s c : ℕ) → IsLeast stamps s c → s < bound_of until gvt window → IsDrawn until gvt window (busy_in stamps) ps c
  drawn_is s c least early =
      let p = there c s least.at in
      let next_is : s ≡ next p.0 = exact.next_is c s p.0 least.at p.1 in
      record {
        process = p.0;
        at = p.1;
        free = free_of_stamp stamps c s least.at;
        may = draw_law.within until gvt window p.0 within (omega (arith, early, next_is));
        least = λ d q at free may.
            let t = stamp_of_free stamps d free in
            let its : t.0 ≡ next q = exact.next_is d t.0 q t.1 at in
            elim (least.least d t.0 t.1) [
              | inl less ↦ inl (omega (arith, less, next_is, its))
              | inr tied ↦ inr (sym next_is ∙ tied.0 ∙ its, tied.1)
            ];
      }

-- what holds of an element if there is one
pub if_there : {X : Type 0} (P : X → Type 0) (o : Option X) (x : X) → o ≡ Some x → IfSome o P → P x
if_there P None x at holds = absurd (none-some x at)
if_there P (Some y) x at holds = subst P (same_Some y x at) holds

-- and of one that is there
pub is_there : {X : Type 0} (P : X → Type 0) (o : Option X) (x : X) → o ≡ Some x → IsSomeAnd o P → P x
is_there P None x at holds = absurd (none-some x at)
is_there P (Some y) x at holds = subst P (same_Some y x at) holds

pub for_there : {X : Type 0} (P : X → Type 0) (o : Option X) (x : X) → o ≡ Some x → P x → IfSome o P
for_there P None x at holds = tt
for_there P (Some y) x at holds = subst P (sym (same_Some y x at)) holds
