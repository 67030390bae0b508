-- The action that three numbers say, part by part.
use Rattle.std.proofs.Common.{◌≡◌, ◌∙◌, ℕ, ◌%◌, length, ap, refl, eqb, false}
use Rattle.std.specs.Prelude.{Some}
use Rattle.std.proofs.lemmas.Bool.{ne_eqb}
use Rattle.tw_exec.specs.Running.{Running}
use Rattle.tw_seeded.specs.Schedules.{Words, action_drawn, chosen, drawn, place_drawn, stamp_drawn}
use Rattle.rand_pcg.specs.Lcg.{Lcg}
use Rattle.rand_pcg.specs.Pcg.{pcg32}
use Rattle.tw_theory.specs.Executive.{mail_of}

pub drawn_by : {M S : Type 0} (e : Running M S) (w : Words) (count component place at : ℕ) → count ≡ length e.network.models → (count ≡ 0 → ⊥)
    → component ≡ w.component % count → place ≡ place_drawn (length (mail_of e.world.mail component)) w.detail → at ≡ stamp_drawn e.world.gvt w.detail
    → Some (chosen (w.choice % 6) component place at) ≡ action_drawn e w
drawn_by e w count component place at is some component_is place_is at_is =
    let none : eqb (length e.network.models) 0 ≡ false = ne_eqb (length e.network.models) 0 (λ z. some (is ∙ z)) in
    let c : component ≡ w.component % length e.network.models = component_is ∙ ap (λ n. w.component % n) is in
    rw (none, place_is, at_is, c) refl

pub words_are : (g s t u : Lcg) (a b d : ℕ) → (a, s) ≡ pcg32 g → (b, t) ≡ pcg32 s → (d, u) ≡ pcg32 t → record { choice = a; component = b; detail = d } ≡ drawn g
words_are g s t u a b d first second third =
    let next : s ≡ (pcg32 g).1 = ap (λ p. p.1) first in
    let last : t ≡ (pcg32 (pcg32 g).1).1 = ap (λ p. p.1) second ∙ ap (λ r. (pcg32 r).1) next in
    λ i. record {
      choice = (first i).0;
      component = (ap (λ p. p.0) second ∙ ap (λ r. (pcg32 r).0) next) i;
      detail = (ap (λ p. p.0) third ∙ ap (λ r. (pcg32 r).0) last) i;
    }
