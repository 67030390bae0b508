-- There are as many ticks as timers.
use Rattle.std.proofs.Common.{◌≡◌, ◌∙◌, ◌+◌, ◌++◌, ◌∷◌, [], ℕ, ℤ, List, length, refl, ap, sym, length-append}
use Rattle.std.proofs.lemmas.List.Concat.{flat_map-cons}
use Rattle.std.proofs.lemmas.List.Sums.{sum_by-cons}
use Rattle.std.proofs.lemmas.List.{length-replicate}
use Rattle.std.specs.Prelude.{flat_map, option_and_then, sum_by}
use Rattle.tw_machine_declaration.specs.declared.declaration.Timer.{Timer}
use Rattle.tw_machine_declaration.specs.Seen.{Given}
use Rattle.tw_machine_declaration.specs.Names.{constant, due_first, timer_count, timer_ticks}

-- of one with a count as many as it says, before the others
counted : (given : Given) (least : ℤ) (t : Timer) (rest : List ℤ) → length (timer_ticks given least t ++ rest) ≡ timer_count given t + length rest
counted given least t rest =
    length-append (timer_ticks given least t) rest
    ∙ ap (λ (n : ℕ). n + length rest) (length-replicate (timer_count given t) (due_first least (option_and_then (constant given) t.first)))

pub ticks_together : (given : Given) (least : ℤ) (ts : List Timer) → length (flat_map (timer_ticks given least) ts) ≡ sum_by (timer_count given) ts
ticks_together given least [] = refl
ticks_together given least (t ∷ ts) =
    ap (λ (ticks : List ℤ). length ticks) (flat_map-cons (timer_ticks given least) t ts)
    ∙ counted given least t (flat_map (timer_ticks given least) ts)
    ∙ ap (λ (n : ℕ). timer_count given t + n) (ticks_together given least ts)
    ∙ sym (sum_by-cons (timer_count given) t ts)
