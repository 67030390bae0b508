-- The least of processes, one after another.
use Rattle.std.proofs.Common.{◌≡◌, ℕ, ◌+◌, ◌<◌, min, List, [], ◌∷◌, ◌++◌, length, map, take, ap, sym, ◌∙◌, arith}
use Rattle.std.specs.Prelude.{slice_index_or}
use Rattle.std.proofs.lemmas.List.{take_more, map_push}
use Rattle.tw_gvt.specs.Least.{least_in}
use Rattle.tw_process.specs.Process.{Held}
use Rattle.tw_theory.specs.Contents.{Process}
use Rattle.tw_theory.specs.Executive.{least_next}
use Rattle.tw_theory.proofs.Leasts.{least_next_top}

-- the least of processes and then one more
least_push : {S : Type 0} (ps : List (Process S)) (p : Process S) → least_next (ps ++ p ∷ []) ≡ min (least_next ps) (least_in p)
least_push [] p = omega (arith, least_next_top (p ∷ []))
least_push (q ∷ ps) p = let rest = least_push ps p in omega (arith, rest)

pub least_more : {M S : Type 0} (held : List (Held M S)) (i : ℕ) (p : Held M S) → i < length held → p ≡ slice_index_or held i p
    → least_next (map (λ (x : Held M S). x.process) (take (i + 1) held)) ≡ min (least_next (map (λ (x : Held M S). x.process) (take i held))) (least_in p.process)
least_more {M} {S} held i p near at =
    ap (λ l. least_next (map (λ (x : Held M S). x.process) l)) (take_more held i p near ∙ ap (λ x. take i held ++ x ∷ []) (sym at))
    ∙ ap least_next (map_push (λ (x : Held M S). x.process) (take i held) p)
    ∙ least_push (map (λ (x : Held M S). x.process) (take i held)) p.process
