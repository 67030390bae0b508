-- The least commit line of the processes so far, and what columns merged up to it are.
use Rattle.std.proofs.Common.{◌≡◌, ℕ, ◌+◌, ◌<◌, min, List, [], ◌∷◌, ◌++◌, length, map, take, ap, sym, ◌∙◌, arith}
use Rattle.std.specs.Prelude.{slice_index_or, Result, Ok, Err, IfOk}
use Rattle.std.specs.Global.{Vec}
use Rattle.tw_atomic.specs.Atomic.{Meaning}
use Rattle.tw_exec.specs.Running.{shown, IsHeld}
use Rattle.tw_fossils.proofs.Sound.{sound_columns}
use Rattle.tw_fossils.specs.Columns.{AreColumns}
use Rattle.tw_laws.proofs.Merging.{least_line_law}
use Rattle.tw_msgs.specs.declared.message.Item.{Item}
use Rattle.tw_msgs.specs.declared.record.Record.{Record}
use Rattle.tw_network.specs.Contents.{Contents, network_of}
use Rattle.tw_theory.specs.Executive.{column_of}
use Rattle.tw_theory.specs.Simulator.{sequential}
use Rattle.std.proofs.lemmas.List.{take_more, map_push}
use Rattle.tw_process.specs.Process.{Held}
use Rattle.tw_theory.specs.Contents.{Process}
use Rattle.tw_theory.specs.Traces.{before, least_line, of_component, IsMerged, IsTrace}

-- the least line of processes and then one more
line_push : {S : Type 0} (ps : List (Process S)) (p : Process S) → least_line (ps ++ p ∷ []) ≡ min (least_line ps) p.line
line_push [] p = omega arith
line_push (q ∷ ps) p = let rest = line_push ps p in omega (arith, rest)

pub line_more : {M S : Type 0} (held : List (Held M S)) (i : ℕ) (p : Held M S) → i < length held → p ≡ slice_index_or held i p
    → least_line (map (λ (x : Held M S). x.process) (take (i + 1) held)) ≡ min (least_line (map (λ (x : Held M S). x.process) (take i held))) p.process.line
line_more {M} {S} held i p near at =
    ap (λ l. least_line (map (λ (x : Held M S). x.process) l)) (take_more held i p near ∙ ap (λ x. take i held ++ x ∷ []) (sym at))
    ∙ ap least_line (map_push (λ (x : Held M S). x.process) (take i held) p)
    ∙ line_push (map (λ (x : Held M S). x.process) (take i held)) p.process

module _ {M S : Type 0} {meaning : M → Meaning S} {n : Contents M} {until end gvt : ℕ} {ps : List (Held M S)} {mail : List (List Item)} {columns : List (List Record)} (h : IsHeld meaning n until end gvt ps mail columns) where
  pub held_columns : AreColumns 0 columns
  held_columns = sound_columns (network_of meaning n) until (shown ps mail columns gvt) h.network h.bound h.sound

  -- what is merged up to the least line is the simulator's
  pub merged_before : {E : Type 0} (line : ℕ) (r : Result (Vec Record) E) → line ≡ least_line (map (λ p. p.process) ps) → IfOk r (λ trace. IsTrace trace.items) → IfOk r (λ trace. (c : ℕ) → of_component c trace.items ≡ before line (column_of columns c))
      → IfOk r (λ trace. trace.items ≡ before (least_line (map (λ p. p.process) ps)) (sequential (network_of meaning n) until).records)
  merged_before line (Ok trace) is ordered parts =
      (least_line_law (network_of meaning n) until (shown ps mail columns gvt) h.network h.bound h.sound trace.items (record { ordered = ordered; parts = λ c. parts c ∙ ap (λ l. before l (column_of columns c)) is })).0
  merged_before line (Err e) is ordered parts = ordered

  -- and has of each component what its column has before it
  pub merged_there : {E : Type 0} (line : ℕ) (r : Result (Vec Record) E) → line ≡ least_line (map (λ p. p.process) ps) → IfOk r (λ trace. IsTrace trace.items) → IfOk r (λ trace. (c : ℕ) → of_component c trace.items ≡ before line (column_of columns c))
      → IfOk r (λ trace. IsMerged (least_line (map (λ p. p.process) ps)) (shown ps mail columns gvt) trace.items)
  merged_there line (Ok trace) is ordered parts = record { ordered = ordered; parts = λ c. parts c ∙ ap (λ l. before l (column_of columns c)) is }
  merged_there line (Err e) is ordered parts = ordered
