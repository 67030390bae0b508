-- Harvests: the line that they set stands after all that is committed.
use Rattle.std.proofs.Common.{◌≡◌, ℕ, suc, ◌+◌, ◌≤◌, List, [], ◌∷◌, ◌++◌, length, take, Some, sym, ap, ◌∙◌, subst, arith}
use Rattle.std.specs.Prelude.{nat_lt, slice_get, slice_set, Ok}
use Rattle.std.proofs.lemmas.Bool.{cond_both, ltb-true}
use Rattle.tw_atomic.specs.Atomic.{Meaning}
use Rattle.tw_exec.specs.Running.{IsOwn, IsHeld}
use Rattle.tw_exec.proofs.Acts.{harvest_acts}
use Rattle.tw_exec.proofs.Kept.{IsActed, acted_by, own_set}
use Rattle.tw_exec.proofs.Worlds.{process_at}
use Rattle.tw_msgs.specs.declared.message.Item.{Item}
use Rattle.tw_msgs.specs.declared.record.Record.{Record}
use Rattle.tw_network.specs.Contents.{Contents}
use Rattle.tw_process.proofs.Between.{length_records}
use Rattle.tw_process.specs.Process.{Held, with_harvested, with_spare}
use Rattle.std.proofs.lemmas.List.{length-append, length-take-le}
use Rattle.tw_msgs.specs.Counting.{total}
use Rattle.tw_theory.proofs.Totals.{total-set}
use Rattle.tw_theory.specs.Contents.{records_of, steps_before}
use Rattle.tw_theory.specs.Executive.{Harvest, Harvested, column_of}
use Rattle.tw_theory.specs.LocalRun.{Step}
use Rattle.tw_theory.specs.Standing.{floor_after}

-- the steps before g stand before it
floor_le : {S : Type 0} (g floor : ℕ) (steps : List (Step S)) → floor ≤ g → floor_after floor (take (steps_before g steps) steps) ≤ g
floor_le g floor [] l = l
floor_le g floor (step ∷ steps) l =
    cond_both (nat_lt step.entry.stamp g) (suc (steps_before g steps)) 0 (λ k. floor_after floor (take k (step ∷ steps)) ≤ g)
    (λ e. floor_le g (step.entry.stamp + 1) steps (let b = ltb-true step.entry.stamp g e in omega arith))
    (λ e. l)

module _ {M S : Type 0} {meaning : M → Meaning S} {n : Contents M} {until end gvt : ℕ} {ps : List (Held M S)} {mail : List (List Item)} {columns : List (List Record)} (h : IsHeld meaning n until end gvt ps mail columns) where
  pub harvest_acted : (c : ℕ) (old new : Held M S) (column : List Record) → slice_get ps c ≡ Some old → new ≡ with_spare new.spare (with_harvested gvt old)
      → column ≡ column_of columns c ++ records_of (take (steps_before gvt old.process.history) old.process.history)
      → IsActed meaning n until end gvt gvt ps (slice_set ps c new) mail mail columns (slice_set columns c column) (Harvest c) (Ok (Harvested (steps_before gvt old.process.history)))
  harvest_acted c old new column at new_is column_is =
      let o = h.own c old at in
      let sound = h.sound.each c old.process (process_at ps mail columns gvt c old at) in
      let floor : floor_after old.floor (take (steps_before gvt old.process.history) old.process.history) ≤ gvt = floor_le gvt old.floor old.process.history (omega (arith, o.floor_le, sound.line_le)) in
      acted_by h gvt (slice_set ps c new) mail (slice_set columns c column) (Harvest c) (Ok (Harvested (steps_before gvt old.process.history)))
      (harvest_acts meaning n until gvt ps mail columns c old new column at new_is column_is)
      (own_set h c new (subst (IsOwn n c) (sym new_is) (record { network_is = o.network_is; component_is = o.component_is; floor_le = floor })))

-- how many records the columns have then
pub counted : {S : Type 0} (columns : List (List Record)) (c n before : ℕ) (old new : List Record) (steps : List (Step S)) → slice_get columns c ≡ Some old → n ≤ length steps
    → new ≡ old ++ records_of (take n steps) → before ≡ total length columns → before + n ≡ total length (slice_set columns c new)
counted columns c n before old new steps at within new_is is =
    omega (
      arith,
      is,
      total-set length columns c old new at,
      ap length new_is ∙ length-append old (records_of (take n steps)),
      length_records (take n steps) ∙ length-take-le n steps within,
    )
