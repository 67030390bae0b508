-- The world as an executive holds it: one of its processes, there or changed.
use Rattle.std.proofs.Common.{◌≡◌, ℕ, ◌≤◌, List, length, map, Some, None, sym, ap, ◌∙◌, arith}
use Rattle.std.specs.Prelude.{slice_get, slice_set}
use Rattle.std.specs.Option.{option_map}
use Rattle.std.proofs.lemmas.List.{map-set, length-map, set-get_or}
use Rattle.std.proofs.lemmas.Option.{slice_get-map, slice_get_past, get_or_from_slice_get}
use Rattle.tw_exec.specs.Running.{shown}
use Rattle.tw_msgs.specs.declared.message.Item.{Item}
use Rattle.tw_msgs.specs.declared.record.Record.{Record}
use Rattle.tw_process.specs.Process.{Held, with_spare}
use Rattle.tw_theory.specs.Contents.{Process}

module _ {M S : Type 0} (ps : List (Held M S)) (mail : List (List Item)) (columns : List (List Record)) (gvt : ℕ) where
  pub process_at : (c : ℕ) (p : Held M S) → slice_get ps c ≡ Some p → slice_get (shown ps mail columns gvt).processes c ≡ Some p.process
  process_at c p e = slice_get-map (λ x. x.process) ps c ∙ ap (option_map (λ (x : Held M S). x.process)) e

  pub process_none : (c : ℕ) → length ps ≤ c → slice_get (shown ps mail columns gvt).processes c ≡ None
  process_none c l = slice_get_past (map (λ (x : Held M S). x.process) ps) c (omega (arith, length-map ps (λ (x : Held M S). x.process)))

  -- a process that is changed, but for what contracts of the theory do not see
  pub changed : (c : ℕ) (new : Held M S) (p : Process S) → new.process ≡ p → slice_set (shown ps mail columns gvt).processes c p ≡ (shown (slice_set ps c new) mail columns gvt).processes
  changed c new p e = ap (slice_set (map (λ (x : Held M S). x.process) ps) c) (sym e) ∙ sym (map-set (λ (x : Held M S). x.process) ps c new)

  -- a process that is as it was, but for room
  pub unchanged : (c : ℕ) (old new : Held M S) → slice_get ps c ≡ Some old → new ≡ with_spare new.spare old → shown (slice_set ps c new) mail columns gvt ≡ shown ps mail columns gvt
  unchanged c old new at same =
      ap (λ qs. record { processes = qs; mail = mail; columns = columns; gvt = gvt })
      (sym (changed c new old.process (ap (λ (x : Held M S). x.process) same))
      ∙ ap (slice_set (map (λ (x : Held M S). x.process) ps) c) (sym (get_or_from_slice_get (map (λ (x : Held M S). x.process) ps) c old.process old.process (process_at c old at)))
      ∙ set-get_or (map (λ (x : Held M S). x.process) ps) c old.process)

-- what is put back where it was
pub set_back : {X : Type 0} (xs : List X) (c : ℕ) (x y : X) → slice_get xs c ≡ Some x → y ≡ x → slice_set xs c y ≡ xs
set_back xs c x y at e = ap (slice_set xs c) (e ∙ sym (get_or_from_slice_get xs c x x at)) ∙ set-get_or xs c x
