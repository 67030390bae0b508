-- The executive at the start.
use Rattle.std.proofs.Common.{◌≡◌, ◌⊎◌, inl, inr, ℕ, zero, suc, ◌+◌, ◌≤◌, List, [], ◌∷◌, ◌++◌, length, map, replicate, Some, refl, sym, ap, ◌∙◌, subst, arith}
use Rattle.std.specs.Prelude.{slice_get}
use Rattle.std.proofs.lemmas.List.{length-map}
use Rattle.std.proofs.lemmas.Option.{none-some, same_Some}
use Rattle.tw_atomic.specs.Atomic.{Meaning}
use Rattle.tw_exec.specs.Running.{shown, IsHeld, AreNew}
use Rattle.tw_laws.proofs.Starting.{start_sound}
use Rattle.tw_msgs.specs.Counting.{total}
use Rattle.tw_msgs.specs.declared.message.Item.{Item}
use Rattle.tw_msgs.specs.declared.record.Record.{Record}
use Rattle.tw_network.specs.Contents.{Contents, network_of}
use Rattle.tw_process.specs.Process.{Held}
use Rattle.tw_theory.specs.Contents.{Cancel}
use Rattle.tw_theory.specs.Network.{Network, IsNetwork}
use Rattle.tw_theory.specs.Soundness.{IsSound, new_process, new_processes, new_world}
use Rattle.tw_vtime.specs.Stamps.{max_tick, stamp}

module _ {M S : Type 0} (meaning : M → Meaning S) (n : Contents M) (way : Cancel) where
  news : (net : Network S) (b : ℕ) (ms : List M) (ps : List (Held M S)) → length ps ≡ length ms
      → ((c : ℕ) (p : Held M S) → slice_get ps c ≡ Some p → (m : M) × (slice_get ms c ≡ Some m) × (p.process ≡ new_process net way (b + c) (meaning m)))
      → map (λ p. p.process) ps ≡ new_processes net way b (map meaning ms)
  news net b [] [] e h = refl
  news net b [] (p ∷ ps) e h = absurd (omega (arith, e))
  news net b (m ∷ ms) [] e h = absurd (omega (arith, e))
  news net b (m ∷ ms) (p ∷ ps) e h =
      let first = h 0 p refl in
      let z : b + 0 ≡ b = omega arith in
      let here : p.process ≡ new_process net way b (meaning m) = first.2 ∙ (λ i. new_process net way (z i) (meaning (same_Some first.0 m (sym first.1) i))) in
      let rest = news net (suc b) ms ps (omega (arith, e)) (λ c q at. let l = h (suc c) q at in let k : b + suc c ≡ suc b + c = omega arith in (l.0, l.1, l.2 ∙ ap (λ j. new_process net way j (meaning l.0)) k)) in
      λ i. here i ∷ rest i

  pub starts : (ps : List (Held M S)) (mail : List (List Item)) (columns : List (List Record)) → length ps ≡ length n.models → AreNew meaning n way ps
      → mail ≡ replicate (length n.models) [] → columns ≡ replicate (length n.models) [] → shown ps mail columns 0 ≡ new_world (network_of meaning n) way
  starts ps mail columns count new mail_is columns_is =
      let net = network_of meaning n in
      let k : length n.models ≡ length (map meaning n.models) = sym (length-map n.models meaning) in
      let processes = news net 0 n.models ps count (λ c p at. let is = new c p at in let z : c ≡ 0 + c = omega arith in (is.model, is.there, is.process_is ∙ ap (λ k. new_process net way k (meaning is.model)) z)) in
      let m = mail_is ∙ ap (λ k. replicate k []) k in
      let cs = columns_is ∙ ap (λ k. replicate k []) k in
      λ i. record { processes = processes i; mail = m i; columns = cs i; gvt = 0 }

  pub start_held : (until : ℕ) (ps : List (Held M S)) (mail : List (List Item)) (columns : List (List Record)) → IsNetwork (network_of meaning n) → until ≤ max_tick → length ps ≡ length n.models → AreNew meaning n way ps
      → mail ≡ replicate (length n.models) [] → columns ≡ replicate (length n.models) [] → IsHeld meaning n until (stamp until 0 0) 0 ps mail columns
  start_held until ps mail columns network bound count new mail_is columns_is = record {
    network = network;
    bound = bound;
    end_is = refl;
    sound = subst (IsSound (network_of meaning n) until) (sym (starts ps mail columns count new mail_is columns_is)) (start_sound (network_of meaning n) way until network);
    own = λ c p at. let is = new c p at in record { network_is = is.network_is; component_is = is.component_is; floor_le = omega (arith, is.floor_is) };
  }

-- of a list and one more: the last one, or one of the others
pub get_of_push : {X : Type 0} (xs : List X) (x : X) (d : ℕ) (y : X) → slice_get (xs ++ x ∷ []) d ≡ Some y → ((d ≡ length xs) × (y ≡ x)) ⊎ (slice_get xs d ≡ Some y)
get_of_push [] x zero y at = inl (refl, sym (same_Some x y at))
get_of_push [] x (suc d) y at = absurd (none-some y at)
get_of_push (z ∷ xs) x zero y at = inr at
get_of_push (z ∷ xs) x (suc d) y at = elim (get_of_push xs x d y at) [
  | inl l ↦ inl (ap suc l.0, l.1)
  | inr l ↦ inr l
]

-- empty columns have no records
pub no_records : (n : ℕ) (columns : List (List Record)) → columns ≡ replicate n [] → 0 ≡ total length columns
no_records n columns is = sym (none n) ∙ ap (total length) (sym is)
  where
    none : (n : ℕ) → total {X = List Record} length (replicate n []) ≡ 0
    none zero = refl
    none (suc n) = omega (arith, none n)
