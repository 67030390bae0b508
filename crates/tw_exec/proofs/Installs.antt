-- A chain installed: so many steps, after which an executive is one still.
use Rattle.std.proofs.Common.{◌≡◌, ℕ, ◌+◌, ◌≤◌, List, [], ◌∷◌, map, Some, refl, sym, ap, ◌∙◌, subst, arith}
use Rattle.std.specs.Option.{option_map}
use Rattle.std.specs.Prelude.{slice_get, slice_set}
use Rattle.std.proofs.lemmas.Option.{get_or_from_slice_get, slice_get-map}
use Rattle.tw_atomic.specs.Atomic.{Meaning}
use Rattle.tw_exec.specs.Running.{shown, IsHeld, IsOwn}
use Rattle.tw_exec.proofs.Kept.{own_set}
use Rattle.tw_exec.proofs.Worlds.{changed, process_at}
use Rattle.tw_laws.proofs.Harvesting.{replay_sound}
use Rattle.tw_laws.proofs.Installed.{install_law}
use Rattle.tw_laws.specs.Chains.{steps_of_one}
use Rattle.tw_msgs.specs.declared.message.Item.{Item}
use Rattle.tw_msgs.specs.declared.record.Record.{Record}
use Rattle.tw_network.specs.Contents.{Contents, network_of}
use Rattle.tw_process.specs.Process.{Held}
use Rattle.tw_theory.specs.Chains.{Cause, IsHome, IsSoloRun, SoloRun, Start}
use Rattle.tw_theory.specs.Contents.{Process, with_step}
use Rattle.tw_theory.specs.Executive.{replay}
use Rattle.tw_theory.specs.Installing.{Finished, IsInstalled, TakesFrom}
use Rattle.tw_theory.specs.LocalRun.{Step}
use Rattle.tw_theory.specs.Network.{Network}
use Rattle.tw_theory.specs.Soundness.{IsSound}
use Rattle.tw_vtime.specs.Stamps.{stamp}

line_taken : {S : Type 0} (net : Network S) (start : Start S) (n : ℕ) (steps : List (Step S)) (p q : Process S) → TakesFrom net start n steps p q → q.line ≡ p.line
line_taken net start n [] p q takes = ap (λ (x : Process _). x.line) takes
line_taken net start n (step ∷ steps) p q takes = line_taken net start (n + 1) steps (with_step p takes.1.0) q takes.1.2

pub is_home : {M S : Type 0} (meaning : M → Meaning S) (n : Contents M) (m : M) (model : Meaning S) (start : Start S) → slice_get n.models start.component ≡ Some m → meaning m ≡ model → start.micro_limit ≡ n.micro_limit
    → IsHome (network_of meaning n) model start
is_home meaning n m model start there same limit = record {
  model_is = λ s. get_or_from_slice_get (map meaning n.models) start.component (meaning m) _ (slice_get-map meaning n.models start.component ∙ ap (option_map meaning) there) ∙ same;
  limit_is = sym limit;
}

module _ {M S : Type 0} {meaning : M → Meaning S} {n : Contents M} {until end gvt : ℕ} {ps : List (Held M S)} {mail : List (List Item)} {columns : List (List Record)} (h : IsHeld meaning n until end gvt ps mail columns)
    (model : Meaning S) (r : SoloRun S) (cause : Cause) (old new : Held M S) (finished : Finished) (home : IsHome (network_of meaning n) model r.start) (run : IsSoloRun model r) (bound : r.start.before ≤ stamp until 0 0)
    (at : slice_get ps r.start.component ≡ Some old) (made : IsInstalled (network_of meaning n) r cause old.process new.process finished) (others : new ≡ record old { process = new.process; spare = new.spare }) where
  pub steps_made : shown (slice_set ps r.start.component new) mail columns gvt ≡ replay (network_of meaning n) until (shown ps mail columns gvt) (steps_of_one r.start.component finished.installed)
  steps_made =
      let law = install_law.steps (network_of meaning n) until (shown ps mail columns gvt) model r cause old.process new.process finished home run bound (process_at ps mail columns gvt r.start.component old at) made in
      sym (law.world ∙ ap (λ qs. record { processes = qs; mail = mail; columns = columns; gvt = gvt }) (changed ps mail columns gvt r.start.component new new.process refl))

  pub installed_held : IsHeld meaning n until end gvt (slice_set ps r.start.component new) mail columns
  installed_held =
      let o = h.own r.start.component old at in
      record {
        network = h.network;
        bound = h.bound;
        end_is = h.end_is;
        sound = subst (IsSound (network_of meaning n) until) (sym steps_made) (replay_sound (network_of meaning n) until (shown ps mail columns gvt) (steps_of_one r.start.component finished.installed) h.network h.bound h.sound);
        own = own_set h r.start.component new (subst (IsOwn n r.start.component) (sym others) (record { network_is = o.network_is; component_is = o.component_is; floor_le = omega (arith, o.floor_le, line_taken (network_of meaning n) r.start 0 _ old.process new.process made.takes) }));
      }
