-- The holder stands for the relay.
use Rattle.std.proofs.Common.{◌≡◌, ◌≢◌, ℕ, ℤ, zero, suc, ◌≤◌, ◌++◌, ◌∷◌, [], List, length, take, drop, map, refl, ap, arith, ◌∙◌, Option, Some, None, append-nil, drop_of_length-le, take_all}
use Rattle.std.specs.Prelude.{slice_index_or}
use Rattle.std.specs.Int.{w64, cast_signed, cast_unsigned}
use Rattle.tw_atomic.specs.Atomic.{Bag}
use Rattle.tw_machine.specs.declared.memory.Input.{Input}
use Rattle.tw_machine.specs.declared.memory.State.{State}
use Rattle.tw_machine.specs.declared.language.Statement.{Statement}
use Rattle.tw_machine.specs.declared.language.Statement.TheVariants.{Skip}
use Rattle.tw_machine.specs.Memory.{QueueValue, MemoryValue, no_queue}
use Rattle.tw_machine.specs.Seen.{both}
use Rattle.tw_machine.specs.Machine as machine
use Rattle.tw_machine.specs.Machine.{later, machine_ext, machine_int, machine_meaning, machine_out, moved, own_input, ticks_of, time, time_left}
use Rattle.tw_machine.specs.Running.{at_turn, run, turns}
use Rattle.tw_models.specs.Relay.{relay_ext, relay_int, relay_meaning}
use Rattle.tw_models.specs.Queue.{later_jobs}
use Rattle.tw_models.specs.Parameters.{RelayParameters}
use Rattle.tw_models.specs.declared.relay.RelayState.{RelayState}
use Rattle.tw_machine_laws.specs.Bisimulation.{IsBisimulation, modulo}
use Rattle.tw_machine_laws.specs.Holder.{RelayStands, all_held, holder, lets_go}
use Rattle.tw_machine_laws.proofs.Counts.{shown}
use Rattle.tw_machine_laws.proofs.Intakes.{accepted-within, bag_comes, begun_by-is, is_kept, kept, pop, popped, waits-with}

-- ---- letting go

abbrev pops : Statement
pops = both Skip pop

later-drop : (n : ℕ) (items : List ℤ) → later_jobs (drop n items) ≡ drop (suc n) items
later-drop zero [] = refl
later-drop zero (v ∷ vs) = refl
later-drop (suc n) [] = refl
later-drop (suc n) (v ∷ vs) = later-drop n vs

all-popped : (n : ℕ) (c : ℤ) (items : List ℤ) (room : ℕ) (left : Option ℕ) (i : Input) (u : State)
    → turns n (λ k r. run pops [] (at_turn i k) r) (kept c items room left u) ≡ kept c (drop n items) room left u
all-popped zero c items room left i u = refl
all-popped (suc n) c items room left i u =
    ap (λ (r : State). run pops [] (at_turn i n) r) (all-popped n c items room left i u)
    ∙ popped c (drop n items) room left (at_turn i n) u
    ∙ ap (λ (vs : List ℤ). kept c vs room left u) (later-drop n items)

int-stands : (r : RelayParameters) (s : RelayState) (t : State) → RelayStands s t → RelayStands (relay_int s) (machine_int (holder r) t)
int-stands r s t h =
    let elapsed = ticks_of t.left in
    let i = own_input elapsed (later t.time elapsed) in
    let u = moved t elapsed None in
    let c = cast_signed w64 s.dropped in
    let is : run lets_go [] i u ≡ kept c [] 32 None u =
    ap (run lets_go [] i) (is_kept 32 s.held.items s.dropped None u (record { cells = h.cells; queues = h.queues; left = refl }))
    ∙ all-popped 32 c s.held.items 32 None i u
    ∙ ap (λ (vs : List ℤ). kept c vs 32 None u) (drop_of_length-le s.held.items h.room) in
    record {
      cells = ap (λ (v : State). v.memory.cells) is;
      queues = ap (λ (v : State). v.memory.queues) is;
      left = ap (λ (v : State). v.left) is;
      dropped = h.dropped;
      room = omega arith;
      waits = tt;
    }

-- ---- what comes

ext-stands : (r : RelayParameters) (s : RelayState) (t : State) (elapsed : ℕ) (bag : Bag) → bag ≢ [] → RelayStands s t → RelayStands (relay_ext r s elapsed bag) (machine_ext (holder r) t elapsed bag)
ext-stands r s t elapsed bag some h =
    let rest = machine.minus t.left elapsed in
    let u = moved t elapsed rest in
    let all = bag_comes bag r.delay 32 s.held.items s.dropped (machine.minus s.left elapsed) u (time elapsed) (time_left rest) (time (later t.time elapsed)) h.dropped (omega arith) h.room
    (record { cells = h.cells; queues = h.queues; left = ap (λ (left : Option ℕ). machine.minus left elapsed) h.left }) in
    record {
      cells = all.keeps.cells;
      queues = all.keeps.queues;
      left = all.keeps.left ∙ begun_by-is bag s.held.items r.delay s.left elapsed some;
      dropped = omega arith;
      room = accepted-within 32 s.held.items bag h.room;
      waits = waits-with 32 s.held.items bag r.delay s.left elapsed some (omega arith) h.waits;
    }

-- ---- what is sent and shown

abbrev on_zero : ℤ → ℕ × ℤ
on_zero v = (0, v)

each : (numbers : List ℤ) (i : Input) (m : MemoryValue) (k : ℕ) (items : List ℤ) → machine.offered_each all_held numbers i m k items ≡ map on_zero items
each numbers i m k [] = refl
each numbers i m k (v ∷ vs) = ap (λ bag. on_zero v ∷ bag) (each numbers i m (suc k) vs)

few : (items : List ℤ) → length items ≤ 32 → length (map on_zero items) ≤ 64
few items h = omega (arith, h, same items)
  where
    same : (vs : List ℤ) → length (map on_zero vs) ≡ length vs
    same [] = refl
    same (v ∷ vs) = ap suc (same vs)

sends-same : (r : RelayParameters) (s : RelayState) (t : State) → RelayStands s t → (elapsed : ℕ) → s.left ≡ Some elapsed → machine_out (holder r) t ≡ map on_zero s.held.items
sends-same r s t h elapsed due =
    let gone = ticks_of t.left in
    let i = own_input gone (later t.time gone) in
    let numbers = (holder r).numbers in
    ap (λ (queues : List QueueValue). take 64 (machine.offered_each all_held numbers i t.memory 0 (slice_index_or queues 0 no_queue).items ++ [])) h.queues
    ∙ ap (λ (bag : Bag). take 64 (bag ++ [])) (each numbers i t.memory 0 s.held.items)
    ∙ ap (λ (bag : Bag). take 64 bag) (append-nil (map on_zero s.held.items))
    ∙ take_all 64 (map on_zero s.held.items) (few s.held.items h.room)

shows-same : (r : RelayParameters) (s : RelayState) (t : State) → RelayStands s t → modulo ((machine_meaning (holder r)).words t) ≡ modulo ((relay_meaning r).words s)
shows-same r s t h =
    ap (λ (v : State). modulo ((machine_meaning (holder r)).words v)) (is_kept 32 s.held.items s.dropped s.left t (record { cells = h.cells; queues = h.queues; left = h.left }))
    ∙ ap (λ (items : List ℤ). cast_unsigned w64 (cast_signed w64 s.dropped) ∷ map (cast_unsigned w64) items) (append-nil s.held.items)
    ∙ ap (λ (n : ℕ). n ∷ map (cast_unsigned w64) s.held.items) (shown s.dropped h.dropped)

pub relay_stands : (r : RelayParameters) → IsBisimulation RelayStands (relay_meaning r) (machine_meaning (holder r))
relay_stands r =
    record {
      start = record { cells = refl; queues = refl; left = refl; dropped = omega arith; room = omega arith; waits = tt };
      waits = λ s t h. h.left;
      sends = sends-same r;
      shows = shows-same r;
      int = int-stands r;
      ext = λ s t h elapsed bag some. ext-stands r s t elapsed bag some h;
      con = λ s t h elapsed bag some. ext-stands r (relay_int s) (machine_int (holder r) t) 0 bag some (int-stands r s t h);
    }
