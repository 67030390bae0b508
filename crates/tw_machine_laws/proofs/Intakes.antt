-- What comes to the first queue of a machine, as to the list of a relay or a queue.
use Rattle.std.proofs.Common.{◌≡◌, ◌≢◌, ℕ, ℤ, zero, suc, ◌+◌, ◌-◌, ◌%◌, ◌<◌, ◌≤◌, ◌++◌, ◌∷◌, [], List, length, take, refl, ap, sym, subst, arith, ◌∙◌, Bool, true, false, Option, Some, None, append_assoc, append-nil, Less, Greater, Equal}
use Rattle.std.specs.Prelude.{pos, nat_lt, cond, if◌then◌else◌}
use Rattle.std.specs.List.{insert}
use Rattle.std.specs.Ordering.{int_eq, is_eq}
use Rattle.std.specs.Int.{w64, cast_signed, int_wrapping_add}
use Rattle.std.proofs.lemmas.Bool.{ltb-true, ltb-false, lt-ltb, le-ltb}
use Rattle.tw_atomic.specs.Atomic.{Bag}
use Rattle.tw_machine.specs.declared.memory.State.{State}
use Rattle.tw_machine.specs.Memory.{QueueValue}
use Rattle.tw_machine.specs.Machine as machine
use Rattle.tw_machine.specs.Machine.{item_input, run_all}
use Rattle.tw_machine.specs.Running.{run, with_left}
use Rattle.tw_machine.specs.declared.language.Statement.{Statement}
use Rattle.tw_machine.specs.declared.language.Statement.TheVariants.{Take}
use Rattle.tw_machine.specs.declared.language.Target.TheVariants.{Single}
use Rattle.tw_machine.specs.declared.language.Which.TheVariants.{Foremost}
use Rattle.tw_machine.specs.declared.memory.Input.{Input}
use Rattle.tw_models.specs.Queue.{later_jobs}
use Rattle.tw_machine.specs.Values.{bit, is_set}
use Rattle.tw_models.specs.Intake.{WaitsWith, accepted_values, dropped_after, left_after, values_of}
use Rattle.tw_machine_laws.specs.Intake.{begins, drops, pushes, takes_in}
use Rattle.tw_machine_laws.proofs.Counts.{insert-end, more, none-more, same-minus, take-nil}

-- a state with one register, one queue and this time left
abbrev pub kept : ℤ → List ℤ → ℕ → Option ℕ → State → State
kept c items room left u = record { memory = record { cells = c ∷ []; queues = record { items = items; room = room } ∷ []; random = u.memory.random }; time = u.time; left = left }

pub record Keeps (room : ℕ) (items : List ℤ) (d : ℕ) (rest : Option ℕ) (u : State) : Type 0 where
  pub cells : u.memory.cells ≡ cast_signed w64 d ∷ []
  pub queues : u.memory.queues ≡ record { items = items; room = room } ∷ []
  pub left : u.left ≡ rest

abbrev with_parts : List ℤ → List QueueValue → Option ℕ → State → State
with_parts cells queues left u = record { memory = record { cells = cells; queues = queues; random = u.memory.random }; time = u.time; left = left }

-- what keeps them is such a state
pub is_kept : (room : ℕ) (items : List ℤ) (d : ℕ) (left : Option ℕ) (u : State) → Keeps room items d left u → u ≡ kept (cast_signed w64 d) items room left u
is_kept room items d left u r =
    ap (λ (cells : List ℤ). with_parts cells u.memory.queues u.left u) r.cells
    ∙ ap (λ (queues : List QueueValue). with_parts (cast_signed w64 d ∷ []) queues u.left u) r.queues
    ∙ ap (λ (l : Option ℕ). with_parts (cast_signed w64 d ∷ []) (record { items = items; room = room } ∷ []) l u) r.left

-- ---- the first value leaves

abbrev pub pop : Statement
pop = Take (Single 0) Foremost

abbrev popped-if : Bool → ℤ → ℤ → List ℤ → ℕ → Option ℕ → State → State
popped-if there c v vs room left u =
    record {
      memory = if there then record { cells = c ∷ []; queues = record { items = vs; room = room } ∷ []; random = u.memory.random }
          else record { cells = c ∷ []; queues = record { items = v ∷ vs; room = room } ∷ []; random = u.memory.random };
      time = u.time;
      left = left;
    }

pub popped : (c : ℤ) (items : List ℤ) (room : ℕ) (left : Option ℕ) (i : Input) (u : State) → run pop [] i (kept c items room left u) ≡ kept c (later_jobs items) room left u
popped c [] room left i u = refl
popped c (v ∷ vs) room left i u = ap (λ (there : Bool). popped-if there c v vs room left u) (lt-ltb 0 (suc (length vs)) (omega arith))

-- ---- a value comes

-- the time left behind an item: a whole wait begins where there was nothing
abbrev pub begun : List ℤ → ℕ → Option ℕ → Option ℕ
begun [] wait left = Some wait
begun (v ∷ vs) wait left = left

-- behind a bag
abbrev pub begun_by : Bag → List ℤ → ℕ → Option ℕ → Option ℕ
begun_by [] items wait left = left
begun_by (x ∷ xs) items wait left = begun items wait left

-- one item, by whether the queue is full and whether it has room
abbrev took : Bool → Bool → ℤ → List ℤ → ℕ → ℤ → Option ℕ → State → State
took full roomy c items room v left u =
    let counted = int_wrapping_add w64 c (bit full) in
    record {
      memory = if roomy then record { cells = counted ∷ []; queues = record { items = insert items (length items) v; room = room } ∷ []; random = u.memory.random }
          else record { cells = counted ∷ []; queues = record { items = items; room = room } ∷ []; random = u.memory.random };
      time = u.time;
      left = left;
    }

-- more than nothing
pub some-lt : (n : ℕ) → nat_lt 0 (suc n) ≡ true
some-lt n = lt-ltb 0 (suc n) (omega arith)

-- where there is something no wait begins
goes-on : (wait room : ℕ) (v : ℤ) (vs : List ℤ) (c : ℤ) (left : Option ℕ) (u : State) (i : Input) → run (begins wait) [] i (kept c (v ∷ vs) room left u) ≡ kept c (v ∷ vs) room left u
goes-on wait room v vs c left u i =
    let s = kept c (v ∷ vs) room left u in
    ap (λ (t : Bool). if is_set (bit (is_eq (cond t Less (cond (nat_lt 0 (suc (length vs))) Greater Equal)))) then with_left s (Some wait) else s) (le-ltb (suc (length vs)) 0 (omega arith))
    ∙ ap (λ (t : Bool). if is_set (bit (is_eq (cond t Greater Equal))) then with_left s (Some wait) else s) (some-lt (length vs))

takes : (wait room : ℕ) (items : List ℤ) (c : ℤ) (left : Option ℕ) (u : State) (e l k : ℤ) (item : ℕ × ℤ)
    → run (takes_in wait) [] (item_input e l k item) (kept c items room left u) ≡ took (int_eq (pos (length items)) (pos room)) (nat_lt (length items) room) c items room item.1 (begun items wait left) u
takes wait room [] c left u e l k item = refl
takes wait room (v ∷ vs) c left u e l k item = ap (λ (s : State). run pushes [] (item_input e l k item) (run drops [] (item_input e l k item) s)) (goes-on wait room v vs c left u (item_input e l k item))

-- a count below another, and one that is not
apart : (a b : ℕ) → nat_lt a b ≡ true → int_eq (pos a) (pos b) ≡ false
apart a b e = ap (λ (t : Bool). is_eq (cond t Less (cond (nat_lt b a) Greater Equal))) e

same : (a b : ℕ) → nat_lt a b ≡ false → nat_lt b a ≡ false → int_eq (pos a) (pos b) ≡ true
same a b e f = ap (λ (t : Bool). is_eq (cond t Less (cond (nat_lt b a) Greater Equal))) e ∙ ap (λ (t : Bool). is_eq (cond t Greater Equal)) f

-- there is room for it
comes : (wait room : ℕ) (items : List ℤ) (d : ℕ) (left : Option ℕ) (u : State) (e l k : ℤ) (item : ℕ × ℤ) → d < 18446744073709551616
    → int_eq (pos (length items)) (pos room) ≡ false → nat_lt (length items) room ≡ true → Keeps room items d left u
    → Keeps room (items ++ item.1 ∷ []) d (begun items wait left) (run (takes_in wait) [] (item_input e l k item) u)
comes wait room items d left u e l k item fits full roomy r =
    let c = cast_signed w64 d in
    let i = item_input e l k item in
    let is : run (takes_in wait) [] i u ≡ took false true c items room item.1 (begun items wait left) u =
    ap (run (takes_in wait) [] i) (is_kept room items d left u r)
    ∙ takes wait room items c left u e l k item
    ∙ ap (λ (b : Bool). took b (nat_lt (length items) room) c items room item.1 (begun items wait left) u) full
    ∙ ap (λ (b : Bool). took false b c items room item.1 (begun items wait left) u) roomy in
    record {
      cells = ap (λ (s : State). s.memory.cells) is ∙ ap (λ (n : ℤ). n ∷ []) (none-more d fits);
      queues = ap (λ (s : State). s.memory.queues) is ∙ ap (λ (vs : List ℤ). record { items = vs; room = room } ∷ []) (insert-end items item.1);
      left = ap (λ (s : State). s.left) is;
    }

-- there is none
falls : (wait room : ℕ) (items : List ℤ) (d : ℕ) (left : Option ℕ) (u : State) (e l k : ℤ) (item : ℕ × ℤ) → d < 18446744073709551616
    → int_eq (pos (length items)) (pos room) ≡ true → nat_lt (length items) room ≡ false → Keeps room items d left u
    → Keeps room items ((d + 1) % 18446744073709551616) (begun items wait left) (run (takes_in wait) [] (item_input e l k item) u)
falls wait room items d left u e l k item fits full roomy r =
    let c = cast_signed w64 d in
    let i = item_input e l k item in
    let is : run (takes_in wait) [] i u ≡ took true false c items room item.1 (begun items wait left) u =
    ap (run (takes_in wait) [] i) (is_kept room items d left u r)
    ∙ takes wait room items c left u e l k item
    ∙ ap (λ (b : Bool). took b (nat_lt (length items) room) c items room item.1 (begun items wait left) u) full
    ∙ ap (λ (b : Bool). took true b c items room item.1 (begun items wait left) u) roomy in
    record {
      cells = ap (λ (s : State). s.memory.cells) is ∙ ap (λ (n : ℤ). n ∷ []) (more d 1 fits);
      queues = ap (λ (s : State). s.memory.queues) is;
      left = ap (λ (s : State). s.left) is;
    }

-- what is kept is no empty list once something came
begun-more : (bag : Bag) (items : List ℤ) (v : ℤ) (wait : ℕ) (left : Option ℕ) → begun_by bag (items ++ v ∷ []) wait left ≡ left
begun-more [] items v wait left = refl
begun-more (x ∷ xs) [] v wait left = refl
begun-more (x ∷ xs) (w ∷ ws) v wait left = refl

begun-full : (bag : Bag) (items : List ℤ) (room wait : ℕ) (left : Option ℕ) → nat_lt (length items) room ≡ false → 0 < room → begun_by bag items wait (begun items wait left) ≡ begun items wait left
begun-full [] items room wait left full some = refl
begun-full (x ∷ xs) [] room wait left full some = refl
begun-full (x ∷ xs) (w ∷ ws) room wait left full some = refl

length-one-more : (items : List ℤ) (v : ℤ) → length (items ++ v ∷ []) ≡ suc (length items)
length-one-more [] v = refl
length-one-more (w ∷ ws) v = ap suc (length-one-more ws v)

-- one value of those that find room
accepted-one : (room : ℕ) (items : List ℤ) (item : ℕ × ℤ) (rest : Bag) → length items < room
    → (items ++ item.1 ∷ []) ++ accepted_values room (items ++ item.1 ∷ []) rest ≡ items ++ accepted_values room items (item ∷ rest)
accepted-one room items item rest lt =
    let fewer : room - length items ≡ suc (room - length (items ++ item.1 ∷ [])) = rw (length-one-more items item.1) (omega (arith, lt)) in
    append_assoc items (item.1 ∷ []) (accepted_values room (items ++ item.1 ∷ []) rest) ∙ ap (λ (n : ℕ). items ++ values_of (take n (item ∷ rest))) (sym fewer)

accepted-none : (room : ℕ) (items : List ℤ) (bag : Bag) → room ≤ length items → items ++ accepted_values room items bag ≡ items
accepted-none room items bag full =
    let none : room - length items ≡ 0 = omega (arith, full) in
    ap (λ (n : ℕ). items ++ values_of (take n bag)) none ∙ append-nil items

-- ---- a bag

pub record Took (room : ℕ) (wait : ℕ) (items : List ℤ) (d : ℕ) (left : Option ℕ) (bag : Bag) (u : State) : Type 0 where
  pub keeps : Keeps room (items ++ accepted_values room items bag) (dropped_after room items d bag) (begun_by bag items wait left) u

-- from what is kept to what is kept behind a bag
abbrev Comes : Bag → ℕ → ℕ → Type 0
Comes bag wait room =
    (items : List ℤ) (d : ℕ) (left : Option ℕ) (u : State) (e l k : ℤ) → d < 18446744073709551616 → 0 < room → length items ≤ room
    → Keeps room items d left u → Took room wait items d left bag (run_all (takes_in wait) [] e l k bag u)

none-comes : (wait room : ℕ) → Comes [] wait room
none-comes wait room items d left u e l k fits some within r =
    record {
      keeps = record {
        cells = r.cells ∙ ap (λ (n : ℕ). cast_signed w64 n ∷ []) (omega (arith, fits));
        queues = r.queues ∙ ap (λ (vs : List ℤ). record { items = vs; room = room } ∷ []) (sym (ap (λ (taken : Bag). items ++ values_of taken) (take-nil (room - length items)) ∙ append-nil items));
        left = r.left;
      };
    }

one-comes : (item : ℕ × ℤ) (rest : Bag) (wait room : ℕ) → Comes rest wait room → Comes (item ∷ rest) wait room
one-comes item rest wait room later items d left u e l k fits some within r = by (nat_lt (length items) room) refl
  where
    by : (roomy : Bool) → nat_lt (length items) room ≡ roomy → Took room wait items d left (item ∷ rest) (run_all (takes_in wait) [] (pos 0) l k rest (run (takes_in wait) [] (item_input e l k item) u))
    by true roomy =
        let lt = ltb-true (length items) room roomy in
        let one = comes wait room items d left u e l k item fits (apart (length items) room roomy) roomy r in
        let more : length (items ++ item.1 ∷ []) ≤ room = omega (arith, lt, length-one-more items item.1) in
        let all = later (items ++ item.1 ∷ []) d (begun items wait left) (run (takes_in wait) [] (item_input e l k item) u) (pos 0) l k fits some more one in
        let count : dropped_after room (items ++ item.1 ∷ []) d rest ≡ dropped_after room items d (item ∷ rest) =
        ap (λ (n : ℕ). (d + n) % 18446744073709551616) (omega (arith, lt, length-one-more items item.1)) in
        record {
          keeps = record {
            cells = all.keeps.cells ∙ ap (λ (n : ℕ). cast_signed w64 n ∷ []) count;
            queues = all.keeps.queues ∙ ap (λ (vs : List ℤ). record { items = vs; room = room } ∷ []) (accepted-one room items item rest lt);
            left = all.keeps.left ∙ begun-more rest items item.1 wait (begun items wait left);
          };
        }
    by false roomy =
        let full = ltb-false (length items) room roomy in
        let one = falls wait room items d left u e l k item fits (same (length items) room roomy (le-ltb room (length items) within)) roomy r in
        let all = later items ((d + 1) % 18446744073709551616) (begun items wait left) (run (takes_in wait) [] (item_input e l k item) u) (pos 0) l k (omega arith) some within one in
        let count : dropped_after room items ((d + 1) % 18446744073709551616) rest ≡ dropped_after room items d (item ∷ rest) = omega (arith, full) in
        let none : items ++ accepted_values room items rest ≡ items ++ accepted_values room items (item ∷ rest) = accepted-none room items rest full ∙ sym (accepted-none room items (item ∷ rest) full) in
        record {
          keeps = record {
            cells = all.keeps.cells ∙ ap (λ (n : ℕ). cast_signed w64 n ∷ []) count;
            queues = all.keeps.queues ∙ ap (λ (vs : List ℤ). record { items = vs; room = room } ∷ []) none;
            left = all.keeps.left ∙ begun-full rest items room wait left roomy some;
          };
        }

pub bag_comes : (bag : Bag) (wait room : ℕ) → Comes bag wait room
bag_comes [] wait room = none-comes wait room
bag_comes (item ∷ rest) wait room = one-comes item rest wait room (bag_comes rest wait room)

-- ---- what relay and queue say of it

pub begun_by-is : (bag : Bag) (items : List ℤ) (wait : ℕ) (left : Option ℕ) (elapsed : ℕ) → bag ≢ [] → begun_by bag items wait (machine.minus left elapsed) ≡ left_after items left elapsed wait
begun_by-is [] items wait left elapsed some = absurd (some refl)
begun_by-is (x ∷ xs) [] wait left elapsed some = refl
begun_by-is (x ∷ xs) (v ∷ vs) wait left elapsed some = same-minus left elapsed

length-append-values : (items : List ℤ) (bag : Bag) (n : ℕ) → length (items ++ values_of (take n bag)) ≤ length items + n
length-append-values [] [] zero = omega arith
length-append-values [] [] (suc n) = omega arith
length-append-values [] (x ∷ xs) zero = omega arith
length-append-values [] (x ∷ xs) (suc n) = omega (arith, length-append-values [] xs n)
length-append-values (v ∷ vs) bag n = omega (arith, length-append-values vs bag n)

pub accepted-within : (room : ℕ) (items : List ℤ) (bag : Bag) → length items ≤ room → length (items ++ accepted_values room items bag) ≤ room
accepted-within room items bag within = omega (arith, within, length-append-values items bag (room - length items))

pub waits-with : (room : ℕ) (items : List ℤ) (bag : Bag) (wait : ℕ) (left : Option ℕ) (elapsed : ℕ) → bag ≢ [] → 0 < room → WaitsWith items left
    → WaitsWith (items ++ accepted_values room items bag) (left_after items left elapsed wait)
waits-with room items [] wait left elapsed some large waits = absurd (some refl)
waits-with zero [] (x ∷ xs) wait left elapsed some large waits = absurd (omega (arith, large))
waits-with (suc room) [] (x ∷ xs) wait left elapsed some large waits =
    let all : suc room ≡ suc room - 0 = omega arith in
    subst (λ (n : ℕ). WaitsWith (values_of (take n (x ∷ xs))) (Some wait)) all tt
waits-with room (v ∷ vs) (x ∷ xs) wait (Some l) elapsed some large waits = tt
waits-with room (v ∷ vs) (x ∷ xs) wait None elapsed some large waits = absurd waits
