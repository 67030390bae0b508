-- Models of a file, replaced by machines.
use Rattle.std.proofs.Common.{◌≡◌, ℕ, ℤ, zero, suc, ◌≤◌, List, [], ◌∷◌, map, Bool, true, false, Option, Some, None, refl, ap, sym, subst, ◌∙◌}
use Rattle.std.specs.Prelude.{FitsSigned}
use Rattle.std.specs.List.{AllByRecursion as Each}
use Rattle.std.specs.Int.{w64, cast_unsigned, cast_signed}
use Rattle.std.proofs.lemmas.Int.{to_z-of_z}
use Rattle.tw_atomic.specs.Atomic.{Meaning}
use Rattle.tw_vtime.specs.Stamps.{max_tick}
use Rattle.tw_msgs.specs.declared.record.Record.{Record}
use Rattle.tw_theory.specs.Network.{Network}
use Rattle.tw_theory.specs.Simulator.{sequential}
use Rattle.tw_models.specs.Model.{gen_part, part_or, queue_part, relay_part, tally_part, within}
use Rattle.tw_models.specs.declared.model.Model.TheVariants as model
use Rattle.tw_models.specs.declared.model.State.TheVariants.{OfGen, OfTally, OfRelay, OfQueue}
use Rattle.tw_any_model.specs.AnyModel.{any_meaning, built_in_part, machine_part}
use Rattle.tw_any_model.specs.declared.any_model.AnyModel.{AnyModel}
use Rattle.tw_any_model.specs.declared.any_model.AnyModel.TheVariants.{BuiltIn, Machine}
use Rattle.tw_any_model.specs.declared.any_model.AnyState.{AnyState}
use Rattle.tw_any_model.specs.declared.any_model.AnyState.TheVariants.{OfBuiltIn, OfMachine}
use Rattle.tw_machine_laws.specs.Adder.{TallyStands}
use Rattle.tw_machine_laws.specs.Bisimulation.{IsBisimulation, modulo}
use Rattle.tw_machine_laws.specs.Holder.{RelayStands}
use Rattle.tw_machine_laws.specs.Line.{QueueStands}
use Rattle.tw_machine_laws.specs.Maker.{GenStands}
use Rattle.tw_machine_laws.specs.Networks.{AreBisimilar, AreShownAlike, HasWordsThatFit, NetworksLaw, Shown, as_machine, replaced, shown, with_models}
use Rattle.tw_machine_laws.proofs.Adders.{tally_stands}
use Rattle.tw_machine_laws.proofs.Holders.{relay_stands}
use Rattle.tw_machine_laws.proofs.Lines.{queue_stands}
use Rattle.tw_machine_laws.proofs.Makers.{gen_stands}
use Rattle.tw_machine_laws.proofs.Runs.{run_same}

-- ---- parts of states

abbrev IfBoth : {A B : Type 0} → (A → B → Type 0) → Option A → Option B → Type 0
IfBoth R (Some a) (Some b) = R a b
IfBoth R None b = ⊥
IfBoth R (Some a) None = ⊥

-- parts that cannot be told apart make wholes that cannot
module _ {A B S T : Type 0} (R : A → B → Type 0) (m : Meaning A) (n : Meaning B) (whole : A → S) (part : S → Option A) (whole' : B → T) (part' : T → Option B)
    (is : (a : A) → part (whole a) ≡ Some a) (is' : (b : B) → part' (whole' b) ≡ Some b) (same : IsBisimulation R m n) where
  abbrev pub Parts : S → T → Type 0
  Parts s t = IfBoth R (part s) (part' t)

  wholes : (a : A) (b : B) → R a b → Parts (whole a) (whole' b)
  wholes a b r = subst (λ (o : Option A). IfBoth R o (part' (whole' b))) (sym (is a)) (subst (λ (p : Option B). IfBoth R (Some a) p) (sym (is' b)) r)

  turn : (f : A → A) (g : B → B) → ((a : A) (b : B) → R a b → R (f a) (g b)) → (s : S) (t : T) → Parts s t → Parts (part_or s (λ a. whole (f a)) (part s)) (part_or t (λ b. whole' (g b)) (part' t))
  turn f g keeps s t r = by (part s) (part' t) r
    where
      by : (o : Option A) (p : Option B) → IfBoth R o p → Parts (part_or s (λ a. whole (f a)) o) (part_or t (λ b. whole' (g b)) p)
      by (Some a) (Some b) r = wholes (f a) (g b) (keeps a b r)
      by (Some a) None r = absurd r
      by None p r = absurd r

  waits-as : (o : Option A) (p : Option B) → IfBoth R o p → part_or None n.ta p ≡ part_or None m.ta o
  waits-as (Some a) (Some b) r = same.waits a b r
  waits-as (Some a) None r = absurd r
  waits-as None p r = absurd r

  sends-as : (o : Option A) (p : Option B) → IfBoth R o p → (elapsed : ℕ) → part_or None m.ta o ≡ Some elapsed → part_or [] n.out p ≡ part_or [] m.out o
  sends-as (Some a) (Some b) r elapsed due = same.sends a b r elapsed due
  sends-as (Some a) None r elapsed due = absurd r
  sends-as None p r elapsed due = absurd r

  shows-as : (o : Option A) (p : Option B) → IfBoth R o p → modulo (part_or [] n.words p) ≡ modulo (part_or [] m.words o)
  shows-as (Some a) (Some b) r = same.shows a b r
  shows-as (Some a) None r = absurd r
  shows-as None p r = absurd r

  pub parts_stand : IsBisimulation Parts (within whole part m) (within whole' part' n)
  parts_stand =
      record {
        start = wholes m.start n.start same.start;
        waits = λ s t r. waits-as (part s) (part' t) r;
        sends = λ s t r elapsed due. sends-as (part s) (part' t) r elapsed due;
        shows = λ s t r. shows-as (part s) (part' t) r;
        int = λ s t r. turn m.int n.int same.int s t r;
        ext = λ s t r elapsed bag some. turn (λ a. m.ext a elapsed bag) (λ b. n.ext b elapsed bag) (λ a b h. same.ext a b h elapsed bag some) s t r;
        con = λ s t r elapsed bag some. turn (λ a. m.con a elapsed bag) (λ b. n.con b elapsed bag) (λ a b h. same.con a b h elapsed bag some) s t r;
      }

-- ---- models as they are

abbrev Equal : {S : Type 0} → S → S → Type 0
Equal s t = t ≡ s

itself : {S : Type 0} (m : Meaning S) → IsBisimulation Equal m m
itself m =
    record {
      start = refl;
      waits = λ s t r. ap m.ta r;
      sends = λ s t r elapsed due. ap m.out r;
      shows = λ s t r. ap (λ u. modulo (m.words u)) r;
      int = λ s t r. ap m.int r;
      ext = λ s t r elapsed bag some. ap (λ u. m.ext u elapsed bag) r;
      con = λ s t r elapsed bag some. ap (λ u. m.con u elapsed bag) r;
    }

-- ---- models of files

abbrev id : {A : Type 0} → A → A
id a = a

abbrev GenParts : AnyState → AnyState → Type 0
GenParts s t = IfBoth (λ s t. IfBoth GenStands (gen_part s) (Some t)) (built_in_part s) (machine_part t)

abbrev TallyParts : AnyState → AnyState → Type 0
TallyParts s t = IfBoth (λ s t. IfBoth TallyStands (tally_part s) (Some t)) (built_in_part s) (machine_part t)

abbrev RelayParts : AnyState → AnyState → Type 0
RelayParts s t = IfBoth (λ s t. IfBoth RelayStands (relay_part s) (Some t)) (built_in_part s) (machine_part t)

abbrev QueueParts : AnyState → AnyState → Type 0
QueueParts s t = IfBoth (λ s t. IfBoth QueueStands (queue_part s) (Some t)) (built_in_part s) (machine_part t)

-- which states stand for which where a model is replaced by its machine
abbrev Stands : AnyModel → AnyState → AnyState → Type 0
Stands (BuiltIn (model.Gen g)) = GenParts
Stands (BuiltIn model.Tally) = TallyParts
Stands (BuiltIn (model.Relay r)) = RelayParts
Stands (BuiltIn (model.Queue q)) = QueueParts
Stands (BuiltIn (model.Hop h)) = Equal
Stands (Machine m) = Equal

machine_stands : (m : AnyModel) → IsBisimulation (Stands m) (any_meaning m) (any_meaning (as_machine m))
machine_stands (BuiltIn (model.Gen g)) =
    parts_stand (λ s t. IfBoth GenStands (gen_part s) (Some t)) _ _ OfBuiltIn built_in_part OfMachine machine_part (λ s. refl) (λ s. refl)
    (parts_stand GenStands _ _ OfGen gen_part id Some (λ s. refl) (λ s. refl) (gen_stands g))
machine_stands (BuiltIn model.Tally) =
    parts_stand (λ s t. IfBoth TallyStands (tally_part s) (Some t)) _ _ OfBuiltIn built_in_part OfMachine machine_part (λ s. refl) (λ s. refl)
    (parts_stand TallyStands _ _ OfTally tally_part id Some (λ s. refl) (λ s. refl) tally_stands)
machine_stands (BuiltIn (model.Relay r)) =
    parts_stand (λ s t. IfBoth RelayStands (relay_part s) (Some t)) _ _ OfBuiltIn built_in_part OfMachine machine_part (λ s. refl) (λ s. refl)
    (parts_stand RelayStands _ _ OfRelay relay_part id Some (λ s. refl) (λ s. refl) (relay_stands r))
machine_stands (BuiltIn (model.Queue q)) =
    parts_stand (λ s t. IfBoth QueueStands (queue_part s) (Some t)) _ _ OfBuiltIn built_in_part OfMachine machine_part (λ s. refl) (λ s. refl)
    (parts_stand QueueStands _ _ OfQueue queue_part id Some (λ s. refl) (λ s. refl) (queue_stands q))
machine_stands (BuiltIn (model.Hop h)) = itself (any_meaning (BuiltIn (model.Hop h)))
machine_stands (Machine m) = itself (any_meaning (Machine m))

-- of the model at a place; past the last one, states are equal
abbrev StandsAt : List Bool → List AnyModel → ℕ → AnyState → AnyState → Type 0
StandsAt [] ms c = Equal
StandsAt (b ∷ bs) [] c = Equal
StandsAt (true ∷ bs) (m ∷ ms) zero = Stands m
StandsAt (false ∷ bs) (m ∷ ms) zero = Equal
StandsAt (b ∷ bs) (m ∷ ms) (suc c) = StandsAt bs ms c

-- from a place on
shifted : (R : ℕ → AnyState → AnyState → Type 0) (c : ℕ) (ms ns : List (Meaning AnyState)) → AreBisimilar (λ k. R (suc k)) c ms ns → AreBisimilar R (suc c) ms ns
shifted R c [] [] all = tt
shifted R c (m ∷ ms) (n ∷ ns) all = (all.0, shifted R (suc c) ms ns all.1)
shifted R c [] (n ∷ ns) all = absurd all
shifted R c (m ∷ ms) [] all = absurd all

all-equal : (c : ℕ) (ms : List AnyModel) → AreBisimilar (λ k. Equal) c (map any_meaning ms) (map any_meaning ms)
all-equal c [] = tt
all-equal c (m ∷ ms) = (itself (any_meaning m), all-equal (suc c) ms)

all_stand : (which : List Bool) (models : List AnyModel) → AreBisimilar (StandsAt which models) 0 (map any_meaning models) (map any_meaning (replaced which models))
all_stand [] ms = all-equal 0 ms
all_stand (b ∷ bs) [] = tt
all_stand (true ∷ bs) (m ∷ ms) = (machine_stands m, shifted (StandsAt (true ∷ bs) (m ∷ ms)) 0 (map any_meaning ms) (map any_meaning (replaced bs ms)) (all_stand bs ms))
all_stand (false ∷ bs) (m ∷ ms) = (itself (any_meaning m), shifted (StandsAt (false ∷ bs) (m ∷ ms)) 0 (map any_meaning ms) (map any_meaning (replaced bs ms)) (all_stand bs ms))

-- ---- the law

both : (net : Network AnyState) (models : List AnyModel) (which : List Bool) (until : ℕ) → net.models ≡ map any_meaning models → until ≤ max_tick
    → AreShownAlike (sequential net until).records (sequential (with_models net (map any_meaning (replaced which models))) until).records
    × ((sequential (with_models net (map any_meaning (replaced which models))) until).fault ≡ (sequential net until).fault)
both net models which until is within =
    subst (λ (ms : List (Meaning AnyState)). AreShownAlike (sequential (with_models net ms) until).records (sequential (with_models net (map any_meaning (replaced which models))) until).records
    × ((sequential (with_models net (map any_meaning (replaced which models))) until).fault ≡ (sequential (with_models net ms) until).fault))
    (sym is)
    (run_same (StandsAt which models) (map any_meaning models) (map any_meaning (replaced which models)) net.couplings net.inputs net.micro_limit (all_stand which models) until within)

abbrev first-of : {A : Type 0} → A → List A → A
first-of d [] = d
first-of d (x ∷ xs) = x

abbrev rest-of : {A : Type 0} → List A → List A
rest-of [] = []
rest-of (x ∷ xs) = xs

words-same : (olds bs : List ℤ) → modulo bs ≡ modulo olds → Each (FitsSigned w64) olds → Each (FitsSigned w64) bs → bs ≡ olds
words-same [] [] e f g = refl
words-same [] (b ∷ bs) e f g = absurd (cc e)
words-same (a ∷ olds) [] e f g = absurd (cc e)
words-same (a ∷ olds) (b ∷ bs) e f g =
    let head : cast_unsigned w64 b ≡ cast_unsigned w64 a = ap (first-of 0) e in
    let one : b ≡ a = sym (to_z-of_z w64 b g.0) ∙ ap (cast_signed w64) head ∙ to_z-of_z w64 a f.0 in
    λ i. one i ∷ words-same olds bs (ap rest-of e) f.1 g.1 i

record-same : (a b : Record) → shown b ≡ shown a → HasWordsThatFit a → HasWordsThatFit b → b ≡ a
record-same a b e f g =
    let words = words-same a.words b.words (ap (λ (s : Shown). s.words) e) f g in
    λ i. record { component = (e i).component; stamp = (e i).stamp; kind = (e i).kind; bag = (e i).bag; words = words i }

records-same : (olds bs : List Record) → AreShownAlike olds bs → Each HasWordsThatFit olds → Each HasWordsThatFit bs → bs ≡ olds
records-same [] [] e f g = refl
records-same [] (b ∷ bs) e f g = absurd (cc e)
records-same (a ∷ olds) [] e f g = absurd (cc e)
records-same (a ∷ olds) (b ∷ bs) e f g = λ i. record-same a b (ap (first-of (shown a)) e) f.0 g.0 i ∷ records-same olds bs (ap rest-of e) f.1 g.1 i

pub networks : NetworksLaw
networks =
    record {
      run = λ net models which until is within. (both net models which until is within).0;
      fault = λ net models which until is within. (both net models which until is within).1;
      same = records-same;
    }
