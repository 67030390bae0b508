-- The numbers of parts: each above that of the model around it, and below how many there are.
use Rattle.std.proofs.Common.{◌≡◌, ℕ, ◌<◌, ◌≤◌, ◌+◌, List, [], ◌∷◌, arith, suc}
use Rattle.std.specs.List.{All}
use Rattle.std.proofs.lemmas.List.Elements.{All-append, All-cons, All-nil}
use Rattle.tw_nested.specs.Tree.{Parts, Link, Model, no_parts, atom, coupled, size, numbers, atoms_from, coupled_from, model_at}
use Rattle.tw_nested.specs.Paths.{IsModel}
use Rattle.tw_nested.specs.Whole.{all_models, AreLinked}

abbrev pub Between : ℕ → ℕ → ℕ → Type 0
Between low high c = (low ≤ c) × (c < high)

pub wider : (low high low' high' : ℕ) (xs : List ℕ) → low' ≤ low → high ≤ high' → All (Between low high) xs → All (Between low' high') xs
wider low high low' high' xs a b all i d lt = let p = (all i d lt).0 in let q = (all i d lt).1 in (omega (arith, a, p), omega (arith, b, q))

pub numbers_between : {M : Type 0} (n : ℕ) (parts : Parts M) → All (Between n (n + size parts)) (numbers n parts)
numbers_between n no_parts = All-nil (Between n (n + 0))
numbers_between n (atom name m rest) =
    All-cons (Between n (n + size (atom name m rest))) n (numbers (n + 1) rest) (omega arith, omega arith)
    (wider (n + 1) (n + 1 + size rest) n (n + suc (size rest)) (numbers (n + 1) rest) (omega arith) (omega arith) (numbers_between (n + 1) rest))
numbers_between n (coupled name inner links rest) =
    All-cons (Between n (n + suc (size inner + size rest))) n (numbers (n + 1 + size inner) rest) (omega arith, omega arith)
    (wider (n + 1 + size inner) (n + 1 + size inner + size rest) n (n + suc (size inner + size rest)) (numbers (n + 1 + size inner) rest) (omega arith) (omega arith) (numbers_between (n + 1 + size inner) rest))

pub atoms_between : {M : Type 0} (n : ℕ) (parts : Parts M) → All (Between n (n + size parts)) (atoms_from n parts)
atoms_between n no_parts = All-nil (Between n (n + 0))
atoms_between n (atom name m rest) =
    All-cons (Between n (n + suc (size rest))) n (atoms_from (n + 1) rest) (omega arith, omega arith)
    (wider (n + 1) (n + 1 + size rest) n (n + suc (size rest)) (atoms_from (n + 1) rest) (omega arith) (omega arith) (atoms_between (n + 1) rest))
atoms_between n (coupled name inner links rest) =
    All-append (Between n (n + suc (size inner + size rest))) (atoms_from (n + 1) inner) (atoms_from (n + 1 + size inner) rest)
    (wider (n + 1) (n + 1 + size inner) n (n + suc (size inner + size rest)) (atoms_from (n + 1) inner) (omega arith) (omega arith) (atoms_between (n + 1) inner))
    (wider (n + 1 + size inner) (n + 1 + size inner + size rest) n (n + suc (size inner + size rest)) (atoms_from (n + 1 + size inner) rest) (omega arith) (omega arith) (atoms_between (n + 1 + size inner) rest))

-- a model whose parts are numbered so
record IsNumbered (count : ℕ) (m : Model) : Type 0 where
  number : m.number < count
  above : All (λ c. m.number < c) m.parts
  below : All (λ c. c < count) m.parts

numbered : {M : Type 0} (count number n : ℕ) (parts : Parts M) (links : List Link) → number < n → n + size parts ≤ count → IsNumbered count (model_at number n parts links)
numbered count number n parts links lt le = record {
  number = omega (arith, lt, le);
  above = λ i d at. (let p = (numbers_between n parts i d at).0 in omega (arith, p, lt));
  below = λ i d at. (let p = (numbers_between n parts i d at).1 in omega (arith, p, le));
}

all_numbered : {M : Type 0} (count n : ℕ) (parts : Parts M) → n + size parts ≤ count → All (IsNumbered count) (coupled_from n parts)
all_numbered count n no_parts le = All-nil (IsNumbered count)
all_numbered count n (atom name m rest) le = all_numbered count (n + 1) rest (omega (arith, le))
all_numbered count n (coupled name inner links rest) le =
    All-append (IsNumbered count) (coupled_from (n + 1) inner) (model_at n (n + 1) inner links ∷ coupled_from (n + 1 + size inner) rest)
    (all_numbered count (n + 1) inner (omega (arith, le)))
    (All-cons (IsNumbered count) (model_at n (n + 1) inner links) (coupled_from (n + 1 + size inner) rest) (numbered count n (n + 1) inner links (omega arith) (omega (arith, le)))
    (all_numbered count (n + 1 + size inner) rest (omega (arith, le))))

pub models_sound : {M : Type 0} (parts : Parts M) (links : List Link) (count : ℕ) → count ≡ 1 + size parts → AreLinked parts links → All (IsModel count) (all_models parts links)
models_sound parts links count is linked i d lt =
    let n = All-append (IsNumbered count) (coupled_from 1 parts) (model_at 0 1 parts links ∷ []) (all_numbered count 1 parts (omega (arith, is))) (All-cons (IsNumbered count) (model_at 0 1 parts links) [] (numbered count 0 1 parts links (omega arith) (omega (arith, is))) (All-nil (IsNumbered count))) i d lt in
    record { number = n.number; above = n.above; below = n.below; links = linked i d lt }

pub atoms_below : {M : Type 0} (parts : Parts M) (count : ℕ) → count ≡ 1 + size parts → All (λ n. n < count) (atoms_from 1 parts)
atoms_below parts count is i d lt = let p = (atoms_between 1 parts i d lt).1 in omega (arith, p, is)
