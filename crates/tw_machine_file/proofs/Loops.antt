-- Reading a list one by one, until the first fault.
use Rattle.std.proofs.Common.{◌≡◌, ◌++◌, ◌∷◌, [], ℕ, List, refl, append_assoc}
use Rattle.std.specs.Prelude.{Option, Some, None, Result, Ok, Err, option_map}
use Rattle.tw_machine_file.specs.Fault.{Fault, made}

-- what was read, and what the rest gives
abbrev pub behind : {A : Type 0} → List A → Result (List A) Fault → Result (List A) Fault
behind done rest = made (λ xs. done ++ xs) rest

-- at first nothing was read
pub behind_none : {A : Type 0} (r : Result (List A) Fault) → behind [] r ≡ r
behind_none (Ok xs) = refl
behind_none (Err e) = refl

-- one more
pub behind_more : {A : Type 0} (done : List A) (x : A) (r : Result (List A) Fault) → behind done (made (λ xs. x ∷ xs) r) ≡ behind (done ++ x ∷ []) r
behind_more done x (Ok xs) = rw append_assoc refl
behind_more done x (Err e) = refl

-- the same of lines
abbrev pub lines_after : List ℕ → Option (List ℕ) → Option (List ℕ)
lines_after text more = option_map (λ rest. text ++ rest) more

pub one_line_more : (text line : List ℕ) (o : Option (List ℕ)) → lines_after text (option_map (λ rest. 10 ∷ line ++ rest) o) ≡ lines_after ((text ++ 10 ∷ []) ++ line) o
one_line_more text line (Some rest) = rw (append_assoc, append_assoc) refl
one_line_more text line None = refl
