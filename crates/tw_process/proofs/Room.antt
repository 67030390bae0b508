-- Room for one more message: among the nodes of its lists, and beside the messages that were consumed.
use Rattle.std.proofs.Common.{◌≡◌, ℕ, ◌≤◌, min, Result, Ok, Err, OnOk, arith}

pub room_parts : (room spare both : ℕ) → min room spare ≡ both → 1 ≤ both → (1 ≤ room) × (1 ≤ spare)
room_parts room spare both is some = (omega (arith, is, some), omega (arith, is, some))

pub room_made : {T E : Type 0} (room spare : ℕ) (r : Result T E) → OnOk r (1 ≤ room) → OnOk r (1 ≤ spare) → OnOk r (1 ≤ min room spare)
room_made room spare (Ok x) a b = omega (arith, a, b)
room_made room spare (Err e) a b = tt
