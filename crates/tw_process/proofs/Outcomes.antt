-- Clauses on the outcomes of a call.
use Rattle.std.proofs.Common.{Result, Ok, Err, OnOk, OnErr}

pub on_err_always : {T E : Type 0} (P : Type 0) (r : Result T E) → P → OnErr r P
on_err_always P (Ok x) held = tt
on_err_always P (Err e) held = held

pub either_way : {T E : Type 0} (A B P : Type 0) (r : Result T E) → OnOk r A → OnErr r B → (A → P) → (B → P) → P
either_way A B P (Ok x) ok err f g = f ok
either_way A B P (Err e) ok err f g = g err
