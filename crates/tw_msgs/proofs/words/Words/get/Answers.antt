use Rattle.std.proofs.Common.{◌≡◌, ◌∙◌, ◌≤◌, ◌<◌, ℕ, ℤ, List, Option, Some, None, FitsSigned, length, get_or, slice_get, ap, sym, pos, rules}
use Rattle.std.specs.Int.{w128}
use Rattle.std.proofs.lemmas.Int.{to_z-of_z}
use Rattle.std.proofs.lemmas.Option.{slice_get-get_or, slice_get_past}
use Rattle.tw_msgs.specs.Words.{listed}
use Rattle.tw_msgs.proofs.words.Words.get.Goals as goal

-- what is read of a list is what the list that it equals has there
read_past : (read words : List ℤ) (i : ℕ) (result : Option ℤ) → read ≡ words → length read ≤ i → result ≡ None → result ≡ slice_get words i
read_past read words i result same past none = none ∙ sym (slice_get_past read i past) ∙ ap (λ l. slice_get l i) same

read_within : (read words : List ℤ) (i : ℕ) (x : ℤ) → read ≡ words → i < length read → x ≡ get_or read i (pos 0) → Some x ≡ slice_get words i
read_within read words i x same within is = ap Some is ∙ sym (slice_get-get_or read i (pos 0) within) ∙ ap (λ l. slice_get l i) same

pub returns-in_err-get-in-Few : goal.returns-in_err-get-in-Few
returns-in_err-get-in-Few c =
    let same = c.as_slice.ensures.value ∙ ap listed (sym c.in-Few.is) ∙ c.self.view_is in
    read_past c.as_slice.result.now c.args.self.now c.args.index c.from_residual.result same c.in_err-get-in-Few.ensures.lookup.3 c.from_residual.ensures

pub returns-in_err-get-in-Many : goal.returns-in_err-get-in-Many
returns-in_err-get-in-Many c =
    let same = c.deref.ensures.value ∙ ap listed (sym c.in-Many.is) ∙ c.self.view_is in
    read_past c.deref.result.now c.args.self.now c.args.index c.from_residual-in_err-get-in-Many.result same c.in_err-get-in-Many.ensures.lookup.3 c.from_residual-in_err-get-in-Many.ensures

pub returns-in_ok-get-in-Few : goal.returns-in_ok-get-in-Few
returns-in_ok-get-in-Few c =
    let same = c.as_slice.ensures.value ∙ ap listed (sym c.in-Few.is) ∙ c.self.view_is in
    let x = c.in_ok-get-in-Few.field-0.now in
    let is : c.from.result ≡ x = let e = c.from.ensures in search rules in
    let fits : FitsSigned w128 c.from.result = search rules in
    rw (to_z-of_z w128 c.from.result fits)
    (read_within c.as_slice.result.now c.args.self.now c.args.index c.from.result same c.in_ok-get-in-Few.ensures.lookup.3.0 (is ∙ c.in_ok-get-in-Few.ensures.lookup.3.1 (pos 0)))

pub returns-in_ok-get-in-Many : goal.returns-in_ok-get-in-Many
returns-in_ok-get-in-Many c =
    let same = c.deref.ensures.value ∙ ap listed (sym c.in-Many.is) ∙ c.self.view_is in
    let x = c.in_ok-get-in-Many.field-0.now in
    let fits : FitsSigned w128 x = search rules in
    rw (to_z-of_z w128 x fits)
    (read_within c.deref.result.now c.args.self.now c.args.index x same c.in_ok-get-in-Many.ensures.lookup.3.0 (c.in_ok-get-in-Many.ensures.lookup.3.1 (pos 0)))
