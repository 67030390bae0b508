-- What relay and queue keep, taken back.
use Rattle.std.specs.Prelude.{◌≡◌, ◌≢◌, ℕ, ℤ, ◌-◌, ◌<◌, ◌≤◌, List, [], ◌∷◌, ◌++◌, take, length, min, Option, Some, None, refl}
use Rattle.std.proofs.Common.{arith, ap, ◌∙◌, length-append, length-take, zero, suc}
use Rattle.std.proofs.lemmas.List.{length-map}
use Rattle.std.proofs.Math.Seq.{take-append_seam}
use Rattle.tw_atomic.specs.Atomic.{Bag, FitsBag, IsDue}
use Rattle.tw_atomic.specs.declared.Turn.TheVariants.{Ext}
use Rattle.tw_models.specs.Left.{FitsLeft, IsWithin}
use Rattle.tw_models.specs.Wraps.{plus-minus, FitsLeft-minus}
use Rattle.tw_models.specs.Intake.{values_of, accepted_values, left_after, left_before, FitsValues, WaitsWith}

pub length-accepted : (room : ℕ) (kept : List ℤ) (bag : Bag) → length (accepted_values room kept bag) ≡ min (room - length kept) (length bag)
length-accepted room kept bag = length-map _ _ ∙ length-take (room - length kept) bag

-- cutting off as many as were accepted gives what was kept before
pub kept-back : (room : ℕ) (kept : List ℤ) (bag : Bag)
    → take (length (kept ++ accepted_values room kept bag) - min (room - length kept) (length bag)) (kept ++ accepted_values room kept bag) ≡ kept
kept-back room kept bag =
    let before : length (kept ++ accepted_values room kept bag) - min (room - length kept) (length bag) ≡ length kept = omega (arith, length-append kept (accepted_values room kept bag), length-accepted room kept bag) in
    ap (λ n. take n (kept ++ accepted_values room kept bag)) before ∙ take-append_seam kept (accepted_values room kept bag)

pub room-accepted : (room : ℕ) (kept : List ℤ) (bag : Bag) → length kept ≤ room → length (kept ++ accepted_values room kept bag) ≤ room
room-accepted room kept bag fits = omega (arith, fits, length-append kept (accepted_values room kept bag), length-accepted room kept bag)

FitsValues-take : (n : ℕ) (bag : Bag) → FitsBag bag → FitsValues (values_of (take n bag))
FitsValues-take zero bag fits = tt
FitsValues-take (suc n) [] fits = tt
FitsValues-take (suc n) (item ∷ items) fits = (fits.0.1, FitsValues-take n items fits.1)

pub FitsValues-accepted : (room : ℕ) (kept before : List ℤ) (bag : Bag) → FitsValues kept → FitsBag bag → FitsValues (kept ++ accepted_values room before bag)
FitsValues-accepted room [] before bag fits bag_fits = FitsValues-take (room - length before) bag bag_fits
FitsValues-accepted room (value ∷ values) before bag fits bag_fits = (fits.0, FitsValues-accepted room values before bag fits.1 bag_fits)

pub waits-after : (room : ℕ) (kept : List ℤ) (left : Option ℕ) (elapsed delay : ℕ) (bag : Bag) → 0 < room → WaitsWith kept left → bag ≢ [] → WaitsWith (kept ++ accepted_values room kept bag) (left_after kept left elapsed delay)
waits-after zero [] left elapsed delay bag some_room waits some = absurd (omega (arith, some_room))
waits-after (suc room) [] left elapsed delay [] some_room waits some = absurd (some refl)
waits-after (suc room) [] left elapsed delay (item ∷ items) some_room waits some = let whole : suc room - 0 ≡ suc room = omega arith in rw whole tt
waits-after room (value ∷ values) None elapsed delay bag some_room waits some = absurd waits
waits-after room (value ∷ values) (Some left) elapsed delay bag some_room waits some = tt

pub left-back : (kept : List ℤ) (left : Option ℕ) (elapsed delay : ℕ) → WaitsWith kept left → FitsLeft left → IsWithin elapsed left → left_before kept (left_after kept left elapsed delay) elapsed ≡ left
left-back [] None elapsed delay waits fits within = refl
left-back [] (Some left) elapsed delay waits fits within = absurd waits
left-back (value ∷ values) left elapsed delay waits fits within = plus-minus left elapsed fits within

pub FitsLeft-after : (kept : List ℤ) (left : Option ℕ) (elapsed delay : ℕ) → FitsLeft left → delay < 18446744073709551616 → FitsLeft (left_after kept left elapsed delay)
FitsLeft-after [] left elapsed delay fits small = small
FitsLeft-after (value ∷ values) left elapsed delay fits small = FitsLeft-minus left elapsed fits

-- the bag of an external transition is not empty
pub some-bag : (ta : Option ℕ) (elapsed : ℕ) (bag : Bag) → IsDue ta Ext elapsed bag → bag ≢ []
some-bag None elapsed bag due = due
some-bag (Some advance) elapsed bag due = due.1
