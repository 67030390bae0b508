-- The courses of a component, one after another.
use Rattle.std.proofs.Common.{◌≡◌, ◌≢◌, ◌∙◌, ℕ, ◌+◌, ◌<◌, ◌≤◌, ◌++◌, ◌∷◌, [], ℤ, List, length, get_or, map, sym, subst, arith, ⊎_elim}
use Rattle.std.specs.Prelude.{slice_set}
use Rattle.std.specs.List.{All}
use Rattle.std.proofs.lemmas.Bool.{cases_lt}
use Rattle.std.proofs.lemmas.List.{get_or_default, get_or-set_same, get_or-set_other, length-set}
use Rattle.std.proofs.Math.Seq.{map-set_same}
use Rattle.tw_msgs.specs.declared.record.Record.{Record}
use Rattle.tw_vtime.specs.Stamps.{tick_of}
use Rattle.tw_figures.specs.Figures.{IsCourse, IsNext}
use Rattle.tw_figures.specs.declared.course.Course.{Course}

-- the course after a transition at a tick to a state of these words
pub record HasGone (tick : ℕ) (words : List ℤ) (old new : Course) : Type 0 where
  pub course : (from : ℕ) (start : List ℤ) (moves : List Record) (r : Record) → tick_of r.stamp ≡ tick → r.words ≡ words → IsNext moves r → IsCourse from start moves old → IsCourse from start (moves ++ r ∷ []) new

-- those before the index have gone on, and the others are as they were
pub record AreGoing (tick : ℕ) (words : List ℤ) (olds news : List Course) (index : ℕ) : Type 0 where
  pub size : length news ≡ length olds
  pub measures : map (λ c. c.measure) news ≡ map (λ c. c.measure) olds
  pub gone : (k : ℕ) (d : Course) → k < index → HasGone tick words (get_or olds k d) (get_or news k d)
  pub rest : (k : ℕ) (d : Course) → index ≤ k → get_or news k d ≡ get_or olds k d

module _ (tick : ℕ) (words : List ℤ) (olds news : List Course) (index : ℕ) (h : AreGoing tick words olds news index) where
  pub measures_kept : (new d : Course) → new.measure ≡ (get_or news index d).measure → map (λ c. c.measure) (slice_set news index new) ≡ map (λ c. c.measure) olds
  measures_kept new d same = map-set_same (λ c. c.measure) news index new d same ∙ h.measures

  pub going_on : (new d : Course) → index < length olds → new.measure ≡ (get_or news index d).measure → HasGone tick words (get_or news index d) new
      → AreGoing tick words olds (slice_set news index new) (index + 1)
  going_on new d within same has = record {
    size = length-set news index new ∙ h.size;
    measures = measures_kept new d same;
    gone = λ k e l. ⊎_elim
        (λ below. let other : k ≢ index = omega arith in
        subst (HasGone tick words (get_or olds k e)) (sym (get_or-set_other news index k new e other)) (h.gone k e below))
        (λ above. let here : k ≡ index = omega arith in
        subst (λ i. HasGone tick words (get_or olds i e) (get_or (slice_set news index new) i e)) (sym here) (here_gone e))
        (cases_lt k index);
    rest = λ k e l. (let other : k ≢ index = omega arith in get_or-set_other news index k new e other ∙ h.rest k e (omega arith));
  }
    where
      inside : index < length news
      inside = let size = h.size in omega (arith, size, within)

      here_gone : (e : Course) → HasGone tick words (get_or olds index e) (get_or (slice_set news index new) index e)
      here_gone e =
          let same_old : get_or news index d ≡ get_or olds index e = h.rest index d (omega arith) ∙ get_or_default olds index d e within in
          subst (HasGone tick words (get_or olds index e)) (sym (get_or-set_same news index new e inside))
          (subst (λ o. HasGone tick words o new) same_old has)

pub gone_all : (tick : ℕ) (words : List ℤ) (olds news : List Course) (end : ℕ) → AreGoing tick words olds news end → length olds ≤ end
    → (from : ℕ) (start : List ℤ) (moves : List Record) (r : Record) → tick_of r.stamp ≡ tick → r.words ≡ words → IsNext moves r
    → All (IsCourse from start moves) olds → All (IsCourse from start (moves ++ r ∷ [])) news
gone_all tick words olds news end h over from start moves r at said next all = λ k d l.
    let size = h.size in
    (h.gone k d (omega (arith, size))).course from start moves r at said next (all k d (omega (arith, size)))
