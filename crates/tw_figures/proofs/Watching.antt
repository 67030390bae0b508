-- What an observation has added up, after one transition more.
use Rattle.std.proofs.Common.{◌≡◌, ◌≢◌, ◌∙◌, ℕ, ◌+◌, ◌<◌, ◌≤◌, ◌++◌, ◌∷◌, [], ℤ, List, length, get_or, map, ap, sym, subst, arith, ⊎_elim}
use Rattle.std.specs.Prelude.{slice_set}
use Rattle.std.specs.List.{All}
use Rattle.std.proofs.lemmas.Bool.{cases_lt}
use Rattle.std.proofs.lemmas.List.{get_or_default, get_or-set_same, get_or-set_other, length-set}
use Rattle.std.proofs.Math.Seq.{map-set_same}
use Rattle.tw_theory.proofs.Elements.{each_weaker}
use Rattle.tw_msgs.specs.declared.record.Record.{Record}
use Rattle.tw_vtime.specs.Stamps.{tick_of}
use Rattle.tw_figures.specs.Figures.{IsNext, words_after}
use Rattle.tw_figures.specs.Observed.{IsWatch, power_sums}
use Rattle.tw_figures.specs.declared.power_sums.PowerSums.{PowerSums}
use Rattle.tw_figures.specs.declared.watch.Watch.{Watch}
use Rattle.tw_figures.proofs.Courses.{all_before, before_same, each_more, words_end}

-- ---- one observation

module _ (from : ℕ) (start : List ℤ) (moves : List Record) (r : Record) (watch : Watch) (h : IsWatch from start moves watch) (sums : PowerSums) (is : sums ≡ power_sums watch.place r.words) where
  ended : sums ≡ power_sums watch.place (words_after start (moves ++ r ∷ []))
  ended = is ∙ ap (power_sums watch.place) (sym (words_end start moves r))

  -- at the first tick or later
  pub counts_on : from ≤ tick_of r.stamp → IsWatch from start (moves ++ r ∷ []) (record { place = watch.place; first = watch.first; last = sums })
  counts_on l = record {
    first = h.first ∙ ap (λ ms. power_sums watch.place (words_after start ms)) (sym (before_same from moves r l));
    last = ended;
  }

  -- before it
  pub comes_on : tick_of r.stamp < from → IsNext moves r → IsWatch from start (moves ++ r ∷ []) (record { place = watch.place; first = sums; last = sums })
  comes_on l next =
      let earlier = each_weaker (λ x. tick_of x.stamp ≤ tick_of r.stamp) (λ x. tick_of x.stamp < from) (λ x k. omega arith) moves next in
      let all = all_before from (moves ++ r ∷ []) (each_more (λ x. tick_of x.stamp < from) moves r earlier l) in
      record { first = ended ∙ ap (λ ms. power_sums watch.place (words_after start ms)) (sym all); last = ended }

-- ---- the observations of a component, one after another

-- what an observation has after a transition at a tick to a state of these words
pub record HasTaken (from tick : ℕ) (words : List ℤ) (old new : Watch) : Type 0 where
  pub taken : (start : List ℤ) (moves : List Record) (r : Record) → tick_of r.stamp ≡ tick → r.words ≡ words → IsNext moves r → IsWatch from start moves old → IsWatch from start (moves ++ r ∷ []) new

-- those before the index have taken it, and the others are as they were
pub record AreTaking (from tick : ℕ) (words : List ℤ) (olds news : List Watch) (index : ℕ) : Type 0 where
  pub size : length news ≡ length olds
  pub places : map (λ w. w.place) news ≡ map (λ w. w.place) olds
  pub taken : (k : ℕ) (d : Watch) → k < index → HasTaken from tick words (get_or olds k d) (get_or news k d)
  pub rest : (k : ℕ) (d : Watch) → index ≤ k → get_or news k d ≡ get_or olds k d

module _ (from tick : ℕ) (words : List ℤ) (olds news : List Watch) (index : ℕ) (h : AreTaking from tick words olds news index) where
  pub taking_on : (new d : Watch) → index < length olds → new.place ≡ (get_or news index d).place → HasTaken from tick words (get_or news index d) new
      → AreTaking from tick words olds (slice_set news index new) (index + 1)
  taking_on new d within same has = record {
    size = length-set news index new ∙ h.size;
    places = map-set_same (λ w. w.place) news index new d same ∙ h.places;
    taken = λ k e l. ⊎_elim
        (λ below. let other : k ≢ index = omega arith in
        subst (HasTaken from tick words (get_or olds k e)) (sym (get_or-set_other news index k new e other)) (h.taken k e below))
        (λ above. let here : k ≡ index = omega arith in
        subst (λ i. HasTaken from tick words (get_or olds i e) (get_or (slice_set news index new) i e)) (sym here) (here_taken e))
        (cases_lt k index);
    rest = λ k e l. (let other : k ≢ index = omega arith in get_or-set_other news index k new e other ∙ h.rest k e (omega arith));
  }
    where
      inside : index < length news
      inside = let size = h.size in omega (arith, size, within)

      here_taken : (e : Watch) → HasTaken from tick words (get_or olds index e) (get_or (slice_set news index new) index e)
      here_taken e =
          let same_old : get_or news index d ≡ get_or olds index e = h.rest index d (omega arith) ∙ get_or_default olds index d e within in
          subst (HasTaken from tick words (get_or olds index e)) (sym (get_or-set_same news index new e inside))
          (subst (λ o. HasTaken from tick words o new) same_old has)

pub taken_all : (from tick : ℕ) (words : List ℤ) (olds news : List Watch) (end : ℕ) → AreTaking from tick words olds news end → length olds ≤ end
    → (start : List ℤ) (moves : List Record) (r : Record) → tick_of r.stamp ≡ tick → r.words ≡ words → IsNext moves r
    → All (IsWatch from start moves) olds → All (IsWatch from start (moves ++ r ∷ [])) news
taken_all from tick words olds news end h over start moves r at said next all = λ k d l.
    let size = h.size in
    (h.taken k d (omega (arith, size))).taken start moves r at said next (all k d (omega (arith, size)))
