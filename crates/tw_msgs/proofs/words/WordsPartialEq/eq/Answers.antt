-- `==` of the lists answers true exactly at equal lists.
use Rattle.std.proofs.Common.{◌≡◌, ◌∙◌, sym, ap, subst₂, List, ℤ}
use Rattle.std.specs.Prelude.{◌↔◌, IsTrue}
use Rattle.std.proofs.lemmas.Bool.Decides.{Decides-at, same_from_decides}
use Rattle.tw_msgs.specs.Words.{listed, same_words}
use Rattle.tw_msgs.proofs.Equality.{same_words-Decides}
use Rattle.tw_msgs.proofs.words.WordsPartialEq.eq.Goals as goal

pub returns-in-Few-Few-clause-same : goal.returns-in-Few-Few-clause-same
returns-in-Few-Few-clause-same c =
    let one = c.as_slice.ensures.value ∙ ap listed (sym c.in-Few-Few.is-0) ∙ c.self.view_is in
    let two = c.as_slice-in-Few-Few.ensures.value ∙ ap listed (sym c.in-Few-Few.is-1) ∙ c.other.view_is in
    let told : c.eq.result ≡ same_words c.args.self.now c.args.other.now = c.eq.ensures ∙ (λ i. same_words (one i) (two i)) in
    Decides-at c.eq.result (same_words c.args.self.now c.args.other.now) told (same_words-Decides c.args.self.now c.args.other.now)

pub returns-in-Few-Many-clause-eq : goal.returns-in-Few-Many-clause-eq
returns-in-Few-Many-clause-eq c =
    let one = c.as_slice-in-Few-Many.ensures.value ∙ ap listed (sym c.in-Few-Many.is-0) ∙ c.self.view_is in
    let two = c.as_slice-in-Few-Many-2.ensures.value ∙ ap listed (sym c.in-Few-Many.is-1) ∙ c.other.view_is in
    same_from_decides c.are_same.result (same_words c.args.self.now c.args.other.now)
    (subst₂ (λ (x y : List ℤ). IsTrue c.are_same.result ↔ (x ≡ y)) one two c.are_same.ensures) (same_words-Decides c.args.self.now c.args.other.now)

pub returns-in-Many-Few-clause-eq : goal.returns-in-Many-Few-clause-eq
returns-in-Many-Few-clause-eq c =
    let two = c.as_slice-in-Many-Few.ensures.value ∙ ap listed (sym c.in-Many-Few.is-1) ∙ c.other.view_is in
    let one = c.as_slice-in-Many-Few-2.ensures.value ∙ ap listed (sym c.in-Many-Few.is-0) ∙ c.self.view_is in
    let found = subst₂ (λ (x y : List ℤ). IsTrue c.are_same-in-Many-Few.result ↔ (x ≡ y)) two one c.are_same-in-Many-Few.ensures in
    same_from_decides c.are_same-in-Many-Few.result (same_words c.args.self.now c.args.other.now)
    ((λ t. sym (found.0 t)), (λ e. found.1 (sym e))) (same_words-Decides c.args.self.now c.args.other.now)

pub returns-in-Many-Many-clause-same : goal.returns-in-Many-Many-clause-same
returns-in-Many-Many-clause-same c =
    let one = ap listed (sym c.in-Many-Many.is-0) ∙ c.self.view_is in
    let two = ap listed (sym c.in-Many-Many.is-1) ∙ c.other.view_is in
    let told : c.eq-in-Many-Many.result ≡ same_words c.args.self.now c.args.other.now = c.eq-in-Many-Many.ensures ∙ (λ i. same_words (one i) (two i)) in
    Decides-at c.eq-in-Many-Many.result (same_words c.args.self.now c.args.other.now) told (same_words-Decides c.args.self.now c.args.other.now)
