use Rattle.std.proofs.Common.{◌≡◌, ◌∙◌, ◌<◌, ◌≤◌, [], ℕ, List, ◌++◌, ◌∷◌, length, refl, ap, sym, subst, arith}
use Rattle.std.specs.Prelude.{slice_set}
use Rattle.std.proofs.lemmas.List.{length-set}
use Rattle.std.proofs.Math.Seq.{map-set_same}
use Rattle.tw_theory.specs.Traces.{of_component}
use Rattle.tw_msgs.specs.declared.record.Record.{Record}
use Rattle.tw_figures.specs.Figures.{from_on}
use Rattle.tw_figures.specs.Gathered.{AreCounted, IsMember, followed_of, followed_of_all}
use Rattle.tw_figures.proofs.Gathering.{Members, known_more, own_next, unknown_more}
use Rattle.tw_figures.proofs.gatherer.Gatherer.take.Goals as goal
use Rattle.tw_figures.proofs.gatherer.Gatherer.take.Goals.{After-take, In_ok-count}

kept : (c : After-take) → followed_of_all (slice_set c.count.new.self.members.items c.args.step.now.component c.take.new.self) ≡ followed_of_all c.args.self.now.members.items
kept c =
    map-set_same followed_of c.count.new.self.members.items c.args.step.now.component c.take.new.self c.index_mut.result.now
    (c.take.ensures.followed ∙ ap followed_of c.index_mut.ensures.value)
    ∙ ap (λ v. followed_of_all v.items) c.count.ensures.members

pub returns-in_err-take-clause-followed : goal.returns-in_err-take-clause-followed
returns-in_err-take-clause-followed c = kept (goal.at.returns-in_err-take-clause-followed c).After-take

pub returns-in_ok-take-clause-followed : goal.returns-in_ok-take-clause-followed
returns-in_ok-take-clause-followed c = kept (goal.at.returns-in_ok-take-clause-followed c).After-take

counted_in : (c : In_ok-count) (from : ℕ) (rs : List Record) → c.args.self.now.from ≡ from → AreCounted (from_on from rs) c.args.self.now → AreCounted (from_on from (rs ++ c.args.step.now ∷ [])) c.count.new.self
counted_in c from rs begin h =
    let step = c.args.step.now in
    subst (λ n. AreCounted (from_on n (rs ++ step ∷ [])) c.count.new.self) begin
    (c.in_ok-count.ensures.counted rs step refl (subst (λ n. AreCounted (from_on n rs) c.args.self.now) (sym begin) h))

pub returns-in_ok-take-clause-gathered : goal.returns-in_ok-take-clause-gathered
returns-in_ok-take-clause-gathered c from starts rs next h =
    let step = c.args.step.now in
    let begin = c.count.ensures.from ∙ h.begin in
    let members = c.count.new.self.members.items in
    let same = ap (λ v. v.items) c.count.ensures.members in
    let within : step.component < length members = omega (arith, c.count.new.self.members.ok.0) in
    let counted = counted_in (goal.at.returns-in_ok-take-clause-gathered c).In_ok-count from rs h.begin h.counted in
    record {
      begin = begin;
      size = length-set members step.component c.take.new.self ∙ ap length same ∙ h.size;
      members = (known_more from starts rs step members c.index_mut.result.now c.take.new.self (subst (Members from starts rs) (sym same) (record { each = h.members })) within c.index_mut.ensures.value
          (λ start is. subst (λ n. IsMember n start (of_component step.component rs ++ step ∷ []) c.take.new.self) begin
          (c.in_ok-take.ensures.member start (of_component step.component rs) (own_next step.component rs step next)
          (subst (λ n. IsMember n start (of_component step.component rs) c.index_mut.result.now) (sym begin) is)))).each;
      counted = record { records = counted.records; microsteps = counted.microsteps };
    }

pub returns-else-step-len-clause-gathered : goal.returns-else-step-len-clause-gathered
returns-else-step-len-clause-gathered c from starts rs next h =
    let step = c.args.step.now in
    let begin = c.count.ensures.from ∙ h.begin in
    let members = c.count.new.self.members.items in
    let same = ap (λ v. v.items) c.count.ensures.members in
    let past : length members ≤ step.component = omega (arith, c.count.new.self.members.ok.0) in
    record {
      begin = begin;
      size = ap length same ∙ h.size;
      members = (unknown_more from starts rs step members (subst (Members from starts rs) (sym same) (record { each = h.members })) past).each;
      counted = counted_in (goal.at.returns-else-step-len-clause-gathered c).In_ok-count from rs h.begin h.counted;
    }
