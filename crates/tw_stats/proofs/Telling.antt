-- What is told of lists, one after another.
use Rattle.std.proofs.Common.{◌≡◌, ◌∙◌, ℕ, zero, suc, ◌<◌, ◌∷◌, [], ℤ, List, length, map, get_or, ap, refl, sym, subst, arith}
use Rattle.std.specs.Prelude.{Some, slice_get}
use Rattle.std.specs.List.{All, AllZip}
use Rattle.std.proofs.lemmas.List.{get_or-map, length-map}
use Rattle.std.proofs.lemmas.Option.{get_or_from_slice_get, slice_get_within}
use Rattle.std.proofs.lemmas.Slice.Zip.{AllZip-long}
use Rattle.tw_figures.proofs.Zipping.{zip_at}
use Rattle.tw_figures.specs.Figures.{IsCourse, transitions}
use Rattle.tw_figures.specs.Gathered.{IsGathered, IsMember, followed_in, followed_in_all, followed_of, followed_of_all}
use Rattle.tw_figures.specs.Observed.{IsObserved, IsWatch}
use Rattle.tw_figures.specs.Told.{IsTold}
use Rattle.tw_figures.specs.declared.course.Course.{Course}
use Rattle.tw_figures.specs.declared.figure.Figure.{Figure}
use Rattle.tw_figures.specs.declared.gatherer.Gatherer.{Gatherer}
use Rattle.tw_figures.specs.declared.member.Member.{Member}
use Rattle.tw_figures.specs.declared.told.Told.{Told}
use Rattle.tw_msgs.specs.declared.record.Record.{Record}
use Rattle.tw_theory.specs.Traces.{of_component}
use Rattle.tw_stats.specs.Reports.{AreTold, IsToldOf, TellsFigure, TellsObservation, TellsPart}
use Rattle.tw_figures.specs.Labelled.{Label, figure, label, observation}
use Rattle.tw_figures.specs.declared.labels.Labels.{Labels}
use Rattle.tw_figures.specs.declared.labels.Observation.{Observation}
use Rattle.tw_figures.specs.declared.observed.Observed.{Observed}
use Rattle.tw_figures.specs.declared.watch.Watch.{Watch}
use Rattle.tw_stats.specs.declared.report.Part.{Part}

-- what is told of the elements of a list is told of those of another that show the same
told_alike : {X Y Z T : Type 0} (f : X → Z) (g : Y → Z) (P : Z → T → Type 0) (xs : List X) (ys : List Y) (tolds : List T)
    → map f xs ≡ map g ys → AllZip (λ x told. P (f x) told) xs tolds → AllZip (λ y told. P (g y) told) ys tolds
told_alike f g P [] [] [] e h = tt
told_alike f g P [] [] (t ∷ ts) e h = absurd h
told_alike f g P [] (y ∷ ys) ts e h = absurd (let n = ap length e in omega (arith, n))
told_alike f g P (x ∷ xs) [] ts e h = absurd (let n = ap length e in omega (arith, n))
told_alike f g P (x ∷ xs) (y ∷ ys) [] e h = absurd h
told_alike {Z = Z} f g P (x ∷ xs) (y ∷ ys) (t ∷ ts) e h =
    let here : f x ≡ g y = cc in
    let rest : map f xs ≡ map g ys = cc in
    (subst (λ (z : Z). P z t) here h.0, told_alike f g P xs ys ts rest h.1)

-- what is told of the elements of a list is told of what is seen of them
seen_told : {X Y T : Type 0} (f : X → Y) (P : Y → T → Type 0) (xs : List X) (tolds : List T) → AllZip (λ x told. P (f x) told) xs tolds → AllZip P (map f xs) tolds
seen_told f P [] [] h = tt
seen_told f P [] (t ∷ ts) h = absurd h
seen_told f P (x ∷ xs) [] h = absurd h
seen_told f P (x ∷ xs) (t ∷ ts) h = (h.0, seen_told f P xs ts h.1)

-- ---- the components of a run

same_followed : (members : List Member) (labels : List Labels) (c : ℕ) (member : Member) (label : Labels) → followed_of_all members ≡ followed_in_all labels
    → slice_get members c ≡ Some member → slice_get labels c ≡ Some label → followed_of member ≡ followed_in label
same_followed members labels c member label same at there =
    sym (get_or-map followed_of members c member (followed_of member) (slice_get_within members c member at) ∙ ap followed_of (get_or_from_slice_get members c member member at))
    ∙ ap (λ l. get_or l c (followed_of member)) same
    ∙ get_or-map followed_in labels c label (followed_of member) (slice_get_within labels c label there) ∙ ap followed_in (get_or_from_slice_get labels c label label there)

told_courses : (from ticks : ℕ) (start : List ℤ) (moves : List Record) (courses : List Course) (tolds : List Told) → All (IsCourse from start moves) courses
    → AllZip (TellsFigure from ticks) courses tolds → AllZip (λ course told. IsTold from course.measure start moves ticks told) courses tolds
told_courses from ticks start moves [] [] all h = tt
told_courses from ticks start moves [] (t ∷ ts) all h = absurd h
told_courses from ticks start moves (c ∷ cs) [] all h = absurd h
told_courses from ticks start moves (c ∷ cs) (t ∷ ts) all h =
    (h.0.tells start moves (all 0 c (omega arith)), told_courses from ticks start moves cs ts (λ k d l. all (suc k) d (omega (arith, l))) h.1)

told_watches : (from : ℕ) (start : List ℤ) (moves : List Record) (watches : List Watch) (tolds : List Observed) → All (IsWatch from start moves) watches
    → AllZip TellsObservation watches tolds → AllZip (λ watch told. IsObserved from watch.place start moves told) watches tolds
told_watches from start moves [] [] all h = tt
told_watches from start moves [] (t ∷ ts) all h = absurd h
told_watches from start moves (w ∷ ws) [] all h = absurd h
told_watches from start moves (w ∷ ws) (t ∷ ts) all h =
    (h.0.tells from start moves (all 0 w (omega arith)), told_watches from start moves ws ts (λ k d l. all (suc k) d (omega (arith, l))) h.1)

member_at : (members : List Member) (c : ℕ) → c < length members → (m : Member) × (slice_get members c ≡ Some m)
member_at [] c l = absurd (omega (arith, l))
member_at (m ∷ ms) zero l = (m, refl)
member_at (m ∷ ms) (suc c) l = member_at ms c (omega (arith, l))

-- the element that is seen at a place
at_map : {X Y : Type 0} (f : X → Y) (xs : List X) (c : ℕ) (y : Y) → slice_get (map f xs) c ≡ Some y → (x : X) × (slice_get xs c ≡ Some x) × (f x ≡ y)
at_map f [] c y h = absurd (let l = slice_get_within [] c y h in omega (arith, l))
at_map f (x ∷ xs) zero y h = (x, refl, cc)
at_map f (x ∷ xs) (suc c) y h = at_map f xs c y h

module _ (from ticks : ℕ) (start : List ℤ) (records : List Record) (member : Member) (l : Labels) (part : Part) (is : IsMember from start records member) (one : TellsPart from ticks member part) where
  told_of_figures : map (λ c. c.measure) member.courses.items ≡ map (λ f. f.measure) l.figures.items
      → AllZip (λ f told. IsTold from f.1 start (transitions records) ticks told) (map figure l.figures.items) part.figures.items
  told_of_figures same =
      let moves = transitions records in
      seen_told figure (λ f told. IsTold from f.1 start moves ticks told) l.figures.items part.figures.items
      (told_alike (λ (c : Course). c.measure) (λ (f : Figure). f.measure) (λ measure told. IsTold from measure start moves ticks told) member.courses.items l.figures.items part.figures.items same
      (told_courses from ticks start moves member.courses.items part.figures.items is.courses one.figures))

  told_of_observations : map (λ w. w.place) member.watches.items ≡ map (λ o. o.place) l.observations.items
      → AllZip (λ o told. IsObserved from o.1 start (transitions records) told) (map observation l.observations.items) part.observations.items
  told_of_observations same =
      let moves = transitions records in
      seen_told observation (λ o told. IsObserved from o.1 start moves told) l.observations.items part.observations.items
      (told_alike (λ (w : Watch). w.place) (λ (o : Observation). o.place) (λ place told. IsObserved from place start moves told) member.watches.items l.observations.items part.observations.items same
      (told_watches from start moves member.watches.items part.observations.items is.watches one.observations))

pub all_told : (from : ℕ) (labels : List Labels) (starts : List (List ℤ)) (rs : List Record) (ticks : ℕ) (gathered : Gatherer) (parts : List Part) → length labels ≡ length starts
    → IsGathered from starts rs gathered → followed_of_all gathered.members.items ≡ followed_in_all labels → AllZip (TellsPart from ticks) gathered.members.items parts
    → AreTold from (map label labels) starts rs ticks parts
all_told from labels starts rs ticks gathered parts many h same tells = record {
  size = (let long = AllZip-long (TellsPart from ticks) gathered.members.items parts tells in let size = h.size in let seen = length-map labels label in omega (arith, long, size, many, seen));
  each = λ c said start part at q r.
      let (l, p, same_label) = at_map label labels c said at in
      let within = slice_get_within starts c start q in
      let size = h.size in
      let some = member_at gathered.members.items c (omega (arith, within, size)) in
      let is = h.members c start some.0 q some.1 in
      let one = zip_at (TellsPart from ticks) gathered.members.items parts c some.0 part tells some.1 r in
      let followed = same_followed gathered.members.items labels c some.0 l same some.1 p in
      subst (λ (m : Label). IsToldOf from m start (of_component c rs) ticks part) same_label (record {
        counts = one.counts ∙ is.counts;
        figures = told_of_figures from ticks start (of_component c rs) some.0 l part is one (ap (λ x. x.0) followed);
        observations = told_of_observations from ticks start (of_component c rs) some.0 l part is one (ap (λ x. x.1) followed);
      });
}
