-- A transition goes to each figure and to each observation.
use Rattle.std.proofs.Common.{◌≡◌, ◌∙◌, ◌++◌, ◌∷◌, [], List, true, length, map, take, drop, refl, ap, subst, sym, arith}
use Rattle.std.specs.List.{All}
use Rattle.std.proofs.lemmas.Result.{on_ok_weaker}
use Rattle.std.proofs.lemmas.List.{with_items_is}
use Rattle.tw_figures.specs.Figures.{IsCourse, is_transition, transitions}
use Rattle.tw_figures.specs.Observed.{IsWatch}
use Rattle.tw_figures.specs.declared.course.Course.{Course}
use Rattle.tw_figures.specs.declared.watch.Watch.{Watch}
use Rattle.tw_figures.proofs.Members.{next_move, some_transition, transition_more}
use Rattle.tw_figures.proofs.member.Member.take.Goals as goal

pub returns-in-Int : goal.returns-in-Int
returns-in-Int c =
    let self = c.args.self.now in
    let step = c.args.step.now in
    let lent : length c.as_mut_slice.result.now ≡ length self.watches.items = ap length c.as_mut_slice.ensures.value in
    let many : length c.watch_on.new.watches ≡ self.watches.len = omega (arith, lent, c.watch_on.auto.watches, self.watches.ok.0) in
    let watches : take self.watches.len (c.watch_on.new.watches ++ drop (length c.watch_on.new.watches) self.watches.items) ≡ c.watch_on.new.watches = with_items_is self.watches c.watch_on.new.watches many in
    let slice : length c.as_mut_slice-in-Int.result.now ≡ length self.courses.items = ap length c.as_mut_slice-in-Int.ensures.value in
    let size : length c.go_on.new.courses ≡ self.courses.len = omega (arith, slice, c.go_on.auto.courses, self.courses.ok.0) in
    let courses : take self.courses.len (c.go_on.new.courses ++ drop (length c.go_on.new.courses) self.courses.items) ≡ c.go_on.new.courses = with_items_is self.courses c.go_on.new.courses size in
    let is : is_transition step ≡ true = some_transition step c.in-Int.is in
    let places = ap (map (λ x. x.place)) watches ∙ c.watch_on.ensures.places ∙ ap (map (λ x. x.place)) c.as_mut_slice.ensures.value in
    let measures = ap (map (λ x. x.measure)) courses ∙ c.go_on.ensures.measures ∙ ap (map (λ x. x.measure)) c.as_mut_slice-in-Int.ensures.value in
    record {
      member = λ start records next h.
          let moves = transitions records in
          let more = transition_more records step is in
          on_ok_weaker c.go_on.result
          (λ all. record {
            counts = c.in_ok-take_from.ensures records h.counts;
            courses = subst (All (IsCourse c.args.from start (transitions (records ++ step ∷ [])))) (sym courses)
                (subst (λ ms. All (IsCourse c.args.from start ms) c.go_on.new.courses) (sym more) all);
            watches = subst (All (IsWatch c.args.from start (transitions (records ++ step ∷ [])))) (sym watches)
                (subst (λ ms. All (IsWatch c.args.from start ms) c.watch_on.new.watches) (sym more)
                (c.watch_on.ensures.watches start moves step (sym c.tick-tick.ensures.tick) refl (next_move records step next)
                (subst (λ (l : List Watch). All (IsWatch c.args.from start moves) l) (sym c.as_mut_slice.ensures.value) h.watches)));
          })
          (c.go_on.ensures.courses c.args.from start moves step (sym c.tick-tick.ensures.tick) refl (next_move records step next)
          (subst (λ (l : List Course). All (IsCourse c.args.from start moves) l) (sym c.as_mut_slice-in-Int.ensures.value) h.courses));
      followed = λ i. (measures i, places i);
    }
