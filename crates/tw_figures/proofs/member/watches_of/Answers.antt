use Rattle.std.proofs.Common.{◌∙◌, [], map, ap, sym, subst}
use Rattle.std.specs.List.{All}
use Rattle.tw_figures.specs.Observed.{IsWatch}
use Rattle.tw_figures.proofs.Members.{all_more, shown_more}
use Rattle.tw_figures.proofs.member.watches_of.Goals as goal

pub loop-observation-preserved : goal.loop-observation-preserved
loop-observation-preserved c = record {
  watches = λ from. subst (All (IsWatch from c.args.words.now [])) (sym c.in_ok-push.ensures.items) (all_more (IsWatch from c.args.words.now []) _ c.new.result (c.loop-observation.invariant.watches from) (c.new.ensures.watch from));
  places = ap (map (λ x. x.place)) c.in_ok-push.ensures.items
      ∙ shown_more (λ x. x.place) (λ o. o.place) c.loop-observation.watches.items c.args.observations.now c.loop-observation.observation-index c.new.result c.observation-item.result c.loop-observation-test.true c.observation-item.is c.new.ensures.place c.loop-observation.invariant.places;
}
