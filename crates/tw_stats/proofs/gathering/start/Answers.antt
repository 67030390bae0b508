use Rattle.std.proofs.Common.{◌∙◌, ◌++◌, ◌∷◌, [], take, ap, subst}
use Rattle.tw_figures.specs.Gathered.{IsGathered, followed_in, start_words}
use Rattle.tw_network.specs.Contents.{network_of}
use Rattle.tw_figures.proofs.Starting.{starts_more}
use Rattle.tw_stats.proofs.Starting.{followed_more}
use Rattle.tw_stats.proofs.gathering.start.Goals as goal

pub loop-component-preserved : goal.loop-component-preserved
loop-component-preserved g c =
    let inv = c.loop-component.invariant in
    let at = c.loop-component.component in
    let starts = start_words (network_of g.M.Atomic.meaning c.args.network.now) in
    record {
      gathered = subst (λ l. IsGathered c.args.from l [] c.add.new.gathered)
          (starts_more g.M.Atomic.meaning c.args.network.now at c.model-model.result.now c.model-model.ensures)
          (c.in_ok-add.ensures.gathered c.args.from (take at starts) inv.gathered);
      followed = c.in_ok-add.ensures.followed ∙ ap (λ l. l ++ followed_in c.index-labels-component.result ∷ []) inv.followed
          ∙ followed_more c.args.labels.now at c.index-labels-component.result c.loop-component-test.true c.index-labels-component.is;
    }
