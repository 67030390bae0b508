use Rattle.std.proofs.Common.{◌∙◌, [], sym, subst}
use Rattle.tw_figures.specs.Figures.{IsSteady}
use Rattle.tw_figures.specs.Gathered.{IsGathered, start_words}
use Rattle.tw_figures.proofs.Steady.{run_steady}
use Rattle.tw_network.specs.Contents.{network_of}
use Rattle.tw_stats.proofs.Reaching.{fault_before_end, whole}
use Rattle.tw_stats.proofs.gathering.gather_made.Goals as goal
use Rattle.tw_stats.proofs.gathering.gather_made.Goals.{After-take_all, In_ok-gathered}

steady : (g : _) (c : In_ok-gathered g) → IsSteady c.args.run.now.records.now
steady g c =
    subst IsSteady (sym c.requires.made.records) (run_steady (network_of g.M.Atomic.meaning c.args.network.now) c.args.until c.facts.ensures.network c.requires.until)

pub take_all-requires : goal.take_all-requires
take_all-requires g c = ([], steady g (goal.at.take_all-requires g c).In_ok-gathered)

pub gathering_of-requires : goal.gathering_of-requires
gathering_of-requires g c = fault_before_end (network_of g.M.Atomic.meaning c.args.network.now) c.args.until c.facts.ensures.network c.requires.until c.args.run.now.fault c.requires.made.fault

pub returns : goal.returns
returns g c =
    let net = network_of g.M.Atomic.meaning c.args.network.now in
    let taken = c.in_ok-take_all.ensures.gathered c.args.from (start_words net) [] (steady g (goal.at.returns g c).In_ok-gathered) c.in_ok-gathered.ensures.gathered in
    record {
      gathering = whole net c.args.until c.facts.ensures.network c.requires.until c.args.from c.args.labels.now c.take_all.new.self c.args.run.now.fault c.gathering_of.result
          (subst (λ l. IsGathered c.args.from (start_words net) l c.take_all.new.self) c.requires.made.records taken)
          (c.take_all.ensures.followed ∙ c.in_ok-gathered.ensures.followed) c.requires.made.fault c.gathering_of.ensures.gathered c.gathering_of.ensures.fault c.gathering_of.ensures.ticks;
    }
