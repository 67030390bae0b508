use Rattle.std.proofs.Common.{◌≡◌, ◌∙◌, ◌≤◌, ℕ, ap, arith, subst}
use Rattle.tw_figures.specs.Gathered.{IsGathered, start_words}
use Rattle.tw_network.specs.Contents.{network_of}
use Rattle.tw_theory.specs.Simulator.{sequential}
use Rattle.tw_vtime.specs.Stamps.{max_tick}
use Rattle.tw_stats.proofs.Reaching.{fault_before_end, whole}
use Rattle.tw_stats.proofs.gathering.gather.Goals as goal
use Rattle.tw_stats.proofs.gathering.gather.Goals.{In_ok-fault}

small : (g : _) (c : In_ok-fault g) → c.args.until ≤ max_tick
small g c = let within = c.in_ok-simulation.ensures.begun.part.small in let same = c.in_ok-simulation.ensures.until in omega (arith, within, same)

met : (g : _) (c : In_ok-fault g) → c.in_ok-fault.fault ≡ (sequential (network_of g.M.Atomic.meaning c.args.network.now) c.args.until).fault
met g c = c.in_ok-fault.ensures.fault ∙ ap (λ u. (sequential (network_of g.M.Atomic.meaning c.args.network.now) u).fault) c.in_ok-simulation.ensures.until

all : (g : _) (c : In_ok-fault g) → IsGathered c.args.from (start_words (network_of g.M.Atomic.meaning c.args.network.now)) (sequential (network_of g.M.Atomic.meaning c.args.network.now) c.args.until).records c.follow.new.gathered
all g c =
    let net = network_of g.M.Atomic.meaning c.args.network.now in
    subst (λ (u : ℕ). IsGathered c.args.from (start_words net) (sequential net u).records c.follow.new.gathered) c.in_ok-simulation.ensures.until
    (c.in_ok-fault.ensures.gathered c.args.from (start_words net) c.in_ok-gathered.ensures.gathered)

pub gathering_of-requires : goal.gathering_of-requires
gathering_of-requires g c = fault_before_end (network_of g.M.Atomic.meaning c.args.network.now) c.args.until c.facts.ensures.network (small g c) c.in_ok-fault.fault (met g c)

pub returns-clause-gathering : goal.returns-clause-gathering
returns-clause-gathering g c =
    let before = (goal.at.returns-clause-gathering g c).In_ok-fault in
    whole (network_of g.M.Atomic.meaning c.args.network.now) c.args.until c.facts.ensures.network (small g before) c.args.from c.args.labels.now c.follow.new.gathered c.in_ok-fault.fault c.gathering_of.result
    (all g before) (c.follow.ensures.followed ∙ c.in_ok-gathered.ensures.followed) (met g before) c.gathering_of.ensures.gathered c.gathering_of.ensures.fault c.gathering_of.ensures.ticks
