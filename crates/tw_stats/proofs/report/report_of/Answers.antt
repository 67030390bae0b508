use Rattle.std.proofs.Common.{◌≡◌, ◌∙◌, length, subst, sym}
use Rattle.std.proofs.lemmas.List.{length-map}
use Rattle.tw_figures.specs.Gathered.{start_words}
use Rattle.tw_network.specs.Contents.{network_of}
use Rattle.tw_stats.specs.Gathering.{IsGathering}
use Rattle.tw_theory.specs.Simulator.{sequential}
use Rattle.tw_stats.proofs.report.report_of.Goals as goal

pub returns-clause-report : goal.returns-clause-report
returns-clause-report g c =
    let net = network_of g.M.Atomic.meaning c.args.network.now in
    let run = sequential net c.args.until in
    let many : length c.args.labels.now ≡ length (start_words net) =
    c.requires ∙ sym (length-map net.models (λ m. m.words m.start) ∙ length-map c.args.network.now.models g.M.Atomic.meaning) in
    c.in_ok-report_on.ensures.report (start_words net) run.records run.fault c.args.labels.now many
    (subst (λ n. IsGathering (start_words net) run.records run.fault c.args.labels.now n c.args.until c.in_ok-gathering.gathering) c.unwrap_or-first.ensures c.in_ok-gathering.ensures.gathering)
