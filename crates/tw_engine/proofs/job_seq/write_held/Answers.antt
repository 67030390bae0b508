use Rattle.std.proofs.Common.{◌∙◌, List, ℕ, refl, subst}
use Rattle.std.specs.Io.KnownBytes.{Appends}
use Rattle.tw_any_model.specs.AnyModel.{any_meaning}
use Rattle.tw_network.specs.Contents.{network_of}
use Rattle.tw_texts.specs.Texts.{trace_text}
use Rattle.tw_texts.proofs.Portions.{appends_both}
use Rattle.tw_theory.specs.Simulator.{sequential}
use Rattle.tw_engine.specs.Runs.{fault_text, name_in}
use Rattle.tw_engine.proofs.job_seq.write_held.Goals as goal

pub returns-in-Ok : goal.returns-in-Ok
returns-in-Ok g c =
    let n = c.args.run.now.network.now in
    let old = g.W.Write.contents c.args.out.now in
    let mid = g.W.Write.contents c.write_out.new.out in
    let new = g.W.Write.contents c.write_all.new.self in
    let trace = trace_text (name_in n.names) (sequential (network_of any_meaning n) c.args.run.now.until).records in (
      refl,
      appends_both old mid new trace (fault_text n.names c.args.fault)
          (subst (λ (l : List ℕ). Appends old mid l) c.requires c.in_ok-write_out.ensures.ok)
          (subst (λ (l : List ℕ). Appends mid new l) (c.as_bytes.ensures.value ∙ c.in_ok-last.ensures) c.in-Ok.ensures.bytes),
    )
