use Rattle.std.proofs.Common.{length, refl, ap, sym, ◌∙◌, arith}
use Rattle.std.specs.Prelude.{slice_get}
use Rattle.std.proofs.lemmas.Option.{slice_get_read}
use Rattle.tw_process.proofs.Histories.{length_shown}
use Rattle.tw_process.proofs.Readers.{past_of, record_read}
use Rattle.tw_theory.specs.Contents.{records_of}
use Rattle.tw_process.proofs.process.Process.record_at.Goals as goal

pub returns-in-Some : goal.returns-in-Some
returns-in-Some g c =
    let inside = c.self.inside in
    let at = slice_get_read inside.history.items _ c.args.i c.in-Some.entry.now inside.history.ok.0 (c.in-Some.ensures.variant.0 refl) c.in-Some.ensures.lookup in
    ap (λ p. slice_get (records_of p.process.history) c.args.i) (sym c.self.view_is) ∙ record_read inside.history.items inside.lists.consumed inside.lists.sent c.args.i c.in-Some.entry.now at

pub returns-in-None : goal.returns-in-None
returns-in-None g c =
    let inside = c.self.inside in
    let past = past_of c.args.i _ (c.in-None.ensures.variant.1) in
    omega (arith, past, inside.history.ok.0, length_shown inside.history.items inside.lists.consumed inside.lists.sent, ap (λ p. length p.process.history) c.self.view_is)
