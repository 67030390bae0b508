use Rattle.std.proofs.Common.{Some, None, refl, ap, sym, ◌∙◌, arith}
use Rattle.std.specs.Option.{option_map}
use Rattle.std.specs.Prelude.{slice_get}
use Rattle.std.proofs.lemmas.Option.{slice_get_past, slice_get_read}
use Rattle.tw_process.specs.Process.{sent_in}
use Rattle.tw_process.proofs.Readers.{past_of, sent_read}
use Rattle.tw_process.proofs.process.Process.sent_at.Goals as goal

pub returns-in-Some : goal.returns-in-Some
returns-in-Some g c =
    let inside = c.self.inside in
    let at = slice_get_read inside.history.items _ c.args.i c.in-Some.entry.now inside.history.ok.0 (c.in-Some.ensures.variant.0 refl) c.in-Some.ensures.lookup in
    sym (sent_read inside.history.items inside.lists.consumed inside.lists.sent c.args.i (Some c.in-Some.entry.now) c.self.invariant.by.sent_is at) ∙ ap (λ p. option_map sent_in (slice_get p.process.history c.args.i)) c.self.view_is

pub returns-in-None : goal.returns-in-None
returns-in-None g c =
    let inside = c.self.inside in
    let past = past_of c.args.i _ (c.in-None.ensures.variant.1) in
    let at = slice_get_past inside.history.items c.args.i (omega (arith, past, inside.history.ok.0)) in
    sym (sent_read inside.history.items inside.lists.consumed inside.lists.sent c.args.i None c.self.invariant.by.sent_is at) ∙ ap (λ p. option_map sent_in (slice_get p.process.history c.args.i)) c.self.view_is
