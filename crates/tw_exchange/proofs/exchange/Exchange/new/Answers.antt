use Rattle.std.proofs.Common.{◌≡◌, ◌∙◌, ℕ, List, None, Option, ap, false, length, replicate, subst, sym}
use Rattle.std.proofs.lemmas.List.{length-replicate}
use Rattle.tw_exchange.specs.Exchanged.{IsExact, busy_in}
use Rattle.tw_exchange.proofs.exchange.Exchange.new.Goals as goal

-- an agenda in which none of so many is free has so many
all_out : (stamps : List (Option ℕ)) (n count : ℕ) → stamps ≡ replicate n None → n ≡ count → length stamps ≡ count
all_out stamps n count is same = ap length is ∙ length-replicate n None ∙ same

pub free_all-requires : goal.free_all-requires
free_all-requires g c = all_out c.in-Ok.queues.free c.len.result _ c.in-Ok.ensures.free (c.len.ensures ∙ ap (λ x. length x.models) (c.deref-2.ensures ∙ c.network-2.ensures))

pub note_all-requires-clause-posting : goal.note_all-requires-clause-posting
note_all-requires-clause-posting g c = all_out c.in-Ok.queues.posting c.len.result _ c.in-Ok.ensures.posting (c.len.ensures ∙ ap (λ x. length x.models) (c.deref-2.ensures ∙ c.network-2.ensures))

pub note_all-requires-clause-delivering : goal.note_all-requires-clause-delivering
note_all-requires-clause-delivering g c = all_out c.in-Ok.queues.delivering c.len.result _ c.in-Ok.ensures.delivering (c.len.ensures ∙ ap (λ x. length x.models) (c.deref-2.ensures ∙ c.network-2.ensures))

pub note_all-requires-clause-standing : goal.note_all-requires-clause-standing
note_all-requires-clause-standing g c = all_out c.in-Ok.queues.standing c.len.result _ c.in-Ok.ensures.standing (c.len.ensures ∙ ap (λ x. length x.models) (c.deref-2.ensures ∙ c.network-2.ensures))

pub returns-clause-made : goal.returns-clause-made
returns-clause-made g c =
    let count : length c.in-Ok.queues.free ≡ length c.args.executive.network.models = all_out c.in-Ok.queues.free c.len.result _ c.in-Ok.ensures.free (c.len.ensures ∙ ap (λ x. length x.models) (c.deref-2.ensures ∙ c.network-2.ensures)) in
    let busy = ap busy_in c.note_all.ensures.free ∙ c.free_all.ensures.free ∙ ap (λ n. replicate n false) count in
    λ i. record { executive = c.args.executive; busy = busy i; publisher = c.args.publisher }

pub invariant_of-result : goal.invariant_of-result
invariant_of-result g c = (
  record {
    free = subst (λ free. IsExact free c.args.executive.world.processes) (sym c.note_all.ensures.free) c.free_all.ensures.exact;
    marks = c.note_all.ensures.marked;
  },
  c.requires,
)
