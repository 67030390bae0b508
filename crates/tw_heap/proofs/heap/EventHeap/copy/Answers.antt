use Rattle.std.proofs.Common.{◌∙◌, ap}
use Rattle.std.specs.List.{each_same}
use Rattle.tw_heap.specs.Entries.{is_before, Events}
use Rattle.tw_heap.specs.Order.{sort_by}
use Rattle.tw_heap.proofs.heap.EventHeap.copy.Goals as goal

pub invariant_of-result : goal.invariant_of-result
invariant_of-result c =
    let entries = each_same c.self.inside.entries.items c.in_ok-clone.field-0.items c.in_ok-clone.ensures.cases.0 in
    let places = each_same c.self.inside.places.items c.in_ok-clone-2.field-0.items c.in_ok-clone-2.ensures.cases.0 in
    rw (entries, places) c.self.invariant

pub returns-clause-entries : goal.returns-clause-entries
returns-clause-entries c =
    let entries = each_same c.self.inside.entries.items c.in_ok-clone.field-0.items c.in_ok-clone.ensures.cases.0 in
    ap (sort_by is_before) entries ∙ ap (λ (h : Events). h.entries) c.self.view_is
