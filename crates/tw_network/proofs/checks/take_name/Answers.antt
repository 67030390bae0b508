use Rattle.std.proofs.Common.{◌≡◌, ℕ, Bool, not, List, map, sym, ap, ◌∙◌, refl, String, string_bytes, None}
use Rattle.std.specs.Global.{Global}
use Rattle.std.specs.List.{list_any}
use Rattle.std.specs.Option.{option_or}
use Rattle.std.specs.Str.{bytes_eq}
use Rattle.tw_atomic.specs.Atomic.{Meaning}
use Rattle.tw_network.specs.Faults.{component_fault, name_fault, starts_in_time, unless}
use Rattle.tw_network.specs.declared.refused.NetworkRefused.TheVariants.{BadTick, DuplicateName}
use Rattle.tw_network.proofs.FirstFault.{after_none}
use Rattle.tw_network.proofs.Names.{has_name_of_keys}
use Rattle.tw_network.proofs.checks.take_name.Goals as goal

-- where a component's name is one, its fault is that of a name that stood before, and else that of its start
after_name : {M S : Type 0} (meaning : M → Meaning S) (keys : List (String Global)) (name : String Global) (model : M) (text : List ℕ) (is_new in_time : Bool)
    → text ≡ string_bytes name → None ≡ name_fault text → is_new ≡ not (list_any (λ k. bytes_eq (string_bytes name) (string_bytes k)) keys) → in_time ≡ starts_in_time (meaning model)
    → component_fault meaning (map string_bytes keys) (string_bytes name, model) ≡ option_or (unless is_new DuplicateName) (unless in_time BadTick)
after_name meaning keys name model text is_new in_time is_text named is_not_among is_in_time =
    let new = is_not_among ∙ ap not (sym (has_name_of_keys keys (string_bytes name))) in
    after_none _ _ (named ∙ ap name_fault is_text)
    ∙ (λ i. option_or (unless (sym new i) DuplicateName) (unless (sym is_in_time i) BadTick))

pub returns-then-not-is_new-clause-err : goal.returns-then-not-is_new-clause-err
returns-then-not-is_new-clause-err g c = λ ne.
    after_name g.M.Atomic.meaning c.args.names.now.keys c.args.name c.args.model.now c.as_str.result.now c.in_ok-is_new.is_new (starts_in_time (g.M.Atomic.meaning c.args.model.now))
    c.as_str.ensures.value c.in_ok-check_name.ensures c.in_ok-is_new.ensures.added refl
    ∙ ap (λ b. option_or (unless b DuplicateName) (unless (starts_in_time (g.M.Atomic.meaning c.args.model.now)) BadTick)) c.if-not-is_new.true

pub returns-clause-ok : goal.returns-clause-ok
returns-clause-ok g c =
    after_name g.M.Atomic.meaning c.args.names.now.keys c.args.name c.args.model.now c.as_str.result.now c.in_ok-is_new.is_new c.in_ok-has_start_in_time.field-0
    c.as_str.ensures.value c.in_ok-check_name.ensures c.in_ok-is_new.ensures.added c.in_ok-has_start_in_time.ensures
    ∙ (λ i. option_or (unless (c.if-not-is_new.false i) DuplicateName) (unless (c.if-not-branch.false i) BadTick))

pub returns-then-not-branch-clause-err : goal.returns-then-not-branch-clause-err
returns-then-not-branch-clause-err g c = λ ne.
    after_name g.M.Atomic.meaning c.args.names.now.keys c.args.name c.args.model.now c.as_str.result.now c.in_ok-is_new.is_new c.in_ok-has_start_in_time.field-0
    c.as_str.ensures.value c.in_ok-check_name.ensures c.in_ok-is_new.ensures.added c.in_ok-has_start_in_time.ensures
    ∙ (λ i. option_or (unless (c.if-not-is_new.false i) DuplicateName) (unless (c.if-not-branch.true i) BadTick))
