use Rattle.std.proofs.Common.{◌≡◌, ◌++◌, ◌∷◌, [], List, ap, append_assoc, arith, length, map, string_bytes, sym, ◌∙◌}
use Rattle.std.proofs.lemmas.List.{append-nil}
use Rattle.std.proofs.lemmas.Result.{IfOk-from_err}
use Rattle.std.specs.Vec.Iter.{into_iter_items}
use Rattle.tw_network.proofs.TreeNames.{absent_string}
use Rattle.tw_network.proofs.naming.name_set.Goals as goal

-- where no name is left, all are given
all_given : {A : Type 0} (names given rest : List A) → names ≡ given ++ rest → length rest ≡ 0 → given ≡ names
all_given names given [] is left = sym (is ∙ append-nil given)
all_given names given (x ∷ rest) is left = absurd (omega (arith, left))

pub add_name-requires : goal.add_name-requires
add_name-requires c =
    record {
      new = rw c.loop-name.invariant.3 (absent_string c.args.names.items c.loop-name.yielded c.in-Some.name (into_iter_items c.next.new.self) c.requires.distinct
          (c.loop-name.invariant.2 ∙ ap (λ r. c.loop-name.yielded ++ r) c.in-Some.ensures.steps.0));
    }

pub loop-name-preserved : goal.loop-name-preserved
loop-name-preserved c =
    let given = c.loop-name.invariant.2 ∙ ap (λ r. c.loop-name.yielded ++ r) c.in-Some.ensures.steps.0 ∙ sym (append_assoc c.loop-name.yielded (c.in-Some.name ∷ []) (into_iter_items c.next.new.self)) in
    (tt, tt, given, c.in_ok-add_name.ensures ∙ ap (λ l. l ++ c.in-Some.name ∷ []) c.loop-name.invariant.3)

pub returns-in_err-add_name : goal.returns-in_err-add_name
returns-in_err-add_name c = IfOk-from_err _ _ c.from_residual.ensures.0

pub returns : goal.returns
returns c =
    ap (map string_bytes) (c.loop-name.invariant.3 ∙ all_given c.args.names.items c.loop-name.yielded (into_iter_items c.loop-name.name-iterator) c.loop-name.invariant.2 (sym c.loop-name.name-iterator.rest.ok.0 ∙ c.in-None.ensures.steps.0))
