use Rattle.std.proofs.Common.{◌++◌, ◌∷◌, [], map, ap, ◌∙◌, refl, rules, sym, arith, append_assoc, string_bytes}
use Rattle.std.specs.Vec.Iter.{into_iter_items}
use Rattle.std.proofs.lemmas.List.{map-append}
use Rattle.tw_nested.specs.Tree.{parts_of}
use Rattle.tw_nested.proofs.Taking.{after_part, all_coupled, all_taken, fits_next, fits_within, taken_atom, taken_coupled}
use Rattle.tw_nested.proofs.tables.+take.Goals as goal

pub take-loop-name-preserved : goal.take-loop-name-preserved
take-loop-name-preserved g t c = (
  tt,
  tt,
  c.loop-name.invariant.2 ∙ ap (λ r. c.loop-name.yielded ++ r) c.in-Some.ensures.steps.0 ∙ sym (append_assoc c.loop-name.yielded ((c.in-Some.name, c.in-Some.part) ∷ []) (into_iter_items c.next.new.self)),
  rw c.in_ok-push.ensures.items
      (after_part (parts_of c.args.nested.parts.items) c.args.prefix.now c.args.tables.now c.loop-name.tables c.loop-name.parts.items c.in-Some.part (string_bytes c.in-Some.name) (parts_of (into_iter_items c.next.new.self))
      (rw c.in-Some.ensures.steps.0 at c.loop-name.invariant.3)
      c.take_part.new.tables (rw c.as_str.ensures.value at c.in_ok-take_part.ensures.taken)),
)

pub take-returns : goal.take-returns
take-returns g t c =
    let all = all_taken (parts_of c.args.nested.parts.items) c.args.prefix.now c.args.tables.now c.loop-name.tables c.loop-name.parts.items (into_iter_items c.loop-name.name-iterator) (sym c.loop-name.name-iterator.rest.ok.0 ∙ c.in-None.ensures.steps.0) c.loop-name.invariant.3 in
    record {
      taken = record {
        count = all.count;
        names = all.names;
        models = all.models;
        atoms = all.atoms;
        coupled = rw c.in_ok-push-2.ensures.items
            (all_coupled (parts_of c.args.nested.parts.items) c.args.prefix.now c.args.tables.now c.loop-name.tables c.loop-name.parts.items (into_iter_items c.loop-name.name-iterator) (sym c.loop-name.name-iterator.rest.ok.0 ∙ c.in-None.ensures.steps.0) c.loop-name.invariant.3
            (record { number = c.args.number; parts = c.loop-name.parts; links = c.args.nested.couplings }) refl);
      };
      memory = tt;
    }

pub take_part-returns-in_ok-push-in-Atom-3-clause-taken : goal.take_part-returns-in_ok-push-in-Atom-3-clause-taken
take_part-returns-in_ok-push-in-Atom-3-clause-taken g t c =
    taken_atom c.args.prefix.now c.args.name.now c.args.part c.args.tables.now _ c.in-Atom.model c.in-Atom.is refl
    (ap (map string_bytes) c.in_ok-push-in-Atom.ensures.items ∙ map-append string_bytes c.args.tables.now.names.items (c.in_ok-name-in-Atom.name ∷ [])
    ∙ ap (λ n. map string_bytes c.args.tables.now.names.items ++ n ∷ []) c.in_ok-name-in-Atom.ensures)
    c.in_ok-push-in-Atom-2.ensures.items c.in_ok-push-in-Atom-3.ensures.items refl

pub take_part-returns-in_ok-prefix-in-Coupled-clause-taken : goal.take_part-returns-in_ok-prefix-in-Coupled-clause-taken
take_part-returns-in_ok-prefix-in-Coupled-clause-taken g t c =
    taken_coupled c.args.prefix.now c.args.name.now c.args.part c.args.tables.now c.take.new.tables c.in-Coupled.inner c.in-Coupled.is c.take.result
    (rw (c.as_str.ensures.value, c.in_ok-prefix-in-Coupled.ensures) at c.take.ensures.taken)

pub take-take_part-requires : goal.take-take_part-requires
take-take_part-requires g t c κs within =
    let s = rw c.in-Some.ensures.steps.0 at c.loop-name.invariant.3 in
    let whole = parts_of c.args.nested.parts.items in
    let more = s.more in let fits = c.requires.1.1.1 in (
      omega (arith, more, fits, c.requires.1.0),
      (
        search rules,
        rw c.as_str.ensures.value
            (fits_next whole c.args.prefix.now c.args.tables.now c.loop-name.tables c.loop-name.parts.items c.in-Some.part (string_bytes c.in-Some.name) _ s c.requires.1.1.1),
      ),
    )

pub take_part-take-requires : goal.take_part-take-requires
take_part-take-requires g t c κs within =
    let fits = fits_within c.args.part c.args.name.now c.in-Coupled.inner c.args.tables.now.count c.in-Coupled.is c.requires.1.1.1 in
    (omega (arith, fits, c.requires.1.0), (search rules, fits))
