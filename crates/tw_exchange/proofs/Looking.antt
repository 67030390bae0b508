-- What the queues see of an executive stays when global virtual time rises, and when a component's records are committed.
use Rattle.std.proofs.Common.{◌≡◌, ℕ, List, [], ◌∷◌, length, map, Option, None, Some, refl, sym, ap, ◌∙◌}
use Rattle.std.specs.Option.{option_map}
use Rattle.std.specs.Prelude.{not, slice_get, slice_set}
use Rattle.std.proofs.lemmas.List.{length-map, map-set}
use Rattle.std.proofs.lemmas.Option.{none-some, same_Some, slice_get-map}
use Rattle.tw_theory.specs.Contents.{Process, next, harvested}
use Rattle.tw_theory.specs.Executive.{World, Raise, Harvest, act, act_harvest}
use Rattle.tw_theory.specs.Network.{Network}
use Rattle.tw_exchange.specs.Agenda.{mark}
use Rattle.tw_exchange.specs.Exchanged.{IsExact}
use Rattle.tw_exchange.specs.Queues.{IsKept, LooksSame, box_mark, next_mark, post_mark}
use Rattle.tw_exchange.specs.Sweeping.{is_idle}
use Rattle.tw_exchange.specs.declared.queues.Queues.{Queues}
use Rattle.tw_theory.proofs.Elements.{set_same}

pub looks_itself : {S : Type 0} (w : World S) → LooksSame w w
looks_itself w = record { nexts = refl; idle = refl; mail = refl }

pub looks_then : {S : Type 0} (w v u : World S) → LooksSame w v → LooksSame v u → LooksSame w u
looks_then w v u first then = record { nexts = then.nexts ∙ first.nexts; idle = then.idle ∙ first.idle; mail = then.mail ∙ first.mail }

pub raise_looks : {S : Type 0} (net : Network S) (until : ℕ) (w : World S) → LooksSame w (act net until w Raise).1
unfolding act
raise_looks net until w = record { nexts = refl; idle = refl; mail = refl }

-- one is put in the place of another that looks like it
map_set_same : {X Y : Type 0} (f : X → Y) (xs : List X) (c : ℕ) (x y : X) → slice_get xs c ≡ Some x → f y ≡ f x → map f (slice_set xs c y) ≡ map f xs
map_set_same f xs c x y at same = map-set f xs c y ∙ ap (slice_set (map f xs) c) same ∙ set_same (map f xs) c (f x) (slice_get-map f xs c ∙ ap (option_map f) at)

pub harvest_looks : {S : Type 0} (net : Network S) (until : ℕ) (w : World S) (c : ℕ) → LooksSame w (act net until w (Harvest c)).1
unfolding act
harvest_looks net until w c = go (slice_get w.processes c) refl
  where
    go : (p : Option (Process _)) → slice_get w.processes c ≡ p → LooksSame w (act_harvest w c p).1
    go None at = looks_itself w
    go (Some p) at = record {
      nexts = map_set_same next w.processes c p (harvested w.gvt p) at refl;
      idle = map_set_same is_idle w.processes c p (harvested w.gvt p) at refl;
      mail = refl;
    }

-- ---- what is kept of the one is kept of the other

next_marks : {S : Type 0} (ps : List (Process S)) → map next_mark ps ≡ map (λ s. Some s) (map next ps)
next_marks [] = refl
next_marks (p ∷ ps) = ap (λ l. next_mark p ∷ l) (next_marks ps)

post_marks : {S : Type 0} (ps : List (Process S)) → map post_mark ps ≡ map (λ b. mark (not b)) (map is_idle ps)
post_marks [] = refl
post_marks (p ∷ ps) = ap (λ l. post_mark p ∷ l) (post_marks ps)

module _ {S : Type 0} (queues : Queues) (w w' : World S) where
  exact_looks : IsExact queues.free w.processes → map next w'.processes ≡ map next w.processes → IsExact queues.free w'.processes
  exact_looks h same = record {
    count = h.count ∙ sym (length-map w.processes next) ∙ sym (ap length same) ∙ length-map w'.processes next;
    next_is = λ c s q at there. go c s q at (slice_get w.processes c) refl (sym (slice_get-map next w.processes c) ∙ sym (ap (λ l. slice_get l c) same) ∙ slice_get-map next w'.processes c ∙ ap (option_map next) there);
  }
    where
      go : (c s : ℕ) (q : Process S) → slice_get queues.free c ≡ Some (Some s) → (p : Option (Process S)) → slice_get w.processes c ≡ p → option_map next p ≡ Some (next q) → s ≡ next q
      go c s q at None here is = absurd (none-some _ is)
      go c s q at (Some p) here is = h.next_is c s p at here ∙ same_Some _ _ is

  pub kept_looks : IsKept queues w → LooksSame w w' → IsKept queues w'
  kept_looks h looks = record {
    free = exact_looks h.free looks.nexts;
    marks = record {
      posting = h.marks.posting ∙ post_marks w.processes ∙ sym (ap (map (λ b. mark (not b))) looks.idle) ∙ sym (post_marks w'.processes);
      delivering = h.marks.delivering ∙ sym (ap (map box_mark) looks.mail);
      standing = h.marks.standing ∙ next_marks w.processes ∙ sym (ap (map (λ s. Some s)) looks.nexts) ∙ sym (next_marks w'.processes);
    };
  }
