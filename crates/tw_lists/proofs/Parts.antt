-- The messages of one stamp consumed one by one, as long as they carry a bag.
use Rattle.std.proofs.Common.{◌≡◌, ◌≢◌, ℕ, ℤ, zero, suc, ◌+◌, ◌-◌, ◌==◌, ◌≤◌, Bool, true, false, List, [], ◌∷◌, ◌++◌, length, take, drop, cond, refl, sym, ap, ap₂, subst, ◌∙◌, arith, length-append, length-drop, append-nil, append_assoc, take-append-drop, drop-drop, take_all, take_at, drop_at, length-take-le}
use Rattle.std.proofs.lemmas.Bool.{eq-eqb}
use Rattle.tw_msgs.specs.Bags.{Bag}
use Rattle.tw_msgs.specs.Messages.{Sorted}
use Rattle.tw_msgs.specs.declared.message.Message.{Message}
use Rattle.tw_theory.specs.Bundles.{front, behind, items_of}
use Rattle.tw_theory.proofs.Steps.{front-behind}
use Rattle.tw_lists.specs.Lists.{Lists, first_consumed, front_consumed, restored}
use Rattle.tw_lists.specs.Nodes.{IsPart, IsNext}
use Rattle.tw_lists.proofs.Loops.{items_length}
use Rattle.tw_lists.proofs.Owing.{take_more}

items-drop : (n : ℕ) (ms : List Message) → drop n (items_of ms) ≡ items_of (drop n ms)
items-drop zero ms = refl
items-drop (suc n) [] = refl
items-drop (suc n) (m ∷ ms) = items-drop n ms

behind_other : (s : ℕ) (ms : List Message) (m : Message) (rest : List Message) → behind s ms ≡ m ∷ rest → m.stamp ≡ s → ⊥
behind_other s [] m rest is same = absurd (cc)
behind_other s (x ∷ ms) m rest is same = go (λ i. behind_other s ms m rest i same) (x.stamp == s) refl is
  where
    go : (behind s ms ≡ m ∷ rest → ⊥) → (b : Bool) → (x.stamp == s) ≡ b → cond b (behind s ms) (x ∷ ms) ≡ m ∷ rest → ⊥
    go later true t is = later is
    go later false t is = let e : x ≡ m = cc in let both : false ≡ true = sym t ∙ eq-eqb x.stamp s (ap (λ y. y.stamp) e ∙ same) in cc both

front_part : (s n : ℕ) (ms : List Message) → front s (drop n (front s ms) ++ behind s ms) ≡ drop n (front s ms)
front_part s zero [] = refl
front_part s (suc n) [] = refl
front_part s n (m ∷ ms) = go n (m.stamp == s) refl (λ k. front_part s k ms)
  where
    none : (n : ℕ) → drop {A = Message} n [] ≡ []
    none zero = refl
    none (suc n) = refl

    go : (n : ℕ) (b : Bool) → (m.stamp == s) ≡ b → ((k : ℕ) → front s (drop k (front s ms) ++ behind s ms) ≡ drop k (front s ms))
        → front s (drop n (cond b (m ∷ front s ms) []) ++ cond b (behind s ms) (m ∷ ms)) ≡ drop n (cond b (m ∷ front s ms) [])
    go zero true t rest = ap (λ b. cond b (m ∷ front s (front s ms ++ behind s ms)) []) t ∙ ap (λ l. m ∷ l) (rest 0)
    go (suc n) true t rest = rest n
    go n false t rest = ap (λ l. front s (l ++ m ∷ ms)) (none n) ∙ ap (λ b. cond b (m ∷ front s ms) []) t ∙ sym (none n)

pub part_none : (s : ℕ) (bag : Bag) (old : Lists) → IsPart s 0 bag old old
part_none s bag old = record {
  enough = omega arith;
  carry = refl;
  consumed_is = sym (append-nil old.consumed);
  pending_is = sym (front-behind s old.pending);
  same = refl;
}

module _ (s n : ℕ) (bag : Bag) (old new : Lists) (part : IsPart s n bag old new) where
  pub part_more : (later : Lists) (item : ℕ × ℤ) → take (n + 1) bag ≡ take n bag ++ item ∷ [] → IsNext s item new.pending → later ≡ first_consumed new → IsPart s (n + 1) bag old later
  part_more later item next is later_is = go (drop n f) refl
    where
      f : List Message
      f = front s old.pending

      b : List Message
      b = behind s old.pending

      none : (l : List Message) → l ≡ behind s old.pending → IsNext s item l → ⊥
      none [] e h = h
      none (m ∷ l) e h = behind_other s old.pending m l (sym e) h.0

      go : (r : List Message) → drop n (front s old.pending) ≡ r → IsPart s (n + 1) bag old later
      go [] e = absurd (none new.pending (part.pending_is ∙ ap (λ x. x ++ behind s old.pending) e) is)
      go (m ∷ r) e =
          let q = r ++ behind s old.pending in
          let pending : new.pending ≡ m ∷ q = part.pending_is ∙ ap (λ x. x ++ behind s old.pending) e in
          let here = subst (λ l. IsNext s item l) pending is in
          let done : Lists = record new { pending = q; consumed = new.consumed ++ m ∷ [] } in
          let now : later ≡ done = later_is ∙ ap (λ l. Rattle.tw_lists.specs.Lists.consuming new l) pending in
          let rest : drop (n + 1) (front s old.pending) ≡ r = sym (drop-drop 1 n (front s old.pending)) ∙ ap (drop 1) e in
          let carried : take (n + 1) (items_of (front s old.pending)) ≡ take n (items_of (front s old.pending)) ++ (m.port, m.value) ∷ [] =
          take_more n (items_of (front s old.pending)) (m.port, m.value) (items_of r) (items-drop n (front s old.pending) ∙ ap items_of e) in
          let same : (m.port, m.value) ≡ item = λ i. (here.1 i, here.2 i) in
          subst (λ l. IsPart s (n + 1) bag old l) (sym now)
          (record {
            enough = omega (arith, length-drop n (front s old.pending), ap length e);
            carry = carried ∙ ap₂ (λ (x : Bag) (y : ℕ × ℤ). x ++ y ∷ []) part.carry same ∙ sym next;
            consumed_is = ap (λ x. x ++ m ∷ []) part.consumed_is ∙ append_assoc old.consumed (take n (front s old.pending)) (m ∷ []) ∙ ap (λ x. old.consumed ++ x) (sym (take_more n (front s old.pending) m r e));
            pending_is = ap (λ x. x ++ behind s old.pending) (sym rest);
            same = ap (λ (v : Lists). record v { pending = q; consumed = new.consumed ++ m ∷ [] }) part.same;
          })

  pub record Back : Type 0 where
    pub within : n ≤ length new.consumed
    pub sorted : Sorted (drop (length new.consumed - n) new.consumed ++ new.pending)
    pub same : restored n new ≡ old

  pub part_back : Sorted old.pending → Back
  part_back sorted =
      let f = front s old.pending in
      let t = take n f in
      let long : length t ≡ n = length-take-le n f part.enough in
      let all = ap length part.consumed_is ∙ length-append old.consumed t in
      let k : length new.consumed - n ≡ length old.consumed = omega (arith, all, long) in
      let dropped : drop (length new.consumed - n) new.consumed ≡ t = ap₂ (λ (j : ℕ) (l : List Message). drop j l) k part.consumed_is ∙ drop_at old.consumed t (length old.consumed) refl in
      let taken : take (length new.consumed - n) new.consumed ≡ old.consumed = ap₂ (λ (j : ℕ) (l : List Message). take j l) k part.consumed_is ∙ take_at old.consumed t (length old.consumed) refl in
      let pending : drop (length new.consumed - n) new.consumed ++ new.pending ≡ old.pending =
      ap₂ (λ x y. x ++ y) dropped part.pending_is ∙ sym (append_assoc t (drop n f) (behind s old.pending)) ∙ ap (λ x. x ++ behind s old.pending) (take-append-drop n f) ∙ front-behind s old.pending in
      record {
        within = omega (arith, all, long);
        sorted = subst (λ l. Sorted l) (sym pending) sorted;
        same = (λ i. record new { pending = pending i; consumed = taken i }) ∙ ap (λ (v : Lists). record v { pending = old.pending; consumed = old.consumed }) part.same;
      }

  left : front s new.pending ≡ drop n (front s old.pending)
  left = ap (front s) part.pending_is ∙ front_part s n old.pending

  -- the next of the bag does not come next
  pub part_differs : (item : ℕ × ℤ) (rest : Bag) → drop n bag ≡ item ∷ rest → ((r : Bag) → items_of (front s new.pending) ≢ item ∷ r) → items_of (front s old.pending) ≢ bag
  part_differs item rest next other is = other rest (ap items_of left ∙ sym (items-drop n (front s old.pending)) ∙ ap (drop n) is ∙ next)

  -- the bag is at its end, and messages are left
  pub part_longer : length bag ≡ n → front s new.pending ≢ [] → items_of (front s old.pending) ≢ bag
  part_longer whole some is =
      let f = front s old.pending in
      let e = length-drop n f in
      let l = items_length f in
      let m = ap length is in
      some (left ∙ nil (drop n f) (omega (arith, e, l, m, whole)))
    where
      nil : (xs : List Message) → length xs ≡ 0 → xs ≡ []
      nil [] z = refl
      nil (x ∷ xs) z = absurd (omega (arith, z))

  pub record Whole : Type 0 where
    pub carry : items_of (front s old.pending) ≡ bag
    pub same : new ≡ front_consumed s old

  pub part_whole : length bag ≡ n → front s new.pending ≡ [] → Whole
  part_whole whole none =
      let f = front s old.pending in
      let gone : drop n f ≡ [] = sym left ∙ none in
      let short : length f ≤ n = omega (arith, length-drop n f, ap length gone) in
      record {
        carry = sym (take_all n (items_of f) (omega (arith, items_length f, short))) ∙ part.carry ∙ take_all n bag (omega (arith, whole));
        same = part.same ∙ (λ i. record old {
          consumed = (part.consumed_is ∙ ap (λ x. old.consumed ++ x) (take_all n f short)) i;
          pending = (part.pending_is ∙ ap (λ x. x ++ behind s old.pending) gone) i;
        });
      }
