-- Messages that are owed: what is sent anew, what is still owed, what is overdue; what a cut cancels at once and what it leaves owed.
use Rattle.std.proofs.Common.{◌≡◌, ℕ, suc, ◌+◌, ◌≤◌, List, [], ◌∷◌, ◌++◌, length, length-append, Bool, true, false, cond, refl, sym, ap, ◌∙◌, arith, append-nil, append_assoc}
use Rattle.std.specs.List.{AllByRecursion as Each}
use Rattle.std.proofs.lemmas.Bool.{cond_both}
use Rattle.std.proofs.lemmas.List.{length-map, map-append}
use Rattle.tw_msgs.specs.Counting.{when_positive, when_anti, total}
use Rattle.tw_msgs.specs.Messages.{has, without}
use Rattle.tw_msgs.specs.declared.message.Item.{Item}
use Rattle.tw_msgs.specs.declared.message.Message.{Message}
use Rattle.tw_msgs.proofs.MessageLists.{total-without}
use Rattle.tw_msgs.proofs.Totals.{total-append}
use Rattle.tw_vtime.specs.Stamps.{never, is_overdue}
use Rattle.tw_theory.specs.Bundles.{anti, antis, sent_anew, still_owed, overdue, not_overdue, least_owed}
use Rattle.tw_theory.specs.Contents.{Cancel, Aggressive, Lazy, sent_out, owed_after, outgoing_undone, owed_undone, sent_by, unsent_by}
use Rattle.tw_theory.specs.LocalRun.{Step}
use Rattle.tw_theory.proofs.Elements.{each-append, each-antis, each-without}
use Rattle.tw_theory.proofs.Totals.{positive-antis, anti-antis}

-- ---- messages sent where some are owed

-- what was owed and what is sent anew are what is sent and what is still owed
pub total-anew : (weight : Message → ℕ) (owed ms : List Message)
    → total weight owed + total weight (sent_anew owed ms) ≡ total weight (still_owed owed ms) + total weight ms
total-anew weight owed [] = refl
total-anew weight owed (m ∷ ms) = go (has m owed) refl (total-anew weight (without m owed) ms) (total-anew weight owed ms)
  where
    go : (b : Bool) → has m owed ≡ b
        → total weight (without m owed) + total weight (sent_anew (without m owed) ms) ≡ total weight (still_owed (without m owed) ms) + total weight ms
        → total weight owed + total weight (sent_anew owed ms) ≡ total weight (still_owed owed ms) + total weight ms
        → total weight owed + total weight (cond b (sent_anew (without m owed) ms) (m ∷ sent_anew owed ms)) ≡ total weight (cond b (still_owed (without m owed) ms) (still_owed owed ms)) + (weight m + total weight ms)
    go true e h k = omega (arith, h, total-without weight m owed e)
    go false e h k = omega (arith, k)

pub anew-append : (owed xs ys : List Message) → sent_anew owed (xs ++ ys) ≡ sent_anew owed xs ++ sent_anew (still_owed owed xs) ys
anew-append owed [] ys = refl
anew-append owed (m ∷ xs) ys = go (has m owed) (anew-append (without m owed) xs ys) (anew-append owed xs ys)
  where
    go : (b : Bool) → sent_anew (without m owed) (xs ++ ys) ≡ sent_anew (without m owed) xs ++ sent_anew (still_owed (without m owed) xs) ys
        → sent_anew owed (xs ++ ys) ≡ sent_anew owed xs ++ sent_anew (still_owed owed xs) ys
        → cond b (sent_anew (without m owed) (xs ++ ys)) (m ∷ sent_anew owed (xs ++ ys))
        ≡ cond b (sent_anew (without m owed) xs) (m ∷ sent_anew owed xs) ++ sent_anew (cond b (still_owed (without m owed) xs) (still_owed owed xs)) ys
    go true h k = h
    go false h k = ap (λ l. m ∷ l) k

pub still-append : (owed xs ys : List Message) → still_owed owed (xs ++ ys) ≡ still_owed (still_owed owed xs) ys
still-append owed [] ys = refl
still-append owed (m ∷ xs) ys = go (has m owed) (still-append (without m owed) xs ys) (still-append owed xs ys)
  where
    go : (b : Bool) → still_owed (without m owed) (xs ++ ys) ≡ still_owed (still_owed (without m owed) xs) ys
        → still_owed owed (xs ++ ys) ≡ still_owed (still_owed owed xs) ys
        → cond b (still_owed (without m owed) (xs ++ ys)) (still_owed owed (xs ++ ys)) ≡ still_owed (cond b (still_owed (without m owed) xs) (still_owed owed xs)) ys
    go true h k = h
    go false h k = k

module _ (P : Message → Type 0) where
  pub each-anew : (owed ms : List Message) → Each P ms → Each P (sent_anew owed ms)
  each-anew owed [] h = tt
  each-anew owed (m ∷ ms) h =
      cond_both (has m owed) (sent_anew (without m owed) ms) (m ∷ sent_anew owed ms) (Each P) (λ e. each-anew (without m owed) ms h.1) (λ e. (h.0, each-anew owed ms h.1))

  still_each : (b : Bool) (xs ys : List Message) → Each P xs → Each P ys → Each P (cond b xs ys)
  still_each true xs ys h k = h
  still_each false xs ys h k = k

  pub each-still : (owed ms : List Message) → Each P owed → Each P (still_owed owed ms)
  each-still owed [] h = h
  each-still owed (m ∷ ms) h = still_each (has m owed) _ _ (each-still (without m owed) ms (each-without P m owed h)) (each-still owed ms h)

  pub each-overdue : (s : ℕ) (owed : List Message) → Each P owed → Each P (overdue s owed) × Each P (not_overdue s owed)
  each-overdue s [] h = (tt, tt)
  each-overdue s (m ∷ ms) h = go (is_overdue m.stamp s) (each-overdue s ms h.1)
    where
      go : (b : Bool) → Each P (overdue s ms) × Each P (not_overdue s ms)
          → Each P (cond b (m ∷ overdue s ms) (overdue s ms)) × Each P (cond b (not_overdue s ms) (m ∷ not_overdue s ms))
      go true k = ((h.0, k.0), k.1)
      go false k = (k.0, (h.0, k.1))

-- ---- messages overdue

pub total-overdue : (weight : Message → ℕ) (s : ℕ) (owed : List Message)
    → total weight (overdue s owed) + total weight (not_overdue s owed) ≡ total weight owed
total-overdue weight s [] = refl
total-overdue weight s (m ∷ ms) = go (is_overdue m.stamp s) (total-overdue weight s ms)
  where
    go : (b : Bool) → total weight (overdue s ms) + total weight (not_overdue s ms) ≡ total weight ms
        → total weight (cond b (m ∷ overdue s ms) (overdue s ms)) + total weight (cond b (not_overdue s ms) (m ∷ not_overdue s ms)) ≡ weight m + total weight ms
    go true h = omega (arith, h)
    go false h = omega (arith, h)

pub length-overdue : (s : ℕ) (owed : List Message) → length (overdue s owed) + length (not_overdue s owed) ≡ length owed
length-overdue s [] = refl
length-overdue s (m ∷ ms) = go (is_overdue m.stamp s) (length-overdue s ms)
  where
    go : (b : Bool) → length (overdue s ms) + length (not_overdue s ms) ≡ length ms
        → length (cond b (m ∷ overdue s ms) (overdue s ms)) + length (cond b (not_overdue s ms) (m ∷ not_overdue s ms)) ≡ suc (length ms)
    go true h = omega (arith, h)
    go false h = omega (arith, h)

-- ---- the least stamp

pub each_from_owed : (g : ℕ) (owed : List Message) → g ≤ least_owed owed → Each (λ m. g ≤ m.stamp) owed
each_from_owed g [] l = tt
each_from_owed g (m ∷ ms) l = (omega arith, each_from_owed g ms (omega arith))

pub owed_from_each : (g : ℕ) (owed : List Message) → g ≤ never → Each (λ m. g ≤ m.stamp) owed → g ≤ least_owed owed
owed_from_each g [] top h = top
owed_from_each g (m ∷ ms) top h = let rest = owed_from_each g ms top h.1 in omega (arith, h.0)

-- ---- for both ways of cancelling

pub total-out : (weight : Message → ℕ) (k : Cancel) (owed ms : List Message)
    → total weight owed + total weight (sent_out k owed ms) ≡ total weight (owed_after k owed ms) + total weight ms
total-out weight Aggressive owed ms = refl
total-out weight Lazy owed ms = total-anew weight owed ms

pub out-append : (k : Cancel) (owed xs ys : List Message) → sent_out k owed (xs ++ ys) ≡ sent_out k owed xs ++ sent_out k (owed_after k owed xs) ys
out-append Aggressive owed xs ys = refl
out-append Lazy owed xs ys = anew-append owed xs ys

pub after-append : (k : Cancel) (owed xs ys : List Message) → owed_after k owed (xs ++ ys) ≡ owed_after k (owed_after k owed xs) ys
after-append Aggressive owed xs ys = refl
after-append Lazy owed xs ys = still-append owed xs ys

pub each-out : (P : Message → Type 0) (k : Cancel) (owed ms : List Message) → Each P ms → Each P (sent_out k owed ms)
each-out P Aggressive owed ms h = h
each-out P Lazy owed ms h = each-anew P owed ms h

pub each-after : (P : Message → Type 0) (k : Cancel) (owed ms : List Message) → Each P owed → Each P (owed_after k owed ms)
each-after P Aggressive owed ms h = h
each-after P Lazy owed ms h = each-still P owed ms h

pub anti-undone : (weight : Message → ℕ) (k : Cancel) (out : List Item) (owed ms : List Message)
    → total (when_anti weight) (outgoing_undone k out ms) + total weight (owed_undone k owed ms) ≡ total (when_anti weight) out + total weight owed + total weight ms
anti-undone weight Aggressive out owed ms = omega (arith, total-append (when_anti weight) out (antis ms), anti-antis weight ms)
anti-undone weight Lazy out owed ms = omega (arith, total-append weight owed ms)

pub positive-undone : (weight : Message → ℕ) (k : Cancel) (out : List Item) (ms : List Message)
    → total (when_positive weight) (outgoing_undone k out ms) ≡ total (when_positive weight) out
positive-undone weight Aggressive out ms = omega (arith, total-append (when_positive weight) out (antis ms), positive-antis weight ms)
positive-undone weight Lazy out ms = refl

pub length-undone : (k : Cancel) (out : List Item) (owed ms : List Message)
    → length (outgoing_undone k out ms) + length (owed_undone k owed ms) ≡ length out + length owed + length ms
length-undone Aggressive out owed ms = omega (arith, length-append out (antis ms), length-map ms anti)
length-undone Lazy out owed ms = omega (arith, length-append owed ms)

pub each-undone : (P : Message → Type 0) (k : Cancel) (out : List Item) (owed ms : List Message) → Each (λ i. P i.message) out → Each P owed
    → Each P ms → Each (λ i. P i.message) (outgoing_undone k out ms) × Each P (owed_undone k owed ms)
each-undone P Aggressive out owed ms a b c = (each-append (λ i. P i.message) out (antis ms) a (each-antis P ms c), b)
each-undone P Lazy out owed ms a b c = (a, each-append P owed ms b c)

pub undone-append : (k : Cancel) (out : List Item) (owed xs ys : List Message)
    → (outgoing_undone k out (xs ++ ys) ≡ outgoing_undone k (outgoing_undone k out xs) ys) × (owed_undone k owed (xs ++ ys) ≡ owed_undone k (owed_undone k owed xs) ys)
undone-append Aggressive out owed xs ys = (ap (λ l. out ++ l) (map-append anti xs ys) ∙ sym (append_assoc out (antis xs) (antis ys)), refl)
undone-append Lazy out owed xs ys = (refl, sym (append_assoc owed xs ys))

-- ---- what steps sent

module _ {S : Type 0} where
  pub total-unsent : (weight : Message → ℕ) (steps : List (Step S)) → total weight (unsent_by steps) ≡ total weight (sent_by steps)
  total-unsent weight [] = refl
  total-unsent weight (x ∷ steps) = omega (arith, total-append weight (unsent_by steps) x.sent, total-append weight x.sent (sent_by steps), total-unsent weight steps)

  pub length-unsent : (steps : List (Step S)) → length (unsent_by steps) ≡ length (sent_by steps)
  length-unsent [] = refl
  length-unsent (x ∷ steps) = omega (arith, length-append (unsent_by steps) x.sent, length-append x.sent (sent_by steps), length-unsent steps)

  pub each-unsent : (P : Message → Type 0) (steps : List (Step S)) → Each (λ step. Each P step.sent) steps → Each P (unsent_by steps)
  each-unsent P [] h = tt
  each-unsent P (x ∷ steps) h = each-append P (unsent_by steps) x.sent (each-unsent P steps h.1) h.0

  pub unsent-append : (xs ys : List (Step S)) → unsent_by (xs ++ ys) ≡ unsent_by ys ++ unsent_by xs
  unsent-append [] ys = sym (append-nil (unsent_by ys))
  unsent-append (x ∷ xs) ys = ap (λ l. l ++ x.sent) (unsent-append xs ys) ∙ append_assoc (unsent_by ys) (unsent_by xs) x.sent
