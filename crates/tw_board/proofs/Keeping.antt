-- Each kind of step keeps the rule of the board.
use Rattle.std.proofs.Common.{◌≡◌, ℕ, ◌<◌, ◌≤◌, ◌≢◌, max, true, false, List, get_or, set, refl, sym, ap, ◌∙◌, subst, ⊎_elim, arith, le_refl, length-set, get_or-set_other, get_or-set_same}
use Rattle.std.proofs.lemmas.Bool.{both_ways, cases_lt}
use lib.Seq.{set-get_or}
use mathlib.Core.Option.{some}
use lib.ListN.{get_elem?}
use Rattle.atomic_table.specs.Table.{State, Me, keeps, stepped, Allows, Enters, Splits, Joins}
use Rattle.atomic_table.proofs.Lists.{at_set, at_snoc}
use Rattle.tw_vtime.specs.Stamps.{IsStamp}
use Rattle.tw_theory.specs.Board.{Numbers, AtMost}
use Rattle.tw_theory.proofs.Board.{at_most_trans}
use Rattle.tw_board.specs.declared.rule.View.{View}
use Rattle.tw_board.specs.Rule.{reader, Fits, IsKept, words_of, HasSeenGvt, HasSeenCommitted, HasFoundGvt, HasFoundCommitted, HasPostedGvt, HasPostedCommitted}

abbrev word : State ℕ View → ℕ → ℕ
word s i = get_or s.words i 0

-- the other seats' views fit words that are not below, and that stay unless the step is the publisher's
others : (s : State ℕ View) → IsKept s → (id : ℕ) (w : View) (words : Numbers) → AtMost (words_of s) words
    → ((j : ℕ) → j ≢ id → j ≡ 0 → (word s 0 ≡ words.0) × (word s 1 ≡ words.1))
    → Fits words id w → (j : ℕ) (u : View) → get_elem? (set s.views id w) j ≡ some u → Fits words j u
others s kept id w words up same mine j u at = ⊎_elim
    (λ (t : (j ≡ id) × (w ≡ u)). subst (λ (x : ℕ × View). Fits words x.0 x.1) (λ i. (sym t.0 i, t.1 i)) mine)
    (λ (t : (j ≢ id) × (get_elem? s.views j ≡ some u)). let f = kept.fits j u t.1 in record {
      seen = at_most_trans _ _ _ f.seen up;
      told = at_most_trans _ _ _ f.told up;
      exact = λ p. let o = f.exact p in let e = same j t.0 o.0 in (o.0, o.1 ∙ e.0, o.2 ∙ e.1);
    })
    (at_set s.views id j w u at)

-- a view that changes while the words stay
looked : (s : State ℕ View) → IsKept s → (id : ℕ) (w : View) → Fits (words_of s) id w → IsKept record { words = s.words; homes = s.homes; views = set s.views id w }
looked s kept id w mine = record { two = kept.two; is_stamp = kept.is_stamp; fits = others s kept id w (words_of s) (le_refl _, le_refl _) (λ _ _ _. (refl, refl)) mine }

loads : (s : State ℕ View) → IsKept s → (i id : ℕ) (cs : List (ℕ × ℕ)) (w : View) → Fits (words_of s) id w → IsKept (stepped s i (word s i) id cs w keeps)
loads s kept i id cs w mine = subst (λ (ws : List ℕ). IsKept record { words = ws; homes = s.homes; views = set s.views id w }) (sym (set-get_or s.words i 0)) (looked s kept id w mine)

pub sees_gvt : (slots id : ℕ) (v : Me ℕ View) → v.0.posts ≡ false → Allows IsKept slots id v 0 (λ n. n) (HasSeenGvt v)
sees_gvt slots id v looks s kept _ at _ =
    let f = kept.fits id v.0 at in let w : View = record v.0 { gvt = word s 0 } in (
      w,
      keeps,
      tt,
      loads s kept 0 id v.1 w record { seen = (le_refl (word s 0), f.seen.1); told = f.told; exact = λ p. absurd (both_ways v.0.posts looks p) },
      (refl, f.seen.0, kept.is_stamp),
    )

pub sees_committed : (slots id : ℕ) (v : Me ℕ View) → v.0.posts ≡ false → Allows IsKept slots id v 1 (λ n. n) (HasSeenCommitted v)
sees_committed slots id v looks s kept _ at _ =
    let f = kept.fits id v.0 at in let w : View = record v.0 { committed = word s 1 } in (
      w,
      keeps,
      tt,
      loads s kept 1 id v.1 w record { seen = (f.seen.0, le_refl (word s 1)); told = f.told; exact = λ p. absurd (both_ways v.0.posts looks p) },
      (refl, f.seen.1),
    )

pub finds_gvt : (slots id : ℕ) (v : Me ℕ View) → v.0.posts ≡ true → Allows IsKept slots id v 0 (λ n. n) (HasFoundGvt v)
finds_gvt slots id v posts s kept _ at _ =
    let f = kept.fits id v.0 at in (v.0, keeps, tt, loads s kept 0 id v.1 v.0 f, (refl, sym (f.exact posts).1, f.told.0, kept.is_stamp))

pub finds_committed : (slots id : ℕ) (v : Me ℕ View) → v.0.posts ≡ true → Allows IsKept slots id v 1 (λ n. n) (HasFoundCommitted v)
finds_committed slots id v posts s kept _ at _ =
    let f = kept.fits id v.0 at in (v.0, keeps, tt, loads s kept 1 id v.1 v.0 f, (refl, sym (f.exact posts).2, f.told.1))

-- the publisher sets the words to these, which are not below
posted : (s : State ℕ View) → IsKept s → (i n id : ℕ) (cs : List (ℕ × ℕ)) (v w : View) (words : Numbers) → get_elem? s.views id ≡ some v → v.posts ≡ true
    → get_or (set s.words i n) 0 0 ≡ words.0 → get_or (set s.words i n) 1 0 ≡ words.1 → AtMost (words_of s) words → IsStamp words.0 → Fits words id w → IsKept (stepped s i n id cs w keeps)
posted s kept i n id cs v w words at posts gvt_set committed_set up stamped mine =
    let me = (kept.fits id v at).exact posts in record {
      two = length-set s.words i n ∙ kept.two;
      is_stamp = subst IsStamp (sym gvt_set) stamped;
      fits = λ j u at'. subst (λ (x : Numbers). Fits x j u) (λ k. (sym gvt_set k, sym committed_set k))
          (others s kept id w words up (λ j' other zero'. absurd (other (zero' ∙ sym me.0))) mine j u at');
    }

-- the greater of two stamps is a stamp
max_stamp : (a b : ℕ) → IsStamp a → IsStamp b → IsStamp (max a b)
max_stamp a b sa sb =
    ⊎_elim (λ (less : a < b). subst IsStamp (greater b (omega (arith, less)) (omega (arith, less))) sb)
    (λ (no_less : b ≤ a). subst IsStamp (greater a (omega (arith, no_less)) (omega (arith, no_less))) sa) (cases_lt a b)
  where
    greater : (c : ℕ) → c ≤ max a b → max a b ≤ c → c ≡ max a b
    greater c low high = omega (arith, low, high)

pub posts_gvt : (slots id k : ℕ) (v : Me ℕ View) → v.0.posts ≡ true → IsStamp k → Allows IsKept slots id v 0 (λ n. max n k) (λ _. HasPostedGvt k v)
posts_gvt slots id k v posts stamped s kept _ at _ =
    let f = kept.fits id v.0 at in let me = f.exact posts in let n = max (word s 0) k in let w : View = record v.0 { gvt = max v.0.gvt k } in
    let wide = kept.two in let e : max v.0.gvt k ≡ n = ap (λ x. max x k) me.1 in
    let up : word s 0 ≤ n = omega arith in let told : v.0.told_gvt ≤ word s 0 = f.told.0 in (
      w,
      keeps,
      tt,
      posted s kept 0 n id v.1 v.0 w (n, word s 1) at posts (get_or-set_same s.words 0 n 0 (omega (arith, wide))) (get_or-set_other s.words 0 1 n 0 (λ h. omega (arith, h))) (up, le_refl _) (max_stamp (word s 0) k kept.is_stamp stamped)
          record { seen = (omega (arith, e), f.seen.1); told = (omega (arith, told, up), f.told.1); exact = λ _. (me.0, e, me.2) },
      refl,
    )

pub posts_committed : (slots id k : ℕ) (v : Me ℕ View) → v.0.posts ≡ true → Allows IsKept slots id v 1 (λ n. max n k) (λ _. HasPostedCommitted k v)
posts_committed slots id k v posts s kept _ at _ =
    let f = kept.fits id v.0 at in let me = f.exact posts in let n = max (word s 1) k in let w : View = record v.0 { committed = max v.0.committed k } in
    let wide = kept.two in let e : max v.0.committed k ≡ n = ap (λ x. max x k) me.2 in
    let up : word s 1 ≤ n = omega arith in let told : v.0.told_committed ≤ word s 1 = f.told.1 in (
      w,
      keeps,
      tt,
      posted s kept 1 n id v.1 v.0 w (word s 0, n) at posts (get_or-set_other s.words 1 0 n 0 (λ h. omega (arith, h))) (get_or-set_same s.words 1 n 0 (omega (arith, wide))) (le_refl _, up) kept.is_stamp
          record { seen = (f.seen.0, omega (arith, e)); told = (f.told.0, omega (arith, told, up)); exact = λ _. (me.0, me.1, e) },
      refl,
    )

-- a view that is not the publisher's, and has seen no more than the words
plain : (words : Numbers) (j gvt committed : ℕ) → AtMost (gvt, committed) words → Fits words j (reader gvt committed)
plain words j gvt committed low = record { seen = low; told = (omega arith, omega arith); exact = λ h. absurd (both_ways false refl h) }

pub enters : (slots : ℕ) → Enters IsKept slots 0 (λ _ w. w ≡ reader 0 0)
enters slots s kept _ _ = (
  reader 0 0,
  record {
    two = kept.two;
    is_stamp = kept.is_stamp;
    fits = λ j u at. ⊎_elim (λ (t : get_elem? s.views j ≡ some u). kept.fits j u t)
        (λ (t : reader 0 0 ≡ u). subst (Fits (words_of s) j) t (plain _ j 0 0 (omega arith, omega arith)))
        (at_snoc s.views (reader 0 0) u j at);
  },
  refl,
)

pub splits : (id : ℕ) (v : View) → Splits IsKept id v v (reader v.gvt v.committed)
splits id v s kept at =
    let f = kept.fits id v at in let same = looked s kept id v f in record {
      two = kept.two;
      is_stamp = kept.is_stamp;
      fits = λ j u at'. ⊎_elim (λ (t : get_elem? (set s.views id v) j ≡ some u). same.fits j u t)
          (λ (t : reader v.gvt v.committed ≡ u). subst (Fits (words_of s) j) t (plain _ j v.gvt v.committed f.seen))
          (at_snoc (set s.views id v) (reader v.gvt v.committed) u j at');
    }

-- the other seat's view, before this one changed
other_at : (views : List View) (id other : ℕ) (both w : View) → ¬ (other ≡ id) → get_elem? (set views id both) other ≡ some w → get_elem? views other ≡ some w
other_at views id other both w apart at = ⊎_elim (λ (t : (other ≡ id) × (both ≡ w)). absurd (apart t.0)) (λ (t : (other ≢ id) × (get_elem? views other ≡ some w)). t.1) (at_set views id other both w at)

joins : (id : ℕ) (v : View) (other : ℕ) (w both : View) → ((words : Numbers) → Fits words id v → Fits words other w → Fits words id both) → Joins IsKept id v other w both (reader 0 0)
joins id v other w both keep s kept at apart at' =
    let mine = keep (words_of s) (kept.fits id v at) (kept.fits other w (other_at s.views id other both w apart at')) in
    looked record { words = s.words; homes = s.homes; views = set s.views id both } (looked s kept id both mine) other (reader 0 0) (plain _ other 0 0 (omega arith, omega arith))

pub tells : (id : ℕ) (v : View) (other : ℕ) (w : View) → Joins IsKept id v other w (record v { told_gvt = w.gvt; told_committed = w.committed }) (reader 0 0)
tells id v other w = joins id v other w (record v { told_gvt = w.gvt; told_committed = w.committed })
    (λ words f g. record { seen = f.seen; told = g.seen; exact = f.exact })

pub shows : (id : ℕ) (v : View) (other : ℕ) (w : View) → v.posts ≡ false → Joins IsKept id v other w (record v { gvt = w.gvt; committed = w.committed }) (reader 0 0)
shows id v other w looks = joins id v other w (record v { gvt = w.gvt; committed = w.committed })
    (λ words f g. record { seen = g.seen; told = f.told; exact = λ p. absurd (both_ways v.posts looks p) })
