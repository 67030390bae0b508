use Rattle.std.proofs.Common.{◌≡◌, ◌≤◌, ◌<◌, ◌∙◌, ◌+◌, ◌++◌, ◌∷◌, [], ℕ, List, true, false, cond, ap, sym, length, map, take, filter, get_or, inl, inr, is_lt, nat_cmp, arith, Vec, Global}
use Rattle.std.proofs.lemmas.Bool.{cases_lt, ltb-true, lt-ltb, le-ltb, cond-true, cond-false}
use Rattle.std.proofs.lemmas.List.{take_all, get_or_default, append-nil}
use Rattle.std.proofs.lemmas.Map.Keys.{ge_from_not_lt}
use Rattle.tw_vtime.proofs.Comparing.{lt_from_is_lt}
use Rattle.tw_heap.specs.Heap.{at, no_entry}
use Rattle.tw_msgs.specs.declared.message.Message.{Message}
use Rattle.tw_heap.specs.declared.entries.Entry.{Entry}
use Rattle.tw_heap.specs.Entries.{message_of}
use Rattle.tw_heap.proofs.Fronts.{early, filter_all, filter_more, none_behind}
use Rattle.tw_heap.proofs.front.gather.Goals as goal
use Rattle.tw_heap.proofs.front.gather.Goals.{then-lt+in_ok-push, else-lt}

-- what is gathered up to the end is all that is early
all_gathered : (s : ℕ) (es : List Entry) (n : ℕ) (ms : List Message) → length es ≤ n → ms ≡ filter (early s) (map message_of (take n es)) → ms ≡ filter (early s) (map message_of es)
all_gathered s es n ms past so_far = so_far ∙ ap (λ l. filter (early s) (map message_of l)) (take_all n es past)

-- the entry at the next place is early, and its message is gathered too
gathered_more : (s : ℕ) (es : List Entry) (n : ℕ) (d : Entry) (ms : List Message) → n < length es → is_lt (nat_cmp (get_or es n d).key.stamp s) ≡ true → ms ≡ filter (early s) (map message_of (take n es)) → ms ++ (get_or es n d).key ∷ [] ≡ filter (early s) (map message_of (take (n + 1) es))
gathered_more s es n d ms within is so_far =
    let here : get_or es n d ≡ at es n = get_or_default es n d no_entry within in
    let first : early s (get_or es n d).key ≡ true = lt-ltb (get_or es n d).key.stamp s (lt_from_is_lt (get_or es n d).key.stamp s is) in
    ap (λ l. l ++ (get_or es n d).key ∷ []) so_far
    ∙ ap (λ l. filter (early s) (map message_of (take n es)) ++ l) (sym (cond-true (early s (get_or es n d).key) ((get_or es n d).key ∷ []) [] first))
    ∙ ap (λ (e : Entry). filter (early s) (map message_of (take n es)) ++ cond (early s e.key) (e.key ∷ []) []) here
    ∙ sym (filter_more s es n within)

-- it is late, and nothing is
gathered_same : (s : ℕ) (es : List Entry) (n : ℕ) (d : Entry) (ms : List Message) → n < length es → is_lt (nat_cmp (get_or es n d).key.stamp s) ≡ false → ms ≡ filter (early s) (map message_of (take n es)) → ms ≡ filter (early s) (map message_of (take (n + 1) es))
gathered_same s es n d ms within is so_far =
    let here : get_or es n d ≡ at es n = get_or_default es n d no_entry within in
    let later : early s (get_or es n d).key ≡ false = le-ltb (get_or es n d).key.stamp s (ge_from_not_lt (get_or es n d).key.stamp s is) in
    so_far ∙ sym (append-nil (filter (early s) (map message_of (take n es))))
    ∙ ap (λ l. filter (early s) (map message_of (take n es)) ++ l) (sym (cond-false (early s (get_or es n d).key) ((get_or es n d).key ∷ []) [] later))
    ∙ ap (λ (e : Entry). filter (early s) (map message_of (take n es)) ++ cond (early s e.key) (e.key ∷ []) []) here
    ∙ sym (filter_more s es n within)

-- what is ahead of the children of a place is ahead of those of each place before it
children_ahead : (k n end : ℕ) → k < n + 1 → n + n + 2 < end → k + k + 2 < end
children_ahead k n end near ahead = omega arith

-- the next place is late: each early one still has its children ahead
ahead_same : (s : ℕ) (es : List Entry) (n : ℕ) (d : Entry) (end : ℕ) → n < length es → is_lt (nat_cmp (get_or es n d).key.stamp s) ≡ false → ((k : ℕ) → k < n → early s (at es k).key ≡ true → k + k + 2 < end) → (k : ℕ) → k < n + 1 → early s (at es k).key ≡ true → k + k + 2 < end
ahead_same s es n d end within later ahead k near is =
    elim (cases_lt k n) [
      | inl before ↦ ahead k before is
      | inr here ↦
          let same : k ≡ n = omega arith in
          let late : s ≤ (get_or es n d).key.stamp = ge_from_not_lt (get_or es n d).key.stamp s later in
          let soon : (at es k).key.stamp < s = ltb-true (at es k).key.stamp s is in
          let one : (at es k).key.stamp ≡ (get_or es n d).key.stamp = ap (λ j. (at es j).key.stamp) same ∙ ap (λ (e : Entry). e.key.stamp) (get_or_default es n no_entry d within) in
          absurd (omega (arith, late, soon, one))
    ]

pub returns-then-place-end : goal.returns-then-place-end
returns-then-place-end c =
    let l = c.loop-place in
    l.invariant.so_far
    ∙ filter_all c.args.stamp c.args.entries.now l.place
    (none_behind c.args.stamp c.args.entries.now l.place l.end c.requires l.invariant.begun c.if-place-end.true l.invariant.ahead)

pub loop-place-preserved : goal.loop-place-preserved
loop-place-preserved c =
    let s = c.args.stamp in
    let es = c.args.entries.now in
    let l = c.loop-place in
    let d = c.index-entries-place.result in
    elim c.if-lt.branch [
      | then-lt+in_ok-push w ↦
          let room : l.place + l.place + 3 ≤ 18446744073709551615 = omega arith in
          let end : l.place + l.place + 2 < c.if-lt.end = omega (arith, room, w.end-is, w.saturating_add-end.ensures, w.saturating_mul.ensures) in
          record {
            so_far = ap (λ (ms : Vec Message Global). ms.items) w.messages-is ∙ w.in_ok-push.ensures.items ∙ gathered_more s es l.place d l.messages.items c.loop-place-test.true (sym c.lt.ensures ∙ w.if-lt.true) l.invariant.so_far;
            ahead = λ k near is. children_ahead k l.place c.if-lt.end near end;
            begun = omega (arith, end);
          }
      | else-lt w ↦ record {
        so_far = ap (λ (ms : Vec Message Global). ms.items) w.messages-is ∙ gathered_same s es l.place d l.messages.items c.loop-place-test.true (sym c.lt.ensures ∙ w.if-lt.false) l.invariant.so_far;
        ahead = λ k near is. rw w.end-is (ahead_same s es l.place d l.end c.loop-place-test.true (sym c.lt.ensures ∙ w.if-lt.false) l.invariant.ahead k near is);
        begun = omega (arith, w.end-is, l.invariant.begun);
      }
    ]

pub returns : goal.returns
returns c = all_gathered c.args.stamp c.args.entries.now c.loop-place.place c.loop-place.messages.items c.loop-place-test.false c.loop-place.invariant.so_far
