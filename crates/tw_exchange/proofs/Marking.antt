-- How what is marked follows the executive.
use Rattle.std.proofs.Common.{◌≡◌, ℕ, zero, suc, ◌+◌, ◌<◌, ◌≤◌, Bool, true, false, not, List, [], ◌∷◌, ◌++◌, length, map, Option, None, Some, refl, sym, ap, ap₂, subst, ◌∙◌, inl, inr, arith}
use Rattle.std.specs.Option.{option_map}
use Rattle.std.specs.Prelude.{◌&&◌, slice_get, slice_set}
use Rattle.std.proofs.lemmas.Bool.{and_parts, cases_eq, cases_lt, true≢false}
use Rattle.std.proofs.lemmas.List.{length-map, length-set, map-set}
use Rattle.std.proofs.lemmas.Option.{none-some, same_Some, slice_get-get_or, slice_get-map, slice_get_within}
use Rattle.tw_laws.proofs.Inverse.{set_there}
use Rattle.tw_msgs.specs.declared.message.Item.{Item}
use Rattle.tw_theory.specs.Contents.{Process}
use Rattle.tw_theory.specs.Exchange.{all_empty, all_idle, is_empty, is_swept}
use Rattle.tw_theory.specs.Executive.{World, mail_of, posted}
use Rattle.tw_vtime.specs.Stamps.{never}
use Rattle.tw_exchange.specs.Agenda.{AllLate, IsLeast, mark}
use Rattle.tw_exchange.specs.Queues.{AreMarked, AreMarkedBut, AreMarkedUpTo, IsKept, IsKeptBut, IsSameBut, box_mark, marked, next_mark, post_mark}
use Rattle.tw_exchange.specs.Sweeping.{is_idle}
use Rattle.tw_exchange.specs.declared.queues.Queues.{Queues}
use Rattle.tw_exchange.proofs.Following.{exact_but}
use Rattle.tw_exchange.proofs.IdleLemmas.{empty_all, idle_all}
use Rattle.tw_exchange.proofs.SameBut.{map_same_but, nothing_else, set_same}

-- ## Marks that fall behind at one component

module _ {S : Type 0} (queues : Queues) (w w' : World S) (b : ℕ) where
  pub marks_but : AreMarked queues w → IsSameBut b w.processes w'.processes → IsSameBut b w.mail w'.mail → AreMarkedBut b queues w'
  marks_but h processes mail = record {
    posting = subst (IsSameBut b (map post_mark w'.processes)) (sym h.posting) (map_same_but post_mark b w.processes w'.processes processes);
    delivering = subst (IsSameBut b (map box_mark w'.mail)) (sym h.delivering) (map_same_but box_mark b w.mail w'.mail mail);
    standing = subst (IsSameBut b (map next_mark w'.processes)) (sym h.standing) (map_same_but next_mark b w.processes w'.processes processes);
  }

  pub kept_but : IsKept queues w → IsSameBut b w.processes w'.processes → IsSameBut b w.mail w'.mail → IsKeptBut b queues w'
  kept_but h processes mail = record {
    free = exact_but queues.free w.processes w'.processes b h.free processes;
    marks = marks_but h.marks processes mail;
  }

-- one more is looked at
module _ {S : Type 0} (w : World S) (n : ℕ) where
  up_to_set : {X : Type 0} (ms xs : List X) (x : X) → length ms ≡ length xs → slice_get xs n ≡ Some x → ((d : ℕ) → d < n → slice_get ms d ≡ slice_get xs d)
      → (d : ℕ) → d < n + 1 → slice_get (slice_set ms n x) d ≡ slice_get xs d
  up_to_set ms xs x count at before d near = elim (cases_eq d n) [
    | inl same ↦ subst (λ k. slice_get (slice_set ms n x) k ≡ slice_get xs k) (sym same) (here ms n (omega (arith, slice_get_within xs n x at, count)) ∙ sym at)
    | inr apart ↦ set_there ms n d x apart ∙ before d (elim (cases_lt d n) [
      | inl less ↦ less
      | inr more ↦ absurd (apart (omega (arith, near, more)))
    ])
  ]
    where
      here : {X : Type 0} {x : X} (ms : List X) (n : ℕ) → n < length ms → slice_get (slice_set ms n x) n ≡ Some x
      here [] n near = absurd (omega (arith, near))
      here (m ∷ ms) zero near = refl
      here (m ∷ ms) (suc n) near = here ms n (omega (arith, near))

  pub marked_next : (queues new : Queues) (p : Process S) → AreMarkedUpTo n queues w → slice_get w.processes n ≡ Some p → n < length w.mail
      → new.posting ≡ slice_set queues.posting n (post_mark p) → new.delivering ≡ slice_set queues.delivering n (box_mark (mail_of w.mail n)) → new.standing ≡ slice_set queues.standing n (next_mark p)
      → AreMarkedUpTo (n + 1) new w
  marked_next queues new p h at near posting delivering standing = record {
    posting_count = ap length posting ∙ length-set queues.posting n _ ∙ h.posting_count;
    delivering_count = ap length delivering ∙ length-set queues.delivering n _ ∙ h.delivering_count;
    standing_count = ap length standing ∙ length-set queues.standing n _ ∙ h.standing_count;
    posting = λ d less. ap (λ l. slice_get l d) posting
        ∙ up_to_set queues.posting (map post_mark w.processes) (post_mark p) (h.posting_count ∙ sym (length-map w.processes post_mark)) (slice_get-map post_mark w.processes n ∙ ap (option_map post_mark) at) h.posting d less;
    delivering = λ d less. ap (λ l. slice_get l d) delivering
        ∙ up_to_set queues.delivering (map box_mark w.mail) (box_mark (mail_of w.mail n)) (h.delivering_count ∙ sym (length-map w.mail box_mark)) (slice_get-map box_mark w.mail n ∙ ap (option_map box_mark) (slice_get-get_or w.mail n [] near)) h.delivering d less;
    standing = λ d less. ap (λ l. slice_get l d) standing
        ∙ up_to_set queues.standing (map next_mark w.processes) (next_mark p) (h.standing_count ∙ sym (length-map w.processes next_mark)) (slice_get-map next_mark w.processes n ∙ ap (option_map next_mark) at) h.standing d less;
  }

all_alike : {X : Type 0} (n : ℕ) (ms xs : List X) → length ms ≡ length xs → length xs ≤ n → ((d : ℕ) → d < n → slice_get ms d ≡ slice_get xs d) → ms ≡ xs
all_alike n [] [] count all each = refl
all_alike n [] (x ∷ xs) count all each = absurd (omega (arith, count))
all_alike n (m ∷ ms) [] count all each = absurd (omega (arith, count))
all_alike zero (m ∷ ms) (x ∷ xs) count all each = absurd (omega (arith, all))
all_alike (suc n) (m ∷ ms) (x ∷ xs) count all each =
    (λ i. same_Some m x (each 0 (omega arith)) i ∷ all_alike n ms xs (omega (arith, count)) (omega (arith, all)) (λ d near. each (suc d) (omega (arith, near))) i)

pub marked_all : {S : Type 0} (n : ℕ) (queues : Queues) (w : World S) → AreMarkedUpTo n queues w → length w.processes ≤ n → length w.mail ≤ n → AreMarked queues w
marked_all n queues w h processes mail = record {
  posting = all_alike n queues.posting (map post_mark w.processes) (h.posting_count ∙ sym (length-map w.processes post_mark)) (omega (arith, processes, length-map w.processes post_mark)) h.posting;
  delivering = all_alike n queues.delivering (map box_mark w.mail) (h.delivering_count ∙ sym (length-map w.mail box_mark)) (omega (arith, mail, length-map w.mail box_mark)) h.delivering;
  standing = all_alike n queues.standing (map next_mark w.processes) (h.standing_count ∙ sym (length-map w.processes next_mark)) (omega (arith, processes, length-map w.processes next_mark)) h.standing;
}

pub none_marked : {S : Type 0} (queues : Queues) (w : World S) → length queues.posting ≡ length w.processes → length queues.delivering ≡ length w.mail → length queues.standing ≡ length w.processes
    → AreMarkedUpTo 0 queues w
none_marked queues w posting delivering standing = record {
  posting_count = posting;
  delivering_count = delivering;
  standing_count = standing;
  posting = λ d near. absurd (omega (arith, near));
  delivering = λ d near. absurd (omega (arith, near));
  standing = λ d near. absurd (omega (arith, near));
}

pub marks_count : {S : Type 0} (queues : Queues) (w : World S) → AreMarked queues w → (length queues.posting ≡ length w.processes) × (length queues.delivering ≡ length w.mail)
marks_count queues w h = (ap length h.posting ∙ length-map w.processes post_mark, ap length h.delivering ∙ length-map w.mail box_mark)

pub standing_count : {S : Type 0} (queues : Queues) (w : World S) → AreMarked queues w → length queues.standing ≡ length w.processes
standing_count queues w h = ap length h.standing ∙ length-map w.processes next_mark

-- ## What was posted

full : (box : List Item) (i : Item) → box_mark (box ++ i ∷ []) ≡ Some 0
full [] i = refl
full (x ∷ box) i = refl

pub posted_marked : (items : List Item) (mail : List (List Item)) → map box_mark (posted mail items) ≡ marked (map box_mark mail) items
posted_marked [] mail = refl
posted_marked (i ∷ items) mail =
    posted_marked items (slice_set mail i.message.to (mail_of mail i.message.to ++ i ∷ []))
    ∙ ap (λ ms. marked ms items) (map-set box_mark mail i.message.to (mail_of mail i.message.to ++ i ∷ []) ∙ ap (slice_set (map box_mark mail) i.message.to) (full (mail_of mail i.message.to) i))

-- a post, but for the sender
pub posted_but : {S : Type 0} (queues new : Queues) (w w' : World S) (b : ℕ) (items : List Item) → AreMarked queues w → IsSameBut b w.processes w'.processes → w'.mail ≡ posted w.mail items
    → new.posting ≡ queues.posting → new.delivering ≡ marked queues.delivering items → new.standing ≡ queues.standing → AreMarkedBut b new w'
posted_but queues new w w' b items h processes mail posting delivering standing = record {
  posting = subst (IsSameBut b (map post_mark w'.processes)) (sym (posting ∙ h.posting)) (map_same_but post_mark b w.processes w'.processes processes);
  delivering = subst (IsSameBut b (map box_mark w'.mail)) (ap (map box_mark) mail ∙ posted_marked items w.mail ∙ ap (λ ms. marked ms items) (sym h.delivering) ∙ sym delivering) (nothing_else b (map box_mark w'.mail));
  standing = subst (IsSameBut b (map next_mark w'.processes)) (sym (standing ∙ h.standing)) (map_same_but next_mark b w.processes w'.processes processes);
}

-- ## Who is marked

-- how many stand there
abbrev pub standing : List (Option ℕ) → ℕ
standing [] = 0
standing (None ∷ stamps) = standing stamps
standing (Some s ∷ stamps) = suc (standing stamps)

pub one_less : (stamps : List (Option ℕ)) (c s : ℕ) → slice_get stamps c ≡ Some (Some s) → standing (slice_set stamps c None) < standing stamps
one_less [] c s at = absurd (none-some _ at)
one_less (x ∷ stamps) zero s at = go x (same_Some _ _ at)
  where
    go : (x : Option ℕ) → x ≡ Some s → standing stamps < standing (x ∷ stamps)
    go None e = absurd (none-some _ e)
    go (Some t) e = omega arith
one_less (None ∷ stamps) (suc c) s at = one_less stamps c s at
one_less (Some x ∷ stamps) (suc c) s at = omega (arith, one_less stamps c s at)

-- one leaves
pub fewer : {X : Type 0} (f : X → Option ℕ) (xs ys : List X) (c s : ℕ) (y : X) → IsSameBut c xs ys → slice_get (map f xs) c ≡ Some (Some s) → slice_get ys c ≡ Some y → f y ≡ None
    → standing (map f ys) < standing (map f xs)
fewer f xs ys c s y same at there none =
    subst (λ l. standing l < standing (map f xs)) (set_same c (map f ys) (map f xs) None (map_same_but f c xs ys same) (slice_get-map f ys c ∙ ap (option_map f) there ∙ ap Some none))
    (one_less (map f xs) c s at)

-- where none stands, or a later one is the least, all is done
mark_none : (b : Bool) → (mark (not b) ≡ Some 0 → ⊥) → b ≡ true
mark_none true none = refl
mark_none false none = absurd (none refl)

mark_is : (b : Bool) (s : ℕ) → mark (not b) ≡ Some s → (s ≡ 0) × (b ≡ false)
mark_is true s is = absurd (none-some s is)
mark_is false s is = (sym (same_Some 0 s is), refl)

module _ {X : Type 0} (f : X → Bool) (xs : List X) where
  abbrev marks : List (Option ℕ)
  marks = map (λ x. mark (not (f x))) xs

  mark_at : (d : ℕ) (x : X) → slice_get xs d ≡ Some x → slice_get marks d ≡ Some (mark (not (f x)))
  mark_at d x at = slice_get-map (λ y. mark (not (f y))) xs d ∙ ap (option_map (λ y. mark (not (f y)))) at

  pub done_all : AllLate marks → (d : ℕ) (x : X) → slice_get xs d ≡ Some x → f x ≡ true
  done_all late d x at = mark_none (f x) (λ is. let far = late d 0 (mark_at d x at ∙ ap Some is) in absurd (omega (arith, far)))

  pub none_late : ((d : ℕ) (x : X) → slice_get xs d ≡ Some x → f x ≡ true) → AllLate marks
  none_late done c s at = go (slice_get xs c) refl (sym (slice_get-map (λ y. mark (not (f y))) xs c) ∙ at)
    where
      go : (o : Option X) → slice_get xs c ≡ o → option_map (λ y. mark (not (f y))) o ≡ Some (Some s) → never ≤ s
      go None is e = absurd (none-some _ e)
      go (Some x) is e = absurd (true≢false (sym (done c x is) ∙ (mark_is (f x) s (same_Some _ _ e)).1))

  -- a mark, and where it stands
  marked_at : (c s : ℕ) → slice_get marks c ≡ Some (Some s) → (x : X) × (slice_get xs c ≡ Some x) × (s ≡ 0) × (f x ≡ false)
  marked_at c s at = go (slice_get xs c) refl (sym (slice_get-map (λ y. mark (not (f y))) xs c) ∙ at)
    where
      go : (o : Option X) → slice_get xs c ≡ o → option_map (λ y. mark (not (f y))) o ≡ Some (Some s) → (x : X) × (slice_get xs c ≡ Some x) × (s ≡ 0) × (f x ≡ false)
      go None is e = absurd (none-some _ e)
      go (Some x) is e = let its = mark_is (f x) s (same_Some _ _ e) in (x, is, its.0, its.1)

  pub least_there : (s c : ℕ) → IsLeast marks s c → (x : X) × (slice_get xs c ≡ Some x) × (s ≡ 0) × (f x ≡ false)
  least_there s c least = marked_at c s least.at

  pub done_before : (s c : ℕ) → IsLeast marks s c → (d : ℕ) (x : X) → d < c → slice_get xs d ≡ Some x → f x ≡ true
  done_before s c least d x before at = mark_none (f x) (λ is. elim (least.least d 0 (mark_at d x at ∙ ap Some is)) [
    | inl less ↦ absurd (omega (arith, less))
    | inr tied ↦ absurd (omega (arith, tied.1, before))
  ])

-- ## Whether anything is left

each_empty : (mail : List (List Item)) → all_empty mail ≡ true → (d : ℕ) (box : List Item) → slice_get mail d ≡ Some box → is_empty box ≡ true
each_empty [] all d box at = absurd (none-some box at)
each_empty (b ∷ mail) all zero box at = ap is_empty (sym (same_Some b box at)) ∙ (and_parts (is_empty b) (all_empty mail) all).0
each_empty (b ∷ mail) all (suc d) box at = each_empty mail (and_parts (is_empty b) (all_empty mail) all).1 d box at

module _ {S : Type 0} where
  each_idle : (ps : List (Process S)) → all_idle ps ≡ true → (d : ℕ) (p : Process S) → slice_get ps d ≡ Some p → is_idle p ≡ true
  each_idle [] all d p at = absurd (none-some p at)
  each_idle (q ∷ ps) all zero p at = ap is_idle (sym (same_Some q p at)) ∙ (and_parts (is_idle q) (all_idle ps) all).0
  each_idle (q ∷ ps) all (suc d) p at = each_idle ps (and_parts (is_idle q) (all_idle ps) all).1 d p at

  pub clear_swept : (queues : Queues) (w : World S) → AreMarked queues w → AllLate queues.posting → AllLate queues.delivering → is_swept w ≡ true
  clear_swept queues w h posting delivering =
      let idle = idle_all w.processes (done_all is_idle w.processes (subst AllLate h.posting posting)) in
      let empty = empty_all w.mail (λ d near. done_all is_empty w.mail (subst AllLate h.delivering delivering) d (mail_of w.mail d) (slice_get-get_or w.mail d [] near)) in
      ap₂ (λ a b. a && b) idle empty

  pub swept_clear : (queues : Queues) (w : World S) → AreMarked queues w → is_swept w ≡ true → AllLate queues.posting × AllLate queues.delivering
  swept_clear queues w h swept =
      let parts = and_parts (all_idle w.processes) (all_empty w.mail) swept in (
        subst AllLate (sym h.posting) (none_late is_idle w.processes (each_idle w.processes parts.0)),
        subst AllLate (sym h.delivering) (none_late is_empty w.mail (each_empty w.mail parts.1)),
      )

  pub not_clear : (queues : Queues) (w : World S) → AreMarked queues w → (clear : Bool) → (AllLate queues.posting → AllLate queues.delivering → clear ≡ true) → clear ≡ false → is_swept w ≡ false
  not_clear queues w h clear some is = go (is_swept w) refl
    where
      go : (b : Bool) → is_swept w ≡ b → b ≡ false
      go true e = let both = swept_clear queues w h e in absurd (true≢false (sym (some both.0 both.1) ∙ is))
      go false e = refl
