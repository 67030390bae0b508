-- Mailboxes as lists of lists: one of them changed, items posted and taken back.
use Rattle.std.proofs.Common.{◌≡◌, ℕ, zero, suc, ◌-◌, ◌<◌, List, [], ◌∷◌, ◌++◌, length, take, map, replicate, Some, refl, sym, ap, ◌∙◌, arith}
use Rattle.std.specs.Prelude.{Option, slice_get, slice_set, slice_index_or}
use Rattle.std.specs.Option.{option_map}
use Rattle.std.proofs.lemmas.List.{map-set, length-append, set-get_or, set-set, get_or-set_same}
use Rattle.std.proofs.lemmas.Option.{slice_get-map, slice_get_read, get_or_from_slice_get}
use Rattle.tw_msgs.specs.declared.message.Item.{Item}
use Rattle.tw_mail.specs.Mail.{Held, Mail}
use Rattle.tw_theory.specs.Executive.{mail_of, posted}

pub box_at : (boxes : List Held) (q : ℕ) (old : Held) → slice_get boxes q ≡ Some old → mail_of (map (λ x. x.items) boxes) q ≡ old.items
box_at boxes q old at = get_or_from_slice_get (map (λ x. x.items) boxes) q old.items [] (slice_get-map (λ x. x.items) boxes q ∙ ap (option_map (λ (x : Held). x.items)) at)

abbrev pub seen : List (List Item) → Option (ℕ × ℕ) → Mail
seen boxes taken = record { boxes = boxes; taken = taken }

-- one mailbox is another: what is seen of it is changed by f
pub changed : (f : List Item → List Item) (boxes : List Held) (taken t : Option (ℕ × ℕ)) (m : Mail) (q : ℕ) (old new : Held)
    → seen (map (λ (x : Held). x.items) boxes) taken ≡ m → q < length boxes → old ≡ slice_index_or boxes q old → new.items ≡ f old.items
    → seen (map (λ (x : Held). x.items) (slice_set boxes q new)) t ≡ seen (slice_set m.boxes q (f (mail_of m.boxes q))) t
changed f boxes taken t m q old new is near at e =
    let items = map-set (λ (x : Held). x.items) boxes q new ∙ ap (slice_set (map (λ x. x.items) boxes) q) (e ∙ ap f (sym (box_at boxes q old (slice_get_read boxes (length boxes) q old refl near at)))) in
    ap (λ (b : List (List Item)). seen b t) (items ∙ ap (λ (m : Mail). slice_set m.boxes q (f (mail_of m.boxes q))) is)

pub posted_more : (mail : List (List Item)) (is : List Item) (i : Item) → posted mail (is ++ i ∷ []) ≡ slice_set (posted mail is) i.message.to (mail_of (posted mail is) i.message.to ++ i ∷ [])
posted_more mail [] i = refl
posted_more mail (x ∷ is) i = posted_more (slice_set mail x.message.to (mail_of mail x.message.to ++ x ∷ [])) is i

pub replicate_more : {X : Type 0} (n : ℕ) (x : X) → replicate n x ++ x ∷ [] ≡ replicate (suc n) x
replicate_more zero x = refl
replicate_more (suc n) x = ap (λ l. x ∷ l) (replicate_more n x)

pub take_here : {X : Type 0} (xs ys : List X) → take (length xs) (xs ++ ys) ≡ xs
take_here [] ys = refl
take_here (x ∷ xs) ys = ap (λ l. x ∷ l) (take_here xs ys)

pub taken_off : {X : Type 0} (xs : List X) (x : X) → take (length (xs ++ x ∷ []) - 1) (xs ++ x ∷ []) ≡ xs
taken_off xs x = let n : length (xs ++ x ∷ []) - 1 ≡ length xs = omega (arith, length-append xs (x ∷ [])) in ap (λ k. take k (xs ++ x ∷ [])) n ∙ take_here xs (x ∷ [])

pub pushed_popped : (mail : List (List Item)) (q : ℕ) (i : Item) → q < length mail → (m : List (List Item)) → m ≡ slice_set mail q (mail_of mail q ++ i ∷ [])
    → slice_set m q (take (length (mail_of m q) - 1) (mail_of m q)) ≡ mail
pushed_popped mail q i near m is =
    let box : mail_of m q ≡ mail_of mail q ++ i ∷ [] = ap (λ x. mail_of x q) is ∙ get_or-set_same mail q (mail_of mail q ++ i ∷ []) [] near in
    (λ t. slice_set (is t) q (take (length (box t) - 1) (box t)))
    ∙ ap (slice_set (slice_set mail q (mail_of mail q ++ i ∷ [])) q) (taken_off (mail_of mail q) i)
    ∙ set-set mail q (mail_of mail q ++ i ∷ []) (mail_of mail q)
    ∙ set-get_or mail q []

-- what was posted last leaves again
pub box_of_posted : (mail : List (List Item)) (q : ℕ) (i : Item) → q < length mail → (m : List (List Item)) → m ≡ slice_set mail q (mail_of mail q ++ i ∷ []) → 0 < length (mail_of m q)
box_of_posted mail q i near m is =
    let box : length (mail_of m q) ≡ length (mail_of mail q ++ i ∷ []) = ap (λ x. length (mail_of x q)) is ∙ ap length (get_or-set_same mail q (mail_of mail q ++ i ∷ []) [] near) in
    omega (arith, box, length-append (mail_of mail q) (i ∷ []))
