-- The machine of bytes gives the words that a text has, and no others.
use Rattle.std.proofs.Common.{◌≡◌, ℕ, Bool, true, false, not, ◌||◌, inl, inr, cond, List, [], ◌∷◌, ◌++◌, Option, Some, None, refl, sym, ap, subst, ◌∙◌, append_assoc}
use Rattle.std.specs.Prelude.{◌==◌}
use Rattle.std.specs.Option.{option_and_then, option_map}
use Rattle.std.proofs.lemmas.Bool.{eqb-true, or_from}
use Rattle.std.proofs.lemmas.List.{append-nil}
use Rattle.std.proofs.lemmas.Option.{same_Some}
use Rattle.tw_machine_text.specs.declared.words.Word.{Word}
use Rattle.tw_machine_text.specs.Text.{is_blank, word_of, goes_on, GoesOn, Stops, AreBlank, HasWords, Mode, Between, InComment, Reading, begin, scan, scanned, words_of}

abbrev full : List (List ℕ) → List ℕ → List Word × Mode → Option (List Word)
full names text r = option_and_then (scanned names) (scan names text r)

abbrev mode : Bool → Mode
mode true = InComment
mode false = Between

begins_blank : (c : ℕ) → is_blank c ≡ true → begin c ≡ Between
begins_blank c e = ap (λ b. cond b Between (cond (c == 35) InComment (Reading (c ∷ [])))) e

begins_comment : (c : ℕ) → c ≡ 35 → begin c ≡ InComment
begins_comment c e = ap begin e

line_end : (b : Bool) → cond b Between InComment ≡ mode (not b)
line_end true = refl
line_end false = refl

-- blanks before a word change nothing
skipped : (names : List (List ℕ)) (commented : Bool) (blanks more : List ℕ) (acc : List Word) → AreBlank false commented blanks → full names (blanks ++ more) (acc, mode commented) ≡ full names more (acc, Between)
skipped names false [] more acc h = refl
skipped names true [] more acc h = absurd (cc)
skipped names false (c ∷ cs) more acc (inl h) = ap (λ m. full names (cs ++ more) (acc, m)) (begins_blank c h.0) ∙ skipped names false cs more acc h.1
skipped names false (c ∷ cs) more acc (inr h) = ap (λ m. full names (cs ++ more) (acc, m)) (begins_comment c h.0) ∙ skipped names true cs more acc h.1
skipped names true (c ∷ cs) more acc h = ap (λ m. full names (cs ++ more) (acc, m)) (line_end (c == 10)) ∙ skipped names (not (c == 10)) cs more acc h

-- nor do those at the end
skipped_last : (names : List (List ℕ)) (commented : Bool) (blanks : List ℕ) (acc : List Word) → AreBlank true commented blanks → full names blanks (acc, mode commented) ≡ Some acc
skipped_last names false [] acc h = refl
skipped_last names true [] acc h = refl
skipped_last names false (c ∷ cs) acc (inl h) = ap (λ m. full names cs (acc, m)) (begins_blank c h.0) ∙ skipped_last names false cs acc h.1
skipped_last names false (c ∷ cs) acc (inr h) = ap (λ m. full names cs (acc, m)) (begins_comment c h.0) ∙ skipped_last names true cs acc h.1
skipped_last names true (c ∷ cs) acc h = ap (λ m. full names cs (acc, m)) (line_end (c == 10)) ∙ skipped_last names (not (c == 10)) cs acc h

-- a word is read as far as it goes
went_on : (names : List (List ℕ)) (before others rest : List ℕ) (acc : List Word) → GoesOn before others → full names (others ++ rest) (acc, Reading before) ≡ full names rest (acc, Reading (before ++ others))
went_on names before [] rest acc h = ap (λ cs. full names rest (acc, Reading cs)) (sym (append-nil before))
went_on names before (c ∷ cs) rest acc h =
    ap (λ b. option_and_then (scanned names) (option_and_then (scan names (cs ++ rest)) (cond b (Some (acc, Reading (before ++ c ∷ []))) (option_map (λ w. (acc ++ w ∷ [], begin c)) (word_of names before))))) h.0
    ∙ went_on names (before ++ c ∷ []) cs rest acc h.1
    ∙ ap (λ z. full names rest (acc, Reading z)) (append_assoc before (c ∷ []) cs)

stopped : (names : List (List ℕ)) (cs rest : List ℕ) (w : Word) (acc : List Word) → Stops cs rest → word_of names cs ≡ Some w → full names rest (acc, Reading cs) ≡ full names rest (acc ++ w ∷ [], Between)
stopped names cs [] w acc h e = ap (option_map (λ v. acc ++ v ∷ [])) e
stopped names cs (c ∷ more) w acc h e =
    ap (λ b. option_and_then (scanned names) (option_and_then (scan names more) (cond b (Some (acc, Reading (cs ++ c ∷ []))) (option_map (λ v. (acc ++ v ∷ [], begin c)) (word_of names cs))))) h
    ∙ ap (λ o. option_and_then (scanned names) (option_and_then (scan names more) (option_map (λ v. (acc ++ v ∷ [], begin c)) o))) e

by_tests : (b n : Bool) (m : Mode) → (b || n) ≡ false → cond b Between (cond n InComment m) ≡ m
by_tests true n m e = absurd (cc)
by_tests false true m e = absurd (cc)
by_tests false false m e = refl

starts_word : (c : ℕ) → (is_blank c || c == 35) ≡ false → begin c ≡ Reading (c ∷ [])
starts_word c e = by_tests (is_blank c) (c == 35) (Reading (c ∷ [])) e

pub has_again : (names : List (List ℕ)) (ws : List Word) (text : List ℕ) (acc : List Word) → HasWords names false ws text → full names text (acc, Between) ≡ Some (acc ++ ws)
has_again names [] text acc h = skipped_last names false text acc h ∙ ap Some (sym (append-nil acc))
has_again names (w ∷ ws) text acc (rest, front, others) =
    ap (λ t. full names t (acc, Between)) (front.parts ∙ append_assoc front.blanks (front.first ∷ front.others) rest)
    ∙ skipped names false front.blanks ((front.first ∷ front.others) ++ rest) acc front.blank
    ∙ ap (λ m. full names (front.others ++ rest) (acc, m)) (starts_word front.first front.begins)
    ∙ went_on names (front.first ∷ []) front.others rest acc front.goes_on
    ∙ stopped names (front.first ∷ front.others) rest w acc front.longest front.is
    ∙ has_again names ws rest (acc ++ w ∷ []) others
    ∙ ap Some (append_assoc acc (w ∷ []) ws)

-- what is left of a text whose words these are, where this is being read
pub record Goes (names : List (List ℕ)) (cs : List ℕ) (ws : List Word) (text : List ℕ) : Type 0 where
  pub w : Word
  pub later : List Word
  pub are : ws ≡ w ∷ later
  pub others : List ℕ
  pub rest : List ℕ
  pub parts : text ≡ others ++ rest
  pub goes_on : GoesOn cs others
  pub longest : Stops (cs ++ others) rest
  pub is : word_of names (cs ++ others) ≡ Some w
  pub has : HasWords names false later rest

abbrev pub Modulo : List (List ℕ) → Mode → List Word → List ℕ → Type 0
Modulo names Between ws text = HasWords names false ws text
Modulo names InComment ws text = HasWords names true ws text
Modulo names (Reading cs) ws text = Goes names cs ws text

abbrev pub Left : List (List ℕ) → List Word → Mode → List Word → List ℕ → Type 0
Left names acc m all text = (ws : List Word) × (all ≡ acc ++ ws) × Modulo names m ws text

blank_before : (names : List (List ℕ)) (c : ℕ) (ws : List Word) (text : List ℕ) → is_blank c ≡ true → HasWords names false ws text → HasWords names false ws (c ∷ text)
blank_before names c [] text e h = inl (e, h)
blank_before names c (w ∷ ws) text e (rest, f, others) =
    (rest, record { blanks = c ∷ f.blanks; first = f.first; others = f.others; parts = ap (λ t. c ∷ t) f.parts; blank = inl (e, f.blank); begins = f.begins; goes_on = f.goes_on; longest = f.longest; is = f.is }, others)

comment_before : (names : List (List ℕ)) (c : ℕ) (ws : List Word) (text : List ℕ) → c ≡ 35 → HasWords names true ws text → HasWords names false ws (c ∷ text)
comment_before names c [] text e h = inr (e, h)
comment_before names c (w ∷ ws) text e (rest, f, others) =
    (rest, record { blanks = c ∷ f.blanks; first = f.first; others = f.others; parts = ap (λ t. c ∷ t) f.parts; blank = inr (e, f.blank); begins = f.begins; goes_on = f.goes_on; longest = f.longest; is = f.is }, others)

in_comment : (names : List (List ℕ)) (c : ℕ) (ws : List Word) (text : List ℕ) → HasWords names (not (c == 10)) ws text → HasWords names true ws (c ∷ text)
in_comment names c [] text h = h
in_comment names c (w ∷ ws) text (rest, f, others) =
    (rest, record { blanks = c ∷ f.blanks; first = f.first; others = f.others; parts = ap (λ t. c ∷ t) f.parts; blank = f.blank; begins = f.begins; goes_on = f.goes_on; longest = f.longest; is = f.is }, others)

word_before : (names : List (List ℕ)) (c : ℕ) (ws : List Word) (text : List ℕ) → (is_blank c || c == 35) ≡ false → Goes names (c ∷ []) ws text → HasWords names false ws (c ∷ text)
word_before names c ws text e g =
    subst (λ (vs : List Word). HasWords names false vs (c ∷ text)) (sym g.are)
    (g.rest, record { blanks = []; first = c; others = g.others; parts = ap (λ t. c ∷ t) g.parts; blank = refl; begins = e; goes_on = g.goes_on; longest = g.longest; is = g.is }, g.has)

-- by what a byte begins with
begun : (names : List (List ℕ)) (c : ℕ) (ws : List Word) (text : List ℕ) (b n : Bool) → is_blank c ≡ b → (c == 35) ≡ n → Modulo names (cond b Between (cond n InComment (Reading (c ∷ [])))) ws text → HasWords names false ws (c ∷ text)
begun names c ws text true n e f h = blank_before names c ws text e h
begun names c ws text false true e f h = comment_before names c ws text (eqb-true c 35 f) h
begun names c ws text false false e f h = word_before names c ws text (or_from (is_blank c) (c == 35) e f) h

line_rest : (names : List (List ℕ)) (b : Bool) (ws : List Word) (text : List ℕ) → Modulo names (cond b Between InComment) ws text → HasWords names (not b) ws text
line_rest names true ws text h = h
line_rest names false ws text h = h

map_some : {A B : Type 0} (f : A → B) (o : Option A) (y : B) {P : Type 0} → option_map f o ≡ Some y → ((x : A) → o ≡ Some x → f x ≡ y → P) → P
map_some f None y e k = absurd (cc)
map_some f (Some x) y e k = k x refl (same_Some (f x) y e)

emitted : (names : List (List ℕ)) (acc : List Word) (w : Word) (cs : List ℕ) (all : List Word) (rest : List ℕ) → Stops cs rest → word_of names cs ≡ Some w → Left names (acc ++ w ∷ []) Between all rest → Left names acc (Reading cs) all rest
emitted names acc w cs all rest stops is (ws, e, h) = (
  w ∷ ws,
  e ∙ append_assoc acc (w ∷ []) ws,
  record {
    w = w;
    later = ws;
    are = refl;
    others = [];
    rest = rest;
    parts = refl;
    goes_on = tt;
    longest = subst (λ (z : List ℕ). Stops z rest) (sym (append-nil cs)) stops;
    is = ap (word_of names) (append-nil cs) ∙ is;
    has = h;
  },
)

longer : (names : List (List ℕ)) (acc : List Word) (cs : List ℕ) (c : ℕ) (all : List Word) (more : List ℕ) → goes_on cs c ≡ true → Left names acc (Reading (cs ++ c ∷ [])) all more → Left names acc (Reading cs) all (c ∷ more)
longer names acc cs c all more on (ws, e, g) = (
  ws,
  e,
  record {
    w = g.w;
    later = g.later;
    are = g.are;
    others = c ∷ g.others;
    rest = g.rest;
    parts = ap (λ t. c ∷ t) g.parts;
    goes_on = (on, g.goes_on);
    longest = subst (λ (z : List ℕ). Stops z g.rest) (append_assoc cs (c ∷ []) g.others) g.longest;
    is = ap (word_of names) (sym (append_assoc cs (c ∷ []) g.others)) ∙ g.is;
    has = g.has;
  },
)

begun_left : (names : List (List ℕ)) (acc : List Word) (c : ℕ) (all : List Word) (text : List ℕ) → Left names acc (begin c) all text → Left names acc Between all (c ∷ text)
begun_left names acc c all text (ws, e, h) = (ws, e, begun names c ws text (is_blank c) (c == 35) refl refl h)

-- what is known of the bytes that are left
abbrev Known : List (List ℕ) → List ℕ → List Word → Type 0
Known names more all = (acc : List Word) (m : Mode) → full names more (acc, m) ≡ Some all → Left names acc m all more

word_read : (names : List (List ℕ)) (c : ℕ) (more : List ℕ) (acc : List Word) (cs : List ℕ) (all : List Word) → Known names more all → goes_on cs c ≡ false → (o : Option Word) → word_of names cs ≡ o →
    option_and_then (scanned names) (option_and_then (scan names more) (option_map (λ w. (acc ++ w ∷ [], begin c)) o)) ≡ Some all →
    Left names acc (Reading cs) all (c ∷ more)
word_read names c more acc cs all known on None is e = absurd (cc)
word_read names c more acc cs all known on (Some w) is e =
    emitted names acc w cs all (c ∷ more) on is (begun_left names (acc ++ w ∷ []) c all more (known (acc ++ w ∷ []) (begin c) e))

read_on : (names : List (List ℕ)) (c : ℕ) (more : List ℕ) (acc : List Word) (cs : List ℕ) (all : List Word) → Known names more all → (b : Bool) → goes_on cs c ≡ b →
    option_and_then (scanned names) (option_and_then (scan names more) (cond b (Some (acc, Reading (cs ++ c ∷ []))) (option_map (λ w. (acc ++ w ∷ [], begin c)) (word_of names cs)))) ≡ Some all →
    Left names acc (Reading cs) all (c ∷ more)
read_on names c more acc cs all known true on e = longer names acc cs c all more on (known acc (Reading (cs ++ c ∷ [])) e)
read_on names c more acc cs all known false on e = word_read names c more acc cs all known on (word_of names cs) refl e

pub has_sound : (names : List (List ℕ)) (text : List ℕ) (acc : List Word) (m : Mode) (all : List Word) → full names text (acc, m) ≡ Some all → Left names acc m all text
has_sound names [] acc Between all e = ([], sym (same_Some acc all e) ∙ sym (append-nil acc), refl)
has_sound names [] acc InComment all e = ([], sym (same_Some acc all e) ∙ sym (append-nil acc), refl)
has_sound names [] acc (Reading cs) all e =
    map_some (λ w. acc ++ w ∷ []) (word_of names cs) all e
    (λ w is same. emitted names acc w cs all [] tt is ([], sym same ∙ sym (append-nil (acc ++ w ∷ [])), refl))
has_sound names (c ∷ more) acc Between all e = begun_left names acc c all more (has_sound names more acc (begin c) all e)
has_sound names (c ∷ more) acc InComment all e =
    let h = has_sound names more acc (cond (c == 10) Between InComment) all e in
    (h.0, h.1, in_comment names c h.0 more (line_rest names (c == 10) h.0 more h.2))
has_sound names (c ∷ more) acc (Reading cs) all e = read_on names c more acc cs all (λ acc' m' e'. has_sound names more acc' m' all e') (goes_on cs c) refl e

pub words_sound : (names : List (List ℕ)) (text : List ℕ) (ws : List Word) → words_of names text ≡ Some ws → HasWords names false ws text
words_sound names text ws e = let h = has_sound names text [] Between ws e in subst (λ (vs : List Word). HasWords names false vs text) (sym h.1) h.2

pub words_again : (names : List (List ℕ)) (ws : List Word) (text : List ℕ) → HasWords names false ws text → words_of names text ≡ Some ws
words_again names ws text h = has_again names ws text [] h
