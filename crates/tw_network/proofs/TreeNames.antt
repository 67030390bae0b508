-- The names of a tree's atoms: each is names joined by dots, and no two are the same.
use Rattle.std.proofs.Common.{◌≡◌, ◌≢◌, ℕ, ◌<◌, List, ◌∷◌, [], ◌++◌, length, refl, sym, ap, ◌∙◌, arith, subst, suc, zero, slice_index_or, Bool, true, false, None, append_assoc, true≢false, ◌||◌, map, String, string_bytes}
use Rattle.std.specs.List.{All, AllPairs, Contains, list_all}
use Rattle.std.specs.Str.{bytes_eq}
use Rattle.std.proofs.lemmas.Bool.{and_parts, not-true}
use Rattle.std.proofs.lemmas.List.{append-nil, map-append}
use Rattle.std.proofs.lemmas.List.Kept.{AllPairs-cons}
use Rattle.std.proofs.lemmas.Slice.Eq.{bytes_eq-Decides}
use Rattle.std.specs.Global.{Global}
use Rattle.std.proofs.lemmas.List.Elements.{All-append, All-contains, All-cons, All-nil, Contains-append_left, Contains-append_right, Contains-push}
use Rattle.tw_atomic.specs.Atomic.{Meaning}
use Rattle.tw_nested.specs.Tree.{Parts, Link, no_parts, atom, coupled, flat_names}
use Rattle.tw_network.specs.Contents.{IsFlatName, alone, within, is_name, is_name_byte}
use Rattle.tw_network.specs.Faults.{has_name}
use Rattle.tw_network.specs.TreeFaults.{inner_fault, parts_fault, part_name_fault, start_fault}
use Rattle.tw_network.proofs.Names.{text_itself}
use Rattle.tw_network.proofs.NoFaults.{neither, holds, not_any}

-- ---- names without dots, and what follows them

abbrev NoDot : List ℕ → Type 0
NoDot [] = Unit {0}
NoDot (b ∷ bs) = (b ≢ 46) × NoDot bs

abbrev IsTail : List ℕ → Type 0
IsTail [] = Unit {0}
IsTail (b ∷ bs) = b ≡ 46

no_dot : (bs : List ℕ) → list_all is_name_byte bs ≡ true → NoDot bs
no_dot [] e = tt
no_dot (b ∷ bs) e =
    let p = and_parts (is_name_byte b) (list_all is_name_byte bs) e in
    (λ same. true≢false (sym p.0 ∙ ap is_name_byte same), no_dot bs p.1)

name_no_dot : (name : List ℕ) → is_name name ≡ true → NoDot name
name_no_dot name e = no_dot name (and_parts _ _ e).1

same_head : (a b s t : List ℕ) → NoDot a → NoDot b → IsTail s → IsTail t → a ++ s ≡ b ++ t → a ≡ b
same_head [] [] s t p q x y e = refl
same_head [] (b ∷ bs) [] t p q x y e = absurd cc
same_head [] (b ∷ bs) (c ∷ s) t p q x y e = let here : c ≡ b = cc in absurd (q.0 (sym here ∙ x))
same_head (a ∷ more) [] s [] p q x y e = absurd cc
same_head (a ∷ more) [] s (c ∷ t) p q x y e = let here : a ≡ c = cc in absurd (p.0 (here ∙ y))
same_head (a ∷ more) (b ∷ bs) s t p q x y e =
    let here : a ≡ b = cc in
    let rest : more ++ s ≡ bs ++ t = cc in
    let ih = same_head more bs s t p.1 q.1 x y rest in
    λ i. here i ∷ ih i

same_rest : (p a b : List ℕ) → p ++ a ≡ p ++ b → a ≡ b
same_rest [] a b e = e
same_rest (x ∷ p) a b e = let rest : p ++ a ≡ p ++ b = cc in same_rest p a b rest

-- what comes before the names of a model's parts, and one of these
join_assoc : (p name tail : List ℕ) → p ++ name ++ 46 ∷ [] ++ tail ≡ p ++ (name ++ 46 ∷ tail)
join_assoc p name tail = append_assoc (p ++ name) (46 ∷ []) tail ∙ append_assoc p name (46 ∷ tail)

all_weaker : {A : Type 0} (P Q : A → Type 0) (xs : List A) → ((x : A) → P x → Q x) → All P xs → All Q xs
all_weaker P Q xs f all i d lt = f (slice_index_or xs i d) (all i d lt)

-- ---- the names of parts

-- what holds of the name of each part at level 1
abbrev AllNames : {M : Type 0} → (List ℕ → Type 0) → Parts M → Type 0
AllNames P no_parts = Unit {0}
AllNames P (atom name m rest) = P name × AllNames P rest
AllNames P (coupled name inner links rest) = P name × AllNames P rest

AllNames-weaker : {M : Type 0} (P Q : List ℕ → Type 0) → ((n : List ℕ) → P n → Q n) → (parts : Parts M) → AllNames P parts → AllNames Q parts
AllNames-weaker P Q f no_parts all = tt
AllNames-weaker P Q f (atom name m rest) all = (f name all.0, AllNames-weaker P Q f rest all.1)
AllNames-weaker P Q f (coupled name inner links rest) all = (f name all.0, AllNames-weaker P Q f rest all.1)

record IsNew (names : List (List ℕ)) (name : List ℕ) : Type 0 where
  named : is_name name ≡ true
  new : (other : List ℕ) → Contains names other → other ≢ name

is_new : (names : List (List ℕ)) (name : List ℕ) → part_name_fault names name ≡ None → IsNew names name
is_new names name e =
    let p = neither _ _ e in
    let absent = not-true (has_name names name) (holds _ _ p.1) in
    record {
      named = holds _ _ p.0;
      new = λ other at same. (let differs = not_any (bytes_eq name) names absent at.0 name at.1 in true≢false (sym (text_itself name) ∙ ap (bytes_eq name) (sym same ∙ sym (at_default names at.0 other name at.1 at.2)) ∙ differs));
    }
  where
    at_default : (xs : List (List ℕ)) (i : ℕ) (x d : List ℕ) → i < length xs → slice_index_or xs i x ≡ x → slice_index_or xs i d ≡ x
    at_default [] i x d lt is = absurd (omega (arith, lt))
    at_default (y ∷ ys) zero x d lt is = is
    at_default (y ∷ ys) (suc i) x d lt is = at_default ys i x d (omega (arith, lt)) is

later : (names : List (List ℕ)) (name : List ℕ) (n : List ℕ) → IsNew (names ++ name ∷ []) n → IsNew names n
later names name n is = record { named = is.named; new = λ other at. is.new other (Contains-append_left names (name ∷ []) other at) }

module _ {M S : Type 0} (meaning : M → Meaning S) where
  -- of a first part that is not at fault, and the rest
  atom_sound : (names : List (List ℕ)) (name : List ℕ) (m : M) (rest : Parts M) → parts_fault meaning names (atom name m rest) ≡ None → IsNew names name × (start_fault (meaning m) ≡ None) × (parts_fault meaning (names ++ name ∷ []) rest ≡ None)
  atom_sound names name m rest e =
      let p = neither _ _ e in
      let q = neither _ _ p.0 in
      (is_new names name q.0, q.1, p.1)

  coupled_sound : (names : List (List ℕ)) (name : List ℕ) (inner : Parts M) (links : List Link) (rest : Parts M) → parts_fault meaning names (coupled name inner links rest) ≡ None → IsNew names name × (parts_fault meaning (names ++ name ∷ []) rest ≡ None)
  coupled_sound names name inner links rest e = let p = neither _ _ e in (is_new names name p.0, p.1)

  -- the parts of a first model that is not at fault, those in them, and the models in the rest
  inner_sound : (name : List ℕ) (inner : Parts M) (links : List Link) (rest : Parts M) → inner_fault meaning (coupled name inner links rest) ≡ None → (parts_fault meaning [] inner ≡ None) × (inner_fault meaning inner ≡ None) × (inner_fault meaning rest ≡ None)
  inner_sound name inner links rest e =
      let p = neither _ _ e in
      let q = neither _ _ p.0 in
      ((neither _ _ q.0).0, q.1, p.1)

  all_new : (names : List (List ℕ)) (parts : Parts M) → parts_fault meaning names parts ≡ None → AllNames (IsNew names) parts
  all_new names no_parts e = tt
  all_new names (atom name m rest) e =
      let s = atom_sound names name m rest e in
      (s.0, AllNames-weaker (IsNew (names ++ name ∷ [])) (IsNew names) (later names name) rest (all_new (names ++ name ∷ []) rest s.2))
  all_new names (coupled name inner links rest) e =
      let s = coupled_sound names name inner links rest e in
      (s.0, AllNames-weaker (IsNew (names ++ name ∷ [])) (IsNew names) (later names name) rest (all_new (names ++ name ∷ []) rest s.1))

  -- ---- each name of an atom is names joined by dots

  -- what comes before names leaves them so
  abbrev LeavesFlat : List ℕ → Type 0
  LeavesFlat prefix = (name : List ℕ) → IsFlatName name → IsFlatName (prefix ++ name)

  leaves_within : (prefix name : List ℕ) → LeavesFlat prefix → is_name name ≡ true → LeavesFlat (prefix ++ name ++ 46 ∷ [])
  leaves_within prefix name leaves is rest at =
      subst IsFlatName (sym (join_assoc prefix name rest)) (leaves (name ++ 46 ∷ rest) (within name rest is at))

  pub flat_names_are : (prefix : List ℕ) (names : List (List ℕ)) (parts : Parts M) → LeavesFlat prefix → parts_fault meaning names parts ≡ None → inner_fault meaning parts ≡ None → All IsFlatName (flat_names prefix parts)
  flat_names_are prefix names no_parts leaves e f = All-nil IsFlatName
  flat_names_are prefix names (atom name m rest) leaves e f =
      let s = atom_sound names name m rest e in
      All-cons IsFlatName (prefix ++ name) (flat_names prefix rest) (leaves name (alone name s.0.named)) (flat_names_are prefix (names ++ name ∷ []) rest leaves s.2 f)
  flat_names_are prefix names (coupled name inner links rest) leaves e f =
      let s = coupled_sound names name inner links rest e in
      let t = inner_sound name inner links rest f in
      All-append IsFlatName (flat_names (prefix ++ name ++ 46 ∷ []) inner) (flat_names prefix rest)
      (flat_names_are (prefix ++ name ++ 46 ∷ []) [] inner (leaves_within prefix name leaves s.0.named) t.0 t.1)
      (flat_names_are prefix (names ++ name ∷ []) rest leaves s.1 t.2)

-- ---- no two of them are the same

-- a name of an atom begins with what comes before it, and then with the name of a part of which P holds
record HasHead (P : List ℕ → Type 0) (prefix full : List ℕ) : Type 0 where
  head : List ℕ
  tail : List ℕ
  holds : P head
  is : full ≡ prefix ++ (head ++ tail)
  tails : IsTail tail

record Begins (prefix full : List ℕ) : Type 0 where
  tail : List ℕ
  is : full ≡ prefix ++ tail

all_begin : {M : Type 0} (prefix : List ℕ) (parts : Parts M) → All (Begins prefix) (flat_names prefix parts)
all_begin prefix no_parts = All-nil (Begins prefix)
all_begin prefix (atom name m rest) = All-cons (Begins prefix) (prefix ++ name) (flat_names prefix rest) (record { tail = name; is = refl }) (all_begin prefix rest)
all_begin prefix (coupled name inner links rest) =
    All-append (Begins prefix) (flat_names (prefix ++ name ++ 46 ∷ []) inner) (flat_names prefix rest)
    (all_weaker (Begins (prefix ++ name ++ 46 ∷ [])) (Begins prefix) (flat_names (prefix ++ name ++ 46 ∷ []) inner) (λ full b. record { tail = name ++ 46 ∷ b.tail; is = b.is ∙ join_assoc prefix name b.tail }) (all_begin (prefix ++ name ++ 46 ∷ []) inner))
    (all_begin prefix rest)

-- those of the parts of a model of this name
heads_within : {M : Type 0} (P : List ℕ → Type 0) (prefix name : List ℕ) (inner : Parts M) → P name → All (HasHead P prefix) (flat_names (prefix ++ name ++ 46 ∷ []) inner)
heads_within P prefix name inner at =
    all_weaker (Begins (prefix ++ name ++ 46 ∷ [])) (HasHead P prefix) (flat_names (prefix ++ name ++ 46 ∷ []) inner)
    (λ full b. record { head = name; tail = 46 ∷ b.tail; holds = at; is = b.is ∙ join_assoc prefix name b.tail; tails = refl })
    (all_begin (prefix ++ name ++ 46 ∷ []) inner)

all_heads : {M : Type 0} (P : List ℕ → Type 0) (prefix : List ℕ) (parts : Parts M) → AllNames P parts → All (HasHead P prefix) (flat_names prefix parts)
all_heads P prefix no_parts all = All-nil (HasHead P prefix)
all_heads P prefix (atom name m rest) all =
    All-cons (HasHead P prefix) (prefix ++ name) (flat_names prefix rest) (record { head = name; tail = []; holds = all.0; is = ap (λ t. prefix ++ t) (sym (append-nil name)); tails = tt }) (all_heads P prefix rest all.1)
all_heads P prefix (coupled name inner links rest) all =
    All-append (HasHead P prefix) (flat_names (prefix ++ name ++ 46 ∷ []) inner) (flat_names prefix rest) (heads_within P prefix name inner all.0) (all_heads P prefix rest all.1)

-- of two parts, names of atoms differ
heads_apart : (prefix name a b : List ℕ) (names : List (List ℕ)) → is_name name ≡ true → HasHead (λ h. h ≡ name) prefix a → HasHead (IsNew (names ++ name ∷ [])) prefix b → a ≢ b
heads_apart prefix name a b names is x y same =
    let heads : x.head ++ x.tail ≡ y.head ++ y.tail = same_rest prefix (x.head ++ x.tail) (y.head ++ y.tail) (sym x.is ∙ same ∙ y.is) in
    let one : x.head ≡ y.head = same_head x.head y.head x.tail y.tail (subst NoDot (sym x.holds) (name_no_dot name is)) (name_no_dot y.head y.holds.named) x.tails y.tails heads in
    y.holds.new name (Contains-push names name) (sym x.holds ∙ one)

pairs_append : {A : Type 0} (R : A → A → Type 0) (xs ys : List A) → AllPairs R xs → AllPairs R ys → All (λ x. All (R x) ys) xs → AllPairs R (xs ++ ys)
pairs_append R [] ys p q cross = q
pairs_append R (x ∷ xs) ys p q cross =
    AllPairs-cons R x (xs ++ ys)
    (All-append (R x) xs ys (λ i d lt. p 0 (suc i) d (omega arith) (omega (arith, lt))) (cross 0 x (omega arith)))
    (pairs_append R xs ys (λ i j d lt within. p (suc i) (suc j) d (omega (arith, lt)) (omega (arith, within))) q (λ i d lt. cross (suc i) d (omega (arith, lt))))

module _ {M S : Type 0} (meaning : M → Meaning S) where
  pub flat_names_distinct : (prefix : List ℕ) (names : List (List ℕ)) (parts : Parts M) → parts_fault meaning names parts ≡ None → inner_fault meaning parts ≡ None → AllPairs (λ a b. a ≢ b) (flat_names prefix parts)
  flat_names_distinct prefix names no_parts e f = λ i j d lt within. absurd (omega (arith, within))
  flat_names_distinct prefix names (atom name m rest) e f =
      let s = atom_sound meaning names name m rest e in
      let rests = all_heads (IsNew (names ++ name ∷ [])) prefix rest (all_new meaning (names ++ name ∷ []) rest s.2) in
      pairs_append (λ a b. a ≢ b) ((prefix ++ name) ∷ []) (flat_names prefix rest)
      (λ i j d lt within. absurd (omega (arith, lt, within)))
      (flat_names_distinct prefix (names ++ name ∷ []) rest s.2 f)
      (All-cons (λ x. All (λ y. x ≢ y) (flat_names prefix rest)) (prefix ++ name) []
      (λ i d lt. heads_apart prefix name (prefix ++ name) (slice_index_or (flat_names prefix rest) i d) names s.0.named (record { head = name; tail = []; holds = refl; is = ap (λ t. prefix ++ t) (sym (append-nil name)); tails = tt }) (rests i d lt))
      (All-nil (λ x. All (λ y. x ≢ y) (flat_names prefix rest))))
  flat_names_distinct prefix names (coupled name inner links rest) e f =
      let s = coupled_sound meaning names name inner links rest e in
      let t = inner_sound meaning name inner links rest f in
      let firsts = heads_within (λ h. h ≡ name) prefix name inner refl in
      let rests = all_heads (IsNew (names ++ name ∷ [])) prefix rest (all_new meaning (names ++ name ∷ []) rest s.1) in
      pairs_append (λ a b. a ≢ b) (flat_names (prefix ++ name ++ 46 ∷ []) inner) (flat_names prefix rest)
      (flat_names_distinct (prefix ++ name ++ 46 ∷ []) [] inner t.0 t.1)
      (flat_names_distinct prefix (names ++ name ∷ []) rest s.1 t.2)
      (λ i d lt. λ j d' lt'. heads_apart prefix name (slice_index_or (flat_names (prefix ++ name ++ 46 ∷ []) inner) i d) (slice_index_or (flat_names prefix rest) j d') names s.0.named (firsts i d lt) (rests j d' lt'))

-- ---- names taken one after another

-- what is distinct is not among what stood before it
absent : (xs : List (List ℕ)) (y : List ℕ) (ys : List (List ℕ)) → AllPairs (λ a b. a ≢ b) (xs ++ y ∷ ys) → has_name xs y ≡ false
absent [] y ys pairs = refl
absent (x ∷ xs) y ys pairs = go (bytes_eq y x) refl (absent xs y ys (λ i j d lt within. pairs (suc i) (suc j) d (omega (arith, lt)) (omega (arith, within))))
  where
    at : Contains (xs ++ y ∷ ys) y
    at = Contains-append_right xs (y ∷ ys) y (0, omega arith, refl)

    apart : x ≢ y
    apart = All-contains (λ z. x ≢ z) (xs ++ y ∷ ys) y (λ i d lt. pairs 0 (suc i) d (omega arith) (omega (arith, lt))) at

    go : (b : Bool) → bytes_eq y x ≡ b → has_name xs y ≡ false → (bytes_eq y x || has_name xs y) ≡ false
    go true e rest = absurd (apart (sym ((bytes_eq-Decides y x).0 e)))
    go false e rest = ap (λ b. b || has_name xs y) e ∙ rest

pub absent_string : (names yielded : List (String Global)) (name : String Global) (rest : List (String Global)) → AllPairs (λ a b. a ≢ b) (map string_bytes names) → names ≡ yielded ++ name ∷ rest → has_name (map string_bytes yielded) (string_bytes name) ≡ false
absent_string names yielded name rest pairs is =
    absent (map string_bytes yielded) (string_bytes name) (map string_bytes rest)
    (subst (AllPairs (λ a b. a ≢ b)) (ap (map string_bytes) is ∙ map-append string_bytes yielded (name ∷ rest)) pairs)
