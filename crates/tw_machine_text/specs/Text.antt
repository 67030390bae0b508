-- The words of a text.
use Rattle.std.specs.Prelude.{◌≡◌, ℕ, ◌+◌, ◌-◌, ◌*◌, ◌^◌, ◌<◌, ◌≤◌, length, Bool, true, false, not, ◌&&◌, ◌||◌, ◌⊎◌, List, [], ◌∷◌, ◌++◌, Option, Some, None, is_some, ◌==◌, nat_lt, nat_le, if◌then◌else◌, codes}
use Rattle.std.specs.Option.{option_map}
use Rattle.tw_machine_text.specs.declared.words.Operator.TheVariants.{Comma, Colon, Or, And, Equal, NotEqual, Less, LessEqual, Greater, GreaterEqual, Plus, Minus, Times, Divide, Modulo}
use Rattle.tw_machine_text.specs.declared.words.Builtin.TheVariants.{Random, Port, Value, Elapsed, Left, Now, Turn, Which}
use Rattle.tw_machine_text.specs.declared.words.SourceChange.TheVariants.{Set, Add, Subtract, Xor}
use Rattle.tw_machine_text.specs.declared.words.Verb.TheVariants.{Push, Insert, Remove, Put, Observe}
use Rattle.tw_machine_text.specs.declared.words.Deed.TheVariants.{Pop, Clear, Do, Stop}
use Rattle.tw_machine_text.specs.declared.words.Word.{Word}
use Rattle.tw_machine_text.specs.declared.words.Word.TheVariants as word
use Rattle.tw_machine_text.specs.declared.kinds.Meaning.{Meaning}
use Rattle.tw_machine_text.specs.declared.kinds.Member.{Member}
use Rattle.tw_machine_text.specs.declared.kinds.Timing.{Timing}
use Rattle.tw_machine_text.specs.Letters.{same_text, functions, own_names}
use Rattle.tw_machine_text.specs.Tree.{Tree, Block, Means, spelled, IsAlone, deep, nodes, heads}
use Rattle.tw_machine_text.specs.Desugared.{desugared_block, desugared_text, is_within, is_within_tree}
use Rattle.tw_machine_text.specs.Timers.{may_stand, may_stand_as}
use Rattle.tw_machine_text.specs.Limits.{max_nodes, written_levels, written_nodes}

abbrev pub is_digit : ℕ → Bool
is_digit c = nat_le 48 c && nat_le c 57

-- a letter, a digit or _
abbrev pub is_word : ℕ → Bool
is_word c = is_digit c || (nat_le 65 c && nat_le c 90) || (nat_le 97 c && nat_le c 122) || c == 95

-- a space, a tab, a carriage return, a newline
abbrev pub is_blank : ℕ → Bool
is_blank c = c == 32 || c == 9 || c == 13 || c == 10

abbrev pub lookup : List (List ℕ × Word) → List ℕ → Option Word
lookup [] text = None
lookup (e ∷ es) text = if same_text e.0 text then Some e.1 else lookup es text

abbrev pub position : ℕ → List (List ℕ) → List ℕ → Option ℕ
position n [] text = None
position n (name ∷ names) text = if same_text name text then Some n else position (n + 1) names text

abbrev pub reserved : List (List ℕ × Word)
reserved =
    (codes "random", word.Known Random) ∷ (codes "port", word.Known Port) ∷ (codes "value", word.Known Value) ∷ (codes "elapsed", word.Known Elapsed) ∷ (codes "left", word.Known Left)
    ∷ (codes "now", word.Known Now) ∷ (codes "turn", word.Known Turn) ∷ (codes "or", word.Sign Or) ∷ (codes "and", word.Sign And) ∷ (codes "not", word.Not)
    ∷ (codes "if", word.If) ∷ (codes "else", word.Else) ∷ (codes "repeat", word.Repeat) ∷ (codes "wait", word.Wait) ∷ (codes "passivate", word.Passivate)
    ∷ (codes "draw", word.Draw) ∷ (codes "push", word.Begins Push) ∷ (codes "insert", word.Begins Insert) ∷ (codes "put", word.Begins Put) ∷ (codes "remove", word.Begins Remove)
    ∷ (codes "pop", word.Does Pop) ∷ []

-- whether a text is a word of the language that no name may be
abbrev pub is_reserved : List ℕ → Bool
is_reserved text = is_some (lookup reserved text)

-- the words of the language in a machine that has no such name; of timers are the last four
abbrev pub contextual : List (List ℕ × Word)
contextual = (codes "observe", word.Begins Observe) ∷ (codes "clear", word.Does Clear) ∷ (codes "do", word.Does Do)
    ∷ (codes "start", word.Start) ∷ (codes "stop", word.Does Stop) ∷ (codes "send", word.Send) ∷ (codes "which", word.Known Which) ∷ []

abbrev pub signs : List (List ℕ × Word)
signs =
    (codes "(", word.Open) ∷ (codes ")", word.Close) ∷ (codes "[", word.OpenBracket) ∷ (codes "]", word.CloseBracket) ∷ (codes "{", word.OpenBrace) ∷ (codes "}", word.CloseBrace)
    ∷ (codes ";", word.Semicolon) ∷ (codes ",", word.Sign Comma) ∷ (codes ":", word.Sign Colon) ∷ (codes "+", word.Sign Plus) ∷ (codes "-", word.Sign Minus) ∷ (codes "*", word.Sign Times) ∷ (codes "/", word.Sign Divide)
    ∷ (codes "%", word.Sign Modulo) ∷ (codes "<", word.Sign Less) ∷ (codes ">", word.Sign Greater) ∷ (codes "=", word.Becomes Set) ∷ (codes "==", word.Sign Equal) ∷ (codes "!=", word.Sign NotEqual)
    ∷ (codes "<=", word.Sign LessEqual) ∷ (codes ">=", word.Sign GreaterEqual) ∷ (codes "+=", word.Becomes Add) ∷ (codes "-=", word.Becomes Subtract) ∷ (codes "^=", word.Becomes Xor) ∷ []

abbrev pub is_sign : List ℕ → Bool
is_sign text = is_some (lookup signs text)

-- the number that digits are, with n before them, at most 2 ^ 63 - 1
abbrev pub digits : ℕ → List ℕ → Option ℕ
digits n [] = Some n
digits n (c ∷ cs) = if is_digit c && nat_lt (n * 10 + (c - 48)) (2 ^ 63) then digits (n * 10 + (c - 48)) cs else None

-- with no zero before them
abbrev pub number : List ℕ → Option ℕ
number (c ∷ d ∷ cs) = if c == 48 then None else digits 0 (c ∷ d ∷ cs)
number cs = digits 0 cs

-- a word of the language that no name may be, else a name, else a word that names hide
abbrev pub or_name : Option Word → Option ℕ → Option Word → Option Word
or_name (Some w) n hidden = Some w
or_name None (Some n) hidden = Some (word.Name n)
or_name None None hidden = hidden

abbrev pub first_some : Option ℕ → Option ℕ → Option ℕ
first_some (Some n) o = Some n
first_some None o = o

-- and those of the machine follow
abbrev pub name_of : List (List ℕ) → List ℕ → Option ℕ
name_of names text = first_some (position 0 functions text) (position own_names names text)

-- the word of a run or a sign
abbrev pub word_of : List (List ℕ) → List ℕ → Option Word
word_of names [] = None
word_of names (c ∷ cs) =
    if is_digit c then option_map word.Number (number (c ∷ cs))
    else if is_word c then or_name (lookup reserved (c ∷ cs)) (name_of names (c ∷ cs)) (lookup contextual (c ∷ cs))
    else lookup signs (c ∷ cs)

-- whether a byte makes this longer: a run goes on with letters, digits and _, and a sign with what makes a sign of two
abbrev pub goes_on : List ℕ → ℕ → Bool
goes_on [] c = true
goes_on (f ∷ []) c = if is_word f then is_word c else c == 61 && (f == 60 || f == 62 || f == 61 || f == 33 || f == 43 || f == 45 || f == 94)
goes_on (f ∷ g ∷ more) c = is_word f && is_word c

-- a run or a sign: each of its bytes makes what stands before longer
abbrev pub GoesOn : List ℕ → List ℕ → Type 0
GoesOn before [] = Unit {0}
GoesOn before (c ∷ cs) = (goes_on before c ≡ true) × GoesOn (before ++ c ∷ []) cs

-- it is the longest
abbrev pub Stops : List ℕ → List ℕ → Type 0
Stops cs [] = Unit {0}
Stops cs (c ∷ more) = goes_on cs c ≡ false

-- blanks and comments, which end with their line; the last one may end with the text
abbrev pub AreBlank : Bool → Bool → List ℕ → Type 0
AreBlank last commented [] = (commented && not last) ≡ false
AreBlank last false (c ∷ cs) = ((is_blank c ≡ true) × AreBlank last false cs) ⊎ ((c ≡ 35) × AreBlank last true cs)
AreBlank last true (c ∷ cs) = AreBlank last (not (c == 10)) cs

-- What stands at the front of a text, which may begin in a comment: blanks, a word as long as can be, and what follows it.
pub record Front (names : List (List ℕ)) (commented : Bool) (text : List ℕ) (w : Word) (rest : List ℕ) : Type 0 where
  pub blanks : List ℕ
  pub first : ℕ
  pub others : List ℕ
  pub parts : text ≡ blanks ++ (first ∷ others) ++ rest
  pub blank : AreBlank false commented blanks
  pub begins : (is_blank first || first == 35) ≡ false
  pub goes_on : GoesOn (first ∷ []) others
  pub longest : Stops (first ∷ others) rest
  pub is : word_of names (first ∷ others) ≡ Some w

-- the text has these words
abbrev pub HasWords : List (List ℕ) → Bool → List Word → List ℕ → Type 0
HasWords names commented [] text = AreBlank true commented text
HasWords names commented (w ∷ ws) text = (rest : List ℕ) × Front names commented text w rest × HasWords names false ws rest

-- The text is this program, where the machine has these timers or none, the names stand for these, and procedures are these programs: what is written comes to it, in the core of the language.
pub record Reads (most many : ℕ) (names : List (List ℕ)) (timing : Option Timing) (kinds : List Meaning) (procedures : List Block) (text : List ℕ) (program : Block) : Type 0 where
  pub words : List Word
  pub has : HasWords names false words text
  pub written : Block
  pub means : Means written_levels written_nodes words written
  pub stands : may_stand timing kinds (length procedures) written ≡ true
  pub comes : desugared_block timing kinds procedures written ≡ program
  pub limits : is_within most many program ≡ true

-- the text of a member is this expression, queue or array register: what is written comes to it
pub record ReadsTree (most many : ℕ) (member : Member) (names : List (List ℕ)) (timing : Option Timing) (kinds : List Meaning) (text : List ℕ) (e : Tree) : Type 0 where
  pub words : List Word
  pub has : HasWords names false words text
  pub written : Tree
  pub spells : words ≡ spelled written []
  pub alone : IsAlone written
  pub levels : deep written ≤ written_levels
  pub size : nodes written ≤ written_nodes
  pub short : heads words < max_nodes
  pub stands : may_stand_as timing member kinds written ≡ true
  pub comes : desugared_text timing kinds written ≡ e
  pub limits : is_within_tree most many e ≡ true

-- a text says one program at most, however deep
abbrev pub OneText : Type 0
OneText =
    (names : List (List ℕ)) (timing : Option Timing) (kinds : List Meaning) (procedures : List Block) (text : List ℕ) (m n i j : ℕ) (a b : Block)
    → Reads m i names timing kinds procedures text a → Reads n j names timing kinds procedures text b → a ≡ b

-- and one expression at most
abbrev pub OneTree : Type 0
OneTree =
    (names : List (List ℕ)) (timing : Option Timing) (kinds : List Meaning) (text : List ℕ) (m n i j : ℕ) (s t : Member) (a b : Tree)
    → ReadsTree m i s names timing kinds text a → ReadsTree n j t names timing kinds text b → a ≡ b

-- the same by a machine that takes one byte after another: the words so far, and what is being read
pub data Mode : Type 0 where
  Between : Mode
  InComment : Mode
  Reading : (cs : List ℕ) → Mode

abbrev pub begin : ℕ → Mode
begin c = if is_blank c then Between else if c == 35 then InComment else Reading (c ∷ [])

abbrev pub byte : List (List ℕ) → ℕ → List Word × Mode → Option (List Word × Mode)
byte names c (ws, Between) = Some (ws, begin c)
byte names c (ws, InComment) = Some (ws, if c == 10 then Between else InComment)
byte names c (ws, Reading cs) = if goes_on cs c then Some (ws, Reading (cs ++ c ∷ [])) else option_map (λ w. (ws ++ w ∷ [], begin c)) (word_of names cs)

abbrev pub scan : List (List ℕ) → List ℕ → List Word × Mode → Option (List Word × Mode)
scan names [] r = Some r
scan names (c ∷ cs) r = Rattle.std.specs.Option.option_and_then (scan names cs) (byte names c r)

abbrev pub scanned : List (List ℕ) → List Word × Mode → Option (List Word)
scanned names (ws, Between) = Some ws
scanned names (ws, InComment) = Some ws
scanned names (ws, Reading cs) = option_map (λ w. ws ++ w ∷ []) (word_of names cs)

abbrev pub words_of : List (List ℕ) → List ℕ → Option (List Word)
words_of names text = Rattle.std.specs.Option.option_and_then (scanned names) (scan names text ([], Between))

-- the words of a text, or those before the first that is none
abbrev pub Lexed : Bool → List Word → Option (List Word) → Type 0
Lexed true ws o = o ≡ Some ws
Lexed false ws o = o ≡ None
