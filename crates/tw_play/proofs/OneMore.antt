-- One answer more, of commands and of the actions that a generator gives; and what went out where memory was wanting.
use Rattle.std.proofs.Common.{◌≡◌, ◌≢◌, ◌<◌, ◌≤◌, ◌+◌, ◌-◌, ◌++◌, ◌∷◌, [], ◌∙◌, ℕ, suc, List, length, take, drop, sym, ap, append_assoc, append-nil, subst, inl, inr, arith, take-append-drop, take_all}
use Rattle.std.specs.Prelude.{Option, Some, None, Result, Ok, Err, IfErr, OnOk, slice_index_or}
use Rattle.std.specs.Result.{IsErrAnd}
use Rattle.std.specs.Io.KnownBytes.{Appends}
use Rattle.std.proofs.lemmas.List.{take_more}
use Rattle.rand_pcg.specs.Lcg.{Lcg}
use Rattle.tw_atomic.specs.Atomic.{Meaning}
use Rattle.tw_actions.specs.declared.action.Action.{Action}
use Rattle.tw_play.proofs.Wanting.{stopped_at}
use Rattle.tw_play.specs.Playing.{Played, IsObeyed, ArePlayed, AreDrawn, response_text, wants_memory, nothing, obeyed, ended, idle, taken}
use Rattle.tw_play.specs.Telling.{HasTold, IsCutShort, IsDrawnShort, IsPlayed, IsWhollyDrawn, generator_after, refused_text}
use Rattle.tw_play.specs.declared.response.Response.{Response}
use Rattle.tw_seeded.specs.Schedules.{action_drawn, after as next_of, drawn}
use Rattle.tw_script.specs.declared.command.Command.{Command}
use Rattle.tw_script.specs.declared.command.Command.TheVariants.{Act}
use Rattle.tw_texts.proofs.Portions.{appends_nothing, appends_both}
use Rattle.tw_texts.specs.Traces.{MovesBytes}
use Rattle.tw_texts.specs.declared.traces.NotWritten.{NotWritten}
use Rattle.tw_texts.specs.declared.traces.NotWritten.TheVariants.{OutOfMemory, WriteFailed}

-- commands were obeyed, and the writer has what is no longer among the answers gathered
pub record IsUnderWay {M S : Type 0} (meaning : M → Meaning S) (commands : List Command) (p p' : Played M S) (old now : Option (List ℕ)) (gathered : List ℕ) : Type 0 where
  pub text : List ℕ
  pub played : ArePlayed meaning commands p text p'
  pub moved : MovesBytes old now text gathered

-- the same of the actions that a generator gave, which came to another; n of them are left
pub record IsDrawing {M S : Type 0} (meaning : M → Meaning S) (g : Lcg) (done : ℕ) (p p' : Played M S) (h : Lcg) (old now : Option (List ℕ)) (gathered : List ℕ) : Type 0 where
  pub text : List ℕ
  pub played : (n : ℕ) (more : List ℕ) (p'' : Played M S) → AreDrawn meaning h n p' more p'' → AreDrawn meaning g (done + n) p (text ++ more) p''
  pub later : h ≡ generator_after done g
  pub moved : MovesBytes old now text gathered

module _ {M S : Type 0} {meaning : M → Meaning S} where
  pub played_more : (commands : List Command) (p : Played M S) (text : List ℕ) (p' p'' : Played M S) (command : Command) (answer : Response) → ArePlayed meaning commands p text p'
      → IsObeyed meaning command p' answer p'' → answer ≢ wants_memory → ArePlayed meaning (commands ++ command ∷ []) p (text ++ response_text answer) p''
  played_more commands p text p' p'' command answer (nothing q) is enough =
      subst (λ t. ArePlayed meaning (command ∷ []) p t p'') (append-nil (response_text answer)) (obeyed command [] p p'' p'' answer [] is enough (nothing p''))
  played_more commands p text p' p'' command answer (obeyed first rest q q' q'' said more h some t) is enough =
      subst (λ t. ArePlayed meaning (first ∷ (rest ++ command ∷ [])) q t p'') (sym (append_assoc (response_text said) more (response_text answer)))
      (obeyed first (rest ++ command ∷ []) q q' p'' said (more ++ response_text answer) h some (played_more rest q' more q'' p'' command answer t is enough))

-- an answer joins those that are gathered, and what is gathered goes out, in part or whole
pub told_more : (a b c : Option (List ℕ)) (text more kept left : List ℕ) → MovesBytes a b text kept → MovesBytes b c (kept ++ more) left → MovesBytes a c (text ++ more) left
told_more a b c text more kept left p q = (
  p.0 ++ q.0,
  appends_both a b c p.0 q.0 p.1 q.1,
  append_assoc p.0 q.0 left ∙ ap (λ l. p.0 ++ l) q.2 ∙ sym (append_assoc p.0 kept more) ∙ ap (λ l. l ++ more) p.2,
)

-- where memory is wanting all that is gathered has gone out, and at most the line after it
pub told_short : (answer : Response) (a b c : Option (List ℕ)) (text kept : List ℕ) → MovesBytes a b text kept → HasTold answer b c kept → HasTold answer a c text
told_short answer a b c text kept p (inl (is, out)) = inl (is, subst (Appends a c) (sym (append_assoc p.0 kept refused_text) ∙ ap (λ l. l ++ refused_text) p.2) (appends_both a b c p.0 (kept ++ refused_text) p.1 out))
told_short answer a b c text kept p (inr out) = inr (subst (Appends a c) p.2 (appends_both a b c p.0 kept p.1 out))

-- a list at an item: those before it, the item, and those after it
at_item : {X : Type 0} (xs : List X) (i : ℕ) (x : X) → i < length xs → x ≡ slice_index_or xs i x → take i xs ++ x ∷ drop (i + 1) xs ≡ xs
at_item xs i x near is =
    sym (append_assoc (take i xs) (x ∷ []) (drop (i + 1) xs)) ∙ ap (λ l. l ++ drop (i + 1) xs) (sym (take_more xs i x near ∙ ap (λ y. take i xs ++ y ∷ []) (sym is)))
    ∙ take-append-drop (i + 1) xs

module _ {M S : Type 0} {meaning : M → Meaning S} {p : Played M S} {old : Option (List ℕ)} where
  pub way_more : (commands : List Command) (i : ℕ) (command : Command) (p' p'' : Played M S) (answer : Response) (now after : Option (List ℕ)) (kept left : List ℕ)
      → i < length commands → command ≡ slice_index_or commands i command → IsUnderWay meaning (take i commands) p p' old now kept → IsObeyed meaning command p' answer p'' → answer ≢ wants_memory
      → MovesBytes now after (kept ++ response_text answer) left → IsUnderWay meaning (take (i + 1) commands) p p'' old after left
  way_more commands i command p' p'' answer now after kept left near at w is enough q = record {
    text = w.text ++ response_text answer;
    played = subst (λ cs. ArePlayed meaning cs p (w.text ++ response_text answer) p'') (sym (take_more commands i command near ∙ ap (λ c. take i commands ++ c ∷ []) (sym at)))
        (played_more (take i commands) p w.text p' p'' command answer w.played is enough);
    moved = told_more old now after w.text (response_text answer) kept left w.moved q;
  }

  pub way_short : (commands : List Command) (i : ℕ) (command : Command) (p' p'' : Played M S) (answer : Response) (now after : Option (List ℕ)) (kept : List ℕ)
      → i < length commands → command ≡ slice_index_or commands i command → IsUnderWay meaning (take i commands) p p' old now kept → IsObeyed meaning command p' answer p''
      → HasTold answer now after kept → IsCutShort meaning commands p old after
  way_short commands i command p' p'' answer now after kept near at w is out = record {
    done = take i commands;
    next = command;
    rest = drop (i + 1) commands;
    all = at_item commands i command near at;
    text = w.text;
    reached = p';
    played = w.played;
    stopped = stopped_at command p' p'' answer is (told_short answer old now after w.text kept w.moved out);
  }

pub nothing_moved : (o : Option (List ℕ)) (gathered : List ℕ) → gathered ≡ [] → MovesBytes o o [] gathered
nothing_moved o gathered is = ([], appends_nothing o, is)

module _ {M S : Type 0} {meaning : M → Meaning S} {p : Played M S} {old : Option (List ℕ)} where
  pub way_done : (commands : List Command) (i : ℕ) (p' : Played M S) (now after : Option (List ℕ)) (kept : List ℕ) → length commands ≤ i → IsUnderWay meaning (take i commands) p p' old now kept
      → Appends now after kept → IsPlayed meaning commands p p' old after
  way_done commands i p' now after kept all w out = record {
    text = w.text;
    played = subst (λ cs. ArePlayed meaning cs p w.text p') (take_all i commands all) w.played;
    written = subst (Appends old after) w.moved.2 (appends_both old now after w.moved.0 kept w.moved.1 out);
  }

pub on_ok : {A E : Type 0} (r : Result A E) (P Q : Type 0) → (P → Q) → OnOk r P → OnOk r Q
on_ok (Ok x) P Q f h = f h
on_ok (Err e) P Q f h = h

-- ---- the actions that a generator gives

one_later : (done n : ℕ) → done + suc n ≡ done + 1 + n
one_later done n = omega arith

one_after : (done : ℕ) → suc done ≡ done + 1
one_after done = omega arith

module _ {M S : Type 0} {meaning : M → Meaning S} {g : Lcg} {p : Played M S} {old : Option (List ℕ)} where
  pub drawing_more : (done : ℕ) (p' p'' : Played M S) (h : Lcg) (action : Action) (answer : Response) (now after : Option (List ℕ)) (kept left : List ℕ) → IsDrawing meaning g done p p' h old now kept
      → action_drawn p'.executive (drawn h) ≡ Some action → IsObeyed meaning (Act action) p' answer p'' → answer ≢ wants_memory → MovesBytes now after (kept ++ response_text answer) left
      → IsDrawing meaning g (done + 1) p p'' (next_of h) old after left
  drawing_more done p' p'' h action answer now after kept left w draws is enough q = record {
    text = w.text ++ response_text answer;
    played = λ n more last rest.
        subst (λ t. AreDrawn meaning g (done + 1 + n) p t last) (sym (append_assoc w.text (response_text answer) more))
        (subst (λ k. AreDrawn meaning g k p (w.text ++ (response_text answer ++ more)) last) (one_later done n)
        (w.played (suc n) (response_text answer ++ more) last (taken h n p' p'' last action answer more draws is enough rest)));
    later = subst (λ k. next_of h ≡ generator_after k g) (one_after done) (ap next_of w.later);
    moved = told_more old now after w.text (response_text answer) kept left w.moved q;
  }

  pub drawing_short : (done steps : ℕ) (p' p'' : Played M S) (h : Lcg) (action : Action) (answer : Response) (now after : Option (List ℕ)) (kept : List ℕ) → done < steps
      → IsDrawing meaning g done p p' h old now kept → action_drawn p'.executive (drawn h) ≡ Some action → IsObeyed meaning (Act action) p' answer p''
      → HasTold answer now after kept → IsDrawnShort meaning g steps p old after
  drawing_short done steps p' p'' h action answer now after kept fewer w draws is out = record {
    done = done;
    fewer = fewer;
    text = w.text ++ [];
    reached = p';
    played = subst (λ k. AreDrawn meaning g k p (w.text ++ []) p') (omega arith) (w.played 0 [] p' (ended h p'));
    next = action;
    given = subst (λ later. action_drawn p'.executive (drawn later) ≡ Some action) w.later draws;
    stopped = stopped_at (Act action) p' p'' answer is (subst (HasTold answer old after) (sym (append-nil w.text)) (told_short answer old now after w.text kept w.moved out));
  }

  -- as many as there were to be
  pub drawing_done : (done steps : ℕ) (p' : Played M S) (h : Lcg) (now after : Option (List ℕ)) (kept : List ℕ) → done ≡ steps → IsDrawing meaning g done p p' h old now kept
      → Appends now after kept → IsWhollyDrawn meaning g steps p p' old after
  drawing_done done steps p' h now after kept all w out = record {
    text = w.text ++ [];
    played = subst (λ k. AreDrawn meaning g k p (w.text ++ []) p') (omega (arith, all)) (w.played 0 [] p' (ended h p'));
    written = subst (Appends old after) (w.moved.2 ∙ sym (append-nil w.text)) (appends_both old now after w.moved.0 kept w.moved.1 out);
  }

  -- there are no components
  pub drawing_idle : (done steps : ℕ) (p' : Played M S) (h : Lcg) (now after : Option (List ℕ)) (kept : List ℕ) → done ≤ steps → IsDrawing meaning g done p p' h old now kept
      → action_drawn p'.executive (drawn h) ≡ None → Appends now after kept → IsWhollyDrawn meaning g steps p p' old after
  drawing_idle done steps p' h now after kept few w none out = record {
    text = w.text ++ [];
    played = subst (λ k. AreDrawn meaning g k p (w.text ++ []) p') (omega (arith, few)) (w.played (steps - done) [] p' (idle h (steps - done) p' none));
    written = subst (Appends old after) (w.moved.2 ∙ sym (append-nil w.text)) (appends_both old now after w.moved.0 kept w.moved.1 out);
  }

written_apart : WriteFailed ≡ OutOfMemory → ⊥
written_apart e = cc e

-- a writer that failed is no want of memory
pub failed_only : {A : Type 0} (r : Result A NotWritten) (P : Type 0) → IfErr r (λ why. why ≡ WriteFailed) → IfErr r (λ why. why ≡ OutOfMemory → P)
failed_only (Ok x) P h = h
failed_only (Err e) P h = λ is. absurd (written_apart (sym h ∙ is))

-- why it was not written is passed on
pub passed_on : {A : Type 0} (r : Result A NotWritten) (given : NotWritten) (P : Type 0) → IsErrAnd r (λ why. why ≡ given) → (given ≡ OutOfMemory → P) → IfErr r (λ why. why ≡ OutOfMemory → P)
passed_on (Ok x) given P e h = tt
passed_on (Err why) given P e h = λ is. h (sym e ∙ is)
