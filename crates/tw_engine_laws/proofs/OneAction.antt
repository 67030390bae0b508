-- One command, obeyed by executives of two networks that are seen as one: the same answer, and the same world after it, unless one is refused
-- for want of nodes (12).
use Rattle.std.proofs.Common.{◌≡◌, ◌∙◌, ◌⊎◌, ℕ, List, ap, ap₂, arith, inl, inr, length, refl, subst, sym}
use Rattle.std.specs.Prelude.{◌≢◌, IfErr, IfOk, IfSome, Option, Some, None, Result, Ok, Err, OnErr, OnOk}
use Rattle.tw_actions.specs.declared.action.Action.{Action}
use Rattle.tw_actions.specs.declared.action.Done.{Done as Came}
use Rattle.tw_any_model.specs.AnyModel.{any_meaning}
use Rattle.tw_any_model.specs.declared.any_model.AnyModel.{AnyModel}
use Rattle.tw_any_model.specs.declared.any_model.AnyState.{AnyState}
use Rattle.tw_engine_laws.proofs.One.{AreOne}
use Rattle.tw_exec.specs.Actions.{reason}
use Rattle.tw_exec.specs.Running.{Running}
use Rattle.tw_exec.specs.declared.refused.Refused as refused
use Rattle.tw_exec.specs.declared.refused.Refused.TheVariants as why
use Rattle.tw_inspect.specs.Replies.{replied}
use Rattle.tw_inspect.specs.Reports.{describe_text, report_text}
use Rattle.tw_inspect.specs.declared.replies.Reply.TheVariants.{Refused}
use Rattle.tw_laws.specs.Couplings.{CouplingsLaw}
use Rattle.tw_network.specs.Contents.{Contents, network_of}
use Rattle.tw_play.specs.Playing.{IsDescribed, IsMarked, IsObeyed, IsRewoundTo, IsShown, Played, response_text, wants_memory}
use Rattle.tw_play.specs.declared.response.Response.{Response}
use Rattle.tw_play.specs.declared.response.Response.TheVariants.{Reply, Text}
use Rattle.tw_script.specs.declared.command.Command.{Command}
use Rattle.tw_script.specs.declared.command.Command.TheVariants.{Act, Mark, Rewind, Show, Describe}
use Rattle.tw_theory.specs.Executive as theory
use Rattle.tw_theory.specs.Executive.{Answer, World, act}
use Rattle.tw_theory.specs.Marks.{marks, rewind}

-- an executive of a network in a world, and a mark
abbrev pub running : Contents AnyModel → ℕ → World AnyState → Running AnyModel AnyState
running n until w = record { network = n; until = until; world = w }

abbrev pub played : Contents AnyModel → ℕ → World AnyState → Option (List ℕ) → Played AnyModel AnyState
played n until w mark = record { executive = running n until w; mark = mark }

-- an answer that nodes were wanting
abbrev pub IsFull : Response → Type 0
IsFull answer = answer ≡ Reply (Refused why.Full)

-- ---- an answer is the theory's, or memory or nodes were wanting

abbrev named : theory.Refusal → refused.Refused
named theory.NothingDue = why.NothingDue
named (theory.OverLimit limit) = why.OverLimit limit
named theory.NoSuch = why.NoSuch
named theory.BeforeGvt = why.BeforeGvt
named theory.Committed = why.Committed

some_one : {A : Type 0} (x y : A) → ◌≡◌ {A = Option A} (Some x) (Some y) → x ≡ y
some_one x y e = cc e

none_some : {A : Type 0} (x : A) → ◌≡◌ {A = Option A} None (Some x) → ⊥
none_some x e = cc e

ok_one : {A E : Type 0} (x y : A) → ◌≡◌ {A = Result A E} (Ok x) (Ok y) → x ≡ y
ok_one x y e = cc e

err_one : {A E : Type 0} (x y : E) → ◌≡◌ {A = Result A E} (Err x) (Err y) → x ≡ y
err_one x y e = cc e

ok_err : {A E : Type 0} (x : A) (y : E) → ◌≡◌ {A = Result A E} (Ok x) (Err y) → ⊥
ok_err x y e = cc e

named_is : (w : refused.Refused) (r : theory.Refusal) → reason w ≡ Some r → w ≡ named r
named_is why.OutOfMemory r e = absurd (none_some r e)
named_is why.Full r e = absurd (none_some r e)
named_is why.NothingDue r e = ap named (some_one theory.NothingDue r e)
named_is (why.OverLimit limit) r e = ap named (some_one (theory.OverLimit limit) r e)
named_is why.NoSuch r e = ap named (some_one theory.NoSuch r e)
named_is why.BeforeGvt r e = ap named (some_one theory.BeforeGvt r e)
named_is why.Committed r e = ap named (some_one theory.Committed r e)

reason_of : (w : refused.Refused) → (w ≡ why.OutOfMemory) ⊎ ((w ≡ why.Full) ⊎ ((r : theory.Refusal) × (reason w ≡ Some r)))
reason_of why.OutOfMemory = inl refl
reason_of why.Full = inr (inl refl)
reason_of why.NothingDue = inr (inr (theory.NothingDue, refl))
reason_of (why.OverLimit limit) = inr (inr (theory.OverLimit limit, refl))
reason_of why.NoSuch = inr (inr (theory.NoSuch, refl))
reason_of why.BeforeGvt = inr (inr (theory.BeforeGvt, refl))
reason_of why.Committed = inr (inr (theory.Committed, refl))

-- the theory's answer, as the executive says it
abbrev said : Answer → Result Came refused.Refused
said (Ok came) = Ok came
said (Err r) = Err (named r)

abbrev Enough : Result Came refused.Refused → Type 0
Enough result = Reply (replied result) ≢ wants_memory

settled : (answer : Answer) (result : Result Came refused.Refused) → IfOk result (λ came. answer ≡ Ok came) → IfErr result (λ w. IfSome (reason w) (λ r. answer ≡ Err r)) → Enough result
    → (result ≡ Err why.Full) ⊎ (result ≡ said answer)
settled answer (Ok came) is refuses enough = inr (sym (ap said is))
settled answer (Err w) is refuses enough = go (reason_of w)
  where
    go : (w ≡ why.OutOfMemory) ⊎ ((w ≡ why.Full) ⊎ ((r : theory.Refusal) × (reason w ≡ Some r)))
        → (◌≡◌ {A = Result Came refused.Refused} (Err w) (Err why.Full)) ⊎ (◌≡◌ {A = Result Came refused.Refused} (Err w) (said answer))
    go (inl memory) = absurd (enough (ap (λ (v : refused.Refused). Reply (replied (Err v))) memory))
    go (inr (inl full)) = inl (ap (λ v. Err v) full)
    go (inr (inr known)) =
        inr (ap (λ v. Err v) (named_is w known.0 known.1) ∙ sym (ap said (subst (λ o. IfSome o (λ r. answer ≡ Err r)) known.1 refuses)))

-- ---- what comes of a command

-- the same is answered, and both are in the same world, with the same mark
pub record Together (n m : Contents AnyModel) (until : ℕ) (a b : Response) (p q : Played AnyModel AnyState) : Type 0 where
  pub text : response_text a ≡ response_text b
  pub world : World AnyState
  pub mark : Option (List ℕ)
  pub left : p ≡ played n until world mark
  pub right : q ≡ played m until world mark

abbrev pub Outcome : Contents AnyModel → Contents AnyModel → ℕ → Response → Response → Played AnyModel AnyState → Played AnyModel AnyState → Type 0
Outcome n m until a b p q = IsFull a ⊎ (IsFull b ⊎ Together n m until a b p q)

same_played : (p : Played AnyModel AnyState) (e : Running AnyModel AnyState) (mark : Option (List ℕ)) → p.executive ≡ e → p.mark ≡ mark → p ≡ record { executive = e; mark = mark }
same_played p e mark is at = λ k. record { executive = is k; mark = at k }

module _ (n m : Contents AnyModel) (one : AreOne n m) (law : CouplingsLaw AnyState) (until : ℕ) where
  act_one : (w : World AnyState) (action : Action) → act (network_of any_meaning n) until w action ≡ act (network_of any_meaning m) until w action
  act_one w action = law.action (network_of any_meaning n) (network_of any_meaning m) one.alike until w action

  -- the world after it
  abbrev after_it : World AnyState → World AnyState → Result Came refused.Refused → World AnyState
  after_it then w (Ok came) = then
  after_it then w (Err why) = w

  moved : (c : Contents AnyModel) (then w : World AnyState) (result : Result Came refused.Refused) (e : Running AnyModel AnyState)
      → OnOk result (e ≡ running c until then) → OnErr result (e ≡ running c until w) → e ≡ running c until (after_it then w result)
  moved c then w (Ok came) e done stays = done
  moved c then w (Err why) e done stays = stays

  full_said : (a : Response) (result : Result Came refused.Refused) → a ≡ Reply (replied result) → result ≡ Err why.Full → IsFull a
  full_said a result is full = is ∙ ap (λ r. Reply (replied r)) full

  enough_of : (a : Response) (result : Result Came refused.Refused) → a ≡ Reply (replied result) → a ≢ wants_memory → Enough result
  enough_of a result is enough e = enough (is ∙ e)

  module _ (w : World AnyState) (mark : Option (List ℕ)) (a b : Response) (p q : Played AnyModel AnyState) where
    -- what the theory answers to an action, and the world after it
    abbrev answered : Contents AnyModel → Action → Answer
    answered c action = (act (network_of any_meaning c) until w action).0

    abbrev left_in : Contents AnyModel → Action → World AnyState
    left_in c action = (act (network_of any_meaning c) until w action).1

    replies : (r s : Result Came refused.Refused) (world : World AnyState) (after : Option (List ℕ)) → a ≡ Reply (replied r) → b ≡ Reply (replied s) → r ≡ s
        → p ≡ played n until world after → q ≡ played m until world after → Together n m until a b p q
    replies r s world after is is' same left right = record {
      text = ap response_text (is ∙ ap (λ x. Reply (replied x)) same ∙ sym is');
      world = world;
      mark = after;
      left = left;
      right = right;
    }

    acted : (action : Action) → IsObeyed any_meaning (Act action) (played n until w mark) a p → IsObeyed any_meaning (Act action) (played m until w mark) b q
        → a ≢ wants_memory → b ≢ wants_memory → Outcome n m until a b p q
    acted action o o' enough enough' =
        go (settled (answered n action) o.0 o.2.0.answer o.2.0.refused (enough_of a o.0 o.1 enough))
        (settled (answered m action) o'.0 o'.2.0.answer o'.2.0.refused (enough_of b o'.0 o'.1 enough'))
      where
        go : (o.0 ≡ Err why.Full) ⊎ (o.0 ≡ said (answered n action)) → (o'.0 ≡ Err why.Full) ⊎ (o'.0 ≡ said (answered m action)) → Outcome n m until a b p q
        go (inl full) other = inl (full_said a o.0 o.1 full)
        go (inr is) (inl full) = inr (inl (full_said b o'.0 o'.1 full))
        go (inr is) (inr is') =
            let same : o.0 ≡ o'.0 = is ∙ ap (λ x. said x.0) (act_one w action) ∙ sym is' in
            let world = after_it (left_in n action) w o.0 in
            let left = moved n (left_in n action) w o.0 p.executive o.2.0.done o.2.0.stays in
            let right = moved m (left_in m action) w o'.0 q.executive o'.2.0.done o'.2.0.stays in
            let worlds : after_it (left_in m action) w o'.0 ≡ world = ap₂ (λ t r. after_it t w r) (sym (ap (λ x. x.1) (act_one w action))) (sym same) in
            inr (inr (replies o.0 o'.0 world mark o.1 o'.1 same (same_played p (running n until world) mark left o.3)
            (same_played q (running m until world) mark (right ∙ ap (running m until) worlds) o'.3)))

    -- ---- a mark, and a rewind

    marked : IsObeyed any_meaning Mark (played n until w mark) a p → IsObeyed any_meaning Mark (played m until w mark) b q → a ≢ wants_memory → b ≢ wants_memory → Outcome n m until a b p q
    marked o o' enough enough' = go o.2 o'.2
      where
        go : IsMarked (played n until w mark) o.0 p → IsMarked (played m until w mark) o'.0 q → Outcome n m until a b p q
        go (inr short) other = absurd (enough (o.1 ∙ ap (λ r. Reply r) short.0))
        go (inl kept) (inr short) = absurd (enough' (o'.1 ∙ ap (λ r. Reply r) short.0))
        go (inl kept) (inl kept') = inr (inr (record {
          text = ap response_text (o.1 ∙ ap (λ r. Reply r) (kept.0 ∙ sym kept'.0) ∙ sym o'.1);
          world = w;
          mark = Some (marks w.processes);
          left = kept.1;
          right = kept'.1;
        }))

    -- one that is refused is refused for the theory's reason
    rewind_refused : (ss : List ℕ) (x : refused.Refused) → IfSome (reason x) (λ r. (rewind w ss).0 ≡ Err r) → reason x ≢ None → (r : theory.Refusal) × (x ≡ named r) × ((rewind w ss).0 ≡ Err r)
    rewind_refused ss x is some = go (reason_of x)
      where
        go : (x ≡ why.OutOfMemory) ⊎ ((x ≡ why.Full) ⊎ ((r : theory.Refusal) × (reason x ≡ Some r))) → (r : theory.Refusal) × (x ≡ named r) × ((rewind w ss).0 ≡ Err r)
        go (inl memory) = absurd (some (ap reason memory))
        go (inr (inl full)) = absurd (some (ap reason full))
        go (inr (inr known)) = (known.0, named_is x known.0 known.1, subst (λ o. IfSome o (λ r. (rewind w ss).0 ≡ Err r)) known.1 is)

    rewound : (r s : Result Came refused.Refused) (e e' : Running AnyModel AnyState) (mark' : Option (List ℕ)) → mark' ≡ mark
        → a ≡ Reply (replied r) → b ≡ Reply (replied s) → e ≡ p.executive → e' ≡ q.executive → p.mark ≡ mark → q.mark ≡ mark
        → IsRewoundTo mark' (running n until w) r e → IsRewoundTo mark' (running m until w) s e' → Together n m until a b p q
    rewound r s e e' None at is is' end end' kept kept' (never, stays) (never', stays') =
        replies r s w mark is is' (never ∙ sym never') (same_played p (running n until w) mark (sym end ∙ stays) kept) (same_played q (running m until w) mark (sym end' ∙ stays') kept')
    rewound (Ok came) (Ok came') e e' (Some ss) at is is' end end' kept kept' o o' =
        let worlds : e'.world ≡ e.world = ap (λ x. x.1) (sym o'.0 ∙ o.0) in
        replies (Ok came) (Ok came') e.world mark is is' (ap (λ x. Ok x) (o.1 ∙ sym o'.1)) (same_played p (running n until e.world) mark (sym end ∙ o.2) kept)
        (same_played q (running m until e.world) mark (sym end' ∙ o'.2 ∙ ap (running m until) worlds) kept')
    rewound (Ok came) (Err x) e e' (Some ss) at is is' end end' kept kept' o o' =
        let no = rewind_refused ss x o'.0 o'.1 in absurd (ok_err _ no.0 (sym (ap (λ x. x.0) o.0) ∙ no.2))
    rewound (Err x) (Ok came') e e' (Some ss) at is is' end end' kept kept' o o' =
        let no = rewind_refused ss x o.0 o.1 in absurd (ok_err _ no.0 (sym (ap (λ x. x.0) o'.0) ∙ no.2))
    rewound (Err x) (Err y) e e' (Some ss) at is is' end end' kept kept' o o' =
        let no = rewind_refused ss x o.0 o.1 in
        let no' = rewind_refused ss y o'.0 o'.1 in
        let same : x ≡ y = no.1 ∙ ap named (err_one no.0 no'.0 (sym no.2 ∙ no'.2)) ∙ sym no'.1 in
        replies (Err x) (Err y) w mark is is' (ap (λ v. Err v) same) (same_played p (running n until w) mark (sym end ∙ o.2) kept) (same_played q (running m until w) mark (sym end' ∙ o'.2) kept')

    -- ---- a text

    shown : (text text' : List ℕ) (x y : Response) → text ≡ text' → IsShown text x → IsShown text' y → x ≢ wants_memory → y ≢ wants_memory → response_text x ≡ response_text y
    shown text text' (Text t) (Text t') same is is' enough enough' = is ∙ same ∙ sym is'
    shown text text' (Text t) (Reply reply) same is is' enough enough' = absurd (enough' is')
    shown text text' (Reply reply) y same is is' enough enough' = absurd (enough is)

    unchanged : response_text a ≡ response_text b → p ≡ played n until w mark → q ≡ played m until w mark → Outcome n m until a b p q
    unchanged text left right = inr (inr (record {
      text = text;
      world = w;
      mark = mark;
      left = left;
      right = right;
    }))

    -- the texts are made of names, models and the world
    report_one : report_text any_meaning (running n until w) ≡ report_text any_meaning (running m until w)
    report_one =
        ap₂ (λ names models. report_text any_meaning (running (record n { names = names; models = models }) until w)) (sym one.same.names) (sym one.same.models)

    describe_one : (c : ℕ) → describe_text any_meaning (running n until w) c ≡ describe_text any_meaning (running m until w) c
    describe_one c =
        ap₂ (λ names models. describe_text any_meaning (running (record n { names = names; models = models }) until w) c) (sym one.same.names) (sym one.same.models)

    described : (c : ℕ) → IsDescribed any_meaning (running n until w) c a → IsDescribed any_meaning (running m until w) c b → a ≢ wants_memory → b ≢ wants_memory → response_text a ≡ response_text b
    described c (inl absent) (inl absent') enough enough' = ap response_text (absent.1 ∙ sym absent'.1)
    described c (inl absent) (inr there) enough enough' = let many = ap length one.same.models in absurd (omega (arith, many, absent.0, there.0))
    described c (inr there) (inl absent) enough enough' = let many = ap length one.same.models in absurd (omega (arith, many, absent.0, there.0))
    described c (inr there) (inr there') enough enough' = shown _ _ a b (describe_one c) there.1 there'.1 enough enough'

    pub obeyed_one : (command : Command) → IsObeyed any_meaning command (played n until w mark) a p → IsObeyed any_meaning command (played m until w mark) b q
        → a ≢ wants_memory → b ≢ wants_memory → Outcome n m until a b p q
    obeyed_one (Act action) o o' enough enough' = acted action o o' enough enough'
    obeyed_one Mark o o' enough enough' = marked o o' enough enough'
    obeyed_one Rewind o o' enough enough' =
        inr (inr (rewound o.0 o'.0 p.executive q.executive mark refl o.1 o'.1 refl refl o.3 o'.3 o.2 o'.2))
    obeyed_one Show o o' enough enough' = unchanged (shown _ _ a b report_one o.0 o'.0 enough enough') o.1 o'.1
    obeyed_one (Describe c) o o' enough enough' = unchanged (described c o.0 o'.0 enough enough') o.1 o'.1
