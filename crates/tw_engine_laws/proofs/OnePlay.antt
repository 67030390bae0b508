-- Two plays of one script, or of one seed, by executives of two networks that are seen as one.
use Rattle.std.proofs.Common.{◌≡◌, ◌∙◌, ◌⊎◌, ◌++◌, [], ℕ, List, ap, ap₂, append_assoc, inl, inr, refl, subst, sym}
use Rattle.std.specs.Prelude.{◌≢◌, Option, Some, None}
use Rattle.rand_pcg.specs.Lcg.{Lcg}
use Rattle.tw_actions.specs.declared.action.Action.{Action}
use Rattle.tw_any_model.specs.AnyModel.{any_meaning}
use Rattle.tw_any_model.specs.declared.any_model.AnyModel.{AnyModel}
use Rattle.tw_any_model.specs.declared.any_model.AnyState.{AnyState}
use Rattle.tw_engine.specs.Plays.{committed_text, first}
use Rattle.tw_engine.specs.Runs.{name_in}
use Rattle.tw_engine_laws.proofs.One.{AreOne}
use Rattle.tw_engine_laws.proofs.OneAction.{IsFull, Outcome, Together, obeyed_one, played, running}
use Rattle.tw_engine_laws.specs.OneText.{HasFullLine, full_line}
use Rattle.tw_laws.specs.Couplings.{CouplingsLaw}
use Rattle.tw_network.specs.Contents.{Contents, network_of}
use Rattle.tw_play.specs.Playing.{AreDrawn, ArePlayed, IsObeyed, Played, ended, idle, nothing, obeyed, response_text, taken, wants_memory}
use Rattle.tw_play.specs.declared.response.Response.{Response}
use Rattle.tw_script.specs.declared.command.Command.{Command}
use Rattle.tw_script.specs.declared.command.Command.TheVariants.{Act}
use Rattle.tw_seeded.specs.Schedules.{Words, action_drawn, after as next_of, drawn}
use Rattle.tw_texts.specs.Texts.{trace_text}
use Rattle.tw_theory.specs.Contents.{Cancel}
use Rattle.tw_theory.specs.Executive.{World}
use Rattle.tw_theory.specs.Simulator.{Run}
use Rattle.tw_theory.specs.Soundness.{new_world}
use Rattle.tw_theory.specs.Traces.{before, least_line}

-- ---- a line that nodes were wanting

full_here : (a : Response) (rest : List ℕ) → IsFull a → HasFullLine (response_text a ++ rest)
full_here a rest is = ([], rest, ap (λ r. response_text r ++ rest) is)

full_later : (a : Response) (rest : List ℕ) → HasFullLine rest → HasFullLine (response_text a ++ rest)
full_later a rest h = (response_text a ++ h.0, h.1, ap (λ t. response_text a ++ t) h.2 ∙ sym (append_assoc (response_text a) h.0 (full_line ++ h.1)))

pub full_before : (rest text : List ℕ) → HasFullLine text → HasFullLine (text ++ rest)
full_before rest text h =
    (h.0, h.1 ++ rest, ap (λ t. t ++ rest) h.2 ∙ append_assoc h.0 (full_line ++ h.1) rest ∙ ap (λ t. h.0 ++ t) (append_assoc full_line h.1 rest))

-- ---- what comes of all commands

module _ (n m : Contents AnyModel) (one : AreOne n m) (law : CouplingsLaw AnyState) (until : ℕ) where
  -- both in the same world, with the same mark
  pub record Beside (p q : Played AnyModel AnyState) : Type 0 where
    pub world : World AnyState
    pub mark : Option (List ℕ)
    pub left : p ≡ played n until world mark
    pub right : q ≡ played m until world mark

  abbrev Ended : List ℕ → List ℕ → Played AnyModel AnyState → Played AnyModel AnyState → Type 0
  Ended text text' p q = HasFullLine text ⊎ (HasFullLine text' ⊎ ((text ≡ text') × Beside p q))

  still : (p q : Played AnyModel AnyState) → Beside p q → Ended [] [] p q
  still p q at = inr (inr (refl, at))

  step : (command : Command) (p q p' q' : Played AnyModel AnyState) (a b : Response) → Beside p q → IsObeyed any_meaning command p a p' → IsObeyed any_meaning command q b q'
      → a ≢ wants_memory → b ≢ wants_memory → Outcome n m until a b p' q'
  step command p q p' q' a b at is is' enough enough' =
      obeyed_one n m one law until at.world at.mark a b p' q' command (subst (λ x. IsObeyed any_meaning command x a p') at.left is)
      (subst (λ x. IsObeyed any_meaning command x b q') at.right is') enough enough'

  beside : (a b : Response) (p q : Played AnyModel AnyState) → Together n m until a b p q → Beside p q
  beside a b p q t = record {
    world = t.world;
    mark = t.mark;
    left = t.left;
    right = t.right;
  }

  -- one answer more at the front
  joined : (a b : Response) (rest rest' : List ℕ) (p q last last' : Played AnyModel AnyState) → Outcome n m until a b p q → (Beside p q → Ended rest rest' last last')
      → Ended (response_text a ++ rest) (response_text b ++ rest') last last'
  joined a b rest rest' p q last last' (inl full) more = inl (full_here a rest full)
  joined a b rest rest' p q last last' (inr (inl full)) more = inr (inl (full_here b rest' full))
  joined a b rest rest' p q last last' (inr (inr t)) more = go (more (beside a b p q t))
    where
      go : Ended rest rest' last last' → Ended (response_text a ++ rest) (response_text b ++ rest') last last'
      go (inl full) = inl (full_later a rest full)
      go (inr (inl full)) = inr (inl (full_later b rest' full))
      go (inr (inr same)) = inr (inr (ap₂ (λ x y. x ++ y) t.text same.0, same.1))

  plays : (commands : List Command) (p q p' q' : Played AnyModel AnyState) (text text' : List ℕ) → ArePlayed any_meaning commands p text p' → ArePlayed any_meaning commands q text' q'
      → Beside p q → Ended text text' p' q'
  plays commands p q p' q' text text' (nothing p0) (nothing q0) at = still p q at
  plays commands p q p' q' text text' (obeyed command rest p0 p1 p2 a more is enough played) (obeyed command' rest' q0 q1 q2 b more' is' enough' played') at =
      joined a b more more' p1 q1 p' q' (step command p q p1 q1 a b at is is' enough enough') (plays rest p1 q1 p' q' more more' played played')

  -- ---- actions that a generator gives

  drawn_one : (w : World AnyState) (mark : Option (List ℕ)) (words : Words) → action_drawn (running n until w) words ≡ action_drawn (running m until w) words
  drawn_one w mark words = ap (λ models. action_drawn (running (record n { models = models }) until w) words) (sym one.same.models)

  given_one : (g : Lcg) (p q : Played AnyModel AnyState) → Beside p q → action_drawn p.executive (drawn g) ≡ action_drawn q.executive (drawn g)
  given_one g p q at =
      ap (λ (x : Played AnyModel AnyState). action_drawn x.executive (drawn g)) at.left ∙ drawn_one at.world at.mark (drawn g)
      ∙ sym (ap (λ (x : Played AnyModel AnyState). action_drawn x.executive (drawn g)) at.right)

  none_some : (x : Action) → ◌≡◌ {A = Option Action} None (Some x) → ⊥
  none_some x e = cc e

  some_one : (x y : Action) → ◌≡◌ {A = Option Action} (Some x) (Some y) → x ≡ y
  some_one x y e = cc e

  draws : (g : Lcg) (k : ℕ) (p q p' q' : Played AnyModel AnyState) (text text' : List ℕ) → AreDrawn any_meaning g k p text p' → AreDrawn any_meaning g k q text' q'
      → Beside p q → Ended text text' p' q'
  draws g k p q p' q' text text' (ended g0 p0) (ended g1 q0) at = still p q at
  draws g k p q p' q' text text' (ended g0 p0) (idle g1 k1 q0 none) at = still p q at
  draws g k p q p' q' text text' (idle g0 k0 p0 none) (ended g1 q0) at = still p q at
  draws g k p q p' q' text text' (idle g0 k0 p0 none) (idle g1 k1 q0 none') at = still p q at
  draws g k p q p' q' text text' (idle g0 k0 p0 none) (taken g1 k1 q0 q1 q2 action b more given is enough drew) at =
      absurd (none_some action (sym none ∙ given_one g p q at ∙ given))
  draws g k p q p' q' text text' (taken g0 k0 p0 p1 p2 action a more given is enough drew) (idle g1 k1 q0 none) at =
      absurd (none_some action (sym none ∙ sym (given_one g p q at) ∙ given))
  draws g k p q p' q' text text' (taken g0 k0 p0 p1 p2 action a more given is enough drew) (taken g1 k1 q0 q1 q2 action' b more' given' is' enough' drew') at =
      let same : action' ≡ action = some_one action' action (sym given' ∙ sym (given_one g p q at) ∙ given) in
      joined a b more more' p1 q1 p' q' (step (Act action) p q p1 q1 a b at is (subst (λ x. IsObeyed any_meaning (Act x) q b q1) same is') enough enough')
      (draws (next_of g) k0 p1 q1 p' q' more more' drew drew')

  -- ---- from the start on

  starts : (way : Cancel) → Beside (first n way until) (first m way until)
  starts way = record {
    world = new_world (network_of any_meaning n) way;
    mark = None;
    left = refl;
    right = ap (λ w. played m until w None) (sym (law.start (network_of any_meaning n) (network_of any_meaning m) one.alike way));
  }

  -- the trace at the end
  traces : (p q : Played AnyModel AnyState) → Beside p q → committed_text p.executive ≡ committed_text q.executive
  traces p q at =
      ap (λ (x : Played AnyModel AnyState). committed_text x.executive) at.left
      ∙ ap₂ (λ names (r : Run AnyState). trace_text (name_in names) (before (least_line at.world.processes) r.records)) (sym one.same.names) (one.run until)
      ∙ sym (ap (λ (x : Played AnyModel AnyState). committed_text x.executive) at.right)

  pub play_one : (way : Cancel) (commands : List Command) (p q : Played AnyModel AnyState) (text text' : List ℕ) → ArePlayed any_meaning commands (first n way until) text p
      → ArePlayed any_meaning commands (first m way until) text' q → HasFullLine text ⊎ (HasFullLine text' ⊎ (text ++ committed_text p.executive ≡ text' ++ committed_text q.executive))
  play_one way commands p q text text' is is' = go (plays commands (first n way until) (first m way until) p q text text' is is' (starts way))
    where
      go : Ended text text' p q → HasFullLine text ⊎ (HasFullLine text' ⊎ (text ++ committed_text p.executive ≡ text' ++ committed_text q.executive))
      go (inl full) = inl full
      go (inr (inl full)) = inr (inl full)
      go (inr (inr same)) = inr (inr (ap₂ (λ x y. x ++ y) same.0 (traces p q same.1)))

  pub draw_one : (way : Cancel) (g : Lcg) (k : ℕ) (p q : Played AnyModel AnyState) (text text' : List ℕ) → AreDrawn any_meaning g k (first n way until) text p
      → AreDrawn any_meaning g k (first m way until) text' q → HasFullLine text ⊎ (HasFullLine text' ⊎ (text ++ committed_text p.executive ≡ text' ++ committed_text q.executive))
  draw_one way g k p q text text' is is' = go (draws g k (first n way until) (first m way until) p q text text' is is' (starts way))
    where
      go : Ended text text' p q → HasFullLine text ⊎ (HasFullLine text' ⊎ (text ++ committed_text p.executive ≡ text' ++ committed_text q.executive))
      go (inl full) = inl full
      go (inr (inl full)) = inr (inl full)
      go (inr (inr same)) = inr (inr (ap₂ (λ x y. x ++ y) same.0 (traces p q same.1)))
