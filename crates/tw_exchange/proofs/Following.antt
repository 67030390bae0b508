-- How the agenda follows the executive: an action changes no process but its component's, and a component that is put under its next stamp stands as it should.
use Rattle.std.proofs.Common.{◌≡◌, ◌≢◌, ◌⊎◌, ℕ, zero, suc, ◌+◌, ◌<◌, ◌≤◌, Bool, true, false, List, [], ◌∷◌, length, Option, None, Some, refl, sym, ap, subst, ◌∙◌, inl, inr, arith}
use Rattle.std.specs.Prelude.{nat_lt, replicate, slice_get, slice_set, Result, Ok, Err}
use Rattle.std.proofs.lemmas.Bool.{cases_eq, cases_lt, cond_both}
use Rattle.std.proofs.lemmas.List.{length-map, length-set, map-set}
use Rattle.std.proofs.lemmas.Option.{none-some, same_Some, slice_get_past, slice_get_within}
use Rattle.tw_laws.proofs.Inverse.{set_there}
use Rattle.tw_laws.specs.Chains.{steps_of_one}
use Rattle.tw_msgs.specs.declared.message.Item.{Item}
use Rattle.tw_theory.specs.Contents.{Process, next, settle, with_outgoing, with_step, cut, receive, harvested}
use Rattle.tw_theory.specs.Executive.{World, Action, Step, Post, Deliver, Back, Raise, Harvest, Answer, NothingDue, BeforeGvt, act, act_step, act_post, act_deliver, act_back, act_harvest, if_made, replay, mail_of}
use Rattle.tw_theory.specs.LocalRun.{Made, NoStep, local_step}
use Rattle.tw_theory.specs.Memory.{component_of}
use Rattle.tw_theory.specs.Network.{Network}
use Rattle.tw_vtime.specs.Stamps.{stamp}
use Rattle.tw_exchange.specs.Exchanged.{IsExact, IsExactBut, IsExactUpTo, busy_in, is_out}
use Rattle.tw_exchange.proofs.SameBut.{nothing_else, one_set, then_same}
use Rattle.tw_exchange.specs.Queues.{IsSameBut}

-- ## What an action changes

module _ {S : Type 0} (net : Network S) (until : ℕ) (w : World S) where
  if_made_same : (c : ℕ) (p : Process S) (next : Result (Made S) NoStep) → IsSameBut c w.processes (if_made w c p next).1.processes
  if_made_same c p (Ok made) = one_set c w.processes (with_step p made)
  if_made_same c p (Err why) = nothing_else c w.processes

  step_same : (c : ℕ) (p : Option (Process S)) → IsSameBut c w.processes (act_step net until w c p).1.processes
  step_same c None = nothing_else c w.processes
  step_same c (Some p) =
      let late : Answer × World S = (Err NothingDue, w) in
      cond_both (nat_lt (next p) (stamp until 0 0)) (if_made w c p (local_step net c p.now p.pending)) late (λ x. IsSameBut c w.processes x.1.processes)
      (λ e. if_made_same c p (local_step net c p.now p.pending)) (λ e. nothing_else c w.processes)

  post_same : (c : ℕ) (p : Option (Process S)) → IsSameBut c w.processes (act_post w c p).1.processes
  post_same c None = nothing_else c w.processes
  post_same c (Some p) = one_set c w.processes (with_outgoing (settle p) [])

  deliver_same : (q i : ℕ) (p : Option (Process S)) (item : Option Item) → IsSameBut q w.processes (act_deliver w q i p item).1.processes
  deliver_same q i None item = nothing_else q w.processes
  deliver_same q i (Some p) None = nothing_else q w.processes
  deliver_same q i (Some p) (Some item) = one_set q w.processes (receive p item).1

  back_same : (c s : ℕ) (p : Option (Process S)) → IsSameBut c w.processes (act_back w c s p).1.processes
  back_same c s None = nothing_else c w.processes
  back_same c s (Some p) =
      let early : Answer × World S = (Err BeforeGvt, w) in
      let done : Answer × World S = act_back w c s (Some p) in
      cond_both (nat_lt s w.gvt) early _ (λ x. IsSameBut c w.processes x.1.processes) (λ e. nothing_else c w.processes) (λ e. one_set c w.processes (cut s p))

  harvest_same : (c : ℕ) (p : Option (Process S)) → IsSameBut c w.processes (act_harvest w c p).1.processes
  harvest_same c None = nothing_else c w.processes
  harvest_same c (Some p) = one_set c w.processes (harvested w.gvt p)

  pub acts_on_one : (action : Action) (c : ℕ) → component_of action ≡ Some c → IsSameBut c w.processes (act net until w action).1.processes
  unfolding act
  acts_on_one (Step b) c is = subst (λ x. IsSameBut x w.processes (act_step net until w b (slice_get w.processes b)).1.processes) (same_Some b c is) (step_same b (slice_get w.processes b))
  acts_on_one (Post b) c is = subst (λ x. IsSameBut x w.processes (act_post w b (slice_get w.processes b)).1.processes) (same_Some b c is) (post_same b (slice_get w.processes b))
  acts_on_one (Deliver b i) c is = subst (λ x. IsSameBut x w.processes (act_deliver w b i (slice_get w.processes b) (slice_get (mail_of w.mail b) i)).1.processes) (same_Some b c is) (deliver_same b i (slice_get w.processes b) (slice_get (mail_of w.mail b) i))
  acts_on_one (Back b s) c is = subst (λ x. IsSameBut x w.processes (act_back w b s (slice_get w.processes b)).1.processes) (same_Some b c is) (back_same b s (slice_get w.processes b))
  acts_on_one Raise c is = absurd (none-some c is)
  acts_on_one (Harvest b) c is = subst (λ x. IsSameBut x w.processes (act_harvest w b (slice_get w.processes b)).1.processes) (same_Some b c is) (harvest_same b (slice_get w.processes b))

  pub acts_on_none : (action : Action) → component_of action ≡ None → (act net until w action).1.processes ≡ w.processes
  unfolding act
  acts_on_none (Step b) is = absurd (none-some b (sym is))
  acts_on_none (Post b) is = absurd (none-some b (sym is))
  acts_on_none (Deliver b i) is = absurd (none-some b (sym is))
  acts_on_none (Back b s) is = absurd (none-some b (sym is))
  acts_on_none Raise is = refl
  acts_on_none (Harvest b) is = absurd (none-some b (sym is))

pub steps_on_one : {S : Type 0} (net : Network S) (until : ℕ) (w : World S) (c n : ℕ) → IsSameBut c w.processes (replay net until w (steps_of_one c n)).processes
steps_on_one net until w c zero = nothing_else c w.processes
steps_on_one net until w c (suc n) =
    let w1 = (act net until w (Step c)).1 in
    then_same c w.processes w1.processes _ (acts_on_one net until w (Step c) c refl) (steps_on_one net until w1 c n)

-- ## What the agenda has of them

pub exact_but : {S : Type 0} (stamps : List (Option ℕ)) (ps qs : List (Process S)) (b : ℕ) → IsExact stamps ps → IsSameBut b ps qs → IsExactBut b stamps qs
exact_but stamps ps qs b h same = record {
  count = h.count ∙ sym same.count;
  next_is = λ c s p apart at there. h.next_is c s p at (sym (same.others c apart) ∙ there);
}

pub exact_all_but : {S : Type 0} (stamps : List (Option ℕ)) (ps : List (Process S)) (b : ℕ) → IsExact stamps ps → IsExactBut b stamps ps
exact_all_but stamps ps b h = exact_but stamps ps ps b h (nothing_else b ps)

-- one under its next stamp, or given out
changed_at : (stamps : List (Option ℕ)) (b : ℕ) (here : Option ℕ) (c s : ℕ) → slice_get (slice_set stamps b here) c ≡ Some (Some s) → (c ≡ b) ⊎ ((c ≢ b) × (slice_get stamps c ≡ Some (Some s)))
changed_at stamps b here c s at = elim (cases_eq c b) [
  | inl same ↦ inl same
  | inr apart ↦ inr (apart, sym (set_there stamps b c here apart) ∙ at)
]

own_at : (stamps : List (Option ℕ)) (b : ℕ) (here : Option ℕ) (s : ℕ) → slice_get (slice_set stamps b here) b ≡ Some (Some s) → here ≡ Some s
own_at [] b here s at = absurd (none-some _ at)
own_at (x ∷ stamps) zero here s at = same_Some _ _ at
own_at (x ∷ stamps) (suc b) here s at = own_at stamps b here s at

pub exact_put : {S : Type 0} (stamps : List (Option ℕ)) (ps : List (Process S)) (b t : ℕ) (p : Process S) → IsExactBut b stamps ps → slice_get ps b ≡ Some p → t ≡ next p → IsExact (slice_set stamps b (Some t)) ps
exact_put stamps ps b t p h there is = record {
  count = length-set stamps b (Some t) ∙ h.count;
  next_is = λ c s q at here. elim (changed_at stamps b (Some t) c s at) [
    | inl same ↦
        let own = own_at stamps b (Some t) s (subst (λ x. slice_get (slice_set stamps b (Some t)) x ≡ Some (Some s)) same at) in
        sym (same_Some t s own) ∙ is ∙ ap next (same_Some p q (sym there ∙ ap (slice_get ps) (sym same) ∙ here))
    | inr o ↦ h.next_is c s q o.0 o.1 here
  ];
}

pub exact_out : {S : Type 0} (stamps : List (Option ℕ)) (ps : List (Process S)) (b : ℕ) → IsExact stamps ps → IsExact (slice_set stamps b None) ps
exact_out stamps ps b h = record {
  count = length-set stamps b None ∙ h.count;
  next_is = λ c s q at here. elim (changed_at stamps b None c s at) [
    | inl same ↦ absurd (none-some s (own_at stamps b None s (subst (λ x. slice_get (slice_set stamps b None) x ≡ Some (Some s)) same at)))
    | inr o ↦ h.next_is c s q o.1 here
  ];
}

-- one that is given out, or not there, needs no stamp
pub exact_without : {S : Type 0} (stamps : List (Option ℕ)) (ps : List (Process S)) (b : ℕ) → IsExactBut b stamps ps → ((s : ℕ) → slice_get stamps b ≡ Some (Some s) → ⊥) → IsExact stamps ps
exact_without stamps ps b h none = record {
  count = h.count;
  next_is = λ c s q at here. elim (cases_eq c b) [
    | inl same ↦ absurd (none s (ap (slice_get stamps) (sym same) ∙ at))
    | inr apart ↦ h.next_is c s q apart at here
  ];
}

pub not_past : (stamps : List (Option ℕ)) (b : ℕ) → length stamps ≤ b → (s : ℕ) → slice_get stamps b ≡ Some (Some s) → ⊥
not_past stamps b past s at = none-some _ (sym (slice_get_past stamps b past) ∙ at)

pub not_out : (stamps : List (Option ℕ)) (b : ℕ) → slice_get stamps b ≡ Some None → (s : ℕ) → slice_get stamps b ≡ Some (Some s) → ⊥
not_out stamps b out s at = none-some s (same_Some None (Some s) (sym out ∙ at))

-- ## Which are given out

pub busy_put : (stamps : List (Option ℕ)) (b t : ℕ) → busy_in (slice_set stamps b (Some t)) ≡ slice_set (busy_in stamps) b false
busy_put stamps b t = map-set is_out stamps b (Some t)

pub busy_out : (stamps : List (Option ℕ)) (b : ℕ) → busy_in (slice_set stamps b None) ≡ slice_set (busy_in stamps) b true
busy_out stamps b = map-set is_out stamps b None

-- what is free already is free again
pub busy_again : (stamps : List (Option ℕ)) (b : ℕ) → b < length stamps → (slice_get stamps b ≡ Some None → ⊥) → slice_set (busy_in stamps) b false ≡ busy_in stamps
busy_again [] b near free = refl
busy_again (None ∷ stamps) zero near free = absurd (free refl)
busy_again (Some s ∷ stamps) zero near free = refl
busy_again (x ∷ stamps) (suc b) near free = ap (λ l. is_out x ∷ l) (busy_again stamps b (omega (arith, near)) free)

-- ## All of them, one after another

pub up_to_none : {S : Type 0} (stamps : List (Option ℕ)) (ps : List (Process S)) → length stamps ≡ length ps → IsExactUpTo 0 stamps ps
up_to_none stamps ps count = record { count = count; next_is = λ c s p near at here. absurd (omega (arith, near)) }

pub up_to_all : {S : Type 0} (n : ℕ) (stamps : List (Option ℕ)) (ps : List (Process S)) → length stamps ≤ n → IsExactUpTo n stamps ps → IsExact stamps ps
up_to_all n stamps ps all h = record {
  count = h.count;
  next_is = λ c s p at here. let near = slice_get_within stamps c (Some s) at in h.next_is c s p (omega (arith, near, all)) at here;
}

-- one more is put under its next stamp
pub up_to_put : {S : Type 0} (n t : ℕ) (stamps : List (Option ℕ)) (ps : List (Process S)) (p : Process S) → IsExactUpTo n stamps ps → slice_get ps n ≡ Some p → t ≡ next p → IsExactUpTo (n + 1) (slice_set stamps n (Some t)) ps
up_to_put n t stamps ps p h there is = record {
  count = length-set stamps n (Some t) ∙ h.count;
  next_is = λ c s q near at here. elim (changed_at stamps n (Some t) c s at) [
    | inl same ↦
        let own = own_at stamps n (Some t) s (subst (λ x. slice_get (slice_set stamps n (Some t)) x ≡ Some (Some s)) same at) in
        sym (same_Some t s own) ∙ is ∙ ap next (same_Some p q (sym there ∙ ap (slice_get ps) (sym same) ∙ here))
    | inr o ↦ h.next_is c s q (below n c near o.0) o.1 here
  ];
}
  where
    below : (n c : ℕ) → c < n + 1 → c ≢ n → c < n
    below n c near apart = elim (cases_lt c n) [
      | inl less ↦ less
      | inr more ↦ absurd (apart (omega (arith, near, more)))
    ]

-- or is given out
pub up_to_out : {S : Type 0} (n : ℕ) (stamps : List (Option ℕ)) (ps : List (Process S)) → IsExactUpTo n stamps ps → slice_get stamps n ≡ Some None → IsExactUpTo (n + 1) stamps ps
up_to_out n stamps ps h out = record {
  count = h.count;
  next_is = λ c s q near at here. elim (cases_eq c n) [
    | inl same ↦ absurd (not_out stamps n out s (ap (slice_get stamps) (sym same) ∙ at))
    | inr apart ↦ h.next_is c s q (elim (cases_lt c n) [
      | inl less ↦ less
      | inr more ↦ absurd (apart (omega (arith, near, more)))
    ]) at here
  ];
}

-- the first n are free
abbrev pub AreFree : ℕ → List (Option ℕ) → Type 0
AreFree n stamps = (d : ℕ) → d < n → slice_get (busy_in stamps) d ≡ Some false

pub free_none : (stamps : List (Option ℕ)) → AreFree 0 stamps
free_none stamps d near = absurd (omega (arith, near))

pub free_more : (n t : ℕ) (stamps : List (Option ℕ)) → n < length stamps → AreFree n stamps → AreFree (n + 1) (slice_set stamps n (Some t))
free_more n t stamps within h d near = ap (λ l. slice_get l d) (busy_put stamps n t) ∙ elim (cases_eq d n) [
  | inl same ↦ ap (slice_get (slice_set (busy_in stamps) n false)) same ∙ here (busy_in stamps) n (omega (arith, length-map stamps is_out, within))
  | inr apart ↦ set_there (busy_in stamps) n d false apart ∙ h d (elim (cases_lt d n) [
    | inl less ↦ less
    | inr more ↦ absurd (apart (omega (arith, near, more)))
  ])
]
  where
    here : (bs : List Bool) (n : ℕ) → n < length bs → slice_get (slice_set bs n false) n ≡ Some false
    here [] n near = absurd (omega (arith, near))
    here (b ∷ bs) zero near = refl
    here (b ∷ bs) (suc n) near = here bs n (omega (arith, near))

all_false : (bs : List Bool) → ((d : ℕ) → d < length bs → slice_get bs d ≡ Some false) → bs ≡ replicate (length bs) false
all_false [] all = refl
all_false (b ∷ bs) all = (λ i. same_Some b false (all 0 (omega arith)) i ∷ all_false bs (λ d near. all (suc d) (omega (arith, near))) i)

pub free_all : (n : ℕ) (stamps : List (Option ℕ)) → length stamps ≡ n → AreFree n stamps → busy_in stamps ≡ replicate n false
free_all n stamps count h =
    let long : length (busy_in stamps) ≡ n = length-map stamps is_out ∙ count in
    all_false (busy_in stamps) (λ d near. h d (omega (arith, near, long))) ∙ ap (λ k. replicate k false) long
