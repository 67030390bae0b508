-- A list of actions while it is taken: what was done of it, and what is left.
use Rattle.std.proofs.Common.{◌≡◌, ℕ, zero, suc, ◌-◌, ◌<◌, ◌≤◌, List, [], ◌∷◌, ◌++◌, length, None, Some, refl, sym, ap, subst, ◌∙◌, arith}
use Rattle.std.specs.Prelude.{slice_get, Err, IfErr, Ok, OnOk, Result}
use Rattle.std.proofs.lemmas.List.{append-nil, append_assoc}
use Rattle.tw_atomic.specs.Atomic.{Meaning}
use Rattle.tw_exec.specs.Running.{Running, after}
use Rattle.tw_laws.proofs.Passes.{replay-append}
use Rattle.tw_network.specs.Contents.{network_of}
use Rattle.tw_theory.specs.Exchange.{posts, harvests}
use Rattle.tw_theory.specs.Executive.{Action, Post, Harvest}
use Rattle.tw_theory.specs.Memory.{TakesMemory}
use Rattle.tw_exchange.specs.declared.refused.SweepRefused.{SweepRefused}
use Rattle.tw_exchange.specs.Sweeping.{IsCutShort, IsUnderWay, IsWanting, replayed}

module _ {M S : Type 0} (meaning : M → Meaning S) where
  then_replayed : (xs ys : List Action) (e : Running M S) → replayed meaning ys (replayed meaning xs e) ≡ replayed meaning (xs ++ ys) e
  then_replayed xs ys e = ap (λ w. record e { world = w }) (sym (replay-append (network_of meaning e.network) e.until e.world xs ys))

  pub begun : (all : List Action) (e : Running M S) → IsUnderWay meaning all all e e
  begun all e = record { done = []; is = refl; after = refl }

  -- what was left is itself under way
  pub within : {all left left' : List Action} {e now new : Running M S} → IsUnderWay meaning all left e now → IsUnderWay meaning left left' now new → IsUnderWay meaning all left' e new
  within {all} {left} {left'} {e} u v = record {
    done = u.done ++ v.done;
    is = append_assoc u.done v.done left' ∙ ap (λ l. u.done ++ l) v.is ∙ u.is;
    after = v.after ∙ ap (replayed meaning v.done) u.after ∙ then_replayed u.done v.done e;
  }

  -- a part of what was left is done
  pub joined : {all : List Action} {e now new : Running M S} (part left : List Action) → IsUnderWay meaning all (part ++ left) e now → new ≡ replayed meaning part now → IsUnderWay meaning all left e new
  joined part left u is = within u (record { done = part; is = refl; after = is })

  -- one action is
  pub stepped : {all : List Action} {e now new : Running M S} (action : Action) (left : List Action) → IsUnderWay meaning all (action ∷ left) e now → new ≡ after meaning action now → IsUnderWay meaning all left e new
  stepped action left u is = joined (action ∷ []) left u is

  pub finished : {all : List Action} {e now : Running M S} → IsUnderWay meaning all [] e now → now ≡ replayed meaning all e
  finished {all} {e} u = u.after ∙ ap (λ l. replayed meaning l e) (sym (append-nil u.done) ∙ u.is)

  -- the next one is refused
  pub cut : {all : List Action} {e now new : Running M S} (action : Action) (left : List Action) (why : SweepRefused) → TakesMemory action → IsUnderWay meaning all (action ∷ left) e now → new ≡ now → IsWanting meaning now action why → IsCutShort meaning all e new why
  cut action left why takes u stays wanting = record {
    done = u.done;
    next = action;
    takes = takes;
    rest = left;
    is = u.is;
    after = stays ∙ u.after;
    wanting = subst (λ x. IsWanting meaning x action why) (sym stays) wanting;
  }

  -- or one of a part
  pub cut_within : {all : List Action} {e now new : Running M S} (part left : List Action) (why : SweepRefused) → IsUnderWay meaning all (part ++ left) e now → IsCutShort meaning part now new why → IsCutShort meaning all e new why
  cut_within {all} {e} part left why u k = record {
    done = u.done ++ k.done;
    next = k.next;
    takes = k.takes;
    rest = k.rest ++ left;
    is = append_assoc u.done k.done (k.next ∷ (k.rest ++ left)) ∙ ap (λ l. u.done ++ l) (sym (append_assoc k.done (k.next ∷ k.rest) left) ∙ ap (λ l. l ++ left) k.is) ∙ u.is;
    after = k.after ∙ ap (replayed meaning k.done) u.after ∙ then_replayed u.done k.done e;
    wanting = k.wanting;
  }

  -- or one of all that was left
  pub cut_rest : {all : List Action} {e now new : Running M S} (left : List Action) (why : SweepRefused) → IsUnderWay meaning all left e now → IsCutShort meaning left now new why → IsCutShort meaning all e new why
  cut_rest {all} {e} {now} left why u k = cut_within left [] why (subst (λ l. IsUnderWay meaning all l e now) (sym (append-nil left)) u) k

  -- all that was left is done
  pub done_rest : {all : List Action} {e now new : Running M S} (left : List Action) → IsUnderWay meaning all left e now → new ≡ replayed meaning left now → new ≡ replayed meaning all e
  done_rest {all} {e} {now} left u is = finished (joined left [] (subst (λ l. IsUnderWay meaning all l e now) (sym (append-nil left)) u) is)

  -- the network and the end of the run stay
  pub same_network : {all left : List Action} {e now : Running M S} → IsUnderWay meaning all left e now → now.network ≡ e.network
  same_network u = ap (λ x. x.network) u.after

-- one of each component, from c on
pub next_post : (c n : ℕ) → c < n → posts c (n - c) ≡ Post c ∷ posts (suc c) (n - suc c)
next_post c n near = ap (posts c) (more c n near)
  where
    more : (c n : ℕ) → c < n → n - c ≡ suc (n - suc c)
    more c n near = omega (arith, near)

pub no_post : (c n : ℕ) → n ≤ c → posts c (n - c) ≡ []
no_post c n past = ap (posts c) (none c n past)
  where
    none : (c n : ℕ) → n ≤ c → n - c ≡ zero
    none c n past = omega (arith, past)

pub next_harvest : (c n : ℕ) → c < n → harvests c (n - c) ≡ Harvest c ∷ harvests (suc c) (n - suc c)
next_harvest c n near = ap (harvests c) (more c n near)
  where
    more : (c n : ℕ) → c < n → n - c ≡ suc (n - suc c)
    more c n near = omega (arith, near)

pub no_harvest : (c n : ℕ) → n ≤ c → harvests c (n - c) ≡ []
no_harvest c n past = ap (harvests c) (none c n past)
  where
    none : (c n : ℕ) → n ≤ c → n - c ≡ zero
    none c n past = omega (arith, past)

-- the first of a list, if there is one
pub first_there : {X : Type 0} (xs : List X) → 0 < length xs → (x : X) × (slice_get xs 0 ≡ Some x)
first_there [] some = absurd (omega (arith, some))
first_there (x ∷ xs) some = (x, refl)

pub none_there : {X : Type 0} (xs : List X) → length xs ≡ 0 → slice_get xs 0 ≡ None
none_there [] none = refl
none_there (x ∷ xs) none = absurd (omega (arith, none))

-- done or cut short, the network stays
pub still_network : {M S X : Type 0} (meaning : M → Meaning S) (all : List Action) (e e' : Running M S) (result : Result X SweepRefused) → OnOk result (e' ≡ replayed meaning all e) → IfErr result (IsCutShort meaning all e e') → e'.network ≡ e.network
still_network meaning all e e' (Ok x) done cut = ap (λ y. y.network) done
still_network meaning all e e' (Err why) done cut = ap (λ y. y.network) cut.after

-- and what was done is a beginning of it, or all of it
pub done_of : {M S X : Type 0} (meaning : M → Meaning S) (all : List Action) (e e' : Running M S) (result : Result X SweepRefused) → OnOk result (e' ≡ replayed meaning all e) → IfErr result (IsCutShort meaning all e e') → (done : List Action) × (e' ≡ replayed meaning done e)
done_of meaning all e e' (Ok x) done cut = (all, done)
done_of meaning all e e' (Err why) done cut = (cut.done, cut.after)
