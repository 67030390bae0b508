-- The next step of a process, as its code makes it: by the calls of tw_step on where the component stands, and on its lists.
use Rattle.std.proofs.Common.{◌≡◌, ℕ, ◌<◌, ◌≤◌, ◌+◌, List, [], ◌∷◌, ◌++◌, length, Some, Ok, sym, ap, ◌∙◌, subst, refl, append-nil, min}
use Rattle.std.specs.Prelude.{slice_get}
use Rattle.tw_atomic.specs.Atomic.{Bag, Meaning, turned, CanTurn}
use Rattle.tw_atomic.specs.declared.Turn.{Turn}
use Rattle.tw_msgs.specs.declared.message.Message.{Message}
use Rattle.tw_msgs.specs.declared.message.Item.{Item}
use Rattle.tw_msgs.specs.declared.record_kind.RecordKind.{RecordKind}
use Rattle.tw_msgs.specs.declared.record_kind.RecordKind.TheVariants.{Out}
use Rattle.tw_network.specs.Contents.{Contents, network_of}
use Rattle.tw_theory.specs.Bundles.{front, items_of, positives}
use Rattle.tw_theory.specs.Contents.{Cancel, Aggressive, Lazy, sent_out, owed_after, with_step}
use Rattle.tw_theory.specs.LocalRun.{Made, next_of, local_step, output_made, if_moved, transition_made}
use Rattle.tw_theory.specs.Network.{Network, model_of, routed}
use Rattle.tw_theory.specs.Transitions.{Moment, Move, output, transition}
use Rattle.tw_network.proofs.Places.{model_at}
use Rattle.tw_theory.proofs.Steps.{local_step_follows}
use Rattle.tw_vtime.specs.Stamps.{never, phase_of, max_microstep}
use Rattle.tw_step.specs.Steps.{IsOutput, IsTransition, Linked}
use Rattle.tw_step.specs.declared.step.Step.{Step as KeptStep}
use Rattle.tw_lists.specs.Lists.{Lists, with_room, with_all_sent, front_consumed}
use Rattle.tw_process.specs.declared.entry.Entry.{Entry}
use Rattle.tw_process.specs.History.{seen, IsKeptBy, IsKept}
use Rattle.tw_process.specs.Process.{Held, IsStepped}
use Rattle.tw_process.proofs.Installs.{installed, installing, IsRow}
use Rattle.tw_process.proofs.Made.{local_transition, is_at, output_step}
use Rattle.tw_process.proofs.Receipts.{others_kept}

-- nothing is sent
none_out : (way : Cancel) (owed : List Message) (out : List Item) → out ≡ out ++ positives (sent_out way owed [])
none_out Aggressive owed out = sym (append-nil out)
none_out Lazy owed out = sym (append-nil out)

none_after : (way : Cancel) (owed : List Message) → owed ≡ owed_after way owed []
none_after Aggressive owed = refl
none_after Lazy owed = refl

output_named : {S : Type 0} (net : Network S) (c : ℕ) (now : Moment S) (s : ℕ) → ((output net c now s).entry.stamp ≡ s) × ((output net c now s).entry.kind ≡ Out)
unfolding output
output_named net c now s = (refl, refl)

module _ {M S R : Type 0} (valid : M → S → Type 0) (meaning : M → Meaning S) (undone : M → Turn → S → ℕ → Bag → R → S) (network : Contents M) (c : ℕ) (model : M) (there : slice_get network.models c ≡ Some model)
    (small : network.micro_limit ≤ max_microstep) (stays : (tk : Turn) (state : S) (elapsed : ℕ) (bag : Bag) → CanTurn (valid model) (meaning model) tk state elapsed bag → valid model (turned (meaning model) tk state elapsed bag)) where
  pub record Stepped (before now : Moment S) (line : ℕ) (way : Cancel) (floor : ℕ) (es items : List (Entry S R)) (old new : Lists) (s : ℕ) (kind : RecordKind) : Type 0 where
    pub kept : IsKept valid meaning undone network c now floor items new
    pub stepped : IsStepped meaning (seen network c before line way floor es old) (seen network c now line way floor items new) s kind

  abbrev net : Network S
  net = network_of meaning network

  abbrev is : (s : S) → model_of net c s ≡ meaning model
  is s = model_at meaning network c model s there

  -- this entry is the next step, and the lists are those after it, with whatever room
  stepped_by : (before now : Moment S) (line : ℕ) (way : Cancel) (floor room spare : ℕ) (es items : List (Entry S R)) (e : Entry S R) (old new : Lists) (made : Made S)
      → IsKeptBy (valid model) (meaning model) (undone model) c before floor es old → IsRow net c (valid model) (meaning model) (undone model) is small stays before old e made
      → now ≡ made.after → items ≡ es ++ e ∷ [] → new ≡ with_room room spare (installing way made old)
      → Stepped before now line way floor es items old new made.step.entry.stamp made.step.entry.kind
  stepped_by before now line way floor room spare es items e old new made kept row now_is items_is new_is =
      let mid = installing way made old in
      let one = installed net c (valid model) (meaning model) (undone model) is small stays network before line way floor es old e made kept row in
      let roomy = others_kept (valid model) (meaning model) (undone model) c made.after floor (es ++ e ∷ []) mid one.kept mid.waiting mid.outgoing mid.owed room spare in
      record {
        kept = record {
          model = model;
          there = there;
          by = subst (λ (x : Type 0). x) (λ i. IsKeptBy (valid model) (meaning model) (undone model) c (sym now_is i) floor (sym items_is i) (sym new_is i)) roomy;
        };
        stepped = record {
          made = made;
          is = row.step;
          process =
              (λ i. seen network c (now_is i) line way floor (items_is i) (new_is i))
              ∙ ap (λ (h : Held M S). record h { spare = min room spare }) one.seen_is
              ∙ (λ i. record (seen network c before line way floor es old) { process = with_step (seen network c before line way floor es old).process made; spare = min (sym new_is i).room (sym new_is i).spare });
          stamp_is = refl;
          kind_is = refl;
        };
      }

  pub output_stepped : (before now : Moment S) (line : ℕ) (way : Cancel) (floor room spare count : ℕ) (es items : List (Entry S R)) (step : KeptStep S R) (ms : List Message) (old new : Lists) (s : ℕ)
      → IsKeptBy (valid model) (meaning model) (undone model) c before floor es old
      → s ≡ next_of before old.pending → s < never → phase_of s ≡ 0
      → IsOutput (meaning model) c before s step → Linked (undone model) step before.state
      → ms ≡ routed net c (s + 1) step.done.bag → count ≡ length ms → new ≡ with_room room spare (with_all_sent way ms old) → now ≡ record before { due = s + 1 }
      → items ≡ es ++ record { step = step; consumed = 0; sent = count } ∷ []
      → Stepped before now line way floor es items old new s Out
  output_stepped before now line way floor room spare count es items step ms old new s kept next top even out link ms_is count_is new_is now_is items_is =
      let made : Made S = output_made net c before old.pending s (record { entry = step.done; after = record before { due = s + 1 } }) in
      let makes = out.makes net is in
      let named = output_named net c before s in
      let stamp_is : step.done.stamp ≡ s = ap (λ (m : Move S). m.entry.stamp) (sym makes) ∙ named.0 in
      let kind_is : step.done.kind ≡ Out = ap (λ (m : Move S). m.entry.kind) (sym makes) ∙ named.1 in
      let row : IsRow net c (valid model) (meaning model) (undone model) is small stays before old (record { step = step; consumed = 0; sent = count }) made = record {
        step = output_step valid meaning undone network c model there before old.pending s step next top even out;
        done_is = refl;
        before_is = out.before_is;
        consumed_is = refl;
        sent_is = ap length (sym ms_is) ∙ sym count_is;
        link = link;
      } in
      let lists_is : new ≡ with_room room spare (installing way made old) = new_is ∙ (λ i. record old {
        consumed = sym (append-nil old.consumed) i;
        sent = old.sent ++ ms_is i;
        outgoing = old.outgoing ++ positives (sent_out way old.owed (ms_is i));
        owed = owed_after way old.owed (ms_is i);
        room = room;
        spare = spare;
      }) in
      subst (λ (x : Type 0). x) (λ i. Stepped before now line way floor es items old new (stamp_is i) (kind_is i))
      (stepped_by before now line way floor room spare es items (record { step = step; consumed = 0; sent = count }) old new made kept row now_is items_is lists_is)

  pub transition_stepped : (before now : Moment S) (line : ℕ) (way : Cancel) (floor count limit : ℕ) (es items : List (Entry S R)) (step : KeptStep S R) (bag : Bag) (old new : Lists) (s : ℕ)
      → IsKeptBy (valid model) (meaning model) (undone model) c before floor es old → limit ≡ network.micro_limit
      → s ≡ next_of before old.pending → s < never → phase_of s ≡ 1 → bag ≡ items_of (front s old.pending)
      → IsTransition (meaning model) (record { component = c; micro_limit = limit }) before s bag step now → Linked (undone model) step now.state
      → new ≡ front_consumed s old → count ≡ length (front s old.pending)
      → items ≡ es ++ record { step = step; consumed = count; sent = 0 } ∷ []
      → Stepped before now line way floor es items old new s step.done.kind
  transition_stepped before now line way floor count limit es items step bag old new s kept limit_is next top odd bag_is transit link new_is count_is items_is =
      let move : Move S = record { entry = step.done; after = now } in
      let made : Made S = transition_made before old.pending s move in
      let is_made : local_step net c before old.pending ≡ Ok made =
      local_transition net c before old.pending s next top odd ∙ ap (λ b. if_moved (transition_made before old.pending s) (transition net c before s b)) (sym bag_is)
      ∙ ap (if_moved (transition_made before old.pending s)) (transit.makes net (is_at valid meaning undone network c model there limit limit_is)) in
      let stamp_is : step.done.stamp ≡ s = (local_step_follows net c before old.pending made is_made).stamp_is ∙ sym next in
      let row : IsRow net c (valid model) (meaning model) (undone model) is small stays before old (record { step = step; consumed = count; sent = 0 }) made = record {
        step = is_made;
        done_is = refl;
        before_is = transit.before_is;
        consumed_is = sym count_is;
        sent_is = refl;
        link = link;
      } in
      let lists_is : new ≡ with_room old.room old.spare (installing way made old) = new_is ∙ (λ i. record (front_consumed s old) {
        sent = sym (append-nil old.sent) i;
        outgoing = none_out way old.owed old.outgoing i;
        owed = none_after way old.owed i;
      }) in
      subst (λ n. Stepped before now line way floor es items old new n step.done.kind) stamp_is
      (stepped_by before now line way floor old.room old.spare es items (record { step = step; consumed = count; sent = 0 }) old new made kept row refl items_is lists_is)
