-- A sound executive in which one process, and the mail, change.
use Rattle.std.proofs.Common.{◌≡◌, ℕ, zero, suc, ◌+◌, ◌≤◌, List, [], ◌∷◌, length, length-set, Some, sym, ◌∙◌, subst, arith, ⊎_elim}
use Rattle.std.specs.Prelude.{slice_get, slice_set, slice_index_or, ◌≢◌}
use Rattle.std.specs.List.{AllByRecursion as Each}
use Rattle.std.proofs.lemmas.Option.{same_Some, none-some}
use Rattle.tw_msgs.specs.Counting.{total, when_positive, when_anti}
use Rattle.tw_msgs.specs.declared.message.Item.{Item}
use Rattle.tw_msgs.specs.declared.message.Message.{Message}
use Rattle.tw_msgs.specs.declared.record.Record.{Record}
use Rattle.tw_vtime.specs.Stamps.{never}
use Rattle.tw_theory.specs.Balance.{issued, held}
use Rattle.tw_theory.specs.Bundles.{least_stamp, least_owed}
use Rattle.tw_theory.specs.Contents.{Process, Cancel, next}
use Rattle.tw_theory.specs.Executive.{World, mail_of, least_next, least_mail, with_process, with_mail}
use Rattle.tw_theory.specs.Network.{Network}
use Rattle.tw_theory.specs.Soundness.{IsFor, IsSoundProcess, Cancels, IsSound}
use Rattle.tw_theory.proofs.Elements.{get_of_set, each-get}
use Rattle.tw_theory.proofs.Totals.{total-set}
use Rattle.tw_laws.proofs.Cancelling.{each-set}

pub each_from_least : (g : ℕ) (items : List Item) → g ≤ least_stamp items → Each (λ i. g ≤ i.message.stamp) items
each_from_least g [] l = tt
each_from_least g (i ∷ items) l = (omega arith, each_from_least g items (omega arith))

pub least_from_each : (g : ℕ) (items : List Item) → g ≤ never → Each (λ i. g ≤ i.message.stamp) items → g ≤ least_stamp items
least_from_each g [] top h = top
least_from_each g (i ∷ items) top h = let rest = least_from_each g items top h.1 in omega (arith, h.0)

pub box_from_least : (g : ℕ) (mail : List (List Item)) (c : ℕ) → g ≤ least_mail mail → g ≤ least_stamp (mail_of mail c)
box_from_least g [] c l = l
box_from_least g (box ∷ mail) zero l = omega arith
box_from_least g (box ∷ mail) (suc c) l = box_from_least g mail c (omega arith)

pub least_mail-set : (g : ℕ) (mail : List (List Item)) (c : ℕ) (box : List Item) → g ≤ least_mail mail → g ≤ least_stamp box
    → g ≤ least_mail (slice_set mail c box)
least_mail-set g [] c box l k = l
least_mail-set g (b ∷ mail) zero box l k = omega arith
least_mail-set g (b ∷ mail) (suc c) box l k = let rest = least_mail-set g mail c box (omega arith) k in omega arith

pub process_from_least : {S : Type 0} (g : ℕ) (ps : List (Process S)) (c : ℕ) (p : Process S) → g ≤ least_next ps → slice_get ps c ≡ Some p
    → (g ≤ next p) × (g ≤ least_stamp p.outgoing) × (g ≤ least_owed p.owed)
process_from_least g [] c p l e = absurd (none-some p e)
process_from_least g (x ∷ ps) zero p l e = subst (λ y. (g ≤ next y) × (g ≤ least_stamp y.outgoing) × (g ≤ least_owed y.owed)) (same_Some x p e) (omega arith, omega arith, omega arith)
process_from_least g (x ∷ ps) (suc c) p l e = process_from_least g ps c p (omega arith) e

pub least_next-set : {S : Type 0} (g : ℕ) (ps : List (Process S)) (c : ℕ) (q : Process S) → g ≤ least_next ps → g ≤ next q
    → g ≤ least_stamp q.outgoing → g ≤ least_owed q.owed → g ≤ least_next (slice_set ps c q)
least_next-set g [] c q l a b d = l
least_next-set g (x ∷ ps) zero q l a b d = omega arith
least_next-set g (x ∷ ps) (suc c) q l a b d = let rest = least_next-set g ps c q (omega arith) a b d in omega arith

module _ {S : Type 0} (net : Network S) (until : ℕ) where
  -- another mailbox, of items for this component
  pub other_mail : (gvt c : ℕ) (column : List Record) (mail mail' : List Item) (p : Process S) → IsSoundProcess net until gvt c column mail p
      → Each (λ i. IsFor net c i.message) mail' → IsSoundProcess net until gvt c column mail' p
  other_mail gvt c column mail mail' p h m = record {
    column_is = h.column_is;
    from = h.from;
    from_is = h.from_is;
    stands = h.stands;
    sorted = h.sorted;
    within = h.within;
    apart = h.apart;
    for_inputs = h.for_inputs;
    for_waiting = h.for_waiting;
    for_mail = m;
    fit_outgoing = h.fit_outgoing;
    fit_owed = h.fit_owed;
    line_le = h.line_le;
    line_le_fault = h.line_le_fault;
  }

  -- what is asked of process q in the place of p, and of the mail
  pub record MayReplace (w : World S) (c : ℕ) (p q : Process S) (mail : List (List Item)) : Type 0 where
    pub boxes : length mail ≡ length w.mail
    pub sound : IsSoundProcess net until w.gvt c (slice_index_or w.columns c []) (mail_of mail c) q
    pub for_mail : (d : ℕ) → Each (λ i. IsFor net d i.message) (mail_of w.mail d) → Each (λ i. IsFor net d i.message) (mail_of mail d)
    pub balance : (weight : Message → ℕ)
        → issued weight q + held weight p + total (total (when_anti weight)) mail + total (total (when_positive weight)) w.mail ≡ issued weight p + held weight q + total (total (when_anti weight)) w.mail + total (total (when_positive weight)) mail
    pub cancels : (cancel : Cancel) → Cancels cancel p → Cancels cancel q
    pub next : w.gvt ≤ next q
    pub outgoing : w.gvt ≤ least_stamp q.outgoing
    pub owed : w.gvt ≤ least_owed q.owed
    pub least : w.gvt ≤ least_mail mail

  pub replaced_sound : (w : World S) (c : ℕ) (p q : Process S) (mail : List (List Item)) → IsSound net until w → slice_get w.processes c ≡ Some p
      → MayReplace w c p q mail → IsSound net until (with_mail (with_process w c q) mail)
  replaced_sound w c p q mail h at may = record {
    processes = length-set w.processes c q ∙ h.processes;
    mail = may.boxes ∙ h.mail;
    columns = h.columns;
    each = λ d r e. ⊎_elim (λ same. here d r same) (λ other. there d r other) (get_of_set w.processes c d q r e);
    cancel = h.cancel;
    cancels = each-set (Cancels h.cancel) w.processes c q (may.cancels h.cancel (each-get (Cancels h.cancel) w.processes c p at h.cancels)) h.cancels;
    balance = λ weight. omega (arith, h.balance weight, may.balance weight, total-set (issued weight) w.processes c p q at, total-set (held weight) w.processes c p q at);
    gvt_le = let a = least_next-set w.gvt w.processes c q (let g = h.gvt_le in omega arith) may.next may.outgoing may.owed in omega (arith, may.least);
  }
    where
      here : (d : ℕ) (r : Process S) → (d ≡ c) × (r ≡ q) → IsSoundProcess net until w.gvt d (slice_index_or w.columns d []) (mail_of mail d) r
      here d r same = subst (λ x. IsSoundProcess net until w.gvt x (slice_index_or w.columns x []) (mail_of mail x) r) (sym same.0) (subst (IsSoundProcess net until w.gvt c (slice_index_or w.columns c []) (mail_of mail c)) (sym same.1) may.sound)

      there : (d : ℕ) (r : Process S) → (d ≢ c) × (slice_get w.processes d ≡ Some r)
          → IsSoundProcess net until w.gvt d (slice_index_or w.columns d []) (mail_of mail d) r
      there d r other = let old = h.each d r other.1 in other_mail w.gvt d (slice_index_or w.columns d []) (mail_of w.mail d) (mail_of mail d) r old (may.for_mail d old.for_mail)
