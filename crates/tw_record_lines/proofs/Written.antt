-- Lines that are written round by round: of a trace, and of a table.
use Rattle.std.proofs.Common.{◌≡◌, ◌++◌, ◌∙◌, ℕ, List, [], ◌∷◌, sym, ap, subst, append_assoc, append-nil}
use Rattle.std.specs.Prelude.{Bool, Option, map, nat_le}
use Rattle.std.proofs.lemmas.List.Elements.{filter-append}
use Rattle.std.specs.Io.KnownBytes.{Appends}
use Rattle.std.proofs.lemmas.Grind.{flat_map-append}
use Rattle.tw_msgs.specs.declared.record.Record.{Record}
use Rattle.tw_rounds.specs.Receiving.{Receives}
use Rattle.tw_texts.specs.Texts.{record_line, trace_text}
use Rattle.tw_texts.specs.Traces.{AppendsBeginning, MovesBytes}
use Rattle.tw_texts.proofs.Portions.{appends_both}
use Rattle.tw_record_lines.specs.Fields.{Field, field}
use Rattle.tw_record_lines.specs.declared.fields.Column.{Column}
use Rattle.tw_record_lines.specs.Tables.{head_text, listed, row_text, rows_text, table_text}
use Rattle.tw_figures.specs.Figures.{from_on}
use Rattle.tw_figures.specs.Shown.{is_shown, of_shown}
use Rattle.tw_figures.specs.declared.seeing.Rows.{Rows}
use Rattle.tw_vtime.specs.Stamps.{tick_of}

-- ---- the lines of a trace

pub trace_more : (name_of : ℕ → List ℕ) (xs ys : List Record) → trace_text name_of (xs ++ ys) ≡ trace_text name_of xs ++ trace_text name_of ys
trace_more name_of xs ys = flat_map-append (λ r. record_line (name_of r.component) r) xs ys

-- lines that got records have their text at the end
pub traced : {V N : Type 0} (names : V → N) (text : V → List ℕ) (name_of : N → ℕ → List ℕ) (old : V) (records : List Record) (new : V)
    → Receives (λ a r b. (names b ≡ names a) × (text b ≡ text a ++ record_line (name_of (names a) r.component) r)) old records new
    → (names new ≡ names old) × (text new ≡ text old ++ trace_text (name_of (names old)) records)
traced names text name_of old [] new h = (ap names (sym h), ap text (sym h) ∙ sym (append-nil (text old)))
traced names text name_of old (r ∷ records) new h =
    let line = record_line (name_of (names old) r.component) r in
    let rest = traced names text name_of h.0 records new h.2 in (
      rest.0 ∙ h.1.0,
      rest.1 ∙ (λ i. h.1.1 i ++ trace_text (name_of (h.1.0 i)) records) ∙ append_assoc (text old) line (trace_text (name_of (names old)) records),
    )

-- ---- the lines of a table

rows_more : (rows : Rows) (fields : List Field) (name_of : ℕ → List ℕ) (xs ys : List Record) → rows_text rows fields name_of (xs ++ ys) ≡ rows_text rows fields name_of xs ++ rows_text rows fields name_of ys
rows_more rows fields name_of xs ys = flat_map-append (λ r. row_text rows fields (name_of r.component) r) xs ys

table_more : (rows : Rows) (fields : List Field) (name_of : ℕ → List ℕ) (xs ys : List Record) → table_text rows fields name_of xs ++ rows_text rows fields name_of ys ≡ table_text rows fields name_of (xs ++ ys)
table_more rows fields name_of xs ys = append_assoc (head_text rows fields) (rows_text rows fields name_of xs) (rows_text rows fields name_of ys) ∙ ap (λ l. head_text rows fields ++ l) (sym (rows_more rows fields name_of xs ys))

listed_both : (shown : List Bool) (from : ℕ) (xs ys : List Record) → listed shown from (xs ++ ys) ≡ listed shown from xs ++ listed shown from ys
listed_both shown from xs ys =
    ap (of_shown shown) (filter-append (λ r. nat_le from (tick_of r.stamp)) xs ys)
    ∙ filter-append (λ r. is_shown shown r.component) (from_on from xs) (from_on from ys)

-- the lines of those that are listed
pub rows_listed_more : (rows : Rows) (fields : List Field) (name_of : ℕ → List ℕ) (shown : List Bool) (from : ℕ) (xs ys : List Record)
    → rows_text rows fields name_of (listed shown from (xs ++ ys)) ≡ rows_text rows fields name_of (listed shown from xs) ++ rows_text rows fields name_of (listed shown from ys)
rows_listed_more rows fields name_of shown from xs ys = ap (rows_text rows fields name_of) (listed_both shown from xs ys) ∙ rows_more rows fields name_of (listed shown from xs) (listed shown from ys)

pub table_listed_more : (rows : Rows) (fields : List Field) (name_of : ℕ → List ℕ) (shown : List Bool) (from : ℕ) (xs ys : List Record)
    → table_text rows fields name_of (listed shown from xs) ++ rows_text rows fields name_of (listed shown from ys) ≡ table_text rows fields name_of (listed shown from (xs ++ ys))
table_listed_more rows fields name_of shown from xs ys = table_more rows fields name_of (listed shown from xs) (listed shown from ys) ∙ ap (table_text rows fields name_of) (sym (listed_both shown from xs ys))

-- lines that got records have theirs at the end
pub tabulated : {V N : Type 0} (names : V → N) (kinds : V → Rows) (fields : V → List Column) (shows : V → List Bool) (first : V → ℕ) (text : V → List ℕ) (name_of : N → ℕ → List ℕ) (old : V) (records : List Record) (new : V)
    → Receives (λ a r b. (names b ≡ names a) × (kinds b ≡ kinds a) × (fields b ≡ fields a) × (shows b ≡ shows a) × (first b ≡ first a) × (text b ≡ text a ++ rows_text (kinds a) (map field (fields a)) (name_of (names a)) (listed (shows a) (first a) (r ∷ [])))) old records new
    → (names new ≡ names old) × (kinds new ≡ kinds old) × (fields new ≡ fields old) × (shows new ≡ shows old) × (first new ≡ first old) × (text new ≡ text old ++ rows_text (kinds old) (map field (fields old)) (name_of (names old)) (listed (shows old) (first old) records))
tabulated names kinds fields shows first text name_of old [] new h = (ap names (sym h), ap kinds (sym h), ap fields (sym h), ap shows (sym h), ap first (sym h), ap text (sym h) ∙ sym (append-nil (text old)))
tabulated names kinds fields shows first text name_of old (r ∷ records) new h =
    let line = rows_text (kinds old) (map field (fields old)) (name_of (names old)) (listed (shows old) (first old) (r ∷ [])) in
    let others = rows_text (kinds old) (map field (fields old)) (name_of (names old)) (listed (shows old) (first old) records) in
    let rest = tabulated names kinds fields shows first text name_of h.0 records new h.2 in (
      rest.0 ∙ h.1.0,
      rest.1 ∙ h.1.1,
      rest.2 ∙ h.1.2,
      rest.3 ∙ h.1.3,
      rest.4 ∙ h.1.4,
      rest.5 ∙ (λ i. h.1.5 i ++ rows_text (h.1.1 i) (map field (h.1.2 i)) (name_of (h.1.0 i)) (listed (h.1.3 i) (h.1.4 i) records)) ∙ append_assoc (text old) line others
          ∙ ap (λ l. text old ++ l) (sym (rows_listed_more (kinds old) (map field (fields old)) (name_of (names old)) (shows old) (first old) (r ∷ []) records)),
    )

-- ---- the writer and what is kept for it: together they have a text

pub moves_on : (a b c : Option (List ℕ)) (text added kept grown left : List ℕ) → MovesBytes a b text kept → grown ≡ kept ++ added → MovesBytes b c grown left → MovesBytes a c (text ++ added) left
moves_on a b c text added kept grown left p is q = (
  p.0 ++ q.0,
  appends_both a b c p.0 q.0 p.1 q.1,
  append_assoc p.0 q.0 left ∙ ap (λ l. p.0 ++ l) (q.2 ∙ is) ∙ sym (append_assoc p.0 kept added) ∙ ap (λ l. l ++ added) p.2,
)

pub moved_begins : (a b : Option (List ℕ)) (text more kept all : List ℕ) → MovesBytes a b text kept → text ++ more ≡ all → AppendsBeginning a b all
moved_begins a b text more kept all p is = (p.0, kept ++ more, p.1, sym (append_assoc p.0 kept more) ∙ ap (λ l. l ++ more) p.2 ∙ is)

pub moved_whole : (a b c : Option (List ℕ)) (text added kept grown all : List ℕ) → MovesBytes a b text kept → grown ≡ kept ++ added → text ++ added ≡ all → Appends b c grown → Appends a c all
moved_whole a b c text added kept grown all p is whole q =
    subst (Appends a c) (ap (λ l. p.0 ++ l) is ∙ sym (append_assoc p.0 kept added) ∙ ap (λ l. l ++ added) p.2 ∙ whole) (appends_both a b c p.0 grown p.1 q)
