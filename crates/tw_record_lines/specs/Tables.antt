-- The bytes of a table: lines of comma-separated values.
--     cells_text name at kind      tick, microstep, component and kind
--     record_row, item_row, word_row      the line of a record, of an item of one with the fields of its value, of a word of one
--     row_text rows fields name r      the lines of a record
--     listed shown from records      the records of the components that are shown, from a tick on
--     head_text rows fields      the first line
--     table_text rows fields name_of rs      the whole table
use Rattle.std.specs.Prelude.{◌==◌, ◌++◌, ◌+◌, ◌∷◌, [], ℕ, ℤ, List, Bool, codes, flat_map, if◌then◌else◌}
use Rattle.std.specs.Fmt.{decimal, signed_decimal}
use Rattle.tw_msgs.specs.declared.record.Record.{Record}
use Rattle.tw_msgs.specs.declared.record_kind.RecordKind.{RecordKind}
use Rattle.tw_texts.specs.Texts.{bag_text, kind_text, words_text}
use Rattle.tw_vtime.specs.Stamps.{never, tick_of, micro_of}
use Rattle.tw_figures.specs.Figures.{from_on}
use Rattle.tw_figures.specs.Shown.{of_shown}
use Rattle.tw_figures.specs.declared.seeing.Rows.{Rows}
use Rattle.tw_figures.specs.declared.seeing.Rows.TheVariants.{Records, Items, Words}
use Rattle.tw_record_lines.specs.Fields.{Field, field_cells, field_heads}

abbrev pub time_cells : ℕ → List ℕ
time_cells s = if s == never then codes "end,end" else (decimal (tick_of s) ++ codes "," ++ decimal (micro_of s))

abbrev pub cells_text : List ℕ → ℕ → RecordKind → List ℕ
cells_text name at kind = time_cells at ++ codes "," ++ name ++ codes "," ++ kind_text kind

-- nothing where there is no item
abbrev pub items_text : List (ℕ × ℤ) → List ℕ
items_text [] = []
items_text (x ∷ xs) = bag_text (x ∷ xs)

abbrev pub record_row : List ℕ → ℕ → RecordKind → List (ℕ × ℤ) → List ℤ → List ℕ
record_row name at kind bag words = cells_text name at kind ++ codes "," ++ items_text bag ++ codes "," ++ words_text words ++ codes "\n"

abbrev pub item_row : List Field → List ℕ → ℕ → RecordKind → ℕ × ℤ → List ℕ
item_row fields name at kind item = cells_text name at kind ++ codes "," ++ decimal item.0 ++ codes "," ++ signed_decimal item.1 ++ field_cells fields item.1 ++ codes "\n"

abbrev pub word_row : List ℕ → ℕ → RecordKind → ℕ → ℤ → List ℕ
word_row name at kind place word = cells_text name at kind ++ codes "," ++ decimal place ++ codes "," ++ signed_decimal word ++ codes "\n"

abbrev pub items_rows : List Field → List ℕ → ℕ → RecordKind → List (ℕ × ℤ) → List ℕ
items_rows fields name at kind bag = flat_map (item_row fields name at kind) bag

-- the words from a place on
abbrev pub word_rows : List ℕ → ℕ → RecordKind → ℕ → List ℤ → List ℕ
word_rows name at kind place [] = []
word_rows name at kind place (word ∷ words) = word_row name at kind place word ++ word_rows name at kind (place + 1) words

abbrev pub row_text : Rows → List Field → List ℕ → Record → List ℕ
row_text Records fields name r = record_row name r.stamp r.kind r.bag r.words
row_text Items fields name r = items_rows fields name r.stamp r.kind r.bag
row_text Words fields name r = word_rows name r.stamp r.kind 0 r.words

abbrev pub listed : List Bool → ℕ → List Record → List Record
listed shown from records = of_shown shown (from_on from records)

abbrev pub head_text : Rows → List Field → List ℕ
head_text Records fields = codes "tick,microstep,component,kind,items,words\n"
head_text Items fields = codes "tick,microstep,component,kind,port,value" ++ field_heads fields ++ codes "\n"
head_text Words fields = codes "tick,microstep,component,kind,place,number\n"

abbrev pub rows_text : Rows → List Field → (ℕ → List ℕ) → List Record → List ℕ
rows_text rows fields name_of records = flat_map (λ r. row_text rows fields (name_of r.component) r) records

abbrev pub table_text : Rows → List Field → (ℕ → List ℕ) → List Record → List ℕ
table_text rows fields name_of records = head_text rows fields ++ rows_text rows fields name_of records
