use Rattle.std.proofs.Common.{◌≡◌, ◌∙◌, ◌++◌, ◌∷◌, [], ℕ, List, drop, length, ap, arith, append_assoc, codes}
use Rattle.std.proofs.lemmas.List.{drop_all}
use Rattle.tw_texts.specs.Texts.{words_text}
use Rattle.tw_record_lines.specs.Tables.{cells_text, items_text}
use Rattle.tw_record_lines.proofs.rows.put_record.Goals as goal

whole : (cells items words : List ℕ) → cells ++ (44 ∷ (items ++ (44 ∷ (words ++ (10 ∷ []))))) ≡ cells ++ codes "," ++ items ++ codes "," ++ words ++ codes "\n"
whole cells items words = simp append_assoc

-- the parts of a row, put one before another, are the row
row : (cells items words a b c d e f : List ℕ) → a ≡ cells ++ b → b ≡ 44 ∷ c → c ≡ items ++ d → d ≡ 44 ∷ e → e ≡ words ++ f → f ≡ 10 ∷ []
    → a ≡ cells ++ codes "," ++ items ++ codes "," ++ words ++ codes "\n"
row cells items words a b c d e f of_cells comma of_items comma' of_words end =
    of_cells ∙ ap (λ l. cells ++ l) (comma ∙ ap (λ l. 44 ∷ l) (of_items ∙ ap (λ l. items ++ l) (comma' ∙ ap (λ l. 44 ∷ l) (of_words ∙ ap (λ l. words ++ l) end))))
    ∙ whole cells items words

pub returns-clause-written : goal.returns-clause-written
returns-clause-written c =
    let cells = c.args.cells.now in
    let past : drop (length c.args.line.now) c.args.line.now ≡ [] = drop_all (length c.args.line.now) c.args.line.now (omega arith) in
    row (cells_text cells.name.now cells.at cells.kind) (items_text c.args.bag.now) (words_text c.args.words.now)
    _ (drop c.put_byte-end-3.result c.put_byte-end-3.new.line) (drop c.put_items-end.result c.put_items-end.new.line) (drop c.put_byte-end-2.result c.put_byte-end-2.new.line) (drop c.put_words-end.result c.put_words-end.new.line) (drop c.put_byte-end.result c.put_byte-end.new.line)
    c.put_cells.ensures.written c.put_byte-end-3.ensures.written c.put_items-end.ensures.written c.put_byte-end-2.ensures.written c.put_words-end.ensures.written
    (c.put_byte-end.ensures.written ∙ ap (λ l. 10 ∷ l) past)
