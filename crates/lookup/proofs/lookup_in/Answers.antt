-- `lookup::lookup_in` meets its contract: one law for each answer.
-- Assumes nothing.
use mathlib.Core.Path.{◌∙◌}
use native.Mathlib.Omega.{arith}
use borrow.Author.Rules.{rules}
use Rattle.table.specs.Rows.{kind_of}
use Rattle.lookup.proofs.Steps.{no_word, no_kind, few_cells, many_cells, few_words, enough_words}
use Rattle.lookup.proofs.lookup_in.Goals as goal

-- fewer than three words
pub returns-then-words-lt3 : goal.returns-then-words-lt3
returns-then-words-lt3 c = let a = c.args in c.refused.ensures ∙ no_word (kind_of a.shape.now) a.words.now a.values.now c.args.shape.now.shaped (search rules)

-- another kind
pub returns-then-words-shape : goal.returns-then-words-shape
returns-then-words-shape c = let a = c.args in c.refused-then-words-shape.ensures ∙ no_kind (kind_of a.shape.now) a.words.now a.values.now (search rules)

-- c too low
pub returns-then-c-shape : goal.returns-then-c-shape
returns-then-c-shape c = let a = c.args in c.refused-then-c-shape.ensures ∙ few_cells (kind_of a.shape.now) a.words.now a.values.now (search rules) (search rules)

-- c too high
pub returns-then-c-gt65536 : goal.returns-then-c-gt65536
returns-then-c-gt65536 c = let a = c.args in c.refused-then-c-gt65536.ensures ∙ many_cells (kind_of a.shape.now) a.words.now a.values.now (search rules) (search rules) (search rules)

-- too few words
pub returns-then-words-rows_end : goal.returns-then-words-rows_end
returns-then-words-rows_end c = let a = c.args in c.refused-then-words-rows_end.ensures ∙ few_words (kind_of a.shape.now) a.words.now a.values.now (search rules) (search rules) (search rules) (omega (arith, c.if-words-rows_end.true, c.rows_end.ensures.0))

-- the walk decides
pub returns : goal.returns
returns c = let a = c.args in c.decide.ensures ∙ enough_words (kind_of a.shape.now) a.words.now a.values.now (search rules) (search rules) (search rules) (omega (arith, c.if-words-rows_end.false, c.rows_end.ensures.0))
