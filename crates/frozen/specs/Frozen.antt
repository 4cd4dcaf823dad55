-- An image is a function of the table that it holds: `image_text k t` is all its words, where k says what the store was made for and t is its table. No number of cells stands in it, and nothing of the past. What each call answers and what it leaves in the words is said with it, for any words.
-- Assumes nothing: these are definitions.
use Rattle.std.specs.Prelude.{Bool, cond, ◌&&◌, List, ◌∷◌, ◌++◌, ℕ, ◌+◌, ◌*◌, leb, length, drop}
use Rattle.model.specs.Lists.{same}
use Rattle.model.specs.Table.{Kind, Table, front, within, cells_of}
use Rattle.table.specs.Rows.{rows_text}
use Rattle.layout.specs.Named.{stored}
use Rattle.layout.specs.Store.{head_text, table_of, passes, unless, checked}
use Rattle.blocks.specs.Blocks.{blocks, blocks_text}

-- "A block takes 16 words, and 1,024 words in front hold the rules; the total is exact": the front of its kind, and 16 for each block of the table's tree
abbrev pub image_size : Kind → Table → ℕ
image_size k t = front k + 16 * blocks (stored k t)

-- THE WORDS OF AN IMAGE: the head of a store, with 0 in the place of its number of cells, which no store has; the rows of the table; 0 and 0 in the place of the two links; and the blocks of the table's tree
unfoldable pub image_text : Kind → Table → List ℕ
image_text k t = head_text k 0 (length t.rules) ++ (rows_text k t ++ (0 ∷ 0 ∷ blocks_text (stored k t)))

-- THE TOTAL: 9 where the store fails the check, or 0 and the words that its image takes
abbrev pub total_says : Kind → List ℕ → ℕ
total_says k ws = checked k ws 0

abbrev pub total_gives : Kind → List ℕ → ℕ
total_gives k ws = cond (passes k ws) (image_size k (table_of k ws)) 0

-- FREEZING "gives 9, then 8 exactly if the slice is shorter than the total"; the image, and "words behind it stay"
abbrev pub freeze_says : Kind → List ℕ → List ℕ → ℕ
freeze_says k ws image = checked k ws (cond (leb (image_size k (table_of k ws)) (length image)) 0 8)

abbrev pub freeze_words : Kind → List ℕ → List ℕ → List ℕ
freeze_words k ws image = unless (freeze_says k ws image) (image_text k (table_of k ws) ++ drop (image_size k (table_of k ws)) image) image

-- THE IMAGE CHECK "accepts exactly the words of some passing store's image, of its exact length": all words are the image of the table that they hold, that is within the limits, and a store can hold it, so its tree takes at most 65,536 cells. (That these are the images of stores that pass, and no other words are, is shown in the crate demands, `Frozen`.)
unfoldable pub image_passes : Kind → List ℕ → Bool
image_passes k ws = within k (table_of k ws) && (leb (cells_of k (table_of k ws)) 65536 && same ws (image_text k (table_of k ws)))

-- 9 where it does not
abbrev pub image_says : Kind → List ℕ → ℕ
image_says k ws = cond (image_passes k ws) 0 9
