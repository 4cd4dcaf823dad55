-- A store is a function of what it holds: `text k c t` is all its words, where k says what it is made for, c is its number of cells and t its table. What each call answers and what it leaves in the words is said with it, for any words.
-- Assumes nothing: these are definitions.
use Rattle.std.specs.Prelude.{Bool, cond, ◌&&◌, List, [], ◌∷◌, ◌++◌, map, ℕ, ◌+◌, ◌-◌, ◌*◌, ltb, leb, eqb, length, get_or, take, drop, replicate}
use Rattle.model.specs.Lists.{same}
use Rattle.model.specs.Table.{Kind, Rule, Table, row_words, front, within, with_rule, without, insert_answer, delete_answer, read_answer, read_rule, place_answer, place_rule, cells_of}
use Rattle.cells.specs.Text.{part}
use Rattle.table.specs.Rows.{rows_text, table_in}
use Rattle.layout.specs.Named.{stored}

-- "A store of c cells [..] takes 1,024 + 8 × c words of 32 bits", and by P9 "a new store takes 8,192 + 8 × c words": the front of its kind, and 8 for each cell
abbrev pub size : Kind → ℕ → ℕ
size k c = front k + 8 * c

-- the head: the number of cells, the number of rules besides the default, the kind's mark, and zeros
unfoldable pub head_text : Kind → ℕ → ℕ → List ℕ
head_text k c n = c ∷ n ∷ k.mark ∷ replicate (k.head - 3) 0

-- THE WORDS OF A STORE: the head, the rows of the table, and the part of the tree: two links and the cells
unfoldable pub text : Kind → ℕ → Table → List ℕ
text k c t = head_text k c (length t.rules) ++ (rows_text k t ++ part c (stored k t))

-- WHAT WORDS SAY, whatever they hold. The number of cells:
abbrev pub cells_in : List ℕ → ℕ
cells_in ws = get_or ws 0 0

-- the rows, and the part of the tree
abbrev pub rows_of : Kind → List ℕ → List ℕ
rows_of k ws = take (row_words k) (drop k.head ws)

abbrev pub part_of : Kind → ℕ → List ℕ → List ℕ
part_of k c ws = take (2 + 8 * c) (drop (k.head + row_words k) ws)

-- the table
abbrev pub table_of : Kind → List ℕ → Table
table_of k ws = table_in k (get_or ws 1 0) (rows_of k ws)

-- c is one cell for each field at least ("5 to 65,536", and by P4 "The least c becomes 6"), and the words are enough for it
abbrev pub room_for : Kind → ℕ → List ℕ → Bool
room_for k c ws = leb (length k.tops) c && (leb c 65536 && leb (size k c) (length ws))

-- THE STORE CHECK "says yes exactly when the words hold a table within these limits, its tree, and every other cell on the free chain once". It is stricter than that sentence, which leaves open which cell holds what: here the words are `text` of the table that they hold, so also each location and each free cell stands in the one cell where `text` has it, every unused word is 0, and word 2 is the kind's mark. The same tree in other cells fails. That words which pass are a table, its tree and the free chain by their links too is shown in the crate demands (`Check`).
unfoldable pub passes : Kind → List ℕ → Bool
passes k ws = room_for k (cells_in ws) ws && (within k (table_of k ws) && same (take (size k (cells_in ws)) ws) (text k (cells_in ws) (table_of k ws)))

-- the words of a store that now holds the table t, with the words behind it as they were: "Words behind those are never touched"
abbrev pub holding : Kind → ℕ → Table → List ℕ → List ℕ
holding k c t ws = text k c t ++ drop (size k c) ws

-- a refusal changes no word
abbrev pub unless : ℕ → List ℕ → List ℕ → List ℕ
unless answer new ws = cond (eqb answer 0) new ws

-- START: 8 where "c outside 5 to 65,536, or slice too short", with 6 for 5 by P4; a store of the default alone
abbrev pub start_answer : Kind → List ℕ → ℕ → ℕ
start_answer k ws c = cond (room_for k c ws) 0 8

abbrev pub start_words : Kind → List ℕ → ℕ → ℕ → List ℕ
start_words k ws c a = unless (start_answer k ws c) (holding k c (record { action = a; rules = [] }) ws) ws

-- every other call answers 9 where the store fails the check
abbrev pub checked : Kind → List ℕ → ℕ → ℕ
checked k ws answer = cond (passes k ws) answer 9

-- INSERT
abbrev pub insert_says : Kind → List ℕ → Rule → ℕ
insert_says k ws r = checked k ws (insert_answer k (cells_in ws) (table_of k ws) r)

abbrev pub insert_words : Kind → List ℕ → Rule → List ℕ
insert_words k ws r = unless (insert_says k ws r) (holding k (cells_in ws) (with_rule r (table_of k ws)) ws) ws

-- DELETE
abbrev pub delete_says : Kind → List ℕ → ℕ → ℕ
delete_says k ws n = checked k ws (delete_answer (table_of k ws) n)

abbrev pub delete_words : Kind → List ℕ → ℕ → List ℕ
delete_words k ws n = unless (delete_says k ws n) (holding k (cells_in ws) (without n (table_of k ws)) ws) ws

-- READ: the rule of a number, and zeros with a refusal
abbrev pub zero_rule : Kind → Rule
zero_rule k = record { number = 0; action = 0; lows = map (λ t. 0) k.tops; highs = map (λ t. 0) k.tops }

abbrev pub read_says : Kind → List ℕ → ℕ → ℕ
read_says k ws n = checked k ws (read_answer (table_of k ws) n)

abbrev pub read_gives : Kind → List ℕ → ℕ → Rule
read_gives k ws n = cond (eqb (read_says k ws n) 0) (read_rule k (table_of k ws) n) (zero_rule k)

-- THE RULE AT A PLACE: places are counted from 1, by rising number; zeros with a refusal
abbrev pub place_says : Kind → List ℕ → ℕ → ℕ
place_says k ws p = checked k ws (place_answer (table_of k ws) p)

abbrev pub place_gives : Kind → List ℕ → ℕ → Rule
place_gives k ws p = cond (eqb (place_says k ws p) 0) (place_rule k (table_of k ws) p) (zero_rule k)

-- CELLS in use, and 0 with a refusal
abbrev pub cells_says : Kind → List ℕ → ℕ
cells_says k ws = checked k ws 0

abbrev pub cells_gives : Kind → List ℕ → ℕ
cells_gives k ws = cond (passes k ws) (cells_of k (table_of k ws)) 0

-- CARRY: the table of a store of the kind j into lent words, as a store of the kind k, "started with a c of its own": "9 for the old store, 8 as for a start, then 6", where the table's tree has more than c locations. The old store's words are only read.
abbrev pub carry_says : Kind → Kind → List ℕ → List ℕ → ℕ → ℕ
carry_says j k from ws c = checked j from (cond (room_for k c ws) (cond (ltb c (cells_of k (table_of j from))) 6 0) 8)

abbrev pub carry_words : Kind → Kind → List ℕ → List ℕ → ℕ → List ℕ
carry_words j k from ws c = unless (carry_says j k from ws c) (holding k c (table_of j from) ws) ws
