-- A list of edits as a C caller lends it to reamstork_edit_list, and the same list as numbers.
-- Assumes nothing: these are definitions.
use Rattle.std.specs.Prelude.{cond, List, [], ℕ, zero, suc, ◌+◌, ◌*◌, ltb, eqb, length, get_or}
use Rattle.model.specs.Lists.{grid}
use Rattle.model.specs.Table.{Rule}
use Rattle.table.specs.Rows.{row_word}
use Rattle.ipv4.specs.Rule.{six}
use Rattle.series.specs.Edits.{Edit, inserts, deletes, edits_from}
use Rattle.gather.specs.declared.Edit.{Edit as Given}
use Rattle.gather.specs.declared.Gathered.{Gathered}

-- the rule of an edit, a reamstork_edit of include/reamstork.h
abbrev pub rule_of : Given → Rule
rule_of e = record { number = e.number; action = e.action; lows = six e.low; highs = six e.high }

-- remove 0 inserts the rule, any other number deletes by number
abbrev pub edit_of : Given → Edit
edit_of e = cond (eqb e.remove 0) (inserts (rule_of e)) (deletes e.number)

-- THE LIST AS NUMBERS, 16 for each edit. Word j of an edit: remove, and behind it the row of its rule
unfoldable pub edit_word : Given → ℕ → ℕ
edit_word e zero = e.remove
edit_word e (suc j) = row_word (rule_of e) j

-- where a list has no edit: nothing of it is laid out
abbrev pub no_edit : Given
no_edit = record { remove = 0; number = 0; action = 0; low = []; high = [] }

-- "Take a list of up to 32 edits in order." How many of n are laid out: all, or none of more than 32
abbrev pub taken : ℕ → ℕ
taken n = cond (ltb 32 n) 0 n

-- the words where the first i edits are laid out, one behind the other, and zeros
unfoldable pub laid : List Given → ℕ → List ℕ
laid es i = grid 16 32 (λ p j. cond (ltb p i) (edit_word (get_or es p no_edit) j) 0)

-- WHAT IS GATHERED of a list
unfoldable pub gathered : List Given → Gathered
gathered es = record { count = length es; words = laid es (taken (length es)) }

-- the edits that stand there
abbrev pub edits_in : Gathered → List Edit
edits_in g = edits_from 6 16 g.count g.words 0

-- A STEP: an edit more is laid out, at place i
unfoldable pub stepped : Gathered → ℕ → Given → Gathered
stepped g i e = record { count = g.count; words = grid 16 32 (λ p j. cond (eqb p i) (edit_word e j) (get_or g.words (16 * p + j) 0)) }
