-- Edits of a table, one by one and as a list: what each answers, where a list is refused, and the table that it leaves. "Take a list of up to 32 edits in order. Either all are done as if given singly, or nothing is, exactly when one of them would have been refused there; the answer then names its place and its number."
-- Assumes nothing: these are definitions.
use Rattle.std.specs.Prelude.{Bool, cond, ◌||◌, List, [], ◌∷◌, ℕ, zero, suc, ◌+◌, ltb, eqb, length, get_or}
use Rattle.model.specs.Table.{Kind, Rule, Table, with_rule, without, insert_answer, delete_answer}
use Rattle.rows.specs.Rows.{number_in}
use Rattle.table.specs.Rows.{rule_in}
use Rattle.layout.specs.Store.{cells_in, table_of, passes, holding, unless}
use Rattle.series.specs.declared.Listed.{Listed}

-- AN EDIT: a rule is inserted, or the rule of a number is deleted
pub data Edit : Type 0 where
  inserts : Rule → Edit
  deletes : ℕ → Edit

-- what it answers, given singly, of a table that stands in a store of c cells
abbrev pub edit_answer : Kind → ℕ → Table → Edit → ℕ
edit_answer k c t (inserts r) = insert_answer k c t r
edit_answer k c t (deletes n) = delete_answer t n

-- the table after it, where it is accepted
abbrev pub edited : Table → Edit → Table
edited t (inserts r) = with_rule r t
edited t (deletes n) = without n t

-- the table after all edits of a list, "in order"
abbrev pub edited_all : Table → List Edit → Table
edited_all t [] = t
edited_all t (e ∷ es) = edited_all (edited t e) es

-- what a list answers
abbrev pub listed : ℕ → ℕ → Listed
listed a p = record { answer = a; place = p }

-- the first edit that "would have been refused there", each of the table that those before it leave: "its place and its number"; p edits came before these. 0 and 0 where none is refused.
abbrev pub first_refusal : Kind → ℕ → ℕ → Table → List Edit → Listed
first_refusal k c p t [] = listed 0 0
first_refusal k c p t (e ∷ es) = cond (eqb (edit_answer k c t e) 0) (first_refusal k c (suc p) (edited t e) es) (listed (edit_answer k c t e) (suc p))

-- "15 for an empty or longer list"
abbrev pub bad_length : List Edit → Bool
bad_length es = eqb (length es) 0 || ltb 32 (length es)

-- THE LIST OF EDITS: "15 for an empty or longer list, first of all, with place 0; a store that fails the check gives 9 at place 1"
unfoldable pub list_says : Kind → List ℕ → List Edit → Listed
list_says k ws es = cond (bad_length es) (listed 15 0) (cond (passes k ws) (first_refusal k (cells_in ws) 0 (table_of k ws) es) (listed 9 1))

-- "Either all are done [..], or nothing is": a refused list leaves every word as it was
unfoldable pub list_words : Kind → List ℕ → List Edit → List ℕ
list_words k ws es = unless (list_says k ws es).answer (holding k (cells_in ws) (edited_all (table_of k ws) es) ws) ws

-- A LIST AS NUMBERS, s for each edit. The edit at word i, over f fields: 0 inserts the rule of the row behind it, any other number deletes by number.
abbrev pub edit_in : ℕ → List ℕ → ℕ → Edit
edit_in f xs i = cond (eqb (get_or xs i 0) 0) (inserts (rule_in f xs (i + 1))) (deletes (number_in xs (i + 1)))

-- n edits, from word i on
abbrev pub edits_from : ℕ → ℕ → ℕ → List ℕ → ℕ → List Edit
edits_from f s zero xs i = []
edits_from f s (suc n) xs i = edit_in f xs i ∷ edits_from f s n xs (i + s)
