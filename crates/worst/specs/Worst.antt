-- What is said of the worst reads of a table, for any words.
-- Assumes nothing: these are definitions.
use Rattle.std.specs.Prelude.{cond, List, map, ℕ, Result}
use Rattle.std.specs.Result.{result_unwrap_or}
use Rattle.model.specs.Table.{Kind}
use Rattle.refusal.specs.declared.Refusal.{Refusal}
use Rattle.refusal.specs.Refusals.{answer_of}
use Rattle.layout.specs.Store.{table_of, passes}
use Rattle.search.specs.Search.{most_reads, first_worst}
use Rattle.worst.specs.declared.Most.{Most}

-- an answer, a count of reads, and a record of values
abbrev pub made : ℕ → ℕ → List ℕ → Most
made a n vs = record { answer = a; reads = n; value = vs }

-- what C is told where a search counts the reads, or says why it did not, and lent words then hold a record
abbrev pub told : Result ℕ Refusal → List ℕ → Most
told r vs = made (answer_of r) (result_unwrap_or r 0) vs

-- 9 where the store fails the check; else the most reads that a record of values within the tops takes, and the least record that takes them. In place of a record that is not there stands `none`.
unfoldable pub most_of : Kind → List ℕ → List ℕ → Most
most_of k ws none = cond (passes k ws) (made 0 (most_reads k (table_of k ws)) (first_worst k (table_of k ws))) (made 9 0 none)

-- THE CALL: zeros in place of a record that is not there
abbrev pub worst_says : Kind → List ℕ → Most
worst_says k ws = most_of k ws (map (λ t. 0) k.tops)
