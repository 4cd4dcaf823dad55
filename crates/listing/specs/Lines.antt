-- The lines of the bench program, as bytes.
-- Assumes nothing: these are definitions.
use Rattle.std.specs.Prelude.{List, [], ◌∷◌, ◌++◌, ℕ, decimal}
use Rattle.lookup.specs.declared.Found.{Found}

-- a number's decimal digits and the byte behind it: a space, 32, or a line's end, 10
abbrev pub item : ℕ → ℕ → List ℕ
item n behind = decimal n ++ (behind ∷ [])

-- "for each record its place from 1, the answer, rule, action, reads"
abbrev pub line_of : ℕ → Found → List ℕ
line_of place f = item place 32 ++ (item f.answer 32 ++ (item f.rule 32 ++ (item f.action 32 ++ item f.reads 10)))
