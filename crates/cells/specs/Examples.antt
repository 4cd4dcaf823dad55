-- The part of a small tree, word for word: two rules in one field and in two fields, and no tree. By computation.
-- Assumes nothing.
use Rattle.std.specs.Prelude.{◌≡◌, refl, List, [], ◌∷◌, ℕ}
use Rattle.model.specs.Rules.{stop}
use Rattle.rows.specs.Rows.{field_at, tree_at}
use Rattle.cells.specs.Text.{only_down, cell, frees, len, low, row, width, under, first, marks, belows, part}

-- at word 0: rule 10 with action 2, the values 3 to 5 in field 0 and 0 to 7 in field 1; at word 15: the default with action 1, 0 to 9 in both
abbrev rules : List ℕ
rules =
    10 ∷ 2 ∷ 3 ∷ 5 ∷ 0 ∷ 7 ∷ 0 ∷ 0 ∷ 0 ∷ 0 ∷ 0 ∷ 0 ∷ 0 ∷ 0 ∷ 0
    ∷ 65535 ∷ 1 ∷ 0 ∷ 9 ∷ 0 ∷ 9 ∷ 0 ∷ 0 ∷ 0 ∷ 0 ∷ 0 ∷ 0 ∷ 0 ∷ 0 ∷ 0 ∷ []

-- two cells and no tree: cell 0 leads to cell 1, and cell 1 to none
pub no_tree : part 2 stop ≡ 0 ∷ 2 ∷ 0 ∷ 1 ∷ 0 ∷ 0 ∷ 0 ∷ 0 ∷ 0 ∷ 0 ∷ 0 ∷ 2 ∷ 0 ∷ 0 ∷ 0 ∷ 0 ∷ 0 ∷ 0 ∷ []
unfolding part first marks row belows width frees
no_tree = refl

-- field 0 has the ends 2, 5 and 9. Cell 0 has the highest, and the walk begins at cell 2; the end 5 names the row at word 0, the others that at word 15; cells 3 and 4 are free.
pub one_field :
    part 5 (tree_at rules 0 1 (0 ∷ 15 ∷ []))
    ≡ 3 ∷ 2
    ∷ 9 ∷ 5 ∷ 15 ∷ 0 ∷ 0 ∷ 0 ∷ 0 ∷ 0
    ∷ 5 ∷ 0 ∷ 0 ∷ 0 ∷ 0 ∷ 0 ∷ 0 ∷ 0
    ∷ 2 ∷ 1 ∷ 15 ∷ 0 ∷ 0 ∷ 0 ∷ 0 ∷ 0
    ∷ 0 ∷ 4 ∷ 0 ∷ 0 ∷ 0 ∷ 0 ∷ 0 ∷ 0
    ∷ 0 ∷ 5 ∷ 0 ∷ 0 ∷ 0 ∷ 0 ∷ 0 ∷ 0 ∷ []
unfolding tree_at field_at part len low row width under first marks belows frees
one_field = refl

-- below the end 9 stands cell 3, below the end 5 cells 4 and 5, with the ends 9 and 7, and below the end 2 cell 6; cell 7 is free
pub two_fields :
    part 8 (tree_at rules 0 2 (0 ∷ 15 ∷ []))
    ≡ 7 ∷ 2
    ∷ cell 9 8 (only_down 3) (cell 5 0 (only_down 5) (cell 2 1 (only_down 6)
    (cell 9 8 (only_down 15)
    (cell 9 8 (only_down 15) (cell 7 4 (only_down 0)
    (cell 9 8 (only_down 15)
    (cell 0 8 (only_down 0) [])))))))
unfolding tree_at field_at part len low row width under first marks belows frees
two_fields = refl
