-- What the inner functions of a list of edits say, of which the promise of the call says nothing.
-- Assumes nothing: these are definitions.
use Rattle.std.specs.Prelude.{◌≡◌, List, [], ◌∷◌, ℕ}
use Rattle.model.specs.Table.{Kind, Table}
use Rattle.series.specs.Edits.{Edit, edit_answer, edited}

-- each edit of the list is accepted in the table that those before it leave
abbrev pub AllTaken : Kind → ℕ → Table → List Edit → Type 0
AllTaken k c t [] = Unit {0}
AllTaken k c t (e ∷ es) = (edit_answer k c t e ≡ 0) × AllTaken k c (edited t e) es
