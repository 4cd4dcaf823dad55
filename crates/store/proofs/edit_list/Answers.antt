-- `store::edit_list` meets its contract, by that of the kind that is chosen.
-- Assumes nothing.
use Rattle.ipv4.proofs.Chosen.{fields}
use borrow.Author.Rules.{rules}
use mathlib.Core.Path.{refl, sym, ◌∙◌}
use mathlib.Core.Bool.{true, false}
use lib.ListN.{replicate}
use Rattle.store.proofs.Listed.{lent_list, list_chosen}
use Rattle.store.proofs.edit_list.Goals as goal

pub edit_list-requires : goal.edit_list-requires
edit_list-requires c =
    let a = c.args in
    lent_list true c.shape.result c.shape.ensures (replicate 513 0) _ _ a.list.words a.list.count refl refl refl (search rules)

pub returns-then-is_large : goal.returns-then-is_large
returns-then-is_large c =
    let a = c.args in
    list_chosen true c.shape.result c.shape.ensures _ a.list.words a.list.count _ _ (sym c.if-is_large.true ∙ c.is_large.ensures) (rw (fields true c.shape.result c.shape.ensures) at c.edit_list.ensures)

pub edit_list-requires-2 : goal.edit_list-requires-2
edit_list-requires-2 c =
    let a = c.args in
    lent_list false c.shape-2.result c.shape-2.ensures (replicate 65 0) _ _ a.list.words a.list.count refl refl refl (search rules)

pub returns : goal.returns
returns c =
    let a = c.args in
    list_chosen false c.shape-2.result c.shape-2.ensures _ a.list.words a.list.count _ _ (sym c.if-is_large.false ∙ c.is_large.ensures) (rw (fields false c.shape-2.result c.shape-2.ensures) at c.edit_list-2.ensures)
