-- `store::delete` meets its contract, by that of the kind that is chosen.
-- Assumes nothing.
use Rattle.refusal.specs.Refusals.{answer_of}
use mathlib.Core.Path.{◌≡◌, refl, sym, ◌∙◌}
use mathlib.Core.Bool.{true, false}
use Rattle.model.specs.Table.{Kind}
use Rattle.ipv4.proofs.Chosen.{scratch, chosen}
use Rattle.layout.specs.Store.{delete_says, delete_words}
use Rattle.store.proofs.delete.Goals as goal

pub delete-requires : goal.delete-requires
delete-requires c = scratch true c.shape.result c.shape.ensures _ _ refl refl

pub returns-then-is_large : goal.returns-then-is_large
returns-then-is_large c =
    let a = c.args in
    chosen true c.shape.result c.shape.ensures (λ (q : Kind). (answer_of c.delete.result ≡ delete_says q a.words.now a.number) × (c.delete.new.words ≡ delete_words q a.words.now a.number)) a.words.now (sym c.if-is_large.true ∙ c.is_large.ensures) c.delete.ensures

pub delete-requires-2 : goal.delete-requires-2
delete-requires-2 c = scratch false c.shape-2.result c.shape-2.ensures _ _ refl refl

pub returns : goal.returns
returns c =
    let a = c.args in
    chosen false c.shape-2.result c.shape-2.ensures (λ (q : Kind). (answer_of c.delete-2.result ≡ delete_says q a.words.now a.number) × (c.delete-2.new.words ≡ delete_words q a.words.now a.number)) a.words.now (sym c.if-is_large.false ∙ c.is_large.ensures) c.delete-2.ensures
