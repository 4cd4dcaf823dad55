-- `store::insert` meets its contract, by that of the kind that is chosen.
-- Assumes nothing.
use Prim.Native.Nat.{ℕ}
use Rattle.refusal.specs.Refusals.{answer_of}
use mathlib.Core.Path.{◌≡◌, refl, sym, ◌∙◌}
use mathlib.Core.Bool.{true, false}
use mathlib.Core.Path.{subst}
use Rattle.model.specs.Table.{Kind, Rule}
use Rattle.model.specs.Ipv4.{kind_in}
use Rattle.ipv4.proofs.Chosen.{fields, scratch, chosen}
use Rattle.table.specs.Rows.{kind_of, rule_in}
use Rattle.layout.specs.Store.{insert_says, insert_words}
use Rattle.store.proofs.insert.Goals as goal

pub insert-requires : goal.insert-requires
insert-requires c =
    (scratch true c.shape.result c.shape.ensures _ _ refl refl, rw (fields true c.shape.result c.shape.ensures) c.row_of-row.ensures.0)

pub returns-then-is_large : goal.returns-then-is_large
returns-then-is_large c =
    let a = c.args in
    subst (λ (x : Rule). (answer_of c.insert.result ≡ insert_says (kind_in a.words.now) a.words.now x) × (c.insert.new.words ≡ insert_words (kind_in a.words.now) a.words.now x)) c.row_of-row.ensures.1 (chosen true c.shape.result c.shape.ensures (λ (q : Kind). (answer_of c.insert.result ≡ insert_says q a.words.now (rule_in 6 c.row_of-row.result 0)) × (c.insert.new.words ≡ insert_words q a.words.now (rule_in 6 c.row_of-row.result 0))) a.words.now (sym c.if-is_large.true ∙ c.is_large.ensures) (subst (λ (m : ℕ). (answer_of c.insert.result ≡ insert_says (kind_of c.shape.result) a.words.now (rule_in m c.row_of-row.result 0)) × (c.insert.new.words ≡ insert_words (kind_of c.shape.result) a.words.now (rule_in m c.row_of-row.result 0))) (fields true c.shape.result c.shape.ensures) c.insert.ensures))

pub insert-requires-2 : goal.insert-requires-2
insert-requires-2 c =
    (scratch false c.shape-2.result c.shape-2.ensures _ _ refl refl, rw (fields false c.shape-2.result c.shape-2.ensures) c.row_of-row.ensures.0)

pub returns : goal.returns
returns c =
    let a = c.args in
    subst (λ (x : Rule). (answer_of c.insert-2.result ≡ insert_says (kind_in a.words.now) a.words.now x) × (c.insert-2.new.words ≡ insert_words (kind_in a.words.now) a.words.now x)) c.row_of-row.ensures.1 (chosen false c.shape-2.result c.shape-2.ensures (λ (q : Kind). (answer_of c.insert-2.result ≡ insert_says q a.words.now (rule_in 6 c.row_of-row.result 0)) × (c.insert-2.new.words ≡ insert_words q a.words.now (rule_in 6 c.row_of-row.result 0))) a.words.now (sym c.if-is_large.false ∙ c.is_large.ensures) (subst (λ (m : ℕ). (answer_of c.insert-2.result ≡ insert_says (kind_of c.shape-2.result) a.words.now (rule_in m c.row_of-row.result 0)) × (c.insert-2.new.words ≡ insert_words (kind_of c.shape-2.result) a.words.now (rule_in m c.row_of-row.result 0))) (fields false c.shape-2.result c.shape-2.ensures) c.insert-2.ensures))
