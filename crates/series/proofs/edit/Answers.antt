-- `series::edit` meets its contract: what the function for its kind of edit says.
-- Assumes nothing.
use mathlib.Core.Path.{◌≡◌, sym, ◌∙◌}
use Prim.Native.Nat.{◌+◌, ◌≤◌}
use Rattle.std.proofs.lemmas.Result.{IfOk-weaker}
use native.Mathlib.Omega.{arith}
use Rattle.table.specs.Rows.{kind_of}
use Rattle.series.proofs.Decided.{insert_step, delete_step}
use Rattle.series.proofs.edit.Goals as goal

pub returns-then-word-eq0 : goal.returns-then-word-eq0
returns-then-word-eq0 c =
    let a = c.args in
    (IfOk-weaker _ (λ m. (m ≡ a.n + 1) × (m ≤ a.shape.now.most)) (λ m. m ≤ a.shape.now.most) (λ m q. q.1) c.insert_into.ensures.0, λ t h. insert_step (kind_of a.shape.now) a.c t _ _ a.edits.now a.at _ (sym c.word.ensures ∙ c.if-word-eq0.true) (c.insert_into.ensures.1 t h))

pub returns : goal.returns
returns c =
    let a = c.args in
    let k = kind_of a.shape.now in
    (IfOk-weaker _ (λ m. m + 1 ≡ a.n) (λ m. m ≤ a.shape.now.most) (λ m q. omega (arith, q, c.requires.0.few)) c.delete_from.ensures.0, λ t h. delete_step k a.c t _ _ a.edits.now a.at _ (λ z. c.if-word-eq0.false (c.word.ensures ∙ z)) _ c.word-2.ensures (c.delete_from.ensures.1 k t h))
