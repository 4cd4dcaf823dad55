-- `reading::cells` meets its contract: the cells of the kind that is chosen, or 0.
-- Assumes nothing.
use mathlib.Core.Path.{◌≡◌, subst, ◌∙◌}
use borrow.Author.Rules.{rules}
use Rattle.std.specs.Prelude.{IfOk}
use Rattle.model.specs.Table.{Kind}
use Rattle.model.specs.Ipv4.{kind_in}
use Rattle.table.specs.Rows.{kind_of}
use Rattle.refusal.specs.Refusals.{answer_of}
use Rattle.layout.specs.Store.{cells_says, cells_gives}
use Rattle.reading.proofs.Found.{cells_or}
use Rattle.reading.proofs.cells.Goals as goal

pub returns : goal.returns
returns c =
    let ws = c.args.words.now in
    let w = c.with_scratch.ensures in
    let e : answer_of c.with_scratch.result ≡ cells_says (kind_in ws) ws = search rules in
    let h : IfOk c.with_scratch.result (λ n. n ≡ cells_gives (kind_of w.0.now) ws) = search rules in
    let i = subst (λ (k : Kind). IfOk c.with_scratch.result (λ n. n ≡ cells_gives k ws)) w.5 h in
    (c.from.ensures.0 ∙ e, c.from.ensures.1 ∙ cells_or (kind_in ws) ws c.with_scratch.result e i)
