-- `roster::stands_behind` meets its contract.
-- Assumes nothing.
use mathlib.Core.Path.{sym, ap, ◌∙◌}
use lib.Dec.{eqb}
use Rattle.model.proofs.Tests.{never}
use Rattle.roster.proofs.Sets.{none_stands, one_stands}
use Rattle.roster.proofs.stands_behind.Goals as goal

pub returns-then-n-p : goal.returns-then-n-p
returns-then-n-p c = (λ z. never (sym z), λ k t h e. none_stands k _ _ _ t h _ _ e c.if-n-p.true)

pub returns : goal.returns
returns c =
    let a = c.args in
    (λ z. c.if-n-p.false, λ k t h e. ap (λ v. eqb v a.x) (rw c.from.ensures at c.word.ensures) ∙ one_stands k _ _ _ t h a.x a.p e c.if-n-p.false)
