-- `ipv4::with_scratch` meets its contract: the shape that is lent is that of the kind that the words name.
-- Assumes nothing.
use mathlib.Core.Path.{sym, ◌∙◌}
use mathlib.Core.Bool.{true, false}
use Rattle.ipv4.proofs.Chosen.{named}
use Rattle.ipv4.proofs.with_scratch.Goals as goal

pub returns-then-is_large : goal.returns-then-is_large
returns-then-is_large g c = let w = c.with.ensures in (w.0, w.1, w.2, w.3, w.4, named true w.0.now w.5 c.args.words.now (sym c.if-is_large.true ∙ c.is_large.ensures), w.6)

pub returns : goal.returns
returns g c = let w = c.with-2.ensures in (w.0, w.1, w.2, w.3, w.4, named false w.0.now w.5 c.args.words.now (sym c.if-is_large.false ∙ c.is_large.ensures), w.6)
