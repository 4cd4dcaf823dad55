-- `ipv4::is_large` meets its contract: fewer than three words have no word 2, and so name no large store.
-- Assumes nothing.
use mathlib.Core.Path.{sym, ap}
use native.Mathlib.Omega.{arith}
use lib.Dec.{eqb}
use lib.ListN.{get_or-eq_default}
use Rattle.ipv4.proofs.is_large.Goals as goal

pub returns-then-words-lt3 : goal.returns-then-words-lt3
returns-then-words-lt3 c = sym (ap (λ w. eqb w 4) (get_or-eq_default c.args.words.now 0 {n = 2} (omega (arith, c.if-words-lt3.true))))
