-- `store::start` meets its contract, by that of the kind that is chosen.
-- Assumes nothing.
use Rattle.refusal.specs.Refusals.{answer_of}
use mathlib.Core.Path.{◌≡◌, refl, subst}
use Rattle.model.specs.Table.{Kind}
use mathlib.Core.Bool.{true}
use Rattle.ipv4.proofs.Chosen.{scratch}
use Rattle.layout.specs.Store.{start_answer, start_words}
use Rattle.store.proofs.start.Goals as goal

pub start-requires : goal.start-requires
start-requires c = scratch true c.shape.result c.shape.ensures _ _ refl refl

pub returns : goal.returns
returns c = let g = c.args in subst (λ (q : Kind). (answer_of c.start.result ≡ start_answer q g.words.now g.c) × (c.start.new.words ≡ start_words q g.words.now g.c g.action)) c.shape.ensures c.start.ensures
