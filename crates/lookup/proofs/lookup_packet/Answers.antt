-- `lookup::lookup_packet` meets its contract: what the lookup says goes by what the header gives.
-- Assumes nothing.
use Rattle.std.proofs.Common.{sym, ap, ◌∙◌}
use Rattle.refusal.specs.Refusals.{answer_of}
use Rattle.lookup.specs.Walk.{refused}
use Rattle.lookup.proofs.Steps.{by_header}
use Rattle.lookup.proofs.lookup_packet.Goals as goal

-- a refusal
pub returns-in_default : goal.returns-in_default
returns-in_default c = c.refuse.ensures ∙ ap refused (c.answer.ensures ∙ ap answer_of c.in_default.is) ∙ by_header _ _ _ (sym c.in_default.is ∙ c.read_header-read.ensures)

-- values
pub returns : goal.returns
returns c = c.lookup.ensures ∙ by_header _ _ _ (sym c.in-Ok.is ∙ c.read_header-read.ensures)
