-- `gather::step` meets its contract: `remove` is written at the place, and the row copied behind it, as the law of a step has it (`Laid.antt`).
-- Assumes nothing.
use Rattle.std.proofs.Common.{rules, ◌≡◌, ap, ℕ, List, length}
use Rattle.gather.specs.Gather.{stepped}
use Rattle.gather.proofs.Laid.{step_lays}
use Rattle.gather.proofs.step.Goals as goal

pub returns : goal.returns
unfolding stepped
returns c =
    let a = c.args in
    let long : length a.list.now.words ≡ 512 = search rules in
    let out : length c.copy.new.out ≡ 512 = search rules in
    ap (λ (ws : List ℕ). record { count = a.list.now.count; words = ws }) (step_lays a.list.now.words _ _ a.place a.edit.now c.requires long c.row_of-row.ensures c.copy.ensures out)
