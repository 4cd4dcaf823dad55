-- `gather::gather` meets its contract: the steps lay out one edit more each, and at the end all that are taken (`Laid.antt`).
-- Assumes nothing.
use Rattle.std.proofs.Common.{◌≡◌, arith, ap, ◌∙◌, ℕ, List, length}
use mathlib.Core.Path.{ap₂}
use lib.ListN.{length-take}
use lib.Seq.{get_or-take, length-take-le}
use Rattle.gather.specs.declared.Edit.{Edit}
use Rattle.gather.specs.declared.Gathered.{Gathered}
use Rattle.gather.specs.Gather.{no_edit, stepped}
use Rattle.gather.proofs.Laid.{reached, none_laid, one_more, all_laid, taken_within}
use Rattle.gather.proofs.gather.Goals as goal

pub loop-i-init : goal.loop-i-init
loop-i-init c = ap (λ (ws : List ℕ). record { count = length c.args.edits.now; words = ws }) (none_laid c.args.edits.now)

pub loop-i-preserved : goal.loop-i-preserved
loop-i-preserved c =
    let es = c.args.edits.now in
    let l = c.loop-i in
    c.step.ensures ∙ (ap₂ (λ (m : Gathered) (e : Edit). stepped m l.i e) l.invariant (get_or-take c.taken-n.result es l.i no_edit (omega (arith, length-take {A = Edit}))) ∙ one_more es l.i)

pub returns : goal.returns
returns c =
    let es = c.args.edits.now in
    let l = c.loop-i in
    let e : l.i ≡ c.taken-n.result = omega (arith, length-take-le c.taken-n.result es (omega (arith, c.taken-n.ensures, taken_within (length es)))) in
    l.invariant ∙ (ap (reached es) (e ∙ c.taken-n.ensures) ∙ all_laid es)
