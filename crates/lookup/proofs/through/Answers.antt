-- `lookup::through` meets its contract. The invariant: by what the walk of one field comes to, the walk of the fields that are left says what the whole walk says; each field before reads at most 65,536 cells.
-- Assumes nothing.
use Rattle.std.proofs.Common.{rules, arith, sym, ◌∙◌}
use Rattle.lookup.proofs.Steps.{field_led, field_lost, field_none}
use Rattle.lookup.proofs.through.Goals as goal

-- lost
pub returns-in_err-field : goal.returns-in_err-field
returns-in_err-field g c = λ f h.
    let l = c.loop-value in
    rw c.from_residual.ensures
    (sym (l.invariant.1 f h ∙ field_lost f _ l.value-index l.place l.reads (search rules) (sym c.in_err-field.was ∙ h _ _ _ c.seek.ensures)))

-- the next field
pub loop-value-preserved : goal.loop-value-preserved
loop-value-preserved g c =
    let l = c.loop-value in (
      omega (arith, c.requires.few _ _ _ c.seek.ensures _ c.in_ok-field.was),
      λ f h. l.invariant.1 f h ∙ field_led f _ l.value-index l.place l.reads _ (search rules) (sym c.in_ok-field.was ∙ h _ _ _ c.seek.ensures),
    )

-- no field is left
pub returns : goal.returns
returns g c = λ f h.
    let l = c.loop-value in
    sym (l.invariant.1 f h ∙ field_none f _ l.value-index l.place l.reads (search rules))
