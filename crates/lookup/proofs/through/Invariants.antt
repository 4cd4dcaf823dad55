-- `lookup::through` meets its contract. The invariant: by what the walk of one field comes to, the walk of the fields that are left says what the whole walk says; each field before reads at most 65,536 cells.
-- Assumes nothing.
use Rattle.std.proofs.Common.{ℕ, ◌≡◌, ◌*◌, ◌≤◌, drop}
use Rattle.lookup.specs.Walk.{Field, through}
use Rattle.lookup.proofs.through.Given as goal

abbrev pub invariant-loop-value : goal.invariant-loop-value
invariant-loop-value g l =
    (l.reads ≤ 65536 * l.value-index)
    × ((f : Field) → ((k v : ℕ) (o : _) → goal.S-post g l.seek k v o → o ≡ f k v) → through f l.values l.fn.first 0 ≡ through f (drop l.value-index l.values) l.place l.reads)
