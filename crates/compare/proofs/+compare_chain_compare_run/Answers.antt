-- `compare::compare_chain` and `compare::compare_run` meet their contracts. They call each other, and the number of fields left falls: the measures are twice that number, and one more for a chain. The loop's invariant is `Comparing`: the run stands by its ends, and the cells from `k` to `i` stand with all that is below them, which ends before cell `b`.
-- Assumes nothing.
use Prim.Native.Nat.{ℕ, ◌<◌, ◌≤◌, ◌+◌, ◌-◌, ◌*◌}
use mathlib.Core.Path.{◌≡◌, refl, sym, ◌∙◌}
use mathlib.Core.List.{List}
use native.Mathlib.Omega.{arith}
use lib.ListN.{length, get_or, take, drop}
use Rattle.std.specs.Prelude.{Some}
use Rattle.model.specs.Lists.{keep}
use Rattle.model.specs.Rules.{covers}
use Rattle.rows.specs.Rows.{field_at, tree_at}
use Rattle.rows.proofs.Room.{scratch_on}
use Rattle.stands.specs.declared.Stands.{Stands}
use Rattle.stands.specs.Stands.{Room, told}
use Rattle.stands.proofs.Steps.{compared_none, compared_run, compared_start, compared_end}
use Rattle.compare.proofs.Turns.{Comparing, Turn, turn_not, turn_no, turn_on, flat_no, flat_inside, flat_not, flat_says}
use Rattle.compare.proofs.+compare_chain_compare_run.Goals as goal
use Rattle.compare.proofs.+compare_chain_compare_run.Goals.{compare_chain-then-left-eq1, compare_chain-else-left-eq1+in_ok-under}

-- where a turn of the loop stands
turn : {ws : List ℕ} {c : ℕ} {rules sets₀ sets sets' ends₀ ends' : List ℕ} {n m f d k : ℕ} {run : Stands} {i b e : ℕ} → 0 < d → Room ws c → Comparing ws c rules sets₀ sets ends₀ ends' n f d k run i b → i < run.past → e ≡ get_or ws (2 + 8 * i) 0
    → (m ≤ n) × (take n sets' ≡ take n sets) × (take m (drop n sets') ≡ keep (covers (field_at rules f) e) (take n sets)) → length sets' ≡ length sets → n ≤ length sets → Turn ws c rules sets₀ sets sets' ends₀ ends' n m f d k run i b
turn p r o l w v g h = record { some = λ z. omega arith; so_far = o; e = _; is_end = w; narrows = record { few = v.0; kept = v.1; next = v.2 }; long = g; fits = h; room = r; inside = l }

-- CHAIN. No field is left:
pub compare_chain-returns-then-left-eq0 : goal.compare_chain-returns-then-left-eq0
compare_chain-returns-then-left-eq0 t c = compared_none _ _ _ _ _ _ _ c.if-left-eq0.true c.leaf.ensures

-- the one cell differs
pub compare_chain-returns-then-not-one_is : goal.compare_chain-returns-then-not-one_is
compare_chain-returns-then-not-one_is t c = flat_no c.if-left-eq0.false (rw c.of-rows.ensures at (c.flat.ensures c.if-not-flat.false)) c.requires.0 c.requires.3 c.one_is.ensures c.if-not-one_is.true

-- it stands, so it is one of the cells; what is below it is compared, with a field less
pub compare_chain-compare_chain-requires : goal.compare_chain-compare_chain-requires
compare_chain-compare_chain-requires t c =
    let p = c.requires in
    let some : 0 < c.args.left = omega (arith, c.if-left-eq0.false) in
    let inside : c.args.k < c.args.c = flat_inside c.if-left-eq0.false (rw c.of-rows.ensures at (c.flat.ensures c.if-not-flat.false)) p.0 p.3 c.one_is.ensures c.if-not-one_is.false in
    (omega (arith, c.decreases), (p.0, scratch_on p.1 some, omega (arith, p.2), omega arith))

pub compare_chain-returns-in_err-under : goal.compare_chain-returns-in_err-under
compare_chain-returns-in_err-under t c = c.from_residual.ensures ∙ flat_not c.if-left-eq0.false (rw c.of-rows.ensures at (c.flat.ensures c.if-not-flat.false)) c.requires.0 c.requires.3 c.one_is.ensures c.if-not-one_is.false c.compare_chain.ensures c.in_err-under.was

pub compare_chain-rest_is-requires : goal.compare_chain-rest_is-requires
compare_chain-rest_is-requires t c = (c.requires.0, flat_inside c.if-left-eq0.false (rw c.of-rows.ensures at (c.flat.ensures c.if-not-flat.false)) c.requires.0 c.requires.3 c.one_is.ensures c.if-not-one_is.false)

pub compare_chain-returns : goal.compare_chain-returns
compare_chain-returns t c =
    let a = c.args in
    let u : told a.words.now a.c (a.k + 1) (tree_at a.rules.now (a.field + 1) (a.left - 1) (take a.n a.sets.now)) ≡ Some c.if-left-eq1.under =
    elim c.if-left-eq1.branch [
      | compare_chain-then-left-eq1 w ↦ rw w.under-is (sym (compared_none _ _ _ _ _ _ _ (omega (arith, w.if-left-eq1.true)) w.leaf-under.ensures))
      | compare_chain-else-left-eq1+in_ok-under w ↦ rw w.under-is (sym w.compare_chain.ensures ∙ w.in_ok-under.was)
    ]
    in
    c.then_some.ensures ∙ flat_says c.if-left-eq0.false (rw c.of-rows.ensures at (c.flat.ensures c.if-not-flat.false)) c.requires.0 c.requires.3 c.one_is.ensures c.if-not-one_is.false refl u c.rest_is.ensures

-- RUN. Its ends differ:
pub compare_run-returns-in_err-run : goal.compare_run-returns-in_err-run
compare_run-returns-in_err-run t c = let p = c.requires in c.from_residual.ensures ∙ compared_run _ _ _ _ _ _ _ (λ z. omega (arith, p.0)) p.1 c.run_is.ensures c.in_err-run.was

-- they stand
pub compare_run-loop-i-init : goal.compare_run-loop-i-init
compare_run-loop-i-init t c =
    let p = c.requires in
    record { compared = compared_start _ _ _ _ _ _ _ (λ z. omega (arith, p.0)) p.4 c.run_is.ensures c.in_ok-run.was; set_kept = refl; sets_long = refl; ends_long = refl }

-- the three ends of a turn
pub compare_run-returns-in_err-under : goal.compare_run-returns-in_err-under
compare_run-returns-in_err-under t c = c.from_residual-in_err-under.ensures ∙ turn_not (turn c.requires.0 c.requires.1 c.loop-i.invariant c.loop-i-test.true c.end_at-e.ensures (rw c.of-rows.ensures at c.narrow-m.ensures) c.narrow-m.auto.sets (omega arith)) c.compare_chain.ensures c.in_err-under.was

pub compare_run-returns-then-not-rest_is : goal.compare_run-returns-then-not-rest_is
compare_run-returns-then-not-rest_is t c = turn_no (turn c.requires.0 c.requires.1 c.loop-i.invariant c.loop-i-test.true c.end_at-e.ensures (rw c.of-rows.ensures at c.narrow-m.ensures) c.narrow-m.auto.sets (omega arith)) c.compare_chain.ensures c.in_ok-under.was c.rest_is.ensures c.if-not-rest_is.true

pub compare_run-loop-i-preserved : goal.compare_run-loop-i-preserved
compare_run-loop-i-preserved t c = turn_on (turn c.requires.0 c.requires.1 c.loop-i.invariant c.loop-i-test.true c.end_at-e.ensures (rw c.of-rows.ensures at c.narrow-m.ensures) c.narrow-m.auto.sets (omega arith)) c.compare_chain.ensures c.in_ok-under.was c.rest_is.ensures c.if-not-rest_is.false c.compare_chain.new.sets (omega arith) c.compare_chain.auto.ends

pub compare_run-returns : goal.compare_run-returns
compare_run-returns t c = compared_end (λ z. omega (arith, c.requires.0)) c.loop-i.invariant.compared c.loop-i-test.false
