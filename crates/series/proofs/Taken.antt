-- Lists of edits of which all are accepted: what an answer 0 says, and that the table after them is within the limits and fits.
-- Assumes nothing.
use mathlib.Core.Path.{◌≡◌, refl, sym, ap, ◌∙◌}
use mathlib.Core.Bool.{true, false}
use mathlib.Core.List.{List, [], ◌∷◌}
use Prim.Native.Nat.{ℕ, zero, suc, ◌+◌, ◌≤◌}
use native.Mathlib.Omega.{arith}
use lib.Dec.{ltb, eqb}
use lib.ListN.{length}
use borrow.Author.Tests.{eq-eqb, ltb-false, eqb-true}
use Rattle.model.specs.Table.{Kind, Table, cells_of, within}
use Rattle.model.proofs.Tests.{by_test}
use Rattle.model.proofs.Edits.{taken, insert_within, delete_within, delete_fewer}
use Rattle.layout.specs.Store.{cells_in, table_of, passes}
use Rattle.series.specs.Edits.{Edit, inserts, deletes, edit_answer, edited, edited_all, first_refusal, list_says, edits_from}
use Rattle.series.specs.Inner.{AllTaken}

-- so many edits as are read of some words
pub edits_length : (f s n : ℕ) (xs : List ℕ) (i : ℕ) → length (edits_from f s n xs i) ≡ n
edits_length f s zero xs i = refl
edits_length f s (suc n) xs i = ap suc (edits_length f s n xs (i + s))

-- AN ACCEPTED EDIT leaves a table within the limits, in as many cells as there are
pub taken_right : (k : Kind) (c : ℕ) (t : Table) (e : Edit) → within k t ≡ true → edit_answer k c t e ≡ 0 → within k (edited t e) ≡ true
taken_right k c t (inserts r) h a = insert_within k c t r h a
taken_right k c t (deletes n) h a = delete_within k n t h

taken_fits : (k : Kind) (c : ℕ) (t : Table) (e : Edit) → cells_of k t ≤ c → edit_answer k c t e ≡ 0 → cells_of k (edited t e) ≤ c
taken_fits k c t (inserts r) h a = (taken k c t r a).cells
taken_fits k c t (deletes n) h a = omega (arith, delete_fewer k n t)

-- and so do all edits of a list
pub all_right : (k : Kind) (c : ℕ) (t : Table) (es : List Edit) → within k t ≡ true → AllTaken k c t es → within k (edited_all t es) ≡ true
all_right k c t [] h a = h
all_right k c t (e ∷ es) h a = all_right k c (edited t e) es (taken_right k c t e h a.0) a.1

pub all_fits : (k : Kind) (c : ℕ) (t : Table) (es : List Edit) → cells_of k t ≤ c → AllTaken k c t es → cells_of k (edited_all t es) ≤ c
all_fits k c t [] h a = h
all_fits k c t (e ∷ es) h a = all_fits k c (edited t e) es (taken_fits k c t e h a.0) a.1

-- none of the edits is refused where the answer is 0
all_taken : (k : Kind) (c p : ℕ) (t : Table) (es : List Edit) → (first_refusal k c p t es).answer ≡ 0 → AllTaken k c t es
all_taken k c p t [] h = tt
all_taken k c p t (e ∷ es) h = by_test (eqb (edit_answer k c t e) 0)
    (λ q. (eqb-true (edit_answer k c t e) 0 q, all_taken k c (suc p) (edited t e) es (rw q at h)))
    (λ q. absurd (let z : edit_answer k c t e ≡ 0 = rw q at h in let y : ◌≡◌ {A = ℕ} 0 1 = absurd (false_true q z) in omega arith))
  where
    false_true : {x : ℕ} → eqb x 0 ≡ false → x ≡ 0 → ⊥
    false_true {x} q z = let y : true ≡ false = sym (eq-eqb x 0 z) ∙ q in let w : ◌≡◌ {A = ℕ} 0 1 = cc in omega arith

-- A LIST THAT IS DONE
pub record Accepted (k : Kind) (ws : List ℕ) (es : List Edit) : Type 0 where
  pub long : length es ≤ 32
  pub passed : passes k ws ≡ true
  pub taken : AllTaken k (cells_in ws) (table_of k ws) es

pub accepted : (k : Kind) (ws : List ℕ) (es : List Edit) → (list_says k ws es).answer ≡ 0 → Accepted k ws es
unfolding list_says
accepted k ws es h = by_test (eqb (length es) 0)
    (λ a. absurd (let z : 15 ≡ 0 = rw a at h in omega arith))
    (λ a. by_test (ltb 32 (length es))
    (λ b. absurd (let z : 15 ≡ 0 = rw (a, b) at h in omega arith))
    (λ b. by_test (passes k ws)
    (λ p. record { long = ltb-false 32 (length es) b; passed = p; taken = all_taken k (cells_in ws) 0 (table_of k ws) es (rw (a, b, p) at h) })
    (λ p. absurd (let z : 9 ≡ 0 = rw (a, b, p) at h in omega arith))))
