-- What an edit of a list answers in the table that a set names, and the list on its way.
-- Assumes nothing.
use mathlib.Core.Path.{◌≡◌, sym, ap, ap₂, ◌∙◌}
use mathlib.Core.Bool.{true}
use mathlib.Core.List.{List, ◌∷◌, ◌++◌, map}
use Prim.Native.Nat.{ℕ, suc, ◌+◌, ◌-◌, ◌*◌, ◌≤◌, ◌<◌}
use native.Mathlib.Omega.{arith}
use native.Mathlib.Numerals.{add-one}
use lib.ListN.{length, get_or, take}
use borrow.Author.Tests.{eq-eqb, ne_eqb, le-leb}
use Rattle.std.specs.Prelude.{Result, IfOk}
use Rattle.refusal.specs.declared.Refusal.{Refusal}
use Rattle.refusal.specs.Refusals.{number_of, answer_of}
use Rattle.refusal.proofs.Numbers.{refuses}
use Rattle.model.specs.Table.{Kind, Table, within, with_rule, without, insert_answer, delete_answer}
use Rattle.table.specs.Rows.{rule_in, table_in, places}
use Rattle.table.proofs.Laws.{rules_length}
use Rattle.layout.specs.Inner.{TableHeld}
use Rattle.layout.proofs.Lent.{front_rules, front_default}
use Rattle.roster.specs.Inner.{Named}
use Rattle.series.specs.declared.Listed.{Listed}
use Rattle.series.specs.Edits.{Edit, edit_answer, edited, listed, first_refusal, edit_in, edits_from}

-- AN EDIT of a list, by its first word
module _ (k : Kind) (c : ℕ) (t : Table) (ws set xs : List ℕ) (i : ℕ) (d : Result ℕ Refusal) where
  pub insert_step : get_or xs i 0 ≡ 0 → (answer_of d ≡ insert_answer k c t (rule_in (length k.tops) xs (i + 1))) × IfOk d (λ m. Named k ws m set (with_rule (rule_in (length k.tops) xs (i + 1)) t))
      → (answer_of d ≡ edit_answer k c t (edit_in (length k.tops) xs i)) × IfOk d (λ m. Named k ws m set (edited t (edit_in (length k.tops) xs i)))
  insert_step e q = rw (eq-eqb (get_or xs i 0) 0 e) q

  pub delete_step : (get_or xs i 0 ≡ 0 → ⊥) → (x : ℕ) → x ≡ get_or xs (i + 1) 0 → (answer_of d ≡ delete_answer t x) × IfOk d (λ m. Named k ws m set (without x t))
      → (answer_of d ≡ edit_answer k c t (edit_in (length k.tops) xs i)) × IfOk d (λ m. Named k ws m set (edited t (edit_in (length k.tops) xs i)))
  delete_step e x y q = rw (ne_eqb (get_or xs i 0) 0 e) (rw y at q)

-- A LIST ON ITS WAY: p edits are accepted, a set names the table that they leave, and what the others answer in it is what the whole list answers
pub record Going (k : Kind) (c : ℕ) (ws : List ℕ) (n : ℕ) (set : List ℕ) (p : ℕ) (es : List Edit) (whole : Listed) : Type 0 where
  pub table : Table
  pub named : Named k ws n set table
  pub answers : first_refusal k c p table es ≡ whole

-- before the first of them the set is that of the rows
pub going_first : (k : Kind) (c n : ℕ) (rows xs set : List ℕ) (s count : ℕ) → TableHeld k n rows → take (n + 1) set ≡ places k.width n
    → Going k c (rows ++ xs) n set 0 (edits_from (length k.tops) s (count - 0) xs (s * 0)) (first_refusal k c 0 (table_in k n rows) (edits_from (length k.tops) s count xs 0))
going_first k c n rows xs set s count d e =
    let T = table_in k n rows in
    let l = rules_length k n rows in
    let right : within k T ≡ true = rw (le-leb (length T.rules) k.most (omega (arith, l, d.rowed.fit)), d.rising) d.right in
    record {
      table = T;
      named = record {
        count = sym l;
        rules = ap₂ (λ ys ps. map (rule_in (length k.tops) (ys ++ xs)) ps) d.text (e ∙ ap (places k.width) (sym l)) ∙ front_rules k d.rowed.shaped T right xs;
        first = ap (λ ys. rule_in (length k.tops) (ys ++ xs) 0) d.text ∙ front_default k d.rowed.shaped T right xs;
        right = right;
      };
      answers = let z : count - 0 ≡ count = omega arith in let y : s * 0 ≡ 0 = omega arith in ap₂ (λ m i. first_refusal k c 0 T (edits_from (length k.tops) s m xs i)) z y;
    }

module _ (k : Kind) (c : ℕ) (ws : List ℕ) (n : ℕ) (set xs : List ℕ) (s count p : ℕ) (whole : Listed) (g : Going k c ws n set p (edits_from (length k.tops) s (count - p) xs (s * p)) whole) where
  abbrev E : Edit
  E = edit_in (length k.tops) xs (s * p)

  pub going_end : count ≤ p → listed 0 0 ≡ whole
  going_end h = let z : count - p ≡ 0 = omega arith in rw z at g.answers

  -- an edit more, with what was found of it
  module _ (h : p < count) where
    abbrev rest : List Edit
    rest = edits_from (length k.tops) s (count - (p + 1)) xs (s * (p + 1))

    here : first_refusal k c p g.table (E ∷ rest) ≡ whole
    here =
        let z : count - p ≡ suc (count - (p + 1)) = omega arith in
        let y : s * p + s ≡ s * (p + 1) = rw (add-one p) (omega arith) in
        rw (z, y) at g.answers

    pub going_refused : (r : Refusal) → ((t : Table) → Named k ws n set t → number_of r ≡ edit_answer k c t (edit_in (length k.tops) xs (s * p))) → listed (number_of r) (p + 1) ≡ whole
    going_refused r said =
        let e = said g.table g.named in
        ap₂ listed e (add-one p) ∙ (rw (ne_eqb (edit_answer k c g.table E) 0 (λ z. refuses r (e ∙ z))) at here)

    pub going_on : (new : List ℕ) (m : ℕ) → ((t : Table) → Named k ws n set t → (0 ≡ edit_answer k c t (edit_in (length k.tops) xs (s * p))) × Named k ws m new (edited t (edit_in (length k.tops) xs (s * p))))
        → Going k c ws m new (p + 1) (edits_from (length k.tops) s (count - (p + 1)) xs (s * (p + 1))) whole
    going_on new m said =
        let d = said g.table g.named in
        record {
          table = edited g.table E;
          named = d.1;
          answers = ap (λ j. first_refusal k c j (edited g.table E) rest) (add-one p) ∙ (rw (eq-eqb (edit_answer k c g.table E) 0 (sym d.0)) at here);
        }
