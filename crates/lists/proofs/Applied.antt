-- The front of a store while the edits of a list are done in it, one after the other: what stands in it, that what an accepted edit asks holds, and that it comes to the front of the table after all of them.
-- Assumes nothing.
use mathlib.Core.Path.{◌≡◌, refl, sym, ap, ap₂, ◌∙◌}
use mathlib.Core.Bool.{true}
use mathlib.Core.List.{List, [], ◌∷◌, ◌++◌}
use Prim.Native.Nat.{ℕ, suc, ◌+◌, ◌-◌, ◌*◌, ◌≤◌, ◌<◌}
use native.Mathlib.Omega.{arith}
use native.Mathlib.Numerals.{add-one}
use lib.Dec.{ltb}
use lib.ListN.{length, get_or, take, drop, take-append-drop, length-drop}
use lib.Seq.{drop_at, take_all, length-take-le}
use borrow.Author.Tests.{eq-eqb, ne_eqb}
use Rattle.model.specs.Table.{Kind, Shaped, Rule, Table, row_words, rising_from, stands, with_rule, without, insert_answer, delete_answer}
use Rattle.model.proofs.Tests.{by_test}
use Rattle.model.proofs.Limits.{from_within}
use Rattle.model.proofs.Edits.{taken, insert_within, delete_within}
use Rattle.table.specs.Rows.{rows_text, rule_in, table_in, ahead, no_rule}
use Rattle.table.proofs.Edits.{at_stands}
use Rattle.layout.specs.Store.{head_text}
use Rattle.layout.specs.Inner.{front_text}
use Rattle.layout.proofs.Words.{round_trip}
use Rattle.layout.proofs.Parts.{head_length}
use Rattle.layout.proofs.Lent.{rule_front, rule_lent}
use Rattle.front.proofs.Front.{front_length}
use Rattle.series.specs.Edits.{Edit, edited, edited_all, edit_in, edits_from}
use Rattle.lists.specs.Inner.{Fronts}

-- a row that is lent as a part of the list is that of the rule there
module _ (n q m : ℕ) (xs : List ℕ) (h : q + m ≤ length xs) (k : m ≡ 2 + 2 * n) where
  pub part_long : length (take m (drop q xs)) ≡ 2 + 2 * n
  part_long = length-take-le m (drop q xs) (omega (arith, length-drop q xs)) ∙ k

  rule_part : rule_in n (take m (drop q xs)) 0 ≡ rule_in n xs q
  rule_part =
      let l = length-take-le q xs (omega arith) in
      let z : length (take q xs) + 0 ≡ q = omega arith in
      sym (rule_front n (take m (drop q xs)) (drop m (drop q xs)) 0 (omega (arith, part_long)))
      ∙ (ap (λ ys. rule_in n ys 0) (take-append-drop m (drop q xs))
      ∙ (sym (rule_lent n (take q xs) (drop q xs) 0)
      ∙ (ap₂ (λ ys i. rule_in n ys i) (take-append-drop q xs) z)))

-- what a delete that is accepted says
gone : (x : ℕ) (t : Table) → delete_answer t x ≡ 0 → stands x t.rules ≡ true
gone x t e = by_test (ltb 65534 x)
    (λ l. absurd (let z : 1 ≡ 0 = sym (rw l) ∙ e in omega arith))
    (λ l. by_test (stands x t.rules) (λ s. s) (λ s. absurd (let z : 4 ≡ 0 = sym (rw (l, s)) ∙ e in omega arith)))

-- THE FRONT of a store: its length, the number of its rules, and its table
module _ (k : Kind) (sh : Shaped k) (c : ℕ) (t : Table) (es : List Edit) (ws : List ℕ) (f : Fronts k c t es ws) where
  pub fronts_long : length ws ≡ k.head + row_words k
  fronts_long = ap length f.text ∙ front_length k sh c t

  pub fronts_count : get_or ws 1 0 ≡ length t.rules
  unfolding front_text head_text
  fronts_count = ap (λ xs. get_or xs 1 0) f.text

  pub fronts_few : get_or ws 1 0 ≤ k.most
  fronts_few = omega (arith, fronts_count, (from_within k t f.right).fits)

  fronts_rows : take (length ws - k.head) (drop k.head ws) ≡ rows_text k t
  unfolding front_text
  fronts_rows =
      take_all (length ws - k.head) (drop k.head ws) (omega (arith, length-drop k.head ws))
      ∙ ap (drop k.head) f.text ∙ drop_at (head_text k c (length t.rules)) (rows_text k t) k.head (head_length k sh c (length t.rules) [])

  -- the table that the code reads of it
  pub fronts_table : table_in k (get_or ws 1 0) (take (length ws - k.head) (drop k.head ws)) ≡ t
  fronts_table = ap₂ (table_in k) fronts_count fronts_rows ∙ round_trip k sh t f.right

  pub fronts_rising : rising_from 0 (table_in k (get_or ws 1 0) (take (length ws - k.head) (drop k.head ws))).rules ≡ true
  fronts_rising = ap (λ u. rising_from 0 u.rules) fronts_table ∙ (from_within k t f.right).rising

-- AN INSERT of the list, whose row begins behind word i, and a number's place in the front
module _ (k : Kind) (sh : Shaped k) (c : ℕ) (t : Table) (es : List Edit) (xs : List ℕ) (i : ℕ) (ws : List ℕ) (f : Fronts k c t (edit_in (length k.tops) xs i ∷ es) ws) where
  abbrev R : Rule
  R = rule_in (length k.tops) xs (i + 1)

  pub place_at : (p x : ℕ) → p ≡ ahead x (table_in k (get_or ws 1 0) (take (length ws - k.head) (drop k.head ws))).rules → p ≡ ahead x t.rules
  place_at p x e = e ∙ ap (λ u. ahead x u.rules) (fronts_table k sh c t _ ws f)

  module _ (e : get_or xs i 0 ≡ 0) where
    answer_0 : insert_answer k c t R ≡ 0
    answer_0 = rw (eq-eqb (get_or xs i 0) 0 e) at f.taken.0

    pub put_room : get_or ws 1 0 < k.most
    put_room = omega (arith, fronts_count k sh c t _ ws f, (taken k c t R answer_0).room)

    -- the rule is put in as a part of the list
    pub put_place : (m : ℕ) → i + 1 + m ≤ length xs → m ≡ 2 + 2 * length k.tops → (p : ℕ) → p ≡ ahead (get_or xs (i + 1) 0) (table_in k (get_or ws 1 0) (take (length ws - k.head) (drop k.head ws))).rules → p ≡ ahead (get_or (take m (drop (i + 1) xs)) 0 0) t.rules
    put_place m l y p q = place_at p (get_or xs (i + 1) 0) q ∙ ap (λ r. ahead r.number t.rules) (sym (rule_part (length k.tops) (i + 1) m xs l y))

    pub put_on : (m : ℕ) → i + 1 + m ≤ length xs → m ≡ 2 + 2 * length k.tops → (new : List ℕ) → new ≡ front_text k c (with_rule (rule_in (length k.tops) (take m (drop (i + 1) xs)) 0) t) → Fronts k c (edited t (edit_in (length k.tops) xs i)) es new
    put_on m l y new g =
        let a = f.taken.1 in
        let z = g ∙ ap (λ r. front_text k c (with_rule r t)) (rule_part (length k.tops) (i + 1) m xs l y) in
        rw (eq-eqb (get_or xs i 0) 0 e) (record { right = insert_within k c t R f.right answer_0; text = z; taken = rw (eq-eqb (get_or xs i 0) 0 e) at a })

  module _ (e : get_or xs i 0 ≡ 0 → ⊥) where
    answer_gone : delete_answer t (get_or xs (i + 1) 0) ≡ 0
    answer_gone = rw (ne_eqb (get_or xs i 0) 0 e) at f.taken.0

    pub take_stands : stands (get_or xs (i + 1) 0) t.rules ≡ true
    take_stands = gone (get_or xs (i + 1) 0) t answer_gone

    pub take_place : (p : ℕ) → p ≡ ahead (get_or xs (i + 1) 0) t.rules → p < get_or ws 1 0
    take_place p q = omega (arith, (at_stands (get_or xs (i + 1) 0) no_rule 0 t.rules (from_within k t f.right).rising take_stands).0, fronts_count k sh c t _ ws f)

    pub take_on : (new : List ℕ) → new ≡ front_text k c (without (get_or xs (i + 1) 0) t) → Fronts k c (edited t (edit_in (length k.tops) xs i)) es new
    take_on new g =
        let a = f.taken.1 in
        rw (ne_eqb (get_or xs i 0) 0 e) (record { right = delete_within k (get_or xs (i + 1) 0) t f.right; text = g; taken = rw (ne_eqb (get_or xs i 0) 0 e) at a })

-- ALL EDITS: those that are still to be done, and what they come to
pub record Still (k : Kind) (c : ℕ) (es : List Edit) (ws : List ℕ) (last : Table) : Type 0 where
  pub table : Table
  pub fronts : Fronts k c table es ws
  pub comes : edited_all table es ≡ last

module _ (k : Kind) (c s count p : ℕ) (xs ws : List ℕ) (last : Table) where
  -- the next one of them
  pub still_next : p < count → Still k c (edits_from (length k.tops) s (count - p) xs (s * p)) ws last → Still k c (edit_in (length k.tops) xs (s * p) ∷ edits_from (length k.tops) s (count - (p + 1)) xs (s * (p + 1))) ws last
  still_next h w =
      let z : count - p ≡ suc (count - (p + 1)) = omega arith in
      let y : s * p + s ≡ s * (p + 1) = rw (add-one p) (omega arith) in
      rw (z, y) at w

  pub still_end : count ≤ p → Still k c (edits_from (length k.tops) s (count - p) xs (s * p)) ws last → ws ≡ front_text k c last
  still_end h w = let z : count - p ≡ 0 = omega arith in let y = rw z at w in y.fronts.text ∙ ap (front_text k c) y.comes

pub still_on : (k : Kind) (c : ℕ) (e : Edit) (es : List Edit) (ws new : List ℕ) (last : Table) (w : Still k c (e ∷ es) ws last) → Fronts k c (edited w.table e) es new → Still k c es new last
still_on k c e es ws new last w f = record { table = edited w.table e; fronts = f; comes = w.comes }

pub still_first : (k : Kind) (c s count : ℕ) (xs ws : List ℕ) (t : Table) → Fronts k c t (edits_from (length k.tops) s count xs 0) ws → Still k c (edits_from (length k.tops) s (count - 0) xs (s * 0)) ws (edited_all t (edits_from (length k.tops) s count xs 0))
still_first k c s count xs ws t f = let z : count - 0 ≡ count = omega arith in let y : s * 0 ≡ 0 = omega arith in rw (z, y) (record { table = t; fronts = f; comes = refl })

-- the number of rules, where more words stand behind the front
pub count_before : (k : Kind) (c : ℕ) (t : Table) (front behind : List ℕ) → front ≡ front_text k c t → get_or (front ++ behind) 1 0 ≡ length t.rules
unfolding front_text head_text
count_before k c t front behind e = ap (λ xs. get_or (xs ++ behind) 1 0) e
