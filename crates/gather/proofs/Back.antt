-- The edits that stand in what is gathered of a list are the list's own, where it has at most 32; a longer list is refused by its length, which is what is counted. So a list does the same as it is lent and as it is gathered.
-- Assumes nothing.
use mathlib.Core.Path.{◌≡◌, sym, ap, ◌∙◌}
use mathlib.Core.Bool.{true}
use mathlib.Core.List.{List, map}
use Prim.Native.Nat.{ℕ, zero, suc, ◌+◌, ◌*◌, ◌≤◌, ◌<◌}
use native.Mathlib.Omega.{arith}
use lib.Dec.{ltb, eqb}
use lib.ListN.{length, get_or, drop, drop_of_length-le, length-map}
use lib.Seq.{drop-cons}
use borrow.Author.Tests.{lt-ltb, le-ltb, ltb-true, ltb-false}
use Rattle.model.specs.Table.{Kind}
use Rattle.model.proofs.Tests.{by_test}
use Rattle.model.proofs.UpTo.{get_d_up_to, up_to_same}
use Rattle.model.proofs.Grid.{get_d_grid}
use Rattle.rows.specs.Rows.{low_in, high_in}
use Rattle.table.specs.Rows.{row_word, rule_in}
use Rattle.table.proofs.Laws.{row_number, row_action, row_low, row_high}
use Rattle.series.specs.Edits.{Edit, listed, bad_length, list_says, list_words, edit_in, edits_from}
use Rattle.series.proofs.Taken.{edits_length}
use Rattle.gather.specs.declared.Edit.{Edit as Given}
use Rattle.gather.specs.Gather.{rule_of, edit_of, edit_word, no_edit, laid, gathered, edits_in}

-- words that are a rule's row hold that rule
row_back : (e : Given) (ws : List ℕ) (p : ℕ) → ((j : ℕ) → j < 14 → get_or ws (p + j) 0 ≡ row_word (rule_of e) j) → rule_in 6 ws p ≡ rule_of e
row_back e ws p h =
    let z : p + 0 ≡ p = omega arith in
    let n = rw z at (h 0 (omega arith)) ∙ row_number (rule_of e) in
    let a = h 1 (omega arith) ∙ row_action (rule_of e) in
    let l = up_to_same 6 (λ f. low_in ws f p) (λ f. get_or e.low f 0) (λ f u. h (2 + 2 * f) (omega arith) ∙ row_low (rule_of e) f ∙ get_d_up_to 6 _ f 0 u) in
    let g = up_to_same 6 (λ f. high_in ws f p) (λ f. get_or e.high f 0) (λ f u. h (3 + 2 * f) (omega arith) ∙ row_high (rule_of e) f ∙ get_d_up_to 6 _ f 0 u) in
    rw (n, a, l, g)

module _ (es : List Given) (few : length es ≤ 32) where
  word_back : (p j : ℕ) → p < length es → j < 16 → get_or (laid es (length es)) (16 * p + j) 0 ≡ edit_word (get_or es p no_edit) j
  unfolding laid
  word_back p j u v = get_d_grid 16 32 _ p j 0 (omega arith) v ∙ rw (lt-ltb p (length es) u)

  edit_back : (p : ℕ) → p < length es → edit_in 6 (laid es (length es)) (16 * p) ≡ edit_of (get_or es p no_edit)
  unfolding edit_word
  edit_back p u =
      let z : 16 * p + 0 ≡ 16 * p = omega arith in
      let r = rw z at (word_back p 0 u (omega arith)) in
      let q = row_back (get_or es p no_edit) (laid es (length es)) (16 * p + 1) (λ j v. let y : 16 * p + 1 + j ≡ 16 * p + suc j = omega arith in rw y (word_back p (suc j) u (omega arith))) in
      rw (r, q, ap (λ r. r.number) q)

  edits_back : (m p : ℕ) → p + m ≡ length es → edits_from 6 16 m (laid es (length es)) (16 * p) ≡ map edit_of (drop p es)
  edits_back zero p h = rw (drop_of_length-le es {i = p} (omega arith))
  edits_back (suc m) p h =
      let u : p < length es = omega arith in
      let z : 16 * p + 16 ≡ 16 * suc p = omega arith in
      rw (drop-cons es p no_edit u, edit_back p u, z, edits_back m (suc p) (omega arith))

  pub all_back : edits_in (gathered es) ≡ map edit_of es
  unfolding gathered
  all_back = rw (le-ltb 32 (length es) few) (edits_back (length es) 0 (omega arith))

-- so what is the same of all lists of more than 32 edits is the same of the two
module _ {X : Type 0} (f : List Edit → X) (x : X) (long : (es : List Edit) → 32 < length es → f es ≡ x) where
  alike : (es : List Given) → f (edits_in (gathered es)) ≡ f (map edit_of es)
  unfolding gathered
  alike es = by_test (ltb 32 (length es))
      (λ t. let l = ltb-true 32 (length es) t in
      long (edits_in (gathered es)) (omega (arith, edits_length 6 16 (length es) (gathered es).words 0)) ∙ sym (long (map edit_of es) (omega (arith, length-map es edit_of))))
      (λ t. ap f (all_back es (ltb-false 32 (length es) t)))

module _ (k : Kind) (ws : List ℕ) where
  bad : (es : List Edit) → 32 < length es → bad_length es ≡ true
  bad es h = by_test (eqb (length es) 0) (λ t. rw t) (λ t. rw (t, lt-ltb 32 (length es) h))

  long_says : (es : List Edit) → 32 < length es → list_says k ws es ≡ listed 15 0
  unfolding list_says
  long_says es h = rw (bad es h)

  long_words : (es : List Edit) → 32 < length es → list_words k ws es ≡ ws
  unfolding list_words
  long_words es h = rw (long_says es h)

  -- THE LAW: a list does the same as it is gathered and as it is lent
  pub same_says : (es : List Given) → list_says k ws (edits_in (gathered es)) ≡ list_says k ws (map edit_of es)
  same_says = alike (list_says k ws) (listed 15 0) long_says

  pub same_words : (es : List Given) → list_words k ws (edits_in (gathered es)) ≡ list_words k ws (map edit_of es)
  same_words = alike (list_words k ws) ws long_words
