-- An edit in three steps: the cells are emptied, the front is written, the tree is planted. What stands in the words at each of them, and that they come to the words of the new table.
-- Assumes nothing.
use mathlib.Core.Path.{◌≡◌, sym, ap, ap₂, ◌∙◌}
use mathlib.Core.Bool.{true}
use mathlib.Core.List.{List, [], ◌++◌, append_assoc}
use Prim.Native.Nat.{ℕ, suc, ◌+◌, ◌-◌, ◌*◌, ◌≤◌}
use native.Mathlib.Omega.{arith}
use lib.ListN.{length, take, drop, length-append, length-take, length-drop}
use lib.Seq.{take_at, drop_at, length-take-le, drop-drop, take-add}
use borrow.Rule.Slice.PartMut.{put_mid, post_of, Post-is, same_len_mid, mid_len}
use Rattle.model.specs.Rules.{stop, cells}
use Rattle.model.specs.Table.{Kind, Shaped, row_words, Table, within, cells_of}
use Rattle.rows.specs.Rows.{tree_at, Scratch}
use Rattle.cells.specs.Text.{part}
use Rattle.cells.specs.Planted.{Plantable}
use Rattle.cells.proofs.Text.{part_length}
use Rattle.table.specs.Rows.{rows_text, places}
use Rattle.table.proofs.Edits.{rows_long}
use Rattle.layout.specs.Named.{stored}
use Rattle.layout.specs.Store.{size, head_text, text, rows_of, part_of, holding}
use Rattle.layout.specs.Inner.{front_text, Bare, planted}
use Rattle.layout.proofs.Parts.{head_length, scratch_few, rows_long as rows_in}
use Rattle.layout.proofs.Passed.{rows_cells}
use Rattle.front.proofs.Front.{front_length}

-- THE TREE PLANTED in the part of the words from the rows on: H is the code's head, E its end of the rows
module _ (k : Kind) (c : ℕ) (ws : List ℕ) (E : ℕ) (f : E ≡ k.head + row_words k) (bare : Bare k ws c) where
  part_from : E + (2 + 8 * c) - k.head ≡ row_words k + (2 + 8 * c)
  part_from = omega arith

  mid_parts : take (E + (2 + 8 * c) - k.head) (drop k.head ws) ≡ rows_of k ws ++ part_of k c ws
  mid_parts =
      ap (λ n. take n (drop k.head ws)) part_from
      ∙ (take-add (row_words k) (2 + 8 * c) (drop k.head ws)
      ∙ ap (λ xs. rows_of k ws ++ take (2 + 8 * c) xs) (drop-drop (row_words k) k.head ws))

  base : E - k.head ≡ row_words k
  base = omega arith

  pub mid_rules : take (E - k.head) (take (E + (2 + 8 * c) - k.head) (drop k.head ws)) ≡ rows_of k ws
  mid_rules = ap₂ take base mid_parts ∙ take_at (rows_of k ws) (part_of k c ws) (row_words k) (rows_in k ws c bare.long)

  pub mid_bare : drop (E - k.head) (take (E + (2 + 8 * c) - k.head) (drop k.head ws)) ≡ part c stop
  mid_bare = ap₂ drop base mid_parts ∙ (drop_at (rows_of k ws) (part_of k c ws) (row_words k) (rows_in k ws c bare.long) ∙ bare.free)

  pub mid_inside : E - k.head ≤ length (take (E + (2 + 8 * c) - k.head) (drop k.head ws))
  mid_inside = simp (length-take, length-drop) (omega (arith, bare.long))

  pub mid_planted : (n : ℕ) (xs : List ℕ) → xs ≡ take (E - k.head) (take (E + (2 + 8 * c) - k.head) (drop k.head ws)) ++ part c (tree_at (take (E - k.head) (take (E + (2 + 8 * c) - k.head) (drop k.head ws))) 0 (length k.tops) (places k.width n))
      → put_mid k.head (E + (2 + 8 * c) - k.head) ws xs ≡ planted k c n ws
  unfolding planted
  mid_planted n xs e =
      let t = part c (tree_at (rows_of k ws) 0 (length k.tops) (places k.width n)) in
      let g = e ∙ ap (λ rs. rs ++ part c (tree_at rs 0 (length k.tops) (places k.width n))) mid_rules in
      let z : E + (2 + 8 * c) ≡ size k c = omega arith in
      ap₂ (λ ys zs. take k.head ws ++ (ys ++ zs)) g (Post-is k.head (E + (2 + 8 * c)) ws (omega arith) ∙ ap (λ i. drop i ws) z)
      ∙ (ap (λ ys. take k.head ws ++ ys) (append_assoc (rows_of k ws) t (drop (size k c) ws))
      ∙ (sym (append_assoc (take k.head ws) (rows_of k ws) (t ++ drop (size k c) ws))
      ∙ ap (λ ys. ys ++ (t ++ drop (size k c) ws)) (sym (take-add k.head (row_words k) ws))))

  -- with the rules' places written into the scratch for sets
  module _ (n : ℕ) (sets : List ℕ) (e : take (n + 1) sets ≡ places k.width n) where
    pub plantable : {before ends : List ℕ} → length sets ≡ length before → Scratch (suc k.most) (length k.tops) before ends → n ≤ k.most → length k.tops ≤ 62
        → cells (tree_at (rows_of k ws) 0 (length k.tops) (places k.width n)) ≤ c
        → Plantable (take (E + (2 + 8 * c) - k.head) (drop k.head ws)) (E - k.head) c sets (n + 1) (length k.tops) ends
    plantable l sc few deep room =
        let z : n + 1 ≤ suc k.most = omega arith in
        let g = scratch_few (n + 1) sc z in
        record { inside = mid_inside; bare = mid_bare; most = bare.most; room = rw (mid_rules, e) room; scratch = record { places = omega (arith, l, g.places); room = g.room }; depth = deep }

    pub sets_planted : (xs : List ℕ) → xs ≡ take (E - k.head) (take (E + (2 + 8 * c) - k.head) (drop k.head ws)) ++ part c (tree_at (take (E - k.head) (take (E + (2 + 8 * c) - k.head) (drop k.head ws))) 0 (length k.tops) (take (n + 1) sets))
        → put_mid k.head (E + (2 + 8 * c) - k.head) ws xs ≡ planted k c n ws
    sets_planted xs h = mid_planted n xs (rw e at h)

-- the emptied words are as long as they were
pub still_long : (c E : ℕ) (ws p : List ℕ) → E + (2 + 8 * c) ≤ length ws → c ≤ 65536 → p ≡ part c stop → length (put_mid E (E + (2 + 8 * c) - E) ws p) ≡ length ws
still_long c E ws p h m e =
    let z : E + (2 + 8 * c) - E ≡ 2 + 8 * c = omega arith in
    same_len_mid E (E + (2 + 8 * c) - E) ws p (ap length e ∙ (part_length c stop (omega arith) ∙ (sym z ∙ sym (mid_len E (E + (2 + 8 * c)) ws h))))

-- THE THREE STEPS over the words of a store of c cells, with the code's end of the rows: p is the emptied part, x the front of the table t
module _ (k : Kind) (sh : Shaped k) (c E : ℕ) (f : E ≡ k.head + row_words k) (ws p x : List ℕ) (most : c ≤ 65536) (long : size k c ≤ length ws) (e : p ≡ part c stop) (t : Table) (g : x ≡ front_text k c t) where
  abbrev after : List ℕ
  after = x ++ drop E (put_mid E (E + (2 + 8 * c) - E) ws p)

  x_long : length x ≡ k.head + row_words k
  x_long = ap length g ∙ front_length k sh c t

  p_long : length p ≡ 2 + 8 * c
  p_long = ap length e ∙ part_length c stop (omega arith)

  -- what stands behind the front
  behind : drop E (put_mid E (E + (2 + 8 * c) - E) ws p) ≡ p ++ drop (size k c) ws
  behind =
      let z : E + (2 + 8 * c) ≡ size k c = omega arith in
      drop_at (take E ws) (p ++ post_of E (E + (2 + 8 * c) - E) ws) E (length-take-le E ws (omega arith))
      ∙ ap (λ ys. p ++ ys) (Post-is E (E + (2 + 8 * c)) ws (omega arith) ∙ ap (λ i. drop i ws) z)

  whole : x ++ drop E (put_mid E (E + (2 + 8 * c) - E) ws p) ≡ head_text k c (length t.rules) ++ (rows_text k t ++ (p ++ drop (size k c) ws))
  unfolding front_text
  whole = ap₂ ◌++◌ g behind ∙ append_assoc (head_text k c (length t.rules)) (rows_text k t) (p ++ drop (size k c) ws)

  after_rows : rows_of k (x ++ drop E (put_mid E (E + (2 + 8 * c) - E) ws p)) ≡ rows_text k t
  after_rows =
      ap (λ ys. take (row_words k) (drop k.head ys)) whole
      ∙ (ap (take (row_words k)) (drop_at (head_text k c (length t.rules)) (rows_text k t ++ (p ++ drop (size k c) ws)) k.head (head_length k sh c (length t.rules) []))
      ∙ take_at (rows_text k t) (p ++ drop (size k c) ws) (row_words k) (rows_long k t))

  after_part : drop (k.head + row_words k) (x ++ drop E (put_mid E (E + (2 + 8 * c) - E) ws p)) ≡ p ++ drop (size k c) ws
  after_part = drop_at x _ (k.head + row_words k) x_long ∙ behind

  pub ready_bare : Bare k (x ++ drop E (put_mid E (E + (2 + 8 * c) - E) ws p)) c
  ready_bare = record {
    most = most;
    long = omega (arith, ap length behind, length-append p (drop (size k c) ws), length-drop (size k c) ws, p_long, x_long, length-append x (drop E (put_mid E (E + (2 + 8 * c) - E) ws p)));
    free = ap (take (2 + 8 * c)) after_part ∙ (take_at p (drop (size k c) ws) (2 + 8 * c) p_long ∙ e);
  }

  module _ (n : ℕ) (count : n ≡ length t.rules) (right : within k t ≡ true) where
    pub ready_room : cells_of k t ≤ c → cells (tree_at (rows_of k (x ++ drop E (put_mid E (E + (2 + 8 * c) - E) ws p))) 0 (length k.tops) (places k.width n)) ≤ c
    ready_room h = omega (arith, rows_cells k sh n _ t count after_rows right)

    -- SO ALL WORDS are those of the table's store, and the words behind are as they were
    pub done_words : planted k c n (x ++ drop E (put_mid E (E + (2 + 8 * c) - E) ws p)) ≡ holding k c t ws
    unfolding planted text stored front_text
    done_words =
        let T = part c (tree_at (rows_text k t) 0 (length k.tops) (places k.width (length t.rules))) in
        let a = take_at x (drop E (put_mid E (E + (2 + 8 * c) - E) ws p)) (k.head + row_words k) x_long ∙ g in
        let b = ap₂ (λ rs m. part c (tree_at rs 0 (length k.tops) (places k.width m))) after_rows count in
        let z : k.head + row_words k + (2 + 8 * c) ≡ size k c = omega arith in
        let d = ap (λ i. drop i after) (sym z) ∙ (sym (drop-drop (2 + 8 * c) (k.head + row_words k) after) ∙ (ap (drop (2 + 8 * c)) after_part ∙ drop_at p (drop (size k c) ws) (2 + 8 * c) p_long)) in
        ap₂ ◌++◌ a (ap₂ ◌++◌ b d)
        ∙ (append_assoc (head_text k c (length t.rules)) (rows_text k t) (T ++ drop (size k c) ws)
        ∙ (ap (λ ys. head_text k c (length t.rules) ++ ys) (sym (append_assoc (rows_text k t) T (drop (size k c) ws)))
        ∙ sym (append_assoc (head_text k c (length t.rules)) (rows_text k t ++ T) (drop (size k c) ws))))
