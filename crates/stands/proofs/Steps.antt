-- The steps of a comparison: the run of a chain by its ends, from the highest down; what is below each of its cells; and the free chain.
-- Assumes nothing.
use mathlib.Core.Path.{◌≡◌, refl, sym, ap, ◌∙◌}
use mathlib.Core.Bool.{Bool, true, false, ◌&&◌}
use mathlib.Core.List.{List, [], ◌∷◌, ◌++◌, append_assoc, append-nil}
use Prim.Native.Nat.{ℕ, zero, suc, ◌+◌, ◌-◌, ◌*◌, ◌≤◌, ◌<◌}
use native.Mathlib.Nat.{add-zero}
use native.Mathlib.Omega.{arith}
use native.Mathlib.Numerals.{add-one}
use lib.Dec.{ltb}
use lib.ListN.{length, get_or, drop, drop_of_length-le, length-drop}
use lib.Seq.{drop-cons, drop_at}
use borrow.Author.Tests.{ltb-true, lt-ltb, le-ltb, eqb-true}
use Rattle.model.specs.Lists.{keep}
use Rattle.model.specs.Rules.{covers, ends, Tree, names, chain, cells}
use Rattle.model.proofs.Tests.{never, by_test, and_left, and_right, and_both, same_test}
use Rattle.rows.specs.Rows.{field_at, first_of, tree_at, under_at}
use Rattle.rows.proofs.Sets.{tree_none, tree_step}
use Rattle.cells.specs.Text.{cell_word, only_down, cell, frees, low, row, width, under, first, marks, belows}
use Rattle.std.specs.Prelude.{Option, Some, None}
use Rattle.stands.specs.declared.Stands.{Stands}
use Rattle.std.specs.List.{push, list_all, range_with_len}
use Rattle.model.specs.Lists.{same}
use Rattle.stands.specs.Stands.{Room, from, told, head_is, rest_is, before, heads_are, told_run}
use Rattle.model.proofs.UpTo.{same_true, true_same}
use Rattle.stands.proofs.Answers.{answer_no, answer_none, answer_some}
use Rattle.cells.proofs.Text.{marks_len, cells_sum}
use Rattle.stands.proofs.Text.{Cell, cell_rest, cell_here, cell_head, cell_others, cell_inside, cell_of, Held, Parts, text_parts, parts_held, told_same, told_differs, told_not, told_held, told_inside}

-- THE RUN
module _ (ws : List ℕ) (c k : ℕ) where
  heads_drop : (n : ℕ) (es : List ℕ) → heads_are ws c k es ≡ true → heads_are ws c k (drop n es) ≡ true
  unfolding heads_are
  heads_drop zero es h = h
  heads_drop (suc n) [] h = h
  heads_drop (suc n) (e ∷ es) h = heads_drop n es (and_left _ _ h)

  pub heads_inside : (es : List ℕ) → k ≤ c → heads_are ws c k es ≡ true → k + length es ≤ c
  unfolding heads_are
  heads_inside [] l h = omega arith
  heads_inside (e ∷ es) l h = omega (arith, ltb-true (k + length es) c (and_left _ _ (and_right (heads_are ws c k es) _ h)))

  pub run_differs : (es : List ℕ) → (heads_are ws c k es ≡ true → ⊥) → told_run ws c k es ≡ None
  unfolding told_run
  run_differs es h = answer_no _ _ _ h

  run_not : (es : List ℕ) → told_run ws c k es ≡ None → heads_are ws c k es ≡ true → ⊥
  unfolding told_run
  run_not es d = answer_none (heads_are ws c k es) (k + length es) (only_down (before c k es)) d

  run_told : (es : List ℕ) {u : Stands} → told_run ws c k es ≡ Some u → (heads_are ws c k es ≡ true) × (u.past ≡ k + length es) × (u.says ≡ only_down (before c k es))
  unfolding told_run
  run_told es h = answer_some (heads_are ws c k es) (k + length es) (only_down (before c k es)) h

  -- a run of one end is a cell
  pub one_full : (e : ℕ) → c ≤ k → false ≡ heads_are ws c k (e ∷ [])
  unfolding heads_are before
  one_full e l = let z : c ≤ k + 0 = omega arith in rw (le-ltb (k + 0) c z)

  pub one_head : (e : ℕ) {x : Bool} → k < c → x ≡ head_is ws k e c → x ≡ heads_are ws c k (e ∷ [])
  unfolding heads_are before
  one_head e l h = rw (add-zero, lt-ltb k c l) h

-- where the comparison of the run of the ends es stands: those behind `left` stand, and end before the cell next
pub record Going (ws : List ℕ) (c : ℕ) (es : List ℕ) (k next head : ℕ) (left : List ℕ) : Type 0 where
  pub done : List ℕ
  pub is : left ++ done ≡ es
  pub heads : heads_are ws c k done ≡ true
  pub past : next ≡ k + length done
  pub low : head ≡ before c k done
  pub inside : next ≤ c

pub going_start : (ws : List ℕ) (c : ℕ) (es : List ℕ) (k : ℕ) → k ≤ c → Going ws c es k k c es
unfolding heads_are before
going_start ws c es k l = record { done = []; is = append-nil es; heads = refl; past = omega arith; low = refl; inside = l }

pub going_end : {ws : List ℕ} {c : ℕ} {es : List ℕ} {k next head : ℕ} {left : List ℕ} → Going ws c es k next head left → length left ≡ 0 → Some (record { past = next; says = only_down head }) ≡ told_run ws c k es
unfolding told_run
going_end {left = []} o l = rw (← o.is, o.heads, o.past, o.low)
going_end {left = x ∷ left} o l = absurd (omega arith)

module _ {ws : List ℕ} {c : ℕ} {es : List ℕ} {k next head : ℕ} {left : List ℕ} (o : Going ws c es k next head left) (rest : List ℕ) (e : ℕ) (l : left ≡ push rest e) where
  more : rest ++ (e ∷ o.done) ≡ es
  more = sym (append_assoc rest (e ∷ []) o.done) ∙ rw l at o.is

  -- the next cell has to stand too
  expected : heads_are ws c k es ≡ true → (ltb next c && head_is ws next e head) ≡ true
  unfolding heads_are
  expected h =
      let z : drop (length rest) es ≡ e ∷ o.done = rw (← more) (drop_at rest (e ∷ o.done) (length rest) refl) in
      rw (o.past, o.low) (and_right (heads_are ws c k o.done) _ (rw z at (heads_drop ws c k (length rest) es h)))

  pub going_full : c ≤ next → None ≡ told_run ws c k es
  going_full m = sym (run_differs ws c k es (λ h. omega (arith, ltb-true next c (and_left _ _ (expected h)))))

  module _ {x : Bool} (h : x ≡ head_is ws next e head) where
    pub going_no : x ≡ false → None ≡ told_run ws c k es
    going_no d = sym (run_differs ws c k es (λ g. never (sym (and_right (ltb next c) _ (expected g)) ∙ sym h ∙ d)))

    pub going_on : next < c → x ≡ true → Going ws c es k (next + 1) next rest
    unfolding heads_are before
    going_on m d = record {
      done = e ∷ o.done;
      is = more;
      heads = and_both _ _ o.heads (rw (← o.past, ← o.low) (and_both _ _ (lt-ltb next c m) (sym h ∙ d)));
      past = omega (arith, o.past);
      low = o.past;
      inside = omega arith;
    }

-- WHAT IS BELOW A RUN. The chain of the ends es, lowest first, with g e below the end e.
module _ (g : ℕ → Tree ℕ) where
  width_chain : (es : List ℕ) → width (chain g es) ≡ length es
  unfolding width
  width_chain [] = refl
  width_chain (e ∷ es) = rw (width_chain es) (add-one (length es))

  low_chain : (c k b : ℕ) (es : List ℕ) → low c (marks c (chain g es) b) k ≡ before c k es
  unfolding low marks before
  low_chain c k b [] = refl
  low_chain c k b (e ∷ es) = ap (λ n. k + n) (marks_len c (chain g es) b ∙ width_chain es)

  first_chain : (c k : ℕ) (es : List ℕ) → first c (chain g es) k ≡ only_down (before c k es)
  unfolding first before
  first_chain c k [] = refl
  first_chain c k (e ∷ es) = ap (λ n. only_down (k + n)) (width_chain es)

  parts_drop : (ws : List ℕ) (c k b n : ℕ) (es : List ℕ) → Parts ws c k b (chain g es) → Parts ws c k b (chain g (drop n es))
  parts_drop ws c k b zero es p = p
  parts_drop ws c k b (suc n) [] p = p
  parts_drop ws c k b (suc n) (e ∷ es) p = parts_drop ws c k b n es p.0

  parts_heads : (ws : List ℕ) (c k b : ℕ) (es : List ℕ) → Room ws c → Parts ws c k b (chain g es) → heads_are ws c k es ≡ true
  unfolding heads_are
  parts_heads ws c k b [] r p = refl
  parts_heads ws c k b (e ∷ es) r p =
      let w : k + width (chain g es) ≡ k + length es = rw (width_chain es) in
      let h = rw (w, low_chain c k b es) at p.1 in
      and_both _ _ (parts_heads ws c k b es r p.0) (and_both _ _ (lt-ltb (k + length es) c (cell_inside ws _ _ _ _ h c r)) (cell_head ws _ _ _ _ h))

  -- what stands there when the whole chain does
  whole : (ws : List ℕ) (c k : ℕ) (es : List ℕ) → Held ws c (chain g es) k → Parts ws c k (k + length es) (chain g es)
  whole ws c k es h = rw (width_chain es) at (text_parts ws c (chain g es) k _ h)

-- where the comparison of what is below a run stands: cell i is next, and what is below it begins at cell b
pub record Hanging (ws : List ℕ) (c : ℕ) (g : ℕ → Tree ℕ) (es : List ℕ) (k : ℕ) (run : Stands) (i b : ℕ) : Type 0 where
  pub heads : heads_are ws c k es ≡ true
  pub end_is : run.past ≡ k + length es
  pub low_is : run.says ≡ only_down (before c k es)
  pub end_in : run.past ≤ c
  pub from_k : k ≤ i
  pub to_end : i ≤ run.past
  pub past : b ≡ run.past + under (chain g (drop (run.past - i) es))
  pub inside : b ≤ c
  pub parts : Parts ws c k run.past (chain g (drop (run.past - i) es))

pub below_start : (ws : List ℕ) (c : ℕ) (g : ℕ → Tree ℕ) (es : List ℕ) (k : ℕ) (run : Stands) → k ≤ c → told_run ws c k es ≡ Some run → Hanging ws c g es k run k run.past
unfolding under
below_start ws c g es k run l h =
    let v = run_told ws c k es h in
    let z : drop (run.past - k) es ≡ [] = drop_of_length-le es {i = run.past - k} (omega (arith, v.1)) in
    let i = heads_inside ws c k es l v.0 in
    record {
      heads = v.0;
      end_is = v.1;
      low_is = v.2;
      end_in = omega (arith, v.1);
      from_k = omega arith;
      to_end = omega (arith, v.1);
      past = rw z (omega arith);
      inside = omega (arith, v.1);
      parts = rw z tt;
    }

pub below_none : (ws : List ℕ) (c : ℕ) (g : ℕ → Tree ℕ) (es : List ℕ) (k : ℕ) → Room ws c → told_run ws c k es ≡ None → told ws c k (chain g es) ≡ None
below_none ws c g es k r d = told_differs ws c (chain g es) k (λ h. run_not ws c k es d (parts_heads g ws c k (k + length es) es r (whole g ws c k es h)))

module _ {ws : List ℕ} {c : ℕ} {g : ℕ → Tree ℕ} {es : List ℕ} {k : ℕ} {run : Stands} {i b : ℕ} (o : Hanging ws c g es k run i b) where
  pub below_end : run.past ≤ i → told ws c k (chain g es) ≡ Some (record { past = b; says = run.says })
  below_end l =
      let z : run.past - i ≡ 0 = omega arith in
      let p = rw (z, o.end_is) at o.parts in
      let y : b ≡ k + cells (chain g es) = omega (arith, rw z at o.past, o.end_is, cells_sum (chain g es), width_chain g es) in
      rw (y, o.low_is, ← first_chain g c k es) (told_same ws c (chain g es) k (parts_held ws c (chain g es) k (rw (width_chain g es) p)))

  module _ (r : Room ws c) (l : i < run.past) where
    -- the ends that are done, highest first; and that of cell i
    abbrev post : List ℕ
    post = drop (run.past - i) es

    abbrev e : ℕ
    e = get_or ws (2 + 8 * i) 0

    at : k + length post ≡ i
    at = omega (arith, length-drop (run.past - i) es)

    cons : drop (run.past - i - 1) es ≡ get_or es (run.past - i - 1) 0 ∷ post
    cons =
        let q : suc (run.past - i - 1) ≡ run.past - i = omega arith in
        drop-cons es (run.past - i - 1) 0 (omega arith) ∙ ap (λ n. get_or es (run.past - i - 1) 0 ∷ drop n es) q

    from_here : head_is ws i (get_or es (run.past - i - 1) 0) (before c k post) ≡ true
    unfolding heads_are
    from_here =
        let h = rw cons at (heads_drop ws c k (run.past - i - 1) es o.heads) in
        rw at at (and_right (ltb (k + length post) c) _ (and_right (heads_are ws c k post) _ h))

    same_end : e ≡ get_or es (run.past - i - 1) 0
    unfolding head_is
    same_end = rw add-zero at (eqb-true (cell_word ws i 0) (get_or es (run.past - i - 1) 0) (and_left _ _ from_here))

    next : drop (run.past - i - 1) es ≡ e ∷ post
    next = cons ∙ ap (λ x. x ∷ post) (sym same_end)

    head : head_is ws i e (before c k post) ≡ true
    head = rw same_end from_here

    -- what has to stand at cell i and below it
    expected_here : Held ws c (chain g es) k → Cell ws i e (before c k post) (first c (g e) b) × Held ws c (g e) b
    expected_here h =
        let p = rw next at (parts_drop g ws c k (k + length es) (run.past - i - 1) es (whole g ws c k es h)) in
        let w : k + width (chain g post) ≡ i = rw (width_chain g post) at in
        (rw (w, low_chain g c k (k + length es) post, ← o.end_is, ← o.past) at p.1, rw (← o.end_is, ← o.past) at p.2)

    pub below_not : told ws c b (g e) ≡ None → told ws c k (chain g es) ≡ None
    below_not d = told_differs ws c (chain g es) k (λ h. told_not ws c (g e) b d _ (expected_here h).1)

    module _ (at_b : Stands) (u : told ws c b (g e) ≡ Some at_b) where
      pub below_no : rest_is ws i at_b.says ≡ false → told ws c k (chain g es) ≡ None
      below_no d = told_differs ws c (chain g es) k (λ h.
          let v = told_held ws c (g e) b at_b u in
          never (sym (rw v.2 (cell_others ws i e (before c k post) (first c (g e) b) (expected_here h).0)) ∙ d))

      pub below_on : rest_is ws i at_b.says ≡ true → Hanging ws c g es k run (i + 1) at_b.past
      unfolding under
      below_on d =
          let v = told_held ws c (g e) b at_b u in
          let q : run.past - (i + 1) ≡ run.past - i - 1 = omega arith in
          let w : k + width (chain g post) ≡ i = rw (width_chain g post) at in
          record {
            heads = o.heads;
            end_is = o.end_is;
            low_is = o.low_is;
            end_in = o.end_in;
            from_k = omega arith;
            to_end = omega arith;
            past = rw (q, next) (omega (arith, v.1, o.past, cells_sum (g e)));
            inside = told_inside ws c (g e) b at_b u r o.inside;
            parts =
                rw (q, next) (
                  o.parts,
                  rw (w, low_chain g c k run.past post, ← o.past, ← v.2) (cell_of ws c i e (before c k post) at_b.says r (omega arith) head d),
                  rw (← o.past) v.0,
                );
          }

-- the same of the tree at places
pub record Compared (ws : List ℕ) (c : ℕ) (rules ps : List ℕ) (f n k : ℕ) (run : Stands) (i b : ℕ) : Type 0 where
  pub hanging : Hanging ws c (under_at rules f n ps) (ends (field_at rules f) ps) k run i b

module _ (ws : List ℕ) (c : ℕ) (rules ps : List ℕ) (f n k : ℕ) where
  pub compared_none : {u : Stands} → n ≡ 0 → (u.past ≡ k) × (u.says ≡ only_down (first_of ps)) → Some u ≡ told ws c k (tree_at rules f n ps)
  unfolding marks row belows width first
  compared_none {u} z q =
      let y : k + 0 ≡ k = omega arith in
      let h = told_same ws c (names (first_of ps)) k (rw y) in
      let e : u ≡ record { past = k; says = only_down (first_of ps) } = rw (← q.0, ← q.1) in
      ap Some e ∙ rw (tree_none rules f n ps z) (sym (rw y at h))

  module _ (nz : n ≡ 0 → ⊥) where
    pub compared_run : {a : Option Stands} → Room ws c → a ≡ told_run ws c k (ends (field_at rules f) ps) → a ≡ None → None ≡ told ws c k (tree_at rules f n ps)
    compared_run r h d = rw (tree_step rules f n ps nz) (sym (below_none ws c (under_at rules f n ps) _ k r (sym h ∙ d)))

    pub compared_start : {a : Option Stands} {run : Stands} → k ≤ c → a ≡ told_run ws c k (ends (field_at rules f) ps) → a ≡ Some run → Compared ws c rules ps f n k run k run.past
    compared_start l h d = record { hanging = below_start ws c (under_at rules f n ps) _ k _ l (sym h ∙ d) }

module _ {ws : List ℕ} {c : ℕ} {rules ps : List ℕ} {f n k : ℕ} {run : Stands} {i b : ℕ} (nz : n ≡ 0 → ⊥) (o : Compared ws c rules ps f n k run i b) where
  pub compared_end : run.past ≤ i → Some (record { past = b; says = run.says }) ≡ told ws c k (tree_at rules f n ps)
  compared_end l = rw (tree_step rules f n ps nz) (sym (below_end o.hanging l))

  module _ {places : List ℕ} {a : Option Stands} (r : Room ws c) (l : i < run.past) (q : places ≡ keep (covers (field_at rules f) (get_or ws (2 + 8 * i) 0)) ps) (h : a ≡ told ws c b (tree_at rules (f + 1) (n - 1) places)) where
    pub compared_not : a ≡ None → None ≡ told ws c k (tree_at rules f n ps)
    unfolding under_at
    compared_not d = rw (tree_step rules f n ps nz) (sym (below_not o.hanging r l (rw q at (sym h ∙ d))))

    module _ {at_b : Stands} {x : Bool} (u : a ≡ Some at_b) (g : x ≡ rest_is ws i at_b.says) where
      pub compared_no : x ≡ false → None ≡ told ws c k (tree_at rules f n ps)
      unfolding under_at
      compared_no d = rw (tree_step rules f n ps nz) (sym (below_no o.hanging r l at_b (rw q at (sym h ∙ u)) (sym g ∙ d)))

      pub compared_on : x ≡ true → Compared ws c rules ps f n k run (i + 1) at_b.past
      unfolding under_at
      compared_on d = record { hanging = below_on o.hanging r l at_b (rw q at (sym h ∙ u)) (sym g ∙ d) }

-- in the last field nothing stands below a cell, and it names the first place
module _ {ws : List ℕ} {c : ℕ} {rules ps : List ℕ} {f k : ℕ} {run : Stands} {i e named : ℕ} (o : Compared ws c rules ps f 1 k run i run.past) (r : Room ws c) (l : i < run.past)
    (w : e ≡ get_or ws (2 + 8 * i) 0) (d : named ≡ first_of (keep (covers (field_at rules f) e) ps)) {x : Bool} (g : x ≡ rest_is ws i (only_down named)) where
  below_last : Some (record { past = run.past; says = only_down named }) ≡ told ws c run.past (tree_at rules (f + 1) (1 - 1) (keep (covers (field_at rules f) (get_or ws (2 + 8 * i) 0)) ps))
  below_last = compared_none ws c rules _ (f + 1) (1 - 1) run.past refl (refl, ap only_down (rw w at d))

  pub last_no : x ≡ false → None ≡ told ws c k (tree_at rules f 1 ps)
  last_no v = compared_no (λ z. absurd (omega arith)) o r l refl below_last refl g v

  pub last_on : x ≡ true → Compared ws c rules ps f 1 k run (i + 1) run.past
  last_on v = compared_on (λ z. absurd (omega arith)) o r l refl below_last refl g v

-- THE FREE CHAIN
module _ (ws : List ℕ) (c : ℕ) (r : Room ws c) where
  -- whether the cells from i on are the free chain, and whether cell i is one of it
  abbrev Free : ℕ → Bool
  Free i = same (from ws i) (frees i (c - i))

  abbrev pub IsFree : ℕ → Bool
  IsFree i = head_is ws i 0 (i + 1) && rest_is ws i (only_down 0)

  free_end : (i : ℕ) → c ≤ i → true ≡ Free i
  unfolding frees
  free_end i l =
      let z : c - i ≡ 0 = omega arith in
      rw z (sym (true_same _ _ (drop_of_length-le ws {i = 2 + 8 * i} (omega (arith, r.size)))))

  module _ (i : ℕ) (l : i < c) where
    frees_cons : frees i (c - i) ≡ cell 0 (i + 1) (only_down 0) (frees (i + 1) (c - (i + 1)))
    unfolding frees
    frees_cons = let q : c - i ≡ suc (c - (i + 1)) = omega arith in rw q

    free_here : Free i ≡ true → IsFree i ≡ true
    free_here t =
        let h = cell_here ws i 0 (i + 1) (only_down 0) _ (same_true _ _ t ∙ frees_cons) in
        and_both _ _ (cell_head ws i 0 (i + 1) (only_down 0) h) (cell_others ws i 0 (i + 1) (only_down 0) h)

    free_on : IsFree i ≡ true → Free (i + 1) ≡ Free i
    free_on d =
        let h = cell_of ws c i 0 (i + 1) (only_down 0) r l (and_left _ _ d) (and_right (head_is ws i 0 (i + 1)) _ d) in
        same_test _ _
        (λ t. true_same _ _ (h ∙ ap (cell 0 (i + 1) (only_down 0)) (same_true _ _ t) ∙ sym frees_cons))
        (λ t. true_same _ _ (sym (cell_rest ws i 0 (i + 1) (only_down 0) _ (same_true _ _ t ∙ frees_cons))))

    free_step : (IsFree i && Free (i + 1)) ≡ Free i
    free_step = by_test (IsFree i) (λ d. rw d (free_on d)) (λ d. rw d (by_test (Free i) (λ t. never (sym (free_here t) ∙ d)) sym))

  pub free_all : (n i : ℕ) → c - i ≡ n → list_all IsFree (range_with_len i n) ≡ Free i
  free_all zero i e = free_end i (omega arith)
  free_all (suc n) i e = rw (free_all n (i + 1) (omega arith)) (free_step i (omega arith))
