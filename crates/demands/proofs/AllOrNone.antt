-- Request P10 in plain facts holds: an edit that is accepted leaves the text of the edited table, so that the next one is decided there as the list decides it.
-- Assumes nothing.
use mathlib.Core.Path.{◌≡◌, refl, sym, ap, ap₂, subst, ◌∙◌}
use mathlib.Core.Logic.{◌⊎◌, inl, inr}
use mathlib.Core.Bool.{Bool, true, false}
use mathlib.Core.List.{List, [], ◌∷◌, ◌++◌, map}
use Prim.Native.Nat.{ℕ, suc, ◌+◌, ◌≤◌}
use native.Mathlib.Omega.{arith}
use native.Mathlib.Numerals.{add-one}
use lib.Dec.{ltb, eqb}
use lib.ListN.{length, get_or, drop, take-append-drop}
use borrow.Author.Tests.{eqb-true, eqb-false, ltb-true, ltb-false, ne_eqb}
use Rattle.model.specs.Table.{Table}
use Rattle.model.specs.Ipv4.{ipv4, is_large, kind_in}
use Rattle.model.proofs.Tests.{by_test}
use Rattle.model.proofs.UpTo.{length_up_to}
use Rattle.layout.specs.Store.{size, text, cells_in, table_of, passes, holding, unless}
use Rattle.series.specs.declared.Listed.{Listed}
use Rattle.series.specs.Edits.{Edit, inserts, deletes, edit_answer, edited, edited_all, listed, first_refusal, list_says, list_words}
use Rattle.demands.specs.Calls.{Passes}
use Rattle.demands.specs.Demand3.{words_after, edit, list, run}
use Rattle.demands.specs.AllOrNone.{answer_of, singly, AllAccepted, FirstRefused, here, later, WrongLength, Outcome, bad_list, fails, refused, all_done, AllOrNone}
use Rattle.demands.proofs.Held.{Leaves, begins_with, insert_leaves, delete_leaves, list_leaves}
use Rattle.demands.proofs.KindNamed.{shaped_in, by_pass, pass_in}
use Rattle.demands.proofs.Demand1.{spares}
use Rattle.demands.proofs.Demand3.{change_on}

-- AN EDIT GIVEN SINGLY: what it leaves, and what it answers of a store that passes
edit_leaves : (ws : List ℕ) (e : Edit) → answer_of ws e ≡ 0 → Leaves (kind_in ws) ws (words_after ws e) (cells_in ws) (edited (table_of (kind_in ws) ws) e)
edit_leaves ws (inserts r) h = insert_leaves (kind_in ws) (shaped_in ws) ws r h
edit_leaves ws (deletes n) h = delete_leaves (kind_in ws) (shaped_in ws) ws n h

answer_is : (ws : List ℕ) (e : Edit) → Passes (kind_in ws) ws → answer_of ws e ≡ edit_answer (kind_in ws) (cells_in ws) (table_of (kind_in ws) ws) e
answer_is ws (inserts r) h = rw h
answer_is ws (deletes n) h = rw h

-- a store that passes holds its table
whole : (ws : List ℕ) → Passes (kind_in ws) ws → ws ≡ holding (kind_in ws) (cells_in ws) (table_of (kind_in ws) ws) ws
whole ws h = sym (take-append-drop (size (kind_in ws) (cells_in ws)) ws) ∙ ap (λ xs. xs ++ drop (size (kind_in ws) (cells_in ws)) ws) (begins_with (kind_in ws) (shaped_in ws) ws h)

-- THE LIST AND ITS EDITS, one by one: all are accepted, or there is a first that is not; p edits came before
abbrev Ends : List ℕ → List Edit → ℕ → Type 0
Ends ws es p =
    (AllAccepted ws es × (first_refusal (kind_in ws) (cells_in ws) p (table_of (kind_in ws) ws) es ≡ listed 0 0) × (singly ws es ≡ holding (kind_in ws) (cells_in ws) (edited_all (table_of (kind_in ws) ws) es) ws))
    ⊎ ((q : ℕ) × (a : ℕ) × FirstRefused ws es q a × (first_refusal (kind_in ws) (cells_in ws) p (table_of (kind_in ws) ws) es ≡ listed a (p + q)))

-- the words that an accepted edit left, in the terms of those before it
module _ (ws new : List ℕ) (t : Table) (l : Leaves (kind_in ws) ws new (cells_in ws) t) where
  kind : is_large new ≡ is_large ws
  kind = by_pass (is_large ws) new l.pass

  same_refusal : (p : ℕ) (es : List Edit) → first_refusal (kind_in ws) (cells_in ws) p t es ≡ first_refusal (kind_in new) (cells_in new) p (table_of (kind_in new) new) es
  same_refusal p es = sym (ap (λ (b : Bool). first_refusal (ipv4 b) (cells_in new) p (table_of (ipv4 b) new) es) kind ∙ ap₂ (λ c u. first_refusal (kind_in ws) c p u es) l.cells_left l.table)

  same_left : (es : List Edit) → holding (kind_in new) (cells_in new) (edited_all (table_of (kind_in new) new) es) new ≡ holding (kind_in ws) (cells_in ws) (edited_all t es) ws
  same_left es =
      ap (λ (b : Bool). holding (ipv4 b) (cells_in new) (edited_all (table_of (ipv4 b) new) es) new) kind
      ∙ ap₂ (λ c u. holding (kind_in ws) c (edited_all u es) new) l.cells_left l.table
      ∙ ap (λ xs. text (kind_in ws) (cells_in ws) (edited_all t es) ++ xs) l.behind

  next : (e : Edit) (es : List Edit) (p : ℕ) → new ≡ words_after ws e → t ≡ edited (table_of (kind_in ws) ws) e → answer_of ws e ≡ 0 → eqb (edit_answer (kind_in ws) (cells_in ws) (table_of (kind_in ws) ws) e) 0 ≡ true → Ends new es (suc p) → Ends ws (e ∷ es) p
  next e es p n u z y (inl g) = inl ((z, subst (λ (xs : List ℕ). AllAccepted xs es) n g.0), rw (y, ← u) (same_refusal (suc p) es ∙ g.1), ap (λ xs. singly xs es) (sym n) ∙ g.2 ∙ same_left es ∙ ap (λ v. holding (kind_in ws) (cells_in ws) (edited_all v es) ws) u)
  next e es p n u z y (inr g) =
      let s : suc p + g.0 ≡ p + suc g.0 = omega arith in
      inr (suc g.0, g.1, later z (subst (λ (xs : List ℕ). FirstRefused xs es g.0 g.1) n g.2), rw (y, ← u) (same_refusal (suc p) es ∙ g.3 ∙ ap (listed g.1) s))

ends : (es : List Edit) (ws : List ℕ) → Passes (kind_in ws) ws → (p : ℕ) → Ends ws es p
ends [] ws h p = inl (tt, refl, whole ws h)
ends (e ∷ es) ws h p =
    let a = answer_is ws e h in
    by_test (eqb (edit_answer (kind_in ws) (cells_in ws) (table_of (kind_in ws) ws) e) 0)
    (λ y.
    let z = a ∙ eqb-true _ 0 y in
    let l = edit_leaves ws e z in
    next ws (words_after ws e) _ l e es p refl refl z y (ends es (words_after ws e) (pass_in (is_large ws) (words_after ws e) l.pass) (suc p)))
    (λ y. inr (1, edit_answer (kind_in ws) (cells_in ws) (table_of (kind_in ws) ws) e, here a (eqb-false _ 0 y), rw y (ap (listed _) (sym (add-one p)))))

refused_0 : {ws : List ℕ} {es : List Edit} {p a : ℕ} → FirstRefused ws es p a → a ≡ 0 → ⊥
refused_0 (here e n) z = n z
refused_0 (later e f) z = refused_0 f z

places : {ws : List ℕ} {es : List Edit} {p a : ℕ} → FirstRefused ws es p a → (1 ≤ p) × (p ≤ length es)
places (here e n) = (omega arith, omega arith)
places (later e f) = let i = places f in (omega arith, omega (arith, i.1))

-- one of them alone is the first, and then not all are accepted
not_both : {ws : List ℕ} {es : List Edit} {p a : ℕ} → FirstRefused ws es p a → AllAccepted ws es → ⊥
not_both (here e n) g = n (sym e ∙ g.0)
not_both (later e f) g = not_both f g.1

only_one : {ws : List ℕ} {es : List Edit} {p q a b : ℕ} → FirstRefused ws es p a → FirstRefused ws es q b → (p ≡ q) × (a ≡ b)
only_one (here e n) (here f m) = (refl, sym e ∙ f)
only_one (here e n) (later f g) = absurd (n (sym e ∙ f))
only_one (later e f) (here g m) = absurd (m (sym g ∙ e))
only_one (later e f) (later g h) = let i = only_one f h in (ap suc i.0, i.1)

-- WHAT BECOMES OF A LIST
module _ (ws : List ℕ) (es : List Edit) where
  is : {r s : Listed} {xs ys : List ℕ} → r ≡ s → xs ≡ ys → Outcome ws es s ys → Outcome ws es r xs
  is {r} {s} {xs} {ys} e f o = subst (λ (v : Listed). Outcome ws es v xs) (sym e) (subst (λ (v : List ℕ). Outcome ws es s v) (sym f) o)

  kept : (a p : ℕ) → list_says (kind_in ws) ws es ≡ listed a p → (a ≡ 0 → ⊥) → list_words (kind_in ws) ws es ≡ ws
  unfolding list_words
  kept a p e n = ap (λ (r : Listed). unless r.answer (holding (kind_in ws) (cells_in ws) (edited_all (table_of (kind_in ws) ws) es) ws) ws) e ∙ rw (ne_eqb a 0 n)

  left : list_says (kind_in ws) ws es ≡ listed 0 0 → list_words (kind_in ws) ws es ≡ holding (kind_in ws) (cells_in ws) (edited_all (table_of (kind_in ws) ws) es) ws
  unfolding list_words
  left e = ap (λ (r : Listed). unless r.answer (holding (kind_in ws) (cells_in ws) (edited_all (table_of (kind_in ws) ws) es) ws) ws) e

  outcome : Outcome ws es (list_says (kind_in ws) ws es) (list_words (kind_in ws) ws es)
  unfolding list_says
  outcome = by_test (eqb (length es) 0)
      (λ x. let q : list_says (kind_in ws) ws es ≡ listed 15 0 = rw x in is q (kept 15 0 q (λ z. omega arith)) (bad_list (inl (eqb-true (length es) 0 x))))
      (λ x. by_test (ltb 32 (length es))
      (λ y. let q : list_says (kind_in ws) ws es ≡ listed 15 0 = rw (x, y) in is q (kept 15 0 q (λ z. omega arith)) (bad_list (inr (ltb-true 32 (length es) y))))
      (λ y.
      let right : WrongLength es → ⊥ = either x y in
      by_test (passes (kind_in ws) ws)
      (λ h. go right h (ends es ws h 0) (rw (x, y, h)))
      (λ h. let q : list_says (kind_in ws) ws es ≡ listed 9 1 = rw (x, y, h) in is q (kept 9 1 q (λ z. omega arith)) (fails right (λ g. let b : true ≡ false = sym g ∙ h in let w : ◌≡◌ {A = ℕ} 0 1 = cc in omega arith)))))
    where
      either : eqb (length es) 0 ≡ false → ltb 32 (length es) ≡ false → WrongLength es → ⊥
      either x y (inl e) = eqb-false (length es) 0 x e
      either x y (inr l) = let z = ltb-false 32 (length es) y in omega arith

      go : (WrongLength es → ⊥) → Passes (kind_in ws) ws → Ends ws es 0 → list_says (kind_in ws) ws es ≡ first_refusal (kind_in ws) (cells_in ws) 0 (table_of (kind_in ws) ws) es → Outcome ws es (list_says (kind_in ws) ws es) (list_words (kind_in ws) ws es)
      go right h (inl g) q = is (q ∙ g.1) (left (q ∙ g.1) ∙ sym g.2) (all_done right h g.0)
      go right h (inr g) q =
          let s : 0 + g.0 ≡ g.0 = omega arith in
          let z = q ∙ g.3 ∙ ap (listed g.1) s in
          is z (kept g.1 g.0 z (refused_0 g.2)) (refused right h g.2)

singly_run : (ws : List ℕ) (es : List Edit) → singly ws es ≡ run ws (map edit es)
singly_run ws [] = refl
singly_run ws (e ∷ es) = singly_run (words_after ws e) es

by_outcome : (ws : List ℕ) (es : List Edit) {r : Listed} {xs : List ℕ} → Outcome ws es r xs → r.answer ≡ 0 → xs ≡ run ws (map edit es)
by_outcome ws es (bad_list w) z = absurd (omega arith)
by_outcome ws es (fails w h) z = absurd (omega arith)
by_outcome ws es (refused w h f) z = absurd (refused_0 f z)
by_outcome ws es (all_done w h a) z = singly_run ws es

pub all_or_none : AllOrNone
unfolding list_words
all_or_none =
    record {
      outcome = outcome;
      not_both = λ ws es p a f. not_both f;
      only_one = λ ws es p q a b f g. only_one f g;
      all_ends = λ g. (length_up_to _ (λ i. get_or g.low i 0), length_up_to _ (λ i. get_or g.high i 0));
      place = λ ws es p a f. places f;
      spares = λ ws es. spares (kind_in ws) (cells_in ws) (list_says (kind_in ws) ws es).answer _ ws (λ h. (_, list_leaves (kind_in ws) (shaped_in ws) ws es h));
      as_edits = λ ws es h. by_outcome ws es (outcome ws es) h;
      passes = λ ws es h. let z = change_on ws (list es) h in (z.0, ap ipv4 z.1, z.2);
    }
