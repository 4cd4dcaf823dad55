-- The place of a number that stands, and what the search over the words of a store that passes says of its table.
-- Assumes nothing.
use mathlib.Core.Path.{◌≡◌, refl, sym, ap, ◌∙◌}
use mathlib.Core.Bool.{Bool, true, false, not}
use Rattle.std.specs.Prelude.{Ok, Err}
use Rattle.refusal.specs.declared.Refusal.{Refusal}
use Rattle.refusal.specs.Refusals.{number_of}
use Rattle.refusal.proofs.Numbers.{refuses}
use mathlib.Core.List.{List}
use Prim.Native.Nat.{ℕ, zero, suc, ◌+◌, ◌*◌, ◌≤◌, ◌<◌}
use native.Mathlib.Omega.{arith}
use native.Mathlib.Numerals.{add-one}
use lib.Dec.{ltb, eqb}
use lib.ListN.{length, get_or}
use borrow.Author.Tests.{ltb-true, ltb-false, eqb-true, eqb-false, eq-eqb, ne_eqb}
use Rattle.model.specs.Table.{Kind, Table, Shaped, rising_from, stands, tree_of}
use Rattle.model.proofs.Tests.{by_test}
use Rattle.model.proofs.Keep.{in_get_d}
use Rattle.model.proofs.Grid.{row_ends}
use Rattle.model.proofs.Limits.{in_rising, rising_places}
use Rattle.table.specs.Rows.{placed, no_rule, ahead}
use Rattle.table.proofs.Edits.{at_stands}
use Rattle.layout.specs.Store.{cells_in, part_of, table_of, passes, read_says}
use Rattle.layout.proofs.Sound.{sound, Roomy}
use Rattle.layout.proofs.Passed.{sound_within, sound_room}
use Rattle.search.specs.Search.{most, wins, first_won}
use Rattle.search.proofs.First.{first_fits}
use Rattle.search.proofs.Topped.{topped_of}
use Rattle.search.proofs.Written.{cut_fits}
use Rattle.search.specs.Links.{tree_in, is_place, record_in}
use Rattle.reach.specs.Reach.{Reached}
use Rattle.reach.proofs.Steps.{most_one}
use Rattle.tied.proofs.Places.{ties}
use Rattle.live.specs.Live.{life, fate, life_of, Standing, row_of, place_of}

-- an answer 0 of a reading: the number stands
pub standing : (k : Kind) (ws : List ℕ) (n : ℕ) → read_says k ws n ≡ 0 → Standing k ws n
standing k ws n e = by_test (passes k ws)
    (λ h. record {
      pass = h;
      there = λ o. by_test (ltb 65534 n)
          (λ l. absurd (let z : 1 ≡ 0 = rw (h, ne_eqb n 65535 o, l) at e in omega arith))
          (λ l. by_test (stands n (table_of k ws).rules) (λ s. s) (λ s. absurd (let z : 4 ≡ 0 = rw (h, ne_eqb n 65535 o, l, s) at e in omega arith)));
    })
    (λ h. absurd (let z : 9 ≡ 0 = rw h at e in omega arith))

-- where the row of a number begins, as the code finds it
pub place_default : (k : Kind) (ws : List ℕ) (n : ℕ) → n ≡ 65535 → 0 ≡ place_of k ws n
unfolding place_of
place_default k ws n e = let z : 0 ≡ k.width * 0 = omega arith in rw (eq-eqb n 65535 e) z

pub place_rule_lem : (k : Kind) (ws : List ℕ) (n : ℕ) → (n ≡ 65535 → ⊥) → (p : ℕ) → p ≡ ahead n (table_of k ws).rules → k.width * (p + 1) ≡ place_of k ws n
unfolding place_of
place_rule_lem k ws n o p e = rw (ne_eqb n 65535 o, e)

-- two rows have two numbers
module _ (k : Kind) (t : Table) (up : rising_from 0 t.rules ≡ true) where
  default_number : (placed k t 0).number ≡ 65535
  unfolding placed
  default_number = refl

  rule_number : (i : ℕ) → i ≤ length t.rules → 0 < i → (placed k t i).number ≤ 65534
  unfolding placed
  rule_number zero m z = absurd (omega arith)
  rule_number (suc i) m z = (in_rising 0 t.rules up (get_or t.rules i no_rule) (in_get_d t.rules i no_rule (omega arith))).1

  rising : (i j : ℕ) → j ≤ length t.rules → 0 < i → i < j → (placed k t i).number < (placed k t j).number
  unfolding placed
  rising zero j m z l = absurd (omega arith)
  rising (suc i) zero m z l = absurd (omega arith)
  rising (suc i) (suc j) m z l = rising_places 0 t.rules up i j no_rule (omega arith) (omega arith)

  differ : (i j : ℕ) → j ≤ length t.rules → i < j → (placed k t i).number ≡ (placed k t j).number → ⊥
  differ zero j m l e = omega (arith, default_number, rule_number j m (omega arith))
  differ (suc i) j m l e = omega (arith, rising (suc i) j m (omega arith) l)

  one_row : (i j : ℕ) → i ≤ length t.rules → j ≤ length t.rules → (placed k t i).number ≡ (placed k t j).number → i ≡ j
  one_row i j l m e = by_test (ltb i j)
      (λ z. absurd (differ i j m (ltb-true i j z) e))
      (λ z. by_test (ltb j i) (λ y. absurd (differ j i l (ltb-true j i y) (sym e))) (λ y. omega (arith, ltb-false i j z, ltb-false j i y)))

-- rows of some width begin at different words
apart : (w i j : ℕ) → 0 < w → w * i ≡ w * j → i ≡ j
apart w i j p e = by_test (ltb i j)
    (λ z. absurd (omega (arith, row_ends w i j (ltb-true i j z))))
    (λ z. by_test (ltb j i) (λ y. absurd (omega (arith, row_ends w j i (ltb-true j i y)))) (λ y. omega (arith, ltb-false i j z, ltb-false j i y)))

-- A NUMBER THAT STANDS
module _ (k : Kind) (s : Shaped k) (ws : List ℕ) (n : ℕ) (f : Standing k ws n) where
  -- the rule of its row has the number
  row_number : (row_of k ws n ≤ length (table_of k ws).rules) × ((placed k (table_of k ws) (row_of k ws n)).number ≡ n)
  unfolding placed
  row_number = by_test (eqb n 65535)
      (λ z. rw z (omega arith, sym (eqb-true n 65535 z)))
      (λ z. let a = at_stands n no_rule 0 (table_of k ws).rules (sound k s ws f.pass).rising (f.there (eqb-false n 65535 z)) in
      rw (z, add-one (ahead n (table_of k ws).rules)) (a.0, a.1))

  -- and no other has
  same : (i : ℕ) → i ≤ length (table_of k ws).rules → is_place (place_of k ws n) (k.width * i) ≡ wins n (placed k (table_of k ws) i)
  unfolding place_of
  same i l =
      let r = row_of k ws n in
      let t = table_of k ws in
      by_test (eqb i r)
      (λ z. let e = eqb-true i r z in rw (eq-eqb (k.width * i) (k.width * r) (ap (λ x. k.width * x) e), eq-eqb (placed k t i).number n (ap (λ x. (placed k t x).number) e ∙ row_number.1)))
      (λ z. rw (
        ne_eqb (k.width * i) (k.width * r) (λ e. eqb-false i r z (apart k.width i r (omega (arith, s.ends)) e)),
        ne_eqb (placed k t i).number n (λ e. eqb-false i r z (one_row k t (sound k s ws f.pass).rising i r l row_number.0 (e ∙ sym row_number.1))),
      ))

  pub room : Roomy k (cells_in ws) ws
  room = sound_room k s ws (sound k s ws f.pass)

  -- WHAT THE CODE FINDS, over the part P of the words: p is the place, r whether a walk finds it
  module _ (P : List ℕ) (g : P ≡ part_of k (cells_in ws) ws) (p : ℕ) (q : p ≡ place_of k ws n) where
    most_is : most 0 (is_place p) (tree_in P (cells_in ws) (length k.tops) (get_or P 1 0)) ≡ most 0 (wins n) (tree_of k (table_of k ws))
    most_is = rw (g, q) (ties.found k s ws f.pass (place_of k ws n) (wins n) same)

    first_is : record_in p P (cells_in ws) (length k.tops) (get_or P 1 0) ≡ first_won k (table_of k ws) n
    first_is = rw (g, q) (ties.written k s ws f.pass (place_of k ws n) (wins n) same)

    module _ (r : Bool) (none out : List ℕ) (h : Reached p P (cells_in ws) (length k.tops) (get_or P 1 0) r none out) (e : read_says k ws n ≡ 0) where
      -- it is live, and its record is written
      says_live : ((i : ℕ) → get_or k.tops i 0 ≤ 4294967295) → r ≡ true → life 0 0 out ≡ life_of k ws n none
      unfolding life_of
      says_live small t =
          let m : most 0 (wins n) (tree_of k (table_of k ws)) ≡ 1 = sym most_is ∙ eqb-true _ 1 (sym h.found ∙ t) in
          let v = first_fits 0 (wins n) (topped_of k (table_of k ws) (sound_within k s ws (sound k s ws f.pass))) in
          rw (e, m) (ap (life 0 0) (h.written ∙ rw (t, first_is) (cut_fits k.tops (first_won k (table_of k ws) n) small v)))

      -- it is dead, and nothing is
      says_dead : r ≡ false → life 0 1 out ≡ life_of k ws n none
      unfolding life_of
      says_dead t =
          let T = tree_in P (cells_in ws) (length k.tops) (get_or P 1 0) in
          let y = eqb-false (most 0 (is_place p) T) 1 (sym h.found ∙ t) in
          let m : most 0 (wins n) (tree_of k (table_of k ws)) ≡ 0 = sym most_is ∙ omega (arith, y, most_one p T) in
          rw (e, m) (ap (life 0 1) (h.written ∙ rw t))

      -- it is dead where no walk finds it
      pub says_fate : ((i : ℕ) → get_or k.tops i 0 ≤ 4294967295) → fate (Ok (not r)) out ≡ life_of k ws n none
      says_fate small = by_test r (λ t. rw t (says_live small t)) (λ t. rw t (says_dead t))

-- a refusal
pub says_refused : (k : Kind) (ws : List ℕ) (n : ℕ) (r : Refusal) → number_of r ≡ read_says k ws n → (none : List ℕ) → fate (Err r) none ≡ life_of k ws n none
unfolding life_of
says_refused k ws n r e none = rw (ne_eqb (read_says k ws n) 0 (λ y. refuses r (e ∙ y))) (ap (λ x. life x 0 none) e)
