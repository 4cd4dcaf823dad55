-- Laws of the rows: what stands at a word of them, and the steps of the loops that go through the rules and the fields.
-- Assumes nothing.
use mathlib.Core.Path.{◌≡◌, refl, sym, ap, ap₂, ◌∙◌}
use mathlib.Core.Bool.{Bool, true, false, not, ◌&&◌, ◌||◌}
use mathlib.Core.List.{List, [], ◌∷◌, map}
use Prim.Native.Nat.{ℕ, zero, suc, ◌+◌, ◌-◌, ◌*◌, ◌/◌, ◌%◌, ◌≤◌, ◌<◌}
use native.Mathlib.Omega.{arith}
use native.Mathlib.Numerals.{add-one}
use lib.Dec.{ltb, leb, eqb}
use lib.ListN.{length, get_or, take, drop, set, get_or-eq_default, drop_of_length-le}
use lib.Seq.{drop-cons, take-suc-set}
use borrow.Author.Tests.{ltb-true, ltb-false, eq-eqb, ne_eqb, eqb-true, eqb-false, le-leb, lt-leb}
use Rattle.model.specs.Lists.{same, up_to}
use Rattle.model.specs.Rules.{ranges_right}
use Rattle.model.specs.Table.{Kind, Rule, fields_from, default_rule, rising_from, all_right, asks_for, ports_right, rule_right}
use Rattle.model.proofs.Tests.{by_test, never}
use Rattle.model.proofs.UpTo.{length_up_to, get_d_up_to, same_false, true_same}
use Rattle.model.proofs.Grid.{get_d_grid, grid_is}
use Rattle.rows.specs.Rows.{number_in, action_in, low_in, high_in}
use Rattle.table.specs.Rows.{no_rule, row_word, placed, rows_text, rule_in, table_in, places, Rowed, Tells, First, Zeros, Blank}

-- the words of a rule's row
pub row_number : (r : Rule) → row_word r 0 ≡ r.number
unfolding row_word
row_number r = refl

pub row_action : (r : Rule) → row_word r 1 ≡ r.action
unfolding row_word
row_action r = refl

pub row_low : (r : Rule) (f : ℕ) → row_word r (2 + 2 * f) ≡ get_or r.lows f 0
unfolding row_word
row_low r f =
    let a : eqb (2 + 2 * f) 0 ≡ false = ne_eqb (2 + 2 * f) 0 (λ e. omega arith) in
    let b : eqb (2 + 2 * f) 1 ≡ false = ne_eqb (2 + 2 * f) 1 (λ e. omega arith) in
    let c : eqb ((2 + 2 * f) % 2) 0 ≡ true = eq-eqb ((2 + 2 * f) % 2) 0 (omega arith) in
    let d : (2 + 2 * f) / 2 - 1 ≡ f = omega arith in
    simp (a, b, c, d)

pub row_high : (r : Rule) (f : ℕ) → row_word r (3 + 2 * f) ≡ get_or r.highs f 0
unfolding row_word
row_high r f =
    let a : eqb (3 + 2 * f) 0 ≡ false = ne_eqb (3 + 2 * f) 0 (λ e. omega arith) in
    let b : eqb (3 + 2 * f) 1 ≡ false = ne_eqb (3 + 2 * f) 1 (λ e. omega arith) in
    let c : eqb ((3 + 2 * f) % 2) 0 ≡ false = ne_eqb ((3 + 2 * f) % 2) 0 (λ e. omega arith) in
    let d : (3 + 2 * f) / 2 - 1 ≡ f = omega arith in
    simp (a, b, c, d)

-- a word of a row is its number, its action, or an end
data Word (j : ℕ) : Type 0 where
  is_number : j ≡ 0 → Word j
  is_action : j ≡ 1 → Word j
  is_low : (f : ℕ) → j ≡ 2 + 2 * f → Word j
  is_high : (f : ℕ) → j ≡ 3 + 2 * f → Word j

which : (j : ℕ) → Word j
which j =
    by_test (eqb j 0) (λ t. is_number (eqb-true j 0 t)) (λ t.
    by_test (eqb j 1) (λ u. is_action (eqb-true j 1 u)) (λ u.
    let a : j ≡ 0 → ⊥ = eqb-false j 0 t in
    let b : j ≡ 1 → ⊥ = eqb-false j 1 u in
    by_test (eqb (j % 2) 0)
    (λ v. let d : j % 2 ≡ 0 = eqb-true (j % 2) 0 v in is_low (j / 2 - 1) (omega arith))
    (λ v. let d : j % 2 ≡ 0 → ⊥ = eqb-false (j % 2) 0 v in is_high (j / 2 - 1) (omega arith))))

-- the row of no rule is zeros
pub row_none : (j : ℕ) → row_word no_rule j ≡ 0
row_none j = go (which j)
  where
    go : Word j → row_word no_rule j ≡ 0
    go (is_number e) = rw e (row_number no_rule)
    go (is_action e) = rw e (row_action no_rule)
    go (is_low f e) = rw e (row_low no_rule f)
    go (is_high f e) = rw e (row_high no_rule f)

-- a row that holds a rule has that rule's words
pub row_in : (n : ℕ) (rows : List ℕ) (p j : ℕ) → j < 2 + 2 * n → row_word (rule_in n rows p) j ≡ get_or rows (p + j) 0
row_in n rows p j h = go (which j)
  where
    R : Rule
    R = rule_in n rows p

    go : Word j → row_word R j ≡ get_or rows (p + j) 0
    go (is_number e) = let z : p + 0 ≡ p = omega arith in rw (e, z) (row_number R)
    go (is_action e) = rw e (row_action R)
    go (is_low f e) = rw e (row_low R f ∙ get_d_up_to n (λ g. low_in rows g p) f 0 (omega arith))
    go (is_high f e) = rw e (row_high R f ∙ get_d_up_to n (λ g. high_in rows g p) f 0 (omega arith))

-- and zeros behind its fields
pub row_past : (n : ℕ) (rows : List ℕ) (p j : ℕ) → 2 + 2 * n ≤ j → row_word (rule_in n rows p) j ≡ 0
row_past n rows p j h = go (which j)
  where
    R : Rule
    R = rule_in n rows p

    go : Word j → row_word R j ≡ 0
    go (is_number e) = absurd (omega arith)
    go (is_action e) = absurd (omega arith)
    go (is_low f e) = rw e (row_low R f ∙ get_or-eq_default R.lows 0 {n = f} (omega (arith, length_up_to n (λ g. low_in rows g p))))
    go (is_high f e) = rw e (row_high R f ∙ get_or-eq_default R.highs 0 {n = f} (omega (arith, length_up_to n (λ g. high_in rows g p))))

-- the rules that the rows hold
module _ (k : Kind) (n : ℕ) (rows : List ℕ) where
  pub rules_length : length (table_in k n rows).rules ≡ n
  unfolding table_in
  rules_length = length_up_to n (λ i. rule_in (length k.tops) rows (k.width * suc i))

  pub rules_at : (i : ℕ) (d : Rule) → i < n → get_or (table_in k n rows).rules i d ≡ rule_in (length k.tops) rows (k.width * suc i)
  unfolding table_in
  rules_at i d h = get_d_up_to n (λ i. rule_in (length k.tops) rows (k.width * suc i)) i d h

  pub rules_from : (i : ℕ) → i < n → drop i (table_in k n rows).rules ≡ rule_in (length k.tops) rows (k.width * suc i) ∷ drop (suc i) (table_in k n rows).rules
  rules_from i h = drop-cons (table_in k n rows).rules i no_rule (omega (arith, rules_length)) ∙ rw (rules_at i no_rule h)

  pub rules_done : (i : ℕ) → n ≤ i → drop i (table_in k n rows).rules ≡ []
  rules_done i h = drop_of_length-le (table_in k n rows).rules {i = i} (omega (arith, rules_length))

  -- the rule at a place
  pub placed_default : placed k (table_in k n rows) 0 ≡ default_rule k (action_in rows 0)
  unfolding placed table_in
  placed_default = refl

  pub placed_rule : (p : ℕ) → 0 < p → p ≤ n → placed k (table_in k n rows) p ≡ rule_in (length k.tops) rows (k.width * p)
  unfolding placed
  placed_rule zero l h = absurd (omega arith)
  placed_rule (suc p) l h = rules_at p no_rule (omega arith)

  pub placed_none : (p : ℕ) → n < p → placed k (table_in k n rows) p ≡ no_rule
  unfolding placed
  placed_none zero h = absurd (omega arith)
  placed_none (suc p) h = get_or-eq_default (table_in k n rows).rules no_rule {n = p} (omega (arith, rules_length))

  -- the rows are those of the table that they hold exactly where the first is the default's, those of the rules have zeros behind their ends, and all others are zeros
  module _ (r : Rowed k n rows) where
    pub rows_made : First k rows → Blank k.width rows (2 + 2 * length k.tops) 1 (n + 1) → Blank k.width rows 0 (n + 1) (k.most + 1) → rows ≡ rows_text k (table_in k n rows)
    unfolding rows_text
    rows_made d e z = grid_is 0 rows k.width (suc k.most) (λ p. row_word (placed k (table_in k n rows) p)) r.whole go
      where
        go : (p j : ℕ) → p < suc k.most → j < k.width → get_or rows (k.width * p + j) 0 ≡ row_word (placed k (table_in k n rows) p) j
        go zero j u v = let w : k.width * 0 + j ≡ j = omega arith in rw (w, placed_default) (d j v)
        go (suc p) j u v = by_test (ltb p n)
            (λ t. let a = ltb-true p n t in rw (placed_rule (suc p) (omega arith) (omega arith)) (by_test (ltb j (2 + 2 * length k.tops))
            (λ s. sym (row_in (length k.tops) rows (k.width * suc p) j (ltb-true _ _ s)))
            (λ s. let b = ltb-false j (2 + 2 * length k.tops) s in e (suc p) j (omega arith) (omega arith) b v ∙ sym (row_past (length k.tops) rows (k.width * suc p) j b))))
            (λ t. let a = ltb-false p n t in z (suc p) j (omega arith) (omega arith) (omega arith) v ∙ sym (rw (placed_none (suc p) (omega arith)) (row_none j)))

    module _ (e : rows ≡ rows_text k (table_in k n rows)) where
      made_at : (p j : ℕ) → p < suc k.most → j < k.width → get_or rows (k.width * p + j) 0 ≡ row_word (placed k (table_in k n rows) p) j
      unfolding rows_text
      made_at p j u v = ap (λ ys. get_or ys (k.width * p + j) 0) e ∙ get_d_grid k.width (suc k.most) (λ q. row_word (placed k (table_in k n rows) q)) p j 0 u v

      pub made_first : First k rows
      made_first j v = let w : k.width * 0 + j ≡ j = omega arith in rw (w, placed_default) at (made_at 0 j (omega arith) v)

      pub made_ends : Blank k.width rows (2 + 2 * length k.tops) 1 (n + 1)
      made_ends p j a b c v = made_at p j (omega (arith, r.fit)) v ∙ rw (placed_rule p (omega arith) (omega arith)) (row_past (length k.tops) rows (k.width * p) j c)

      pub made_rest : Blank k.width rows 0 (n + 1) (k.most + 1)
      made_rest p j a b c v = made_at p j (omega arith) v ∙ rw (placed_none p (omega arith)) (row_none j)

    rows_not : (rows ≡ rows_text k (table_in k n rows) → ⊥) → false ≡ same rows (rows_text k (table_in k n rows))
    rows_not h = sym (same_false rows _ h)

    pub wrong_first : (First k rows → ⊥) → false ≡ same rows (rows_text k (table_in k n rows))
    wrong_first h = rows_not (λ e. h (made_first e))

    pub wrong_ends : (Blank k.width rows (2 + 2 * length k.tops) 1 (n + 1) → ⊥) → false ≡ same rows (rows_text k (table_in k n rows))
    wrong_ends h = rows_not (λ e. h (made_ends e))

    pub rows_rest : First k rows → Blank k.width rows (2 + 2 * length k.tops) 1 (n + 1) → (b : Bool) → Tells b (Blank k.width rows 0 (n + 1) (k.most + 1)) → b ≡ same rows (rows_text k (table_in k n rows))
    rows_rest d e true s = sym (true_same rows _ (rows_made d e (s.0 refl)))
    rows_rest d e false s = rows_not (λ q. s.1 refl (made_rest q))

-- what the inner tests answer
pub says_yes : {P : Type 0} → P → Tells true P
says_yes p = (λ e. p, λ e. absurd (never e))

pub says_no : {P : Type 0} → (P → ⊥) → Tells false P
says_no h = (λ e. absurd (never (sym e)), λ e. h)

pub said_yes : {P : Type 0} (r : Bool) → Tells r P → not r ≡ false → P
said_yes true s e = s.0 refl
said_yes false s e = absurd (never e)

pub said_no : {P : Type 0} (r : Bool) → Tells r P → not r ≡ true → P → ⊥
said_no true s e = absurd (never (sym e))
said_no false s e = s.1 refl

-- one word more
more : (f g : ℕ → ℕ) (a i : ℕ) → ((j : ℕ) → a ≤ j → j < i → f j ≡ g j) → f i ≡ g i → (j : ℕ) → a ≤ j → j < i + 1 → f j ≡ g j
more f g a i h e j l u =
    by_test (ltb j i) (λ t. h j l (ltb-true j i t)) (λ t. let z : j ≡ i = omega (arith, ltb-false j i t) in rw z e)

pub zeros_more : (rows : List ℕ) (a i : ℕ) → ((j : ℕ) → a ≤ j → j < i → get_or rows j 0 ≡ 0) → get_or rows i 0 ≡ 0 → (j : ℕ) → a ≤ j → j < i + 1 → get_or rows j 0 ≡ 0
zeros_more rows a i h e = more (λ j. get_or rows j 0) (λ j. 0) a i h e

-- the first row, one word more
pub first_more : (k : Kind) (rows : List ℕ) (i : ℕ) → ((j : ℕ) → j < i → get_or rows j 0 ≡ row_word (default_rule k (get_or rows 1 0)) j) → get_or rows i 0 ≡ row_word (default_rule k (get_or rows 1 0)) i → (j : ℕ) → j < i + 1 → get_or rows j 0 ≡ row_word (default_rule k (get_or rows 1 0)) j
first_more k rows i h e j l = more (λ j. get_or rows j 0) (row_word (default_rule k (get_or rows 1 0))) 0 i (λ j a b. h j b) e j (omega arith) l

-- one row more, and one row that is not blank
module _ (w : ℕ) (rows : List ℕ) (u at p : ℕ) (e : at ≡ w * p) where
  pub blank_on : (a : ℕ) → Blank w rows u a p → Zeros rows (at + u) (at + w) → Blank w rows u a (p + 1)
  blank_on a h z q j l g v x = by_test (ltb q p) (λ t. h q j l (ltb-true q p t) v x) (λ t.
      let y : q ≡ p = omega (arith, ltb-false q p t) in rw y (z (w * p + j) (omega arith) (omega arith)))

  pub blank_not : (a b : ℕ) → a ≤ p → p < b → (Zeros rows (at + u) (at + w) → ⊥) → Blank w rows u a b → ⊥
  blank_not a b l g n h = n (λ i x y. let z : w * p + (i - at) ≡ i = omega arith in rw z at (h p (i - at) l g (omega arith) (omega arith)))

-- Going through the rules: p of them are done, x is the number of the next one.
module _ (k : Kind) (n : ℕ) (rows : List ℕ) (p x at : ℕ) (h : p < n) (q : at ≡ k.width * (p + 1)) (e : x ≡ number_in rows at) where
  abbrev R : List Rule
  R = (table_in k n rows).rules

  e' : number_in rows (k.width * suc p) ≡ x
  e' = sym (rw (q, add-one p) at e)

  -- rising numbers
  rising_is : (b : ℕ) → rising_from b (drop p R) ≡ (leb b x && (leb x 65534 && rising_from (suc x) (drop (suc p) R)))
  rising_is b = rw (rules_from k n rows p h, e')

  pub rising_low : (b : ℕ) → x < b → rising_from b (drop p (table_in k n rows).rules) ≡ false
  rising_low b l = rising_is b ∙ rw (lt-leb b x l)

  pub rising_high : (b : ℕ) → b ≤ x → 65534 < x → rising_from b (drop p (table_in k n rows).rules) ≡ false
  rising_high b l g = rising_is b ∙ rw (le-leb b x l, lt-leb x 65534 g)

  pub rising_on : (b : ℕ) → b ≤ x → x ≤ 65534 → rising_from b (drop p (table_in k n rows).rules) ≡ rising_from (x + 1) (drop (p + 1) (table_in k n rows).rules)
  rising_on b l g = rising_is b ∙ rw (le-leb b x l, le-leb x 65534 g, add-one x, add-one p)

-- right ranges, a field at a time: f of them are done
module _ (rows : List ℕ) (place : ℕ) (tops : List ℕ) where
  abbrev pub RightFrom : ℕ → Bool
  RightFrom f = ranges_right (fields_from f (drop f tops)) (rule_in (length tops) rows place)

  pub right_end : (f : ℕ) → length tops ≤ f → RightFrom f ≡ true
  right_end f h = rw (drop_of_length-le tops {i = f} h)

  module _ (f l g : ℕ) (h : f < length tops) (el : l ≡ low_in rows f place) (eg : g ≡ high_in rows f place) where
    right_is : RightFrom f ≡ (leb l g && (leb g (get_or tops f 0) && ranges_right (fields_from (suc f) (drop (suc f) tops)) (rule_in (length tops) rows place)))
    right_is =
        let a : get_or (up_to (length tops) (λ i. low_in rows i place)) f 0 ≡ l = get_d_up_to (length tops) (λ i. low_in rows i place) f 0 h ∙ sym el in
        let b : get_or (up_to (length tops) (λ i. high_in rows i place)) f 0 ≡ g = get_d_up_to (length tops) (λ i. high_in rows i place) f 0 h ∙ sym eg in
        rw (drop-cons tops f 0 h, a, b)

    pub right_crossed : g < l → RightFrom f ≡ false
    right_crossed x = right_is ∙ rw (lt-leb l g x)

    pub right_above : l ≤ g → get_or tops f 0 < g → RightFrom f ≡ false
    right_above x y = right_is ∙ rw (le-leb l g x, lt-leb g (get_or tops f 0) y)

    pub right_on : l ≤ g → g ≤ get_or tops f 0 → RightFrom f ≡ RightFrom (f + 1)
    right_on x y = right_is ∙ rw (le-leb l g x, le-leb g (get_or tops f 0) y, add-one f)

-- a rule that a row holds has as many ends as there are fields
pub rule_right_lem : (k : Kind) (rows : List ℕ) (p : ℕ) → rule_right k (rule_in (length k.tops) rows p) ≡ (ranges_right (fields_from 0 k.tops) (rule_in (length k.tops) rows p) && ports_right k (rule_in (length k.tops) rows p))
rule_right_lem k rows p =
    let n = length k.tops in
    rw (eq-eqb (length (up_to n (λ f. low_in rows f p))) n (length_up_to n (λ f. low_in rows f p)), eq-eqb (length (up_to n (λ f. high_in rows f p))) n (length_up_to n (λ f. high_in rows f p)))

-- the rule of a row asks in a field for one number to another
abbrev pub Asked : List ℕ → ℕ → ℕ → ℕ → ℕ → Bool
Asked rows p f from to = eqb (low_in rows f p) from && eqb (high_in rows f p) to

-- by the test of its low end, l, and then of its high end, h
module _ (rows : List ℕ) (p f from to : ℕ) {l : ℕ} (e : l ≡ low_in rows f p) where
  pub asks_other : (l ≡ from → ⊥) → false ≡ Asked rows p f from to
  asks_other n = rw (ne_eqb (low_in rows f p) from (λ q. n (e ∙ q)))

  pub asks_high : l ≡ from → {h : ℕ} → h ≡ high_in rows f p → eqb h to ≡ Asked rows p f from to
  asks_high q {h = h} g = ap (λ x. eqb x to) g ∙ sym (rw (eq-eqb (low_in rows f p) from (sym e ∙ q)))

-- the port rule, by the tests of the mark, x, and of the two ports, y and z
module _ (k : Kind) (s : k.ports + 3 ≡ length k.tops) (rows : List ℕ) (p : ℕ) where
  asked : (f to : ℕ) → f < k.ports + 3 → asks_for (rule_in (length k.tops) rows p) f 0 to ≡ Asked rows p f 0 to
  asked f to h = let n = length k.tops in rw (get_d_up_to n (λ i. low_in rows i p) f 0 (omega (arith, s, h)), get_d_up_to n (λ i. high_in rows i p) f 0 (omega (arith, s, h)))

  ports_are : ports_right k (rule_in (length k.tops) rows p) ≡ (Asked rows p (k.ports + 2) 0 0 || (Asked rows p k.ports 0 (get_or k.tops k.ports 0) && Asked rows p (k.ports + 1) 0 (get_or k.tops (k.ports + 1) 0)))
  ports_are =
      ap₂ ◌||◌ (asked (k.ports + 2) 0 (omega arith)) (ap₂ ◌&&◌ (asked k.ports (get_or k.tops k.ports 0) (omega arith)) (asked (k.ports + 1) (get_or k.tops (k.ports + 1) 0) (omega arith)))

  module _ {x : Bool} (ex : x ≡ Asked rows p (k.ports + 2) 0 0) where
    pub mark_none : x ≡ true → true ≡ ports_right k (rule_in (length k.tops) rows p)
    mark_none t = sym (ports_are ∙ rw (sym ex ∙ t))

    module _ (f : x ≡ false) {v : ℕ} (ev : v ≡ get_or k.tops k.ports 0) {y : Bool} (ey : y ≡ Asked rows p k.ports 0 v) where
      first_is : y ≡ Asked rows p k.ports 0 (get_or k.tops k.ports 0)
      first_is = ey ∙ ap (Asked rows p k.ports 0) ev

      pub first_narrow : y ≡ false → false ≡ ports_right k (rule_in (length k.tops) rows p)
      first_narrow g = sym (ports_are ∙ rw (sym ex ∙ f, sym first_is ∙ g))

      pub by_second : y ≡ true → {w : ℕ} → w ≡ get_or k.tops (k.ports + 1) 0 → {z : Bool} → z ≡ Asked rows p (k.ports + 1) 0 w → z ≡ ports_right k (rule_in (length k.tops) rows p)
      by_second g ew ez = ez ∙ ap (Asked rows p (k.ports + 1) 0) ew ∙ sym (ports_are ∙ rw (sym ex ∙ f, sym first_is ∙ g))

module _ (k : Kind) (n : ℕ) (rows : List ℕ) (p at : ℕ) (h : p < n) (q : at ≡ k.width * (p + 1)) (b : Bool) (e : b ≡ rule_right k (rule_in (length k.tops) rows at)) where
  all_is : all_right k (drop p (table_in k n rows).rules) ≡ (b && all_right k (drop (suc p) (table_in k n rows).rules))
  all_is = rw (rules_from k n rows p h) (ap (λ x. x && all_right k (drop (suc p) (table_in k n rows).rules)) (sym (rw (q, add-one p) at e)))

  pub all_wrong : b ≡ false → all_right k (drop p (table_in k n rows).rules) ≡ false
  all_wrong f = all_is ∙ rw f

  pub all_on : b ≡ true → all_right k (drop p (table_in k n rows).rules) ≡ all_right k (drop (p + 1) (table_in k n rows).rules)
  all_on f = all_is ∙ rw (f, add-one p)

-- the default's row: every low end is 0, every high end is its field's top
module _ (k : Kind) (a j : ℕ) (z : j ≡ 0 → ⊥) (o : j ≡ 1 → ⊥) where
  pub default_low : j % 2 ≡ 0 → row_word (default_rule k a) j ≡ 0
  default_low e =
      let d : j ≡ 2 + 2 * (j / 2 - 1) = omega arith in
      ap (row_word (default_rule k a)) d ∙ row_low (default_rule k a) (j / 2 - 1) ∙ zeros k.tops (j / 2 - 1)
    where
      zeros : (ts : List ℕ) (i : ℕ) → ◌≡◌ {A = ℕ} (get_or (map (λ t. 0) ts) i 0) 0
      zeros [] i = refl
      zeros (t ∷ ts) zero = refl
      zeros (t ∷ ts) (suc i) = zeros ts i

  pub default_high : (j % 2 ≡ 0 → ⊥) → row_word (default_rule k a) j ≡ get_or k.tops (j / 2 - 1) 0
  default_high e =
      let d : j ≡ 3 + 2 * (j / 2 - 1) = omega arith in
      ap (row_word (default_rule k a)) d ∙ row_high (default_rule k a) (j / 2 - 1)

-- all places: 1 to n are written, and then the default's
pub places_end : (w n : ℕ) (out : List ℕ) → n < length out → take n out ≡ up_to n (λ i. w * suc i) → take (n + 1) (set out n 0) ≡ places w n
unfolding places
places_end w n out h e = rw (add-one n, take-suc-set out n 0 h, e)
