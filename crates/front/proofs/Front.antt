-- The front of a store as it is written and edited: its head word by word, and its rows with those moved that hold a rule.
-- Assumes nothing.
use mathlib.Core.Path.{◌≡◌, refl, sym, ap, ap₂, ◌∙◌}
use mathlib.Core.Bool.{true}
use mathlib.Core.List.{List, [], ◌∷◌, ◌++◌, append-nil}
use Prim.Native.Nat.{ℕ, zero, suc, ◌+◌, ◌-◌, ◌*◌, ◌≤◌, ◌<◌}
use native.Mathlib.Omega.{arith}
use native.Mathlib.Numerals.{add-one}
use lib.Dec.{ltb}
use lib.ListN.{length, get_or, take, drop, set, replicate, length-append, length-take, length-drop, length-replicate, get_or-append, get_or-eq_default, drop_of_length-le}
use lib.Seq.{take_at, drop_at, take-suc-set, take-length, get_or-take, get_or-drop, get_or-append-add, length-take-le}
use borrow.Rule.Slice.PartMut.{put_mid}
use borrow.Author.Tests.{ltb-true, ltb-false, le-ltb}
use Rattle.model.specs.Lists.{up_to}
use Rattle.model.specs.Table.{Kind, Shaped, Table, row_words, within, stands, with_rule, without}
use Rattle.model.proofs.Tests.{by_test}
use Rattle.model.proofs.UpTo.{length_up_to, get_d_up_to, up_to_is}
use Rattle.model.proofs.Grid.{row_ends, row_starts, grid_is}
use Rattle.model.proofs.Limits.{from_within}
use Rattle.model.proofs.Edits.{length_added, length_removed}
use Rattle.table.specs.Rows.{row_word, placed, rows_text, rule_in, ahead, put_word, take_word, Copied}
use Rattle.table.proofs.Laws.{row_none, row_in, row_past}
use Rattle.table.proofs.Edits.{rows_long, rows_at, rows_past, placed_past, put_rows, take_rows}
use Rattle.layout.specs.Store.{head_text}
use Rattle.layout.specs.Inner.{front_text}
use Rattle.layout.proofs.Parts.{head_length}

-- THE HEAD, written from its first word on
zeros_snoc : (i : ℕ) → ◌++◌ {A = ℕ} (replicate i 0) (0 ∷ []) ≡ replicate (suc i) 0
zeros_snoc zero = refl
zeros_snoc (suc i) = ap (λ xs. 0 ∷ xs) (zeros_snoc i)

pub head_start : (c n m : ℕ) (hs : List ℕ) → 3 ≤ length hs → take 3 (set (set (set hs 0 c) 1 n) 2 m) ≡ c ∷ n ∷ m ∷ []
head_start c n m [] h = absurd (omega arith)
head_start c n m (x ∷ []) h = absurd (omega arith)
head_start c n m (x ∷ y ∷ []) h = absurd (omega arith)
head_start c n m (x ∷ y ∷ z ∷ hs) h = refl

pub head_on : (c n m : ℕ) (hs : List ℕ) (i : ℕ) → 3 ≤ i → i < length hs → take i hs ≡ c ∷ n ∷ m ∷ replicate (i - 3) 0 → take (i + 1) (set hs i 0) ≡ c ∷ n ∷ m ∷ replicate (i + 1 - 3) 0
head_on c n m hs i u h e =
    let z : i + 1 - 3 ≡ suc (i - 3) = omega arith in
    rw (z, add-one i, take-suc-set hs i 0 h, e) (ap (λ xs. c ∷ n ∷ m ∷ xs) (zeros_snoc (i - 3)))

pub head_end : (c n m : ℕ) (hs : List ℕ) (i l : ℕ) → i ≡ length hs → l ≡ length hs → take i hs ≡ c ∷ n ∷ m ∷ replicate (i - 3) 0 → hs ≡ c ∷ n ∷ m ∷ replicate (l - 3) 0
head_end c n m hs i l e f t = let z : i ≡ l = e ∙ sym f in sym (take-length hs) ∙ (ap (λ j. take j hs) (sym e) ∙ (t ∙ ap (λ j. c ∷ n ∷ m ∷ replicate (j - 3) 0) z))

-- a word below n rows of w words stands in one of them
row_of : (w n i : ℕ) → i < w * n → (p j : ℕ) × (p < n) × (j < w) × (i ≡ w * p + j)
row_of w zero i h = absurd (omega arith)
row_of w (suc n) i h = by_test (ltb i (w * n))
    (λ t. let r = row_of w n i (ltb-true i (w * n) t) in (r.0, r.1, omega (arith, r.2), r.3, r.4))
    (λ t. let z = ltb-false i (w * n) t in (n, i - w * n, omega arith, omega arith, omega arith))

-- a row that is as long as its rule's words has those words, and zeros behind them
row_words_lem : (k : Kind) (row : List ℕ) → length row ≡ 2 + 2 * length k.tops → (j : ℕ) → get_or row j 0 ≡ row_word (rule_in (length k.tops) row 0) j
row_words_lem k row l j = by_test (ltb j (2 + 2 * length k.tops))
    (λ t. sym (row_in (length k.tops) row 0 j (ltb-true _ _ t) ∙ (let z : 0 + j ≡ j = omega arith in rw z)))
    (λ t. let b = ltb-false j (2 + 2 * length k.tops) t in get_or-eq_default row 0 {n = j} (omega arith) ∙ sym (row_past (length k.tops) row 0 j b))

-- THE ROWS behind the last rule are zeros
rows_blank : (k : Kind) (t : Table) (i : ℕ) → k.width * suc (length t.rules) ≤ i → get_or (rows_text k t) i 0 ≡ 0
rows_blank k t i h = by_test (ltb i (row_words k))
    (λ b.
    let r = row_of k.width (suc k.most) i (ltb-true i (row_words k) b) in
    let past : length t.rules < r.0 = by_test (ltb (length t.rules) r.0) (λ q. ltb-true _ _ q) (λ q. absurd (omega (arith, r.3, r.4, row_ends k.width r.0 (suc (length t.rules)) (omega (arith, ltb-false (length t.rules) r.0 q))))) in
    rw r.4 (rows_at k t r.0 r.1 (omega (arith, r.2)) r.3 ∙ rw (placed_past k t r.0 past) (row_none r.1)))
    (λ b. rows_past k t i (ltb-false i (row_words k) b))

-- a list that is made anew up to word m and goes on as it was
made_anew : (f g : ℕ → ℕ) (m n : ℕ) (rows : List ℕ) → length rows ≡ n → m ≤ n → ((i : ℕ) → i < m → f i ≡ g i) → ((i : ℕ) → m ≤ i → i < n → get_or rows i 0 ≡ g i) → up_to m f ++ drop m rows ≡ up_to n g
made_anew f g m n rows l h a b = up_to_is 0 (up_to m f ++ drop m rows) n g (simp (length-append, length-drop) (omega (arith, length_up_to m f)))
    (λ i v. by_test (ltb i m)
    (λ t. let u = ltb-true i m t in get_or-append (up_to m f) (drop m rows) 0 i (omega (arith, length_up_to m f)) ∙ (get_d_up_to m f i 0 u ∙ a i u))
    (λ t.
    let u = ltb-false i m t in
    let z : i ≡ length (up_to m f) + (i - m) = omega (arith, length_up_to m f) in
    let y : m + (i - m) ≡ i = omega arith in
    ap (λ j. get_or (up_to m f ++ drop m rows) j 0) z ∙ (get_or-append-add (up_to m f) (drop m rows) (i - m) 0 ∙ (get_or-drop m rows (i - m) 0 ∙ (ap (λ j. get_or rows j 0) y ∙ b i u v)))))

-- the part of a front from its head on, as far as `end` words of its rows
pub mid_long : (h m E : ℕ) (front : List ℕ) → E ≡ h + m → h + m ≤ length front → length (take (E - h) (drop h front)) ≡ m
mid_long h m E front e g = simp (length-take, length-drop) (omega arith)

-- A front whose rows are made anew up to word m of them, and whose number of rules is set.
module _ (k : Kind) (s : Shaped k) (c n n' : ℕ) (rows rows' front x : List ℕ) (e : front ≡ head_text k c n ++ rows) (m E : ℕ) (f : E ≡ k.head + m) where
  pub front_mid : take (E - k.head) (drop k.head front) ≡ take m rows
  front_mid = let z : E - k.head ≡ m = omega arith in ap (λ j. take j (drop k.head front)) z ∙ ap (take m) (ap (drop k.head) e ∙ drop_at (head_text k c n) rows k.head (head_length k s c n []))

  pub front_set : x ++ drop m rows ≡ rows' → set (put_mid k.head (E - k.head) front x) 1 n' ≡ head_text k c n' ++ rows'
  unfolding head_text
  front_set g =
      let z : E - k.head ≡ m = omega arith in
      let a = ap (take k.head) e ∙ take_at (head_text k c n) rows k.head (head_length k s c n []) in
      let b = ap (drop k.head) e ∙ drop_at (head_text k c n) rows k.head (head_length k s c n []) in
      ap (λ xs. set xs 1 n') (ap₂ (λ p q. p ++ (x ++ q)) a (ap₂ drop z b) ∙ ap (λ q. head_text k c n ++ q) g)

-- A RULE PUT IN, where n rules stand: n + 2 rows are made anew
module _ (k : Kind) (s : Shaped k) (c n : ℕ) (t : Table) (front row : List ℕ) (right : within k t ≡ true) (count : n ≡ length t.rules) (p : ℕ) (place : p ≡ ahead (get_or row 0 0) t.rules) (len : length row ≡ 2 + 2 * length k.tops) (e : front ≡ front_text k c t) (room : n < k.most) (few : p ≤ n) (at end E : ℕ) (fa : at ≡ k.width * (p + 1)) (fe : end ≡ k.width * (n + 2)) (fE : E ≡ k.head + end) where
  old : front ≡ head_text k c n ++ rows_text k t
  unfolding front_text
  old = e ∙ ap (λ m. head_text k c m ++ rows_text k t) (sym count)

  few_words : end ≤ row_words k
  few_words = omega (arith, row_starts k.width (n + 2) (suc k.most) (omega arith))

  put_new : (x : List ℕ) → x ≡ up_to (length (take (E - k.head) (drop k.head front))) (put_word k.width (take (E - k.head) (drop k.head front)) at row) → x ++ drop end (rows_text k t) ≡ rows_text k (with_rule (rule_in (length k.tops) row 0) t)
  put_new x h =
      let w = k.width in
      let R = rows_text k t in
      let L = rows_long k t in
      let q = front_mid k s c n n R R front x old end E fE in
      let l : length (take end R) ≡ end = length-take-le end R (omega (arith, few_words)) in
      let y : x ≡ up_to end (put_word w (take end R) at row) = h ∙ (ap (λ xs. up_to (length xs) (put_word w xs at row)) q ∙ ap (λ j. up_to j (put_word w (take end R) at row)) l) in
      let g : w * suc (length t.rules) + w ≡ end = rw (← count) (omega arith) in
      let b : at + w ≤ end = omega (arith, row_ends w (p + 1) (n + 2) (omega arith)) in
      let new : up_to end (put_word w (take end R) at row) ++ drop end R ≡ up_to (row_words k) (put_word w R at row) = made_anew (put_word w (take end R) at row) (put_word w R at row) end (row_words k) R L few_words
      (λ i u. rw (get_or-take end R i 0 u, get_or-take end R (i - w) 0 (omega arith)))
      (λ i u v. rw (le-ltb i at (omega arith), le-ltb i (at + w) (omega arith)) (rows_blank k t i (omega (arith, g)) ∙ sym (rows_blank k t (i - w) (omega (arith, g)))))
      in
      ap (λ xs. xs ++ drop end R) y ∙ (new ∙ rw fa (put_rows k t (rule_in (length k.tops) row 0) (p + 1) (omega (arith, place)) R row refl (λ j v. row_words_lem k row len j)))

  pub put_front : (x : List ℕ) → x ≡ up_to (length (take (E - k.head) (drop k.head front))) (put_word k.width (take (E - k.head) (drop k.head front)) at row) → set (put_mid k.head (E - k.head) front x) 1 (n + 1) ≡ front_text k c (with_rule (rule_in (length k.tops) row 0) t)
  unfolding front_text
  put_front x h =
      let z : n + 1 ≡ length (with_rule (rule_in (length k.tops) row 0) t).rules = omega (arith, count, length_added (rule_in (length k.tops) row 0) t.rules) in
      front_set k s c n (n + 1) (rows_text k t) _ front x old end E fE (put_new x h) ∙ ap (λ m. head_text k c m ++ rows_text k (with_rule (rule_in (length k.tops) row 0) t)) z

-- A RULE TAKEN OUT, where n rules stand: n + 1 rows are made anew
module _ (k : Kind) (s : Shaped k) (c n v : ℕ) (t : Table) (front : List ℕ) (right : within k t ≡ true) (count : n ≡ length t.rules) (p : ℕ) (place : p ≡ ahead v t.rules) (there : stands v t.rules ≡ true) (e : front ≡ front_text k c t) (room : n ≤ k.most) (few : p < n) (at end E : ℕ) (fa : at ≡ k.width * (p + 1)) (fe : end ≡ k.width * (n + 1)) (fE : E ≡ k.head + end) where
  old' : front ≡ head_text k c n ++ rows_text k t
  unfolding front_text
  old' = e ∙ ap (λ m. head_text k c m ++ rows_text k t) (sym count)

  few_words' : end ≤ row_words k
  few_words' = omega (arith, row_starts k.width (n + 1) (suc k.most) (omega arith))

  take_new : (x : List ℕ) → x ≡ up_to (length (take (E - k.head) (drop k.head front))) (take_word k.width (take (E - k.head) (drop k.head front)) at) → x ++ drop end (rows_text k t) ≡ rows_text k (without v t)
  take_new x h =
      let w = k.width in
      let R = rows_text k t in
      let q = front_mid k s c n n R R front x old' end E fE in
      let l : length (take end R) ≡ end = length-take-le end R (omega (arith, rows_long k t, few_words')) in
      let y : x ≡ up_to end (take_word w (take end R) at) = h ∙ (ap (λ xs. up_to (length xs) (take_word w xs at)) q ∙ ap (λ j. up_to j (take_word w (take end R) at)) l) in
      let g : w * suc (length t.rules) ≡ end = rw (← count) (omega arith) in
      let b : at ≤ end = omega (arith, row_starts w (p + 1) (n + 1) (omega arith)) in
      let new : up_to end (take_word w (take end R) at) ++ drop end R ≡ up_to (row_words k) (take_word w R at) = made_anew (take_word w (take end R) at) (take_word w R at) end (row_words k) R (rows_long k t) few_words'
      (λ i u. rw (get_or-take end R i 0 u, cut i))
      (λ i u z. rw (le-ltb i at (omega arith)) (rows_blank k t i (omega (arith, g)) ∙ sym (rows_blank k t (i + w) (omega (arith, g)))))
      in
      ap (λ xs. xs ++ drop end R) y ∙ (new ∙ rw fa (take_rows k t v (p + 1) (from_within k t right).rising there (omega (arith, place)) R refl (omega (arith, count))))
    where
      cut : (i : ℕ) → get_or (take end (rows_text k t)) (i + k.width) 0 ≡ get_or (rows_text k t) (i + k.width) 0
      cut i = by_test (ltb (i + k.width) end)
          (λ q. get_or-take end (rows_text k t) (i + k.width) 0 (ltb-true _ _ q))
          (λ q. let u = ltb-false (i + k.width) end q in get_or-eq_default (take end (rows_text k t)) 0 {n = i + k.width} (simp length-take (omega arith)) ∙ sym (rows_blank k t (i + k.width) (rw (← count) (omega arith))))

  pub take_front : (x : List ℕ) → x ≡ up_to (length (take (E - k.head) (drop k.head front))) (take_word k.width (take (E - k.head) (drop k.head front)) at) → set (put_mid k.head (E - k.head) front x) 1 (n - 1) ≡ front_text k c (without v t)
  unfolding front_text
  take_front x h =
      let z : n - 1 ≡ length (without v t).rules = omega (arith, count, length_removed 0 v t.rules (from_within k t right).rising there) in
      front_set k s c n (n - 1) (rows_text k t) _ front x old' end E fE (take_new x h) ∙ ap (λ m. head_text k c m ++ rows_text k (without v t)) z

-- A FRESH FRONT: its head is written, and then its rows, which are all that is left of it
pub fresh_front : (k : Kind) (s : Shaped k) (c : ℕ) (t : Table) (front h rows : List ℕ) → length front ≡ k.head + row_words k
    → h ≡ c ∷ length t.rules ∷ k.mark ∷ replicate (length (take k.head front) - 3) 0
    → rows ≡ rows_text k t
    → put_mid k.head (length (h ++ drop k.head front) - k.head) (h ++ drop k.head front) rows ≡ front_text k c t
unfolding front_text head_text
fresh_front k s c t front h rows l e f =
    let x : length (take k.head front) ≡ k.head = length-take-le k.head front (omega arith) in
    let g : h ≡ head_text k c (length t.rules) = e ∙ ap (λ m. c ∷ length t.rules ∷ k.mark ∷ replicate (m - 3) 0) x in
    let y : length h ≡ k.head = ap length g ∙ head_length k s c (length t.rules) [] in
    let d = drop_at h (drop k.head front) k.head y in
    let z : length (h ++ drop k.head front) - k.head ≡ length (drop k.head front) = simp length-append (omega arith) in
    ap₂ (λ p q. p ++ (rows ++ q)) (take_at h (drop k.head front) k.head y ∙ g) (ap₂ drop z d ∙ drop_of_length-le (drop k.head front) {i = length (drop k.head front)} (omega arith))
    ∙ ap (λ q. head_text k c (length t.rules) ++ q) (append-nil rows ∙ f)

-- A FRONT FOR ROWS THAT ARE LENT, as a store of the kind j has them: word q of row p, which is 0 where that kind has no such row
word_of : (j : Kind) (t : Table) → length t.rules ≤ j.most → (p q : ℕ) → q < j.width → get_or (rows_text j t) (j.width * p + q) 0 ≡ row_word (placed j t p) q
word_of j t fit p q v = by_test (ltb j.most p)
    (λ b. let past = ltb-true j.most p b in rows_past j t (j.width * p + q) (omega (arith, row_starts j.width (suc j.most) p past)) ∙ sym (rw (placed_past j t p (omega arith)) (row_none q)))
    (λ b. rows_at j t p q (ltb-false j.most p b) v)

-- the rule at a place goes by the fields alone
placed_same : (j k : Kind) (t : Table) (p : ℕ) → j.tops ≡ k.tops → placed j t p ≡ placed k t p
unfolding placed
placed_same j k t p e = rw e

-- copied, with zeros behind them, they are the rows of a kind with the same fields and the same width
carried_rows : (j k : Kind) (t : Table) (rows before out : List ℕ) (E : ℕ) → j.tops ≡ k.tops → j.width ≡ k.width → length t.rules ≤ j.most → rows ≡ rows_text j t → length out ≡ row_words k → E ≡ row_words k → Copied rows 0 before out 0 E → out ≡ rows_text k t
unfolding rows_text
carried_rows j k t rows before out E fields wide fit e l f c = grid_is 0 out k.width (suc k.most) (λ p. row_word (placed k t p)) l
    (λ p q u v.
    let i = k.width * p + q in
    let z : 0 + (i - 0) ≡ j.width * p + q = rw wide (omega arith) in
    let r : get_or rows (0 + (i - 0)) 0 ≡ row_word (placed k t p) q = rw (z, e, ← placed_same j k t p fields) (word_of j t fit p q (omega arith)) in
    c.new i (omega arith) (omega (arith, row_ends k.width p (suc k.most) u)) ∙ r)

-- and with a head before them they are the front of the table
pub carried_front : (k : Kind) (s : Shaped k) (c n : ℕ) (front h rows before out : List ℕ) → length front ≡ k.head + row_words k
    → h ≡ c ∷ n ∷ k.mark ∷ replicate (length (take k.head front) - 3) 0
    → length out ≡ length (take (length (h ++ drop k.head front) - k.head) (drop k.head (h ++ drop k.head front)))
    → Copied rows 0 before out 0 (length front - k.head)
    → (j : Kind) (t : Table) → j.tops ≡ k.tops → j.width ≡ k.width → n ≡ length t.rules → n ≤ j.most → rows ≡ rows_text j t
    → put_mid k.head (length (h ++ drop k.head front) - k.head) (h ++ drop k.head front) out ≡ front_text k c t
carried_front k s c n front h rows before out l e m copied j t fields wide count fit f =
    let x = length-take-le k.head front (omega arith) in
    let y : length h ≡ k.head = ap length e ∙ omega (arith, length-replicate {A = ℕ} (length (take k.head front) - 3) 0, s.three) in
    let z = simp (length-take, length-drop, length-append) at m in
    fresh_front k s c t front h out l (rw count at e) (carried_rows j k t rows before out _ fields wide (omega arith) f (omega arith) (omega arith) copied)

-- THE FRONT of any table is as long
pub front_length : (k : Kind) (sh : Shaped k) (c : ℕ) (t : Table) → length (front_text k c t) ≡ k.head + row_words k
unfolding front_text
front_length k sh c t = simp length-append (omega (arith, head_length k sh c (length t.rules) [], rows_long k t))
