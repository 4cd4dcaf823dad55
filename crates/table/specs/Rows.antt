-- The table in words: rows of the kind's width, the default's first, then the rules by rising number, then rows of zeros.
-- Assumes nothing: these are definitions.
use Rattle.std.specs.Prelude.{◌≡◌, Bool, true, false, cond, List, [], ◌∷◌, ◌++◌, ℕ, suc, ◌+◌, ◌-◌, ◌*◌, ◌/◌, ◌%◌, ◌≤◌, ◌<◌, eqb, ltb, length, get_or}
use Rattle.model.specs.Lists.{up_to, grid}
use Rattle.model.specs.Table.{Kind, Rule, Table, default_rule, row_words, Shaped}
use Rattle.rows.specs.Rows.{number_in, action_in, low_in, high_in}
use Rattle.table.specs.declared.shape.Shape.{Shape}

-- the kind of store that has this shape
abbrev pub kind_of : Shape → Kind
kind_of s = record { tops = s.tops.now; ports = s.ports; most = s.most; width = s.width; head = s.head; mark = s.mark }

-- the kind with these tops and its ports at this field, whatever its other numbers are
abbrev pub kind_with : List ℕ → ℕ → ℕ → ℕ → ℕ → ℕ → Kind
kind_with tops ports most width head mark = record { tops = tops; ports = ports; most = most; width = width; head = head; mark = mark }

-- n rules of the rows of a kind: no more than it takes, and the words are all its rows
pub record Rowed (k : Kind) (n : ℕ) (rows : List ℕ) : Type 0 where
  pub shaped : Shaped k
  pub fit : n ≤ k.most
  pub whole : length rows ≡ row_words k

-- where no rule stands: its row is zeros
abbrev pub no_rule : Rule
no_rule = record { number = 0; action = 0; lows = []; highs = [] }

-- word j of a rule's row: 0 its number, 1 its action, 2 + 2 f the low and 3 + 2 f the high end of field f (from 0); behind the last field 0
unfoldable pub row_word : Rule → ℕ → ℕ
row_word r j =
    cond (eqb j 0) r.number
    (cond (eqb j 1) r.action
    (cond (eqb (j % 2) 0) (get_or r.lows (j / 2 - 1) 0) (get_or r.highs (j / 2 - 1) 0)))

-- the rule at place p: the default at 0, and then the others by rising number
unfoldable pub placed : Kind → Table → ℕ → Rule
placed k t p = get_or (default_rule k t.action ∷ t.rules) p no_rule

-- the rows of a table: that of the default, those of the rules, and rows of zeros up to the most that the kind takes
unfoldable pub rows_text : Kind → Table → List ℕ
rows_text k t = grid k.width (suc k.most) (λ p. row_word (placed k t p))

-- the rule of the row that begins at word p, with n fields
abbrev pub rule_in : ℕ → List ℕ → ℕ → Rule
rule_in n rows p = record { number = number_in rows p; action = action_in rows p; lows = up_to n (λ f. low_in rows f p); highs = up_to n (λ f. high_in rows f p) }

-- the table that the rows hold, whatever stands in them, where it has n rules
unfoldable pub table_in : Kind → ℕ → List ℕ → Table
table_in k n rows = record { action = action_in rows 0; rules = up_to n (λ i. rule_in (length k.tops) rows (k.width * suc i)) }

-- where the rows of a table of n rules begin, by rising number, the default's last
unfoldable pub places : ℕ → ℕ → List ℕ
places w n = up_to n (λ i. w * suc i) ++ (0 ∷ [])

-- how many rules stand before the place of the number x: those in front whose numbers are below it
abbrev pub ahead : ℕ → List Rule → ℕ
ahead x [] = 0
ahead x (r ∷ rs) = cond (ltb r.number x) (suc (ahead x rs)) 0

-- word i of the rows with a row of w words put in at word `at`: the words from there on move up by w
abbrev pub put_word : ℕ → List ℕ → ℕ → List ℕ → ℕ → ℕ
put_word w rows at row i = cond (ltb i at) (get_or rows i 0) (cond (ltb i (at + w)) (get_or row (i - at) 0) (get_or rows (i - w) 0))

-- word i of the rows with the row of w words at word `at` taken out: the words behind it move down by w, and zeros come last
abbrev pub take_word : ℕ → List ℕ → ℕ → ℕ → ℕ
take_word w rows at i = cond (ltb i at) (get_or rows i 0) (get_or rows (i + w) 0)

-- what the inner tests answer: P where it is true, and no P where it is false
abbrev pub Tells : Bool → Type 0 → Type 0
Tells r P = (r ≡ true → P) × (r ≡ false → P → ⊥)

-- the first row is the default's
abbrev pub First : Kind → List ℕ → Type 0
First k rows = (j : ℕ) → j < k.width → get_or rows j 0 ≡ row_word (default_rule k (get_or rows 1 0)) j

-- the words from a up to b are 0
abbrev pub Zeros : List ℕ → ℕ → ℕ → Type 0
Zeros rows a b = (i : ℕ) → a ≤ i → i < b → get_or rows i 0 ≡ 0

-- the rows from a up to b, of w words each, have zeros from word u on
abbrev pub Blank : ℕ → List ℕ → ℕ → ℕ → ℕ → Type 0
Blank w rows u a b = (p j : ℕ) → a ≤ p → p < b → u ≤ j → j < w → get_or rows (w * p + j) 0 ≡ 0

-- the words of a table of the default alone
abbrev pub fresh_word : Kind → ℕ → ℕ → ℕ
fresh_word k a i = cond (ltb i k.width) (row_word (default_rule k a) i) 0

-- out is `before` with the words of a slice, from a start on, written over it from a place up to an end
pub record Copied (from : List ℕ) (start : ℕ) (before out : List ℕ) (at end : ℕ) : Type 0 where
  pub new : (i : ℕ) → at ≤ i → i < end → get_or out i 0 ≡ get_or from (start + (i - at)) 0
  pub kept : (i : ℕ) → i < at → get_or out i 0 ≡ get_or before i 0
  pub behind : (i : ℕ) → end ≤ i → get_or out i 0 ≡ get_or before i 0

-- out is `before` with the words from a place on moved up by w
pub record Raised (before out : List ℕ) (at w : ℕ) : Type 0 where
  pub low : (i : ℕ) → i < at → get_or out i 0 ≡ get_or before i 0
  pub high : (i : ℕ) → at + w ≤ i → i < length before → get_or out i 0 ≡ get_or before (i - w) 0
