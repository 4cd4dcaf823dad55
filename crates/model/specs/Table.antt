-- A table of rules, its limits, and what insert, delete and read say of it.
-- Assumes nothing: these are definitions.
use Rattle.std.specs.Prelude.{◌≡◌, Bool, true, false, cond, not, ◌&&◌, ◌||◌, List, [], ◌∷◌, ◌++◌, map, ℕ, suc, ◌+◌, ◌-◌, ◌*◌, ◌≤◌, ◌<◌, ltb, leb, eqb, length, get_or}
use Rattle.model.specs.Lists.{keep, least}
use Rattle.model.specs.Rules.{Field, Tree, tree, cells, winner, reads_sum, ranges_right, within_tops}

-- A kind of store, all in which stores differ: the top of each field, in order; which field (from 0) is the destination port's, with the source port's behind it and then the mark of packets without ports, the last three fields of every kind; how many rules it takes besides the default; the words of a rule's row; the words before the rows; and the number by which word 2 names the kind.
pub record Kind : Type 0 where
  pub tops : List ℕ
  pub ports : ℕ
  pub most : ℕ
  pub width : ℕ
  pub head : ℕ
  pub mark : ℕ

-- the words of all rows, the default's among them
abbrev pub row_words : Kind → ℕ
row_words k = k.width * suc k.most

-- the words before the first cell: the head, the rows, two links
abbrev pub front : Kind → ℕ
front k = k.head + row_words k + 2

-- What every kind of store has, and no law asks more of one: its last three fields are the ports' and their mark, a row has its rule's words, the head three, and all is small.
pub record Shaped (k : Kind) : Type 0 where
  pub some : 0 < length k.tops
  pub last : k.ports + 3 ≡ length k.tops
  pub ends : 2 + 2 * length k.tops ≤ k.width
  pub narrow : k.width ≤ 31
  pub few : k.most ≤ 512
  pub three : 3 ≤ k.head
  pub short : k.head ≤ 512

-- A rule: its number, its action, and a low and a high end for each field.
pub record Rule : Type 0 where
  pub number : ℕ
  pub action : ℕ
  pub lows : List ℕ
  pub highs : List ℕ

-- A table: the default's action, and the other rules by rising number.
pub record Table : Type 0 where
  pub action : ℕ
  pub rules : List Rule

-- the default's action where none is named: "A start without a named action now sets action 0" (P7, for document 01's 1)
abbrev pub start_action : ℕ
start_action = 0

abbrev pub number_of : Rule → ℕ
number_of r = r.number

-- field i (from 0), with its top: it reads place i of a packet's values and of a rule's ends
abbrev pub field_of : ℕ → ℕ → Field (List ℕ) Rule
field_of i t = record { top = t; value = λ p. get_or p i 0; low = λ r. get_or r.lows i 0; high = λ r. get_or r.highs i 0 }

-- the fields whose tops are given, from field i on
abbrev pub fields_from : ℕ → List ℕ → List (Field (List ℕ) Rule)
fields_from i [] = []
fields_from i (t ∷ ts) = field_of i t ∷ fields_from (suc i) ts

abbrev pub fields : Kind → List (Field (List ℕ) Rule)
fields k = fields_from 0 k.tops

-- "The default rule has number 65,535 and full ranges"
abbrev pub default_rule : Kind → ℕ → Rule
default_rule k a = record { number = 65535; action = a; lows = map (λ t. 0) k.tops; highs = k.tops }

-- the rules of a table, "the default rule included"
abbrev pub every_rule : Kind → Table → List Rule
every_rule k t = t.rules ++ (default_rule k t.action ∷ [])

-- demand 2: the rule that decides for a packet's values
abbrev pub winner_of : Kind → Table → List ℕ → Rule
winner_of k t p = winner number_of (default_rule k t.action) (fields k) p (every_rule k t)

-- demand 3: how many cells the decision reads
abbrev pub reads_of : Kind → Table → List ℕ → ℕ
reads_of k t p = reads_sum (fields k) p (every_rule k t)

-- "A location of the last field names its covering rule of least number"
abbrev pub tree_of : Kind → Table → Tree Rule
tree_of k t = tree (least number_of (default_rule k t.action)) (fields k) (every_rule k t)

-- the cells that the table takes
abbrev pub cells_of : Kind → Table → ℕ
cells_of k t = cells (tree_of k t)

-- the packet has one value for each field, and none above its top
abbrev pub packet_right : Kind → List ℕ → Bool
packet_right k p = eqb (length p) (length k.tops) && within_tops (fields k) p

-- the rule's range in field i (from 0) is from a to b
abbrev pub asks_for : Rule → ℕ → ℕ → ℕ → Bool
asks_for r i a b = eqb (get_or r.lows i 0) a && eqb (get_or r.highs i 0) b

-- the rule's range in field i is full
abbrev pub full_at : Kind → Rule → ℕ → Bool
full_at k r i = asks_for r i 0 (get_or k.tops i 0)

-- "A rule whose port ranges aren't both full must ask for 0 to 0 there; others choose": there is the field behind the two ports'
abbrev pub ports_right : Kind → Rule → Bool
ports_right k r = asks_for r (k.ports + 2) 0 0 || (full_at k r k.ports && full_at k r (k.ports + 1))

-- the rule has two ends for each field, "a low end [not] above its high end, [no] high end above the top", and it asks for ports only of packets that have them
abbrev pub rule_right : Kind → Rule → Bool
rule_right k r = eqb (length r.lows) (length k.tops) && (eqb (length r.highs) (length k.tops) && (ranges_right (fields k) r && ports_right k r))

-- the numbers of the rules rise, from b on, and none is above 65,534
abbrev pub rising_from : ℕ → List Rule → Bool
rising_from b [] = true
rising_from b (r ∷ rs) = leb b r.number && (leb r.number 65534 && rising_from (suc r.number) rs)

abbrev pub all_right : Kind → List Rule → Bool
all_right k [] = true
all_right k (r ∷ rs) = rule_right k r && all_right k rs

-- "a table within these limits": "A rule's number is 0 to 65,534"; "At most 64 rules besides the default, kept by rising number", and by P9 as many as the kind of store takes; right ranges
abbrev pub within : Kind → Table → Bool
within k t = leb (length t.rules) k.most && (rising_from 0 t.rules && all_right k t.rules)

-- a rule of this number stands in the table
abbrev pub stands : ℕ → List Rule → Bool
stands n [] = false
stands n (r ∷ rs) = eqb r.number n || stands n rs

-- the rule of this number; d where there is none
abbrev pub rule_at : Rule → ℕ → List Rule → Rule
rule_at d n [] = d
rule_at d n (r ∷ rs) = cond (eqb r.number n) r (rule_at d n rs)

-- a rule put in before the first whose number is not below its own
abbrev pub added : Rule → List Rule → List Rule
added r [] = r ∷ []
added r (s ∷ ss) = cond (ltb s.number r.number) (s ∷ added r ss) (r ∷ s ∷ ss)

-- the rules without that of the number n
abbrev pub removed : ℕ → List Rule → List Rule
removed n rs = keep (λ r. not (eqb r.number n)) rs

abbrev pub with_rule : Rule → Table → Table
with_rule r t = record { action = t.action; rules = added r t.rules }

abbrev pub without : ℕ → Table → Table
without n t = record { action = t.action; rules = removed n t.rules }

-- What insert says of a table that stands in a store of c cells, in document 01's order: 1, "rule number above 65,534"; 2, "a low end above its high end, or a high end above the top", and "also for a narrow port range with anything but 0 to 0 in field 6"; 3, "number already there"; 5, "64 rules stand already", by P9 "at the store's own limit"; 6, "the tree of the new table has more than c locations"; 0, done.
abbrev pub insert_answer : Kind → ℕ → Table → Rule → ℕ
insert_answer k c t r =
    cond (ltb 65534 r.number) 1
    (cond (not (rule_right k r)) 2
    (cond (stands r.number t.rules) 3
    (cond (leb k.most (length t.rules)) 5
    (cond (ltb c (cells_of k (with_rule r t))) 6 0))))

-- What delete says: 1, "rule number above 65,534"; 4, "number not there"; 0, done.
abbrev pub delete_answer : Table → ℕ → ℕ
delete_answer t n = cond (ltb 65534 n) 1 (cond (stands n t.rules) 0 4)

-- What read says: "read gives the default under 65,535 instead of 1".
abbrev pub read_answer : Table → ℕ → ℕ
read_answer t n = cond (eqb n 65535) 0 (delete_answer t n)

-- the rule that read gives where its answer is 0
abbrev pub read_rule : Kind → Table → ℕ → Rule
read_rule k t n = rule_at (default_rule k t.action) n t.rules

-- What is said of a place in the order of rising numbers, counted from 1: 4 where there are fewer rules; 0, done.
abbrev pub place_answer : Table → ℕ → ℕ
place_answer t p = cond (eqb p 0 || ltb (length t.rules) p) 4 0

-- the rule at a place, where the answer is 0
abbrev pub place_rule : Kind → Table → ℕ → Rule
place_rule k t p = get_or t.rules (p - 1) (default_rule k t.action)
