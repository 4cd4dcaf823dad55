-- Rules over any list of fields: the winner and the count of reads, which speak of the rules alone, and the tree with its walk.
-- Assumes nothing: these are definitions.
use Rattle.std.specs.Prelude.{Bool, true, cond, ◌&&◌, List, [], ◌∷◌, map, ℕ, zero, suc, ◌+◌, ltb, leb}
use Rattle.std.proofs.Math.Option.{Option, none, some}
use Rattle.model.specs.Lists.{keep, insert, below, sum, least}

-- A field: the greatest value that it can have, a packet's value in it, and the low and the high end of a rule's range in it.
pub record Field (P A : Type 0) : Type 0 where
  pub top : ℕ
  pub value : P → ℕ
  pub low : A → ℕ
  pub high : A → ℕ

-- the rule's range in the field holds v
abbrev pub covers : {P A : Type 0} → Field P A → ℕ → A → Bool
covers f v r = leb (f.low r) v && leb v (f.high r)

-- the ranges of the rule all hold the packet's values
abbrev pub holds : {P A : Type 0} → List (Field P A) → P → A → Bool
holds [] p r = true
holds (f ∷ fs) p r = covers f (f.value p) r && holds fs p r

-- "the rule with the least number among those whose [..] ranges all hold the packet's [..] values"
abbrev pub winner : {P A : Type 0} → (A → ℕ) → A → List (Field P A) → P → List A → A
winner number d fs p rs = least number d (keep (holds fs p) rs)

-- the low end less 1, put into a rising list of ends, "if its low end is above 0"
abbrev pub insert_before : ℕ → List ℕ → List ℕ
insert_before zero es = es
insert_before (suc l) es = insert l es

-- "The ends of a rule in a field are its high end and, if its low end is above 0, the low end less 1. Equal ends count once": those of all rules, rising
abbrev pub ends : {P A : Type 0} → Field P A → List A → List ℕ
ends f [] = []
ends f (r ∷ rs) = insert (f.high r) (insert_before (f.low r) (ends f rs))

-- for each field "one plus the distinct ends, [..] below the packet's value, taken over the rules that hold its earlier values"
abbrev pub reads_each : {P A : Type 0} → List (Field P A) → P → List A → List ℕ
reads_each [] p rs = []
reads_each (f ∷ fs) p rs = suc (below (f.value p) (ends f rs)) ∷ reads_each fs p (keep (covers f (f.value p)) rs)

-- the same "summed over the fields"
abbrev pub reads_sum : {P A : Type 0} → List (Field P A) → P → List A → ℕ
reads_sum fs p rs = sum (reads_each fs p rs)

-- A tree: what stands where no field is left, or a chain of locations, from the lowest end up. `loc e u t` is a location with the end e, the tree u under it, and then the rest t of its chain.
pub data Tree (B : Type 0) : Type 0 where
  names : B → Tree B
  stop : Tree B
  loc : ℕ → Tree B → Tree B → Tree B

-- the chain of the ends, with u e under the end e
abbrev pub chain : {B : Type 0} → (ℕ → Tree B) → List ℕ → Tree B
chain u [] = stop
chain u (e ∷ es) = loc e (u e) (chain u es)

-- "one location for each distinct end, in rising order, [..] Under a location stands the tree, over the next fields, of the rules that cover it"; g says what is named where the rules rs are left
abbrev pub tree : {P A B : Type 0} → (List A → B) → List (Field P A) → List A → Tree B
tree g [] rs = names (g rs)
tree g (f ∷ fs) rs = chain (λ e. tree g fs (keep (covers f e) rs)) (ends f rs)

-- "One location takes one cell", and what is named where no field is left takes as many as w says of it
abbrev pub cells_by : {B : Type 0} → (B → ℕ) → Tree B → ℕ
cells_by w (names b) = w b
cells_by w stop = 0
cells_by w (loc e u t) = suc (cells_by w u + cells_by w t)

-- what is named takes no cell of its own
abbrev pub weight : {B : Type 0} → B → ℕ
weight b = 0

-- the cells that a tree takes
abbrev pub cells : {B : Type 0} → Tree B → ℕ
cells t = cells_by weight t

-- what a walk of the tree finds for the values, one for each field: in a chain it passes the ends below the value, and goes down at the first other one
abbrev pub found : {B : Type 0} → Tree B → List ℕ → Option B
found (names b) vs = some b
found stop vs = none
found (loc e u t) [] = none
found (loc e u t) (v ∷ vs) = cond (ltb e v) (found t (v ∷ vs)) (found u vs)

-- the locations, and so the cells, that this walk looks at
abbrev pub reads : {B : Type 0} → Tree B → List ℕ → ℕ
reads (names b) vs = 0
reads stop vs = 0
reads (loc e u t) [] = 0
reads (loc e u t) (v ∷ vs) = suc (cond (ltb e v) (reads t (v ∷ vs)) (reads u vs))

-- the packet's values, in the order of the fields
abbrev pub values : {P A : Type 0} → List (Field P A) → P → List ℕ
values fs p = map (λ f. f.value p) fs

-- no value is above its field's top
abbrev pub within_tops : {P A : Type 0} → List (Field P A) → P → Bool
within_tops [] p = true
within_tops (f ∷ fs) p = leb (f.value p) f.top && within_tops fs p

-- "a low end above its high end, or a high end above the top" is what a rule must not have
abbrev pub ranges_right : {P A : Type 0} → List (Field P A) → A → Bool
ranges_right [] r = true
ranges_right (f ∷ fs) r = leb (f.low r) (f.high r) && (leb (f.high r) f.top && ranges_right fs r)
