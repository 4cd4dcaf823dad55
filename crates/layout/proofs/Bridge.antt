-- The tree in the cells is the table's own tree, with places for rules. So it takes the table's cells, and a walk of it reads what the rules say and finds the winner's place. The reason: the rows hold the rules by rising number, so the first place of a part of them is that of the least number.
-- Assumes nothing.
use mathlib.Core.Path.{◌≡◌, refl, sym, ap, ap₂, ◌∙◌, fun_ext}
use mathlib.Core.Logic.{◌⊎◌, inl, inr}
use mathlib.Core.Bool.{Bool, true, false, cond}
use mathlib.Core.List.{List, [], ◌∷◌, ◌++◌, map}
use mathlib.Core.Option
use mathlib.Core.Option.{Option, none, some, some-ne-none}
use Prim.Native.Nat.{ℕ, suc, ◌+◌, ◌*◌, ◌≤◌, ◌<◌}
use native.Mathlib.Omega.{arith}
use native.Mathlib.Numerals.{add-one}
use lib.ListN.{length}
use Rattle.model.specs.Lists.{In, keep, least}
use Rattle.model.specs.Rules.{covers, ends, names, chain, tree, cells, found, reads}
use Rattle.model.specs.Table.{Kind, Rule, Table, Shaped, every_rule, number_of, fields_from, default_rule, tree_of, cells_of, winner_of, reads_of, packet_right, rising_from, within, field_of}
use Rattle.model.proofs.Keep.{from_keep, from_append}
use Rattle.model.proofs.Sets.{least_first}
use Rattle.model.proofs.Limits.{rises, in_rising, from_within}
use Rattle.model.proofs.Decide.{finds, reads_right}
use Rattle.rows.specs.Rows.{low_in, high_in, field_at, fields_at, first_of, tree_at}
use Rattle.model.proofs.UpTo.{get_d_up_to}
use Rattle.table.specs.Rows.{rule_in, rows_text, places}
use Rattle.layout.specs.Named.{rename, stored}
use Rattle.layout.proofs.Named.{cells_rename, reads_rename, found_rename, chain_rename, map_keep, Alike, covers_map, ends_map, found_part}
use Rattle.layout.proofs.Words.{map_places, in_places, default_at}

-- each rule's number is at most the default's, and at most those behind it
abbrev Ordered : List Rule → Type 0
Ordered [] = Unit {0}
Ordered (r ∷ rs) = (r.number ≤ 65535) × ((s : Rule) → In s rs → r.number ≤ s.number) × Ordered rs

ordered_keep : (p : Rule → Bool) (rs : List Rule) → Ordered rs → Ordered (keep p rs)
ordered_keep p [] h = tt
ordered_keep p (r ∷ rs) h = go (p r) (ordered_keep p rs h.2)
  where
    go : (b : Bool) → Ordered (keep p rs) → Ordered (cond b (r ∷ keep p rs) (keep p rs))
    go true ih = (h.0, λ s m. h.1 s (from_keep p rs s m).0, ih)
    go false ih = ih

-- so the first of them is the one of least number
ordered_least : (k : Kind) (a : ℕ) (r : Rule) (rs : List Rule) → Ordered (r ∷ rs) → least number_of (default_rule k a) (r ∷ rs) ≡ r
ordered_least k a r rs h = least_first number_of (default_rule k a) r rs h.0 h.1

-- the rules of a table by rising number, and then the default
ordered_rising : (k : Kind) (a b : ℕ) (rs : List Rule) → rising_from b rs ≡ true → Ordered (rs ++ (default_rule k a ∷ []))
ordered_rising k a b [] h = (omega arith, λ s m. absurd m, tt)
ordered_rising k a b (r ∷ rs) h =
    let t = rises b r rs h in
    (omega (arith, t.1), λ s m. go s (from_append rs (default_rule k a ∷ []) s m), ordered_rising k a (suc r.number) rs t.2)
  where
    go : (s : Rule) → In s rs ⊎ In s (default_rule k a ∷ []) → r.number ≤ s.number
    go s (inl i) = omega (arith, (in_rising (suc r.number) rs (rises b r rs h).2 s i).0)
    go s (inr (inl e)) = omega (arith, ap number_of e, (rises b r rs h).1)
    go s (inr (inr z)) = absurd z

-- Any words whose rows at the places qs hold a table's rules, by rising number, the default's last.
module _ (k : Kind) (t : Table) (rows : List ℕ) (first : rule_in (length k.tops) rows 0 ≡ default_rule k t.action) where
  -- the rule of the row that begins at a word
  abbrev H : ℕ → Rule
  H q = rule_in (length k.tops) rows q

  -- what is named where the places qs are left
  named : (qs : List ℕ) → Ordered (map H qs) → H (first_of qs) ≡ least number_of (default_rule k t.action) (map H qs)
  named [] h = first
  named (q ∷ qs) h = sym (ordered_least k t.action (H q) (map H qs) h)

  -- a field of the rows reads the ends of the rule at each place
  alike : (i u q : ℕ) → i < length k.tops → Alike H (field_at rows i) (field_of i u) q
  unfolding field_at
  alike i u q l = record { low = sym (get_d_up_to (length k.tops) (λ f. low_in rows f q) i 0 l); high = sym (get_d_up_to (length k.tops) (λ f. high_in rows f q) i 0 l) }

  -- the trees over the fields from i on
  bridge_from : (ts : List ℕ) (i : ℕ) → i + length ts ≤ length k.tops → (qs : List ℕ) → Ordered (map H qs)
      → rename H (tree first_of (fields_at rows i (length ts)) qs) ≡ tree (least number_of (default_rule k t.action)) (fields_from i ts) (map H qs)
  bridge_from [] i l qs o = ap names (named qs o)
  bridge_from (u ∷ ts) i l qs o =
      let F = field_at rows i in
      let G = field_of i u in
      let a : (q : ℕ) → In q qs → Alike H F G q = λ q n. alike i u q (omega arith) in
      chain_rename H (λ e. tree first_of (fields_at rows (i + 1) (length ts)) (keep (covers F e) qs)) (ends F qs)
      ∙ ap₂ chain
      (fun_ext (λ e.
      let z = map_keep H (covers F e) (covers G e) qs (λ q n. covers_map H F G q e (a q n)) in
      rw (add-one i, ← z) (bridge_from ts (suc i) (omega arith) (keep (covers F e) qs) (rw z (ordered_keep (covers G e) (map H qs) o)))))
      (ends_map H F G qs a)

  pub bridge_any : (qs : List ℕ) → map (rule_in (length k.tops) rows) qs ≡ every_rule k t → rising_from 0 t.rules ≡ true → rename (rule_in (length k.tops) rows) (tree_at rows 0 (length k.tops) qs) ≡ tree_of k t
  unfolding tree_at
  bridge_any qs z up =
      bridge_from k.tops 0 (omega arith) qs (rw z (ordered_rising k t.action 0 t.rules up))
      ∙ ap (tree (least number_of (default_rule k t.action)) (fields_from 0 k.tops)) z

  -- so their tree takes the table's cells
  pub cells_any : (qs : List ℕ) → map (rule_in (length k.tops) rows) qs ≡ every_rule k t → rising_from 0 t.rules ≡ true → cells (tree_at rows 0 (length k.tops) qs) ≡ cells_of k t
  cells_any qs z up = sym (cells_rename H (tree_at rows 0 (length k.tops) qs)) ∙ ap cells (bridge_any qs z up)

-- A table within the limits of its kind.
module _ (k : Kind) (s : Shaped k) (t : Table) (right : within k t ≡ true) where
  -- THE BRIDGE: with the rule of each row for the word where it begins, the tree in the cells is the table's tree
  pub bridge : rename (rule_in (length k.tops) (rows_text k t)) (stored k t) ≡ tree_of k t
  unfolding stored
  bridge = bridge_any k t (rows_text k t) (default_at k s t right) (places k.width (length t.rules)) (map_places k s t right) (from_within k t right).rising

  -- so it takes the table's cells
  pub stored_cells : cells (stored k t) ≡ cells_of k t
  stored_cells = sym (cells_rename (rule_in (length k.tops) (rows_text k t)) (stored k t)) ∙ ap cells bridge

  -- and a walk of it for a packet within the tops reads as many as demand 3 says
  pub stored_reads : (p : List ℕ) → packet_right k p ≡ true → reads (stored k t) p ≡ reads_of k t p
  stored_reads p h = sym (reads_rename (rule_in (length k.tops) (rows_text k t)) (stored k t) p) ∙ ap (λ s. reads s p) bridge ∙ reads_right k t p h

-- every place that a walk finds is one of the table's
place_in : (k : Kind) (t : Table) (p : List ℕ) (q : ℕ) → found (stored k t) p ≡ some q → (i : ℕ) × (i ≤ length t.rules) × (q ≡ k.width * i)
unfolding stored tree_at
place_in k t p q e =
    let n = length t.rules in
    let z = found_part first_of (fields_at (rows_text k t) 0 (length k.tops)) (places k.width n) p q e in
    first (keep z.0 (places k.width n)) q z.1 (λ x m. in_places k.width n x (from_keep z.0 (places k.width n) x m).0)
  where
    first : (qs : List ℕ) (x : ℕ) → first_of qs ≡ x → ((y : ℕ) → In y qs → (i : ℕ) × (i ≤ length t.rules) × (y ≡ k.width * i)) → (i : ℕ) × (i ≤ length t.rules) × (x ≡ k.width * i)
    first [] x e h = (0, omega arith, omega arith)
    first (y ∷ qs) x e h = let w = h y (inl refl) in (w.0, w.1, sym e ∙ w.2)

-- what a walk for the packet p finds in the tree of the cells: where the row of the rule that decides begins
pub record Decided (k : Kind) (t : Table) (p : List ℕ) : Type 0 where
  pub place : ℕ
  pub row : ℕ
  pub found_there : found (stored k t) p ≡ some place
  pub begins : place ≡ k.width * row
  pub in_table : row ≤ length t.rules
  pub winner : rule_in (length k.tops) (rows_text k t) place ≡ winner_of k t p

pub stored_finds : (k : Kind) (s : Shaped k) (t : Table) (right : within k t ≡ true) (p : List ℕ) → packet_right k p ≡ true → Decided k t p
stored_finds k s t right p h = go (found (stored k t) p) refl (sym (found_rename H' (stored k t) p) ∙ ap (λ s. found s p) (bridge k s t right) ∙ finds k t p h)
  where
    H' : ℕ → Rule
    H' q = rule_in (length k.tops) (rows_text k t) q

    go : (o : Option ℕ) → found (stored k t) p ≡ o → Option.map H' (found (stored k t) p) ≡ some (winner_of k t p) → Decided k t p
    go none e w = absurd (some-ne-none (winner_of k t p) (cc))
    go (some q) e w = let y = place_in k t p q e in record { place = q; row = y.0; found_there = e; begins = y.2; in_table = y.1; winner = (cc) }
