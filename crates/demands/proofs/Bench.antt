-- The starred list holds of the words. Each call is followed by the laws of a store; what is computed is the answer for a table, never a store's words.
-- Assumes nothing.
use mathlib.Core.Path.{◌≡◌, refl, ap, ap₂, ◌∙◌, subst⁻¹}
use mathlib.Core.Bool.{true, cond}
use mathlib.Core.List.{List, [], ◌∷◌, map}
use Prim.Native.Nat.{ℕ, ◌≤◌}
use native.Mathlib.Omega.{arith}
use lib.Dec.{ltb}
use lib.ListN.{length}
use borrow.Author.Tests.{le-ltb}
use Rattle.model.specs.Bench.{rule10, rule20, rows, starred, packet, fresh as alone, both as rules}
use Rattle.model.specs.Table.{Kind, Rule, Table, start_action, packet_right, with_rule, without, insert_answer, delete_answer, cells_of}
use Rattle.model.specs.Ipv4.{ipv4, large, kind_in, ipv4_shaped}
use Rattle.layout.specs.Store.{size, cells_in, table_of, start_answer, start_words, insert_says, insert_words, delete_says, delete_words, cells_gives}
use Rattle.layout.proofs.Sound.{room_is}
use Rattle.lookup.specs.declared.Found.{Found}
use Rattle.lookup.specs.Walk.{lookup_values}
use Rattle.demands.specs.Calls.{Passes, field_count, lookup}
use Rattle.prefix.specs.Prefix.{refuses, range_of}
use Rattle.demands.specs.Bench.{words_both, as_packet, answer_for, WithRoom, WithoutRoom, StarredCalls}
use Rattle.demands.proofs.KindNamed.{by_pass}
use Rattle.demands.proofs.Held.{in_use, start_leaves, insert_leaves, delete_leaves}
use Rattle.demands.proofs.Decided.{found_of, lookup_is}

-- the words are a store of c cells that passes and holds t
pub record Is (ws : List ℕ) (c : ℕ) (t : Table) : Type 0 where
  pub pass : Passes large ws
  pub table : table_of large ws ≡ t
  pub cells_left : cells_in ws ≡ c

started : (lent : List ℕ) (c : ℕ) → field_count large ≤ c → c ≤ 65536 → size large c ≤ length lent → start_answer large lent c ≡ 0
started lent c a b l = rw (room_is large c lent (record { least = a; most = b; long = l }))

is_fresh : (lent : List ℕ) (c a : ℕ) → start_answer large lent c ≡ 0 → Is (start_words large lent c a) c (record { action = a; rules = [] })
is_fresh lent c a h = let l = start_leaves large (ipv4_shaped true) lent c a h in record { pass = l.pass; table = l.table; cells_left = l.cells_left }

module _ {ws : List ℕ} {c : ℕ} {t : Table} (s : Is ws c t) where
  here : kind_in ws ≡ large
  here = ap ipv4 (by_pass true ws s.pass)

  says_large : (r : Rule) → insert_says large ws r ≡ insert_answer large c t r
  says_large r = rw s.pass (ap₂ (λ (n : ℕ) (x : Table). insert_answer large n x r) s.cells_left s.table)

  says : (r : Rule) → insert_says (kind_in ws) ws r ≡ insert_answer large c t r
  says r = ap (λ (k : Kind). insert_says k ws r) here ∙ says_large r

  is_with : (r : Rule) → insert_answer large c t r ≡ 0 → Is (insert_words (kind_in ws) ws r) c (with_rule r t)
  is_with r h =
      let l = insert_leaves large (ipv4_shaped true) ws r (says_large r ∙ h) in
      subst⁻¹ (λ (k : Kind). Is (insert_words k ws r) c (with_rule r t)) here (record { pass = l.pass; table = l.table ∙ ap (with_rule r) s.table; cells_left = l.cells_left ∙ s.cells_left })

  goes_large : (n : ℕ) → delete_says large ws n ≡ delete_answer t n
  goes_large n = rw s.pass (ap (λ (x : Table). delete_answer x n) s.table)

  goes_says : (n : ℕ) → delete_says (kind_in ws) ws n ≡ delete_answer t n
  goes_says n = ap (λ (k : Kind). delete_says k ws n) here ∙ goes_large n

  is_without : (n : ℕ) → delete_answer t n ≡ 0 → Is (delete_words (kind_in ws) ws n) c (without n t)
  is_without n h =
      let l = delete_leaves large (ipv4_shaped true) ws n (goes_large n ∙ h) in
      subst⁻¹ (λ (k : Kind). Is (delete_words k ws n) c (without n t)) here (record { pass = l.pass; table = l.table ∙ ap (without n) s.table; cells_left = l.cells_left ∙ s.cells_left })

  counts : cells_gives (kind_in ws) ws ≡ cells_of large t
  counts = ap (λ (k : Kind). cells_gives k ws) here ∙ in_use large (ipv4_shaped true) ws t s.pass s.table

-- THE LOOKUPS of the rows, none of whose values is above its top
pub each_row : (f g : List ℕ → Found) → ((vs : List ℕ) → packet_right large vs ≡ true → f vs ≡ g vs) → map (λ r. f r.asked) rows ≡ map (λ r. g r.asked) rows
each_row f g h = λ i. h (packet 167772165 17 5004) refl i
    ∷ h (packet 167772165 6 80) refl i
    ∷ h (packet 167772165 17 5010) refl i
    ∷ h (packet 167772360 6 80) refl i
    ∷ h (packet 167772360 17 5010) refl i
    ∷ h (packet 167772416 6 80) refl i
    ∷ h (packet 167772159 6 80) refl i
    ∷ []

-- in a store that holds both rules
all_rows : {ws : List ℕ} {c : ℕ} → Is ws c rules → map (λ r. lookup ws (as_packet r.asked)) rows ≡ map answer_for rows
all_rows {ws} s = each_row (lookup_values (kind_in ws) ws) (found_of large rules) (λ vs v. ap (λ (k : Kind). lookup_values k ws vs) (here s) ∙ lookup_is large (ipv4_shaped true) ws s.pass vs v ∙ ap (λ (x : Table). found_of large x vs) s.table) ∙ ap (map answer_for) starred.lookups

-- the last line of insert's answer
room : (c k : ℕ) → k ≤ c → ◌≡◌ {A = ℕ} (cond (ltb c k) 6 0) 0
room c k h = rw (le-ltb c k h)

pub is_both : (lent : List ℕ) (c : ℕ) → 54 ≤ c → c ≤ 65536 → size large c ≤ length lent → Is (words_both lent c) c rules
is_both lent c a b l = is_with (is_with (is_fresh lent c start_action (started lent c (omega arith) b l)) rule10 (room c 33 (omega arith))) rule20 (room c 54 a)

taken : (lent : List ℕ) (c : ℕ) → 54 ≤ c → c ≤ 65536 → size large c ≤ length lent → WithRoom lent c
taken lent c a b l =
    let h = started lent c (omega arith) b l in
    let s = is_fresh lent c start_action h in
    let r10 : insert_answer large c alone rule10 ≡ 0 = room c 33 (omega arith) in
    let r20 : insert_answer large c alone rule20 ≡ 0 = room c 18 (omega arith) in
    let s10 = is_with s rule10 r10 in
    let s20 = is_with s rule20 r20 in
    let q20 : insert_answer large c (with_rule rule10 alone) rule20 ≡ 0 = room c 54 a in
    let q10 : insert_answer large c (with_rule rule20 alone) rule10 ≡ 0 = room c 54 a in
    let sb = is_both lent c a b l in
    let sb' = is_with s20 rule10 q10 in
    record {
      start = h;
      first_10 = says s rule10 ∙ r10;
      first_20 = says s rule20 ∙ r20;
      then_20 = says s10 rule20 ∙ q20;
      then_10 = says s20 rule10 ∙ q10;
      goes = goes_says sb 20;
      lookups = all_rows sb;
      cells_20 = counts s20 ∙ starred.cells20;
      cells_10 = counts s10 ∙ starred.cells10;
      cells_both = counts sb ∙ starred.cells_both;
      cells_both' = counts sb' ∙ ap (cells_of large) starred.either_order ∙ starred.cells_both;
      cells_again = counts (is_without sb 20 refl) ∙ ap (cells_of large) starred.again ∙ starred.cells10;
    }

full : (lent : List ℕ) → size large 53 ≤ length lent → WithoutRoom lent
full lent l =
    let s = is_fresh lent 53 start_action (started lent 53 (omega arith) (omega arith) l) in
    record {
      first_10 = says s rule10;
      first_20 = says s rule20;
      then_20 = says (is_with s rule10 refl) rule20 ∙ starred.full_53;
      then_10 = says (is_with s rule20 refl) rule10 ∙ starred.full_53';
    }

pub bench : StarredCalls
unfolding refuses range_of
bench = record { taken = taken; full = full; prefix = refl; no_prefix = refl }
