-- Demand 3 holds. The reason: every store of a run passes, so its first words are the text of its table; and a table within the limits is given by the set of its rules.
-- Assumes nothing.
use mathlib.Core.Path.{◌≡◌, refl, sym, ap, ap₂, ◌∙◌}
use mathlib.Core.Bool.{Bool, true, cond}
use mathlib.Core.List.{List, [], ◌∷◌}
use Prim.Native.Nat.{ℕ, ◌+◌, ◌*◌, ◌≤◌, ◌<◌}
use native.Mathlib.Omega.{arith}
use lib.Dec.{eqb}
use lib.ListN.{length, take}
use borrow.Author.Tests.{eqb-true, eqb-false}
use Rattle.model.specs.Table.{Kind, Rule, Table, Shaped, packet_right, reads_of, cells_of}
use Rattle.model.specs.Ipv4.{ipv4, large, is_large, kind_in, ipv4_shaped}
use Rattle.model.proofs.Tests.{by_test}
use Rattle.model.proofs.Limits.{same_set}
use Rattle.model.proofs.Decide.{reads_each_lem, reads_most, reads_tight}
use Rattle.header.specs.declared.Packet.{Packet}
use Rattle.std.specs.Prelude.{Ok}
use Rattle.header.specs.Header.{header_of}
use Rattle.header.specs.Facts.{WithinTops}
use Rattle.header.proofs.Facts.{within_tops_lem}
use Rattle.layout.specs.Store.{size, text, cells_in, table_of, unless, start_words, insert_says, delete_says}
use Rattle.series.specs.Edits.{inserts, deletes, list_says, list_words}
use Rattle.lookup.specs.declared.Found.{Found}
use Rattle.lookup.specs.Walk.{lookup_values, lookup_packet}
use Rattle.demands.specs.Calls.{Passes, rules_in, every_in, field_count, values_in, Bytes, lookup}
use Rattle.demands.specs.Demand3.{Change, edit, list, changed, run, History, words_left, SameRules, Twins, Reads, Demand3}
use Rattle.demands.proofs.KindNamed.{shaped_in, by_pass, pass_in, within_large}
use Rattle.demands.proofs.Held.{Leaves, right, begins_with, refused_keeps, start_leaves, insert_leaves, delete_leaves, list_leaves}
use Rattle.lookup.proofs.Steps.{wrong_11}
use Rattle.demands.proofs.Packets.{tops_right, refused_by, readable_is, by_header}
use Rattle.demands.proofs.Decided.{found_of, lookup_is}
use Rattle.demands.proofs.Counted.{counts, counts_each}
use Rattle.demands.proofs.Tally.{tally_done, same_answer, same_left}

-- equal counts
as_many : {k : Kind} {rules : List Rule} {vs : List ℕ} {a b : ℕ} → a ≡ b → Reads k rules vs b → Reads k rules vs a
as_many e r = record { ends = r.ends; counted = r.counted; distinct = r.distinct; summed = e ∙ r.summed }

-- EVERY STORE OF A RUN passes, and has the kind and the cells that it had
abbrev On : List ℕ → List ℕ → Type 0
On ws after = Passes (kind_in after) after × (is_large after ≡ is_large ws) × (cells_in after ≡ cells_in ws)

on : (ws : List ℕ) (a : ℕ) (new : List ℕ) → (a ≡ 0 → (t : Table) × Leaves (kind_in ws) ws (unless a new ws) (cells_in ws) t) → Passes (kind_in ws) ws → On ws (unless a new ws)
on ws a new l h = by_test (eqb a 0)
    (λ e. let z = (l (eqb-true a 0 e)).1 in (pass_in (is_large ws) _ z.pass, by_pass (is_large ws) _ z.pass, z.cells_left))
    (λ e. rw (refused_keeps a new ws (eqb-false a 0 e)) (h, refl, refl))

pub change_on : (ws : List ℕ) (e : Change) → Passes (kind_in ws) ws → On ws (changed ws e)
unfolding list_words
change_on ws (edit (inserts r)) h = on ws (insert_says (kind_in ws) ws r) _ (λ a. (_, insert_leaves (kind_in ws) (shaped_in ws) ws r a)) h
change_on ws (edit (deletes n)) h = on ws (delete_says (kind_in ws) ws n) _ (λ a. (_, delete_leaves (kind_in ws) (shaped_in ws) ws n a)) h
change_on ws (list es) h = on ws (list_says (kind_in ws) ws es).answer _ (λ a. (_, list_leaves (kind_in ws) (shaped_in ws) ws es a)) h

run_on : (ws : List ℕ) (es : List Change) → Passes (kind_in ws) ws → On ws (run ws es)
run_on ws [] h = (h, refl, refl)
run_on ws (e ∷ es) h =
    let z = change_on ws e h in
    let y = run_on (changed ws e) es z.0 in
    (y.0, y.1 ∙ z.1, y.2 ∙ z.2)

pub stays : (g : History) → Passes (kind_in (words_left g)) (words_left g) × (is_large (words_left g) ≡ g.large) × (cells_in (words_left g) ≡ g.cells)
stays g =
    let b = g.large in
    let l = start_leaves (ipv4 b) (ipv4_shaped b) g.lent g.cells g.action g.accepted in
    let ws = start_words (ipv4 b) g.lent g.cells g.action in
    let z = run_on ws g.edits (pass_in b ws l.pass) in
    (z.0, z.1 ∙ by_pass b ws l.pass, z.2 ∙ l.cells_left)

-- TWO STORES that pass, of either kind
module _ (ws vs : List ℕ) (g : Passes (kind_in ws) ws) (h : Passes (kind_in vs) vs) where
  pub same_table : SameRules ws vs → table_of (kind_in ws) ws ≡ table_of (kind_in vs) vs
  same_table e =
      let t = table_of (kind_in ws) ws in
      let u = table_of (kind_in vs) vs in
      let rules = same_set large t u (within_large (is_large ws) t (right (kind_in ws) (shaped_in ws) ws g)) (within_large (is_large vs) u (right (kind_in vs) (shaped_in vs) vs h)) e.rules in
      λ i. record { action = e.default i; rules = rules i }

  module _ (e : table_of (kind_in ws) ws ≡ table_of (kind_in vs) vs) where
    same_lookup : (xs : List ℕ) → lookup_values (kind_in ws) ws xs ≡ lookup_values (kind_in vs) vs xs
    same_lookup xs = by_test (packet_right large xs)
        (λ v. lookup_is (kind_in ws) (shaped_in ws) ws g xs v ∙ ap (λ (t : Table). found_of large t xs) e ∙ sym (lookup_is (kind_in vs) (shaped_in vs) vs h xs v))
        (λ v. wrong_11 (kind_in ws) ws xs v ∙ sym (wrong_11 (kind_in vs) vs xs v))

    same_packet : (bytes : List ℕ) → lookup_packet ws bytes ≡ lookup_packet vs bytes
    same_packet bytes = by_header (lookup_packet ws bytes ≡ lookup_packet vs bytes) bytes
        (λ r u. refused_by ws bytes r u ∙ sym (refused_by vs bytes r u))
        (λ p u. readable_is ws bytes p u ∙ same_lookup (values_in p) ∙ sym (readable_is vs bytes p u))

    pub twins : Twins ws vs
    twins =
        record {
          by_values = λ p. same_lookup (values_in p);
          by_packet = same_packet;
          by_tally = λ bytes t. same_answer ws vs bytes t (same_packet bytes);
          same_tallies = λ bytes t. same_left ws vs bytes t (same_packet bytes);
          cells_answer = ap (λ (b : Bool). cond b 0 9) (g ∙ sym h);
          cells = ap₂ (λ (b : Bool) (t : Table). cond b (cells_of large t) 0) (g ∙ sym h) e;
        }

    -- of one kind and one number of cells
    pub same_front : (a b : Bool) (c d : ℕ) → is_large ws ≡ a → is_large vs ≡ b → cells_in ws ≡ c → cells_in vs ≡ d → a ≡ b → c ≡ d → take (size (ipv4 a) c) ws ≡ take (size (ipv4 b) d) vs
    same_front a b c d p q x y l m =
        ap₂ (λ (z : Bool) n. take (size (ipv4 z) n) ws) (sym p) (sym x)
        ∙ begins_with (kind_in ws) (shaped_in ws) ws g
        ∙ ap (λ (z : Bool). text (ipv4 z) (cells_in ws) (table_of (kind_in ws) ws)) (p ∙ l ∙ sym q)
        ∙ ap₂ (text (kind_in vs)) (x ∙ m ∙ sym y) e
        ∙ sym (begins_with (kind_in vs) (shaped_in vs) vs h)
        ∙ ap₂ (λ (z : Bool) n. take (size (ipv4 z) n) vs) q y

pub alike_table : (g h : History) → SameRules (words_left g) (words_left h) → table_of (kind_in (words_left g)) (words_left g) ≡ table_of (kind_in (words_left h)) (words_left h)
alike_table g h = same_table (words_left g) (words_left h) (stays g).0 (stays h).0

same_words : (g h : History) → SameRules (words_left g) (words_left h) → g.large ≡ h.large → g.cells ≡ h.cells → take (size (ipv4 g.large) g.cells) (words_left g) ≡ take (size (ipv4 h.large) h.cells) (words_left h)
same_words g h e = same_front (words_left g) (words_left h) (stays g).0 (stays h).0 (alike_table g h e) g.large h.large g.cells h.cells (stays g).1 (stays h).1 (stays g).2 (stays h).2

module _ (k : Kind) (s : Shaped k) where
  -- THE COUNT, and its bounds
  module _ (ws : List ℕ) (h : Passes k ws) (vs : List ℕ) (v : packet_right k vs ≡ true) where
    reads_are : (lookup_values k ws vs).reads ≡ reads_of k (table_of k ws) vs
    reads_are = ap (λ (f : Found). f.reads) (lookup_is k s ws h vs v)

    count : Reads k (every_in k ws) vs (lookup_values k ws vs).reads
    count = as_many reads_are (counts k vs (every_in k ws))

    most_each : (i : ℕ) → i < field_count k → 1 + length (count.ends i) ≤ 2 * length (rules_in k ws) + 1
    unfolding count as_many
    most_each i l = reads_each_lem k (table_of k ws) vs v _ (counts_each k vs (every_in k ws) i l)

    most : (lookup_values k ws vs).reads ≤ field_count k * (2 * length (rules_in k ws) + 1)
    most = rw reads_are (reads_most k (table_of k ws) vs v)

    tight : (lookup_values k ws vs).reads ≤ (field_count k + 1) * length (rules_in k ws) + field_count k
    tight = rw reads_are (omega (arith, reads_tight k (table_of k ws) vs v))

-- THE LIBRARY'S LOOKUPS
record_count : (ws : List ℕ) → Passes (kind_in ws) ws → (p : Packet) → WithinTops p → Reads (kind_in ws) (every_in (kind_in ws) ws) (values_in p) (lookup ws p).reads
record_count ws h p t = count (kind_in ws) (shaped_in ws) ws h (values_in p) (tops_right p t)

packet_count : (ws : List ℕ) → Passes (kind_in ws) ws → (bytes : List ℕ) → Bytes bytes → (p : Packet) → header_of bytes ≡ Ok p → Reads (kind_in ws) (every_in (kind_in ws) ws) (values_in p) (lookup_packet ws bytes).reads
packet_count ws h bytes b p e = rw (readable_is ws bytes p e) (record_count ws h p (within_tops_lem bytes p b e))

record_each : (ws : List ℕ) (h : Passes (kind_in ws) ws) (p : Packet) (t : WithinTops p) → (i : ℕ) → i < field_count (kind_in ws) → 1 + length ((record_count ws h p t).ends i) ≤ 2 * length (rules_in (kind_in ws) ws) + 1
unfolding record_count
record_each ws h p t = most_each (kind_in ws) (shaped_in ws) ws h (values_in p) (tops_right p t)

packet_tight : (ws : List ℕ) → Passes (kind_in ws) ws → (bytes : List ℕ) → Bytes bytes → (lookup_packet ws bytes).reads ≤ (field_count (kind_in ws) + 1) * length (rules_in (kind_in ws) ws) + field_count (kind_in ws)
packet_tight ws h bytes b = by_header _ bytes
    (λ r u. rw (refused_by ws bytes r u) (omega arith))
    (λ p e. rw (readable_is ws bytes p e) (tight (kind_in ws) (shaped_in ws) ws h (values_in p) (tops_right p (within_tops_lem bytes p b e))))

pub demand3 : Demand3
demand3 =
    record {
      alike = λ g h e. twins (words_left g) (words_left h) (stays g).0 (stays h).0 (alike_table g h e);
      same_words = same_words;
      passes = λ g. let z = stays g in (z.0, ap ipv4 z.1, z.2);
      count = record_count;
      count_packet = packet_count;
      count_tally = λ ws h bytes b p e t q. rw (tally_done ws bytes t q) (packet_count ws h bytes b p e);
      most_each = record_each;
      most = λ ws h p t. most (kind_in ws) (shaped_in ws) ws h (values_in p) (tops_right p t);
      tight = λ ws h p t. tight (kind_in ws) (shaped_in ws) ws h (values_in p) (tops_right p t);
      tight_packet = packet_tight;
    }
