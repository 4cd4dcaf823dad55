-- The worst packet of a table, by lookups alone: a lookup reads as many cells as the rules say.
-- Assumes nothing.
use mathlib.Core.Path.{◌≡◌, sym, ap, ◌∙◌}
use mathlib.Core.List.{List}
use Prim.Native.Nat.{ℕ, ◌≤◌}
use native.Mathlib.Omega.{arith}
use Rattle.model.specs.Table.{reads_of}
use Rattle.model.specs.Ipv4.{kind_in}
use Rattle.model.proofs.Tests.{by_test, never}
use Rattle.model.proofs.Decide.{reads_tight}
use Rattle.header.proofs.Facts.{within_tops_lem}
use Rattle.layout.specs.Store.{table_of, passes}
use Rattle.search.specs.Facts.{InTops}
use Rattle.search.proofs.Topped.{tops_right as in_tops_right, right_tops}
use Rattle.worst.specs.Worst.{worst_says}
use Rattle.worst.specs.Facts.{Told as Told-by-rules}
use Rattle.worst.proofs.Facts.{worsts}
use Rattle.lookup.specs.declared.Found.{Found}
use Rattle.lookup.specs.Walk.{lookup_values, lookup_packet}
use Rattle.demands.specs.Calls.{Passes, values_in, Bytes}
use Rattle.demands.specs.Demand1.{Refuses, refuses, goes_on, done}
use Rattle.demands.specs.Worst.{Told, Worst}
use Rattle.demands.proofs.KindNamed.{shaped_in}
use Rattle.demands.proofs.Packets.{tops_right, refused_by, readable_is, by_header}
use Rattle.demands.proofs.Decided.{found_of, lookup_is}

module _ (ws : List ℕ) (h : Passes (kind_in ws) ws) where
  rules : Told-by-rules (kind_in ws) ws
  rules = worsts.told (kind_in ws) (shaped_in ws) ws h

  looked : (vs : List ℕ) → InTops (kind_in ws) vs → lookup_values (kind_in ws) ws vs ≡ found_of (kind_in ws) (table_of (kind_in ws) ws) vs
  looked vs i = lookup_is (kind_in ws) (shaped_in ws) ws h vs (in_tops_right (kind_in ws) vs i)

  reads_are : (vs : List ℕ) → InTops (kind_in ws) vs → (lookup_values (kind_in ws) ws vs).reads ≡ reads_of (kind_in ws) (table_of (kind_in ws) ws) vs
  reads_are vs i = ap (λ (f : Found). f.reads) (looked vs i)

  no_more : (vs : List ℕ) → InTops (kind_in ws) vs → (lookup_values (kind_in ws) ws vs).reads ≤ (worst_says (kind_in ws) ws).reads
  no_more vs i = rw (reads_are vs i) (rules.no_more vs i)

  no_packet : (bytes : List ℕ) → Bytes bytes → (lookup_packet ws bytes).reads ≤ (worst_says (kind_in ws) ws).reads
  no_packet bytes b = by_header _ bytes
      (λ r u. rw (refused_by ws bytes r u) (omega arith))
      (λ p e. rw (readable_is ws bytes p e) (no_more (values_in p) (right_tops (kind_in ws) (values_in p) (tops_right p (within_tops_lem bytes p b e)))))

  told : Told ws
  told =
      let v = (worst_says (kind_in ws) ws).value in
      let i = rules.within in
      record {
        within = i;
        taken = (ap (λ (f : Found). f.answer) (looked v i), reads_are v i ∙ rules.takes);
        no_more = no_more;
        fewer = λ vs j l. rw (reads_are vs j) (rules.fewer vs j l);
        no_packet = no_packet;
        tight = omega (arith, rules.takes, reads_tight (kind_in ws) (table_of (kind_in ws) ws) v (in_tops_right (kind_in ws) v i));
      }

answer : (ws : List ℕ) → Refuses 9 (Passes (kind_in ws) ws → ⊥) done (worst_says (kind_in ws) ws).answer
answer ws = by_test (passes (kind_in ws) ws)
    (λ z. goes_on (λ n. n z) (worsts.told (kind_in ws) (shaped_in ws) ws z).answer)
    (λ z. let n : Passes (kind_in ws) ws → ⊥ = λ y. never (sym y ∙ z) in refuses n (worsts.refused (kind_in ws) ws n).answer)

pub worst : Worst
worst =
    record {
      answer = answer;
      refused = λ ws u. let q = worsts.refused (kind_in ws) ws (λ z. u (worsts.told (kind_in ws) (shaped_in ws) ws z).answer) in (q.reads, q.value);
      told = told;
    }
