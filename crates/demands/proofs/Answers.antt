-- What is said of the answer of any lookup, over a store's words or an image's: by values 11, then 9, or else 0 with few reads; by a packet 7 or 14 where its header gives no values. A refusal has zeros.
-- Assumes nothing.
use mathlib.Core.Path.{◌≡◌, refl, ap}
use mathlib.Core.Logic.{◌⊎◌, ⊎_elim, ◌≢◌}
use mathlib.Core.Bool.{true, false}
use mathlib.Core.List.{List}
use Prim.Native.Nat.{ℕ, ◌≤◌, ◌<◌}
use native.Mathlib.Omega.{arith}
use lib.ListN.{length}
use Rattle.model.specs.Table.{Kind, packet_right}
use Rattle.model.proofs.Tests.{by_test}
use Rattle.header.specs.declared.Packet.{Packet}
use Rattle.std.specs.Prelude.{Result, Ok, Err}
use Rattle.refusal.specs.declared.Refusal.{Refusal}
use Rattle.refusal.specs.declared.Refusal.TheVariants.{Unreadable, Cut}
use Rattle.refusal.specs.Refusals.{number_of}
use Rattle.header.specs.Header.{total_length, packet_of, header_of}
use Rattle.header.specs.Facts.{Faulty, WithinTops}
use Rattle.header.proofs.Facts.{Told, told_unreadable, told_cut, told_values, told, not_faulty, within_tops_lem}
use Rattle.lookup.specs.declared.Found.{Found}
use Rattle.lookup.specs.Walk.{refused}
use Rattle.demands.specs.Calls.{field_count, AboveTop, Bytes}
use Rattle.demands.specs.Demand1.{Refuses, refuses, goes_on, done, OnlyAnswer}
use Rattle.demands.proofs.Fields.{not_above, one_above}
use Rattle.demands.proofs.Packets.{by_header}

abbrev answer_in : Found → ℕ
answer_in f = f.answer

refused_zeros : (a : ℕ) → OnlyAnswer (refused a)
refused_zeros a = record { rule = refl; action = refl; reads = refl }

-- BY VALUES: what is found of right values; 9 is for the reasons U alone, and no lookup reads more than `most`
pub record Answers (k : Kind) (vs : List ℕ) (U : Type 0) (most : ℕ) (inside found : Found) : Type 0 where
  pub right : packet_right k vs ≡ true → found ≡ inside
  pub wrong : packet_right k vs ≡ false → found ≡ refused 11
  pub nine_or_done : ((inside ≡ refused 9) × U) ⊎ ((inside.answer ≡ 0) × (inside.reads ≤ most))
  pub nine : U → inside ≡ refused 9

module _ {k : Kind} {vs : List ℕ} {U : Type 0} {most : ℕ} {inside found : Found} (a : Answers k vs U most inside found) where
  nine_line : Refuses 9 U done inside.answer
  nine_line = ⊎_elim
      (λ e. refuses e.1 (ap answer_in e.0))
      (λ e. goes_on (λ u. omega (arith, ap answer_in (a.nine u), e.0)) e.0)
      a.nine_or_done

  pub lookup_lines : length vs ≡ field_count k → Refuses 11 (AboveTop k vs) (Refuses 9 U done) found.answer
  lookup_lines n = by_test (packet_right k vs)
      (λ v. rw (a.right v) (goes_on (not_above k vs v) nine_line))
      (λ v. rw (a.wrong v) (refuses (one_above k vs n v) refl))

  pub right_lines : packet_right k vs ≡ true → Refuses 9 U done found.answer
  right_lines v = rw (a.right v) nine_line

  -- what is said of a refusal, with zeros, and of an answer 0 with few reads
  by_answer : (X : Found → Type 0) → ((n : ℕ) → X (refused n)) → ((f : Found) → f.answer ≡ 0 → f.reads ≤ most → X f) → X found
  by_answer X z d = by_test (packet_right k vs)
      (λ v. rw (a.right v) (⊎_elim (λ e. rw e.0 (z 9)) (λ e. d inside e.0 e.1) a.nine_or_done))
      (λ v. rw (a.wrong v) (z 11))

  pub zeros : found.answer ≢ 0 → OnlyAnswer found
  zeros = by_answer (λ f. f.answer ≢ 0 → OnlyAnswer f) (λ n h. refused_zeros n) (λ f e r h. absurd (h e))

  pub few_reads : found.reads ≤ most
  few_reads = by_answer (λ f. f.reads ≤ most) (λ n. omega arith) (λ f e r. r)

-- BY A PACKET: the number of the header's refusal where it gives no values, and else the lookup of its values
pub record ByHeader (one : Packet → Found) (bytes : List ℕ) (found : Found) : Type 0 where
  pub unread : (r : Refusal) → header_of bytes ≡ Err r → found ≡ refused (number_of r)
  pub read : (p : Packet) → header_of bytes ≡ Ok p → found ≡ one p

module _ {one : Packet → Found} {bytes : List ℕ} {found : Found} (b : ByHeader one bytes found) where
  -- what is said of every refusal, and of the lookup of each record, is said of the lookup by a packet
  pub by_packet : (X : Found → Type 0) → ((a : ℕ) → X (refused a)) → ((p : Packet) → X (one p)) → X found
  by_packet X u v = by_header (X found) bytes (λ r e. rw (b.unread r e) (u (number_of r))) (λ p e. rw (b.read p e) (v p))

  pub packet_zeros : ((p : Packet) → (one p).answer ≢ 0 → OnlyAnswer (one p)) → found.answer ≢ 0 → OnlyAnswer found
  packet_zeros z = by_packet (λ f. f.answer ≢ 0 → OnlyAnswer f) (λ a n. refused_zeros a) z

  pub packet_reads : (most : ℕ) → ((p : Packet) → (one p).reads ≤ most) → found.reads ≤ most
  packet_reads most r = by_packet (λ f. f.reads ≤ most) (λ a. omega arith) r

  -- 7, 14, and then what is said of the answer for the values that the header gives
  pub packet_lines : (L : Packet → ℕ → Type 0) → ((p : Packet) → WithinTops p → L p (one p).answer) → Bytes bytes
      → Refuses 7 (Faulty bytes) (Refuses 14 (length bytes < total_length bytes) (λ answer. (p : Packet) × (header_of bytes ≡ Ok p) × L p answer)) found.answer
  packet_lines L l y = go (header_of bytes) (told bytes) refl
    where
      go : (h : Result Packet Refusal) → Told bytes h → header_of bytes ≡ h → Refuses 7 (Faulty bytes) (Refuses 14 (length bytes < total_length bytes) (λ answer. (p : Packet) × (header_of bytes ≡ Ok p) × L p answer)) found.answer
      go h (told_unreadable f) e = refuses f (ap answer_in (b.unread Unreadable e))
      go h (told_cut clean c) e = goes_on clean (refuses c (ap answer_in (b.unread Cut e)))
      go h (told_values r) e =
          let p = packet_of bytes in
          goes_on (not_faulty bytes r.sound) (goes_on (λ c. omega (arith, r.whole, c)) (p, e, rw (b.read p e) (l p (within_tops_lem bytes p y e))))
