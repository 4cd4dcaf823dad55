-- What `header_of` comes to, in the plain facts of specs/Facts.antt: when a header is unreadable and when a packet is cut short, that the values of a readable one lie within their fields, and that bytes past the total length don't matter.
-- Assumes nothing.
use Rattle.std.specs.Prelude.{ℕ, ◌+◌, ◌≤◌, ◌<◌, ◌≡◌, refl, List, ◌++◌, ◌↔◌, Bool, true, false, length, take, Result, Ok, Err}
use Rattle.std.proofs.Common.{sym, ◌∙◌, inl, inr, ⊎_elim, true≢false, arith, ltb-true, ltb-false, length-append, length-take-le, get_or-take}
use Rattle.std.proofs.Math.Path.{ap}
use mathlib.Core.Logic.Iff
use Rattle.std.proofs.Math.Bool.{cond}
use Rattle.std.proofs.lemmas.Bool.{false≢true}
use Rattle.std.proofs.Math.ListN.{get_or-append}
use Rattle.octets.specs.declared.Order.TheVariants.{Big}
use Rattle.octets.specs.Octets.{byte, half}
use Rattle.header.specs.declared.Packet.{Packet}
use Rattle.refusal.specs.declared.Refusal.{Refusal}
use Rattle.refusal.specs.declared.Refusal.TheVariants.{Unreadable, Cut}
use Rattle.refusal.specs.Refusals.{answer_of}
use Rattle.header.specs.Header.{version, header_words, header_length, total_length, has_ports, unreadable, slice_below_total, packet_of, header_of}
use Rattle.header.specs.Says.{says_lt, says_eq, says_not, says_or, says_and}
use Rattle.header.specs.Facts.{Ported, Faulty, Sound, Readable, CutShort, WithinTops}

pub ported : (s : List ℕ) → (has_ports s ≡ true) ↔ Ported s
unfolding has_ports
ported s = says_and _ _ (says_eq _ _) (says_or _ _ (says_eq _ _) (says_eq _ _))

pub faulty : (s : List ℕ) → (unreadable s ≡ true) ↔ Faulty s
unfolding unreadable
faulty s =
    says_or _ _ (says_lt _ _)
    (says_or _ _ (says_not _ (says_eq _ _))
    (says_or _ _ (says_lt _ _)
    (says_or _ _ (says_lt _ _) (says_and _ _ (ported s) (says_lt _ _)))))

at_least : (m n : ℕ) → (m < n → ⊥) → n ≤ m
at_least m n h = omega arith

pub sound_where : (s : List ℕ) → (Faulty s → ⊥) → Sound s
sound_where s clean =
    let below : version s < 4 → ⊥ = λ h. clean (inr (inl (λ q. omega arith))) in
    let above : 4 < version s → ⊥ = λ h. clean (inr (inl (λ q. omega arith))) in
    record {
      long = at_least _ _ (λ h. clean (inl h));
      four = omega arith;
      words = at_least _ _ (λ h. clean (inr (inr (inl h))));
      total = at_least _ _ (λ h. clean (inr (inr (inr (inl h)))));
      room = λ p. at_least _ _ (λ h. clean (inr (inr (inr (inr (p, h))))));
    }

-- The ports of a readable header lie within the slice
pub ports_within : (s : List ℕ) → Readable s → has_ports s ≡ true → header_length s + 4 ≤ length s
ports_within s r e = omega (arith, r.sound.room ((ported s).0 e))

pub not_faulty : (s : List ℕ) → Sound s → Faulty s → ⊥
not_faulty s r =
    ⊎_elim (λ h. omega arith)
    (⊎_elim (λ h. h r.four)
    (⊎_elim (λ h. omega arith)
    (⊎_elim (λ h. omega arith) (λ h. omega (arith, r.room h.0, h.1)))))

-- THE THREE CASES: `header_of` is the refusal `Unreadable` where one of the five holds, `Cut` where none does and the slice is shorter than the total length, and else the packet's values
pub data Told (s : List ℕ) : Result Packet Refusal → Type 0 where
  told_unreadable : Faulty s → Told s (Err Unreadable)
  told_cut : (Faulty s → ⊥) → length s < total_length s → Told s (Err Cut)
  told_values : Readable s → Told s (Ok (packet_of s))

pub told : (s : List ℕ) → Told s (header_of s)
unfolding header_of
told s = first (unreadable s) refl
  where
    then : (Faulty s → ⊥) → (b : Bool) → slice_below_total s ≡ b → Told s (cond b (Err Cut) (Ok (packet_of s)))
    then clean true e = told_cut clean (ltb-true (length s) (total_length s) e)
    then clean false e = told_values (record { sound = sound_where s clean; whole = ltb-false (length s) (total_length s) e })

    first : (b : Bool) → unreadable s ≡ b → Told s (cond b (Err Unreadable) (cond (slice_below_total s) (Err Cut) (Ok (packet_of s))))
    first true e = told_unreadable ((faulty s).0 e)
    first false e = then (λ r. true≢false (sym ((faulty s).1 r) ∙ e)) (slice_below_total s) refl

module _ (s : List ℕ) where
  pub unreadable_when : (header_of s ≡ Err Unreadable) ↔ Faulty s
  unreadable_when = go (header_of s) (told s)
    where
      go : (h : Result Packet Refusal) → Told s h → (h ≡ Err Unreadable) ↔ Faulty s
      go h (told_unreadable r) = (λ e. r, λ r. refl)
      go h (told_cut clean l) = (λ e. cc, λ r. absurd (clean r))
      go h (told_values r) = (λ e. cc, λ f. absurd (not_faulty s r.sound f))

  pub cut_when : (header_of s ≡ Err Cut) ↔ CutShort s
  cut_when = go (header_of s) (told s)
    where
      go : (h : Result Packet Refusal) → Told s h → (h ≡ Err Cut) ↔ CutShort s
      go h (told_unreadable r) = (λ e. cc, λ c. absurd (c.0 r))
      go h (told_cut clean l) = (λ e. (clean, l), λ c. refl)
      go h (told_values r) = (λ e. cc, λ c. absurd (omega (arith, r.whole, c.1)))

  -- the same by numbers: 7, and 14
  pub answer_7_when : (answer_of (header_of s) ≡ 7) ↔ Faulty s
  answer_7_when = go (header_of s) (told s)
    where
      go : (h : Result Packet Refusal) → Told s h → (answer_of h ≡ 7) ↔ Faulty s
      go h (told_unreadable r) = (λ e. r, λ r. refl)
      go h (told_cut clean l) = (λ e. absurd (omega arith), λ r. absurd (clean r))
      go h (told_values r) = (λ e. absurd (omega arith), λ f. absurd (not_faulty s r.sound f))

  pub answer_14_when : (answer_of (header_of s) ≡ 14) ↔ CutShort s
  answer_14_when = go (header_of s) (told s)
    where
      go : (h : Result Packet Refusal) → Told s h → (answer_of h ≡ 14) ↔ CutShort s
      go h (told_unreadable r) = (λ e. absurd (omega arith), λ c. absurd (c.0 r))
      go h (told_cut clean l) = (λ e. (clean, l), λ c. refl)
      go h (told_values r) = (λ e. absurd (omega arith), λ c. absurd (omega (arith, r.whole, c.1)))

  pub values_when : Readable s → header_of s ≡ Ok (packet_of s)
  values_when r = go (header_of s) (told s)
    where
      go : (h : Result Packet Refusal) → Told s h → h ≡ Ok (packet_of s)
      go h (told_unreadable f) = absurd (not_faulty s r.sound f)
      go h (told_cut clean l) = absurd (omega (arith, r.whole))
      go h (told_values q) = refl

  pub values_are : (p : Packet) → header_of s ≡ Ok p → Readable s × (p ≡ packet_of s)
  values_are p = go (header_of s) (told s)
    where
      go : (h : Result Packet Refusal) → Told s h → h ≡ Ok p → Readable s × (p ≡ packet_of s)
      go h (told_unreadable f) e = cc
      go h (told_cut clean l) e = cc
      go h (told_values r) e = (r, cc)

port_top : (b : Bool) (x : ℕ) → x ≤ 65_535 → cond b x 0 ≤ 65_535
port_top true x h = h
port_top false x h = omega arith

mark_top : (b : Bool) → cond b 0 1 ≤ 1
mark_top true = omega arith
mark_top false = omega arith

packet_tops : (s : List ℕ) → ((i : ℕ) → byte s i < 256) → WithinTops (packet_of s)
unfolding packet_of
packet_tops s h =
    let at = header_length s in
    record {
      destination_top = omega (arith, h 16, h 17, h 18, h 19);
      source_top = omega (arith, h 12, h 13, h 14, h 15);
      protocol_top = omega (arith, h 9);
      destination_port_top = port_top (has_ports s) _ (omega (arith, h (at + 2), h (at + 2 + 1)));
      source_port_top = port_top (has_ports s) _ (omega (arith, h at, h (at + 1)));
      portless_top = mark_top (has_ports s);
    }

pub within_tops_lem : (s : List ℕ) (p : Packet) → ((i : ℕ) → byte s i < 256) → header_of s ≡ Ok p → WithinTops p
within_tops_lem s p h e = rw (values_are s p e).1 (packet_tops s h)

-- The mark of a packet without ports: 0 exactly where the packet carries ports, and 1 where it does not; both ports are 0 then
module _ (s : List ℕ) (p : Packet) (e : header_of s ≡ Ok p) where
  marked : (b : Bool) (x : ℕ) → (◌≡◌ {A = ℕ} (cond b 0 1) 0 ↔ (b ≡ true)) × (◌≡◌ {A = ℕ} (cond b 0 1) 1 → ◌≡◌ {A = ℕ} (cond b x 0) 0)
  marked true x = ((λ q. refl, λ q. refl), λ q. absurd (omega (arith, q)))
  marked false x = ((λ q. absurd (omega (arith, q)), λ q. absurd (false≢true q)), λ q. refl)

  pub portless_when : (p.portless ≡ 0) ↔ Ported s
  unfolding packet_of
  portless_when = rw (values_are s p e).1 (Iff.trans (marked (has_ports s) 0).0 (ported s))

  pub portless_ports : p.portless ≡ 1 → (p.destination_port ≡ 0) × (p.source_port ≡ 0)
  unfolding packet_of
  portless_ports = rw (values_are s p e).1 (λ q. ((marked (has_ports s) _).1 q, (marked (has_ports s) _).1 q))

-- "Bytes past the total length are ignored": a slice t that agrees with a readable s up to s's total length, and goes on as it likes, has the same values
same_cond : (b : Bool) (x y : ℕ) → (b ≡ true → x ≡ y) → cond b x 0 ≡ cond b y 0
same_cond true x y h = h refl
same_cond false x y h = refl

-- Two slices that begin with the same 20 bytes of a sound header
module _ (s t : List ℕ) (r : Sound s) (long : 20 ≤ length t) (first : (i : ℕ) → i < 20 → byte t i ≡ byte s i) where
  same_words : header_words t ≡ header_words s
  same_words = rw (first 0 (omega arith))

  same_total : total_length t ≡ total_length s
  same_total = omega (arith, first 2 (omega arith), first 3 (omega arith))

  same_ported : has_ports t ≡ has_ports s
  unfolding has_ports
  same_ported = simp (first 6 (omega arith), first 7 (omega arith), first 9 (omega arith))

  same_sound : Sound t
  same_sound =
      record {
        long = long;
        four = omega (arith, first 0 (omega arith), r.four);
        words = omega (arith, same_words, r.words);
        total = omega (arith, same_words, same_total, r.total);
        room = λ p. omega (arith, r.room ((ported s).0 (sym same_ported ∙ (ported t).1 p)), same_words, same_total);
      }

module _ (s t : List ℕ) (r : Readable s) (long : total_length s ≤ length t) (same : (i : ℕ) → i < total_length s → byte t i ≡ byte s i) where
  first : (i : ℕ) → i < 20 → byte t i ≡ byte s i
  first i h = same i (omega (arith, r.sound.words, r.sound.total))

  enough : 20 ≤ length t
  enough = omega (arith, r.sound.words, r.sound.total)

  same_half : (at : ℕ) → at + 1 < total_length s → half Big t at ≡ half Big s at
  same_half at h = omega (arith, same at (omega arith), same (at + 1) h)

  alike_ports : has_ports t ≡ has_ports s
  alike_ports = same_ported s t r.sound enough first

  same_port : (at : ℕ) → at ≤ header_length s + 2 → cond (has_ports t) (half Big t at) 0 ≡ cond (has_ports s) (half Big s at) 0
  same_port at h = rw alike_ports (same_cond (has_ports s) _ _ (λ e. same_half at (omega (arith, r.sound.room ((ported s).0 e)))))

  same_packet : packet_of t ≡ packet_of s
  unfolding packet_of
  same_packet =
      let n : 20 ≤ total_length s = omega (arith, r.sound.words, r.sound.total) in
      cc (
        first 9 (omega arith),
        same_half 12 (omega arith),
        same_half 14 (omega arith),
        same_half 16 (omega arith),
        same_half 18 (omega arith),
        same_words s t r.sound enough first,
        same_port (header_length s) (omega arith),
        same_port (header_length s + 2) (omega arith),
        ap {B = ℕ} (λ b. cond b 0 1) alike_ports,
      )

  pub same_values : header_of t ≡ header_of s
  same_values =
      let whole : total_length t ≤ length t = omega (arith, same_total s t r.sound enough first) in
      values_when t (record { sound = same_sound s t r.sound enough first; whole = whole }) ∙ ap Ok same_packet ∙ sym (values_when s r)

pub past_total : (s t : List ℕ) (p : Packet) → header_of s ≡ Ok p → header_of (take (total_length s) s ++ t) ≡ Ok p
past_total s t p e =
    let r = (values_are s p e).0 in
    let front = take (total_length s) s in
    let n : length front ≡ total_length s = length-take-le _ _ r.whole in
    same_values s (front ++ t) r (omega (arith, length-append front t))
    (λ i h. get_or-append front t 0 i (omega arith) ∙ get_or-take _ s i 0 h)
    ∙ e

-- "Where only the slice being shorter than the total length stands in the way": with as many bytes more as are missing, whatever they are, the packet can be read
pub completed : (s t : List ℕ) → header_of s ≡ Err Cut → total_length s ≤ length (s ++ t) → header_of (s ++ t) ≡ Ok (packet_of (s ++ t))
completed s t e n =
    let r = sound_where s ((cut_when s).0 e).0 in
    let l : 20 ≤ length (s ++ t) = omega (arith, length-append s t, r.long) in
    let first : (i : ℕ) → i < 20 → byte (s ++ t) i ≡ byte s i = λ i h. get_or-append s t 0 i (omega (arith, r.long)) in
    values_when (s ++ t) (record { sound = same_sound s (s ++ t) r l first; whole = omega (arith, same_total s (s ++ t) r l first) })
