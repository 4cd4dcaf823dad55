-- A record that is kept stands in the lent bytes: it fits the room for the longest one.
-- Assumes nothing.
use Rattle.std.proofs.Common.{◌≡◌, ℕ, ◌+◌, ◌≤◌, List, true, length, take, drop, sym, ◌∙◌, ap, arith, le-ltb, take_at}
use Rattle.octets.specs.Octets.{word}
use Rattle.lookup.specs.Walk.{lookup_packet}
use Rattle.writing.specs.declared.Written.{Written}
use Rattle.writing.specs.Writing.{record_bytes, add_says, add_leaves}
use Rattle.keeping.specs.Keep.{gives}
use Rattle.keeping.proofs.put.Goals as goal

written : (out row : List ℕ) (s f o : ℕ) (w : Written) (x : List ℕ) → length row ≤ 16384 → length out ≡ 16400 → w ≡ add_says out row → x ≡ add_leaves out s f o row → (w.bytes ≤ 16400) × (take w.bytes x ≡ record_bytes s f o row)
written out row s f o w x h k d e =
    let m : 16 + length row ≤ length out = omega arith in
    rw (d, e, le-ltb _ _ h, le-ltb _ _ m)
    (omega arith, take_at (record_bytes s f o row) (drop (length (record_bytes s f o row)) out) (16 + length row) (omega arith))

pub returns : goal.returns
returns c =
    let a = c.args in
    let kept : gives a.action (lookup_packet a.words.now a.«data».now) ≡ true = ap (gives a.action) (sym c.lookup_packet.ensures) ∙ sym c.gave.ensures ∙ c.if-not-gave.false in
    let seconds : c.word_at-seconds.result ≡ word a.order a.head.now 0 = c.word_at-seconds.ensures in
    let fraction : c.word_at-fraction.result ≡ word a.order a.head.now 4 = c.word_at-fraction.ensures in
    let original : c.word_at-original.result ≡ word a.order a.head.now 12 = c.word_at-original.ensures in
    rw (kept, ← seconds, ← fraction, ← original)
    (written a.out.now a.«data».now _ _ _ _ _ c.requires.0 c.requires.1 c.add-written.ensures.0 c.add-written.ensures.1)
